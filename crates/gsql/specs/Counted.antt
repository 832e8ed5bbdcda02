-- What the inputs' count of faults says of an answer.
use Rattle.std.specs.Prelude.{◌≡◌, ℕ, ◌≤◌, Bool, true, Result, Ok, Err}
use Rattle.gsql_io.specs.Outside.{Rose}
use Rattle.gsql.specs.declared.stop.Stop.{Stop}
use Rattle.gsql.specs.declared.stop.Stop.TheVariants.{BadTable, Unread, OtherForm, Limit, ReadFault, OutOfMemory}

-- The count is as it was, but where a file couldn't be read: there it rose, and the file that was begun last is broken.
abbrev pub Counted : {A : Type 0} → ℕ → ℕ → Bool → Result A Stop → Type 0
Counted before after broken (Ok answer) = after ≡ before
Counted before after broken (Err (Unread place)) = after ≡ before
Counted before after broken (Err OtherForm) = after ≡ before
Counted before after broken (Err (BadTable row field)) = after ≡ before
Counted before after broken (Err (Limit name)) = after ≡ before
Counted before after broken (Err (ReadFault file)) = Rose before after × (broken ≡ true)
Counted before after broken (Err OutOfMemory) = Unit {0}
