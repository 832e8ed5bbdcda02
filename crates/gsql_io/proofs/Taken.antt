-- Bytes that were taken from what is left, or given to what was written.
use Rattle.std.proofs.Common.{◌≡◌, ℕ, List, [], Option, Some, None, IfNone, sym, append-nil}
use Rattle.gsql_io.specs.Whole.{TakesSome}

-- where nothing is left, all was taken
pub TakesSome-all : (content : Option (List ℕ)) → TakesSome content (Some [])
TakesSome-all None = ([], tt)
TakesSome-all (Some bytes) = (bytes, sym (append-nil bytes))

-- what isn't told stays so over two steps
pub untold-trans : (a b c : Option (List ℕ)) → IfNone a (b ≡ None) → IfNone b (c ≡ None) → IfNone a (c ≡ None)
untold-trans None None c first second = second
untold-trans None (Some bytes) c first second = cc
untold-trans (Some bytes) b c first second = tt
