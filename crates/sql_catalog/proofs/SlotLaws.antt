-- What a list of slots that hold entries says of these entries.
use Rattle.std.proofs.Common.{◌≡◌, ◌+◌, ℕ, zero, suc, Bool, true, false, if◌then◌else◌, ◌||◌, not, cond, List, [], ◌∷◌, ◌++◌, length, position, slice_get, Option, Some, None, option_and_then, nat_lt, refl, ap, sym, subst, ◌∙◌}
use Rattle.std.proofs.lemmas.Option.{none-some, same_Some}
use Rattle.std.specs.List.{list_any, prefix_len, position_or_len}
use Rattle.indexmap.specs.IndexSet.{insert_key}
use Rattle.sql_catalog.specs.declared.slot.Slot.{Slot}
use Rattle.sql_catalog.specs.declared.slot.Slot.TheVariants.{Held, Sought}
use Rattle.sql_catalog.specs.Slots.{held, IsHeld, AllHeld}

module _ {T : Type 0} where
  pub length-held : (slots : List (Slot T)) → AllHeld slots → length (held slots) ≡ length slots
  length-held [] h = refl
  length-held (Held entry ∷ slots) h = ap suc (length-held slots h.1)
  length-held (Sought name is_function ∷ slots) h = absurd h.0

  pub prefix_len-held : (test : Slot T → Bool) (slots : List (Slot T)) → AllHeld slots → prefix_len test slots ≡ prefix_len (λ entry. test (Held entry)) (held slots)
  prefix_len-held test [] h = refl
  prefix_len-held test (Held entry ∷ slots) h = ap (λ n. cond (test (Held entry)) (1 + n) 0) (prefix_len-held test slots h.1)
  prefix_len-held test (Sought name is_function ∷ slots) h = absurd h.0

  -- the first entry that passes has the place of the first slot that does
  pub position-held : (test : Slot T → Bool) (slots : List (Slot T)) → AllHeld slots → position test slots ≡ position (λ entry. test (Held entry)) (held slots)
  position-held test slots h =
      ap (λ n. cond (nat_lt n (length slots)) (Some n) None) (prefix_len-held (λ slot. not (test slot)) slots h)
      ∙ ap (λ n. cond (nat_lt (position_or_len (λ entry. test (Held entry)) (held slots)) n) (Some (position_or_len (λ entry. test (Held entry)) (held slots))) None) (sym (length-held slots h))

  pub list_any-held : (test : Slot T → Bool) (slots : List (Slot T)) → AllHeld slots → list_any test slots ≡ list_any (λ entry. test (Held entry)) (held slots)
  list_any-held test [] h = refl
  list_any-held test (Held entry ∷ slots) h = ap (λ b. test (Held entry) || b) (list_any-held test slots h.1)
  list_any-held test (Sought name is_function ∷ slots) h = absurd h.0

  pub held-push : (slots : List (Slot T)) (entry : T) → held (slots ++ Held entry ∷ []) ≡ held slots ++ entry ∷ []
  held-push [] entry = refl
  held-push (Held first ∷ slots) entry = ap (λ entries. first ∷ entries) (held-push slots entry)
  held-push (Sought name is_function ∷ slots) entry = held-push slots entry

  pub AllHeld-push : (slots : List (Slot T)) (entry : T) → AllHeld slots → AllHeld (slots ++ Held entry ∷ [])
  AllHeld-push [] entry h = (tt, tt)
  AllHeld-push (slot ∷ slots) entry h = (h.0, AllHeld-push slots entry h.1)

  -- what a slot holds
  abbrev pub holding : Slot T → Option T
  holding (Held entry) = Some entry
  holding (Sought name is_function) = None

  -- an entry has the place of its slot
  pub slice_get-held : (slots : List (Slot T)) (i : ℕ) → AllHeld slots → slice_get (held slots) i ≡ option_and_then holding (slice_get slots i)
  slice_get-held [] i h = refl
  slice_get-held (Held entry ∷ slots) zero h = refl
  slice_get-held (Held entry ∷ slots) (suc i) h = slice_get-held slots i h.1
  slice_get-held (Sought name is_function ∷ slots) i h = absurd h.0

  -- nothing that is sought is there
  pub IsHeld-slice_get : (slots : List (Slot T)) (i : ℕ) (slot : Slot T) → AllHeld slots → slice_get slots i ≡ Some slot → IsHeld slot
  IsHeld-slice_get [] i slot h at = absurd (none-some slot at)
  IsHeld-slice_get (first ∷ slots) zero slot h at = subst IsHeld (same_Some first slot at) h.0
  IsHeld-slice_get (first ∷ slots) (suc i) slot h at = IsHeld-slice_get slots i slot h.1 at

  -- a new entry goes last
  pub insert_key-new : (same : Slot T → Slot T → Bool) (slots : List (Slot T)) (entry : T) → list_any (same (Held entry)) slots ≡ false → insert_key same slots (Held entry) ≡ slots ++ Held entry ∷ []
  insert_key-new same slots entry absent = ap (λ b. if b then slots else slots ++ Held entry ∷ []) absent

pub false_from_added : (there : Bool) → true ≡ not there → there ≡ false
false_from_added true e = e
false_from_added false e = refl

pub true_from_refused : (there : Bool) → false ≡ not there → there ≡ true
true_from_refused true e = refl
true_from_refused false e = e
