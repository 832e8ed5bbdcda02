-- What an entry is found by.
use Rattle.std.specs.Prelude.{◌≡◌, ℕ, Bool, ◌&&◌, nat_eq, List, [], ◌∷◌}
use Rattle.std.specs.Bool.{beq}
use Rattle.std.specs.Cmp.Lexicographic.{pointwise}
use Rattle.std.specs.Ordering.{on, eq_of_both}
use Rattle.std.specs.Str.{str_to_ascii_lowercase}
use Rattle.sql_names.specs.Words.{same_name}
use Rattle.sql_catalog.specs.declared.slot.Slot.{Slot}
use Rattle.sql_catalog.specs.declared.slot.Slot.TheVariants.{Held, Sought}

module _ {T : Type 0} (called : T → List ℕ) (sort : T → Bool) where
  -- the name that is held or sought
  abbrev pub slot_name : Slot T → List ℕ
  slot_name (Held entry) = called entry
  slot_name (Sought name is_function) = name.now

  -- whether a function is held or sought
  abbrev pub slot_sort : Slot T → Bool
  slot_sort (Held entry) = sort entry
  slot_sort (Sought name is_function) = is_function

  -- the name in lower case
  abbrev pub slot_letters : Slot T → List ℕ
  slot_letters slot = str_to_ascii_lowercase (slot_name slot)

  -- two slots have the same sort and the same name
  abbrev pub same_slot : Slot T → Slot T → Bool
  same_slot = eq_of_both (on slot_sort beq) (on slot_letters (pointwise nat_eq))

  -- the entry is of the sort that is sought, and has the name
  abbrev pub goes_by : List ℕ → Bool → T → Bool
  goes_by name is_function entry = beq is_function (sort entry) && same_name name (called entry)

module _ {T : Type 0} where
  -- the entries that are held, in order
  abbrev pub held : List (Slot T) → List T
  held [] = []
  held (Held entry ∷ slots) = entry ∷ held slots
  held (Sought name is_function ∷ slots) = held slots

  abbrev pub IsHeld : Slot T → Type 0
  IsHeld (Held entry) = Unit {0}
  IsHeld (Sought name is_function) = ⊥

  -- each of them holds an entry
  abbrev pub AllHeld : List (Slot T) → Type 0
  AllHeld [] = Unit {0}
  AllHeld (slot ∷ slots) = IsHeld slot × AllHeld slots
