-- Where no argument is left, and where the arguments of an open type begin.
use Rattle.std.proofs.Common.{◌≡◌, ℕ, suc, ◌<◌, true, List, [], ◌∷◌, ◌++◌, length, drop, get_or, None, refl, ap, sym, ◌∙◌, arith, drop-cons}
use Rattle.std.specs.Prelude.{Bool}
use Rattle.std.proofs.lemmas.Grind.{common_steps}
use Rattle.sql_types.specs.declared.sql_type.SqlType.{SqlType}
use Rattle.sql_coerce.specs.declared.arg.Arg.{Arg}
use Rattle.sql_builtins.specs.declared.table.Slot.{Slot}
use Rattle.sql_builtins.specs.Choices.{target_types, standing, first_element, is_array_of_element}
use Rattle.sql_builtins.specs.Steps.{at_end}
use Rattle.sql_builtins.proofs.BetterLaws.{standing-here}

pub first-end : (slots : List Slot) → None ≡ first_element (standing is_array_of_element slots [])
first-end [] = refl
first-end (s ∷ slots) = refl

pub targets-end : (common element : SqlType) (slots : List Slot) (targets : List SqlType) → targets ≡ targets ++ target_types common element slots []
targets-end common element [] targets = grind (arith, common_steps)
targets-end common element (s ∷ slots) targets = grind (arith, common_steps)

pub standing-at : (is : Slot → Bool) (slots : List Slot) (i : ℕ) (s : Slot) (arguments : List Arg) → i < length slots → is (get_or slots i s) ≡ true → at_end is (drop i slots) ≡ true → length (drop i slots) ≡ length arguments → arguments ≡ standing is (drop i slots) arguments
standing-at is slots i s arguments within it ends same =
    let e : drop i slots ≡ get_or slots i s ∷ drop (suc i) slots = drop-cons slots i s within in
    standing-here is (get_or slots i s) (drop (suc i) slots) arguments it (ap (at_end is) (sym e) ∙ ends) (ap length (sym e) ∙ same)
    ∙ ap (λ (xs : List Slot). standing is xs arguments) (sym e)
