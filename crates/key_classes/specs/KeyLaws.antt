-- Two keys are the same exactly where the test says so, so the test is an equivalence and the same keys are fed alike.
use Rattle.std.proofs.Common.{◌≡◌, Bool, true, false, List, ap, sym, ◌∙◌}
use Rattle.std.specs.Cmp.{IsEquivalence}
use Rattle.sql_types.specs.declared.value.Value.{Value}
use Rattle.sql_types.specs.SameValue.{same_values}
use Rattle.sql_types.proofs.SameLaws.{same_values_decides}
use Rattle.key_classes.specs.Fed.{fed_values}

pub told : (xs ys : List Value) → same_values xs ys ≡ true → xs ≡ ys
told xs ys = (same_values_decides xs ys).0

pub itself : (xs : List Value) → same_values xs xs ≡ true
itself xs = (same_values_decides xs xs).1 (λ _. xs)

turned : (xs ys : List Value) (a b : Bool) → same_values xs ys ≡ a → same_values ys xs ≡ b → same_values xs ys ≡ same_values ys xs
turned xs ys true b e f = ap (λ (z : List Value). same_values z ys) (told xs ys e) ∙ ap (same_values ys) (sym (told xs ys e))
turned xs ys false true e f = ap (λ (z : List Value). same_values xs z) (told ys xs f) ∙ ap (λ (z : List Value). same_values z xs) (sym (told ys xs f))
turned xs ys false false e f = e ∙ sym f

pub same_values_equiv : IsEquivalence same_values
same_values_equiv = record {
  refl = itself;
  symm = λ xs ys. turned xs ys (same_values xs ys) (same_values ys xs) (λ _. same_values xs ys) (λ _. same_values ys xs);
  congr = λ xs ys zs e. ap (λ (z : List Value). same_values z zs) (told xs ys e);
}

pub fed_alike : (xs ys : List Value) → same_values xs ys ≡ true → fed_values xs ≡ fed_values ys
fed_alike xs ys e = ap fed_values (told xs ys e)
