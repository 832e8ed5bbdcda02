-- Places of which the last stands again and again.
use Rattle.std.proofs.Common.{◌≡◌, ℕ, suc, ◌+◌, ◌-◌, ◌≤◌, Bool, true, cond, List, [], ◌∷◌, ◌++◌, length, Some, None, refl, ap, sym, ◌∙◌, arith, append_assoc}
use Rattle.std.specs.Prelude.{replicate, nat_le, option_map, slice_get}
use Rattle.std.specs.List.{last_or}
use Rattle.std.proofs.lemmas.List.{replicate_more}
use Rattle.std.proofs.lemmas.Bool.Decides.{nat_tests}
use Rattle.sql_builtins.specs.declared.table.Slot.{Slot}
use Rattle.sql_builtins.specs.declared.table.Repeats.TheVariants as repeats
use Rattle.sql_builtins.specs.Choices.{places}

pub more_last : (slots items more : List Slot) (last : Slot) (n m : ℕ) → items ≡ slots ++ replicate n last → more ≡ items ++ last ∷ [] → m ≡ n + 1 → more ≡ slots ++ replicate m last
more_last slots items more last n m same pushed next =
    pushed ∙ ap (λ (xs : List Slot). xs ++ last ∷ []) same ∙ append_assoc slots (replicate n last) (last ∷ []) ∙ ap (λ (xs : List Slot). slots ++ xs) (replicate_more n last) ∙ ap (λ (k : ℕ). slots ++ replicate k last) (sym next)

last_or-get : (slots : List Slot) → last_or None slots ≡ slice_get slots (length slots - 1)
last_or-get [] = refl
last_or-get (s ∷ []) = refl
last_or-get (s ∷ t ∷ slots) =
    let e : suc (length slots) - 1 ≡ length slots = omega arith in
    let f : suc (suc (length slots)) - 1 ≡ suc (length slots) = omega arith in
    last_or-get (t ∷ slots) ∙ ap (slice_get (t ∷ slots)) e ∙ sym (ap (slice_get (s ∷ t ∷ slots)) f)

pub repeated_are : (takes items : List Slot) (last : Slot) (count : ℕ) → length takes ≤ count → Some last ≡ slice_get takes (length takes - 1) → items ≡ takes ++ replicate (count - length takes) last → Some items ≡ places repeats.LastRepeats takes count
repeated_are takes items last count within is same =
    let test : nat_le (length takes) count ≡ true = grind (arith, nat_tests) in
    let ends : last_or None takes ≡ Some last = last_or-get takes ∙ sym is in
    ap Some same
    ∙ sym (ap (λ (b : Bool). cond b (option_map (λ l. takes ++ replicate (count - length takes) l) (last_or None takes)) None) test
    ∙ ap (option_map (λ l. takes ++ replicate (count - length takes) l)) ends)
