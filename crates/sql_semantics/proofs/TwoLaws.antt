-- Meanings that permit two outcomes and no other.
use Rattle.std.proofs.Common.{◌≡◌, ◌⊎◌, true, false, List, [], ◌∷◌, inl, inr, Ok, Err, refl, ap, subst}
use Rattle.sql_types.specs.declared.fault.FaultKind.{FaultKind}
use Rattle.sql_types.specs.declared.value.Value.{Value}
use Rattle.sql_types.specs.declared.value.Value.TheVariants as v
use Rattle.sql_types.specs.Logic.{Decided, all_valued, one_decides, one_of_faults}
use Rattle.sql_types.specs.Outcome.{Outcome, Meaning, ◌>>=◌, goes_on, ends, Gather, all_give, one_faults}
use Rattle.sql_semantics.specs.Environments.{Row}
use Rattle.sql_semantics.proofs.OnlyLaws.{Only, same_value, same_fault, no_value, no_fault, only_row}
use Rattle.sql_forms.specs.Conditions.{Tried, a_fault, a_value}
use Rattle.sql_forms.specs.Rows.{in_any_order}

pub record Two {A : Type 0} (m : Meaning A) (o p : Outcome A) : Type 0 where
  pub one : m o
  pub other : m p
  pub no_more : (q : Outcome A) → m q → (q ≡ o) ⊎ (q ≡ p)

decided_no_more : {m n : Meaning Value} {f : FaultKind} → Only m (Ok (v.Bool false)) → Only n (Err f) → (q : Outcome Value) → Decided false (m ∷ n ∷ []) q → (q ≡ Ok (v.Bool false)) ⊎ (q ≡ Err f)
decided_no_more first second q (all_valued [] each) = absurd each
decided_no_more first second q (all_valued (x ∷ []) each) = absurd each.1
decided_no_more first second q (all_valued (x ∷ y ∷ ys) each) = absurd (no_value (second.alone _ each.1.0))
decided_no_more first second q (one_decides some) = inl refl
decided_no_more first second q (one_of_faults (inl here)) = absurd (no_fault (first.alone _ here))
decided_no_more first second q (one_of_faults (inr (inl there))) = inr (ap Err (same_fault (second.alone _ there)))
decided_no_more first second q (one_of_faults (inr (inr none))) = absurd none

-- FALSE and a fault under AND
pub false_or_fault : {m n : Meaning Value} {f : FaultKind} → Only m (Ok (v.Bool false)) → Only n (Err f) → Two (Decided false (m ∷ n ∷ [])) (Ok (v.Bool false)) (Err f)
false_or_fault first second = record {
  one = one_decides (inl first.given);
  other = one_of_faults (inr (inl second.given));
  no_more = decided_no_more first second;
}

-- ---- two outcomes, one after another

two_first_more : {A B : Type 0} {m : Meaning A} {k : A → Meaning B} {x : A} {o p : Outcome B} → Only m (Ok x) → Two (k x) o p → (q : Outcome B) → (m >>= k) q → (q ≡ o) ⊎ (q ≡ p)
two_first_more {k = k} first next q (goes_on given more) = next.no_more q (subst (λ y. k y q) (same_value (first.alone _ given)) more)
two_first_more first next q (ends given) = absurd (no_fault (first.alone _ given))

pub two_first : {A B : Type 0} {m : Meaning A} {k : A → Meaning B} {x : A} {o p : Outcome B} → Only m (Ok x) → Two (k x) o p → Two (m >>= k) o p
two_first first next = record { one = goes_on first.given next.one; other = goes_on first.given next.other; no_more = two_first_more first next }

two_goes_on : {A B : Type 0} (k : A → Meaning B) {x y z : A} {o p : Outcome B} → Only (k x) o → Only (k y) p → (◌≡◌ {A = Outcome A} (Ok z) (Ok x)) ⊎ (◌≡◌ {A = Outcome A} (Ok z) (Ok y)) → (q : Outcome B) → k z q → (q ≡ o) ⊎ (q ≡ p)
two_goes_on k first second (inl same) q more = inl (first.alone q (subst (λ u. k u q) (same_value same) more))
two_goes_on k first second (inr same) q more = inr (second.alone q (subst (λ u. k u q) (same_value same) more))

two_ends : {A : Type 0} {x y : A} {f : FaultKind} → (◌≡◌ {A = Outcome A} (Err f) (Ok x)) ⊎ (◌≡◌ {A = Outcome A} (Err f) (Ok y)) → ⊥
two_ends (inl same) = no_fault same
two_ends (inr same) = no_fault same

two_then_more : {A B : Type 0} {m : Meaning A} {k : A → Meaning B} {x y : A} {o p : Outcome B} → Two m (Ok x) (Ok y) → Only (k x) o → Only (k y) p → (q : Outcome B) → (m >>= k) q → (q ≡ o) ⊎ (q ≡ p)
two_then_more {k = k} first left right q (goes_on given more) = two_goes_on k left right (first.no_more _ given) q more
two_then_more first left right q (ends given) = absurd (two_ends (first.no_more _ given))

pub two_then : {A B : Type 0} {m : Meaning A} {k : A → Meaning B} {x y : A} {o p : Outcome B} → Two m (Ok x) (Ok y) → Only (k x) o → Only (k y) p → Two (m >>= k) o p
two_then first left right = record { one = goes_on first.one left.given; other = goes_on first.other right.given; no_more = two_then_more first left right }

fault_goes_on : {A B : Type 0} (k : A → Meaning B) {x z : A} {o : Outcome B} {f : FaultKind} → Only (k x) o → (◌≡◌ {A = Outcome A} (Ok z) (Ok x)) ⊎ (◌≡◌ {A = Outcome A} (Ok z) (Err f)) → (q : Outcome B) → k z q → (q ≡ o) ⊎ (q ≡ Err f)
fault_goes_on k next (inl same) q more = inl (next.alone q (subst (λ u. k u q) (same_value same) more))
fault_goes_on k next (inr same) q more = absurd (no_value same)

fault_ends : {A B : Type 0} {x : A} {f g : FaultKind} → (◌≡◌ {A = Outcome A} (Err g) (Ok x)) ⊎ (◌≡◌ {A = Outcome A} (Err g) (Err f)) → ◌≡◌ {A = Outcome B} (Err g) (Err f)
fault_ends (inl same) = absurd (no_fault same)
fault_ends (inr same) = ap Err (same_fault same)

two_fault_more : {A B : Type 0} {m : Meaning A} {k : A → Meaning B} {x : A} {o : Outcome B} {f : FaultKind} → Two m (Ok x) (Err f) → Only (k x) o → (q : Outcome B) → (m >>= k) q → (q ≡ o) ⊎ (q ≡ Err f)
two_fault_more {k = k} first next q (goes_on given more) = fault_goes_on k next (first.no_more _ given) q more
two_fault_more first next q (ends given) = inr (fault_ends (first.no_more _ given))

pub two_fault : {A B : Type 0} {m : Meaning A} {k : A → Meaning B} {x : A} {o : Outcome B} {f : FaultKind} → Two m (Ok x) (Err f) → Only (k x) o → Two (m >>= k) o (Err f)
two_fault first next = record { one = goes_on first.one next.given; other = ends first.other; no_more = two_fault_more first next }

-- ---- one thing alone, and ISERROR of it

one_more : {A : Type 0} {m : Meaning A} {x y : A} → Two m (Ok x) (Ok y) → (q : Outcome (List A)) → Gather (m ∷ []) q → (q ≡ Ok (x ∷ [])) ⊎ (q ≡ Ok (y ∷ []))
one_more first q (all_give {values = []} each) = absurd each
one_more first q (all_give {values = z ∷ []} each) = beside (first.no_more _ each.0)
  where
    beside : {A : Type 0} {x y z : A} → (◌≡◌ {A = Outcome A} (Ok z) (Ok x)) ⊎ (◌≡◌ {A = Outcome A} (Ok z) (Ok y)) → (◌≡◌ {A = Outcome (List A)} (Ok (z ∷ [])) (Ok (x ∷ []))) ⊎ (◌≡◌ {A = Outcome (List A)} (Ok (z ∷ [])) (Ok (y ∷ [])))
    beside (inl same) = inl (ap (λ u. Ok (u ∷ [])) (same_value same))
    beside (inr same) = inr (ap (λ u. Ok (u ∷ [])) (same_value same))
one_more first q (all_give {values = z ∷ w ∷ zs} each) = absurd each.1
one_more first q (one_faults (inl here)) = absurd (two_ends (first.no_more _ here))
one_more first q (one_faults (inr none)) = absurd none

pub two_one : {A : Type 0} {m : Meaning A} {x y : A} → Two m (Ok x) (Ok y) → Two (Gather (m ∷ [])) (Ok (x ∷ [])) (Ok (y ∷ []))
two_one first = record { one = all_give (first.one, tt); other = all_give (first.other, tt); no_more = one_more first }

tried_more : {m : Meaning Value} (q : Outcome Value) → Tried m q → (q ≡ Ok (v.Bool false)) ⊎ (q ≡ Ok (v.Bool true))
tried_more q (a_value given) = inl refl
tried_more q (a_fault given) = inr refl

pub two_tried : {m : Meaning Value} {x : Value} {f : FaultKind} → Two m (Ok x) (Err f) → Two (Tried m) (Ok (v.Bool false)) (Ok (v.Bool true))
two_tried first = record { one = a_value first.one; other = a_fault first.other; no_more = tried_more }

-- ---- a CTE of two outcomes, and what reads it

either_taken : (rest : Outcome (List Row) → Meaning (List Row)) {r s taken : Outcome (List Row)} {a b : Row} → Only (rest r) (Ok (a ∷ [])) → Only (rest s) (Ok (b ∷ [])) → (taken ≡ r) ⊎ (taken ≡ s) →
    (o : Outcome (List Row)) → rest taken o → (o ≡ Ok (a ∷ [])) ⊎ (o ≡ Ok (b ∷ []))
either_taken rest left right (inl same) o more = inl (left.alone o (subst (λ t. rest t o) same more))
either_taken rest left right (inr same) o more = inr (right.alone o (subst (λ t. rest t o) same more))

either_row : {list : List Row} {a b : Row} → (◌≡◌ {A = Outcome (List Row)} (Ok list) (Ok (a ∷ []))) ⊎ (◌≡◌ {A = Outcome (List Row)} (Ok list) (Ok (b ∷ []))) → (q : Outcome (List Row)) → in_any_order list q →
    (q ≡ Ok (a ∷ [])) ⊎ (q ≡ Ok (b ∷ []))
either_row {a = a} (inl same) q ordered = inl ((only_row a).alone q (subst (λ l. in_any_order l q) (same_value same) ordered))
either_row {b = b} (inr same) q ordered = inr ((only_row b).alone q (subst (λ l. in_any_order l q) (same_value same) ordered))

cte_more : {m : Meaning (List Row)} {rest : Outcome (List Row) → Meaning (List Row)} {r s : Outcome (List Row)} {a b : Row} → Two m r s → Only (rest r) (Ok (a ∷ [])) → Only (rest s) (Ok (b ∷ [])) →
    (q : Outcome (List Row)) → ((λ o. (taken : Outcome (List Row)) × m taken × rest taken o) >>= in_any_order) q → (q ≡ Ok (a ∷ [])) ⊎ (q ≡ Ok (b ∷ []))
cte_more {rest = rest} first left right q (goes_on (taken, given, more) ordered) = either_row (either_taken rest left right (first.no_more taken given) _ more) q ordered
cte_more {rest = rest} first left right q (ends {fault = f} (taken, given, more)) = absurd (two_ends {f = f} (either_taken rest left right (first.no_more taken given) _ more))

pub cte_two : {m : Meaning (List Row)} {rest : Outcome (List Row) → Meaning (List Row)} {r s : Outcome (List Row)} {a b : Row} → Two m r s → Only (rest r) (Ok (a ∷ [])) → Only (rest s) (Ok (b ∷ [])) →
    Two ((λ o. (taken : Outcome (List Row)) × m taken × rest taken o) >>= in_any_order) (Ok (a ∷ [])) (Ok (b ∷ []))
cte_two {r = r} {s = s} {a = a} {b = b} first left right = record {
  one = goes_on (r, first.one, left.given) (only_row a).given;
  other = goes_on (s, first.other, right.given) (only_row b).given;
  no_more = cte_more first left right;
}
