-- The equality of values, one layer at a time.
use Rattle.std.proofs.Common.{◌≡◌, ℕ, ◌+◌, ◌<◌, ◌≤◌, Bool, true, false, Option, Some, None, map, List, [], ◌∷◌, length, drop, get_or, refl, sym, ap, ◌∙◌}
use Rattle.std.specs.Prelude.{slice_get, unwrap_or}
use Rattle.std.proofs.lemmas.List.{drop_more, drop_all}
use Rattle.sql_types.specs.declared.value.Value.{Value, out-Value, map-Value, fold_out-Value}
use Rattle.sql_types.specs.declared.value.Value.TheOpen as v
use Rattle.sql_types.specs.declared.value.Value.TheVariants.{Null}
use Rattle.sql_types.specs.declared.value.Value.TheViews.{outs-Null, outs-Bool}
use Rattle.sql_types.specs.Same.{equal, both_true, equal_fields, equal_layer}
use Rattle.sql_rules.specs.Meaning.{truth, is_true}
use Rattle.small_run.specs.Plans.{passes}
use Rattle.small_run.proofs.Rows.{index_at, index_past}

pub equal_out : (x y : Value) (layer : v.Value-F Value) → out-Value x ≡ layer → equal x y ≡ equal_layer (map-Value Value (Value → Option Bool) equal layer) (out-Value y)
unfolding equal
equal_out x y layer is =
    ap (λ (f : Value → Option Bool). f y) (fold_out-Value (Value → Option Bool) (λ x y. equal_layer x (out-Value y)) x)
    ∙ ap (λ (l : v.Value-F Value). equal_layer (map-Value Value (Value → Option Bool) equal l) (out-Value y)) is

-- ---- fields

both_assoc : (a b c : Option Bool) → both_true a (both_true b c) ≡ both_true (both_true a b) c
both_assoc (Some true) b c = refl
both_assoc (Some false) b c = refl
both_assoc None (Some true) (Some true) = refl
both_assoc None (Some true) (Some false) = refl
both_assoc None (Some true) None = refl
both_assoc None (Some false) c = refl
both_assoc None None (Some true) = refl
both_assoc None None (Some false) = refl
both_assoc None None None = refl

-- the fields from a place on
abbrev pub from_place : ℕ → List Value → List Value → Option Bool
from_place i xs ys = equal_fields (map equal (drop i xs)) (drop i ys)

-- one field more by AND
pub one_more : (xs ys : List Value) (i : ℕ) (x y : Value) (truth now : Option Bool) → i < length xs → i < length ys → x ≡ get_or xs i x → y ≡ get_or ys i y →
    now ≡ both_true truth (equal x y) → equal_fields (map equal xs) ys ≡ both_true truth (from_place i xs ys) → equal_fields (map equal xs) ys ≡ both_true now (from_place (i + 1) xs ys)
one_more xs ys i x y truth now p q at_x at_y is whole =
    whole
    ∙ ap (λ (r : Option Bool). both_true truth r)
    (ap (λ (zs : List Value). equal_fields (map equal zs) (drop i ys)) (drop_more xs i x p ∙ ap (λ (z : Value). z ∷ drop (i + 1) xs) (sym at_x))
    ∙ ap (equal_fields (map equal (x ∷ drop (i + 1) xs))) (drop_more ys i y q ∙ ap (λ (z : Value). z ∷ drop (i + 1) ys) (sym at_y)))
    ∙ both_assoc truth (equal x y) (from_place (i + 1) xs ys)
    ∙ ap (λ (t : Option Bool). both_true t (from_place (i + 1) xs ys)) (sym is)

-- the others end first
pub others_end : (xs ys : List Value) (i : ℕ) (truth : Option Bool) → i < length xs → length ys ≤ i → equal_fields (map equal xs) ys ≡ both_true truth (from_place i xs ys) → equal_fields (map equal xs) ys ≡ both_true truth None
others_end xs ys i truth p q whole =
    whole ∙ ap (λ (r : Option Bool). both_true truth r) (ap (λ (zs : List Value). equal_fields (map equal zs) (drop i ys)) (drop_more xs i Null p) ∙ ap (equal_fields (map equal (get_or xs i Null ∷ drop (i + 1) xs))) (drop_all i ys q))

-- the fields end first
pub fields_end : (xs ys : List Value) (i : ℕ) (truth : Option Bool) → length xs ≤ i → i < length ys → equal_fields (map equal xs) ys ≡ both_true truth (from_place i xs ys) → equal_fields (map equal xs) ys ≡ both_true truth None
fields_end xs ys i truth p q whole =
    whole ∙ ap (λ (r : Option Bool). both_true truth r) (ap (λ (zs : List Value). equal_fields (map equal zs) (drop i ys)) (drop_all i xs p) ∙ ap (equal_fields []) (drop_more ys i Null q))

-- ---- the test of a row

true_of : (o : Option Bool) → is_true (out-Value (truth o)) ≡ unwrap_or o false
true_of None = ap is_true outs-Null
true_of (Some b) = ap is_true (outs-Bool b)

pub passes_at : (test : ℕ) (literal : Value) (row : List Value) (x : Value) → slice_get row test ≡ Some x → passes test literal row ≡ unwrap_or (equal x literal) false
passes_at test literal row x at = ap (λ (x : Value). is_true (out-Value (truth (equal x literal)))) (index_at row test x Null at) ∙ true_of (equal x literal)

pub passes_past : (test : ℕ) (literal : Value) (row : List Value) → slice_get row test ≡ None → passes test literal row ≡ false
passes_past test literal row past =
    ap (λ (x : Value). is_true (out-Value (truth (equal x literal)))) (index_past row test Null past)
    ∙ ap (λ (o : Option Bool). is_true (out-Value (truth o))) (equal_out Null literal v.Null outs-Null) ∙ true_of None
