-- Values are the same exactly where the test says so.
use Rattle.std.proofs.Common.{◌≡◌, Bool, true, false, ◌&&◌, List, [], ◌∷◌, map, refl, ap, sym, ◌∙◌, subst, Decides}
use Rattle.std.specs.Cmp.{booleans_Decides}
use Rattle.std.proofs.lemmas.Bool.{false≢true}
use Rattle.std.proofs.lemmas.Bool.Decides.{Decides-eqb, Decides-int_eq}
use Rattle.std.proofs.lemmas.Slice.Eq.{bytes_eq-Decides}
use Rattle.sql_types.specs.declared.value.Value.{Value, map-Value, out-Value, roll-Value, roll-out-Value, out-roll-Value, ind-Value}
use Rattle.sql_types.specs.declared.value.Value.TheOpen as v
use Rattle.sql_types.specs.SameValue.{same_value, same_values}
use Rattle.sql_types.proofs.ValueOpens.{same_opens, same_at}

abbrev IsTold : Value → Type 0
IsTold x = (y : Value) → Decides (same_value x y) (x ≡ y)

-- the first and the rest
both : (a b : Bool) (A B C : Type 0) → Decides a A → Decides b B → (A → B → C) → (C → A) → (C → B) → Decides (a && b) C
both true b A B C first rest join left right = (λ e. join (first.0 refl) (rest.0 e), λ e. rest.1 (right e))
both false b A B C first rest join left right = (λ e. absurd (false≢true e), λ e. absurd (false≢true (first.1 (left e))))

lists_told : (parts : List ((x : Value) × IsTold x)) (ys : List Value) → Decides (same_values (map (λ e. e.0) parts) ys) (map (λ e. e.0) parts ≡ ys)
lists_told [] [] = (λ _. refl, λ _. refl)
lists_told [] (y ∷ ys) = (λ e. absurd (false≢true e), λ e. cc)
lists_told (p ∷ parts) [] = (λ e. absurd (false≢true e), λ e. cc)
lists_told (p ∷ parts) (y ∷ ys) =
    both _ _ (p.0 ≡ y) (map (λ e. e.0) parts ≡ ys) _ (p.1 y) (lists_told parts ys) (λ e f. λ i. e i ∷ f i) (λ e. cc) (λ e. cc)

-- through a constructor
under : {b : Bool} {A C : Type 0} → Decides b A → (A → C) → (C → A) → Decides b C
under told join part = (λ e. join (told.0 e), λ e. told.1 (part e))

parts_told : (parts : v.Value-F ((x : Value) × IsTold x)) (b : v.Value-F Value) → Decides (same_at (map-Value ((x : Value) × IsTold x) Value (λ e. e.0) parts) b) (map-Value ((x : Value) × IsTold x) Value (λ e. e.0) parts ≡ b)
parts_told v.Null v.Null = (λ _. refl, λ _. refl)
parts_told (v.Bool a) (v.Bool b) = under (booleans_Decides a b) (ap v.Bool) (λ e. cc)
parts_told (v.Int a) (v.Int b) = under (Decides-int_eq a b) (ap v.Int) (λ e. cc)
parts_told (v.Uint a) (v.Uint b) = under (Decides-eqb a b) (ap v.Uint) (λ e. cc)
parts_told (v.Text a) (v.Text b) = under (bytes_eq-Decides a b) (ap v.Text) (λ e. cc)
parts_told (v.Bytes a) (v.Bytes b) = under (bytes_eq-Decides a b) (ap v.Bytes) (λ e. cc)
parts_told (v.Date a) (v.Date b) = under (Decides-int_eq a b) (ap v.Date) (λ e. cc)
parts_told (v.Array xs) (v.Array ys) = under (lists_told xs ys) (ap v.Array) (λ e. cc)
parts_told (v.Struct xs) (v.Struct ys) = under (lists_told xs ys) (ap v.Struct) (λ e. cc)
parts_told _ _ = (λ e. absurd (false≢true e), λ e. cc)

rolled_told : (x : v.Value-F Value) → ((b : v.Value-F Value) → Decides (same_at x b) (x ≡ b)) → IsTold (roll-Value x)
rolled_told x told y =
    let e : same_value (roll-Value x) y ≡ same_at x (out-Value y) = same_opens (roll-Value x) y ∙ ap (λ z. same_at z (out-Value y)) (out-roll-Value x) in
    let d = told (out-Value y) in
    (λ yes. ap roll-Value (d.0 (sym e ∙ yes)) ∙ roll-out-Value y, λ is. e ∙ d.1 (sym (out-roll-Value x) ∙ ap out-Value is))

pub same_value_decides : (x y : Value) → Decides (same_value x y) (x ≡ y)
same_value_decides = ind-Value IsTold (λ x parts is. subst (λ z. IsTold (roll-Value z)) is (rolled_told _ (parts_told parts)))

pub same_values_decides : (xs ys : List Value) → Decides (same_values xs ys) (xs ≡ ys)
same_values_decides [] [] = (λ _. refl, λ _. refl)
same_values_decides [] (y ∷ ys) = (λ e. absurd (false≢true e), λ e. cc)
same_values_decides (x ∷ xs) [] = (λ e. absurd (false≢true e), λ e. cc)
same_values_decides (x ∷ xs) (y ∷ ys) = both _ _ (x ≡ y) (xs ≡ ys) _ (same_value_decides x y) (same_values_decides xs ys) (λ e f. λ i. e i ∷ f i) (λ e. cc) (λ e. cc)
