-- What values of STRING say.
use Rattle.std.proofs.Common.{◌≡◌, ℕ, true, false, List, [], ◌∷◌, ◌++◌, refl, ap, sym, ◌∙◌}
use Rattle.sql_types.specs.declared.sql_type.SqlType.TheVariants as types
use Rattle.sql_types.specs.declared.sql_type.SqlType.TheOpen as t
use Rattle.sql_types.specs.declared.value.Value.{Value, roll-Value, out-Value, roll-out-Value}
use Rattle.sql_types.specs.declared.value.Value.TheVariants as value
use Rattle.sql_types.specs.declared.value.Value.TheOpen as v
use Rattle.sql_types.specs.Before.{is_null}
use Rattle.sql_types.specs.Fits.{fits}
use Rattle.sql_types.specs.Takes.{content, content_layer}
use Rattle.sql_aggregates.specs.Aggregates.{joined, continued}
use Rattle.sql_types.proofs.ValueOpens.{fits_at, fits_by}

rolled : (x : Value) (y : v.Value-F Value) → out-Value x ≡ y → x ≡ roll-Value y
rolled x y is = sym (roll-out-Value x) ∙ ap roll-Value is

-- a value of STRING that isn't a text is NULL
no_text : (x : Value) (y : v.Value-F Value) → out-Value x ≡ y → fits_at t.Text y ≡ true → ((text : List ℕ) → x ≡ value.Text text → ⊥) → y ≡ v.Null
no_text x v.Null is fit other = refl
no_text x (v.Text text) is fit other = absurd (other text (rolled x (v.Text text) is ∙ value.rolls-Text text))
no_text x _ is fit other = cc

without_text : (x : Value) → fits types.Text x ≡ true → ((text : List ℕ) → x ≡ value.Text text → ⊥) → out-Value x ≡ v.Null
without_text x fit other = no_text x (out-Value x) refl (sym (fits_by types.Text x t.Text (out-Value x) types.outs-Text refl) ∙ fit) other

pub null_text : (x : Value) → fits types.Text x ≡ true → ((text : List ℕ) → x ≡ value.Text text → ⊥) → [] ≡ content x
null_text x fit other = sym (ap content_layer (without_text x fit other))

pub null_separator : (x : Value) → fits types.Text x ≡ true → ((text : List ℕ) → x ≡ value.Text text → ⊥) → is_null (out-Value x) ≡ true
null_separator x fit other = ap is_null (without_text x fit other)

-- where the separator is NULL, so is the answer
pub joined_by_null : (s : Value) (texts : List Value) → is_null (out-Value s) ≡ true → value.Null ≡ joined s texts
joined_by_null s [] null = refl
joined_by_null s (x ∷ xs) null = ap (λ b. elim b [ true ↦ value.Null | false ↦ value.Text (content x ++ continued (content s) xs) ]) (sym null)
