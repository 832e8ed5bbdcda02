-- The literal of a value, by the literals of its parts.
use Rattle.std.proofs.Common.{◌≡◌, ℕ, ℤ, Bool, List, ◌++◌, map, codes, ap, sym, ◌∙◌, append_assoc}
use Rattle.std.specs.List.{list_all}
use Rattle.std.proofs.lemmas.List.Folds.{list_all-map}
use Rattle.sql_names.specs.Commas.{joined}
use Rattle.sql_types.specs.Fits.{is_day}
use Rattle.sql_types.specs.declared.value.Value.{Value, fold-Value, fold-roll-Value}
use Rattle.sql_types.specs.declared.value.Value.TheOpen as o
use Rattle.sql_types.specs.declared.value.Value.TheVariants as v
use Rattle.sql_ast.specs.Literals.{LiteralText, literal_layer, dates_fit, dates_layer}

pub array_text : (elements : List Value) → LiteralText (v.Array elements) ≡ (codes "[" ++ joined (map LiteralText elements)) ++ codes "]"
unfolding LiteralText
array_text elements = ap (fold-Value (List ℕ) literal_layer) (sym (v.rolls-Array elements)) ∙ fold-roll-Value (List ℕ) literal_layer (o.Array elements)

pub struct_text : (fields : List Value) → LiteralText (v.Struct fields) ≡ (codes "STRUCT(" ++ joined (map LiteralText fields)) ++ codes ")"
unfolding LiteralText
struct_text fields = ap (fold-Value (List ℕ) literal_layer) (sym (v.rolls-Struct fields)) ∙ fold-roll-Value (List ℕ) literal_layer (o.Struct fields)

pub day_dates : (day : ℤ) → dates_fit (v.Date day) ≡ is_day day
unfolding dates_fit
day_dates day = ap (fold-Value Bool dates_layer) (sym (v.rolls-Date day)) ∙ fold-roll-Value Bool dates_layer (o.Date day)

pub array_dates : (elements : List Value) → dates_fit (v.Array elements) ≡ list_all dates_fit elements
unfolding dates_fit
array_dates elements =
    ap (fold-Value Bool dates_layer) (sym (v.rolls-Array elements)) ∙ fold-roll-Value Bool dates_layer (o.Array elements) ∙ list_all-map (λ fit. fit) dates_fit elements

pub struct_dates : (fields : List Value) → dates_fit (v.Struct fields) ≡ list_all dates_fit fields
unfolding dates_fit
struct_dates fields =
    ap (fold-Value Bool dates_layer) (sym (v.rolls-Struct fields)) ∙ fold-roll-Value Bool dates_layer (o.Struct fields) ∙ list_all-map (λ fit. fit) dates_fit fields

-- the values of a list are written between two marks
pub wrote_between : (before behind text : List ℕ) (values given : List Value) → values ≡ given → text ≡ (before ++ joined (map LiteralText given)) ++ behind → (start opened filled closed : List ℕ) →
    opened ≡ start ++ before → filled ≡ opened ++ joined (map LiteralText values) → closed ≡ filled ++ behind → closed ≡ start ++ text
wrote_between before behind text values given same is start opened filled closed first second third =
    let body = joined (map LiteralText given) in
    third ∙ ap (λ r. r ++ behind) (second ∙ ap (λ (vs : List Value). opened ++ joined (map LiteralText vs)) same ∙ ap (λ r. r ++ body) first ∙ append_assoc start before body)
    ∙ append_assoc start (before ++ body) behind
    ∙ ap (λ r. start ++ r) (sym is)
