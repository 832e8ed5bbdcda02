-- The spelling of a type, by the spelling of its parts.
use Rattle.std.proofs.Common.{◌≡◌, ℕ, List, [], ◌∷◌, refl, ◌++◌, map, codes, ap, sym, ◌∙◌, append_assoc}
use Rattle.sql_names.specs.Commas.{joined}
use Rattle.sql_types.specs.declared.sql_type.Named.{Named}
use Rattle.sql_types.specs.declared.sql_type.SqlType.{SqlType, fold-SqlType, fold-roll-SqlType}
use Rattle.sql_types.specs.declared.sql_type.SqlType.TheOpen as t
use Rattle.sql_types.specs.declared.sql_type.SqlType.TheVariants as v
use Rattle.sql_types.specs.TypeText.{type_text, type_layer, named_text, column_text}

fold_part : (fields : List (Named SqlType)) → map named_text (map (λ f. record { name = f.name; ty = type_text f.ty }) fields) ≡ map column_text fields
fold_part [] = refl
fold_part (f ∷ fields) = ap (λ r. column_text f ∷ r) (fold_part fields)

pub struct_text : (fields : List (Named SqlType)) → type_text (v.Struct fields) ≡ (codes "STRUCT<" ++ joined (map column_text fields)) ++ codes ">"
unfolding type_text
struct_text fields =
    ap (fold-SqlType (List ℕ) type_layer) (sym (v.rolls-Struct fields)) ∙ fold-roll-SqlType (List ℕ) type_layer (t.Struct fields)
    ∙ ap (λ (pieces : List (List ℕ)). (codes "STRUCT<" ++ joined pieces) ++ codes ">") (fold_part fields)

-- a STRUCT is written in three steps
pub wrote_struct : (fields : List (Named SqlType)) (ty : SqlType) → ty ≡ v.Struct fields → (start opened filled closed : List ℕ) →
    opened ≡ start ++ codes "STRUCT<" → filled ≡ opened ++ joined (map column_text fields) → closed ≡ filled ++ codes ">" → closed ≡ start ++ type_text ty
wrote_struct fields ty is start opened filled closed first second third =
    third ∙ ap (λ r. r ++ codes ">") (second ∙ ap (λ r. r ++ joined (map column_text fields)) first ∙ append_assoc start (codes "STRUCT<") (joined (map column_text fields)))
    ∙ append_assoc start (codes "STRUCT<" ++ joined (map column_text fields)) (codes ">")
    ∙ ap (λ r. start ++ r) (sym (ap type_text is ∙ struct_text fields))
