-- The type that a text writes, one level at a time.
use Rattle.std.proofs.Common.{◌≡◌, ℕ, List, [], ◌∷◌, ◌++◌, Result, Ok, Err, refl, sym, ◌∙◌, ap}
use Rattle.std.proofs.lemmas.List.{append_assoc}
use Rattle.sql_types.specs.declared.sql_type.Named.{Named}
use Rattle.sql_types.specs.declared.sql_type.SqlType.{SqlType}
use Rattle.sql_types.specs.declared.sql_type.SqlType.TheVariants as ty
use Rattle.sql_ast.specs.declared.refusal.Refusal.{Refusal}
use Rattle.sql_ast.specs.declared.refusal.Refusal.TheVariants.{Rule, OutOfMemory}
use Rattle.sql_ast.specs.declared.type_spelling.TypeField.{TypeField}
use Rattle.sql_ast.specs.declared.type_spelling.TypeSpelling.{TypeSpelling, out-TypeSpelling, map-TypeSpelling, fold_out-TypeSpelling}
use Rattle.sql_ast.specs.declared.type_spelling.TypeSpelling.TheOpen as spelling
use Rattle.written_types.specs.Checks.{Checked, ◌>>=◌}
use Rattle.written_types.specs.TypeNames.{known_type, array_type, type_named, plain_types, name_text, written_type, written_layer}
use Rattle.written_types.specs.Written.{Answered, written_fields}

-- one level over the types of its parts
abbrev pub written_at : spelling.TypeSpelling-F TypeSpelling → Checked SqlType
written_at (spelling.Name name) = known_type name.place (type_named name.text plain_types)
written_at (spelling.Array element place) = written_type element >>= array_type place
written_at (spelling.Struct fields place) = written_fields fields >>= (λ types. Ok (ty.Struct types))

written_moved : (x : spelling.TypeSpelling-F TypeSpelling) → written_layer (map-TypeSpelling TypeSpelling (Checked SqlType) written_type x) ≡ written_at x
written_moved (spelling.Name name) = refl
written_moved (spelling.Array element place) = refl
written_moved (spelling.Struct fields place) = refl

pub written_opens : (x : TypeSpelling) → written_type x ≡ written_at (out-TypeSpelling x)
unfolding written_type
written_opens x = fold_out-TypeSpelling _ written_layer x ∙ written_moved (out-TypeSpelling x)

-- ---- fields that are typed one after the other

-- these fields, and behind them what the others are typed as
abbrev pub behind : List (Named SqlType) → Checked (List (Named SqlType)) → Checked (List (Named SqlType))
behind types rest = rest >>= (λ more. Ok (types ++ more))

pub behind_nothing : (rest : Checked (List (Named SqlType))) → rest ≡ behind [] rest
behind_nothing (Ok types) = refl
behind_nothing (Err broken) = refl

-- one more field
pub behind_one : (types : List (Named SqlType)) (field : TypeField TypeSpelling) (fields : List (TypeField TypeSpelling)) (type : SqlType) → written_type field.ty ≡ Ok type
    → behind types (written_fields (field ∷ fields)) ≡ behind (types ++ record { name = name_text field.name; ty = type } ∷ []) (written_fields fields)
behind_one types field fields type is =
    ap (λ (c : Checked SqlType). behind types (c >>= (λ t. written_fields fields >>= (λ ts. Ok (record { name = name_text field.name; ty = t } ∷ ts))))) is ∙ by (written_fields fields)
  where
    by : (rest : Checked (List (Named SqlType))) → behind types (rest >>= (λ ts. Ok (record { name = name_text field.name; ty = type } ∷ ts))) ≡ behind (types ++ record { name = name_text field.name; ty = type } ∷ []) rest
    by (Ok more) = ap Ok (sym (append_assoc types (record { name = name_text field.name; ty = type } ∷ []) more))
    by (Err broken) = refl

-- a field that breaks a rule
pub behind_broken : (types : List (Named SqlType)) (field : TypeField TypeSpelling) (fields : List (TypeField TypeSpelling)) (broken : ℕ × ℕ) → written_type field.ty ≡ Err broken
    → behind types (written_fields (field ∷ fields)) ≡ Err broken
behind_broken types field fields broken is =
    ap (λ (c : Checked SqlType). behind types (c >>= (λ t. written_fields fields >>= (λ ts. Ok (record { name = name_text field.name; ty = t } ∷ ts))))) is

-- ---- what code answers

-- what is refused before another check is refused behind it
pub refused_then : {A B : Type 0} (m : Checked A) (next : A → Checked B) (e : Refusal) → Answered m (Err e) → Answered (m >>= next) (Err e)
refused_then m next (Rule rule place) is = ap (λ c. c >>= next) is
refused_then m next OutOfMemory is = tt

-- two checks that are the same have the same answer
pub answered_as : {A : Type 0} (m k : Checked A) (r : Result A Refusal) → m ≡ k → Answered k r → Answered m r
answered_as m k (Ok x) is h = is ∙ h
answered_as m k (Err (Rule rule place)) is h = is ∙ h
answered_as m k (Err OutOfMemory) is h = tt

-- a field is refused
pub field_refused : (types : List (Named SqlType)) (field : TypeField TypeSpelling) (fields : List (TypeField TypeSpelling)) (m : Checked (List (Named SqlType))) (e : Refusal)
    → m ≡ behind types (written_fields (field ∷ fields)) → Answered (written_type field.ty) (Err e) → Answered m (Err e)
field_refused types field fields m (Rule rule place) going is = going ∙ behind_broken types field fields (rule, place) is
field_refused types field fields m OutOfMemory going is = tt
