-- What code answers where typing answers.
use Rattle.std.specs.Prelude.{◌≡◌, List, map, Result, Ok, Err}
use Rattle.sql_types.specs.declared.sql_type.Named.{Named}
use Rattle.sql_types.specs.declared.sql_type.SqlType.{SqlType}
use Rattle.sql_ast.specs.declared.refusal.Refusal.{Refusal}
use Rattle.sql_ast.specs.declared.refusal.Refusal.TheVariants.{Rule, OutOfMemory}
use Rattle.sql_ast.specs.declared.type_spelling.TypeField.{TypeField}
use Rattle.sql_ast.specs.declared.type_spelling.TypeSpelling.{TypeSpelling}
use Rattle.written_types.specs.Checks.{Checked}
use Rattle.written_types.specs.TypeNames.{field_types, written_type}

-- what is typed, or the rule that is broken and its place; memory may be wanting at any time
abbrev pub Answered : {A : Type 0} → Checked A → Result A Refusal → Type 0
Answered checked (Ok x) = checked ≡ Ok x
Answered checked (Err (Rule rule place)) = checked ≡ Err (rule, place)
Answered checked (Err OutOfMemory) = Unit {0}

-- the fields that a text writes, from left to right
abbrev pub written_field : TypeField TypeSpelling → TypeField (Checked SqlType)
written_field field = record { name = field.name; ty = written_type field.ty }

abbrev pub written_fields : List (TypeField TypeSpelling) → Checked (List (Named SqlType))
written_fields fields = field_types (map written_field fields)
