-- Texts of types, and what each writes.
use Rattle.std.specs.Prelude.{◌≡◌, ◌⊎◌, ℕ, List, length, drop, Result, Ok, Err}
use Rattle.fronts.specs.Texts.{Spells, NoTree}
use Rattle.sql_types.specs.declared.sql_type.SqlType.{SqlType}
use Rattle.sql_ast.specs.declared.refusal.Refusal.{Refusal}
use Rattle.sql_ast.specs.declared.refusal.Refusal.TheVariants.{Rule, OutOfMemory}
use Rattle.sql_ast.specs.declared.token.Token.{Token}
use Rattle.sql_ast.specs.declared.type_spelling.TypeSpelling.{TypeSpelling}
use Rattle.sql_ast.specs.Parts.{TypeOf, type_levels}
use Rattle.sql_ast.specs.Tokens.{TokensOf}
use Rattle.parse_words.specs.Reads.{fault_place}
use Rattle.written_types.specs.Checks.{Checked}
use Rattle.written_types.specs.TypeNames.{written_type}

-- The tokens spell no type, and this is where the first of them begins with which no type begins, or the end of the text
-- where there is no such token. The first number is the place of that end.
abbrev pub NoType : ℕ → List Token → ℕ → Type 0
NoType end tokens place = (n : ℕ) × NoTree (TypeOf type_levels) tokens n × (place ≡ fault_place end (drop n tokens))

-- The tokens of a text, which ends at this byte, spell the type and no other; or rule 1 is broken at the first token that
-- no type can have there. Memory may be wanting at any time.
abbrev pub SpellsType : ℕ → List Token → Result TypeSpelling Refusal → Type 0
SpellsType end tokens (Ok spelling) = Spells (TypeOf type_levels) tokens spelling
SpellsType end tokens (Err (Rule rule place)) = (rule ≡ 1) × NoType end tokens place
SpellsType end tokens (Err OutOfMemory) = Unit {0}

-- the tokens spell a type and no other, and of it typing says this
abbrev pub WritesType : List Token → Checked SqlType → Type 0
WritesType tokens checked = (spelling : TypeSpelling) × Spells (TypeOf type_levels) tokens spelling × (written_type spelling ≡ checked)

-- The type that a text writes. Rule 1 is broken where the text has no tokens, at its first fault, and where its tokens
-- spell no type, at the first token that no type can have there, or at the text's end. Where they spell one, the first of
-- the rules that it breaks: there is no type of a name (28), or an array is of arrays (21).
abbrev pub TypeText : List ℕ → Result SqlType Refusal → Type 0
TypeText bytes (Ok type) = (tokens : List Token) × TokensOf bytes (Ok tokens) × WritesType tokens (Ok type)
TypeText bytes (Err (Rule rule place)) =
    ((rule ≡ 1) × TokensOf bytes (Err place))
    ⊎ ((tokens : List Token) × TokensOf bytes (Ok tokens) × (((rule ≡ 1) × NoType (length bytes) tokens place) ⊎ WritesType tokens (Err (rule, place))))
TypeText bytes (Err OutOfMemory) = Unit {0}
