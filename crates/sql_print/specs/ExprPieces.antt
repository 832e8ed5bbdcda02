-- The tokens of each construct of an expression, given the levels and the tokens of its operands.
use Rattle.std.specs.Prelude.{ℕ, Bool, true, false, List, [], ◌∷◌, ◌++◌, map, Option}
use Rattle.sql_names.specs.declared.words.Reserved.{Reserved}
use Rattle.sql_names.specs.declared.words.Reserved.TheVariants as r
use Rattle.sql_ast.specs.declared.words.Sign.TheVariants as s
use Rattle.sql_ast.specs.declared.words.Word.TheVariants as w
use Rattle.sql_ast.specs.declared.token.Lexeme.TheVariants as l
use Rattle.sql_ast.specs.declared.clauses.Binding.{Binding}
use Rattle.sql_ast.specs.declared.clauses.Call.{Call}
use Rattle.sql_ast.specs.declared.clauses.Name.{Name}
use Rattle.sql_ast.specs.declared.clauses.When.{When}
use Rattle.sql_ast.specs.declared.expr.Comparison.{Comparison}
use Rattle.sql_ast.specs.declared.expr.IsTest.{IsTest}
use Rattle.sql_ast.specs.declared.expr.Link.{Link}
use Rattle.sql_ast.specs.declared.expr.Part.{Part}
use Rattle.sql_ast.specs.declared.expr.Prefix.{Prefix}
use Rattle.sql_ast.specs.declared.expr.Quantifier.{Quantifier}
use Rattle.sql_ast.specs.declared.type_spelling.TypeField.{TypeField}
use Rattle.sql_ast.specs.declared.type_spelling.TypeSpelling.{TypeSpelling}
use Rattle.sql_ast.specs.Pieces.{Piece, spaced, word, name, read_word, sign, bracketed, if_there}
use Rattle.sql_ast.specs.Canon.{bit_or_level, comparison_level, postfix_level, basic_level, prefix_piece, comparison_piece, quantifier_piece, test_piece, not_if, angled, type_pieces}
use Rattle.sql_print.specs.PartPieces.{run, listed, operand, link_pieces, part_pieces, call_pieces, when_pieces, binding_pieces, field_pieces}

abbrev pub worded : {P : Type 0} → (P → List Piece) → Reserved → P → List Piece
worded says w part = word w ∷ bracketed (says part)

abbrev pub nots : List ℕ → List Piece
nots operators = map (λ o. word r.Not) operators

abbrev pub prefixes : List Prefix → List Piece
prefixes operators = map (λ p. prefix_piece p.operator) operators

module _ {E : Type 0} (level : E → ℕ) (says : E → List Piece) where
  abbrev pub chain_pieces : ℕ → E → List (Link E) → List Piece
  chain_pieces needed first rest = operand level says needed first ++ run (link_pieces level says needed) rest

  abbrev pub not_pieces : List ℕ → E → List Piece
  not_pieces operators e = nots operators ++ operand level says comparison_level e

  abbrev pub unary_pieces : List Prefix → E → List Piece
  unary_pieces operators e = prefixes operators ++ operand level says postfix_level e

  abbrev pub compare_pieces : E → Comparison → E → List Piece
  compare_pieces left operator right = operand level says bit_or_level left ++ comparison_piece operator ∷ operand level says bit_or_level right

  abbrev pub like_pieces : E → Bool → E → List Piece
  like_pieces left negated right = operand level says bit_or_level left ++ not_if negated ++ word r.Like ∷ operand level says bit_or_level right

  abbrev pub like_list_pieces : {P : Type 0} → (P → List Piece) → E → Quantifier → P → List Piece
  like_list_pieces inside left q patterns = operand level says bit_or_level left ++ word r.Like ∷ quantifier_piece q ∷ bracketed (inside patterns)

  abbrev pub like_unnest_pieces : E → Quantifier → E → List Piece
  like_unnest_pieces left q array = operand level says bit_or_level left ++ word r.Like ∷ quantifier_piece q ∷ worded says r.Unnest array

  abbrev pub between_pieces : E → Bool → E → E → List Piece
  between_pieces subject negated low high =
      operand level says bit_or_level subject ++ not_if negated ++ word r.Between ∷ (operand level says bit_or_level low ++ word r.And ∷ operand level says bit_or_level high)

  abbrev pub in_pieces : {P : Type 0} → (P → List Piece) → E → Bool → P → List Piece
  in_pieces inside left negated part = operand level says bit_or_level left ++ not_if negated ++ word r.In ∷ bracketed (inside part)

  abbrev pub in_unnest_pieces : E → Bool → E → List Piece
  in_unnest_pieces left negated array = operand level says bit_or_level left ++ not_if negated ++ word r.In ∷ worded says r.Unnest array

  abbrev pub is_pieces : E → Bool → IsTest → List Piece
  is_pieces left negated t = operand level says bit_or_level left ++ word r.Is ∷ (not_if negated ++ test_piece t ∷ [])

  abbrev pub distinct_pieces : E → Bool → E → List Piece
  distinct_pieces left negated right = operand level says bit_or_level left ++ word r.Is ∷ (not_if negated ++ word r.Distinct ∷ word r.From ∷ operand level says bit_or_level right)

  abbrev pub postfix_pieces : E → List (Part E) → List Piece
  postfix_pieces first parts = operand level says basic_level first ++ run (part_pieces says) parts

module _ {E : Type 0} (says : E → List Piece) where
  abbrev pub safe_pieces : Call E → List Piece
  safe_pieces call = read_word w.Safe ∷ sign s.Dot ∷ call_pieces says call

  abbrev pub else_pieces : Option E → List Piece
  else_pieces otherwise = if_there (λ e. word r.Else ∷ says e) otherwise

  abbrev pub case_pieces : {B : Type 0} → (B → List Piece) → Option E → List (When B) → Option E → List Piece
  case_pieces branch subject branches otherwise = word r.Case ∷ (if_there says subject ++ run (when_pieces branch) branches ++ else_pieces otherwise ++ word r.End ∷ [])

  abbrev pub extract_pieces : Name → E → List Piece
  extract_pieces p e = word r.Extract ∷ bracketed (name p.text ∷ word r.From ∷ says e)

  abbrev pub with_pieces : {R : Type 0} → (R → List Piece) → List (Binding E) → R → List Piece
  with_pieces last bindings value = word r.With ∷ bracketed (listed (binding_pieces says) bindings ++ sign s.Comma ∷ last value)

  abbrev pub typed_struct_pieces : List (TypeField TypeSpelling) → List E → List Piece
  typed_struct_pieces fields parts = word r.Struct ∷ (angled (listed (field_pieces type_pieces) fields) ++ bracketed (listed says parts))

abbrev pub truth_word : Bool → Piece
truth_word true = word r.True
truth_word false = word r.False

abbrev pub date_pieces : List ℕ → List Piece
date_pieces text = read_word w.Date ∷ spaced (l.Text text) ∷ []

abbrev pub cast_word : Bool → Piece
cast_word true = read_word w.SafeCast
cast_word false = word r.Cast

abbrev pub cast_pieces : {E : Type 0} → (E → List Piece) → Bool → E → TypeSpelling → List Piece
cast_pieces says safe e type = cast_word safe ∷ bracketed (says e ++ word r.As ∷ type_pieces type)

-- ARRAY before the `[` of an untyped array leaves nothing
abbrev pub element_pieces : Option TypeSpelling → List Piece
element_pieces element = if_there (λ type. word r.Array ∷ angled (type_pieces type)) element

abbrev pub array_pieces : {E : Type 0} → (E → List Piece) → Option TypeSpelling → List E → List Piece
array_pieces says element items = element_pieces element ++ sign s.OpenSquare ∷ (listed says items ++ sign s.CloseSquare ∷ [])
