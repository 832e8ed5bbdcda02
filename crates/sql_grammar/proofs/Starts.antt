-- Which tokens begin a basic expression, and an item of a select list.
use Rattle.std.proofs.Common.{◌≡◌, ◌||◌, Bool, true, false, Some, None, refl}
use Rattle.sql_ast.specs.declared.token.Lexeme.{Lexeme}
use Rattle.sql_ast.specs.declared.token.Lexeme.TheVariants as l
use Rattle.sql_ast.specs.declared.token.Token.{Token}
use Rattle.sql_names.specs.declared.words.Reserved.TheVariants as r
use Rattle.sql_ast.specs.declared.words.Sign.TheVariants as s
use Rattle.sql_ast.specs.Marks.{same_reserved, same_sign, reserved_lexeme, sign_lexeme, name_lexeme, integer_lexeme, text_lexeme, bytes_lexeme, parameter_lexeme, reserved}
use Rattle.sql_ast.specs.Trees.{prefix_lexeme, prefix_of}
use Rattle.sql_grammar.specs.Classes.{basic_lexeme, BasicStart, an_integer, a_string, a_bytes, a_true, a_false, a_null, a_parameter, a_name, an_if, a_bracket, a_case, a_cast, an_extract, a_grouping, an_exists, an_array, a_square, a_struct, a_with, no_basic, item_class, item_by_star, item_by_prefix, item_by_basic}
use Rattle.sql_grammar.specs.Exprs.{tells}

-- the tokens with which a basic expression of each class begins
abbrev pub begins_lexeme : BasicStart → Lexeme → Bool
begins_lexeme an_integer = integer_lexeme
begins_lexeme a_string = text_lexeme
begins_lexeme a_bytes = bytes_lexeme
begins_lexeme a_true = reserved_lexeme r.True
begins_lexeme a_false = reserved_lexeme r.False
begins_lexeme a_null = reserved_lexeme r.Null
begins_lexeme a_parameter = parameter_lexeme
begins_lexeme a_name = name_lexeme
begins_lexeme an_if = reserved_lexeme r.If
begins_lexeme a_bracket = sign_lexeme s.OpenRound
begins_lexeme a_case = reserved_lexeme r.Case
begins_lexeme a_cast = reserved_lexeme r.Cast
begins_lexeme an_extract = reserved_lexeme r.Extract
begins_lexeme a_grouping = reserved_lexeme r.Grouping
begins_lexeme an_exists = reserved_lexeme r.Exists
begins_lexeme an_array = reserved_lexeme r.Array
begins_lexeme a_square = sign_lexeme s.OpenSquare
begins_lexeme a_struct = reserved_lexeme r.Struct
begins_lexeme a_with = reserved_lexeme r.With
begins_lexeme no_basic = λ z. false

abbrev pub begins_basic : BasicStart → Token → Bool
begins_basic k t = begins_lexeme k t.lexeme

-- an item by a basic expression begins as one
pub basic_begins : (z : Lexeme) → item_class z ≡ item_by_basic → begins_lexeme (basic_lexeme z) z ≡ true
unfolding same_reserved same_sign
basic_begins (l.Integer n) h = refl
basic_begins (l.Text x) h = refl
basic_begins (l.Bytes x) h = refl
basic_begins (l.Parameter x) h = refl
basic_begins (l.Name n o) h = refl
basic_begins (l.Reserved r.True) h = refl
basic_begins (l.Reserved r.False) h = refl
basic_begins (l.Reserved r.Null) h = refl
basic_begins (l.Reserved r.If) h = refl
basic_begins (l.Reserved r.Case) h = refl
basic_begins (l.Reserved r.Cast) h = refl
basic_begins (l.Reserved r.Extract) h = refl
basic_begins (l.Reserved r.Grouping) h = refl
basic_begins (l.Reserved r.Exists) h = refl
basic_begins (l.Reserved r.Array) h = refl
basic_begins (l.Reserved r.Struct) h = refl
basic_begins (l.Reserved r.With) h = refl
basic_begins (l.Reserved _) h = absurd cc
basic_begins (l.Sign s.OpenRound) h = refl
basic_begins (l.Sign s.OpenSquare) h = refl
basic_begins (l.Sign s.Star) h = absurd cc
basic_begins (l.Sign s.Plus) h = absurd cc
basic_begins (l.Sign s.Minus) h = absurd cc
basic_begins (l.Sign s.Tilde) h = absurd cc
basic_begins (l.Sign _) h = absurd cc

pub star_begins : (z : Lexeme) → item_class z ≡ item_by_star → sign_lexeme s.Star z ≡ true
unfolding same_sign
star_begins (l.Sign s.Star) h = refl
star_begins (l.Sign s.Plus) h = absurd cc
star_begins (l.Sign s.Minus) h = absurd cc
star_begins (l.Sign s.Tilde) h = absurd cc
star_begins (l.Sign s.OpenRound) h = absurd cc
star_begins (l.Sign s.OpenSquare) h = absurd cc
star_begins (l.Sign _) h = absurd cc
star_begins (l.Reserved r.Not) h = absurd cc
star_begins (l.Reserved r.True) h = absurd cc
star_begins (l.Reserved r.False) h = absurd cc
star_begins (l.Reserved r.Null) h = absurd cc
star_begins (l.Reserved r.If) h = absurd cc
star_begins (l.Reserved r.Case) h = absurd cc
star_begins (l.Reserved r.Cast) h = absurd cc
star_begins (l.Reserved r.Extract) h = absurd cc
star_begins (l.Reserved r.Grouping) h = absurd cc
star_begins (l.Reserved r.Exists) h = absurd cc
star_begins (l.Reserved r.Array) h = absurd cc
star_begins (l.Reserved r.Struct) h = absurd cc
star_begins (l.Reserved r.With) h = absurd cc
star_begins (l.Reserved _) h = absurd cc
star_begins _ h = absurd cc

-- a token that stands before expressions: a sign or NOT
abbrev pub prefixes_expr : Token → Bool
prefixes_expr t = tells prefix_of t || reserved r.Not t

pub prefix_begins : (z : Lexeme) → item_class z ≡ item_by_prefix → ((elim (prefix_lexeme z) [ None ↦ false | Some a ↦ true ]) || reserved_lexeme r.Not z) ≡ true
unfolding same_reserved
prefix_begins (l.Sign s.Plus) h = refl
prefix_begins (l.Sign s.Minus) h = refl
prefix_begins (l.Sign s.Tilde) h = refl
prefix_begins (l.Sign s.Star) h = absurd cc
prefix_begins (l.Sign s.OpenRound) h = absurd cc
prefix_begins (l.Sign s.OpenSquare) h = absurd cc
prefix_begins (l.Sign _) h = absurd cc
prefix_begins (l.Reserved r.Not) h = refl
prefix_begins (l.Reserved r.True) h = absurd cc
prefix_begins (l.Reserved r.False) h = absurd cc
prefix_begins (l.Reserved r.Null) h = absurd cc
prefix_begins (l.Reserved r.If) h = absurd cc
prefix_begins (l.Reserved r.Case) h = absurd cc
prefix_begins (l.Reserved r.Cast) h = absurd cc
prefix_begins (l.Reserved r.Extract) h = absurd cc
prefix_begins (l.Reserved r.Grouping) h = absurd cc
prefix_begins (l.Reserved r.Exists) h = absurd cc
prefix_begins (l.Reserved r.Array) h = absurd cc
prefix_begins (l.Reserved r.Struct) h = absurd cc
prefix_begins (l.Reserved r.With) h = absurd cc
prefix_begins (l.Reserved _) h = absurd cc
prefix_begins _ h = absurd cc
