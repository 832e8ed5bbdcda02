-- The prints of words, names, types and counts are runs of tokens that are read back, where the tokens of a text spell them.
use Rattle.std.proofs.Common.{◌≡◌, ℕ, ◌<◌, ◌^◌, Bool, true, false, List, [], ◌∷◌, ◌++◌, ◌||◌, map, Option, Some, None, refl, sym, ◌∙◌, ap, subst}
use Rattle.std.proofs.lemmas.List.{append_assoc, append-nil}
use Rattle.std.specs.Prelude.{IsUtf8}
use Rattle.std.specs.List.{list_all}
use Rattle.sql_names.specs.declared.words.Reserved.{Reserved}
use Rattle.sql_names.specs.declared.words.Reserved.TheVariants as r
use Rattle.sql_names.specs.Spelling.{is_plain}
use Rattle.sql_names.specs.Words.{reserved_of}
use Rattle.sql_ast.specs.declared.words.Sign.TheVariants as s
use Rattle.sql_ast.specs.declared.words.Word.{Word}
use Rattle.sql_ast.specs.declared.words.Word.TheVariants as w
use Rattle.sql_ast.specs.declared.token.Token.{Token}
use Rattle.sql_ast.specs.declared.token.Lexeme.{Lexeme}
use Rattle.sql_ast.specs.declared.token.Lexeme.TheVariants as l
use Rattle.sql_ast.specs.declared.clauses.Function.{Function}
use Rattle.sql_ast.specs.declared.clauses.Function.TheVariants as function
use Rattle.sql_ast.specs.declared.clauses.Name.{Name}
use Rattle.sql_ast.specs.declared.clauses.NullsPart.{NullsPart}
use Rattle.sql_ast.specs.declared.clauses.NullsPart.TheVariants as nulls_part
use Rattle.sql_ast.specs.declared.clauses.NullsPlace.{NullsPlace}
use Rattle.sql_ast.specs.declared.clauses.NullsPlace.TheVariants as nulls_place
use Rattle.sql_ast.specs.declared.clauses.UnpivotColumn.{UnpivotColumn}
use Rattle.sql_ast.specs.declared.clauses.WithOffset.{WithOffset}
use Rattle.sql_ast.specs.declared.type_spelling.TypeField.{TypeField}
use Rattle.sql_ast.specs.declared.type_spelling.TypeSpelling.{TypeSpelling, out-TypeSpelling}
use Rattle.sql_ast.specs.declared.type_spelling.TypeSpelling.TheOpen as shapes
use Rattle.sql_ast.specs.declared.type_spelling.TypeSpelling.TheVariants as spelling
use Rattle.sql_ast.specs.Marks.{Tokens, Is, Says, named, name_lexeme, spelled_lexeme, text, text_lexeme, bytes, bytes_lexeme, parameter, parameter_lexeme, content, content_lexeme, integer, integer_lexeme, number, number_lexeme, same_word}
use Rattle.sql_ast.specs.Trees.{name_at, function_of, function_lexeme}
use Rattle.sql_ast.specs.Words.{word_of}
use Rattle.sql_ast.specs.Values.{is_name}
use Rattle.sql_ast.specs.Parts.{AliasOf, alias_none, alias_name, alias_as, FromAliasOf, from_alias_none, from_alias_name, from_alias_as, NameCommasOf, name_commas_none, name_commas_more, NamesOf, names_are, NameDotsOf, name_dots_none, name_dots_more, PlaceOf, place_none, place_is, UnpivotColumnOf, column_plain, column_as, UnpivotCommasOf, unpivot_none, unpivot_more, TypeOf, type_name, type_array, type_struct, FieldsOf, fields_are, FieldCommasOf, fields_none, fields_more, FieldOf, field_unnamed, field_named, CallLimitOf, call_limit_none, call_limit_is}
use Rattle.sql_ast.specs.Pieces.{Piece, word, name, read_word, spaced, sign, close_sign, bracketed, call_brackets, after_commas, if_there, if_so, word_if_plain, spelled_word}
use Rattle.sql_ast.specs.Canon.{name_pieces, names_list, alias_pieces, dots, type_pieces, nulls_place_pieces, nulls_part_pieces, function_piece, call_limit, offset_pieces, unpivot_column_pieces}
use Rattle.sql_print.specs.PartPieces.{listed, field_pieces}
use Rattle.sql_print.proofs.AsciiTexts.{is_ascii, ascii_text}
use Rattle.sql_print.proofs.TypeLaws.{type_at, print_type}
use Rattle.sql_print.proofs.Flows.{Good, Goods, hd, tl, fr, bk, IsName, Flow, flow_none, flow_some, runs_more, beside, single, is_reserved, quiet, TypeFlow, angled_type, type_comma, type_named, type_name as named_type}

never : {A : Type 0} → false ≡ true → A
never h = absurd (let g : true ≡ false = sym h in cc)

-- ---- one token

pub a_word : (x : Reserved) → Flow (word x ∷ [])
a_word x = single (tt, tt) refl refl

short_word : (x : Word) → is_name (spelled_word x) ≡ true
unfolding same_word
short_word w.Date = refl
short_word _ = refl

ascii_word : (x : Word) → list_all is_ascii (spelled_word x) ≡ true
unfolding same_word
ascii_word w.Date = refl
ascii_word _ = refl

spelled_back : (x : Word) → Some x ≡ word_if_plain (spelled_word x)
unfolding same_word is_plain reserved_of word_of
spelled_back w.Date = refl
spelled_back _ = refl

pub a_read : (x : Word) → Flow (read_word x ∷ [])
a_read x = single ((short_word x, ascii_text (spelled_word x) (ascii_word x)), spelled_back x) refl refl

a_name : (n : List ℕ) → IsName n → Flow (name n ∷ [])
a_name n g = single (g, refl) refl refl

pub open_round : Flow (sign s.OpenRound ∷ [])
open_round = single (tt, tt) refl refl

pub close_round : Flow (sign s.CloseRound ∷ [])
close_round = single (tt, tt) refl refl

pub a_comma : Flow (sign s.Comma ∷ [])
a_comma = single (tt, tt) refl refl

-- ---- brackets, and what is behind `.`

pub in_brackets : {ps : List Piece} → Flow ps → Flow (bracketed ps)
in_brackets x = beside open_round (beside x close_round)

pub in_call : {ps : List Piece} → Flow ps → Flow (call_brackets ps)
in_call x = beside {ps = close_sign s.OpenRound ∷ []} (single (tt, tt) refl refl) (beside x close_round)

or_true : (b : Bool) → (b || true) ≡ true
or_true true = refl
or_true false = refl

pub dotted : (p : Piece) (ps : List Piece) → is_reserved p.lexeme ≡ false → Flow (p ∷ ps) → Flow (sign s.Dot ∷ p ∷ ps)
dotted p ps h (flow_some o x) = flow_some refl (runs_more (tt, tt) (rw (or_true (quiet p.lexeme), h) refl) x)

pub so : (b : Bool) (ps : List Piece) → Flow ps → Flow (if_so b ps)
so true ps x = x
so false ps x = flow_none

-- ---- names

name_good : (x : Lexeme) → name_lexeme x ≡ true → Good x → IsName (spelled_lexeme x)
name_good (l.Name n o) h g = g
name_good _ h g = never h

named_good : (t : Token) → Is named t → Good t.lexeme → IsName (name_at t).text
unfolding name_at
named_good t i g = name_good t.lexeme i.is g

pub the_name : (t : Token) → Is named t → Good t.lexeme → Flow (name (name_at t).text ∷ [])
the_name t i g = a_name (name_at t).text (named_good t i g)

as_name : (t : Token) → Is named t → Good t.lexeme → Flow (word r.As ∷ name (name_at t).text ∷ [])
as_name t i g = beside (a_word r.As) (the_name t i g)

pub flow_alias : (n : Option Name) (u : Tokens) → AliasOf n u → Goods u → Flow (alias_pieces n)
flow_alias _ _ alias_none g = flow_none
flow_alias _ _ (alias_name {n = n} i) g = as_name n i (hd g)
flow_alias _ _ (alias_as {n = n} i j) g = as_name n j (hd (tl g))

from_named : (b c : Bool) → elim b [ true ↦ false | false ↦ c ] ≡ true → c ≡ true
from_named true c h = never h
from_named false c h = h

pub flow_from_alias : (n : Option Name) (u : Tokens) → FromAliasOf n u → Goods u → Flow (alias_pieces n)
flow_from_alias _ _ from_alias_none g = flow_none
flow_from_alias _ _ (from_alias_name {n = n} i) g = as_name n (record { is = from_named _ (named n) i.is }) (hd g)
flow_from_alias _ _ (from_alias_as {n = n} i j) g = as_name n j (hd (tl g))

flow_name_commas : (ns : List Name) (u : Tokens) → NameCommasOf ns u → Goods u → Flow (after_commas (map name_pieces ns))
flow_name_commas _ _ name_commas_none g = flow_none
flow_name_commas _ _ (name_commas_more {n = n} i j z) g = beside a_comma (beside (the_name n j (hd (tl g))) (flow_name_commas _ _ z (tl (tl g))))

pub flow_names : (ns : List Name) (u : Tokens) → NamesOf ns u → Goods u → Flow (bracketed (names_list ns))
flow_names _ _ (names_are {n = n} i j z k) g = in_brackets (beside (the_name n j (hd (tl g))) (flow_name_commas _ _ z (fr _ (tl (tl g)))))

pub flow_dots : (ns : List Name) (u : Tokens) → NameDotsOf ns u → Goods u → Flow (dots ns)
flow_dots _ _ name_dots_none g = flow_none
flow_dots _ _ (name_dots_more {n = n} {ns = ns} i j z) g = dotted (name (name_at n).text) (dots ns) refl (beside (the_name n j (hd (tl g))) (flow_dots _ _ z (tl (tl g))))

pub flow_place : (o : Option WithOffset) (u : Tokens) → PlaceOf o u → Goods u → Flow (if_there offset_pieces o)
flow_place _ _ place_none g = flow_none
flow_place _ _ (place_is i j z) g = beside (a_word r.With) (beside (a_read w.Offset) (flow_from_alias _ _ z (tl (tl g))))

-- ---- literals

text_good : (x : Lexeme) → text_lexeme x ≡ true → Good x → IsUtf8 (content_lexeme x)
text_good (l.Text n) h g = g
text_good _ h g = never h

pub a_text : (t : Token) → Is text t → Good t.lexeme → Flow (spaced (l.Text (content t)) ∷ [])
a_text t i g = single (text_good t.lexeme i.is g, tt) refl refl

bytes_good : (x : Lexeme) → bytes_lexeme x ≡ true → Good x → Good (l.Bytes (content_lexeme x))
bytes_good (l.Bytes n) h g = g
bytes_good _ h g = never h

pub a_bytes : (t : Token) → Is bytes t → Good t.lexeme → Flow (spaced (l.Bytes (content t)) ∷ [])
a_bytes t i g = single (bytes_good t.lexeme i.is g, tt) refl refl

parameter_good : (x : Lexeme) → parameter_lexeme x ≡ true → Good x → Good (l.Parameter (content_lexeme x))
parameter_good (l.Parameter n) h g = g
parameter_good _ h g = never h

pub a_parameter : (t : Token) → Is parameter t → Good t.lexeme → Flow (spaced (l.Parameter (content t)) ∷ [])
a_parameter t i g = single (parameter_good t.lexeme i.is g, tt) refl refl

integer_good : (x : Lexeme) → integer_lexeme x ≡ true → Good x → number_lexeme x < 2 ^ 64
integer_good (l.Integer n) h g = g
integer_good _ h g = never h

pub an_integer : (t : Token) → Is integer t → Good t.lexeme → Flow (spaced (l.Integer (number t)) ∷ [])
an_integer t i g = single (integer_good t.lexeme i.is g, tt) refl refl

-- ---- other parts

function_good : (x : Lexeme) (f : Function) → function_lexeme x ≡ Some f → Good x → Flow (function_piece f ∷ [])
function_good (l.Name n o) function.If h g = absurd (cc)
function_good (l.Name n o) (function.Named m) h g = a_name m (subst IsName (let e : n ≡ m = cc in e) g)
function_good _ function.If h g = a_word r.If
function_good (l.Reserved r.If) (function.Named m) h g = absurd (cc)
function_good _ (function.Named m) h g = absurd (cc)

pub flow_function : (t : Token) (f : Function) → Says function_of t f → Good t.lexeme → Flow (function_piece f ∷ [])
flow_function t f i g = function_good t.lexeme f i.is g

pub flow_column : (k : UnpivotColumn) (u : Tokens) → UnpivotColumnOf k u → Goods u → Flow (unpivot_column_pieces k)
flow_column _ _ (column_plain {n = n} i) g = beside (the_name n i (hd g)) flow_none
flow_column _ _ (column_as {n = n} {x = x} i j k) g = beside (the_name n i (hd g)) (beside (a_word r.As) (a_text x k (hd (tl (tl g)))))

pub flow_columns : (ks : List UnpivotColumn) (u : Tokens) → UnpivotCommasOf ks u → Goods u → Flow (after_commas (map unpivot_column_pieces ks))
flow_columns _ _ unpivot_none g = flow_none
flow_columns _ _ (unpivot_more i z y) g = beside (beside a_comma (flow_column _ _ z (fr _ (tl g)))) (flow_columns _ _ y (bk _ (tl g)))

pub flow_nulls_place : (n : Option NullsPlace) → Flow (if_there nulls_place_pieces n)
flow_nulls_place None = flow_none
flow_nulls_place (Some nulls_place.First) = beside (a_word r.Nulls) (a_read w.First)
flow_nulls_place (Some nulls_place.Last) = beside (a_word r.Nulls) (a_read w.Last)

pub flow_nulls_part : (n : Option NullsPart) → Flow (if_there nulls_part_pieces n)
flow_nulls_part None = flow_none
flow_nulls_part (Some nulls_part.Ignore) = beside (a_word r.Ignore) (a_word r.Nulls)
flow_nulls_part (Some nulls_part.Respect) = beside (a_word r.Respect) (a_word r.Nulls)

pub flow_call_limit : (k : Option ℕ) (u : Tokens) → CallLimitOf k u → Goods u → Flow (call_limit k)
flow_call_limit _ _ call_limit_none g = flow_none
flow_call_limit _ _ (call_limit_is {x = x} i j) g = beside (a_word r.Limit) (an_integer x j (hd (tl g)))

-- ---- types

as_type : (y : TypeSpelling) (z : shapes.TypeSpelling-F TypeSpelling) → out-TypeSpelling y ≡ z → TypeFlow (type_at z) → TypeFlow (type_pieces y)
as_type y z is x = subst TypeFlow (sym (print_type y ∙ ap type_at is)) x

mutual
  pub flow_type : (k : ℕ) (y : TypeSpelling) (u : Tokens) → TypeOf k y u → Goods u → TypeFlow (type_pieces y)
  flow_type _ _ _ (type_name {n = n} i) g = as_type _ _ (spelling.outs-Name (name_at n)) (named_type (name_at n).text (named_good n i (hd g)))
  flow_type _ _ _ (type_array i j z k) g = as_type _ _ (spelling.outs-Array _ _) (angled_type r.Array _ (flow_type _ _ _ z (fr _ (tl (tl g)))))
  flow_type _ _ _ (type_struct i j z k) g = as_type _ _ (spelling.outs-Struct _ _) (angled_type r.Struct _ (flow_fields _ _ _ z (fr _ (tl (tl g)))))

  pub flow_fields : (k : ℕ) (fs : List (TypeField TypeSpelling)) (u : Tokens) → FieldsOf k fs u → Goods u → TypeFlow (listed (field_pieces type_pieces) fs)
  flow_fields _ _ _ (fields_are {f = f} z y) g = flow_field_commas _ _ _ y (bk _ g) (field_pieces type_pieces f) (flow_field _ _ _ z (fr _ g))

  flow_field_commas : (k : ℕ) (fs : List (TypeField TypeSpelling)) (u : Tokens) → FieldCommasOf k fs u → Goods u → (ps : List Piece) → TypeFlow ps → TypeFlow (ps ++ after_commas (map (field_pieces type_pieces) fs))
  flow_field_commas _ _ _ fields_none g ps x = subst TypeFlow (sym (append-nil ps)) x
  flow_field_commas _ _ _ (fields_more {f = f} {fs = fs} i z y) g ps x =
      subst TypeFlow (append_assoc ps (sign s.Comma ∷ field_pieces type_pieces f) (after_commas (map (field_pieces type_pieces) fs)))
      (flow_field_commas _ _ _ y (bk _ (tl g)) (ps ++ (sign s.Comma ∷ field_pieces type_pieces f)) (type_comma ps (field_pieces type_pieces f) x (flow_field _ _ _ z (fr _ (tl g)))))

  flow_field : (k : ℕ) (f : TypeField TypeSpelling) (u : Tokens) → FieldOf k f u → Goods u → TypeFlow (field_pieces type_pieces f)
  flow_field _ _ _ (field_unnamed z) g = flow_type _ _ _ z g
  flow_field _ _ _ (field_named {n = n} {x = y} i z) g = type_named (name_at n).text (type_pieces y) (named_good n i (hd g)) (flow_type _ _ _ z (tl g))
