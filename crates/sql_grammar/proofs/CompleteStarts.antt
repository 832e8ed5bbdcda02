-- With which tokens the words of expressions begin, and with which the tails of chains.
use Rattle.std.proofs.Common.{◌≡◌, ℕ, ◌≤◌, Bool, true, false, List, ◌∷◌, ◌++◌, Some, None, refl, ◌∙◌, ap, arith}
use Rattle.sql_ast.specs.declared.clauses.Function.{Function}
use Rattle.sql_ast.specs.declared.expr.Expr.{Expr}
use Rattle.sql_ast.specs.declared.expr.Link.{Link}
use Rattle.sql_ast.specs.declared.expr.Operator.{Operator}
use Rattle.sql_ast.specs.declared.expr.Operator.TheVariants as operator
use Rattle.sql_ast.specs.declared.expr.Part.{Part}
use Rattle.sql_ast.specs.declared.expr.Signed.{Signed}
use Rattle.sql_names.specs.declared.words.Reserved.{Reserved}
use Rattle.sql_names.specs.declared.words.Reserved.TheVariants as r
use Rattle.sql_ast.specs.declared.words.Sign.{Sign}
use Rattle.sql_ast.specs.declared.words.Sign.TheVariants as s
use Rattle.sql_ast.specs.declared.token.Token.{Token}
use Rattle.sql_ast.specs.declared.token.Lexeme.{Lexeme}
use Rattle.sql_ast.specs.declared.token.Lexeme.TheVariants as l
use Rattle.sql_ast.specs.Marks.{Tokens, Is, Says, reserved, sign, named, integer_lexeme, text_lexeme, bytes_lexeme, parameter_lexeme}
use Rattle.sql_ast.specs.Trees.{function_lexeme, prefix_lexeme, product_lexeme, product_of, sum_lexeme, sum_of}
use Rattle.sql_ast.specs.Parts.{prefixes_none, prefixes_more, nots_none, nots_more, NegatableOf, not_negated, is_negated, IsNotOf, is_plain, is_not}
use Rattle.sql_ast.specs.Grammar.{ExprOf, expr_is, OrsOf, ors_none, ors_more, ConjOf, conj_is, AndsOf, ands_none, ands_more, NegOf, neg_is, CompOf, comp_bor, comp_compare, comp_like, comp_like_list, comp_like_unnest, comp_between, comp_in_list, comp_in_query, comp_in_unnest, comp_is, comp_distinct, BorOf, bor_is, BorsOf, bors_none, bors_more, BxorOf, bxor_is, BxorsOf, bxors_none, bxors_more, BandOf, band_is, BandsOf, bands_none, bands_more, ShiftOf, shift_is, ShiftsOf, shifts_none, shifts_left, shifts_right, SumOf, sum_is, SumsOf, sums_none, sums_more, ProdOf, prod_is, ProdsOf, prods_none, prods_more, UnaryOf, unary_is, PostfixOf, postfix_is, PartsOf, parts_none, parts_more, PartOf, part_field, part_index, BasicOf, basic_integer, basic_string, basic_bytes, basic_true, basic_false, basic_null, basic_date, basic_parameter, basic_name, basic_call, basic_safe_call, basic_group, basic_query, basic_tuple, basic_case, basic_cast, basic_safe_cast, basic_extract, basic_grouping, basic_exists, basic_array_query, basic_array, basic_array_word, basic_array_typed, basic_struct, basic_typed_struct, basic_with, ArrayItemsOf, array_empty, array_items, ListOf, list_is, CallOf, call_is}
use Rattle.sql_grammar.specs.Exprs.{tells}
use Rattle.sql_grammar.proofs.Marks.{tells_is}
use Rattle.sql_grammar.proofs.Follows.{Starts, level, rank, word_rank, sign_rank, is_reserved, is_sign, is_named, is_word}
use Rattle.sql_grammar.proofs.CompleteSteps.{Ahead, nothing_ahead, level_ahead, r_ahead, s_ahead, on, starts_front, starts_weak}

-- ---- the rank of a token

pub starts_r : {k : ℕ} {t : Token} {ts : Tokens} (x : Reserved) → Is (reserved x) t → word_rank x ≤ k → Starts k (t ∷ ts)
starts_r {k} {t} x i le = record { starts = let e : rank t.lexeme ≡ word_rank x = ap rank (is_reserved i) in omega arith }

pub starts_s : {k : ℕ} {t : Token} {ts : Tokens} (x : Sign) → Is (sign x) t → sign_rank x ≤ k → Starts k (t ∷ ts)
starts_s {k} {t} x i le = record { starts = let e : rank t.lexeme ≡ sign_rank x = ap rank (is_sign i) in omega arith }

pub starts_n : {k : ℕ} {t : Token} {ts : Tokens} → Is named t → 1 ≤ k → Starts k (t ∷ ts)
starts_n {k} {t} i le = record { starts = let e : rank t.lexeme ≡ 1 = ap rank (is_named i).is in omega arith }

integer_rank : (x : Lexeme) → integer_lexeme x ≡ true → rank x ≡ 1
integer_rank (l.Integer n) h = refl
integer_rank (l.Reserved y) h = absurd cc
integer_rank (l.Sign y) h = absurd cc
integer_rank _ h = refl

text_rank : (x : Lexeme) → text_lexeme x ≡ true → rank x ≡ 1
text_rank (l.Text n) h = refl
text_rank (l.Reserved y) h = absurd cc
text_rank (l.Sign y) h = absurd cc
text_rank _ h = refl

bytes_rank : (x : Lexeme) → bytes_lexeme x ≡ true → rank x ≡ 1
bytes_rank (l.Bytes n) h = refl
bytes_rank (l.Reserved y) h = absurd cc
bytes_rank (l.Sign y) h = absurd cc
bytes_rank _ h = refl

parameter_rank : (x : Lexeme) → parameter_lexeme x ≡ true → rank x ≡ 1
parameter_rank (l.Parameter n) h = refl
parameter_rank (l.Reserved y) h = absurd cc
parameter_rank (l.Sign y) h = absurd cc
parameter_rank _ h = refl

function_rank : (x : Lexeme) (f : Function) → function_lexeme x ≡ Some f → rank x ≡ 1
function_rank (l.Name n o) f h = refl
function_rank (l.Reserved r.If) f h = refl
function_rank (l.Reserved _) f h = absurd cc
function_rank (l.Sign y) f h = absurd cc
function_rank _ f h = refl

pub prefix_rank : (x : Lexeme) (f : Signed) → prefix_lexeme x ≡ Some f → rank x ≡ 2
prefix_rank (l.Sign s.Plus) f h = refl
prefix_rank (l.Sign s.Minus) f h = refl
prefix_rank (l.Sign s.Tilde) f h = refl
prefix_rank (l.Sign _) f h = absurd cc
prefix_rank _ f h = absurd cc

equal_rank : {k : ℕ} {t : Token} {ts : Tokens} {j : ℕ} → rank t.lexeme ≡ j → j ≤ k → Starts k (t ∷ ts)
equal_rank {k} {t} {ts} {j} e le = record { starts = omega arith }

-- ---- words

items_start : (xs : List Expr) (b : Token) (u rest : Tokens) → ArrayItemsOf xs b u → Starts 1 (u ++ rest)
items_start _ _ _ rest (array_empty i j) = starts_s s.OpenSquare i (omega arith)
items_start _ _ _ rest (array_items i l j) = starts_s s.OpenSquare i (omega arith)

pub call_starts : (k : _) (t : Token) (u : Tokens) → CallOf k (t ∷ u) → rank t.lexeme ≡ 1
call_starts _ _ _ (call_is {f = f} {t = t} i io d a n ss k ic) = function_rank t.lexeme f i.is

pub basic_starts : (a : Expr) (u rest : Tokens) → BasicOf a u → Starts 1 (u ++ rest)
basic_starts _ _ rest (basic_integer {t = t} i) = equal_rank (integer_rank t.lexeme i.is) (omega arith)
basic_starts _ _ rest (basic_string {t = t} i) = equal_rank (text_rank t.lexeme i.is) (omega arith)
basic_starts _ _ rest (basic_bytes {t = t} i) = equal_rank (bytes_rank t.lexeme i.is) (omega arith)
basic_starts _ _ rest (basic_true i) = starts_r r.True i (omega arith)
basic_starts _ _ rest (basic_false i) = starts_r r.False i (omega arith)
basic_starts _ _ rest (basic_null i) = starts_r r.Null i (omega arith)
basic_starts _ _ rest (basic_date {t = t} i j) = equal_rank (ap rank (is_word i).is) (omega arith)
basic_starts _ _ rest (basic_parameter {t = t} i) = equal_rank (parameter_rank t.lexeme i.is) (omega arith)
basic_starts _ _ rest (basic_name i) = starts_n i (omega arith)
basic_starts _ _ rest (basic_call {t = t} {k = k} {u = u} l) = equal_rank (call_starts k t u l) (omega arith)
basic_starts _ _ rest (basic_safe_call i j h g) = equal_rank (ap rank (is_word i).is) (omega arith)
basic_starts _ _ rest (basic_group i l h j) = starts_s s.OpenRound i (omega arith)
basic_starts _ _ rest (basic_query i l j) = starts_s s.OpenRound i (omega arith)
basic_starts _ _ rest (basic_tuple i l j) = starts_s s.OpenRound i (omega arith)
basic_starts _ _ rest (basic_case i a b c d j) = starts_r r.Case i (omega arith)
basic_starts _ _ rest (basic_cast i j l g y h) = starts_r r.Cast i (omega arith)
basic_starts _ _ rest (basic_safe_cast i j l g y h) = equal_rank (ap rank (is_word i).is) (omega arith)
basic_starts _ _ rest (basic_extract i j g h l c) = starts_r r.Extract i (omega arith)
basic_starts _ _ rest (basic_grouping i j l c) = starts_r r.Grouping i (omega arith)
basic_starts _ _ rest (basic_exists i j l c) = starts_r r.Exists i (omega arith)
basic_starts _ _ rest (basic_array_query i j l c) = starts_r r.Array i (omega arith)
basic_starts _ _ rest (basic_array {b = b} {ms = xs} {u = u} l) = items_start xs b u rest l
basic_starts _ _ rest (basic_array_word i l) = starts_r r.Array i (omega arith)
basic_starts _ _ rest (basic_array_typed i j y g l) = starts_r r.Array i (omega arith)
basic_starts _ _ rest (basic_struct i j a b c) = starts_r r.Struct i (omega arith)
basic_starts _ _ rest (basic_typed_struct i j f g h l c) = starts_r r.Struct i (omega arith)
basic_starts _ _ rest (basic_with i j a b c l d) = starts_r r.With i (omega arith)

pub postfix_starts : (a : Expr) (u rest : Tokens) → PostfixOf a u → Starts 1 (u ++ rest)
postfix_starts _ _ rest (postfix_is {u = u} {v = v} l z) = starts_front u v rest (basic_starts _ u (v ++ rest) l)

pub unary_starts : (a : Expr) (u rest : Tokens) → UnaryOf a u → Starts 2 (u ++ rest)
unary_starts _ _ rest (unary_is {v = v} prefixes_none l) = starts_weak (omega arith) (postfix_starts _ v rest l)
unary_starts _ _ rest (unary_is (prefixes_more {t = t} {x = x} i z) l) = equal_rank (prefix_rank t.lexeme x i.is) (omega arith)

pub prod_starts : (a : Expr) (u rest : Tokens) → ProdOf a u → Starts 2 (u ++ rest)
prod_starts _ _ rest (prod_is {u = u} {v = v} l z) = starts_front u v rest (unary_starts _ u (v ++ rest) l)

pub sum_starts : (a : Expr) (u rest : Tokens) → SumOf a u → Starts 2 (u ++ rest)
sum_starts _ _ rest (sum_is {u = u} {v = v} l z) = starts_front u v rest (prod_starts _ u (v ++ rest) l)

pub shift_starts : (a : Expr) (u rest : Tokens) → ShiftOf a u → Starts 2 (u ++ rest)
shift_starts _ _ rest (shift_is {u = u} {v = v} l z) = starts_front u v rest (sum_starts _ u (v ++ rest) l)

pub band_starts : (a : Expr) (u rest : Tokens) → BandOf a u → Starts 2 (u ++ rest)
band_starts _ _ rest (band_is {u = u} {v = v} l z) = starts_front u v rest (shift_starts _ u (v ++ rest) l)

pub bxor_starts : (a : Expr) (u rest : Tokens) → BxorOf a u → Starts 2 (u ++ rest)
bxor_starts _ _ rest (bxor_is {u = u} {v = v} l z) = starts_front u v rest (band_starts _ u (v ++ rest) l)

pub bor_starts : (a : Expr) (u rest : Tokens) → BorOf a u → Starts 2 (u ++ rest)
bor_starts _ _ rest (bor_is {u = u} {v = v} l z) = starts_front u v rest (bxor_starts _ u (v ++ rest) l)

pub comp_starts : (a : Expr) (u rest : Tokens) → CompOf a u → Starts 2 (u ++ rest)
comp_starts _ _ rest (comp_bor {u = u} l) = bor_starts _ u rest l
comp_starts _ _ rest (comp_compare {u = u} l i m) = starts_front u _ rest (bor_starts _ u _ l)
comp_starts _ _ rest (comp_like {u = u} l i m) = starts_front u _ rest (bor_starts _ u _ l)
comp_starts _ _ rest (comp_like_list {u = u} l i j g m h) = starts_front u _ rest (bor_starts _ u _ l)
comp_starts _ _ rest (comp_like_unnest {u = u} l i j g h m c) = starts_front u _ rest (bor_starts _ u _ l)
comp_starts _ _ rest (comp_between {u = u} l i m j g) = starts_front u _ rest (bor_starts _ u _ l)
comp_starts _ _ rest (comp_in_list {u = u} l i j m h c) = starts_front u _ rest (bor_starts _ u _ l)
comp_starts _ _ rest (comp_in_query {u = u} l i j m c) = starts_front u _ rest (bor_starts _ u _ l)
comp_starts _ _ rest (comp_in_unnest {u = u} l i j g m c) = starts_front u _ rest (bor_starts _ u _ l)
comp_starts _ _ rest (comp_is {u = u} l i j) = starts_front u _ rest (bor_starts _ u _ l)
comp_starts _ _ rest (comp_distinct {u = u} l i j g m) = starts_front u _ rest (bor_starts _ u _ l)

pub neg_starts : (a : Expr) (u rest : Tokens) → NegOf a u → Starts 3 (u ++ rest)
neg_starts _ _ rest (neg_is {v = v} nots_none l) = starts_weak (omega arith) (comp_starts _ v rest l)
neg_starts _ _ rest (neg_is (nots_more i z) l) = starts_r r.Not i (omega arith)

pub conj_starts : (a : Expr) (u rest : Tokens) → ConjOf a u → Starts 3 (u ++ rest)
conj_starts _ _ rest (conj_is {u = u} {v = v} l z) = starts_front u v rest (neg_starts _ u (v ++ rest) l)

pub expr_starts : (a : Expr) (u rest : Tokens) → ExprOf a u → Starts 3 (u ++ rest)
expr_starts _ _ rest (expr_is {u = u} {v = v} l z) = starts_front u v rest (conj_starts _ u (v ++ rest) l)

pub list_starts : (xs : List Expr) (u rest : Tokens) → ListOf xs u → Starts 3 (u ++ rest)
list_starts _ _ rest (list_is {u = u} {v = v} l z) = starts_front u v rest (expr_starts _ u (v ++ rest) l)

-- ---- tails: the level of the operators of each chain

pub product_level : (t : Token) → tells product_of t ≡ true → level t.lexeme ≡ 2
product_level t h = by t.lexeme h
  where
    by : (x : Lexeme) → (elim (product_lexeme x) [ None ↦ false | Some a ↦ true ]) ≡ true → level x ≡ 2
    by (l.Sign s.Star) h = refl
    by (l.Sign s.BarBar) h = refl
    by (l.Sign _) h = absurd cc
    by _ h = absurd cc

pub sum_level : (t : Token) → tells sum_of t ≡ true → level t.lexeme ≡ 3
sum_level t h = by t.lexeme h
  where
    by : (x : Lexeme) → (elim (sum_lexeme x) [ None ↦ false | Some a ↦ true ]) ≡ true → level x ≡ 3
    by (l.Sign s.Plus) h = refl
    by (l.Sign s.Minus) h = refl
    by (l.Sign _) h = absurd cc
    by _ h = absurd cc

pub s_level : (x : Sign) (k : ℕ) → level (l.Sign x) ≡ k → (t : Token) → sign x t ≡ true → level t.lexeme ≡ k
s_level x k e t h = ap level (is_sign {t = t} (record { is = h })) ∙ e

pub r_level : (x : Reserved) (k : ℕ) → level (l.Reserved x) ≡ k → (t : Token) → reserved x t ≡ true → level t.lexeme ≡ k
r_level x k e t h = ap level (is_reserved {t = t} (record { is = h })) ∙ e

pub says_product : {t : Token} {o : Operator} → Says product_of t o → Is (tells product_of) t
says_product {t} {o} i = record { is = tells_is operator.Multiply product_of t o i }

pub says_sum : {t : Token} {o : Operator} → Says sum_of t o → Is (tells sum_of) t
says_sum {t} {o} i = record { is = tells_is operator.Add sum_of t o i }

pub prods_ahead : (ls : List (Link Expr)) (v : Tokens) → ProdsOf ls v → Ahead 2 v
prods_ahead _ _ prods_none = nothing_ahead
prods_ahead _ _ (prods_more {t = t} i l z) = level_ahead (product_level t (says_product i).is)

pub sums_ahead : (ls : List (Link Expr)) (v : Tokens) → SumsOf ls v → Ahead 3 v
sums_ahead _ _ sums_none = nothing_ahead
sums_ahead _ _ (sums_more {t = t} i l z) = level_ahead (sum_level t (says_sum i).is)

pub shifts_ahead : (ls : List (Link Expr)) (v : Tokens) → ShiftsOf ls v → Ahead 4 v
shifts_ahead _ _ shifts_none = nothing_ahead
shifts_ahead _ _ (shifts_left i l z) = s_ahead s.LessLess i
shifts_ahead _ _ (shifts_right i j l z) = s_ahead s.Greater i

pub bands_ahead : (ls : List (Link Expr)) (v : Tokens) → BandsOf ls v → Ahead 5 v
bands_ahead _ _ bands_none = nothing_ahead
bands_ahead _ _ (bands_more i l z) = s_ahead s.Ampersand i

pub bxors_ahead : (ls : List (Link Expr)) (v : Tokens) → BxorsOf ls v → Ahead 6 v
bxors_ahead _ _ bxors_none = nothing_ahead
bxors_ahead _ _ (bxors_more i l z) = s_ahead s.Caret i

pub bors_ahead : (ls : List (Link Expr)) (v : Tokens) → BorsOf ls v → Ahead 7 v
bors_ahead _ _ bors_none = nothing_ahead
bors_ahead _ _ (bors_more i l z) = s_ahead s.Bar i

pub ands_ahead : (ls : List (Link Expr)) (v : Tokens) → AndsOf ls v → Ahead 9 v
ands_ahead _ _ ands_none = nothing_ahead
ands_ahead _ _ (ands_more i l z) = r_ahead r.And i

pub ors_ahead : (ls : List (Link Expr)) (v : Tokens) → OrsOf ls v → Ahead 10 v
ors_ahead _ _ ors_none = nothing_ahead
ors_ahead _ _ (ors_more i l z) = r_ahead r.Or i

pub negatable_ahead : (x : Reserved) → level (l.Reserved x) ≡ 8 → (n : Bool) (p : ℕ) (u : Tokens) → NegatableOf x n p u → Ahead 8 u
negatable_ahead x e _ _ _ (not_negated {t = t} i) = level_ahead (r_level x 8 e t i.is)
negatable_ahead x e _ _ _ (is_negated i j) = r_ahead r.Not i

pub is_not_ahead : (n : Bool) (p : ℕ) (u : Tokens) → IsNotOf n p u → Ahead 8 u
is_not_ahead _ _ _ (is_plain i) = r_ahead r.Is i
is_not_ahead _ _ _ (is_not i j) = r_ahead r.Is i

part_ahead : (p : Part Expr) (u : Tokens) → PartOf p u → Ahead 1 u
part_ahead _ _ (part_field i j) = s_ahead s.Dot i
part_ahead _ _ (part_index i j io l ic id) = s_ahead s.OpenSquare i

pub parts_ahead : (ps : List (Part Expr)) (v : Tokens) → PartsOf ps v → Ahead 1 v
parts_ahead _ _ parts_none = nothing_ahead
parts_ahead _ _ (parts_more {p = p} {u = u} {v = v} l z) = record { ahead = λ k rest lt h. on v rest (part_ahead p u l) lt ((parts_ahead _ v z).ahead k rest lt h) }
