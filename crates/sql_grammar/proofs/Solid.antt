-- No word of an expression is empty, and each part of the grammar has a word.
use Rattle.std.proofs.Common.{◌≤◌, List, [], ◌++◌, length, arith}
use Rattle.std.proofs.lemmas.List.{length-append}
use Rattle.sql_types.specs.declared.kinds.SetKind.TheVariants as set
use Rattle.sql_names.specs.declared.words.Reserved.TheVariants as r
use Rattle.sql_ast.specs.declared.words.Sign.TheVariants as s
use Rattle.sql_ast.specs.declared.token.Token.{Token}
use Rattle.sql_ast.specs.declared.expr.Expr.{Expr}
use Rattle.sql_ast.specs.declared.query.Query.{Query}
use Rattle.sql_ast.specs.Marks.{Tokens}
use Rattle.sql_ast.specs.Parts.{nots_none, nots_more, prefixes_none, prefixes_more, select_none, as_struct_none, limit_none}
use Rattle.sql_ast.specs.Grammar.{ExprOf, expr_is, ors_none, ConjOf, conj_is, ands_none, NegOf, neg_is, CompOf, comp_bor, comp_compare, comp_like, comp_like_list, comp_like_unnest, comp_between, comp_in_list, comp_in_query, comp_in_unnest, comp_is, comp_distinct, BorOf, bor_is, bors_none, BxorOf, bxor_is, bxors_none, BandOf, band_is, bands_none, ShiftOf, shift_is, shifts_none, SumOf, sum_is, sums_none, ProdOf, prod_is, prods_none, UnaryOf, unary_is, PostfixOf, postfix_is, parts_none, BasicOf, basic_integer, basic_string, basic_bytes, basic_true, basic_false, basic_null, basic_date, basic_parameter, basic_name, basic_call, basic_safe_call, basic_group, basic_query, basic_tuple, basic_case, basic_cast, basic_safe_cast, basic_extract, basic_grouping, basic_exists, basic_array_query, basic_array, basic_array_word, basic_array_typed, basic_struct, basic_typed_struct, basic_with, ArrayItemsOf, array_empty, array_items, ListOf, list_is, QueryOf, query_is, ctes_none, body_is, set_terms_none, term_select, select_is, item_star, edit_is, except_none, replace_none, items_none, from_none, where_none, group_none, having_none, order_none}
use Rattle.sql_grammar.proofs.Marks.{some_integer, the_reserved, the_sign, is_example}

pub solid_front : (u v : Tokens) → 1 ≤ length u → 1 ≤ length (u ++ v)
solid_front u v h = let e = length-append u v in omega arith

solid_items : (xs : List Expr) (b : Token) (u : Tokens) → ArrayItemsOf xs b u → 1 ≤ length u
solid_items _ _ _ (array_empty i j) = omega arith
solid_items _ _ _ (array_items i l j) = omega arith

pub solid_basic : (a : Expr) (u : Tokens) → BasicOf a u → 1 ≤ length u
solid_basic _ _ (basic_integer i) = omega arith
solid_basic _ _ (basic_string i) = omega arith
solid_basic _ _ (basic_bytes i) = omega arith
solid_basic _ _ (basic_true i) = omega arith
solid_basic _ _ (basic_false i) = omega arith
solid_basic _ _ (basic_null i) = omega arith
solid_basic _ _ (basic_date i j) = omega arith
solid_basic _ _ (basic_parameter i) = omega arith
solid_basic _ _ (basic_name i) = omega arith
solid_basic _ _ (basic_call k) = omega arith
solid_basic _ _ (basic_safe_call i j g k) = omega arith
solid_basic _ _ (basic_group i l h j) = omega arith
solid_basic _ _ (basic_query i l j) = omega arith
solid_basic _ _ (basic_tuple i l j) = omega arith
solid_basic _ _ (basic_case i a b c d j) = omega arith
solid_basic _ _ (basic_cast i j l g y h) = omega arith
solid_basic _ _ (basic_safe_cast i j l g y h) = omega arith
solid_basic _ _ (basic_extract i j g h l c) = omega arith
solid_basic _ _ (basic_grouping i j l c) = omega arith
solid_basic _ _ (basic_exists i j l c) = omega arith
solid_basic _ _ (basic_array_query i j l c) = omega arith
solid_basic _ _ (basic_array {b = b} {ms = xs} {u = u} l) = solid_items xs b u l
solid_basic _ _ (basic_array_word i l) = omega arith
solid_basic _ _ (basic_array_typed i j y g l) = omega arith
solid_basic _ _ (basic_struct i j a b c) = omega arith
solid_basic _ _ (basic_typed_struct i j f g h l c) = omega arith
solid_basic _ _ (basic_with i j a b c l d) = omega arith

pub solid_postfix : (a : Expr) (u : Tokens) → PostfixOf a u → 1 ≤ length u
solid_postfix _ _ (postfix_is {u = u} {v = v} l s) = solid_front u v (solid_basic _ u l)

pub solid_unary : (a : Expr) (u : Tokens) → UnaryOf a u → 1 ≤ length u
solid_unary _ _ (unary_is {v = v} prefixes_none l) = solid_postfix _ v l
solid_unary _ _ (unary_is (prefixes_more i m) l) = omega arith

pub solid_prod : (a : Expr) (u : Tokens) → ProdOf a u → 1 ≤ length u
solid_prod _ _ (prod_is {u = u} {v = v} l s) = solid_front u v (solid_unary _ u l)

pub solid_sum : (a : Expr) (u : Tokens) → SumOf a u → 1 ≤ length u
solid_sum _ _ (sum_is {u = u} {v = v} l s) = solid_front u v (solid_prod _ u l)

pub solid_shift : (a : Expr) (u : Tokens) → ShiftOf a u → 1 ≤ length u
solid_shift _ _ (shift_is {u = u} {v = v} l s) = solid_front u v (solid_sum _ u l)

pub solid_band : (a : Expr) (u : Tokens) → BandOf a u → 1 ≤ length u
solid_band _ _ (band_is {u = u} {v = v} l s) = solid_front u v (solid_shift _ u l)

pub solid_bxor : (a : Expr) (u : Tokens) → BxorOf a u → 1 ≤ length u
solid_bxor _ _ (bxor_is {u = u} {v = v} l s) = solid_front u v (solid_band _ u l)

pub solid_bor : (a : Expr) (u : Tokens) → BorOf a u → 1 ≤ length u
solid_bor _ _ (bor_is {u = u} {v = v} l s) = solid_front u v (solid_bxor _ u l)

pub solid_comp : (a : Expr) (u : Tokens) → CompOf a u → 1 ≤ length u
solid_comp _ _ (comp_bor {u = u} l) = solid_bor _ u l
solid_comp _ _ (comp_compare {u = u} l i m) = solid_front u _ (solid_bor _ u l)
solid_comp _ _ (comp_like {u = u} l i m) = solid_front u _ (solid_bor _ u l)
solid_comp _ _ (comp_like_list {u = u} l i j g m h) = solid_front u _ (solid_bor _ u l)
solid_comp _ _ (comp_like_unnest {u = u} l i j g h m c) = solid_front u _ (solid_bor _ u l)
solid_comp _ _ (comp_between {u = u} l i m j g) = solid_front u _ (solid_bor _ u l)
solid_comp _ _ (comp_in_list {u = u} l i j m h c) = solid_front u _ (solid_bor _ u l)
solid_comp _ _ (comp_in_query {u = u} l i j m c) = solid_front u _ (solid_bor _ u l)
solid_comp _ _ (comp_in_unnest {u = u} l i j g m c) = solid_front u _ (solid_bor _ u l)
solid_comp _ _ (comp_is {u = u} l i j) = solid_front u _ (solid_bor _ u l)
solid_comp _ _ (comp_distinct {u = u} l i j g m) = solid_front u _ (solid_bor _ u l)

pub solid_neg : (a : Expr) (u : Tokens) → NegOf a u → 1 ≤ length u
solid_neg _ _ (neg_is {v = v} nots_none l) = solid_comp _ v l
solid_neg _ _ (neg_is (nots_more i m) l) = omega arith

pub solid_conj : (a : Expr) (u : Tokens) → ConjOf a u → 1 ≤ length u
solid_conj _ _ (conj_is {u = u} {v = v} l s) = solid_front u v (solid_neg _ u l)

pub solid_expr : (a : Expr) (u : Tokens) → ExprOf a u → 1 ≤ length u
solid_expr _ _ (expr_is {u = u} {v = v} l s) = solid_front u v (solid_conj _ u l)

pub solid_list : (xs : List Expr) (u : Tokens) → ListOf xs u → 1 ≤ length u
solid_list _ _ (list_is {u = u} {v = v} l s) = solid_front u v (solid_expr _ u l)

pub no_expr : (a : Expr) → ExprOf a [] → ⊥
no_expr a l = let h = solid_expr a [] l in omega arith

-- ---- a word of each

pub some_basic : (a : Expr) × (u : Tokens) × BasicOf a u
some_basic = (_, _, basic_integer (is_example some_integer))

pub some_postfix : (a : Expr) × (u : Tokens) × PostfixOf a u
some_postfix = (_, _, postfix_is (some_basic.2) parts_none)

pub some_unary : (a : Expr) × (u : Tokens) × UnaryOf a u
some_unary = (_, _, unary_is prefixes_none (some_postfix.2))

pub some_prod : (a : Expr) × (u : Tokens) × ProdOf a u
some_prod = (_, _, prod_is (some_unary.2) prods_none)

pub some_sum : (a : Expr) × (u : Tokens) × SumOf a u
some_sum = (_, _, sum_is (some_prod.2) sums_none)

pub some_shift : (a : Expr) × (u : Tokens) × ShiftOf a u
some_shift = (_, _, shift_is (some_sum.2) shifts_none)

pub some_band : (a : Expr) × (u : Tokens) × BandOf a u
some_band = (_, _, band_is (some_shift.2) bands_none)

pub some_bxor : (a : Expr) × (u : Tokens) × BxorOf a u
some_bxor = (_, _, bxor_is (some_band.2) bxors_none)

pub some_bor : (a : Expr) × (u : Tokens) × BorOf a u
some_bor = (_, _, bor_is (some_bxor.2) bors_none)

pub some_comp : (a : Expr) × (u : Tokens) × CompOf a u
some_comp = (_, _, comp_bor (some_bor.2))

pub some_neg : (a : Expr) × (u : Tokens) × NegOf a u
some_neg = (_, _, neg_is nots_none (some_comp.2))

pub some_conj : (a : Expr) × (u : Tokens) × ConjOf a u
some_conj = (_, _, conj_is (some_neg.2) ands_none)

pub some_expr : (a : Expr) × (u : Tokens) × ExprOf a u
some_expr = (_, _, expr_is (some_conj.2) ors_none)

pub some_query : (a : Query) × (u : Tokens) × QueryOf a u
some_query = (_, _, query_is ctes_none (body_is (term_select (select_is (is_example (the_reserved r.Select)) select_none as_struct_none (item_star (is_example (the_sign s.Star)) (edit_is except_none replace_none)) items_none from_none where_none group_none having_none)) (set_terms_none {k = set.UnionAll})) order_none limit_none)
