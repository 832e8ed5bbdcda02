-- The postfix expression with which an expression begins that begins with neither NOT nor a prefix; and a basic expression as
-- a whole one.
use Rattle.std.proofs.Common.{◌≡◌, ℕ, ◌<◌, ◌≤◌, Bool, [], ◌∷◌, ◌++◌, length, Some, refl, sym, ◌∙◌, ap, subst, arith}
use Rattle.std.proofs.lemmas.List.{append_assoc, append-nil}
use Rattle.sql_ast.specs.declared.expr.Comparison.{Comparison}
use Rattle.sql_ast.specs.declared.expr.Expr.{Expr}
use Rattle.sql_names.specs.declared.words.Reserved.{Reserved}
use Rattle.sql_names.specs.declared.words.Reserved.TheVariants as r
use Rattle.sql_ast.specs.declared.words.Sign.TheVariants as s
use Rattle.sql_ast.specs.declared.token.Token.{Token}
use Rattle.sql_ast.specs.declared.token.Lexeme.{Lexeme}
use Rattle.sql_ast.specs.declared.token.Lexeme.TheVariants as l
use Rattle.sql_ast.specs.Marks.{Tokens}
use Rattle.sql_ast.specs.Trees.{chain, nots, prefixes, path, comparison_lexeme}
use Rattle.sql_ast.specs.Parts.{nots_none, nots_more, prefixes_none, prefixes_more, NegatableOf, not_negated, is_negated, IsNotOf, is_plain, is_not}
use Rattle.sql_ast.specs.Grammar.{ExprOf, expr_is, ors_none, ConjOf, conj_is, ands_none, NegOf, neg_is, CompOf, comp_bor, comp_compare, comp_like, comp_like_list, comp_like_unnest, comp_between, comp_in_list, comp_in_query, comp_in_unnest, comp_is, comp_distinct, BorOf, bor_is, bors_none, BxorOf, bxor_is, bxors_none, BandOf, band_is, bands_none, ShiftOf, shift_is, shifts_none, SumOf, sum_is, sums_none, ProdOf, prod_is, prods_none, UnaryOf, unary_is, PostfixOf, postfix_is, parts_none, BasicOf}
use Rattle.sql_grammar.proofs.Follows.{Over, Starts, level, rank, is_reserved}
use Rattle.sql_grammar.proofs.CompleteSteps.{Ahead, over_r}
use Rattle.sql_grammar.proofs.CompleteStarts.{prefix_rank, prods_ahead, sums_ahead, shifts_ahead, bands_ahead, bxors_ahead, bors_ahead, ands_ahead, ors_ahead, negatable_ahead, is_not_ahead}

-- a postfix expression, and behind it only what doesn't go on with a postfix
pub record FrontPart (w : Tokens) : Type 0 where
  pub first : Expr
  pub text : Tokens
  pub more : Tokens
  pub spells : PostfixOf first text
  pub splits : w ≡ text ++ more
  pub follows : (rest : Tokens) → Over 1 rest → Over 1 (more ++ rest)

behind : (u v : Tokens) → FrontPart u → ((rest : Tokens) → Over 1 rest → Over 1 (v ++ rest)) → FrontPart (u ++ v)
behind u v x h = record {
  first = x.first;
  text = x.text;
  more = x.more ++ v;
  spells = x.spells;
  splits = ap (λ (w : Tokens). w ++ v) x.splits ∙ append_assoc x.text x.more v;
  follows = λ rest o. subst (Over 1) (sym (append_assoc x.more v rest)) (x.follows (v ++ rest) (h rest o));
}

tail : {k : ℕ} (v : Tokens) → 1 < k → Ahead k v → (rest : Tokens) → Over 1 rest → Over 1 (v ++ rest)
tail v lt x rest o = x.ahead 1 rest lt o

regroup : (u v rest : Tokens) → Starts 1 ((u ++ v) ++ rest) → Starts 1 (u ++ (v ++ rest))
regroup u v rest h = subst (Starts 1) (append_assoc u v rest) h

not_ranked : {t : Token} {ts : Tokens} (k : ℕ) → Starts 1 (t ∷ ts) → rank t.lexeme ≡ k → 1 < k → ⊥
not_ranked k h e lt = let g = h.starts in omega arith

unary_front : (a : Expr) (u : Tokens) → UnaryOf a u → (rest : Tokens) → Starts 1 (u ++ rest) → FrontPart u
unary_front _ _ (unary_is {a = a} {v = v} prefixes_none l) rest h = record { first = a; text = v; more = []; spells = l; splits = sym (append-nil v); follows = λ rest o. o }
unary_front _ _ (unary_is (prefixes_more {t = t} {x = x} i z) l) rest h = absurd (not_ranked 2 h (prefix_rank t.lexeme x i.is) (omega arith))

prod_front : (a : Expr) (u : Tokens) → ProdOf a u → (rest : Tokens) → Starts 1 (u ++ rest) → FrontPart u
prod_front _ _ (prod_is {a = a} {ls = ls} {u = u} {v = v} l z) rest h = behind u v (unary_front a u l (v ++ rest) (regroup u v rest h)) (tail v (omega arith) (prods_ahead ls v z))

sum_front : (a : Expr) (u : Tokens) → SumOf a u → (rest : Tokens) → Starts 1 (u ++ rest) → FrontPart u
sum_front _ _ (sum_is {a = a} {ls = ls} {u = u} {v = v} l z) rest h = behind u v (prod_front a u l (v ++ rest) (regroup u v rest h)) (tail v (omega arith) (sums_ahead ls v z))

shift_front : (a : Expr) (u : Tokens) → ShiftOf a u → (rest : Tokens) → Starts 1 (u ++ rest) → FrontPart u
shift_front _ _ (shift_is {a = a} {ls = ls} {u = u} {v = v} l z) rest h = behind u v (sum_front a u l (v ++ rest) (regroup u v rest h)) (tail v (omega arith) (shifts_ahead ls v z))

band_front : (a : Expr) (u : Tokens) → BandOf a u → (rest : Tokens) → Starts 1 (u ++ rest) → FrontPart u
band_front _ _ (band_is {a = a} {ls = ls} {u = u} {v = v} l z) rest h = behind u v (shift_front a u l (v ++ rest) (regroup u v rest h)) (tail v (omega arith) (bands_ahead ls v z))

bxor_front : (a : Expr) (u : Tokens) → BxorOf a u → (rest : Tokens) → Starts 1 (u ++ rest) → FrontPart u
bxor_front _ _ (bxor_is {a = a} {ls = ls} {u = u} {v = v} l z) rest h = behind u v (band_front a u l (v ++ rest) (regroup u v rest h)) (tail v (omega arith) (bxors_ahead ls v z))

bor_front : (a : Expr) (u : Tokens) → BorOf a u → (rest : Tokens) → Starts 1 (u ++ rest) → FrontPart u
bor_front _ _ (bor_is {a = a} {ls = ls} {u = u} {v = v} l z) rest h = behind u v (bxor_front a u l (v ++ rest) (regroup u v rest h)) (tail v (omega arith) (bors_ahead ls v z))

compare_level : (c : Comparison) (x : Lexeme) → comparison_lexeme x ≡ Some c → 1 < level x
compare_level c (l.Sign s.Greater) h = omega arith
compare_level c (l.Sign s.Equal) h = omega arith
compare_level c (l.Sign s.BangEqual) h = omega arith
compare_level c (l.Sign s.LessGreater) h = omega arith
compare_level c (l.Sign s.Less) h = omega arith
compare_level c (l.Sign s.LessEqual) h = omega arith
compare_level c (l.Sign s.GreaterEqual) h = omega arith
compare_level c (l.Sign _) h = absurd cc
compare_level c _ h = absurd cc

-- behind the first operand of a comparison
compared : (u w : Tokens) (a : Expr) → BorOf a u → (rest : Tokens) → Starts 1 ((u ++ w) ++ rest) → ((rest : Tokens) → Over 1 (w ++ rest)) → FrontPart (u ++ w)
compared u w a l rest h g = behind u w (bor_front a u l (w ++ rest) (regroup u w rest h)) (λ rest o. g rest)

-- a front that isn't empty decides
decided : (u w rest : Tokens) → Ahead 8 u → 1 ≤ length u → Over 1 ((u ++ w) ++ rest)
decided [] w rest h le = absurd (omega arith)
decided (t ∷ u) w rest h le = record { over = (h.ahead 1 [] (omega arith) (record { over = omega arith })).over }

negatable_solid : (x : Reserved) (n : Bool) (p : ℕ) (u : Tokens) → NegatableOf x n p u → 1 ≤ length u
negatable_solid x _ _ _ (not_negated i) = omega arith
negatable_solid x _ _ _ (is_negated i j) = omega arith

is_not_solid : (n : Bool) (p : ℕ) (u : Tokens) → IsNotOf n p u → 1 ≤ length u
is_not_solid _ _ _ (is_plain i) = omega arith
is_not_solid _ _ _ (is_not i j) = omega arith

by_negatable : (x : Reserved) → level (l.Reserved x) ≡ 8 → (n : Bool) (p : ℕ) (u : Tokens) → NegatableOf x n p u → (w rest : Tokens) → Over 1 ((u ++ w) ++ rest)
by_negatable x e n p u i w rest = decided u w rest (negatable_ahead x e n p u i) (negatable_solid x n p u i)

by_is_not : (n : Bool) (p : ℕ) (u : Tokens) → IsNotOf n p u → (w rest : Tokens) → Over 1 ((u ++ w) ++ rest)
by_is_not n p u i w rest = decided u w rest (is_not_ahead n p u i) (is_not_solid n p u i)

comp_front : (a : Expr) (u : Tokens) → CompOf a u → (rest : Tokens) → Starts 1 (u ++ rest) → FrontPart u
comp_front _ _ (comp_bor {a = a} {u = u} l) rest h = bor_front a u l rest h
comp_front _ _ (comp_compare {a = a} {c = c} {t = t} {u = u} l i m) rest h = compared u _ a l rest h (λ rest. record { over = compare_level c t.lexeme i.is })
comp_front _ _ (comp_like {a = a} {n = n} {p = p} {u = u} {x = x} l i m) rest h = compared u _ a l rest h (by_negatable r.Like refl n p x i _)
comp_front _ _ (comp_like_list {a = a} {u = u} l i j g m c) rest h = compared u _ a l rest h (λ rest. over_r r.Like i (omega arith))
comp_front _ _ (comp_like_unnest {a = a} {u = u} l i j g k m c) rest h = compared u _ a l rest h (λ rest. over_r r.Like i (omega arith))
comp_front _ _ (comp_between {a = a} {n = n} {p = p} {u = u} {x = x} l i m j g) rest h = compared u _ a l rest h (by_negatable r.Between refl n p x i _)
comp_front _ _ (comp_in_list {a = a} {n = n} {p = p} {u = u} {x = x} l i j m g c) rest h = compared u _ a l rest h (by_negatable r.In refl n p x i _)
comp_front _ _ (comp_in_query {a = a} {n = n} {p = p} {u = u} {x = x} l i j m c) rest h = compared u _ a l rest h (by_negatable r.In refl n p x i _)
comp_front _ _ (comp_in_unnest {a = a} {n = n} {p = p} {u = u} {x = x} l i j g m c) rest h = compared u _ a l rest h (by_negatable r.In refl n p x i _)
comp_front _ _ (comp_is {a = a} {n = n} {p = p} {u = u} {x = x} l i j) rest h = compared u _ a l rest h (by_is_not n p x i _)
comp_front _ _ (comp_distinct {a = a} {n = n} {p = p} {u = u} {x = x} l i j g m) rest h = compared u _ a l rest h (by_is_not n p x i _)

neg_front : (a : Expr) (u : Tokens) → NegOf a u → (rest : Tokens) → Starts 1 (u ++ rest) → FrontPart u
neg_front _ _ (neg_is {a = a} {v = v} nots_none l) rest h = comp_front a v l rest h
neg_front _ _ (neg_is (nots_more {t = t} i z) l) rest h = absurd (not_ranked 3 h (ap rank (is_reserved i)) (omega arith))

conj_front : (a : Expr) (u : Tokens) → ConjOf a u → (rest : Tokens) → Starts 1 (u ++ rest) → FrontPart u
conj_front _ _ (conj_is {a = a} {ls = ls} {u = u} {v = v} l z) rest h = behind u v (neg_front a u l (v ++ rest) (regroup u v rest h)) (tail v (omega arith) (ands_ahead ls v z))

pub expr_front : (a : Expr) (u : Tokens) → ExprOf a u → (rest : Tokens) → Starts 1 (u ++ rest) → FrontPart u
expr_front _ _ (expr_is {a = a} {ls = ls} {u = u} {v = v} l z) rest h = behind u v (conj_front a u l (v ++ rest) (regroup u v rest h)) (tail v (omega arith) (ors_ahead ls v z))

-- ---- a basic expression is one

pub basic_expr : (a : Expr) (u : Tokens) → BasicOf a u → ExprOf a u
unfolding chain nots prefixes path
basic_expr a u l =
    let h0 : PostfixOf a u = subst (PostfixOf a) (append-nil u) (postfix_is l parts_none) in
    let h1 : UnaryOf a u = unary_is prefixes_none h0 in
    let h2 : ProdOf a u = subst (ProdOf a) (append-nil u) (prod_is h1 prods_none) in
    let h3 : SumOf a u = subst (SumOf a) (append-nil u) (sum_is h2 sums_none) in
    let h4 : ShiftOf a u = subst (ShiftOf a) (append-nil u) (shift_is h3 shifts_none) in
    let h5 : BandOf a u = subst (BandOf a) (append-nil u) (band_is h4 bands_none) in
    let h6 : BxorOf a u = subst (BxorOf a) (append-nil u) (bxor_is h5 bxors_none) in
    let h7 : BorOf a u = subst (BorOf a) (append-nil u) (bor_is h6 bors_none) in
    let h8 : NegOf a u = neg_is nots_none (comp_bor h7) in
    let h9 : ConjOf a u = subst (ConjOf a) (append-nil u) (conj_is h8 ands_none) in
    subst (ExprOf a) (append-nil u) (expr_is h9 ors_none)
