-- An expression that is a subquery is spelled by a query in brackets.
use Rattle.sql_ast.specs.declared.expr.Expr.TheViews.{outs-Integer, outs-Text, outs-Bytes, outs-Bool, outs-Null, outs-Date, outs-Parameter, outs-Name, outs-Call, outs-SafeCall, outs-Scalar, outs-Tuple, outs-Case, outs-Cast, outs-Extract, outs-Grouping, outs-Exists, outs-ArrayQuery, outs-Array, outs-Struct, outs-TypedStruct, outs-With, outs-Postfix, outs-Unary, outs-Not, outs-Or, outs-And, outs-BitOr, outs-BitXor, outs-BitAnd, outs-Shift, outs-Sum, outs-Product, outs-Compare, outs-Like, outs-LikeList, outs-LikeUnnest, outs-Between, outs-InList, outs-InQuery, outs-InUnnest, outs-Is, outs-Distinct}
use Rattle.std.proofs.Common.{◌≡◌, ℕ, true, false, List, [], ◌∷◌, ◌++◌, Some, None, refl, sym, ◌∙◌, ap, subst}
use Rattle.std.proofs.lemmas.List.{append-nil}
use Rattle.sql_ast.specs.declared.expr.Expr.{Expr, out-Expr}
use Rattle.sql_ast.specs.declared.expr.Expr.TheOpen.{Expr-F}
use Rattle.sql_ast.specs.declared.expr.Link.{Link}
use Rattle.sql_ast.specs.declared.expr.Part.{Part}
use Rattle.sql_ast.specs.declared.expr.Prefix.{Prefix}
use Rattle.sql_ast.specs.declared.query.FromItem.{FromItem}
use Rattle.sql_ast.specs.declared.query.Joined.{Joined}
use Rattle.sql_ast.specs.declared.query.Primary.{Primary}
use Rattle.sql_ast.specs.declared.query.Query.{Query}
use Rattle.sql_ast.specs.declared.query.Select.{Select}
use Rattle.sql_ast.specs.declared.query.Term.{Term}
use Rattle.sql_ast.specs.declared.expr.Expr.TheVariants as e
use Rattle.sql_ast.specs.declared.query.Term.TheVariants as term_kind
use Rattle.sql_ast.specs.Marks.{Tokens, spelled, number, content, start_of}
use Rattle.sql_ast.specs.Trees.{name_at, chain, nots, prefixes, path, subquery_layer, is_subquery}
use Rattle.sql_ast.specs.Grammar.{AndsOf, BandOf, BandsOf, BasicOf, BorOf, BorsOf, BxorOf, BxorsOf, CompOf, ConjOf, ExprOf, NegOf, OrsOf, PartsOf, PostfixOf, ProdOf, ProdsOf, ShiftOf, ShiftsOf, SumOf, SumsOf, TermOf, UnaryOf, ands_more, ands_none, band_is, bands_more, bands_none, basic_array, basic_array_query, basic_array_typed, basic_array_word, basic_bytes, basic_call, basic_case, basic_cast, basic_date, basic_exists, basic_extract, basic_false, basic_group, basic_grouping, basic_integer, basic_name, basic_null, basic_parameter, basic_query, basic_safe_call, basic_safe_cast, basic_string, basic_struct, basic_true, basic_tuple, basic_typed_struct, basic_with, bor_is, bors_more, bors_none, bxor_is, bxors_more, bxors_none, comp_between, comp_bor, comp_compare, comp_distinct, comp_in_list, comp_in_query, comp_in_unnest, comp_is, comp_like, comp_like_list, comp_like_unnest, conj_is, expr_is, neg_is, ors_more, ors_none, parts_more, parts_none, postfix_is, prod_is, prods_more, prods_none, shift_is, shifts_left, shifts_none, shifts_right, sum_is, sums_more, sums_none, term_query, unary_is}
use Rattle.sql_ast.specs.Parts.{NotsOf, PrefixesOf, nots_more, nots_none, prefixes_more, prefixes_none}
use Rattle.sql_grammar.specs.Exprs.{opening_layer, opening_of, Opening, term_read}

-- ---- subqueries

-- the first term of a query that an expression is
pub record TermText (o : Opening) (u : Tokens) : Type 0 where
  pub term : Term
  pub place : ℕ
  pub is : o ≡ term_read term place
  pub spells : TermOf term u
  pub here : place ≡ start_of u

-- an expression that is no subquery opens no query
shut_of : (a : Expr) (o : Opening) → opening_of a ≡ None → opening_of a ≡ Some o → ⊥
shut_of a o f e = let g = sym f ∙ e in cc

subquery_by : (y : Expr-F Expr Primary Term FromItem Joined Query Select) (o : Opening) → opening_layer y ≡ Some o → subquery_layer y ≡ true
subquery_by (Expr-F.Scalar q p) o e = refl
subquery_by _ o e = absurd cc

pub subquery_opens : (a : Expr) (o : Opening) → opening_of a ≡ Some o → is_subquery a ≡ true
unfolding opening_of is_subquery
subquery_opens a o e = subquery_by (out-Expr a) o e

no_subquery_by : (y : Expr-F Expr Primary Term FromItem Joined Query Select) → opening_layer y ≡ None → subquery_layer y ≡ false
no_subquery_by (Expr-F.Scalar q p) e = absurd cc
no_subquery_by _ e = refl

pub no_subquery_shuts : (a : Expr) → opening_of a ≡ None → is_subquery a ≡ false
unfolding opening_of is_subquery
no_subquery_shuts a e = no_subquery_by (out-Expr a) e

scalar_opens : (q : Query) (p : ℕ) (o : Opening) → opening_of (e.Scalar q p) ≡ Some o → o ≡ term_read (term_kind.Query q p) p
unfolding opening_of
scalar_opens q p o h = let g = sym (ap opening_layer (outs-Scalar q p)) ∙ h in cc

chain_opens : (make : Expr → List (Link Expr) → ℕ → Expr) → ((a : Expr) (ls : List (Link Expr)) (p : ℕ) → opening_of (make a ls p) ≡ None) → (a : Expr) (ls : List (Link Expr)) (p : ℕ) (o : Opening)
    → opening_of (chain make a ls p) ≡ Some o → (opening_of a ≡ Some o) × (ls ≡ [])
unfolding chain
chain_opens make none a [] p o e = (e, refl)
chain_opens make none a (l ∷ ls) p o e = absurd (shut_of (make a (l ∷ ls) p) o (none a (l ∷ ls) p) e)

kept_text : (o : Opening) (u v : Tokens) → v ≡ [] → TermText o u → TermText o (u ++ v)
kept_text o u v e h = subst (λ (w : Tokens). TermText o w) (sym (ap (λ (w : Tokens). u ++ w) e ∙ append-nil u)) h

basic_term : (a : Expr) (u : Tokens) → BasicOf a u → (o : Opening) → opening_of a ≡ Some o → TermText o u
unfolding opening_of
basic_term _ _ (basic_query {o = b} {q = q} i l j) o h = record { term = term_kind.Query q b.start; place = b.start; is = scalar_opens q b.start o h; spells = term_query i l j; here = refl }
basic_term _ _ (basic_group {a = a} i l g j) o h = absurd (let k = sym g ∙ subquery_opens a o h in cc)
basic_term _ _ (basic_integer {t = t} i) o z = absurd (shut_of (e.Integer (number t) t.start) o (ap opening_layer (outs-Integer (number t) t.start)) z)
basic_term _ _ (basic_string {t = t} i) o z = absurd (shut_of (e.Text (content t) t.start) o (ap opening_layer (outs-Text (content t) t.start)) z)
basic_term _ _ (basic_bytes {t = t} i) o z = absurd (shut_of (e.Bytes (content t) t.start) o (ap opening_layer (outs-Bytes (content t) t.start)) z)
basic_term _ _ (basic_true {t = t} i) o z = absurd (shut_of (e.Bool true t.start) o (ap opening_layer (outs-Bool true t.start)) z)
basic_term _ _ (basic_false {t = t} i) o z = absurd (shut_of (e.Bool false t.start) o (ap opening_layer (outs-Bool false t.start)) z)
basic_term _ _ (basic_null {t = t} i) o z = absurd (shut_of (e.Null t.start) o (ap opening_layer (outs-Null t.start)) z)
basic_term _ _ (basic_date {t = t} {x = x} i j) o z = absurd (shut_of (e.Date (content x) t.start) o (ap opening_layer (outs-Date (content x) t.start)) z)
basic_term _ _ (basic_parameter {t = t} i) o z = absurd (shut_of (e.Parameter (content t) t.start) o (ap opening_layer (outs-Parameter (content t) t.start)) z)
basic_term _ _ (basic_name {t = t} i) o z = absurd (shut_of (e.Name (spelled t) t.start) o (ap opening_layer (outs-Name (spelled t) t.start)) z)
basic_term _ _ (basic_call {t = t} {k = k} i) o z = absurd (shut_of (e.Call k t.start) o (ap opening_layer (outs-Call k t.start)) z)
basic_term _ _ (basic_safe_call {t = t} {k = k} i j g h) o z = absurd (shut_of (e.SafeCall k t.start) o (ap opening_layer (outs-SafeCall k t.start)) z)
basic_term _ _ (basic_tuple {o = b} {a = a} {b = c} {bs = bs} i j g) o z = absurd (shut_of (e.Tuple (a ∷ c ∷ bs) b.start) o (ap opening_layer (outs-Tuple (a ∷ c ∷ bs) b.start)) z)
basic_term _ _ (basic_case {t = t} {a = a} {o = d} {b = b} {bs = bs} i j g h k c) o z = absurd (shut_of (e.Case a (b ∷ bs) d t.start) o (ap opening_layer (outs-Case a (b ∷ bs) d t.start)) z)
basic_term _ _ (basic_cast {t = t} {a = a} {y = y} i j g h k c) o z = absurd (shut_of (e.Cast false a y t.start) o (ap opening_layer (outs-Cast false a y t.start)) z)
basic_term _ _ (basic_safe_cast {t = t} {a = a} {y = y} i j g h k c) o z = absurd (shut_of (e.Cast true a y t.start) o (ap opening_layer (outs-Cast true a y t.start)) z)
basic_term _ _ (basic_extract {t = t} {n = n} {a = a} i j g h k c) o z = absurd (shut_of (e.Extract (name_at n) a t.start) o (ap opening_layer (outs-Extract (name_at n) a t.start)) z)
basic_term _ _ (basic_grouping {t = t} {a = a} i j g h) o z = absurd (shut_of (e.Grouping a t.start) o (ap opening_layer (outs-Grouping a t.start)) z)
basic_term _ _ (basic_exists {t = t} {q = q} i j g h) o z = absurd (shut_of (e.Exists q t.start) o (ap opening_layer (outs-Exists q t.start)) z)
basic_term _ _ (basic_array_query {t = t} {o = b} {q = q} i j g h) o z = absurd (shut_of (e.ArrayQuery q b.start t.start) o (ap opening_layer (outs-ArrayQuery q b.start t.start)) z)
basic_term _ _ (basic_array {b = b} {ms = ms} i) o z = absurd (shut_of (e.Array None ms b.start b.start) o (ap opening_layer (outs-Array None ms b.start b.start)) z)
basic_term _ _ (basic_array_word {t = t} {b = b} {ms = ms} i j) o z = absurd (shut_of (e.Array None ms b.start t.start) o (ap opening_layer (outs-Array None ms b.start t.start)) z)
basic_term _ _ (basic_array_typed {t = t} {b = b} {y = y} {ms = ms} i j g h k) o z = absurd (shut_of (e.Array (Some y) ms b.start t.start) o (ap opening_layer (outs-Array (Some y) ms b.start t.start)) z)
basic_term _ _ (basic_struct {t = t} {a = a} {ms = ms} i j g h k) o z = absurd (shut_of (e.Struct (a ∷ ms) t.start) o (ap opening_layer (outs-Struct (a ∷ ms) t.start)) z)
basic_term _ _ (basic_typed_struct {t = t} {o = b} {fs = fs} {ms = ms} i j g h k c d) o z = absurd (shut_of (e.TypedStruct fs ms b.start t.start) o (ap opening_layer (outs-TypedStruct fs ms b.start t.start)) z)
basic_term _ _ (basic_with {t = t} {b = b} {bs = bs} {a = a} i j g h k c d) o z = absurd (shut_of (e.With (b ∷ bs) a t.start) o (ap opening_layer (outs-With (b ∷ bs) a t.start)) z)

parts_nil : (ps : List (Part Expr)) (v : Tokens) → PartsOf ps v → ps ≡ [] → v ≡ []
parts_nil _ _ parts_none e = refl
parts_nil _ _ (parts_more i s) e = absurd cc

path_opens : (a : Expr) (ps : List (Part Expr)) (p : ℕ) (o : Opening) → opening_of (path a ps p) ≡ Some o → (opening_of a ≡ Some o) × (ps ≡ [])
unfolding path opening_of
path_opens a [] p o e = (e, refl)
path_opens a (l ∷ ls) p o h = absurd (shut_of (e.Postfix a (l ∷ ls) p) o (ap opening_layer (outs-Postfix a (l ∷ ls) p)) h)

postfix_term : (a : Expr) (u : Tokens) → PostfixOf a u → (o : Opening) → opening_of a ≡ Some o → TermText o u
postfix_term _ _ (postfix_is {a = a} {ps = ps} {u = u} {v = v} l s) o h = let g = path_opens a ps (start_of u) o h in kept_text o u v (parts_nil ps v s g.1) (basic_term a u l o g.0)

prefixes_nil : (ps : List Prefix) (v : Tokens) → PrefixesOf ps v → ps ≡ [] → v ≡ []
prefixes_nil _ _ prefixes_none e = refl
prefixes_nil _ _ (prefixes_more i s) e = absurd cc

prefixes_open : (ps : List Prefix) (a : Expr) (o : Opening) → opening_of (prefixes ps a) ≡ Some o → (opening_of a ≡ Some o) × (ps ≡ [])
unfolding prefixes opening_of
prefixes_open [] a o e = (e, refl)
prefixes_open (p ∷ ps) a o h = absurd (shut_of (e.Unary (p ∷ ps) a p.place) o (ap opening_layer (outs-Unary (p ∷ ps) a p.place)) h)

unary_term : (a : Expr) (u : Tokens) → UnaryOf a u → (o : Opening) → opening_of a ≡ Some o → TermText o u
unary_term _ _ (unary_is {ps = ps} {a = a} {u = u} {v = v} s l) o h = let g = prefixes_open ps a o h in subst (λ (w : Tokens). TermText o (w ++ v)) (sym (prefixes_nil ps u s g.1)) (postfix_term a v l o g.0)

prods_nil : (ls : List (Link Expr)) (v : Tokens) → ProdsOf ls v → ls ≡ [] → v ≡ []
prods_nil _ _ prods_none e = refl
prods_nil _ _ (prods_more i l s) e = absurd cc

prod_term : (a : Expr) (u : Tokens) → ProdOf a u → (o : Opening) → opening_of a ≡ Some o → TermText o u
unfolding opening_of
prod_term _ _ (prod_is {a = a} {ls = ls} {u = u} {v = v} l s) o h = let g = chain_opens e.Product (λ a ls p. ap opening_layer (outs-Product a ls p)) a ls (start_of u) o h in kept_text o u v (prods_nil ls v s g.1) (unary_term a u l o g.0)

sums_nil : (ls : List (Link Expr)) (v : Tokens) → SumsOf ls v → ls ≡ [] → v ≡ []
sums_nil _ _ sums_none e = refl
sums_nil _ _ (sums_more i l s) e = absurd cc

sum_term : (a : Expr) (u : Tokens) → SumOf a u → (o : Opening) → opening_of a ≡ Some o → TermText o u
unfolding opening_of
sum_term _ _ (sum_is {a = a} {ls = ls} {u = u} {v = v} l s) o h = let g = chain_opens e.Sum (λ a ls p. ap opening_layer (outs-Sum a ls p)) a ls (start_of u) o h in kept_text o u v (sums_nil ls v s g.1) (prod_term a u l o g.0)

shifts_nil : (ls : List (Link Expr)) (v : Tokens) → ShiftsOf ls v → ls ≡ [] → v ≡ []
shifts_nil _ _ shifts_none e = refl
shifts_nil _ _ (shifts_left i l s) e = absurd cc
shifts_nil _ _ (shifts_right i j l s) e = absurd cc

shift_term : (a : Expr) (u : Tokens) → ShiftOf a u → (o : Opening) → opening_of a ≡ Some o → TermText o u
unfolding opening_of
shift_term _ _ (shift_is {a = a} {ls = ls} {u = u} {v = v} l s) o h = let g = chain_opens e.Shift (λ a ls p. ap opening_layer (outs-Shift a ls p)) a ls (start_of u) o h in kept_text o u v (shifts_nil ls v s g.1) (sum_term a u l o g.0)

bands_nil : (ls : List (Link Expr)) (v : Tokens) → BandsOf ls v → ls ≡ [] → v ≡ []
bands_nil _ _ bands_none e = refl
bands_nil _ _ (bands_more i l s) e = absurd cc

band_term : (a : Expr) (u : Tokens) → BandOf a u → (o : Opening) → opening_of a ≡ Some o → TermText o u
unfolding opening_of
band_term _ _ (band_is {a = a} {ls = ls} {u = u} {v = v} l s) o h = let g = chain_opens e.BitAnd (λ a ls p. ap opening_layer (outs-BitAnd a ls p)) a ls (start_of u) o h in kept_text o u v (bands_nil ls v s g.1) (shift_term a u l o g.0)

bxors_nil : (ls : List (Link Expr)) (v : Tokens) → BxorsOf ls v → ls ≡ [] → v ≡ []
bxors_nil _ _ bxors_none e = refl
bxors_nil _ _ (bxors_more i l s) e = absurd cc

bxor_term : (a : Expr) (u : Tokens) → BxorOf a u → (o : Opening) → opening_of a ≡ Some o → TermText o u
unfolding opening_of
bxor_term _ _ (bxor_is {a = a} {ls = ls} {u = u} {v = v} l s) o h = let g = chain_opens e.BitXor (λ a ls p. ap opening_layer (outs-BitXor a ls p)) a ls (start_of u) o h in kept_text o u v (bxors_nil ls v s g.1) (band_term a u l o g.0)

bors_nil : (ls : List (Link Expr)) (v : Tokens) → BorsOf ls v → ls ≡ [] → v ≡ []
bors_nil _ _ bors_none e = refl
bors_nil _ _ (bors_more i l s) e = absurd cc

bor_term : (a : Expr) (u : Tokens) → BorOf a u → (o : Opening) → opening_of a ≡ Some o → TermText o u
unfolding opening_of
bor_term _ _ (bor_is {a = a} {ls = ls} {u = u} {v = v} l s) o h = let g = chain_opens e.BitOr (λ a ls p. ap opening_layer (outs-BitOr a ls p)) a ls (start_of u) o h in kept_text o u v (bors_nil ls v s g.1) (bxor_term a u l o g.0)

comp_term : (a : Expr) (u : Tokens) → CompOf a u → (o : Opening) → opening_of a ≡ Some o → TermText o u
unfolding opening_of
comp_term _ _ (comp_bor {a = a} {u = u} l) o h = bor_term a u l o h
comp_term _ _ (comp_compare {a = a} {b = b} {c = c} {t = t} {u = u} l i k) o z = absurd (shut_of (e.Compare a c t.start b (start_of u)) o (ap opening_layer (outs-Compare a c t.start b (start_of u))) z)
comp_term _ _ (comp_like {a = a} {b = b} {n = n} {p = p} {u = u} l i k) o z = absurd (shut_of (e.Like a n p b (start_of u)) o (ap opening_layer (outs-Like a n p b (start_of u))) z)
comp_term _ _ (comp_like_list {a = a} {q = q} {bs = bs} {t = t} {u = u} l i j k g c) o z = absurd (shut_of (e.LikeList a q t.start bs (start_of u)) o (ap opening_layer (outs-LikeList a q t.start bs (start_of u))) z)
comp_term _ _ (comp_like_unnest {a = a} {b = b} {q = q} {t = t} {u = u} l i j k g c d) o z = absurd (shut_of (e.LikeUnnest a q t.start b (start_of u)) o (ap opening_layer (outs-LikeUnnest a q t.start b (start_of u))) z)
comp_term _ _ (comp_between {a = a} {b = b} {d = d} {n = n} {p = p} {u = u} l i k j g) o z = absurd (shut_of (e.Between a n p b d (start_of u)) o (ap opening_layer (outs-Between a n p b d (start_of u))) z)
comp_term _ _ (comp_in_list {a = a} {bs = bs} {n = n} {p = p} {u = u} l i j k g c) o z = absurd (shut_of (e.InList a n p bs (start_of u)) o (ap opening_layer (outs-InList a n p bs (start_of u))) z)
comp_term _ _ (comp_in_query {a = a} {q = q} {n = n} {p = p} {o = b} {u = u} l i j k c) o z = absurd (shut_of (e.InQuery a n p q b.start (start_of u)) o (ap opening_layer (outs-InQuery a n p q b.start (start_of u))) z)
comp_term _ _ (comp_in_unnest {a = a} {b = b} {n = n} {p = p} {u = u} l i j g k c) o z = absurd (shut_of (e.InUnnest a n p b (start_of u)) o (ap opening_layer (outs-InUnnest a n p b (start_of u))) z)
comp_term _ _ (comp_is {a = a} {n = n} {p = p} {i = k} {u = u} l i j) o z = absurd (shut_of (e.Is a n k p (start_of u)) o (ap opening_layer (outs-Is a n k p (start_of u))) z)
comp_term _ _ (comp_distinct {a = a} {b = b} {n = n} {p = p} {u = u} l i j g k) o z = absurd (shut_of (e.Distinct a n p b (start_of u)) o (ap opening_layer (outs-Distinct a n p b (start_of u))) z)

nots_nil : (ps : List ℕ) (v : Tokens) → NotsOf ps v → ps ≡ [] → v ≡ []
nots_nil _ _ nots_none e = refl
nots_nil _ _ (nots_more i s) e = absurd cc

nots_open : (ps : List ℕ) (a : Expr) (o : Opening) → opening_of (nots ps a) ≡ Some o → (opening_of a ≡ Some o) × (ps ≡ [])
unfolding nots opening_of
nots_open [] a o e = (e, refl)
nots_open (p ∷ ps) a o h = absurd (shut_of (e.Not (p ∷ ps) a p) o (ap opening_layer (outs-Not (p ∷ ps) a p)) h)

neg_term : (a : Expr) (u : Tokens) → NegOf a u → (o : Opening) → opening_of a ≡ Some o → TermText o u
neg_term _ _ (neg_is {ps = ps} {a = a} {u = u} {v = v} s l) o h = let g = nots_open ps a o h in subst (λ (w : Tokens). TermText o (w ++ v)) (sym (nots_nil ps u s g.1)) (comp_term a v l o g.0)

ands_nil : (ls : List (Link Expr)) (v : Tokens) → AndsOf ls v → ls ≡ [] → v ≡ []
ands_nil _ _ ands_none e = refl
ands_nil _ _ (ands_more i l s) e = absurd cc

conj_term : (a : Expr) (u : Tokens) → ConjOf a u → (o : Opening) → opening_of a ≡ Some o → TermText o u
unfolding opening_of
conj_term _ _ (conj_is {a = a} {ls = ls} {u = u} {v = v} l s) o h = let g = chain_opens e.And (λ a ls p. ap opening_layer (outs-And a ls p)) a ls (start_of u) o h in kept_text o u v (ands_nil ls v s g.1) (neg_term a u l o g.0)

ors_nil : (ls : List (Link Expr)) (v : Tokens) → OrsOf ls v → ls ≡ [] → v ≡ []
ors_nil _ _ ors_none e = refl
ors_nil _ _ (ors_more i l s) e = absurd cc

pub expr_term : (a : Expr) (u : Tokens) → ExprOf a u → (o : Opening) → opening_of a ≡ Some o → TermText o u
unfolding opening_of
expr_term _ _ (expr_is {a = a} {ls = ls} {u = u} {v = v} l s) o h = let g = chain_opens e.Or (λ a ls p. ap opening_layer (outs-Or a ls p)) a ls (start_of u) o h in kept_text o u v (ors_nil ls v s g.1) (conj_term a u l o g.0)
