-- A list of grouping that is no list but an expression isn't a tuple: what its first brackets hold is told from the tokens.
use Rattle.std.proofs.Common.{◌≡◌, ℕ, suc, Bool, true, false, List, [], ◌∷◌, ◌++◌, length, refl, sym, ◌∙◌, ap, subst, arith}
use Rattle.std.proofs.lemmas.List.{append_assoc, append-nil}
use Rattle.fronts.specs.Readers.{taken}
use Rattle.sql_ast.specs.declared.words.Sign.TheVariants as s
use Rattle.sql_ast.specs.declared.token.Token.{Token}
use Rattle.sql_ast.specs.declared.expr.Expr.{Expr, out-Expr}
use Rattle.sql_ast.specs.declared.expr.Expr.TheVariants as e
use Rattle.sql_ast.specs.declared.expr.Expr.TheOpen.{Expr-F}
use Rattle.sql_ast.specs.declared.grouping.GroupItem.TheVariants as group_item
use Rattle.sql_ast.specs.declared.query.Primary.{Primary}
use Rattle.sql_ast.specs.declared.query.Term.{Term}
use Rattle.sql_ast.specs.declared.query.FromItem.{FromItem}
use Rattle.sql_ast.specs.declared.query.Joined.{Joined}
use Rattle.sql_ast.specs.declared.query.Query.{Query}
use Rattle.sql_ast.specs.declared.query.Select.{Select}
use Rattle.sql_ast.specs.Marks.{Tokens, Is, sign as sign_test}
use Rattle.sql_ast.specs.Trees.{chain, nots, prefixes, path, alone}
use Rattle.sql_ast.specs.Parts.{nots_none, nots_more, prefixes_none, prefixes_more}
use Rattle.sql_ast.specs.Grammar.{ExprOf, expr_is, ors_none, ors_more, ConjOf, conj_is, ands_none, ands_more, NegOf, neg_is, CompOf, comp_bor, comp_compare, comp_like, comp_like_list, comp_like_unnest, comp_between, comp_in_list, comp_in_query, comp_in_unnest, comp_is, comp_distinct, BorOf, bor_is, bors_none, bors_more, BxorOf, bxor_is, bxors_none, bxors_more, BandOf, band_is, bands_none, bands_more, ShiftOf, shift_is, shifts_none, shifts_left, shifts_right, SumOf, sum_is, sums_none, sums_more, ProdOf, prod_is, prods_none, prods_more, UnaryOf, unary_is, PostfixOf, postfix_is, parts_none, parts_more, BasicOf, basic_group, basic_tuple, list_is, commas_none, basic_integer, basic_string, basic_bytes, basic_true, basic_false, basic_null, basic_date, basic_parameter, basic_name, basic_call, basic_safe_call, basic_query, basic_case, basic_cast, basic_safe_cast, basic_extract, basic_grouping, basic_exists, basic_array_query, basic_array, basic_array_word, basic_array_typed, basic_struct, basic_typed_struct, basic_with, GroupItemOf, gitem_expr, gitem_longer, gitem_query}
use Rattle.sql_grammar.specs.Knot.{below}
use Rattle.sql_grammar.specs.Exprs.{Held, held_query, held_exprs, enclosed}
use Rattle.sql_grammar.proofs.Basics.{HeldOf, holds_query, holds_exprs}
use Rattle.sql_grammar.proofs.CompleteHeld.{held_read}
use Rattle.sql_grammar.proofs.CompleteQueries.{reading}

abbrev pub tuple_layer : {E P T F J Q S : Type 0} → Expr-F E P T F J Q S → Bool
tuple_layer (Expr-F.Tuple es p) = true
tuple_layer _ = false

-- an expression that is several ones in brackets
unfoldable pub is_tuple : Expr → Bool
is_tuple a = tuple_layer (out-Expr a)

pub not_tuple : {A : Type 0} (a : Expr) (z : Expr-F Expr Primary Term FromItem Joined Query Select) → out-Expr a ≡ z → tuple_layer z ≡ false → is_tuple a ≡ true → A
unfolding is_tuple
not_tuple a z is other h = absurd (let g : true ≡ false = sym h ∙ ap tuple_layer is ∙ other in cc)

-- ---- the tokens of a tuple: one pair of brackets, and nothing else

record Closed (u : Tokens) : Type 0 where
  pub first : Token
  pub inside : Tokens
  pub items : List Expr
  pub is : u ≡ first ∷ inside
  pub opens : Is (sign_test s.OpenRound) first
  pub holds : HeldOf (held_exprs items) inside

bare : (u : Tokens) → Closed u → Closed (u ++ [])
bare u x = subst Closed (sym (append-nil u)) x

mutual
  unfolding chain nots prefixes path alone

  closed_expr : (a : Expr) (u : Tokens) → ExprOf a u → is_tuple a ≡ true → Closed u
  closed_expr _ _ (expr_is {a = a} {u = u} z ors_none) h = bare u (closed_conj a u z h)
  closed_expr _ _ (expr_is z (ors_more i k m)) h = not_tuple _ _ (e.outs-Or _ _ _) refl h

  closed_conj : (a : Expr) (u : Tokens) → ConjOf a u → is_tuple a ≡ true → Closed u
  closed_conj _ _ (conj_is {a = a} {u = u} z ands_none) h = bare u (closed_neg a u z h)
  closed_conj _ _ (conj_is z (ands_more i k m)) h = not_tuple _ _ (e.outs-And _ _ _) refl h

  closed_neg : (a : Expr) (u : Tokens) → NegOf a u → is_tuple a ≡ true → Closed u
  closed_neg _ _ (neg_is {a = a} {v = v} nots_none z) h = closed_comp a v z h
  closed_neg _ _ (neg_is (nots_more i m) z) h = not_tuple _ _ (e.outs-Not _ _ _) refl h

  closed_comp : (a : Expr) (u : Tokens) → CompOf a u → is_tuple a ≡ true → Closed u
  closed_comp a u (comp_bor z) h = closed_bor a u z h
  closed_comp _ _ (comp_compare l i m) h = not_tuple _ _ (e.outs-Compare _ _ _ _ _) refl h
  closed_comp _ _ (comp_like l i m) h = not_tuple _ _ (e.outs-Like _ _ _ _ _) refl h
  closed_comp _ _ (comp_like_list l i j g m k) h = not_tuple _ _ (e.outs-LikeList _ _ _ _ _) refl h
  closed_comp _ _ (comp_like_unnest l i j g k m c) h = not_tuple _ _ (e.outs-LikeUnnest _ _ _ _ _) refl h
  closed_comp _ _ (comp_between l i m j g) h = not_tuple _ _ (e.outs-Between _ _ _ _ _ _) refl h
  closed_comp _ _ (comp_in_list l i j m k c) h = not_tuple _ _ (e.outs-InList _ _ _ _ _) refl h
  closed_comp _ _ (comp_in_query l i j m c) h = not_tuple _ _ (e.outs-InQuery _ _ _ _ _ _) refl h
  closed_comp _ _ (comp_in_unnest l i j g m c) h = not_tuple _ _ (e.outs-InUnnest _ _ _ _ _) refl h
  closed_comp _ _ (comp_is l i j) h = not_tuple _ _ (e.outs-Is _ _ _ _ _) refl h
  closed_comp _ _ (comp_distinct l i j g m) h = not_tuple _ _ (e.outs-Distinct _ _ _ _ _) refl h

  closed_bor : (a : Expr) (u : Tokens) → BorOf a u → is_tuple a ≡ true → Closed u
  closed_bor _ _ (bor_is {a = a} {u = u} z bors_none) h = bare u (closed_bxor a u z h)
  closed_bor _ _ (bor_is z (bors_more i k m)) h = not_tuple _ _ (e.outs-BitOr _ _ _) refl h

  closed_bxor : (a : Expr) (u : Tokens) → BxorOf a u → is_tuple a ≡ true → Closed u
  closed_bxor _ _ (bxor_is {a = a} {u = u} z bxors_none) h = bare u (closed_band a u z h)
  closed_bxor _ _ (bxor_is z (bxors_more i k m)) h = not_tuple _ _ (e.outs-BitXor _ _ _) refl h

  closed_band : (a : Expr) (u : Tokens) → BandOf a u → is_tuple a ≡ true → Closed u
  closed_band _ _ (band_is {a = a} {u = u} z bands_none) h = bare u (closed_shift a u z h)
  closed_band _ _ (band_is z (bands_more i k m)) h = not_tuple _ _ (e.outs-BitAnd _ _ _) refl h

  closed_shift : (a : Expr) (u : Tokens) → ShiftOf a u → is_tuple a ≡ true → Closed u
  closed_shift _ _ (shift_is {a = a} {u = u} z shifts_none) h = bare u (closed_sum a u z h)
  closed_shift _ _ (shift_is z (shifts_left i k m)) h = not_tuple _ _ (e.outs-Shift _ _ _) refl h
  closed_shift _ _ (shift_is z (shifts_right i j k m)) h = not_tuple _ _ (e.outs-Shift _ _ _) refl h

  closed_sum : (a : Expr) (u : Tokens) → SumOf a u → is_tuple a ≡ true → Closed u
  closed_sum _ _ (sum_is {a = a} {u = u} z sums_none) h = bare u (closed_prod a u z h)
  closed_sum _ _ (sum_is z (sums_more i k m)) h = not_tuple _ _ (e.outs-Sum _ _ _) refl h

  closed_prod : (a : Expr) (u : Tokens) → ProdOf a u → is_tuple a ≡ true → Closed u
  closed_prod _ _ (prod_is {a = a} {u = u} z prods_none) h = bare u (closed_unary a u z h)
  closed_prod _ _ (prod_is z (prods_more i k m)) h = not_tuple _ _ (e.outs-Product _ _ _) refl h

  closed_unary : (a : Expr) (u : Tokens) → UnaryOf a u → is_tuple a ≡ true → Closed u
  closed_unary _ _ (unary_is {a = a} {v = v} prefixes_none z) h = closed_postfix a v z h
  closed_unary _ _ (unary_is (prefixes_more i m) z) h = not_tuple _ _ (e.outs-Unary _ _ _) refl h

  closed_postfix : (a : Expr) (u : Tokens) → PostfixOf a u → is_tuple a ≡ true → Closed u
  closed_postfix _ _ (postfix_is {a = a} {u = u} z parts_none) h = bare u (closed_basic a u z h)
  closed_postfix _ _ (postfix_is z (parts_more i m)) h = not_tuple _ _ (e.outs-Postfix _ _ _) refl h

  closed_basic : (a : Expr) (u : Tokens) → BasicOf a u → is_tuple a ≡ true → Closed u
  closed_basic _ _ (basic_group {o = o} {c = c} {a = a} {v = v} io z lone ic) h = record {
    first = o;
    inside = v ++ (c ∷ []);
    items = a ∷ [];
    is = refl;
    opens = io;
    holds = subst (λ (w : Tokens). HeldOf (held_exprs (a ∷ [])) (w ++ (c ∷ []))) (append-nil v) (holds_exprs (list_is z commas_none) lone ic);
  }
  closed_basic _ _ (basic_tuple {o = o} {c = c} {a = a} {b = b} {bs = bs} {v = v} io z ic) h = record { first = o; inside = v ++ (c ∷ []); items = a ∷ b ∷ bs; is = refl; opens = io; holds = holds_exprs z refl ic }
  closed_basic _ _ (basic_integer i) h = not_tuple _ _ (e.outs-Integer _ _) refl h
  closed_basic _ _ (basic_string i) h = not_tuple _ _ (e.outs-Text _ _) refl h
  closed_basic _ _ (basic_bytes i) h = not_tuple _ _ (e.outs-Bytes _ _) refl h
  closed_basic _ _ (basic_true i) h = not_tuple _ _ (e.outs-Bool _ _) refl h
  closed_basic _ _ (basic_false i) h = not_tuple _ _ (e.outs-Bool _ _) refl h
  closed_basic _ _ (basic_null i) h = not_tuple _ _ (e.outs-Null _) refl h
  closed_basic _ _ (basic_date i j) h = not_tuple _ _ (e.outs-Date _ _) refl h
  closed_basic _ _ (basic_parameter i) h = not_tuple _ _ (e.outs-Parameter _ _) refl h
  closed_basic _ _ (basic_name i) h = not_tuple _ _ (e.outs-Name _ _) refl h
  closed_basic _ _ (basic_call k) h = not_tuple _ _ (e.outs-Call _ _) refl h
  closed_basic _ _ (basic_safe_call i j g k) h = not_tuple _ _ (e.outs-SafeCall _ _) refl h
  closed_basic _ _ (basic_query i l j) h = not_tuple _ _ (e.outs-Scalar _ _) refl h
  closed_basic _ _ (basic_case i a b c d j) h = not_tuple _ _ (e.outs-Case _ _ _ _) refl h
  closed_basic _ _ (basic_cast i j l g y k) h = not_tuple _ _ (e.outs-Cast _ _ _ _) refl h
  closed_basic _ _ (basic_safe_cast i j l g y k) h = not_tuple _ _ (e.outs-Cast _ _ _ _) refl h
  closed_basic _ _ (basic_extract i j g k l c) h = not_tuple _ _ (e.outs-Extract _ _ _) refl h
  closed_basic _ _ (basic_grouping i j l c) h = not_tuple _ _ (e.outs-Grouping _ _) refl h
  closed_basic _ _ (basic_exists i j l c) h = not_tuple _ _ (e.outs-Exists _ _) refl h
  closed_basic _ _ (basic_array_query i j l c) h = not_tuple _ _ (e.outs-ArrayQuery _ _ _) refl h
  closed_basic _ _ (basic_array l) h = not_tuple _ _ (e.outs-Array _ _ _ _) refl h
  closed_basic _ _ (basic_array_word i l) h = not_tuple _ _ (e.outs-Array _ _ _ _) refl h
  closed_basic _ _ (basic_array_typed i j y g l) h = not_tuple _ _ (e.outs-Array _ _ _ _) refl h
  closed_basic _ _ (basic_struct i j a b c) h = not_tuple _ _ (e.outs-Struct _ _) refl h
  closed_basic _ _ (basic_typed_struct i j f g k l c) h = not_tuple _ _ (e.outs-TypedStruct _ _ _ _) refl h
  closed_basic _ _ (basic_with i j a b c l d) h = not_tuple _ _ (e.outs-With _ _ _) refl h

-- ---- brackets hold one thing, and end at one place

held_first : (h k : Held) (x y : Tokens) → taken h x ≡ taken k y → h ≡ k
held_first h k x y f = cc

held_rest : (h k : Held) (x y : Tokens) → taken h x ≡ taken k y → x ≡ y
held_rest h k x y f = cc

module _ (h k : Held) (u v x y : Tokens) (hu : HeldOf h u) (kv : HeldOf k v) (is : u ++ x ≡ v ++ y) where
  read_both : taken h x ≡ taken k y
  read_both =
      let n = suc (length (u ++ x)) in
      let f = (held_read n (below n) (reading n)).reads hu x tt (omega arith) in
      let g = (held_read n (below n) (reading n)).reads kv y tt (let same : length (u ++ x) ≡ length (v ++ y) = ap length is in omega arith) in
      sym f ∙ ap (enclosed n (below n)) is ∙ g

  held_same : h ≡ k
  held_same = held_first h k x y read_both

  rest_same : x ≡ y
  rest_same = held_rest h k x y read_both

no_rest : (t : Token) (x : Tokens) → (t ∷ x) ≡ [] → ⊥
no_rest t x f = cc

no_query : (q : Query) (es : List Expr) → held_query q ≡ held_exprs es → ⊥
no_query q es f = cc

tail_same : (o p : Token) (u v : Tokens) → o ∷ u ≡ p ∷ v → u ≡ v
tail_same o p u v f = cc

head_same : (o p : Token) (u v : Tokens) → o ∷ u ≡ p ∷ v → o ≡ p
head_same o p u v f = cc

behind : (c : Token) (v x inside : Tokens) → v ++ (c ∷ x) ≡ inside → (v ++ (c ∷ [])) ++ x ≡ inside ++ []
behind c v x inside f = append_assoc v (c ∷ []) x ∙ f ∙ sym (append-nil inside)

-- so a grouping item that is an expression isn't a tuple
item_by : (a : Expr) (u : Tokens) → GroupItemOf (group_item.Expr a) u → is_tuple a ≡ true → ⊥
item_by a _ (gitem_expr {t = t} {u = u} i z) h =
    let f = closed_expr a (t ∷ u) z h in
    let g : true ≡ false = sym f.opens.is ∙ ap (sign_test s.OpenRound) (sym (head_same t f.first u f.inside f.is)) ∙ i.is in cc
item_by a _ (gitem_longer {o = o} {c = c} {ms = ms} {v = v} t x io l lone ic z) h =
    let f = closed_expr a (o ∷ (v ++ (c ∷ t ∷ x))) z h in
    no_rest t x (rest_same (held_exprs ms) (held_exprs f.items) (v ++ (c ∷ [])) f.inside (t ∷ x) [] (holds_exprs l lone ic) f.holds (behind c v (t ∷ x) f.inside (tail_same o f.first (v ++ (c ∷ t ∷ x)) f.inside f.is)))
item_by a _ (gitem_query {o = o} {c = c} {q = q} {v = v} x io l ic z) h =
    let f = closed_expr a (o ∷ (v ++ (c ∷ x))) z h in
    no_query q f.items (held_same (held_query q) (held_exprs f.items) (v ++ (c ∷ [])) f.inside x [] (holds_query l ic) f.holds (behind c v x f.inside (tail_same o f.first (v ++ (c ∷ x)) f.inside f.is)))

no_tuple : (a : Expr) (u : Tokens) → GroupItemOf (group_item.Expr a) u → (b : Bool) → is_tuple a ≡ b → b ≡ false
no_tuple a u z true h = absurd (item_by a u z h)
no_tuple a u z false h = refl

pub item_no_tuple : (a : Expr) (u : Tokens) → GroupItemOf (group_item.Expr a) u → is_tuple a ≡ false
item_no_tuple a u z = no_tuple a u z (is_tuple a) refl

pub a_tuple : (es : List Expr) (p : ℕ) → is_tuple (e.Tuple es p) ≡ true
unfolding is_tuple
a_tuple es p = ap tuple_layer (e.outs-Tuple es p)
