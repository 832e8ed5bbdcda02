-- Brackets and lists of expressions are spelled by the tokens of their prints, if the expressions are.
use Rattle.std.proofs.Common.{◌≡◌, ℕ, ◌<◌, Bool, true, false, List, [], ◌∷◌, ◌++◌, length, map, refl, ◌∙◌, ap, arith}
use Rattle.std.proofs.lemmas.List.{length-append}
use Rattle.sql_names.specs.declared.words.Reserved.{Reserved}
use Rattle.sql_names.specs.declared.words.Reserved.TheVariants as r
use Rattle.sql_ast.specs.declared.words.Sign.TheVariants as s
use Rattle.sql_ast.specs.declared.token.Token.{Token}
use Rattle.sql_ast.specs.declared.expr.Expr.{Expr, out-Expr}
use Rattle.sql_ast.specs.declared.expr.Expr.TheOpen.{Expr-F}
use Rattle.sql_ast.specs.declared.query.Primary.{Primary}
use Rattle.sql_ast.specs.declared.query.Term.{Term}
use Rattle.sql_ast.specs.declared.query.FromItem.{FromItem}
use Rattle.sql_ast.specs.declared.query.Joined.{Joined}
use Rattle.sql_ast.specs.declared.query.Query.{Query}
use Rattle.sql_ast.specs.declared.query.Select.{Select}
use Rattle.sql_ast.specs.Marks.{Tokens, Is, sign as sign_test}
use Rattle.sql_ast.specs.Trees.{is_subquery, subquery_layer, alone}
use Rattle.sql_ast.specs.Parts.{NegatableOf, not_negated, is_negated, IsNotOf, is_plain, is_not}
use Rattle.sql_ast.specs.Grammar.{ExprOf, QueryOf, ListOf, list_is, CommasOf, commas_none, commas_more}
use Rattle.sql_ast.specs.Pieces.{Piece, word, bracketed, after_commas}
use Rattle.sql_ast.specs.Canon.{not_if, canon_pieces}
use Rattle.sql_same.specs.Bare.{as_is, BareExpr, BareQuery}
use Rattle.sql_same.proofs.BareLaws.{expr_at as bare_at}
use Rattle.sql_same.proofs.BareSame.{same_expr}
use Rattle.sql_print.specs.PartPieces.{listed}
use Rattle.sql_print.specs.TreePieces.{expr_pieces}
use Rattle.sql_print.proofs.CanonLaws.{level_at, pieces_at}
use Rattle.sql_print.proofs.Carried.{Carries, Found, Back, split, one, nothing, is_reserved, is_sign}
use Rattle.sql_print.proofs.BackLevels.{Level, Spelled, spelled_at, subquery_same}

abbrev bare : Expr → Expr
bare = BareExpr as_is

-- what brackets hold, given for all that have fewer tokens
pub record Inner (n : ℕ) : Type 0 where
  pub expr : (a : Expr) (u : Tokens) → ExprOf a u → length u < n → Spelled a
  pub query : (q : Query) (u : Tokens) → QueryOf q u → length u < n → Back QueryOf (BareQuery as_is) (canon_pieces q) q

-- ---- an expression of a known construct

pub node : (k : ℕ) → k < 12 → (a : Expr) (z : Expr-F Expr Primary Term FromItem Joined Query Select) → out-Expr a ≡ z → level_at z ≡ k → subquery_layer z ≡ false
    → ((ts : Tokens) → Carries (pieces_at z) ts → Found (Level k) bare a ts) → Spelled a
unfolding is_subquery
node k low a z is up no_query f = spelled_at a z k is up (omega arith) (λ _. ap subquery_layer is ∙ no_query) (record { back = f })

pub basic_node : (a : Expr) (z : Expr-F Expr Primary Term FromItem Joined Query Select) → out-Expr a ≡ z → level_at z ≡ 12 → ((ts : Tokens) → Carries (pieces_at z) ts → Found (Level 12) bare a ts) → Spelled a
basic_node a z is up f = spelled_at a z 12 is up (omega arith) (λ lt. absurd (omega arith)) (record { back = f })

pub found : (k : ℕ) (ts : Tokens) (b a : Expr) (y z : Expr-F Expr Primary Term FromItem Joined Query Select) → out-Expr b ≡ y → out-Expr a ≡ z → Level k b ts → bare_at as_is y ≡ bare_at as_is z → Found (Level k) bare a ts
found k ts b a y z ey ez h e = record { tree = b; spells = h; same = same_expr as_is b a y z ey ez e }

-- ---- words

-- [NOT] and a word
pub negatable : (w : Reserved) (n : Bool) (ps : List Piece) (G : Tokens → Type 0) → ((p : ℕ) (x v : Tokens) → NegatableOf w n p x → Carries ps v → G (x ++ v)) → (ts : Tokens) → Carries (not_if n ++ word w ∷ ps) ts → G ts
negatable w true ps G k ts h = one G ts h (λ t v e h. one (λ v. G (t ∷ v)) v h (λ x v f h. k t.start (t ∷ x ∷ []) v (is_negated (is_reserved r.Not t e) (is_reserved w x f)) h))
negatable w false ps G k ts h = one G ts h (λ t v e h. k t.start (t ∷ []) v (not_negated (is_reserved w t e)) h)

-- IS [NOT]
pub is_or_not : (n : Bool) (ps : List Piece) (G : Tokens → Type 0) → ((p : ℕ) (x v : Tokens) → IsNotOf n p x → Carries ps v → G (x ++ v)) → (ts : Tokens) → Carries (word r.Is ∷ (not_if n ++ ps)) ts → G ts
is_or_not true ps G k ts h = one G ts h (λ t v e h. one (λ v. G (t ∷ v)) v h (λ x v f h. k t.start (t ∷ x ∷ []) v (is_not (is_reserved r.Is t e) (is_reserved r.Not x f)) h))
is_or_not false ps G k ts h = one G ts h (λ t v e h. k t.start (t ∷ []) v (is_plain (is_reserved r.Is t e)) h)

-- ---- brackets

pub enclosed : {A : Type 0} (L : A → Tokens → Type 0) (same : A → A) (ps : List Piece) (a : A) → Back L same ps a → (G : Tokens → Type 0)
    → ((o c : Token) (u : Tokens) → Is (sign_test s.OpenRound) o → Found L same a u → Is (sign_test s.CloseRound) c → G (o ∷ (u ++ (c ∷ []))))
    → (ts : Tokens) → Carries (bracketed ps) ts → G ts
enclosed L same ps a inner G k ts h =
    one G ts h (λ o v e h. split (λ v. G (o ∷ v)) v h (λ u w cu cw. one (λ w. G (o ∷ (u ++ w))) w cw (λ c w f cw. nothing (λ w. G (o ∷ (u ++ (c ∷ w)))) w cw
    (k o c u (is_sign s.OpenRound o e) (inner.back u cu) (is_sign s.CloseRound c f)))))

-- ---- lists

module _ (n : ℕ) (x : Inner n) where
  back_commas : (bs : List Expr) (v : Tokens) → CommasOf bs v → length v < n → Back CommasOf (map bare) (after_commas (map expr_pieces bs)) bs
  back_commas _ _ commas_none lt = record { back = λ ts h. nothing (Found CommasOf (map bare) []) ts h (record { tree = []; spells = commas_none; same = refl }) }
  back_commas _ _ (commas_more {t = t} {a = a} {bs = bs} {u = u} {v = v} i z y) lt =
      let long = length-append u v in record {
        back = λ ts h.
            one (Found CommasOf (map bare) (a ∷ bs)) ts h (λ t w e h. split (λ w. Found CommasOf (map bare) (a ∷ bs) (t ∷ w)) w h (λ p q cp cq.
            let f = (x.expr a u z (omega arith)).whole.back p cp in
            let g = (back_commas bs v y (omega arith)).back q cq in
            record { tree = f.tree ∷ g.tree; spells = commas_more (is_sign s.Comma t e) f.spells g.spells; same = rw f.same (ap (λ (m : List Expr). bare a ∷ m) g.same) }));
      }

  pub back_list : (bs : List Expr) (v : Tokens) → ListOf bs v → length v < n → Back ListOf (map bare) (listed expr_pieces bs) bs
  back_list _ _ (list_is {a = a} {bs = bs} {u = u} {v = v} z y) lt =
      let long = length-append u v in record {
        back = λ ts h.
            split (Found ListOf (map bare) (a ∷ bs)) ts h (λ p q cp cq.
            let f = (x.expr a u z (omega arith)).whole.back p cp in
            let g = (back_commas bs v y (omega arith)).back q cq in
            record { tree = f.tree ∷ g.tree; spells = list_is f.spells g.spells; same = rw f.same (ap (λ (m : List Expr). bare a ∷ m) g.same) });
      }

first_of_two : (a b : Expr) (cs bs : List Expr) → map bare (a ∷ cs) ≡ map bare (b ∷ bs) → bare a ≡ bare b
first_of_two a b cs bs e = cc

-- whether a list is one subquery alone doesn't hang on places
pub alone_same : (cs bs : List Expr) → map bare cs ≡ map bare bs → alone cs ≡ alone bs
unfolding alone
alone_same [] [] e = refl
alone_same [] (b ∷ bs) e = absurd (cc)
alone_same (a ∷ cs) [] e = absurd (cc)
alone_same (a ∷ []) (b ∷ []) e = subquery_same a b (first_of_two a b [] [] e)
alone_same (a ∷ []) (b ∷ c ∷ bs) e = absurd (cc)
alone_same (a ∷ c ∷ cs) (b ∷ []) e = absurd (cc)
alone_same (a ∷ c ∷ cs) (b ∷ d ∷ bs) e = refl
