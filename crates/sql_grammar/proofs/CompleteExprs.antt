-- NOT, AND and OR read each word, if comparisons are read; and an expression is read as its first part, and what goes on
-- behind it.
use Rattle.std.proofs.Common.{◌≡◌, ℕ, zero, suc, ◌<◌, Bool, true, false, List, [], ◌∷◌, ◌++◌, length, refl, ◌∙◌, ap, arith}
use Rattle.fronts.specs.Readers.{Outcome, taken, stuck, deep, ◌>>=◌, and_then, comes, next, many}
use Rattle.fronts.proofs.Agrees.{Many, many_none, many_more}
use Rattle.sql_ast.specs.declared.expr.Expr.{Expr}
use Rattle.sql_ast.specs.declared.expr.Expr.TheVariants as e
use Rattle.sql_ast.specs.declared.expr.Link.{Link}
use Rattle.sql_ast.specs.declared.expr.Operator.TheVariants as operator
use Rattle.sql_names.specs.declared.words.Reserved.TheVariants as r
use Rattle.sql_ast.specs.declared.token.Token.{Token}
use Rattle.sql_ast.specs.Marks.{Tokens, Is, reserved}
use Rattle.sql_ast.specs.Trees.{nots, prefixes, prefix_of}
use Rattle.sql_ast.specs.Parts.{NotsOf, nots_none, nots_more}
use Rattle.sql_ast.specs.Grammar.{ExprOf, expr_is, OrsOf, ors_none, ors_more, ConjOf, conj_is, AndsOf, ands_none, ands_more, NegOf, neg_is, CompOf}
use Rattle.sql_grammar.specs.Ways.{Parser, place_of}
use Rattle.sql_grammar.specs.Exprs.{tells, Below, Pending, not_place, prefix, postfix, unary, product, product_from, sum, sum_from, shift, shift_from, band, band_from, bxor, bxor_from, bor_pending, bor_from, compared, comparison, negation, conjunction, conjunction_from, disjunction, disjunction_from, expr_from}
use Rattle.sql_grammar.proofs.Levels.{LinkOf, link_of}
use Rattle.sql_grammar.proofs.Solid.{solid_neg, solid_conj}
use Rattle.sql_grammar.proofs.Follows.{Over}
use Rattle.sql_grammar.proofs.CompleteSteps.{Read, Free, tok, part, last, else_on, done, free_many, starts_not_r}
use Rattle.sql_grammar.proofs.CompleteStarts.{comp_starts, r_level}
use Rattle.sql_grammar.proofs.CompleteChains.{chain_read}

data PlaceIs : ℕ → Tokens → Type 0 where
  place_is : {t : Token} → Is (reserved r.Not) t → PlaceIs t.start (t ∷ [])

many_nots : (ps : List ℕ) (v : Tokens) → NotsOf ps v → Many PlaceIs ps v
many_nots _ _ nots_none = many_none
many_nots _ _ (nots_more {ps = ps} {v = v} i z) = many_more (place_is i) (many_nots ps v z)

place_begins : (a : ℕ) (u rest : Tokens) → PlaceIs a u → comes (reserved r.Not) (u ++ rest) ≡ true
place_begins _ _ rest (place_is i) = i.is

place_read : (n : ℕ) → Read (suc n) Free PlaceIs not_place
unfolding not_place
place_read n = record { reads = by }
  where
    by : {a : ℕ} {u : Tokens} → PlaceIs a u → (rest : Tokens) → Unit {0} → length (u ++ rest) < suc n → not_place (u ++ rest) ≡ taken a rest
    by (place_is i) rest f = tok i _ done

many_ands : (ls : List (Link Expr)) (v : Tokens) → AndsOf ls v → Many (LinkOf (reserved r.And) (λ t. operator.And) NegOf) ls v
many_ands _ _ ands_none = many_none
many_ands _ _ (ands_more {ls = ls} {v = v} i l z) = many_more (link_of i l) (many_ands ls v z)

many_ors : (ls : List (Link Expr)) (v : Tokens) → OrsOf ls v → Many (LinkOf (reserved r.Or) (λ t. operator.Or) ConjOf) ls v
many_ors _ _ ors_none = many_none
many_ors _ _ (ors_more {ls = ls} {v = v} i l z) = many_more (link_of i l) (many_ors ls v z)

module _ (n : ℕ) (b : Below) (x : Read (suc n) (Over 8) CompOf (comparison n b)) where
  negation_read : Read (suc n) (Over 8) NegOf (negation n b)
  unfolding negation
  negation_read = record { reads = by }
    where
      by : {a : Expr} {u : Tokens} → NegOf a u → (rest : Tokens) → Over 8 rest → length (u ++ rest) < suc n → negation n b (u ++ rest) ≡ taken a rest
      by (neg_is {ps = ps} {a = a} {u = u} {v = v} z l) rest f =
          part (free_many place_begins (place_read n) [] many_nots) (ps, z, refl) v rest _ (record { is = starts_not_r (comp_starts a v rest l) r.Not (omega arith) }) (last x l _ f done)

  conjunction_read : Read (suc n) (Over 9) ConjOf (conjunction n b)
  unfolding conjunction conjunction_from
  conjunction_read = record { reads = by }
    where
      by : {a : Expr} {u : Tokens} → ConjOf a u → (rest : Tokens) → Over 9 rest → length (u ++ rest) < suc n → conjunction n b (u ++ rest) ≡ taken a rest
      by (conj_is {a = a} {ls = ls} {u = u} {v = v} l z) rest f = chain_read (reserved r.And) (λ t. operator.And) (r_level r.And 9 refl) (omega arith) e.And NegOf AndsOf solid_neg many_ands n b (negation n b) negation_read a u l ls v z rest f

  pub disjunction_read : Read (suc n) (Over 10) ExprOf (disjunction n b)
  unfolding disjunction disjunction_from
  disjunction_read = record { reads = by }
    where
      by : {a : Expr} {u : Tokens} → ExprOf a u → (rest : Tokens) → Over 10 rest → length (u ++ rest) < suc n → disjunction n b (u ++ rest) ≡ taken a rest
      by (expr_is {a = a} {ls = ls} {u = u} {v = v} l z) rest f = chain_read (reserved r.Or) (λ t. operator.Or) (r_level r.Or 10 refl) (omega arith) e.Or ConjOf OrsOf solid_conj many_ors n b (conjunction n b) conjunction_read a u l ls v z rest f

-- ---- an expression that begins with neither NOT nor a prefix is read as a postfix and what goes on behind it

pub regrouped : {A B C : Type 0} (o : Outcome Token A) (f : A → Parser B) (g : B → Parser C) → and_then (and_then o f) g ≡ and_then o (λ a. f a >>= g)
regrouped (taken a rest) f g = refl
regrouped (stuck rest) f g = refl
regrouped deep f g = refl

passed : {A B : Type 0} (o : Outcome Token A) (g : A → Parser B) → and_then (and_then o (λ a. λ rest. taken a rest)) g ≡ and_then o g
passed (taken a rest) g = refl
passed (stuck rest) g = refl
passed deep g = refl

module _ (n : ℕ) (b : Below) (ts : Tokens) (no_not : comes (reserved r.Not) ts ≡ false) (no_sign : comes (tells prefix_of) ts ≡ false) where
  none : {A : Type 0} (fits : Token → Bool) (item : Parser A) (m : ℕ) → comes fits ts ≡ false → many fits item m [] ts ≡ taken [] ts
  unfolding many
  none fits item zero h = else_on {N = Unit {0}} h _ _ done tt
  none fits item (suc m) h = else_on {N = Unit {0}} h _ _ done tt

  unary_then : {A : Type 0} (k : Expr → Parser A) → and_then (unary n b ts) k ≡ and_then (postfix n b ts) k
  unfolding unary prefixes
  unary_then k = ap (λ o. and_then (and_then o (λ ps. postfix n b >>= (λ a. λ rest. taken (prefixes ps a) rest))) k) (none (tells prefix_of) prefix n no_sign) ∙ passed (postfix n b ts) k

  negation_then : {A : Type 0} (k : Expr → Parser A) → and_then (negation n b ts) k ≡ and_then (comparison n b ts) k
  unfolding negation nots
  negation_then k = ap (λ o. and_then (and_then o (λ ps. comparison n b >>= (λ a. λ rest. taken (nots ps a) rest))) k) (none (reserved r.Not) not_place n no_not) ∙ passed (comparison n b ts) k

  pub expr_thus : disjunction n b ts ≡ and_then (postfix n b ts) (expr_from n b (place_of (next ts)))
  unfolding disjunction conjunction comparison bor_pending bxor band shift sum product expr_from
  expr_thus =
      let p = place_of (next ts) in
      let k9 : Expr → Parser Expr = disjunction_from n b p in
      let k8 : Expr → Parser Expr = λ c. conjunction_from n b p c >>= k9 in
      let k7 : Pending → Parser Expr = λ c. compared n b p c >>= k8 in
      let k6 : Pending → Parser Expr = λ c. bor_from n b p c >>= k7 in
      let k5 : Pending → Parser Expr = λ c. bxor_from n b p c >>= k6 in
      let k4 : Pending → Parser Expr = λ c. band_from n b p c >>= k5 in
      let k3 : Expr → Parser Expr = λ c. shift_from n b p c >>= k4 in
      let k2 : Expr → Parser Expr = λ c. sum_from n b p c >>= k3 in
      let k1 : Expr → Parser Expr = λ c. product_from n b p c >>= k2 in
      regrouped (negation n b ts) (conjunction_from n b p) k9
      ∙ negation_then k8
      ∙ regrouped (bor_pending n b ts) (compared n b p) k8
      ∙ regrouped (bxor n b ts) (bor_from n b p) k7
      ∙ regrouped (band n b ts) (bxor_from n b p) k6
      ∙ regrouped (shift n b ts) (band_from n b p) k5
      ∙ regrouped (sum n b ts) (shift_from n b p) k4
      ∙ regrouped (product n b ts) (sum_from n b p) k3
      ∙ regrouped (unary n b ts) (product_from n b p) k2
      ∙ unary_then k1
