-- The reader of expressions takes a prefix and the word NOT: each level hands it down to the first that reads such.
use Rattle.std.proofs.Common.{◌≡◌, ℕ, zero, suc, ◌≤◌, ◌||◌, Bool, true, false, cond, List, [], ◌∷◌, ◌++◌, length, refl, sym, ◌∙◌, ap, arith}
use Rattle.fronts.specs.Fronts.{Language}
use Rattle.fronts.specs.Readers.{taken, deep, Reader, and_then, ◌>>=◌, pure, many}
use Rattle.fronts.proofs.Firm.{Opens}
use Rattle.fronts.proofs.Exact.{Exact, last, into, done, exact_many, exact_all, exact_lower, opens_bind}
use Rattle.sql_ast.specs.declared.token.Token.{Token}
use Rattle.sql_names.specs.declared.words.Reserved.TheVariants as r
use Rattle.sql_ast.specs.Marks.{reserved}
use Rattle.sql_ast.specs.Trees.{prefix_of, nots, prefixes}
use Rattle.sql_ast.specs.Grammar.{BxorOf, BandOf, BorOf, ConjOf, CompOf, ExprOf, NegOf, ProdOf, ShiftOf, SumOf, UnaryOf}
use Rattle.sql_ast.specs.Parts.{NotsOf, PrefixesOf, nots_none, prefixes_none}
use Rattle.sql_grammar.specs.Exprs.{tells, prefix, not_place, unary, product_from, product, sum_from, sum, shift_from, shift, band_from, band, bxor_from, bxor, bor_from, bor_pending, compared, comparison, negation, conjunction_from, conjunction, disjunction_from, disjunction, Below}
use Rattle.sql_grammar.proofs.Starts.{prefixes_expr}
use Rattle.sql_grammar.proofs.Solid.{solid_unary, solid_prod, solid_sum, solid_shift, solid_band, solid_bxor, solid_bor, solid_neg, solid_conj}
use Rattle.sql_grammar.proofs.Levels.{level_opens, PendingOf, pending_solid}
use Rattle.sql_grammar.proofs.Calls.{Under}
use Rattle.sql_grammar.proofs.Exprs.{postfix_exact}
use Rattle.sql_grammar.proofs.Chains.{PrefixIs, NotIs, prefix_solid, prefixes_at, prefix_exact, prefix_opens, not_solid, nots_at, not_exact, not_opens, unary_exact, product_from_exact, product_exact, sum_from_exact, sum_exact, shift_from_exact, shift_exact, band_from_exact, band_exact, bxor_from_exact, bxor_exact, bor_from_exact, bor_pending_exact}
use Rattle.sql_grammar.proofs.Comparisons.{compared_exact, comparison_exact, negation_exact, conjunction_from_exact, conjunction_exact, disjunction_from_exact}

-- ---- a repetition

module _ {C A : Type 0} (L : Language C A) (LS : Language C (List A)) (fits : C → Bool) (item item' : Reader C A)
    (nil : LS [] []) (more : (a : A) (u : List C) (ls : List A) (v : List C) → L a u → LS ls v → LS (a ∷ ls) (u ++ v))
    (solid : (a : A) (u : List C) → L a u → 1 ≤ length u) (goes : (t : C) → fits t ≡ true → Opens t item') where
  -- it takes each symbol with which an item begins
  pub opens_many : {i : ℕ} (m : ℕ) → Exact i L item item' → (found : List A) (t : C) → fits t ≡ true → Opens t (many fits item' m found)
  unfolding many
  opens_many zero x found t h = record {
    goes = λ rest e. let f = ap (λ (b : Bool). cond b deep (taken found (t ∷ rest))) (sym h) ∙ e in cc;
    moves = λ rest a e. let f = ap (λ (b : Bool). cond b deep (taken found (t ∷ rest))) (sym h) ∙ e in cc;
  }
  opens_many {i = i} (suc m) x found t h =
      let y : Exact 0 L item item' = exact_lower L item item' 0 i (omega arith) x in
      let g : Opens t (item' >>= (λ a. many fits item' m (found ++ a ∷ []))) =
      opens_bind (goes t h) y (λ a u l. into (exact_many L LS fits item item' nil more solid goes m m 0 (omega arith) (omega arith) y (found ++ a ∷ [])) (λ b v z. tt)) in
      record {
        goes = λ rest e. g.goes rest (ap (λ (b : Bool). cond b (and_then (item' (t ∷ rest)) (λ a. many fits item' m (found ++ a ∷ []))) (taken found (t ∷ rest))) (sym h) ∙ e);
        moves = λ rest a e. g.moves rest a (ap (λ (b : Bool). cond b (and_then (item' (t ∷ rest)) (λ a. many fits item' m (found ++ a ∷ []))) (taken found (t ∷ rest))) (sym h) ∙ e);
      }

-- before a symbol with which no item begins there is none
module _ {C A : Type 0} (fits : C → Bool) (item : Reader C A) (found : List A) (t : C) (h : fits t ≡ false) where
  no_item : (m : ℕ) (rest : List C) → many fits item m found (t ∷ rest) ≡ taken found (t ∷ rest)
  unfolding many
  no_item zero rest = ap (λ (b : Bool). cond b deep (taken found (t ∷ rest))) h
  no_item (suc m) rest = ap (λ (b : Bool). cond b (and_then (item (t ∷ rest)) (λ a. many fits item m (found ++ a ∷ []))) (taken found (t ∷ rest))) h

  pub opens_past : {B : Type 0} (m : ℕ) (q : List A → Reader C B) → Opens t (q found) → Opens t (many fits item m found >>= q)
  opens_past m q g = record {
    goes = λ rest e. g.goes rest (ap (λ o. and_then o q) (sym (no_item m rest)) ∙ e);
    moves = λ rest a e. g.moves rest a (ap (λ o. and_then o q) (sym (no_item m rest)) ∙ e);
  }

-- ---- the levels

module _ (n m : ℕ) (up : n ≤ m) (b b' : Below) (x : Under n b b') where
  module _ (t : Token) (h : tells prefix_of t ≡ true) where
    unary_opens : Opens t (unary m b')
    unfolding unary
    unary_opens = opens_bind (opens_many PrefixIs PrefixesOf (tells prefix_of) prefix prefix prefixes_none prefixes_at prefix_solid prefix_opens m (prefix_exact n) [] t h)
        (exact_all PrefixIs PrefixesOf (tells prefix_of) prefix prefix prefixes_none prefixes_at prefix_solid prefix_opens n m up (prefix_exact n)) (λ ps u l. last (prefixes ps) (postfix_exact n m up b b' x) (λ a v la. tt))

    product_opens : Opens t (product m b')
    unfolding product
    product_opens = level_opens UnaryOf ProdOf solid_unary (unary n b) (unary m b') (product_from n b) (product_from m b') (unary_exact n m up b b' x) (product_from_exact n m up b b' x) t unary_opens

    sum_opens : Opens t (sum m b')
    unfolding sum
    sum_opens = level_opens ProdOf SumOf solid_prod (product n b) (product m b') (sum_from n b) (sum_from m b') (product_exact n m up b b' x) (sum_from_exact n m up b b' x) t product_opens

    shift_opens : Opens t (shift m b')
    unfolding shift
    shift_opens = level_opens SumOf (PendingOf ShiftOf) solid_sum (sum n b) (sum m b') (shift_from n b) (shift_from m b') (sum_exact n m up b b' x) (shift_from_exact n m up b b' x) t sum_opens

    band_opens : Opens t (band m b')
    unfolding band
    band_opens = level_opens (PendingOf ShiftOf) (PendingOf BandOf) (pending_solid ShiftOf solid_shift) (shift n b) (shift m b') (band_from n b) (band_from m b') (shift_exact n m up b b' x) (band_from_exact n m up b b' x) t shift_opens

    bxor_opens : Opens t (bxor m b')
    unfolding bxor
    bxor_opens = level_opens (PendingOf BandOf) (PendingOf BxorOf) (pending_solid BandOf solid_band) (band n b) (band m b') (bxor_from n b) (bxor_from m b') (band_exact n m up b b' x) (bxor_from_exact n m up b b' x) t band_opens

    bor_opens : Opens t (bor_pending m b')
    unfolding bor_pending
    bor_opens = level_opens (PendingOf BxorOf) (PendingOf BorOf) (pending_solid BxorOf solid_bxor) (bxor n b) (bxor m b') (bor_from n b) (bor_from m b') (bxor_exact n m up b b' x) (bor_from_exact n m up b b' x) t bxor_opens

    comparison_opens : Opens t (comparison m b')
    unfolding comparison
    comparison_opens = level_opens (PendingOf BorOf) CompOf (pending_solid BorOf solid_bor) (bor_pending n b) (bor_pending m b') (compared n b) (compared m b') (bor_pending_exact n m up b b' x) (compared_exact n m up b b' x) t bor_opens

  negation_by : (t : Token) (c k : Bool) → tells prefix_of t ≡ c → reserved r.Not t ≡ k → (c || k) ≡ true → Opens t (negation m b')
  unfolding negation
  negation_by t c true hc hk h = opens_bind (opens_many NotIs NotsOf (reserved r.Not) not_place not_place nots_none nots_at not_solid not_opens m (not_exact n) [] t hk)
      (exact_all NotIs NotsOf (reserved r.Not) not_place not_place nots_none nots_at not_solid not_opens n m up (not_exact n)) (λ ps u l. last (nots ps) (comparison_exact n m up b b' x) (λ a v la. tt))
  negation_by t true false hc hk h = opens_past (reserved r.Not) not_place [] t hk m (λ ps. comparison m b' >>= (λ a. pure (nots ps a))) (opens_bind (comparison_opens t hc) (comparison_exact n m up b b' x) (λ a u l. done {n = 0} tt))
  negation_by t false false hc hk h = absurd cc

  module _ (t : Token) (h : prefixes_expr t ≡ true) where
    conjunction_opens : Opens t (conjunction m b')
    unfolding conjunction
    conjunction_opens = level_opens NegOf ConjOf solid_neg (negation n b) (negation m b') (conjunction_from n b) (conjunction_from m b') (negation_exact n m up b b' x) (conjunction_from_exact n m up b b' x) t (negation_by t (tells prefix_of t) (reserved r.Not t) refl refl h)

    pub disjunction_opens : Opens t (disjunction m b')
    unfolding disjunction
    disjunction_opens = level_opens ConjOf ExprOf solid_conj (conjunction n b) (conjunction m b') (disjunction_from n b) (disjunction_from m b') (conjunction_exact n m up b b' x) (disjunction_from_exact n m up b b' x) t conjunction_opens
