-- The print of each expression begins with brackets, of which it is known what they hold, or with another token.
use Rattle.std.proofs.Common.{◌≡◌, ℕ, suc, ◌<◌, ◌≤◌, Bool, List, [], ◌∷◌, ◌++◌, length, refl, sym, ◌∙◌, ap, subst, arith}
use Rattle.std.proofs.lemmas.List.{append_assoc, append-nil, length-append}
use Rattle.sql_ast.specs.declared.expr.Expr.{Expr}
use Rattle.sql_ast.specs.declared.expr.Expr.TheVariants as e
use Rattle.sql_ast.specs.declared.expr.Expr.TheOpen as ast
use Rattle.sql_ast.specs.declared.expr.Link.{Link}
use Rattle.sql_ast.specs.Marks.{Tokens, start_of}
use Rattle.sql_ast.specs.Trees.{chain, nots, prefixes, path, alone}
use Rattle.sql_ast.specs.Grammar.{ExprOf, expr_is, ConjOf, conj_is, NegOf, neg_is, CompOf, comp_bor, comp_compare, comp_like, comp_like_list, comp_like_unnest, comp_between, comp_in_list, comp_in_query, comp_in_unnest, comp_is, comp_distinct, BorOf, bor_is, BxorOf, bxor_is, BandOf, band_is, ShiftOf, shift_is, SumOf, sum_is, ProdOf, prod_is, UnaryOf, unary_is, PostfixOf, postfix_is, BasicOf, basic_group, basic_tuple, basic_integer, basic_string, basic_bytes, basic_true, basic_false, basic_null, basic_date, basic_parameter, basic_name, basic_call, basic_safe_call, basic_query, basic_case, basic_cast, basic_safe_cast, basic_extract, basic_grouping, basic_exists, basic_array_query, basic_array, basic_array_word, basic_array_typed, basic_struct, basic_typed_struct, basic_with}
use Rattle.sql_ast.specs.Pieces.{Piece, bracketed}
use Rattle.sql_ast.specs.Canon.{canon_pieces, not_if}
use Rattle.sql_print.specs.PartPieces.{run, listed, operand, link_pieces}
use Rattle.sql_print.specs.TreePieces.{expr_level, expr_pieces}
use Rattle.sql_print.proofs.CanonLaws.{pieces_at, pieces_expr}
use Rattle.sql_print.proofs.BackLevels.{Spelled}
use Rattle.sql_print.proofs.BackLists.{Inner, back_list}
use Rattle.sql_print.proofs.BackChains.{prod_spelled, sum_spelled, band_spelled, bxor_spelled, bor_spelled}
use Rattle.sql_print.proofs.BackShifts.{shift_spelled}
use Rattle.sql_print.proofs.BackComparisons.{neg_spelled}
use Rattle.sql_print.proofs.BackChains.{conj_spelled}
use Rattle.sql_print.proofs.BackPostfixes.{unary_spelled}
use Rattle.sql_print.proofs.BackBasics.{basic_spelled}
use Rattle.sql_print.proofs.BackTuples.{is_tuple, a_tuple}
use Rattle.sql_print.proofs.BackOpenings.{Opening, opens_query, opens_tuple, Opens, operand_opens, some_back, some_links, some_parts, opens_as, other, function_other, prefix_other, square_other}

-- ---- a chain of any level

module _ (k : ℕ) (low : suc k ≤ 12) (make : Expr → List (Link Expr) → ℕ → Expr) (prints : (a : Expr) (ls : List (Link Expr)) (p : ℕ) → expr_pieces (make a ls p) ≡ operand expr_level expr_pieces (suc k) a ++ run (link_pieces expr_level expr_pieces (suc k)) ls) where
  pub chain_opens : (a : Expr) (ls : List (Link Expr)) (p : ℕ) → Spelled a → Opens a → Opens (chain make a ls p)
  unfolding chain
  chain_opens a [] p x o = o
  chain_opens a (l ∷ ls) p x o = subst (Opening (is_tuple (make a (l ∷ ls) p))) (sym (prints a (l ∷ ls) p)) (operand_opens (suc k) low a x o (is_tuple (make a (l ∷ ls) p)) (run (link_pieces expr_level expr_pieces (suc k)) (l ∷ ls)) (some_links (suc k) l ls))

module _ (n : ℕ) (x : Inner n) where
  abbrev Said : (Expr → Tokens → Type 0) → Type 0
  Said L = (a : Expr) (u : Tokens) → L a u → length u < suc n → Spelled a

  basic_said : Said BasicOf
  basic_said = basic_spelled n x

  unary_said : Said UnaryOf
  unary_said = unary_spelled n x basic_said

  prod_said : Said ProdOf
  prod_said = prod_spelled (suc n) unary_said

  sum_said : Said SumOf
  sum_said = sum_spelled (suc n) prod_said

  shift_said : Said ShiftOf
  shift_said = shift_spelled (suc n) sum_said

  band_said : Said BandOf
  band_said = band_spelled (suc n) shift_said

  bxor_said : Said BxorOf
  bxor_said = bxor_spelled (suc n) band_said

  bor_said : Said BorOf
  bor_said = bor_spelled (suc n) bxor_said

  neg_said : Said NegOf
  neg_said = neg_spelled n x bor_said

  conj_said : Said ConjOf
  conj_said = conj_spelled (suc n) neg_said

  -- the left side of a comparison, with something behind it
  left_opens : (a : Expr) (u : Tokens) → BorOf a u → length u < suc n → Opens a → (c : Bool) (rest : List Piece) → 1 ≤ length rest → Opening c (operand expr_level expr_pieces 4 a ++ rest)
  left_opens a u z lt o c rest some = operand_opens 4 (omega arith) a (bor_said a u z lt) o c rest some

  -- and [NOT] between
  left_not : (a : Expr) (u : Tokens) → BorOf a u → length u < suc n → Opens a → (c : Bool) (k : Bool) (p : Piece) (rest : List Piece) → Opening c ((operand expr_level expr_pieces 4 a ++ not_if k) ++ (p ∷ rest))
  left_not a u z lt o c k p rest = subst (Opening c) (sym (append_assoc (operand expr_level expr_pieces 4 a) (not_if k) (p ∷ rest))) (left_opens a u z lt o c (not_if k ++ (p ∷ rest)) (some_back (not_if k) p rest))

  mutual
    unfolding chain nots prefixes path alone

    pub opens_expr : (a : Expr) (u : Tokens) → ExprOf a u → length u < suc n → Opens a
    opens_expr _ _ (expr_is {a = a} {ls = ls} {u = u} {v = v} z y) lt =
        let long = length-append u v in chain_opens 0 (omega arith) e.Or (λ a ls p. pieces_expr (e.Or a ls p) ∙ ap pieces_at (e.outs-Or a ls p)) a ls (start_of u) (conj_said a u z (omega arith)) (opens_conj a u z (omega arith))

    opens_conj : (a : Expr) (u : Tokens) → ConjOf a u → length u < suc n → Opens a
    opens_conj _ _ (conj_is {a = a} {ls = ls} {u = u} {v = v} z y) lt =
        let long = length-append u v in chain_opens 1 (omega arith) e.And (λ a ls p. pieces_expr (e.And a ls p) ∙ ap pieces_at (e.outs-And a ls p)) a ls (start_of u) (neg_said a u z (omega arith)) (opens_neg a u z (omega arith))

    opens_neg : (a : Expr) (u : Tokens) → NegOf a u → length u < suc n → Opens a
    opens_neg _ _ (neg_is {ps = []} {a = a} {u = u} {v = v} z y) lt = let long = length-append u v in opens_comp a v y (omega arith)
    opens_neg _ _ (neg_is {ps = p ∷ ps} {a = a} z y) lt = other (e.Not (p ∷ ps) a p) (ast.Not (p ∷ ps) a p) (e.outs-Not (p ∷ ps) a p) _ _ refl refl

    opens_comp : (a : Expr) (u : Tokens) → CompOf a u → length u < suc n → Opens a
    opens_comp a u (comp_bor z) lt = opens_bor a u z lt
    opens_comp _ _ (comp_compare {a = a} {b = b} {c = c} {t = t} {u = u} {v = v} z i y) lt =
        let long = length-append u (t ∷ v) in opens_as _ _ (e.outs-Compare a c t.start b (start_of u)) (λ k. left_opens a u z (omega arith) (opens_bor a u z (omega arith)) k _ (omega arith))
    opens_comp _ _ (comp_like {a = a} {b = b} {n = k} {p = place} {u = u} {x = m} {v = v} z i y) lt =
        let long = length-append u (m ++ v) in opens_as _ _ (e.outs-Like a k place b (start_of u)) (λ c. left_not a u z (omega arith) (opens_bor a u z (omega arith)) c k _ _)
    opens_comp _ _ (comp_like_list {a = a} {q = q} {bs = bs} {t = t} {x = j} {o = o} {c = c} {u = u} {v = v} z it iq io y ic) lt =
        let long = length-append u (t ∷ j ∷ o ∷ (v ++ (c ∷ []))) in opens_as _ _ (e.outs-LikeList a q t.start bs (start_of u)) (λ k. left_opens a u z (omega arith) (opens_bor a u z (omega arith)) k _ (omega arith))
    opens_comp _ _ (comp_like_unnest {a = a} {b = b} {q = q} {t = t} {x = j} {y = m} {o = o} {c = c} {u = u} {v = v} z it iq iy io y ic) lt =
        let long = length-append u (t ∷ j ∷ m ∷ o ∷ (v ++ (c ∷ []))) in opens_as _ _ (e.outs-LikeUnnest a q t.start b (start_of u)) (λ k. left_opens a u z (omega arith) (opens_bor a u z (omega arith)) k _ (omega arith))
    opens_comp _ _ (comp_between {a = a} {b = b} {d = high} {n = k} {p = place} {t = t} {u = u} {x = m} {v = v} {y = w} z i y it y') lt =
        let long = length-append u (m ++ (v ++ (t ∷ w))) in opens_as _ _ (e.outs-Between a k place b high (start_of u)) (λ c. left_not a u z (omega arith) (opens_bor a u z (omega arith)) c k _ _)
    opens_comp _ _ (comp_in_list {a = a} {bs = bs} {n = k} {p = place} {o = o} {c = c} {u = u} {x = m} {v = v} z i io y lone ic) lt =
        let long = length-append u (m ++ (o ∷ (v ++ (c ∷ [])))) in opens_as _ _ (e.outs-InList a k place bs (start_of u)) (λ c. left_not a u z (omega arith) (opens_bor a u z (omega arith)) c k _ _)
    opens_comp _ _ (comp_in_query {a = a} {q = q} {n = k} {p = place} {o = o} {c = c} {u = u} {x = m} {v = v} z i io y ic) lt =
        let long = length-append u (m ++ (o ∷ (v ++ (c ∷ [])))) in opens_as _ _ (e.outs-InQuery a k place q o.start (start_of u)) (λ c. left_not a u z (omega arith) (opens_bor a u z (omega arith)) c k _ _)
    opens_comp _ _ (comp_in_unnest {a = a} {b = b} {n = k} {p = place} {y = j} {o = o} {c = c} {u = u} {x = m} {v = v} z i iy io y ic) lt =
        let long = length-append u (m ++ (j ∷ o ∷ (v ++ (c ∷ [])))) in opens_as _ _ (e.outs-InUnnest a k place b (start_of u)) (λ c. left_not a u z (omega arith) (opens_bor a u z (omega arith)) c k _ _)
    opens_comp _ _ (comp_is {a = a} {n = k} {p = place} {i = i} {t = t} {u = u} {x = m} z j it) lt =
        let long = length-append u (m ++ (t ∷ [])) in opens_as _ _ (e.outs-Is a k i place (start_of u)) (λ c. left_opens a u z (omega arith) (opens_bor a u z (omega arith)) c _ (omega arith))
    opens_comp _ _ (comp_distinct {a = a} {b = b} {n = k} {p = place} {t = t} {y = j} {u = u} {x = m} {v = v} z i it iy y) lt =
        let long = length-append u (m ++ (t ∷ j ∷ v)) in opens_as _ _ (e.outs-Distinct a k place b (start_of u)) (λ c. left_opens a u z (omega arith) (opens_bor a u z (omega arith)) c _ (omega arith))

    opens_bor : (a : Expr) (u : Tokens) → BorOf a u → length u < suc n → Opens a
    opens_bor _ _ (bor_is {a = a} {ls = ls} {u = u} {v = v} z y) lt =
        let long = length-append u v in chain_opens 4 (omega arith) e.BitOr (λ a ls p. pieces_expr (e.BitOr a ls p) ∙ ap pieces_at (e.outs-BitOr a ls p)) a ls (start_of u) (bxor_said a u z (omega arith)) (opens_bxor a u z (omega arith))

    opens_bxor : (a : Expr) (u : Tokens) → BxorOf a u → length u < suc n → Opens a
    opens_bxor _ _ (bxor_is {a = a} {ls = ls} {u = u} {v = v} z y) lt =
        let long = length-append u v in chain_opens 5 (omega arith) e.BitXor (λ a ls p. pieces_expr (e.BitXor a ls p) ∙ ap pieces_at (e.outs-BitXor a ls p)) a ls (start_of u) (band_said a u z (omega arith)) (opens_band a u z (omega arith))

    opens_band : (a : Expr) (u : Tokens) → BandOf a u → length u < suc n → Opens a
    opens_band _ _ (band_is {a = a} {ls = ls} {u = u} {v = v} z y) lt =
        let long = length-append u v in chain_opens 6 (omega arith) e.BitAnd (λ a ls p. pieces_expr (e.BitAnd a ls p) ∙ ap pieces_at (e.outs-BitAnd a ls p)) a ls (start_of u) (shift_said a u z (omega arith)) (opens_shift a u z (omega arith))

    opens_shift : (a : Expr) (u : Tokens) → ShiftOf a u → length u < suc n → Opens a
    opens_shift _ _ (shift_is {a = a} {ls = ls} {u = u} {v = v} z y) lt =
        let long = length-append u v in chain_opens 7 (omega arith) e.Shift (λ a ls p. pieces_expr (e.Shift a ls p) ∙ ap pieces_at (e.outs-Shift a ls p)) a ls (start_of u) (sum_said a u z (omega arith)) (opens_sum a u z (omega arith))

    opens_sum : (a : Expr) (u : Tokens) → SumOf a u → length u < suc n → Opens a
    opens_sum _ _ (sum_is {a = a} {ls = ls} {u = u} {v = v} z y) lt =
        let long = length-append u v in chain_opens 8 (omega arith) e.Sum (λ a ls p. pieces_expr (e.Sum a ls p) ∙ ap pieces_at (e.outs-Sum a ls p)) a ls (start_of u) (prod_said a u z (omega arith)) (opens_prod a u z (omega arith))

    opens_prod : (a : Expr) (u : Tokens) → ProdOf a u → length u < suc n → Opens a
    opens_prod _ _ (prod_is {a = a} {ls = ls} {u = u} {v = v} z y) lt =
        let long = length-append u v in chain_opens 9 (omega arith) e.Product (λ a ls p. pieces_expr (e.Product a ls p) ∙ ap pieces_at (e.outs-Product a ls p)) a ls (start_of u) (unary_said a u z (omega arith)) (opens_unary a u z (omega arith))

    opens_unary : (a : Expr) (u : Tokens) → UnaryOf a u → length u < suc n → Opens a
    opens_unary _ _ (unary_is {ps = []} {a = a} {u = u} {v = v} z y) lt = let long = length-append u v in opens_postfix a v y (omega arith)
    opens_unary _ _ (unary_is {ps = p ∷ ps} {a = a} z y) lt = other (e.Unary (p ∷ ps) a p.place) (ast.Unary (p ∷ ps) a p.place) (e.outs-Unary (p ∷ ps) a p.place) _ _ refl (prefix_other p.operator)

    opens_postfix : (a : Expr) (u : Tokens) → PostfixOf a u → length u < suc n → Opens a
    opens_postfix _ _ (postfix_is {a = a} {ps = []} {u = u} {v = v} z y) lt = let long = length-append u v in opens_basic a u z (omega arith)
    opens_postfix _ _ (postfix_is {a = a} {ps = p ∷ ps} {u = u} {v = v} z y) lt =
        let long = length-append u v in opens_as _ _ (e.outs-Postfix a (p ∷ ps) (start_of u)) (λ c. operand_opens 12 (omega arith) a (basic_said a u z (omega arith)) (opens_basic a u z (omega arith)) c _ (some_parts p ps))

    opens_basic : (a : Expr) (u : Tokens) → BasicOf a u → length u < suc n → Opens a
    opens_basic _ _ (basic_group {o = o} {c = c} {a = a} {v = v} i z lone j) lt = let long = length-append v (c ∷ []) in opens_expr a v z (omega arith)
    opens_basic _ _ (basic_query {o = o} {c = c} {q = q} {v = v} i z j) lt =
        let long = length-append v (c ∷ []) in opens_as _ _ (e.outs-Scalar q o.start) (λ k. subst (Opening k) (append-nil (bracketed (canon_pieces q))) (opens_query q [] (x.query q v z (omega arith))))
    opens_basic _ _ (basic_tuple {o = o} {c = c} {a = a} {b = b} {bs = bs} {v = v} i z j) lt =
        let long = length-append v (c ∷ []) in let es = a ∷ b ∷ bs in
        subst (Opening (is_tuple (e.Tuple es o.start))) (sym (pieces_expr (e.Tuple es o.start) ∙ ap pieces_at (e.outs-Tuple es o.start))) (opens_tuple (listed expr_pieces es) es (back_list n x es v z (omega arith)) refl (a_tuple es o.start))
    opens_basic _ _ (basic_integer i) lt = other _ _ (e.outs-Integer _ _) _ _ refl refl
    opens_basic _ _ (basic_string i) lt = other _ _ (e.outs-Text _ _) _ _ refl refl
    opens_basic _ _ (basic_bytes i) lt = other _ _ (e.outs-Bytes _ _) _ _ refl refl
    opens_basic _ _ (basic_true i) lt = other _ _ (e.outs-Bool _ _) _ _ refl refl
    opens_basic _ _ (basic_false i) lt = other _ _ (e.outs-Bool _ _) _ _ refl refl
    opens_basic _ _ (basic_null i) lt = other _ _ (e.outs-Null _) _ _ refl refl
    opens_basic _ _ (basic_date i j) lt = other _ _ (e.outs-Date _ _) _ _ refl refl
    opens_basic _ _ (basic_parameter i) lt = other _ _ (e.outs-Parameter _ _) _ _ refl refl
    opens_basic _ _ (basic_name i) lt = other _ _ (e.outs-Name _ _) _ _ refl refl
    opens_basic _ _ (basic_call {k = k} z) lt = other _ _ (e.outs-Call _ _) _ _ refl (function_other k.function)
    opens_basic _ _ (basic_safe_call i j g k) lt = other _ _ (e.outs-SafeCall _ _) _ _ refl refl
    opens_basic _ _ (basic_case i a b c d j) lt = other _ _ (e.outs-Case _ _ _ _) _ _ refl refl
    opens_basic _ _ (basic_cast i j l g y k) lt = other _ _ (e.outs-Cast _ _ _ _) _ _ refl refl
    opens_basic _ _ (basic_safe_cast i j l g y k) lt = other _ _ (e.outs-Cast _ _ _ _) _ _ refl refl
    opens_basic _ _ (basic_extract i j g k l c) lt = other _ _ (e.outs-Extract _ _ _) _ _ refl refl
    opens_basic _ _ (basic_grouping i j l c) lt = other _ _ (e.outs-Grouping _ _) _ _ refl refl
    opens_basic _ _ (basic_exists i j l c) lt = other _ _ (e.outs-Exists _ _) _ _ refl refl
    opens_basic _ _ (basic_array_query i j l c) lt = other _ _ (e.outs-ArrayQuery _ _ _) _ _ refl refl
    opens_basic _ _ (basic_array l) lt = other _ _ (e.outs-Array _ _ _ _) _ _ refl square_other
    opens_basic _ _ (basic_array_word i l) lt = other _ _ (e.outs-Array _ _ _ _) _ _ refl square_other
    opens_basic _ _ (basic_array_typed i j y g l) lt = other _ _ (e.outs-Array _ _ _ _) _ _ refl refl
    opens_basic _ _ (basic_struct i j a b c) lt = other _ _ (e.outs-Struct _ _) _ _ refl refl
    opens_basic _ _ (basic_typed_struct i j f g k l c) lt = other _ _ (e.outs-TypedStruct _ _ _ _) _ _ refl refl
    opens_basic _ _ (basic_with i j a b c l d) lt = other _ _ (e.outs-With _ _ _) _ _ refl refl
