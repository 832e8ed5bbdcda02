-- Postfix expressions are read, also one before `.*`; and so all expressions, one level of depth above the readers below.
use Rattle.std.proofs.Common.{◌≡◌, inl, inr, ℕ, suc, ◌<◌, ◌||◌, Bool, true, false, List, [], ◌∷◌, ◌++◌, length, Some, None, refl, sym, ◌∙◌, ap, subst, arith}
use Rattle.std.proofs.lemmas.List.{append_assoc, append-nil, length-append}
use Rattle.fronts.specs.Readers.{Outcome, taken, ◌>>=◌, and_then, comes}
use Rattle.sql_ast.specs.declared.expr.Expr.{Expr}
use Rattle.sql_ast.specs.declared.expr.Expr.TheVariants as e
use Rattle.sql_ast.specs.declared.expr.IndexForm.{IndexForm}
use Rattle.sql_ast.specs.declared.expr.IndexForm.TheVariants as form
use Rattle.sql_ast.specs.declared.expr.Part.{Part}
use Rattle.sql_ast.specs.declared.expr.Part.TheVariants as part_kind
use Rattle.sql_ast.specs.declared.words.Sign.TheVariants as s
use Rattle.sql_ast.specs.declared.token.Token.{Token}
use Rattle.sql_ast.specs.Marks.{Tokens, Is, sign, spelled, same_sign, sign_lexeme, start_of}
use Rattle.sql_ast.specs.Trees.{form_of, path}
use Rattle.sql_ast.specs.Grammar.{ExprOf, PostfixOf, postfix_is, PartsOf, parts_none, PartOf, part_field, part_index}
use Rattle.sql_grammar.specs.Ways.{Ended, until}
use Rattle.sql_grammar.specs.Classes.{the_safe}
use Rattle.sql_grammar.specs.Exprs.{part_next, Below, safe_part, name_by, index, field_or_star, part_or_star, parts_from, opened, postfix_or_star, postfix, disjunction}
use Rattle.sql_grammar.proofs.Marks.{told_is, tells_is}
use Rattle.sql_grammar.proofs.Calls.{bracketed_is}
use Rattle.sql_grammar.proofs.Solid.{solid_basic}
use Rattle.sql_grammar.proofs.Follows.{Over}
use Rattle.sql_grammar.proofs.CompleteSteps.{Read, Free, less, tok, also, part, last, then_on, else_on, done, weak, over_s, over_not_s, s_test}
use Rattle.sql_grammar.proofs.CompleteRepeats.{begun, One, one, Gone, GoneTo, gone_to, until_read, until_to_read}
use Rattle.sql_grammar.proofs.CompleteParts.{Reading, bracketed_read}
use Rattle.sql_grammar.proofs.CompleteHeld.{held_read}
use Rattle.sql_grammar.proofs.CompletePostfix.{Result, opened_basic, not_starred, no_part, part_begins, many_parts}
use Rattle.sql_grammar.proofs.CompleteLevels.{bor_pends, bor_read}
use Rattle.sql_grammar.proofs.CompleteComparisons.{comparison_read}
use Rattle.sql_grammar.proofs.CompleteExprs.{disjunction_read}

-- the `.*` that ends a postfix
data StarFinal (k : Token) : List (Part Expr) → Token → Tokens → Type 0 where
  star_final : {d : Token} → Is (sign s.Dot) d → Is (sign s.Star) k → StarFinal k [] k (d ∷ k ∷ [])

star_begins : (k : Token) (xs : List (Part Expr)) (c : Token) (u rest : Tokens) → StarFinal k xs c u → comes part_next (u ++ rest) ≡ true
star_begins k _ _ _ rest (star_final {d = d} i j) = ap (λ c. c || sign s.OpenSquare d) i.is

module _ (n : ℕ) (b : Below) (x : Reading n b) where
  part_by : (star : Bool) {a : Ended (Part Expr) Token} {u : Tokens} → One PartOf a u → (rest : Tokens) → Unit {0} → length (u ++ rest) < suc n → part_or_star n b star (u ++ rest) ≡ taken a rest
  unfolding part_or_star field_or_star index same_sign
  part_by star (one (part_field i j)) rest f = then_on i.is _ _ (tok i _ (else_on (not_starred star j) _ _ (also j _ done)))
  part_by star (one (part_index {f = g} {a = a} {b = d} {x = y} {o = o} {c = c} {d = k} {v = v} i j io l ic ik)) rest f =
      subst (λ (w : Tokens). length ((d ∷ y ∷ o ∷ w) ++ rest) < suc n → part_or_star n b star ((d ∷ y ∷ o ∷ w) ++ rest) ≡ taken (part_kind.Index g a d.start ∷ [], None) rest) (append_assoc v (c ∷ []) (k ∷ []))
      (else_on (s_test s.OpenSquare (sign_lexeme s.Dot) i refl) _ _ (tok i _ (also (record { is = tells_is form.Offset form_of y g j }) _
      (part (less (bracketed_read n b x)) (bracketed_is io l ic) (k ∷ []) rest _ tt (also ik _ (λ _. ap (λ (z : IndexForm). taken (part_kind.Index z a d.start ∷ [], None) rest) (told_is form.Offset form_of y g j)))))))

  part_read : (star : Bool) → Read (suc n) Free (One PartOf) (part_or_star n b star)
  part_read star = record { reads = part_by star }

  star_ends : (k : Token) (xs : List (Part Expr)) (c : Token) (u : Tokens) → StarFinal k xs c u → (rest : Tokens) → Unit {0} → length (u ++ rest) < suc n → part_or_star n b true (u ++ rest) ≡ taken (xs, Some c) rest
  unfolding part_or_star field_or_star
  star_ends k _ _ _ (star_final i j) rest f = then_on i.is _ _ (tok i _ (then_on j.is _ _ (also (record { is = j.is }) _ done)))

  parts_read : (star : Bool) (found : List (Part Expr)) → Read (suc n) (Over 1) (Gone PartsOf found) (until part_next (part_or_star n b star) n found)
  parts_read star found = until_read part_next (part_or_star n b star) Free (λ t ts h. tt) part_begins (part_read star) PartsOf many_parts (Over 1) no_part (λ ts h. tt) found

  starred_read : (k : Token) (found : List (Part Expr)) → Read (suc n) Free (GoneTo PartsOf (StarFinal k) found) (until part_next (part_or_star n b true) n found)
  starred_read k found = until_to_read part_next (part_or_star n b true) Free (λ t ts h. tt) part_begins (part_read true) PartsOf many_parts Free (StarFinal k) (star_begins k) (star_ends k) found

  -- ---- without `.*`

  abbrev None_else : Outcome Token (Expr × Ended (Part Expr) Token) → Expr → List (Part Expr) → Type 0
  None_else o a ps = ⊥

  safe_end : (star : Bool) (rest : Tokens) → Over 1 rest → (t : Token) → Result None_else (name_by n b star t the_safe rest) (e.Name (spelled t) t.start) [] [] rest
  safe_end star rest f t = inl (record { with_it = []; more = []; left = []; parts = parts_none; all = refl; room = omega arith; is = else_on {N = Unit {0}} (over_not_s f s.Dot (omega arith)) _ _ done tt })

  -- behind what was opened
  plain_by : (star : Bool) (a : Expr) (ps : List (Part Expr)) (p : ℕ) (o : Outcome Token (Expr × Ended (Part Expr) Token)) (v rest : Tokens) → Over 1 rest → length (v ++ rest) < suc n → Result None_else o a ps v rest
      → and_then o (λ x. parts_from n b star p x.0 x.1.0 x.1.1) ≡ taken (path a ps p, None) rest
  plain_by star a ps p o v rest f lt (inr g) = absurd g
  plain_by star a ps p o v rest f lt (inl g) =
      let r = g.room in
      ap (λ o. and_then o (λ x. parts_from n b star p x.0 x.1.0 x.1.1)) g.is
      ∙ last (parts_read star g.with_it) (g.more, g.parts, refl) _ f (λ _. ap (λ (q : List (Part Expr)). taken (path a q p, None) rest) (sym g.all)) (omega arith)

  pub postfix_plain : (star : Bool) (a : Expr) (u : Tokens) → PostfixOf a u → (rest : Tokens) → Over 1 rest → length (u ++ rest) < suc n → postfix_or_star n b star (u ++ rest) ≡ taken (a, None) rest
  unfolding postfix_or_star
  postfix_plain star _ _ (postfix_is {a = a} {ps = ps} {u = u} {v = v} m z) rest f lt =
      let long : length ((u ++ v) ++ rest) ≡ length (u ++ (v ++ rest)) = ap length (append_assoc u v rest) in
      let more = length-append u (v ++ rest) in
      begun {N = Unit {0}} (λ p. opened n b star >>= (λ x. parts_from n b star p x.0 x.1.0 x.1.1)) u v rest (solid_basic a u m)
      (λ _. ap (λ (w : Tokens). and_then (opened n b star w) (λ x. parts_from n b star (start_of u) x.0 x.1.0 x.1.1)) (append_assoc u v rest)
      ∙ plain_by star a ps (start_of u) (opened n b star (u ++ (v ++ rest))) v rest f (omega arith)
      (opened_basic n b x star None_else a u m ps v z rest (weak (omega arith) f) (safe_end star rest f) (omega arith))) tt

  pub postfix_read : Read (suc n) (Over 1) PostfixOf (postfix n b)
  unfolding postfix
  postfix_read = record { reads = λ {a = a} {u = u} l rest f lt. ap (λ o. and_then o (λ y. λ ts. taken y.0 ts)) (postfix_plain false a u l rest f lt) }

  -- ---- with `.*`

  module _ (d k : Token) (id : Is (sign s.Dot) d) (ik : Is (sign s.Star) k) (rest : Tokens) where
    abbrev Star_else : Outcome Token (Expr × Ended (Part Expr) Token) → Expr → List (Part Expr) → Type 0
    Star_else o a ps = (ps ≡ []) × (o ≡ taken (a, ([], Some k)) rest)

    star_end : length (d ∷ k ∷ rest) < suc n → (t : Token) → Result Star_else (name_by n b true t the_safe (d ∷ k ∷ rest)) (e.Name (spelled t) t.start) [] [] (d ∷ k ∷ rest)
    unfolding safe_part
    star_end lt t = inr (refl, then_on id.is _ _ (also id _ (then_on ik.is _ _ (also (record { is = ik.is }) _ done))) lt)

    star_by : (a : Expr) (ps : List (Part Expr)) (p : ℕ) (o : Outcome Token (Expr × Ended (Part Expr) Token)) (v : Tokens) → length (v ++ (d ∷ k ∷ rest)) < suc n → Result Star_else o a ps v (d ∷ k ∷ rest)
        → and_then o (λ x. parts_from n b true p x.0 x.1.0 x.1.1) ≡ taken (path a ps p, Some k) rest
    star_by a ps p o v lt (inr g) = ap (λ o. and_then o (λ x. parts_from n b true p x.0 x.1.0 x.1.1)) g.1 ∙ ap (λ (q : List (Part Expr)). taken (path a q p, Some k) rest) (sym g.0)
    star_by a ps p o v lt (inl g) =
        let r = g.room in
        ap (λ o. and_then o (λ x. parts_from n b true p x.0 x.1.0 x.1.1)) g.is
        ∙ ap (λ (w : Tokens). and_then (until part_next (part_or_star n b true) n g.with_it w) (λ x. λ ts. taken (path a x.0 p, x.1) ts)) (sym (append_assoc g.left (d ∷ k ∷ []) rest))
        ∙ last (starred_read k g.with_it) (gone_to g.parts (star_final id ik)) _ tt (λ _. ap (λ (q : List (Part Expr)). taken (path a q p, Some k) rest) (append-nil (g.with_it ++ g.more) ∙ sym g.all))
        (let h : length ((g.left ++ (d ∷ k ∷ [])) ++ rest) ≡ length (g.left ++ (d ∷ k ∷ rest)) = ap length (append_assoc g.left (d ∷ k ∷ []) rest) in omega arith)

    pub postfix_starred : (a : Expr) (u : Tokens) → PostfixOf a u → length (u ++ (d ∷ k ∷ rest)) < suc n → postfix_or_star n b true (u ++ (d ∷ k ∷ rest)) ≡ taken (a, Some k) rest
    unfolding postfix_or_star
    postfix_starred _ _ (postfix_is {a = a} {ps = ps} {u = u} {v = v} m z) lt =
        let long : length ((u ++ v) ++ (d ∷ k ∷ rest)) ≡ length (u ++ (v ++ (d ∷ k ∷ rest))) = ap length (append_assoc u v (d ∷ k ∷ rest)) in
        let more = length-append u (v ++ (d ∷ k ∷ rest)) in
        let less_more = length-append v (d ∷ k ∷ rest) in
        begun {N = Unit {0}} (λ p. opened n b true >>= (λ x. parts_from n b true p x.0 x.1.0 x.1.1)) u v (d ∷ k ∷ rest) (solid_basic a u m)
        (λ _. ap (λ (w : Tokens). and_then (opened n b true w) (λ x. parts_from n b true (start_of u) x.0 x.1.0 x.1.1)) (append_assoc u v (d ∷ k ∷ rest))
        ∙ star_by a ps (start_of u) (opened n b true (u ++ (v ++ (d ∷ k ∷ rest)))) v (omega arith)
        (opened_basic n b x true Star_else a u m ps v z (d ∷ k ∷ rest) (over_s s.Dot id (omega arith)) (star_end (omega arith)) (omega arith))) tt

  -- ---- all expressions

  pub expr_read : Read (suc n) (Over 10) ExprOf (disjunction n b)
  expr_read = disjunction_read n b (comparison_read n b x (bor_pends n b postfix_read) (bor_read n b postfix_read) (held_read n b x))
