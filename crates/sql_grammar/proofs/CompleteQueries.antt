-- Queries are read; and so, depth by depth, each word of the grammar that is shorter than the depth.
use Rattle.std.proofs.Common.{◌≡◌, inl, inr, ℕ, zero, suc, ◌<◌, ◌≤◌, true, false, List, [], ◌∷◌, ◌++◌, length, Option, Some, None, refl, sym, ◌∙◌, ap, subst, arith}
use Rattle.std.proofs.lemmas.List.{append_assoc, append-nil, length-append}
use Rattle.fronts.specs.Fronts.{Language, OneReading}
use Rattle.fronts.specs.Readers.{Outcome, taken, ◌>>=◌, and_then, token, if_comes, comes}
use Rattle.fronts.proofs.Agrees.{Many, many_none, many_more}
use Rattle.sql_types.specs.declared.kinds.SetKind.{SetKind}
use Rattle.sql_ast.specs.declared.clauses.LimitPart.{LimitPart}
use Rattle.sql_ast.specs.declared.clauses.Sort.{Sort}
use Rattle.sql_ast.specs.declared.expr.Expr.{Expr}
use Rattle.sql_ast.specs.declared.query.Cte.{Cte}
use Rattle.sql_ast.specs.declared.query.Query.{Query, roll-Query}
use Rattle.sql_ast.specs.declared.query.SetTerm.{SetTerm}
use Rattle.sql_ast.specs.declared.query.Term.{Term}
use Rattle.sql_ast.specs.declared.type_spelling.TypeSpelling.{TypeSpelling}
use Rattle.sql_names.specs.declared.words.Reserved.TheVariants as r
use Rattle.sql_ast.specs.declared.words.Sign.TheVariants as s
use Rattle.sql_ast.specs.declared.token.Token.{Token}
use Rattle.sql_ast.specs.Marks.{Tokens, Is, reserved, sign, same_reserved, same_sign, reserved_lexeme, sign_lexeme, start_of}
use Rattle.sql_ast.specs.Parts.{LimitOf, TypeOf}
use Rattle.sql_ast.specs.Grammar.{ExprOf, QueryOf, query_is, ctes_none, ctes_are, CteCommasOf, cte_commas_none, cte_commas_more, CteOf, cte_is, body_is, SetTermsOf, TermOf, term_select, term_query, select_is, OrderOf, TextOf, text_is, text_semicolon}
use Rattle.sql_grammar.specs.Ways.{Parser}
use Rattle.sql_grammar.specs.Words.{limit, levels_below}
use Rattle.sql_grammar.specs.Exprs.{Below, term_read, order}
use Rattle.sql_grammar.specs.Queries.{term_or_except, sets_from, query_end, cte, comma_cte, query_body, query_with, query_whole, query_more}
use Rattle.sql_grammar.specs.Knot.{below, expr_at, query_at, text_at, written_type_at}
use Rattle.sql_grammar.proofs.Marks.{AfterOf, after_of}
use Rattle.sql_grammar.proofs.Ways.{start_front}
use Rattle.sql_grammar.proofs.Follows.{Over}
use Rattle.sql_grammar.proofs.CompleteSteps.{Read, Free, Not, less, tok, also, part, last, then_on, else_on, done, weak, over_end, over_s, r_test, s_test, after_read, after_begins, free_many, to}
use Rattle.sql_grammar.proofs.CompleteRepeats.{begun}
use Rattle.sql_grammar.proofs.CompleteWords.{limit_read, limit_ahead}
use Rattle.sql_grammar.proofs.CompleteTypes.{whole_type_read}
use Rattle.sql_grammar.proofs.CompleteParts.{Reading, TermMore, term_more_is}
use Rattle.sql_grammar.proofs.CompleteCalls.{order_read, order_ahead}
use Rattle.sql_grammar.proofs.CompleteHeld.{both_ahead, sets_ahead}
use Rattle.sql_grammar.proofs.CompleteStars.{expr_read}
use Rattle.sql_grammar.proofs.CompleteBehind.{behind_with}
use Rattle.sql_grammar.proofs.CompleteItems.{NoEdit, Kept}
use Rattle.sql_grammar.proofs.CompleteSelects.{term_by}
use Rattle.sql_grammar.proofs.CompleteSets.{sets_no_edit, sets_none, sets_some}

-- ---- what a term begins with

solid_term : (a : Term) (u : Tokens) → TermOf a u → 1 ≤ length u
solid_term _ _ (term_select (select_is i ld lc li ls lz lm lk lj)) = omega arith
solid_term _ _ (term_query io l ic) = omega arith

term_not_with : (a : Term) (u rest : Tokens) → TermOf a u → comes (reserved r.With) (u ++ rest) ≡ false
unfolding same_reserved
term_not_with _ _ rest (term_select (select_is i ld lc li ls lz lm lk lj)) = r_test r.Select (reserved_lexeme r.With) i refl
term_not_with _ _ rest (term_query io l ic) = s_test s.OpenRound (reserved_lexeme r.With) io refl

term_not_comma : (a : Term) (u rest : Tokens) → TermOf a u → comes (sign s.Comma) (u ++ rest) ≡ false
unfolding same_sign
term_not_comma _ _ rest (term_select (select_is i ld lc li ls lz lm lk lj)) = r_test r.Select (sign_lexeme s.Comma) i refl
term_not_comma _ _ rest (term_query io l ic) = s_test s.OpenRound (sign_lexeme s.Comma) io refl

many_ctes : (ms : List (Cte Query)) (v : Tokens) → CteCommasOf ms v → Many (AfterOf (sign s.Comma) CteOf) ms v
many_ctes _ _ cte_commas_none = many_none
many_ctes _ _ (cte_commas_more {ms = ms} {v = v} i l z) = many_more (after_of i l) (many_ctes ms v z)

-- the tree of a query
abbrev made : ℕ → List (Cte Query) → ℕ → Term → List (SetTerm Term) → List (Sort Expr) → Option (LimitPart Expr) → Query
made place cs from a ms ss j = roll-Query (record { ctes = cs; body = record { first = a; rest = ms; place = from }; order = ss; limit = j; place = place })

module _ (n : ℕ) (b : Below) (x : Reading n b) where
  -- ---- behind the first term

  module _ (place : ℕ) (cs : List (Cte Query)) (from : ℕ) (a : Term) (k : SetKind) (ms : List (SetTerm Term)) (v : Tokens) (lv : SetTermsOf k ms v) (ss : List (Sort Expr)) (y : Tokens) (ly : OrderOf ss y)
      (j : Option (LimitPart Expr)) (z : Tokens) (lz : LimitOf j z) (rest : Tokens) (over : Over 22 rest) where
    abbrev ends : List (SetTerm Term) → Parser Query
    ends xs = order n b >>= (λ ss. limit >>= (λ k. λ ts. taken (made place cs from a xs ss k) ts))

    ends_read : length ((y ++ z) ++ rest) < suc n → ends ms ((y ++ z) ++ rest) ≡ taken (made place cs from a ms ss j) rest
    ends_read = part (order_read n b x) ly z rest _ (to (limit_ahead j z lz) (omega arith) (weak (omega arith) over)) (last (limit_read (suc n)) lz _ over done)

    ends_over : Over 20 ((y ++ z) ++ rest)
    ends_over = to (both_ahead y z (order_ahead ss y ly) (limit_ahead j z lz) (omega arith)) (omega arith) (weak (omega arith) over)

    long : length ((v ++ (y ++ z)) ++ rest) ≡ length (v ++ ((y ++ z) ++ rest))
    long = ap length (append_assoc v (y ++ z) rest)

    no_word : length ((v ++ (y ++ z)) ++ rest) < suc n → query_end n b place cs from a None ((v ++ (y ++ z)) ++ rest) ≡ taken (made place cs from a ms ss j) rest
    unfolding query_end
    no_word lt =
        let e = long in let g = length-append v ((y ++ z) ++ rest) in
        ap (λ o. and_then o ends) (ap (sets_from n b None) (append_assoc v (y ++ z) rest) ∙ sets_none n b x k ms v lv ((y ++ z) ++ rest) ends_over (omega arith)) ∙ ends_read (omega arith)

    word_read : (w : Token) (left : Tokens) → (v ++ (y ++ z)) ++ rest ≡ w ∷ left → Is (reserved r.Except) w → length ((v ++ (y ++ z)) ++ rest) < suc n → query_end n b place cs from a (Some w) left ≡ taken (made place cs from a ms ss j) rest
    unfolding query_end
    word_read w left e i lt =
        let q = long in let g = length-append v ((y ++ z) ++ rest) in
        ap (λ o. and_then o ends) (sets_some n b x k ms v lv ((y ++ z) ++ rest) ends_over (omega arith) w left (sym (append_assoc v (y ++ z) rest) ∙ e) i) ∙ ends_read (omega arith)

    -- behind the reader of the term
    term_then : (o : Outcome Token (Term × Option Token)) → Kept o a ((v ++ (y ++ z)) ++ rest) → length ((v ++ (y ++ z)) ++ rest) < suc n → and_then o (λ x. query_end n b place cs from x.0 x.1) ≡ taken (made place cs from a ms ss j) rest
    term_then o (inl h) lt = ap (λ o. and_then o (λ x. query_end n b place cs from x.0 x.1)) h ∙ no_word lt
    term_then o (inr h) lt = ap (λ o. and_then o (λ x. query_end n b place cs from x.0 x.1)) h.reads ∙ word_read h.word h.left h.is h.except lt

    term_over : Over 19 ((v ++ (y ++ z)) ++ rest)
    term_over = subst (Over 19) (sym (append_assoc v (y ++ z) rest)) ((sets_ahead k ms v lv).ahead 19 ((y ++ z) ++ rest) (omega arith) (weak (omega arith) ends_over))

    term_no_edit : NoEdit ((v ++ (y ++ z)) ++ rest)
    term_no_edit = subst NoEdit (sym (append_assoc v (y ++ z) rest)) (sets_no_edit k ms v ((y ++ z) ++ rest) lv ends_over)

  -- a body and what follows it
  body_read : (place : ℕ) (cs : List (Cte Query)) (a : Term) (u : Tokens) → TermOf a u → (k : SetKind) (ms : List (SetTerm Term)) (v : Tokens) → SetTermsOf k ms v → (ss : List (Sort Expr)) (y : Tokens) → OrderOf ss y
      → (j : Option (LimitPart Expr)) (z : Tokens) → LimitOf j z → (rest : Tokens) → Over 22 rest → length ((u ++ (v ++ (y ++ z))) ++ rest) < suc n
      → query_body n b place cs ((u ++ (v ++ (y ++ z))) ++ rest) ≡ taken (made place cs (start_of u) a ms ss j) rest
  unfolding query_body
  body_read place cs a u l k ms v lv ss y ly j z lz rest over lt =
      let whole = append_assoc u (v ++ (y ++ z)) rest in
      let same : length ((u ++ (v ++ (y ++ z))) ++ rest) ≡ length (u ++ ((v ++ (y ++ z)) ++ rest)) = ap length whole in
      let more = length-append u ((v ++ (y ++ z)) ++ rest) in
      let kept = term_by n b x a u l ((v ++ (y ++ z)) ++ rest) (term_over place cs (start_of u) a k ms v lv ss y ly j z lz rest over) (term_no_edit place cs (start_of u) a k ms v lv ss y ly j z lz rest over) (omega arith) in
      begun {N = Unit {0}} (λ p. term_or_except n b >>= (λ x. query_end n b place cs p x.0 x.1)) u (v ++ (y ++ z)) rest (solid_term a u l)
      (λ _. ap (λ (q : Tokens). and_then (term_or_except n b q) (λ x. query_end n b place cs (start_of u) x.0 x.1)) whole
      ∙ term_then place cs (start_of u) a k ms v lv ss y ly j z lz rest over (term_or_except n b (u ++ ((v ++ (y ++ z)) ++ rest))) kept (omega arith)) tt

  -- ---- WITH

  cte_read : Read (suc n) Free CteOf (cte n b)
  unfolding cte
  cte_read = record { reads = by }
    where
      by : {a : Cte Query} {u : Tokens} → CteOf a u → (rest : Tokens) → Unit {0} → length (u ++ rest) < suc n → cte n b (u ++ rest) ≡ taken a rest
      by (cte_is {c = c} i ja io l ic) rest f = tok i _ (also ja _ (also io _ (part x.query l (c ∷ []) rest _ (over_s s.CloseRound ic (omega arith)) (also ic _ done))))

  comma_cte_read : Read (suc n) Free (AfterOf (sign s.Comma) CteOf) (comma_cte n b)
  unfolding comma_cte
  comma_cte_read = after_read (less cte_read)

  ctes_not_comma : (a : Term) (u w rest : Tokens) → TermOf a u → Not (sign s.Comma) ((u ++ w) ++ rest)
  ctes_not_comma a u w rest l = record { is = ap (comes (sign s.Comma)) (append_assoc u w rest) ∙ term_not_comma a u (w ++ rest) l }

  -- behind the word WITH
  with_read_by : (t : Token) (d : Cte Query) (p : Tokens) → CteOf d p → (ds : List (Cte Query)) (q : Tokens) → CteCommasOf ds q → (a : Term) (u : Tokens) → TermOf a u → (k : SetKind) (ms : List (SetTerm Term)) (v : Tokens) → SetTermsOf k ms v
      → (ss : List (Sort Expr)) (y : Tokens) → OrderOf ss y → (j : Option (LimitPart Expr)) (z : Tokens) → LimitOf j z → (rest : Tokens) → Over 22 rest → length ((p ++ (q ++ (u ++ (v ++ (y ++ z))))) ++ rest) < suc n
      → query_with n b t ((p ++ (q ++ (u ++ (v ++ (y ++ z))))) ++ rest) ≡ taken (made t.start (d ∷ ds) (start_of u) a ms ss j) rest
  unfolding query_with
  with_read_by t d p lp ds q lq a u l k ms v lv ss y ly j z lz rest over =
      part cte_read lp (q ++ (u ++ (v ++ (y ++ z)))) rest _ tt
      (part (free_many (after_begins (sign s.Comma) CteOf) comma_cte_read (d ∷ []) many_ctes) (ds, lq, refl) (u ++ (v ++ (y ++ z))) rest _ (ctes_not_comma a u (v ++ (y ++ z)) rest l)
      (body_read t.start (d ∷ ds) a u l k ms v lv ss y ly j z lz rest over))

  with_regroup : (p q u v m : Tokens) → (p ++ q) ++ ((u ++ v) ++ m) ≡ p ++ (q ++ (u ++ (v ++ m)))
  with_regroup p q u v m = append_assoc p q ((u ++ v) ++ m) ∙ ap (λ (w : Tokens). p ++ (q ++ w)) (append_assoc u v m)

  pub with_by : (q : Query) (p : Tokens) → QueryOf q p → (t : Token) (w : Tokens) → p ≡ t ∷ w → Is (reserved r.With) t → (rest : Tokens) → Over 22 rest → length (w ++ rest) < suc n → query_with n b t (w ++ rest) ≡ taken q rest
  with_by _ _ (query_is {x = y} {y = z} ctes_none (body_is {a = a} {u = u} {v = v} l m) ly lz) t w e i rest over lt =
      absurd (let g : true ≡ false = sym i.is ∙ ap (comes (reserved r.With)) (sym e ∙ append_assoc u v (y ++ z)) ∙ term_not_with a u (v ++ (y ++ z)) l in cc)
  with_by _ _ (query_is {ss = ss} {k = j} {x = y} {y = z} (ctes_are {t = k} {a = d} {ms = ds} {u = p} {v = q} ik lp lq) (body_is {k = kind} {a = a} {ms = ms} {u = u} {v = v} l m) ly lz) t w e i rest over lt =
      let same : k ≡ t = cc in
      let is : (p ++ q) ++ ((u ++ v) ++ (y ++ z)) ≡ w = cc in
      let whole : w ≡ p ++ (q ++ (u ++ (v ++ (y ++ z)))) = sym is ∙ with_regroup p q u v (y ++ z) in
      let long : length (w ++ rest) ≡ length ((p ++ (q ++ (u ++ (v ++ (y ++ z))))) ++ rest) = ap (λ (g : Tokens). length (g ++ rest)) whole in
      ap (λ (g : Tokens). query_with n b t (g ++ rest)) whole
      ∙ with_read_by t d p lp ds q lq a u l kind ms v m ss y ly j z lz rest over (omega arith)
      ∙ ap (λ (g : ℕ). taken (made g (d ∷ ds) (start_of u) a ms ss j) rest) (ap (λ (g : Token). g.start) (sym same))

  -- ---- queries

  pub query_by : (q : Query) (p : Tokens) → QueryOf q p → (rest : Tokens) → Over 22 rest → length (p ++ rest) < suc n → query_whole n b (p ++ rest) ≡ taken q rest
  unfolding query_whole
  query_by _ _ (query_is {ss = ss} {k = j} {x = y} {y = z} ctes_none (body_is {k = kind} {a = a} {ms = ms} {u = u} {v = v} l m) ly lz) rest over lt =
      let whole : (u ++ v) ++ (y ++ z) ≡ u ++ (v ++ (y ++ z)) = append_assoc u v (y ++ z) in
      let long : length (((u ++ v) ++ (y ++ z)) ++ rest) ≡ length ((u ++ (v ++ (y ++ z))) ++ rest) = ap (λ (g : Tokens). length (g ++ rest)) whole in
      ap (λ (g : Tokens). query_whole n b (g ++ rest)) whole
      ∙ else_on {N = Unit {0}} (ap (comes (reserved r.With)) (append_assoc u (v ++ (y ++ z)) rest) ∙ term_not_with a u ((v ++ (y ++ z)) ++ rest) l) _ _
      (begun {N = Unit {0}} (λ p. query_body n b p []) u (v ++ (y ++ z)) rest (solid_term a u l) (λ _. body_read (start_of u) [] a u l kind ms v m ss y ly j z lz rest over (omega arith))) tt
      ∙ ap (λ (g : ℕ). taken (made g [] (start_of u) a ms ss j) rest) (sym (start_front u v (solid_term a u l)))
  query_by _ _ (query_is (ctes_are {t = t} i lp lq) m ly lz) rest over lt =
      then_on i.is _ _ (tok i _ (λ short. with_by _ _ (query_is (ctes_are i lp lq) m ly lz) t _ refl i rest over (omega arith))) lt

  pub term_more_by : (a : Term) (p : ℕ) (q : Query) (w : Tokens) → TermMore a p q w → (rest : Tokens) → Over 22 rest → length (w ++ rest) < suc n → query_more n b (term_read a p) (w ++ rest) ≡ taken q rest
  term_more_by a p _ _ (term_more_is {k = k} {ms = ms} {ss = ss} {l = j} {v = v} {x = y} {y = z} m ly lz) rest over lt = no_word p [] p a k ms v m ss y ly j z lz rest over lt

-- ---- depth by depth

none_shorter : (ts : Tokens) → length ts < 0 → ⊥
none_shorter ts lt = omega arith

pub reading : (n : ℕ) → Reading n (below n)
unfolding below
reading zero = record {
  inner = record { reads = λ {a = a} {u = u} l rest f lt. absurd (none_shorter (u ++ rest) lt) };
  query = record { reads = λ {a = a} {u = u} l rest f lt. absurd (none_shorter (u ++ rest) lt) };
  with_more = λ t i. record { reads = λ {a = a} {u = u} l rest f lt. absurd (none_shorter (u ++ rest) lt) };
  term_more = λ a p. record { reads = λ {a = a} {u = u} l rest f lt. absurd (none_shorter (u ++ rest) lt) };
  rest = λ a c t u v i m l rest f lt. absurd (none_shorter (((t ∷ u) ++ v) ++ rest) lt);
}
reading (suc n) = let x = reading n in record {
  inner = expr_read n (below n) x;
  query = record { reads = λ {a = q} {u = u} l rest f lt. query_by n (below n) x q u l rest f lt };
  with_more = λ t i. record { reads = λ {a = q} {u = u} l rest f lt. with_by n (below n) x q (t ∷ u) l t u refl i rest f lt };
  term_more = λ a p. record { reads = λ {a = q} {u = u} l rest f lt. term_more_by n (below n) x a p q u l rest f lt };
  rest = λ a c t u v i m l rest f lt. behind_with n (below n) x a c t u v i m l rest f lt;
}

-- ---- whole texts

all_of : {A : Type 0} {n : ℕ} {F : Tokens → Type 0} {L : Language Token A} {p : Parser A} → Read n F L p → F [] → (a : A) (u : Tokens) → L a u → length u < n → p u ≡ taken a []
all_of {A} {n} {F} {L} {p} x f a u l lt = ap p (sym (append-nil u)) ∙ x.reads l [] f (let e : length (u ++ []) ≡ length u = ap length (append-nil u) in omega arith)

-- an expression that is all of a text is read
pub expr_whole : (n : ℕ) (a : Expr) (u : Tokens) → ExprOf a u → length u < n → expr_at n u ≡ taken a []
expr_whole n a u l lt = all_of (reading n).inner (over_end (omega arith)) a u l lt

-- so is a query
pub query_all : (n : ℕ) (a : Query) (u : Tokens) → QueryOf a u → length u < n → query_at n u ≡ taken a []
query_all n a u l lt = all_of (reading n).query (over_end (omega arith)) a u l lt

-- a text
pub text_whole : (n : ℕ) (a : Query) (u : Tokens) → TextOf a u → length u < n → text_at n u ≡ taken a []
unfolding text_at
text_whole n _ _ (text_is {q = q} {u = u} l) lt = ap (λ o. and_then o (λ q. if_comes (sign s.Semicolon) (token (sign s.Semicolon) >>= (λ _. λ ts. taken q ts)) (λ ts. taken q ts))) (query_all n q u l lt)
text_whole n _ _ (text_semicolon {q = q} {t = t} {u = u} l i) lt =
    ap (λ o. and_then o (λ q. if_comes (sign s.Semicolon) (token (sign s.Semicolon) >>= (λ _. λ ts. taken q ts)) (λ ts. taken q ts))) ((reading n).query.reads l (t ∷ []) (over_s s.Semicolon i (omega arith)) lt)
    ∙ then_on {N = 1 < 2} i.is _ _ (also {n = 2} i _ done) (omega arith)

-- and a type
pub type_whole : (n : ℕ) (a : TypeSpelling) (u : Tokens) → TypeOf (suc levels_below) a u → length u < n → written_type_at n u ≡ taken a []
type_whole n a u l lt = all_of (less (whole_type_read n)) tt a u l lt

-- ---- so no text is read in two ways

pub expr_once : OneReading ExprOf
expr_once a b u l m = let e = expr_whole (suc (length u)) a u l (omega arith) in let f = expr_whole (suc (length u)) b u m (omega arith) in let g : taken a [] ≡ taken b [] = sym e ∙ f in cc

pub query_once : OneReading QueryOf
query_once a b u l m = let e = query_all (suc (length u)) a u l (omega arith) in let f = query_all (suc (length u)) b u m (omega arith) in let g : taken a [] ≡ taken b [] = sym e ∙ f in cc

pub text_once : OneReading TextOf
text_once a b u l m = let e = text_whole (suc (length u)) a u l (omega arith) in let f = text_whole (suc (length u)) b u m (omega arith) in let g : taken a [] ≡ taken b [] = sym e ∙ f in cc

pub type_once : OneReading (TypeOf (suc levels_below))
type_once a b u l m = let e = type_whole (suc (length u)) a u l (omega arith) in let f = type_whole (suc (length u)) b u m (omega arith) in let g : taken a [] ≡ taken b [] = sym e ∙ f in cc
