-- SELECT and terms are read, and the word EXCEPT that was read behind them.
use Rattle.std.proofs.Common.{◌≡◌, inl, inr, ℕ, suc, ◌<◌, ◌≤◌, Bool, true, false, List, [], ◌∷◌, ◌++◌, length, Option, Some, None, refl, sym, ◌∙◌, ap, subst, arith}
use Rattle.std.proofs.lemmas.List.{append_assoc, length-append}
use Rattle.fronts.specs.Readers.{Outcome, taken, and_then, comes}
use Rattle.sql_ast.specs.declared.clauses.FilterPart.{FilterPart}
use Rattle.sql_ast.specs.declared.clauses.Item.{Item}
use Rattle.sql_ast.specs.declared.expr.Expr.{Expr}
use Rattle.sql_ast.specs.declared.grouping.Groups.{Groups}
use Rattle.sql_ast.specs.declared.query.FromItem.{FromItem}
use Rattle.sql_ast.specs.declared.query.Select.{Select}
use Rattle.sql_ast.specs.declared.query.Term.{Term}
use Rattle.sql_ast.specs.declared.query.Term.TheVariants as term
use Rattle.sql_names.specs.declared.words.Reserved.{Reserved}
use Rattle.sql_names.specs.declared.words.Reserved.TheVariants as r
use Rattle.sql_ast.specs.declared.words.Sign.TheVariants as s
use Rattle.sql_ast.specs.declared.token.Token.{Token}
use Rattle.sql_ast.specs.declared.token.Lexeme.TheVariants as l
use Rattle.sql_ast.specs.Marks.{Tokens, Is, reserved, sign, same_reserved, same_sign, reserved_lexeme, sign_lexeme}
use Rattle.sql_ast.specs.Parts.{AsStructOf, as_struct_none, as_struct_is}
use Rattle.sql_ast.specs.Grammar.{ItemOf, item_star, item_qualified, item_expr, FromPartOf, from_none, from_is, WhereOf, where_none, where_is, GroupByOf, group_none, group_is, HavingOf, having_none, having_is, SelectOf, select_is, TermOf, term_select, term_query}
use Rattle.sql_grammar.specs.Ways.{Ended}
use Rattle.sql_grammar.specs.Exprs.{Below}
use Rattle.sql_grammar.specs.Queries.{ItemsEnd, select_of, items, where_part, having_part, clauses, select_end, select_or_except, term_or_except}
use Rattle.sql_grammar.proofs.Marks.{after_of}
use Rattle.sql_grammar.proofs.Follows.{Over, Starts}
use Rattle.sql_grammar.proofs.CompleteSteps.{Read, tok, also, part, last, then_on, else_on, done, weak, over_s, over_not_r, starts_not_r, r_test, s_test, Ahead, nothing_ahead, r_ahead, to}
use Rattle.sql_grammar.proofs.CompleteStarts.{postfix_starts, expr_starts}
use Rattle.sql_grammar.proofs.CompleteWords.{Neither, select_distinct_read, as_struct_read}
use Rattle.sql_grammar.proofs.CompleteParts.{Reading, after_read_by}
use Rattle.sql_grammar.proofs.CompleteHeld.{both_ahead}
use Rattle.sql_grammar.proofs.CompleteJoins.{from_part_read, from_part_ahead}
use Rattle.sql_grammar.proofs.CompleteGroups.{group_by_read, group_by_ahead}
use Rattle.sql_grammar.proofs.CompleteItems.{NoEdit, Kept, kept_as, kept_map}
use Rattle.sql_grammar.proofs.CompleteLists.{ItemsRead, ends_plain, ends_comma, ends_except, items_by}

-- ---- what an item doesn't begin with

-- the first token isn't one of these words
record NoWords (ts : Tokens) : Type 0 where
  no_all : comes (reserved r.All) ts ≡ false
  no_distinct : comes (reserved r.Distinct) ts ≡ false
  no_as : comes (reserved r.As) ts ≡ false

starts_no_words : (ts : Tokens) → Starts 3 ts → NoWords ts
starts_no_words ts h = record { no_all = starts_not_r h r.All (omega arith); no_distinct = starts_not_r h r.Distinct (omega arith); no_as = starts_not_r h r.As (omega arith) }

item_no_words : (i : Item Expr) (u rest : Tokens) → ItemOf i u → NoWords (u ++ rest)
item_no_words _ _ rest (item_star i l) = record { no_all = s_test s.Star (reserved_lexeme r.All) i refl; no_distinct = s_test s.Star (reserved_lexeme r.Distinct) i refl; no_as = s_test s.Star (reserved_lexeme r.As) i refl }
item_no_words _ _ rest (item_qualified {a = a} {t = t} {x = x} {u = u} {v = v} l i j d) =
    subst NoWords (sym (append_assoc u (t ∷ x ∷ v) rest)) (starts_no_words (u ++ (t ∷ x ∷ (v ++ rest))) (let g = postfix_starts a u (t ∷ x ∷ (v ++ rest)) l in record { starts = let h = g.starts in omega arith }))
item_no_words _ _ rest (item_expr {a = a} {u = u} {v = v} l d) = subst NoWords (sym (append_assoc u v rest)) (starts_no_words (u ++ (v ++ rest)) (expr_starts a u (v ++ rest) l))

struct_neither : (d : Bool) (v w rest : Tokens) → AsStructOf d v → NoWords (w ++ rest) → Neither r.All r.Distinct ((v ++ w) ++ rest)
unfolding same_reserved
struct_neither _ _ w rest as_struct_none h = record { first = h.no_all; second = h.no_distinct }
struct_neither _ _ w rest (as_struct_is i j) h = record { first = r_test r.As (reserved_lexeme r.All) i refl; second = r_test r.As (reserved_lexeme r.Distinct) i refl }

-- ---- the clauses behind the items

where_ahead : (c : Option Expr) (u : Tokens) → WhereOf c u → Ahead 17 u
where_ahead _ _ where_none = nothing_ahead
where_ahead _ _ (where_is i l) = r_ahead r.Where i

having_ahead : (c : Option (FilterPart Expr)) (u : Tokens) → HavingOf c u → Ahead 19 u
having_ahead _ _ having_none = nothing_ahead
having_ahead _ _ (having_is i l) = r_ahead r.Having i

-- where EXCEPT comes next behind the items, no clause stands
no_clause : {t : Token} {ts : Tokens} (x : Reserved) (e : Token) (left : Tokens) → Is (reserved x) t → reserved_lexeme r.Except (l.Reserved x) ≡ false → (t ∷ ts) ≡ e ∷ left → Is (reserved r.Except) e → ⊥
no_clause {t} {ts} x e left i h q j = let g : true ≡ false = sym j.is ∙ ap (comes (reserved r.Except)) (sym q) ∙ r_test x (reserved_lexeme r.Except) i h in cc

no_clauses : (t : Token) (d b : Bool) (ms : List (Item Expr)) (f : Option FromItem) (z : Tokens) → FromPartOf f z → (c : Option Expr) (m : Tokens) → WhereOf c m → (g : Option (Groups Expr)) (k : Tokens) → GroupByOf g k
    → (h : Option (FilterPart Expr)) (j : Tokens) → HavingOf h j → (rest : Tokens) (e : Token) (left : Tokens) → (z ++ (m ++ (k ++ j))) ++ rest ≡ e ∷ left → Is (reserved r.Except) e
    → (rest ≡ e ∷ left) × (select_of t d b ms None None None None ≡ select_of t d b ms f c g h)
unfolding same_reserved
no_clauses t d b ms _ _ (from_is i l) c m lm g k lk h j lj rest e left q ie = absurd (no_clause r.From e left i refl q ie)
no_clauses t d b ms _ _ from_none _ _ (where_is i l) g k lk h j lj rest e left q ie = absurd (no_clause r.Where e left i refl q ie)
no_clauses t d b ms _ _ from_none _ _ where_none _ _ (group_is i i2 l) h j lj rest e left q ie = absurd (no_clause r.Group e left i refl q ie)
no_clauses t d b ms _ _ from_none _ _ where_none _ _ group_none _ _ (having_is i l) rest e left q ie = absurd (no_clause r.Having e left i refl q ie)
no_clauses t d b ms _ _ from_none _ _ where_none _ _ group_none _ _ having_none rest e left q ie = (q, refl)

behind_front : (u w rest : Tokens) → length (w ++ rest) ≤ length ((u ++ w) ++ rest)
behind_front u w rest = let e : length ((u ++ w) ++ rest) ≡ length (u ++ (w ++ rest)) = ap length (append_assoc u w rest) in let g = length-append u (w ++ rest) in omega arith

module _ (n : ℕ) (b : Below) (x : Reading n b) where
  where_read : Read (suc n) (Over 17) WhereOf (where_part n b)
  unfolding where_part
  where_read = record { reads = by }
    where
      by : {a : Option Expr} {u : Tokens} → WhereOf a u → (rest : Tokens) → Over 17 rest → length (u ++ rest) < suc n → where_part n b (u ++ rest) ≡ taken a rest
      by where_none rest f = else_on (over_not_r f r.Where (omega arith)) _ _ done
      by (where_is i l) rest f = then_on i.is _ _ (last (after_read_by n b x r.Where) (after_of i l) _ (weak (omega arith) f) done)

  having_read : Read (suc n) (Over 19) HavingOf (having_part n b)
  unfolding having_part
  having_read = record { reads = by }
    where
      by : {a : Option (FilterPart Expr)} {u : Tokens} → HavingOf a u → (rest : Tokens) → Over 19 rest → length (u ++ rest) < suc n → having_part n b (u ++ rest) ≡ taken a rest
      by having_none rest f = else_on (over_not_r f r.Having (omega arith)) _ _ done
      by (having_is i l) rest f = then_on i.is _ _ (tok i _ (last x.inner l _ (weak (omega arith) f) done))

  module _ (t : Token) (d c : Bool) (ms : List (Item Expr)) (f : Option FromItem) (z : Tokens) (lz : FromPartOf f z) (a : Option Expr) (m : Tokens) (lm : WhereOf a m) (g : Option (Groups Expr)) (k : Tokens) (lk : GroupByOf g k)
      (h : Option (FilterPart Expr)) (j : Tokens) (lj : HavingOf h j) (rest : Tokens) (over : Over 19 rest) where
    clauses_read : length ((z ++ (m ++ (k ++ j))) ++ rest) < suc n → clauses n b t d c ms ((z ++ (m ++ (k ++ j))) ++ rest) ≡ taken (select_of t d c ms f a g h, None) rest
    unfolding clauses
    clauses_read =
        let kj = both_ahead k j (group_by_ahead g k lk) (having_ahead h j lj) (omega arith) in
        let mkj = both_ahead m (k ++ j) (where_ahead a m lm) kj (omega arith) in
        part (from_part_read n b x) lz (m ++ (k ++ j)) rest _ (to mkj (omega arith) (weak (omega arith) over))
        (part where_read lm (k ++ j) rest _ (to kj (omega arith) (weak (omega arith) over))
        (part (group_by_read n b x) lk j rest _ (to (having_ahead h j lj) (omega arith) (weak (omega arith) over)) (last having_read lj _ over done)))

    clauses_over : Over 15 ((z ++ (m ++ (k ++ j))) ++ rest)
    clauses_over = to (both_ahead z (m ++ (k ++ j)) (from_part_ahead f z lz) (both_ahead m (k ++ j) (where_ahead a m lm) (both_ahead k j (group_by_ahead g k lk) (having_ahead h j lj) (omega arith)) (omega arith)) (omega arith)) (omega arith) (weak (omega arith) over)

    clauses_no_edit : NoEdit rest → NoEdit ((z ++ (m ++ (k ++ j))) ++ rest)
    clauses_no_edit e = record { no_edit = λ y left q i. e.no_edit y left (no_clauses t d c ms f z lz a m lm g k lk h j lj rest y left q i).0 i }

    -- behind the items
    ended : (o : Outcome Token (Ended (Item Expr) ItemsEnd)) → ItemsRead o ms ((z ++ (m ++ (k ++ j))) ++ rest) → length ((z ++ (m ++ (k ++ j))) ++ rest) < suc n
        → Kept (and_then o (λ y. select_end n b t d c y.0 y.1)) (select_of t d c ms f a g h) rest
    ended o (ends_plain q) lt = inl (ap (λ o. and_then o (λ y. select_end n b t d c y.0 y.1)) q ∙ clauses_read lt)
    ended o (ends_comma q) lt = inl (ap (λ o. and_then o (λ y. select_end n b t d c y.0 y.1)) q ∙ clauses_read lt)
    ended o (ends_except y left q i e) lt =
        let same = no_clauses t d c ms f z lz a m lm g k lk h j lj rest y left q i in
        inr (record { word = y; left = left; is = same.0; except = i; reads = ap (λ o. and_then o (λ y. select_end n b t d c y.0 y.1)) e ∙ ap (λ (s : Select). taken (s, Some y) left) same.1 })

  pub select_by : (a : Select) (u : Tokens) → SelectOf a u → (rest : Tokens) → Over 19 rest → NoEdit rest → length (u ++ rest) < suc n → Kept (select_or_except n b (u ++ rest)) a rest
  unfolding select_or_except
  select_by _ _ (select_is {t = t} {d = d} {b = c} {i = i} {is = ms} {f = f} {c = a} {g = g} {h = h} {u = u} {v = v} {x = y} {y = q} {z = z} {m = m} {k = k} {j = j} it ld lc li ls lz lm lk lj) rest over e lt =
      let w = z ++ (m ++ (k ++ j)) in
      let words : NoWords ((y ++ (q ++ w)) ++ rest) = subst NoWords (sym (append_assoc y (q ++ w) rest)) (item_no_words i y ((q ++ w) ++ rest) li) in
      let s1 = behind_front u (v ++ (y ++ (q ++ w))) rest in
      let s2 = behind_front v (y ++ (q ++ w)) rest in
      let s3 = behind_front y (q ++ w) rest in
      let s4 = behind_front q w rest in
      let whole : (y ++ (q ++ w)) ++ rest ≡ y ++ (q ++ (w ++ rest)) = append_assoc y (q ++ w) rest ∙ ap (λ (p : Tokens). y ++ p) (append_assoc q w rest) in
      let same : length ((y ++ (q ++ w)) ++ rest) ≡ length (y ++ (q ++ (w ++ rest))) = ap length whole in
      kept_as _ (and_then (items n b (y ++ (q ++ (w ++ rest)))) (λ y. select_end n b t d c y.0 y.1)) (select_of t d c (i ∷ ms) f a g h) rest
      (tok it _ (part (select_distinct_read n) ld (v ++ (y ++ (q ++ w))) rest _ (struct_neither c v (y ++ (q ++ w)) rest lc words)
      (part (as_struct_read n) lc (y ++ (q ++ w)) rest _ (record { is = words.no_as }) (λ _. ap (λ (p : Tokens). and_then (items n b p) (λ y. select_end n b t d c y.0 y.1)) whole))) lt)
      (ended t d c (i ∷ ms) f z lz a m lm g k lk h j lj rest over (items n b (y ++ (q ++ (w ++ rest))))
      (items_by n b x i y li ms q ls (w ++ rest) (clauses_over t d c (i ∷ ms) f z lz a m lm g k lk h j lj rest over) (clauses_no_edit t d c (i ∷ ms) f z lz a m lm g k lk h j lj rest over e) (omega arith)) (omega arith))

  pub term_by : (a : Term) (u : Tokens) → TermOf a u → (rest : Tokens) → Over 19 rest → NoEdit rest → length (u ++ rest) < suc n → Kept (term_or_except n b (u ++ rest)) a rest
  unfolding term_or_except same_sign
  term_by _ _ (term_query {o = o} {c = c} io l ic) rest over e lt = inl (then_on io.is _ _ (tok io _ (part x.query l (c ∷ []) rest _ (over_s s.CloseRound ic (omega arith)) (also ic _ done))) lt)
  term_by _ _ (term_select {a = a} {u = u} l) rest over e lt =
      kept_as _ (and_then (select_or_except n b (u ++ rest)) (λ x. λ ts. taken (term.Select x.0, x.1) ts)) (term.Select a) rest
      (else_on {N = Unit {0}} (select_not_open a u rest l) _ _ done tt) (kept_map term.Select (select_or_except n b (u ++ rest)) a rest (select_by a u l rest over e lt))
    where
      select_not_open : (a : Select) (u rest : Tokens) → SelectOf a u → comes (sign s.OpenRound) (u ++ rest) ≡ false
      select_not_open _ _ rest (select_is i ld lc li ls lz lm lk lj) = r_test r.Select (sign_lexeme s.OpenRound) i refl
