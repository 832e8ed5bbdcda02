-- Select lists are read: with a comma behind them, and with the word EXCEPT that was read behind a last `*`.
use Rattle.std.proofs.Common.{◌≡◌, inl, inr, ℕ, suc, ◌<◌, ◌≤◌, true, false, List, [], ◌∷◌, ◌++◌, length, Option, Some, None, refl, sym, ◌∙◌, ap, subst, arith}
use Rattle.std.proofs.lemmas.List.{append_assoc, append-nil, length-append}
use Rattle.fronts.specs.Readers.{Outcome, taken, and_then, comes}
use Rattle.fronts.proofs.Agrees.{Many, many_none, many_more}
use Rattle.sql_ast.specs.declared.clauses.Item.{Item}
use Rattle.sql_ast.specs.declared.expr.Expr.{Expr}
use Rattle.sql_names.specs.declared.words.Reserved.TheVariants as r
use Rattle.sql_ast.specs.declared.words.Sign.TheVariants as s
use Rattle.sql_ast.specs.declared.token.Token.{Token}
use Rattle.sql_ast.specs.declared.token.Lexeme.{Lexeme}
use Rattle.sql_ast.specs.declared.token.Lexeme.TheVariants as l
use Rattle.sql_ast.specs.Marks.{Tokens, Is, reserved, sign, same_reserved, reserved_lexeme}
use Rattle.sql_ast.specs.Grammar.{ItemOf, item_star, item_qualified, item_expr, ItemsOf, items_none, items_comma, items_more}
use Rattle.sql_grammar.specs.Ways.{Parser, Ended, until}
use Rattle.sql_grammar.specs.Classes.{item_class, is_item, starts_item}
use Rattle.sql_grammar.specs.Exprs.{Below}
use Rattle.sql_grammar.specs.Queries.{ItemsEnd, at_comma, at_except, except_end, item_or_except, items_after, items_from, items}
use Rattle.sql_grammar.proofs.Marks.{AfterOf, after_of}
use Rattle.sql_grammar.proofs.Follows.{Over, Starts, level, rank}
use Rattle.sql_grammar.proofs.CompleteSteps.{Read, tok, then_on, else_on, done, weak, over_s, over_not_s, s_test, after_begins}
use Rattle.sql_grammar.proofs.CompleteStarts.{postfix_starts, expr_starts}
use Rattle.sql_grammar.proofs.CompleteRepeats.{One, one, Came, until_stop, until_end, until_next, until_goes, last_apart}
use Rattle.sql_grammar.proofs.CompleteParts.{Reading}
use Rattle.sql_grammar.proofs.CompleteItems.{NoEdit, Kept, kept_none, item_by_rest}

-- ---- what may begin an item, and what doesn't

item_rank : (x : Lexeme) → rank x ≤ 3 → is_item (item_class x) ≡ true
item_rank (l.Sign s.OpenRound) h = refl
item_rank (l.Sign s.OpenSquare) h = refl
item_rank (l.Sign s.Plus) h = refl
item_rank (l.Sign s.Minus) h = refl
item_rank (l.Sign s.Tilde) h = refl
item_rank (l.Sign _) h = absurd (omega arith)
item_rank (l.Reserved r.Not) h = refl
item_rank (l.Reserved r.True) h = refl
item_rank (l.Reserved r.False) h = refl
item_rank (l.Reserved r.Null) h = refl
item_rank (l.Reserved r.If) h = refl
item_rank (l.Reserved r.Case) h = refl
item_rank (l.Reserved r.Cast) h = refl
item_rank (l.Reserved r.Extract) h = refl
item_rank (l.Reserved r.Grouping) h = refl
item_rank (l.Reserved r.Exists) h = refl
item_rank (l.Reserved r.Array) h = refl
item_rank (l.Reserved r.Struct) h = refl
item_rank (l.Reserved r.With) h = refl
item_rank (l.Reserved _) h = absurd (omega arith)
item_rank _ h = refl

starts_come : (ts : Tokens) → Starts 3 ts → comes starts_item ts ≡ true
starts_come [] h = absurd (let g = h.starts in omega arith)
starts_come (t ∷ ts) h = item_rank t.lexeme h.starts

item_comes : (i : Item Expr) (u rest : Tokens) → ItemOf i u → comes starts_item (u ++ rest) ≡ true
item_comes _ _ rest (item_star i l) = s_test s.Star (λ x. is_item (item_class x)) i refl
item_comes _ _ rest (item_qualified {a = a} {t = t} {x = x} {u = u} {v = v} l i j d) =
    ap (comes starts_item) (append_assoc u (t ∷ x ∷ v) rest) ∙ starts_come (u ++ (t ∷ x ∷ (v ++ rest))) (let g = postfix_starts a u (t ∷ x ∷ (v ++ rest)) l in record { starts = let h = g.starts in omega arith })
item_comes _ _ rest (item_expr {a = a} {u = u} {v = v} l d) = ap (comes starts_item) (append_assoc u v rest) ∙ starts_come (u ++ (v ++ rest)) (expr_starts a u (v ++ rest) l)

no_item_by : (x : Lexeme) → 15 < level x → is_item (item_class x) ≡ false
no_item_by (l.Sign s.Star) h = absurd (omega arith)
no_item_by (l.Sign s.Plus) h = absurd (omega arith)
no_item_by (l.Sign s.Minus) h = absurd (omega arith)
no_item_by (l.Sign s.Tilde) h = absurd (omega arith)
no_item_by (l.Sign s.OpenRound) h = absurd (omega arith)
no_item_by (l.Sign s.OpenSquare) h = absurd (omega arith)
no_item_by (l.Sign _) h = refl
no_item_by (l.Reserved r.Not) h = absurd (omega arith)
no_item_by (l.Reserved r.True) h = absurd (omega arith)
no_item_by (l.Reserved r.False) h = absurd (omega arith)
no_item_by (l.Reserved r.Null) h = absurd (omega arith)
no_item_by (l.Reserved r.If) h = absurd (omega arith)
no_item_by (l.Reserved r.Case) h = absurd (omega arith)
no_item_by (l.Reserved r.Cast) h = absurd (omega arith)
no_item_by (l.Reserved r.Extract) h = absurd (omega arith)
no_item_by (l.Reserved r.Grouping) h = absurd (omega arith)
no_item_by (l.Reserved r.Exists) h = absurd (omega arith)
no_item_by (l.Reserved r.Array) h = absurd (omega arith)
no_item_by (l.Reserved r.Struct) h = absurd (omega arith)
no_item_by (l.Reserved r.With) h = absurd (omega arith)
no_item_by (l.Reserved _) h = refl
no_item_by _ h = absurd (omega arith)

no_items_come : (ts : Tokens) → Over 15 ts → comes starts_item ts ≡ false
no_items_come [] h = refl
no_items_come (t ∷ ts) h = no_item_by t.lexeme h.over

-- ---- the items behind the first

data ItemsView (ms : List (Item Expr)) (v : Tokens) : Type 0 where
  view_plain : Many (AfterOf (sign s.Comma) ItemOf) ms v → ItemsView ms v
  view_comma : (w : Tokens) (t : Token) → Many (AfterOf (sign s.Comma) ItemOf) ms w → Is (sign s.Comma) t → v ≡ w ++ (t ∷ []) → ItemsView ms v

view_more : (i : Item Expr) (u : Tokens) → AfterOf (sign s.Comma) ItemOf i u → (ms : List (Item Expr)) (v : Tokens) → ItemsView ms v → ItemsView (i ∷ ms) (u ++ v)
view_more i u l ms v (view_plain z) = view_plain (many_more l z)
view_more i u l ms v (view_comma w t z it e) = view_comma (u ++ w) t (many_more l z) it (ap (λ (q : Tokens). u ++ q) e ∙ sym (append_assoc u w (t ∷ [])))

view_of : (ms : List (Item Expr)) (v : Tokens) → ItemsOf ms v → ItemsView ms v
view_of _ _ items_none = view_plain many_none
view_of _ _ (items_comma {t = t} i) = view_comma [] t many_none i refl
view_of _ _ (items_more {t = t} {i = i} {is = ms} {u = u} {v = v} j l z) = view_more i (t ∷ u) (after_of j l) ms v (view_of ms v z)

-- what may follow an item that no EXCEPT follows
record PlainNext (ts : Tokens) : Type 0 where
  over : Over 14 ts
  no_except : comes (reserved r.Except) ts ≡ false

comma_plain : (t : Token) (ts : Tokens) → sign s.Comma t ≡ true → PlainNext (t ∷ ts)
unfolding same_reserved
comma_plain t ts h = record { over = over_s {t = t} s.Comma (record { is = h }) (omega arith); no_except = s_test {t = t} s.Comma (reserved_lexeme r.Except) (record { is = h }) refl }

plain_no_edit : (ts : Tokens) → PlainNext ts → NoEdit ts
plain_no_edit ts h = record { no_edit = λ x left e i. absurd (let g : true ≡ false = sym i.is ∙ ap (comes (reserved r.Except)) (sym e) ∙ h.no_except in cc) }

-- how a select list is read before this rest
pub data ItemsRead (o : Outcome Token (Ended (Item Expr) ItemsEnd)) (ms : List (Item Expr)) (rest : Tokens) : Type 0 where
  ends_plain : o ≡ taken (ms, None) rest → ItemsRead o ms rest
  ends_comma : o ≡ taken (ms, Some at_comma) rest → ItemsRead o ms rest
  ends_except : (t : Token) (left : Tokens) → rest ≡ t ∷ left → Is (reserved r.Except) t → o ≡ taken (ms, Some (at_except t)) left → ItemsRead o ms rest

as_items : (o q : Outcome Token (Ended (Item Expr) ItemsEnd)) (ms : List (Item Expr)) (rest : Tokens) → o ≡ q → ItemsRead q ms rest → ItemsRead o ms rest
as_items o q ms rest e (ends_plain h) = ends_plain (e ∙ h)
as_items o q ms rest e (ends_comma h) = ends_comma (e ∙ h)
as_items o q ms rest e (ends_except t left is i h) = ends_except t left is i (e ∙ h)

module _ (n : ℕ) (b : Below) (x : Reading n b) where
  abbrev finish : Item Expr × Option Token → Parser (Ended (Item Expr) ItemsEnd)
  finish y = λ ts. taken (y.0 ∷ [], except_end y.1) ts

  after_comma : (t : Token) → Is (sign s.Comma) t → (i : Item Expr) (u rest : Tokens) → ItemOf i u → items_after n b ((t ∷ u) ++ rest) ≡ and_then (item_or_except n b (u ++ rest)) finish
  unfolding items_after
  after_comma t it i u rest l = tok {n = suc (length (u ++ rest))} it _ (then_on (item_comes i u rest l) _ _ done) (omega arith)

  items_after_read : Read (suc n) PlainNext (One (AfterOf (sign s.Comma) ItemOf)) (items_after n b)
  items_after_read = record { reads = by }
    where
      by : {a : Ended (Item Expr) ItemsEnd} {u : Tokens} → One (AfterOf (sign s.Comma) ItemOf) a u → (rest : Tokens) → PlainNext rest → length (u ++ rest) < suc n → items_after n b (u ++ rest) ≡ taken a rest
      by (one (after_of {t = t} {a = i} {u = u} it l)) rest f = λ lt. after_comma t it i u rest l
          ∙ ap (λ o. and_then o finish) (kept_none (item_or_except n b (u ++ rest)) i rest f.no_except (item_by_rest n b x i u l rest f.over (plain_no_edit rest f) (omega arith)))

  abbrev More : ℕ → List (Item Expr) → Parser (Ended (Item Expr) ItemsEnd)
  More m found = until (sign s.Comma) (items_after n b) m found

  goes : (ms : List (Item Expr)) (v : Tokens) → Many (AfterOf (sign s.Comma) ItemOf) ms v → (found : List (Item Expr)) (rest : Tokens) → PlainNext rest → length (v ++ rest) < suc n
      → Came (sign s.Comma) (items_after n b) (More n found (v ++ rest)) (found ++ ms) rest
  goes ms v z found rest h lt = until_goes (sign s.Comma) (items_after n b) PlainNext n (AfterOf (sign s.Comma) ItemOf) comma_plain (after_begins (sign s.Comma) ItemOf) items_after_read ms v z n found rest h (omega arith) lt

  -- the last item, and what follows the list
  last_item : (found : List (Item Expr)) (turns : ℕ) (i : Item Expr) (u : Tokens) → AfterOf (sign s.Comma) ItemOf i u → (rest : Tokens) → Over 15 rest → NoEdit rest → length (u ++ rest) ≤ turns → length (u ++ rest) < suc n
      → ItemsRead (More turns found (u ++ rest)) (found ++ i ∷ []) rest
  last_item found turns i _ (after_of {t = t} {u = u} it l) rest f g room lt = by (item_by_rest n b x i u l rest (weak (omega arith) f) g (omega arith))
    where
      by : Kept (item_or_except n b (u ++ rest)) i rest → ItemsRead (More turns found ((t ∷ u) ++ rest)) (found ++ i ∷ []) rest
      by (inl h) =
          let y = until_next (sign s.Comma) (items_after n b) turns found ((t ∷ u) ++ rest) room it.is (i ∷ []) rest (after_comma t it i u rest l ∙ ap (λ o. and_then o finish) h) (let k = length-append u rest in omega arith) in
          ends_plain (y.is ∙ until_stop (sign s.Comma) (items_after n b) y.turns (found ++ i ∷ []) rest (over_not_s f s.Comma (omega arith)))
      by (inr h) = ends_except h.word h.left h.is h.except (until_end (sign s.Comma) (items_after n b) turns found ((t ∷ u) ++ rest) room it.is (i ∷ []) (at_except h.word) h.left (after_comma t it i u rest l ∙ ap (λ o. and_then o finish) h.reads))

  plain_more : (i : Item Expr) (a : Item Expr) (u : Tokens) → AfterOf (sign s.Comma) ItemOf a u → (ms : List (Item Expr)) (v : Tokens) → Many (AfterOf (sign s.Comma) ItemOf) ms v → (rest : Tokens) → Over 15 rest → NoEdit rest
      → length ((u ++ v) ++ rest) < suc n → ItemsRead (More n (i ∷ []) ((u ++ v) ++ rest)) (i ∷ a ∷ ms) rest
  plain_more i a u l ms v z rest f g lt =
      let y = last_apart (AfterOf (sign s.Comma) ItemOf) a u l ms v z in
      let whole : (u ++ v) ++ rest ≡ y.text ++ (y.end ++ rest) = ap (λ (q : Tokens). q ++ rest) y.whole ∙ append_assoc y.text y.end rest in
      let same : length ((u ++ v) ++ rest) ≡ length (y.text ++ (y.end ++ rest)) = ap length whole in
      let longer = length-append y.text (y.end ++ rest) in
      let came = goes y.before y.text y.many (i ∷ []) (y.end ++ rest) (after_plain y.item y.end (y.spells) rest) (omega arith) in
      subst (λ (q : List (Item Expr)). ItemsRead (More n (i ∷ []) ((u ++ v) ++ rest)) (i ∷ q) rest) (sym y.all)
      (as_items _ (More came.turns ((i ∷ []) ++ y.before) (y.end ++ rest)) (((i ∷ []) ++ y.before) ++ y.item ∷ []) rest (ap (More n (i ∷ [])) whole ∙ came.is)
      (last_item ((i ∷ []) ++ y.before) came.turns y.item y.end y.spells rest f g came.room (omega arith)))
    where
      after_plain : (c : Item Expr) (w : Tokens) → AfterOf (sign s.Comma) ItemOf c w → (rest : Tokens) → PlainNext (w ++ rest)
      after_plain c _ (after_of {t = t} it l) rest = comma_plain t _ it.is

  comma_more : (i : Item Expr) (ms : List (Item Expr)) (v : Tokens) → Many (AfterOf (sign s.Comma) ItemOf) ms v → (t : Token) → Is (sign s.Comma) t → (rest : Tokens) → Over 15 rest → length (v ++ (t ∷ rest)) < suc n
      → ItemsRead (More n (i ∷ []) (v ++ (t ∷ rest))) (i ∷ ms) rest
  unfolding items_after
  comma_more i ms v z t it rest f lt =
      let came = goes ms v z (i ∷ []) (t ∷ rest) (comma_plain t rest it.is) lt in
      let final : items_after n b (t ∷ rest) ≡ taken ([], Some at_comma) rest = tok {n = suc (length rest)} it _ (else_on (no_items_come rest f) _ _ done) (omega arith) in
      ends_comma (came.is ∙ until_end (sign s.Comma) (items_after n b) came.turns ((i ∷ []) ++ ms) (t ∷ rest) came.room it.is [] at_comma rest final ∙ ap (λ (q : List (Item Expr)). taken (q, Some at_comma) rest) (append-nil (i ∷ ms)))

  -- behind the first item
  first_then : (i : Item Expr) (u rest : Tokens) (ms : List (Item Expr)) (end : Tokens) → item_or_except n b (u ++ rest) ≡ taken (i, None) rest → ItemsRead (More n (i ∷ []) rest) ms end → ItemsRead (items n b (u ++ rest)) ms end
  unfolding items
  first_then i u rest ms end h y = as_items _ (More n (i ∷ []) rest) ms end (ap (λ o. and_then o (λ x. items_from n b x.0 x.1)) h) y

  first_plain : (i : Item Expr) (u : Tokens) → ItemOf i u → (rest : Tokens) → PlainNext rest → length (u ++ rest) < n → item_or_except n b (u ++ rest) ≡ taken (i, None) rest
  first_plain i u l rest f lt = kept_none (item_or_except n b (u ++ rest)) i rest f.no_except (item_by_rest n b x i u l rest f.over (plain_no_edit rest f) lt)

  only_item : (i : Item Expr) (u rest : Tokens) → Over 15 rest → Kept (item_or_except n b (u ++ rest)) i rest → ItemsRead (items n b (u ++ rest)) (i ∷ []) rest
  unfolding items
  only_item i u rest f (inl h) = first_then i u rest (i ∷ []) rest h (ends_plain (until_stop (sign s.Comma) (items_after n b) n (i ∷ []) rest (over_not_s f s.Comma (omega arith))))
  only_item i u rest f (inr h) = ends_except h.word h.left h.is h.except (ap (λ o. and_then o (λ x. items_from n b x.0 x.1)) h.reads)

  by_view : (i : Item Expr) (u : Tokens) → ItemOf i u → (ms : List (Item Expr)) (v : Tokens) → ItemsView ms v → (rest : Tokens) → Over 15 rest → NoEdit rest → length (u ++ (v ++ rest)) < n → ItemsRead (items n b (u ++ (v ++ rest))) (i ∷ ms) rest
  by_view i u l _ _ (view_plain many_none) rest f g lt = only_item i u rest f (item_by_rest n b x i u l rest (weak (omega arith) f) g lt)
  by_view i u l _ _ (view_plain (many_more {a = a} {u = k} {ls = ms} {v = v} (after_of {t = t} {u = c} it m) z)) rest f g lt =
      let long = length-append u (((t ∷ c) ++ v) ++ rest) in
      first_then i u (((t ∷ c) ++ v) ++ rest) (i ∷ a ∷ ms) rest (first_plain i u l (((t ∷ c) ++ v) ++ rest) (comma_plain t _ it.is) lt) (plain_more i a (t ∷ c) (after_of it m) ms v z rest f g (omega arith))
  by_view i u l ms v (view_comma w t z it e) rest f g lt =
      let is : v ++ rest ≡ w ++ (t ∷ rest) = ap (λ (q : Tokens). q ++ rest) e ∙ append_assoc w (t ∷ []) rest in
      let same : length (u ++ (v ++ rest)) ≡ length (u ++ (w ++ (t ∷ rest))) = ap (λ (q : Tokens). length (u ++ q)) is in
      let long = length-append u (w ++ (t ∷ rest)) in
      subst (λ (q : Tokens). ItemsRead (items n b (u ++ q)) (i ∷ ms) rest) (sym is)
      (first_then i u (w ++ (t ∷ rest)) (i ∷ ms) rest (first_plain i u l (w ++ (t ∷ rest)) (comma_front ms w z t rest it) (omega arith)) (comma_more i ms w z t it rest f (omega arith)))
    where
      comma_front : (ms : List (Item Expr)) (w : Tokens) → Many (AfterOf (sign s.Comma) ItemOf) ms w → (t : Token) (rest : Tokens) → Is (sign s.Comma) t → PlainNext (w ++ (t ∷ rest))
      comma_front _ _ many_none t rest it = comma_plain t rest it.is
      comma_front _ _ (many_more (after_of {t = k} ik l) z) t rest it = comma_plain k _ ik.is

  pub items_by : (i : Item Expr) (u : Tokens) → ItemOf i u → (ms : List (Item Expr)) (v : Tokens) → ItemsOf ms v → (rest : Tokens) → Over 15 rest → NoEdit rest → length (u ++ (v ++ rest)) < n → ItemsRead (items n b (u ++ (v ++ rest))) (i ∷ ms) rest
  items_by i u l ms v z rest f g lt = by_view i u l ms v (view_of ms v z) rest f g lt
