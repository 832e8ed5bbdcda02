-- The readers of chains are exact.
use Rattle.std.proofs.Common.{◌≡◌, ℕ, suc, ◌≤◌, ◌||◌, Bool, true, false, cond, List, [], ◌∷◌, ◌++◌, length, Option, Some, None, refl, sym, ◌∙◌, ap, subst, arith}
use Rattle.std.proofs.lemmas.List.{append_assoc, append-nil}
use Rattle.fronts.specs.Fronts.{Language}
use Rattle.fronts.specs.Readers.{◌>>=◌, pure, token}
use Rattle.fronts.proofs.Firm.{Opens}
use Rattle.fronts.proofs.Exact.{Exact, bind, last, into, done, less, exact_all, exact_refuse}
use Rattle.sql_ast.specs.declared.expr.Expr.{Expr}
use Rattle.sql_ast.specs.declared.expr.Link.{Link}
use Rattle.sql_ast.specs.declared.expr.Prefix.{Prefix}
use Rattle.sql_ast.specs.declared.token.Token.{Token}
use Rattle.sql_ast.specs.declared.expr.Expr.TheVariants as e
use Rattle.sql_ast.specs.declared.expr.Operator.TheVariants as op
use Rattle.sql_ast.specs.declared.expr.Signed.TheVariants as signed_kind
use Rattle.sql_names.specs.declared.words.Reserved.TheVariants as r
use Rattle.sql_ast.specs.declared.words.Sign.TheVariants as s
use Rattle.sql_ast.specs.Marks.{Tokens, Is, reserved, sign, closes_shift}
use Rattle.sql_ast.specs.Trees.{prefix_of, product_of, sum_of, link, chain, prefixes}
use Rattle.sql_ast.specs.Grammar.{BandOf, BandsOf, BorOf, BorsOf, BxorOf, BxorsOf, ProdOf, ProdsOf, ShiftOf, ShiftsOf, SumOf, SumsOf, UnaryOf, band_is, bands_more, bands_none, bor_is, bors_more, bors_none, bxor_is, bxors_more, bxors_none, prod_is, prods_more, prods_none, shift_is, shifts_left, shifts_none, shifts_right, sum_is, sums_more, sums_none, unary_is}
use Rattle.sql_ast.specs.Parts.{NotsOf, PrefixesOf, nots_more, prefixes_more, prefixes_none}
use Rattle.sql_grammar.specs.Ways.{Ended}
use Rattle.sql_grammar.specs.Exprs.{tells, told, Pending, prefix, not_place, settled, shift_next, unary, product_from, product, sum_from, sum, greater_or_shift, shift_item, shift_from, shift, band_from, band, bxor_from, bxor, bor_from, bor_pending, bor, Below}
use Rattle.sql_grammar.proofs.Ways.{exact_to_end}
use Rattle.sql_grammar.proofs.Marks.{the_reserved, the_sign, a_prefix, a_product, a_sum, a_closing, tok, opt, opt_also, tok_opens, says}
use Rattle.sql_grammar.proofs.Solid.{solid_front, solid_unary, solid_prod, solid_sum, solid_shift, solid_band, solid_bxor, solid_bor, some_prod, some_sum, some_shift, some_band, some_bxor, some_bor}
use Rattle.sql_grammar.proofs.Levels.{From, begun_on, level, no_word, chain_exact, PendingOf, LinksTo, pending_solid, pending_some, made_pending, pending_exact, pending_none, pending_is, links_none, links_pending}
use Rattle.sql_grammar.proofs.Calls.{Under}
use Rattle.sql_grammar.proofs.Exprs.{postfix_exact}

-- ---- prefixes

pub data PrefixIs : Prefix → Tokens → Type 0 where
  prefix_is : {t : Token} → Is (tells prefix_of) t → PrefixIs (record { operator = told signed_kind.Plus prefix_of t; place = t.start }) (t ∷ [])

pub data NotIs : ℕ → Tokens → Type 0 where
  not_is : {t : Token} → Is (reserved r.Not) t → NotIs t.start (t ∷ [])

pub prefix_solid : (a : Prefix) (u : Tokens) → PrefixIs a u → 1 ≤ length u
prefix_solid _ _ (prefix_is i) = omega arith

pub not_solid : (a : ℕ) (u : Tokens) → NotIs a u → 1 ≤ length u
not_solid _ _ (not_is i) = omega arith

pub prefixes_at : (a : Prefix) (u : Tokens) (ls : List Prefix) (v : Tokens) → PrefixIs a u → PrefixesOf ls v → PrefixesOf (a ∷ ls) (u ++ v)
prefixes_at _ _ ls v (prefix_is {t = t} i) z = prefixes_more (says signed_kind.Plus prefix_of t i) z

pub nots_at : (a : ℕ) (u : Tokens) (ls : List ℕ) (v : Tokens) → NotIs a u → NotsOf ls v → NotsOf (a ∷ ls) (u ++ v)
nots_at _ _ ls v (not_is i) z = nots_more i z

pub prefix_exact : (n : ℕ) → Exact (suc n) PrefixIs prefix prefix
unfolding prefix
prefix_exact n = tok a_prefix (λ t it. done (prefix_is it))

pub prefix_opens : (t : Token) → tells prefix_of t ≡ true → Opens t prefix
unfolding prefix
prefix_opens t h = tok_opens {n = 0} h (λ z iz. done tt)

pub not_exact : (n : ℕ) → Exact (suc n) NotIs not_place not_place
unfolding not_place
not_exact n = tok (the_reserved r.Not) (λ t it. done (not_is it))

pub not_opens : (t : Token) → reserved r.Not t ≡ true → Opens t not_place
unfolding not_place
not_opens t h = tok_opens {n = 0} h (λ z iz. done tt)

-- ---- shifts

pub data ShiftTo : Ended (Link Expr) Token → Tokens → Type 0 where
  shift_to_left : {t : Token} {a : Expr} {u : Tokens} → Is (sign s.LessLess) t → SumOf a u → ShiftTo (link op.ShiftLeft t a ∷ [], None) (t ∷ u)
  shift_to_right : {t z : Token} {a : Expr} {u : Tokens} → Is (sign s.Greater) t → Is (closes_shift t) z → SumOf a u → ShiftTo (link op.ShiftRight t a ∷ [], None) (t ∷ z ∷ u)
  shift_to_end : {t : Token} → Is (sign s.Greater) t → ShiftTo ([], Some t) (t ∷ [])

pub shift_to_solid : (a : Ended (Link Expr) Token) (u : Tokens) → ShiftTo a u → 1 ≤ length u
shift_to_solid _ _ (shift_to_left i l) = omega arith
shift_to_solid _ _ (shift_to_right i j l) = omega arith
shift_to_solid _ _ (shift_to_end i) = omega arith

pub shifts_more_to : (xs : List (Link Expr)) (u : Tokens) (ls : List (Link Expr)) (o : Option Token) (v : Tokens) → ShiftTo (xs, None) u → LinksTo ShiftsOf (ls, o) v → LinksTo ShiftsOf (xs ++ ls, o) (u ++ v)
shifts_more_to _ _ _ _ _ (shift_to_left i l) (links_none z) = links_none (shifts_left i l z)
shifts_more_to _ _ _ _ _ (shift_to_right i j l) (links_none z) = links_none (shifts_right i j l z)
shifts_more_to _ _ _ _ _ (shift_to_left {t = t} {a = a} {u = u} i l) (links_pending {ls = ls} {t = g} {u = v} z k) =
    subst (LinksTo ShiftsOf (link op.ShiftLeft t a ∷ ls, Some g)) (append_assoc (t ∷ u) v (g ∷ [])) (links_pending (shifts_left i l z) k)
shifts_more_to _ _ _ _ _ (shift_to_right {t = t} {z = y} {a = a} {u = u} i j l) (links_pending {ls = ls} {t = g} {u = v} z k) =
    subst (LinksTo ShiftsOf (link op.ShiftRight t a ∷ ls, Some g)) (append_assoc (t ∷ y ∷ u) v (g ∷ [])) (links_pending (shifts_right i j l z) k)

pub shifts_end_to : (xs : List (Link Expr)) (e : Token) (u : Tokens) → ShiftTo (xs, Some e) u → LinksTo ShiftsOf (xs, Some e) u
shifts_end_to _ _ _ (shift_to_end i) = links_pending shifts_none i

-- ---- a `>` behind a word may begin the operator `>>`

-- a longer word, with this token behind the first
abbrev pub Longer : {A : Type 0} → Language Token A → Tokens → Token → Type 0
Longer {A} L u t = (a : A) × (v : Tokens) × L a (u ++ (t ∷ v))

pub closing_is : (t : Token) → Is (closes_shift t) (a_closing t).0
closing_is t = record { is = (a_closing t).1 }

pub shifts_longer : (ls : List (Link Expr)) (u : Tokens) (t : Token) → Is (sign s.Greater) t → ShiftsOf ls u → Longer ShiftsOf u t
shifts_longer _ _ t it shifts_none = (_, _, shifts_right it (closing_is t) (some_sum.2) shifts_none)
shifts_longer _ _ t it (shifts_left {t = y} {ls = ls} {u = u} {v = v} i l z) =
    let g = shifts_longer ls v t it z in
    (_, g.1, subst (ShiftsOf _) (ap (λ (w : Tokens). y ∷ w) (sym (append_assoc u v (t ∷ g.1)))) (shifts_left i l g.2))
shifts_longer _ _ t it (shifts_right {t = y} {x = k} {ls = ls} {u = u} {v = v} i j l z) =
    let g = shifts_longer ls v t it z in
    (_, g.1, subst (ShiftsOf _) (ap (λ (w : Tokens). y ∷ k ∷ w) (sym (append_assoc u v (t ∷ g.1)))) (shifts_right i j l g.2))

pub shift_longer : (a : Expr) (u : Tokens) (t : Token) → Is (sign s.Greater) t → ShiftOf a u → Longer ShiftOf u t
shift_longer _ _ t it (shift_is {ls = ls} {u = u} {v = v} l z) =
    let g = shifts_longer ls v t it z in
    (_, g.1, subst (ShiftOf _) (sym (append_assoc u v (t ∷ g.1))) (shift_is l g.2))

pub bands_longer : (ls : List (Link Expr)) (u : Tokens) (t : Token) → Is (sign s.Greater) t → (1 ≤ length ls) → BandsOf ls u → Longer BandsOf u t
bands_longer _ _ t it h bands_none = absurd (omega arith)
bands_longer _ _ t it h (bands_more {t = y} {u = u} i l bands_none) =
    let g = shift_longer _ u t it l in
    (_, g.1, subst (BandsOf _) (ap (λ (w : Tokens). y ∷ w) (append-nil (u ++ (t ∷ g.1)) ∙ ap (λ (w : Tokens). w ++ (t ∷ g.1)) (sym (append-nil u)))) (bands_more i g.2 bands_none))
bands_longer _ _ t it h (bands_more {t = y} {u = u} i l (bands_more {t = k} {a = c} {ls = ls} {u = v} {v = w} j m z)) =
    let g = bands_longer (link op.BitAnd k c ∷ ls) (k ∷ (v ++ w)) t it (omega arith) (bands_more j m z) in
    (_, g.1, subst (BandsOf _) (ap (λ (q : Tokens). y ∷ q) (sym (append_assoc u (k ∷ (v ++ w)) (t ∷ g.1)))) (bands_more i l g.2))

pub band_longer : (a : Expr) (u : Tokens) (t : Token) → Is (sign s.Greater) t → BandOf a u → Longer BandOf u t
band_longer _ _ t it (band_is {u = u} l bands_none) =
    let g = shift_longer _ u t it l in
    (_, g.1, subst (BandOf _) (append-nil (u ++ (t ∷ g.1)) ∙ ap (λ (w : Tokens). w ++ (t ∷ g.1)) (sym (append-nil u))) (band_is g.2 bands_none))
band_longer _ _ t it (band_is {u = u} l (bands_more {t = k} {a = c} {ls = ls} {u = v} {v = w} j m z)) =
    let g = bands_longer (link op.BitAnd k c ∷ ls) (k ∷ (v ++ w)) t it (omega arith) (bands_more j m z) in
    (_, g.1, subst (BandOf _) (sym (append_assoc u (k ∷ (v ++ w)) (t ∷ g.1))) (band_is l g.2))

pub bxors_longer : (ls : List (Link Expr)) (u : Tokens) (t : Token) → Is (sign s.Greater) t → (1 ≤ length ls) → BxorsOf ls u → Longer BxorsOf u t
bxors_longer _ _ t it h bxors_none = absurd (omega arith)
bxors_longer _ _ t it h (bxors_more {t = y} {u = u} i l bxors_none) =
    let g = band_longer _ u t it l in
    (_, g.1, subst (BxorsOf _) (ap (λ (w : Tokens). y ∷ w) (append-nil (u ++ (t ∷ g.1)) ∙ ap (λ (w : Tokens). w ++ (t ∷ g.1)) (sym (append-nil u)))) (bxors_more i g.2 bxors_none))
bxors_longer _ _ t it h (bxors_more {t = y} {u = u} i l (bxors_more {t = k} {a = c} {ls = ls} {u = v} {v = w} j m z)) =
    let g = bxors_longer (link op.BitXor k c ∷ ls) (k ∷ (v ++ w)) t it (omega arith) (bxors_more j m z) in
    (_, g.1, subst (BxorsOf _) (ap (λ (q : Tokens). y ∷ q) (sym (append_assoc u (k ∷ (v ++ w)) (t ∷ g.1)))) (bxors_more i l g.2))

pub bxor_longer : (a : Expr) (u : Tokens) (t : Token) → Is (sign s.Greater) t → BxorOf a u → Longer BxorOf u t
bxor_longer _ _ t it (bxor_is {u = u} l bxors_none) =
    let g = band_longer _ u t it l in
    (_, g.1, subst (BxorOf _) (append-nil (u ++ (t ∷ g.1)) ∙ ap (λ (w : Tokens). w ++ (t ∷ g.1)) (sym (append-nil u))) (bxor_is g.2 bxors_none))
bxor_longer _ _ t it (bxor_is {u = u} l (bxors_more {t = k} {a = c} {ls = ls} {u = v} {v = w} j m z)) =
    let g = bxors_longer (link op.BitXor k c ∷ ls) (k ∷ (v ++ w)) t it (omega arith) (bxors_more j m z) in
    (_, g.1, subst (BxorOf _) (sym (append_assoc u (k ∷ (v ++ w)) (t ∷ g.1))) (bxor_is l g.2))

pub bors_longer : (ls : List (Link Expr)) (u : Tokens) (t : Token) → Is (sign s.Greater) t → (1 ≤ length ls) → BorsOf ls u → Longer BorsOf u t
bors_longer _ _ t it h bors_none = absurd (omega arith)
bors_longer _ _ t it h (bors_more {t = y} {u = u} i l bors_none) =
    let g = bxor_longer _ u t it l in
    (_, g.1, subst (BorsOf _) (ap (λ (w : Tokens). y ∷ w) (append-nil (u ++ (t ∷ g.1)) ∙ ap (λ (w : Tokens). w ++ (t ∷ g.1)) (sym (append-nil u)))) (bors_more i g.2 bors_none))
bors_longer _ _ t it h (bors_more {t = y} {u = u} i l (bors_more {t = k} {a = c} {ls = ls} {u = v} {v = w} j m z)) =
    let g = bors_longer (link op.BitOr k c ∷ ls) (k ∷ (v ++ w)) t it (omega arith) (bors_more j m z) in
    (_, g.1, subst (BorsOf _) (ap (λ (q : Tokens). y ∷ q) (sym (append_assoc u (k ∷ (v ++ w)) (t ∷ g.1)))) (bors_more i l g.2))

pub bor_longer : (a : Expr) (u : Tokens) (t : Token) → Is (sign s.Greater) t → BorOf a u → Longer BorOf u t
bor_longer _ _ t it (bor_is {u = u} l bors_none) =
    let g = bxor_longer _ u t it l in
    (_, g.1, subst (BorOf _) (append-nil (u ++ (t ∷ g.1)) ∙ ap (λ (w : Tokens). w ++ (t ∷ g.1)) (sym (append-nil u))) (bor_is g.2 bors_none))
bor_longer _ _ t it (bor_is {u = u} l (bors_more {t = k} {a = c} {ls = ls} {u = v} {v = w} j m z)) =
    let g = bors_longer (link op.BitOr k c ∷ ls) (k ∷ (v ++ w)) t it (omega arith) (bors_more j m z) in
    (_, g.1, subst (BorOf _) (sym (append_assoc u (k ∷ (v ++ w)) (t ∷ g.1))) (bor_is l g.2))

pub bor_pending_longer : (a : Expr) (t : Token) (u : Tokens) → PendingOf BorOf (a, Some t) u → (c : Expr) × (v : Tokens) × BorOf c (u ++ v)
bor_pending_longer _ _ _ (pending_is {a = a} {t = t} {u = u} l it) = let g = bor_longer a u t it l in (g.0, g.1, subst (BorOf g.0) (sym (append_assoc u (t ∷ []) g.1)) g.2)

pub bor_settled : (a : Expr) (u : Tokens) → PendingOf BorOf (a, None) u → BorOf a u
bor_settled _ _ (pending_none l) = l

module _ (n m : ℕ) (up : n ≤ m) (b b' : Below) (x : Under n b b') where
  pub unary_exact : Exact (suc n) UnaryOf (unary n b) (unary m b')
  unfolding unary
  unary_exact = bind (exact_all PrefixIs PrefixesOf (tells prefix_of) prefix prefix prefixes_none prefixes_at prefix_solid prefix_opens n m up (prefix_exact n)) (λ ps u l. last (prefixes ps) (postfix_exact n m up b b' x) (λ a v la. unary_is l la))

  pub product_from_exact : From (suc n) UnaryOf ProdOf (product_from n b) (product_from m b')
  unfolding product_from
  product_from_exact = chain_exact (tells product_of) (told op.Multiply product_of) a_product e.Product UnaryOf ProdOf ProdsOf prods_none (λ t a u ls v i l z. prods_more (says op.Multiply product_of t i) l z) (λ a u ls v l z. prod_is l z) n m up b b' (unary n b) (unary m b') unary_exact

  pub product_exact : Exact (suc n) ProdOf (product n b) (product m b')
  unfolding product
  product_exact = level (suc n) UnaryOf ProdOf some_prod (no_word ProdOf solid_prod) solid_unary (unary n b) (unary m b') (product_from n b) (product_from m b') unary_exact product_from_exact

  pub sum_from_exact : From (suc n) ProdOf SumOf (sum_from n b) (sum_from m b')
  unfolding sum_from
  sum_from_exact = chain_exact (tells sum_of) (told op.Add sum_of) a_sum e.Sum ProdOf SumOf SumsOf sums_none (λ t a u ls v i l z. sums_more (says op.Add sum_of t i) l z) (λ a u ls v l z. sum_is l z) n m up b b' (product n b) (product m b') product_exact

  pub sum_exact : Exact (suc n) SumOf (sum n b) (sum m b')
  unfolding sum
  sum_exact = level (suc n) ProdOf SumOf some_sum (no_word SumOf solid_sum) solid_prod (product n b) (product m b') (sum_from n b) (sum_from m b') product_exact sum_from_exact

  -- ---- shifts and bits

  pub greater_exact : (t : Token) → Is (sign s.Greater) t → Exact n (λ c v. ShiftTo c (t ∷ v)) (greater_or_shift n b t) (greater_or_shift m b' t)
  unfolding greater_or_shift
  greater_exact t it = opt_also (a_closing t) (λ y iy. last (λ a. (link op.ShiftRight t a ∷ [], None)) (less sum_exact) (λ a u l. shift_to_right it iy l)) (done (shift_to_end it))

  pub shift_item_exact : Exact (suc n) ShiftTo (shift_item n b) (shift_item m b')
  unfolding shift_item
  shift_item_exact = opt (the_sign s.LessLess) (λ t it. last (λ a. (link op.ShiftLeft t a ∷ [], None)) (less sum_exact) (λ a u l. shift_to_left it l)) (tok (the_sign s.Greater) (λ t it. greater_exact t it))

  pub shift_opens_by : (t : Token) (c k : Bool) → sign s.LessLess t ≡ c → sign s.Greater t ≡ k → (c || k) ≡ true → Opens t (shift_item m b')
  unfolding shift_item
  shift_opens_by t true k hc hk h =
      let g : Opens t (token (sign s.LessLess) >>= (λ t. sum m b' >>= (λ a. pure (link op.ShiftLeft t a ∷ [], None)))) = tok_opens hc (λ z iz. last (λ a. (link op.ShiftLeft z a ∷ [], None)) sum_exact (λ a u l. tt)) in
      record {
        goes = λ rest q. g.goes rest (ap (λ y. cond y ((token (sign s.LessLess) >>= (λ t. sum m b' >>= (λ a. pure (link op.ShiftLeft t a ∷ [], None)))) (t ∷ rest)) ((token (sign s.Greater) >>= greater_or_shift m b') (t ∷ rest))) (sym hc) ∙ q);
        moves = λ rest a q. g.moves rest a (ap (λ y. cond y ((token (sign s.LessLess) >>= (λ t. sum m b' >>= (λ a. pure (link op.ShiftLeft t a ∷ [], None)))) (t ∷ rest)) ((token (sign s.Greater) >>= greater_or_shift m b') (t ∷ rest))) (sym hc) ∙ q);
      }
  shift_opens_by t false true hc hk h =
      let g : Opens t (token (sign s.Greater) >>= greater_or_shift m b') = tok_opens hk (λ z iz. into (greater_exact z iz) (λ a u l. tt)) in
      record {
        goes = λ rest q. g.goes rest (ap (λ y. cond y ((token (sign s.LessLess) >>= (λ t. sum m b' >>= (λ a. pure (link op.ShiftLeft t a ∷ [], None)))) (t ∷ rest)) ((token (sign s.Greater) >>= greater_or_shift m b') (t ∷ rest))) (sym hc) ∙ q);
        moves = λ rest a q. g.moves rest a (ap (λ y. cond y ((token (sign s.LessLess) >>= (λ t. sum m b' >>= (λ a. pure (link op.ShiftLeft t a ∷ [], None)))) (t ∷ rest)) ((token (sign s.Greater) >>= greater_or_shift m b') (t ∷ rest))) (sym hc) ∙ q);
      }
  shift_opens_by t false false hc hk h = absurd cc

  pub shift_opens : (t : Token) → shift_next t ≡ true → Opens t (shift_item m b')
  shift_opens t h = shift_opens_by t (sign s.LessLess t) (sign s.Greater t) refl refl h

  pub shift_from_exact : From (suc n) SumOf (PendingOf ShiftOf) (shift_from n b) (shift_from m b')
  unfolding shift_from
  shift_from_exact k a u g = last (λ (y : Ended (Link Expr) Token). (chain e.Shift a y.0 k, y.1)) (exact_to_end ShiftTo (LinksTo ShiftsOf) shift_next (shift_item n b) (shift_item m b') (links_none shifts_none) shifts_more_to shifts_end_to shift_to_solid shift_opens n m up shift_item_exact)
      (λ y v z. record { solid = solid_front u v g.solid; spells = begun_on SumOf k a u v g (λ j. PendingOf ShiftOf (chain e.Shift a y.0 j, y.1) (u ++ v)) (λ l. made_pending e.Shift SumOf ShiftOf ShiftsOf (λ a u ls v l z. shift_is l z) a u l y v z) })

  pub shift_exact : Exact (suc n) (PendingOf ShiftOf) (shift n b) (shift m b')
  unfolding shift
  shift_exact = level (suc n) SumOf (PendingOf ShiftOf) (pending_some ShiftOf some_shift) (no_word (PendingOf ShiftOf) (pending_solid ShiftOf solid_shift)) solid_sum (sum n b) (sum m b') (shift_from n b) (shift_from m b') sum_exact shift_from_exact

  pub band_from_exact : From (suc n) (PendingOf ShiftOf) (PendingOf BandOf) (band_from n b) (band_from m b')
  unfolding band_from
  band_from_exact = pending_exact (sign s.Ampersand) op.BitAnd (the_sign s.Ampersand) e.BitAnd ShiftOf BandOf BandsOf bands_none (λ t a u ls v i l z. bands_more i l z) (λ a u ls v l z. band_is l z) n m up b b' (shift n b) (shift m b') shift_exact

  pub band_exact : Exact (suc n) (PendingOf BandOf) (band n b) (band m b')
  unfolding band
  band_exact = level (suc n) (PendingOf ShiftOf) (PendingOf BandOf) (pending_some BandOf some_band) (no_word (PendingOf BandOf) (pending_solid BandOf solid_band)) (pending_solid ShiftOf solid_shift) (shift n b) (shift m b') (band_from n b) (band_from m b') shift_exact band_from_exact

  pub bxor_from_exact : From (suc n) (PendingOf BandOf) (PendingOf BxorOf) (bxor_from n b) (bxor_from m b')
  unfolding bxor_from
  bxor_from_exact = pending_exact (sign s.Caret) op.BitXor (the_sign s.Caret) e.BitXor BandOf BxorOf BxorsOf bxors_none (λ t a u ls v i l z. bxors_more i l z) (λ a u ls v l z. bxor_is l z) n m up b b' (band n b) (band m b') band_exact

  pub bxor_exact : Exact (suc n) (PendingOf BxorOf) (bxor n b) (bxor m b')
  unfolding bxor
  bxor_exact = level (suc n) (PendingOf BandOf) (PendingOf BxorOf) (pending_some BxorOf some_bxor) (no_word (PendingOf BxorOf) (pending_solid BxorOf solid_bxor)) (pending_solid BandOf solid_band) (band n b) (band m b') (bxor_from n b) (bxor_from m b') band_exact bxor_from_exact

  pub bor_from_exact : From (suc n) (PendingOf BxorOf) (PendingOf BorOf) (bor_from n b) (bor_from m b')
  unfolding bor_from
  bor_from_exact = pending_exact (sign s.Bar) op.BitOr (the_sign s.Bar) e.BitOr BxorOf BorOf BorsOf bors_none (λ t a u ls v i l z. bors_more i l z) (λ a u ls v l z. bor_is l z) n m up b b' (bxor n b) (bxor m b') bxor_exact

  pub bor_pending_exact : Exact (suc n) (PendingOf BorOf) (bor_pending n b) (bor_pending m b')
  unfolding bor_pending
  bor_pending_exact = level (suc n) (PendingOf BxorOf) (PendingOf BorOf) (pending_some BorOf some_bor) (no_word (PendingOf BorOf) (pending_solid BorOf solid_bor)) (pending_solid BxorOf solid_bxor) (bxor n b) (bxor m b') (bor_from n b) (bor_from m b') bxor_exact bor_from_exact

  pub settled_exact : (y : Pending) (u : Tokens) → PendingOf BorOf y u → Exact (suc n) (λ c v. BorOf c (u ++ v)) (settled y) (settled y)
  settled_exact (a, None) u l = done (subst (BorOf a) (sym (append-nil u)) (bor_settled a u l))
  settled_exact (a, Some t) u l = let g = bor_pending_longer a t u l in exact_refuse (suc n) _ g.0 g.1 g.2

  pub bor_exact : Exact (suc n) BorOf (bor n b) (bor m b')
  unfolding bor
  bor_exact = bind bor_pending_exact (λ y u l. settled_exact y u l)
