-- The levels of expressions from prefixes to `|` read each word, if postfix expressions are read.
use Rattle.std.proofs.Common.{◌≡◌, ℕ, suc, ◌<◌, ◌≤◌, ◌||◌, Bool, true, false, List, [], ◌∷◌, ◌++◌, length, Option, Some, None, refl, sym, ◌∙◌, ap, subst, arith}
use Rattle.std.proofs.lemmas.List.{append_assoc, append-nil}
use Rattle.fronts.specs.Fronts.{Language}
use Rattle.fronts.specs.Readers.{taken, ◌>>=◌, comes}
use Rattle.fronts.proofs.Agrees.{Many, many_none, many_more}
use Rattle.sql_ast.specs.declared.expr.Expr.{Expr}
use Rattle.sql_ast.specs.declared.expr.Expr.TheVariants as e
use Rattle.sql_ast.specs.declared.expr.Link.{Link}
use Rattle.sql_ast.specs.declared.expr.Operator.{Operator}
use Rattle.sql_ast.specs.declared.expr.Operator.TheVariants as operator
use Rattle.sql_ast.specs.declared.expr.Prefix.{Prefix}
use Rattle.sql_ast.specs.declared.expr.Signed.{Signed}
use Rattle.sql_ast.specs.declared.expr.Signed.TheVariants as signed
use Rattle.sql_ast.specs.declared.words.Sign.TheVariants as s
use Rattle.sql_ast.specs.declared.token.Token.{Token}
use Rattle.sql_ast.specs.declared.token.Lexeme.{Lexeme}
use Rattle.sql_ast.specs.declared.token.Lexeme.TheVariants as l
use Rattle.sql_ast.specs.Marks.{Tokens, Is, Says, sign, sign_lexeme, same_sign, closes_shift, start_of}
use Rattle.sql_ast.specs.Trees.{link, chain, prefix_of, prefix_lexeme, product_of, sum_of}
use Rattle.sql_ast.specs.Parts.{PrefixesOf, prefixes_none, prefixes_more}
use Rattle.sql_ast.specs.Grammar.{BorOf, bor_is, BorsOf, bors_none, bors_more, BxorOf, bxor_is, BxorsOf, bxors_none, bxors_more, BandOf, band_is, BandsOf, bands_none, bands_more, ShiftOf, shift_is, ShiftsOf, shifts_none, shifts_left, shifts_right, SumOf, sum_is, SumsOf, sums_none, sums_more, ProdOf, prod_is, ProdsOf, prods_none, prods_more, UnaryOf, unary_is, PostfixOf}
use Rattle.sql_grammar.specs.Ways.{Ended}
use Rattle.sql_grammar.specs.Exprs.{tells, told, Below, Pending, prefix, settled, shift_next, postfix, unary, product, product_from, sum, sum_from, greater_or_shift, shift_item, shift, shift_from, band, band_from, bxor, bxor_from, bor_pending, bor_from, bor}
use Rattle.sql_grammar.proofs.Marks.{told_is, tells_is}
use Rattle.sql_grammar.proofs.Levels.{LinkOf, link_of}
use Rattle.sql_grammar.proofs.Solid.{solid_unary, solid_prod, solid_sum, solid_shift, solid_band, solid_bxor}
use Rattle.sql_grammar.proofs.Follows.{Over, Starts, level, rank}
use Rattle.sql_grammar.proofs.CompleteSteps.{Read, Free, Not, less, tok, also, part, last, then_on, else_on, done, weak, to, s_test, free_many}
use Rattle.sql_grammar.proofs.CompleteStarts.{postfix_starts, product_level, sum_level, s_level, shifts_ahead}
use Rattle.sql_grammar.proofs.CompleteRepeats.{begun, One, one, gone_to, until_read, until_to_read}
use Rattle.sql_grammar.proofs.CompleteChains.{chain_read, PlainOf, plain_of, EndsIn, ends_in, Pends, plain_chain, greater_chain}

-- ---- repetitions as lists of their items

data PrefixIs : Prefix → Tokens → Type 0 where
  prefix_is : {t : Token} {x : Signed} → Says prefix_of t x → PrefixIs (record { operator = x; place = t.start }) (t ∷ [])

many_prefixes : (ps : List Prefix) (v : Tokens) → PrefixesOf ps v → Many PrefixIs ps v
many_prefixes _ _ prefixes_none = many_none
many_prefixes _ _ (prefixes_more {ps = ps} {v = v} i z) = many_more (prefix_is i) (many_prefixes ps v z)

said_link : (other : Operator) (what : Token → Option Operator) (L : Language Token Expr) (t : Token) (o : Operator) → Says what t o → (a : Expr) (u : Tokens) → L a u → LinkOf (tells what) (told other what) L (link o t a) (t ∷ u)
said_link other what L t o i a u l = subst (λ (x : Operator). LinkOf (tells what) (told other what) L (link x t a) (t ∷ u)) (told_is other what t o i) (link_of (record { is = tells_is other what t o i }) l)

many_prods : (ls : List (Link Expr)) (v : Tokens) → ProdsOf ls v → Many (LinkOf (tells product_of) (told operator.Multiply product_of) UnaryOf) ls v
many_prods _ _ prods_none = many_none
many_prods _ _ (prods_more {o = o} {t = t} {a = a} {ls = ls} {u = u} {v = v} i l z) = many_more (said_link operator.Multiply product_of UnaryOf t o i a u l) (many_prods ls v z)

many_sums : (ls : List (Link Expr)) (v : Tokens) → SumsOf ls v → Many (LinkOf (tells sum_of) (told operator.Add sum_of) ProdOf) ls v
many_sums _ _ sums_none = many_none
many_sums _ _ (sums_more {o = o} {t = t} {a = a} {ls = ls} {u = u} {v = v} i l z) = many_more (said_link operator.Add sum_of ProdOf t o i a u l) (many_sums ls v z)

data ShiftIs : Link Expr → Tokens → Type 0 where
  left_is : {t : Token} {a : Expr} {u : Tokens} → Is (sign s.LessLess) t → SumOf a u → ShiftIs (link operator.ShiftLeft t a) (t ∷ u)
  right_is : {t x : Token} {a : Expr} {u : Tokens} → Is (sign s.Greater) t → Is (closes_shift t) x → SumOf a u → ShiftIs (link operator.ShiftRight t a) (t ∷ x ∷ u)

many_shifts : (ls : List (Link Expr)) (v : Tokens) → ShiftsOf ls v → Many ShiftIs ls v
many_shifts _ _ shifts_none = many_none
many_shifts _ _ (shifts_left {ls = ls} {v = v} i l z) = many_more (left_is i l) (many_shifts ls v z)
many_shifts _ _ (shifts_right {ls = ls} {v = v} i j l z) = many_more (right_is i j l) (many_shifts ls v z)

many_bands : (ls : List (Link Expr)) (v : Tokens) → BandsOf ls v → Many (LinkOf (sign s.Ampersand) (λ t. operator.BitAnd) ShiftOf) ls v
many_bands _ _ bands_none = many_none
many_bands _ _ (bands_more {ls = ls} {v = v} i l z) = many_more (link_of i l) (many_bands ls v z)

many_bxors : (ls : List (Link Expr)) (v : Tokens) → BxorsOf ls v → Many (LinkOf (sign s.Caret) (λ t. operator.BitXor) BandOf) ls v
many_bxors _ _ bxors_none = many_none
many_bxors _ _ (bxors_more {ls = ls} {v = v} i l z) = many_more (link_of i l) (many_bxors ls v z)

many_bors : (ls : List (Link Expr)) (v : Tokens) → BorsOf ls v → Many (LinkOf (sign s.Bar) (λ t. operator.BitOr) BxorOf) ls v
many_bors _ _ bors_none = many_none
many_bors _ _ (bors_more {ls = ls} {v = v} i l z) = many_more (link_of i l) (many_bors ls v z)

-- ---- prefixes

prefix_begins : (a : Prefix) (u rest : Tokens) → PrefixIs a u → comes (tells prefix_of) (u ++ rest) ≡ true
prefix_begins _ _ rest (prefix_is {t = t} {x = x} i) = tells_is signed.Plus prefix_of t x i

prefix_read : (n : ℕ) → Read (suc n) Free PrefixIs prefix
unfolding prefix
prefix_read n = record { reads = by }
  where
    by : {a : Prefix} {u : Tokens} → PrefixIs a u → (rest : Tokens) → Unit {0} → length (u ++ rest) < suc n → prefix (u ++ rest) ≡ taken a rest
    by (prefix_is {t = t} {x = x} i) rest f = tok (record { is = tells_is signed.Plus prefix_of t x i }) _ (λ _. ap (λ (y : Signed). taken (record { operator = y; place = t.start }) rest) (told_is signed.Plus prefix_of t x i))

no_prefix_by : (x : Lexeme) → rank x ≤ 1 → (elim (prefix_lexeme x) [ None ↦ false | Some a ↦ true ]) ≡ false
no_prefix_by (l.Sign s.Plus) h = absurd (omega arith)
no_prefix_by (l.Sign s.Minus) h = absurd (omega arith)
no_prefix_by (l.Sign s.Tilde) h = absurd (omega arith)
no_prefix_by (l.Sign _) h = refl
no_prefix_by _ h = refl

pub no_prefix : (ts : Tokens) → Starts 1 ts → comes (tells prefix_of) ts ≡ false
no_prefix [] h = refl
no_prefix (t ∷ ts) h = no_prefix_by t.lexeme h.starts

shift_level_by : (x : Lexeme) → (sign_lexeme s.LessLess x || sign_lexeme s.Greater x) ≡ true → level x ≡ 4
unfolding same_sign
shift_level_by (l.Sign s.LessLess) h = refl
shift_level_by (l.Sign s.Greater) h = refl
shift_level_by (l.Sign _) h = absurd cc
shift_level_by _ h = absurd cc

pub shift_level : (t : Token) → shift_next t ≡ true → level t.lexeme ≡ 4
shift_level t h = shift_level_by t.lexeme h

shift_begins : (a : Link Expr) (u rest : Tokens) → ShiftIs a u → comes shift_next (u ++ rest) ≡ true
unfolding same_sign
shift_begins _ _ rest (left_is {t = t} i l) = ap (λ c. c || sign s.Greater t) i.is
shift_begins _ _ rest (right_is {t = t} i j l) = ap (λ c. c || sign s.Greater t) (s_test s.Greater (sign_lexeme s.LessLess) i refl) ∙ i.is

-- a `>` that ends a chain of shifts
data ShiftFinal (g : Token) : List (Link Expr) → Token → Tokens → Type 0 where
  shift_final : Is (sign s.Greater) g → ShiftFinal g [] g (g ∷ [])

shift_final_begins : (g : Token) (xs : List (Link Expr)) (c : Token) (u rest : Tokens) → ShiftFinal g xs c u → comes shift_next (u ++ rest) ≡ true
unfolding same_sign
shift_final_begins g _ _ _ rest (shift_final i) = ap (λ c. c || sign s.Greater g) (s_test s.Greater (sign_lexeme s.LessLess) i refl) ∙ i.is

module _ (n : ℕ) (b : Below) (x : Read (suc n) (Over 1) PostfixOf (postfix n b)) where
  unary_read : Read (suc n) (Over 1) UnaryOf (unary n b)
  unfolding unary
  unary_read = record { reads = by }
    where
      by : {a : Expr} {u : Tokens} → UnaryOf a u → (rest : Tokens) → Over 1 rest → length (u ++ rest) < suc n → unary n b (u ++ rest) ≡ taken a rest
      by (unary_is {ps = ps} {a = a} {u = u} {v = v} z l) rest f =
          part (free_many prefix_begins (prefix_read n) [] many_prefixes) (ps, z, refl) v rest _ (record { is = no_prefix (v ++ rest) (postfix_starts a v rest l) }) (last x l _ f done)

  product_read : Read (suc n) (Over 2) ProdOf (product n b)
  unfolding product product_from
  product_read = record { reads = by }
    where
      by : {a : Expr} {u : Tokens} → ProdOf a u → (rest : Tokens) → Over 2 rest → length (u ++ rest) < suc n → product n b (u ++ rest) ≡ taken a rest
      by (prod_is {a = a} {ls = ls} {u = u} {v = v} l z) rest f = chain_read (tells product_of) (told operator.Multiply product_of) product_level (omega arith) e.Product UnaryOf ProdsOf solid_unary many_prods n b (unary n b) unary_read a u l ls v z rest f

  sum_read : Read (suc n) (Over 3) SumOf (sum n b)
  unfolding sum sum_from
  sum_read = record { reads = by }
    where
      by : {a : Expr} {u : Tokens} → SumOf a u → (rest : Tokens) → Over 3 rest → length (u ++ rest) < suc n → sum n b (u ++ rest) ≡ taken a rest
      by (sum_is {a = a} {ls = ls} {u = u} {v = v} l z) rest f = chain_read (tells sum_of) (told operator.Add sum_of) sum_level (omega arith) e.Sum ProdOf SumsOf solid_prod many_sums n b (product n b) product_read a u l ls v z rest f

  -- ---- shifts

  shift_item_read : Read (suc n) (Over 3) (One ShiftIs) (shift_item n b)
  unfolding shift_item greater_or_shift same_sign
  shift_item_read = record { reads = by }
    where
      by : {a : Ended (Link Expr) Token} {u : Tokens} → One ShiftIs a u → (rest : Tokens) → Over 3 rest → length (u ++ rest) < suc n → shift_item n b (u ++ rest) ≡ taken a rest
      by (one (left_is i l)) rest f = then_on i.is _ _ (tok i _ (last (less sum_read) l _ f done))
      by (one (right_is i j l)) rest f = else_on (s_test s.Greater (sign_lexeme s.LessLess) i refl) _ _ (tok i _ (then_on j.is _ _ (also j _ (last (less sum_read) l _ f done))))

  shift_final_ends : (g : Token) (xs : List (Link Expr)) (c : Token) (u : Tokens) → ShiftFinal g xs c u → (rest : Tokens) → Not (closes_shift g) rest → length (u ++ rest) < suc n → shift_item n b (u ++ rest) ≡ taken (xs, Some c) rest
  unfolding shift_item greater_or_shift same_sign
  shift_final_ends g _ _ _ (shift_final i) rest f = else_on (s_test s.Greater (sign_lexeme s.LessLess) i refl) _ _ (tok i _ (else_on f.is _ _ done))

  over_shift : (t : Token) (ts : Tokens) → shift_next t ≡ true → Over 3 (t ∷ ts)
  over_shift t ts h = record { over = let g = shift_level t h in omega arith }

  shift_stops : (ts : Tokens) → Over 4 ts → comes shift_next ts ≡ false
  shift_stops [] h = refl
  shift_stops (t ∷ ts) h = go (shift_next t) refl
    where
      go : (c : Bool) → shift_next t ≡ c → shift_next t ≡ false
      go true q = let g = shift_level t q in let i = h.over in absurd (omega arith)
      go false q = q

  shift_pends : Pends (suc n) 4 ShiftOf (shift n b)
  unfolding shift shift_from
  shift_pends = record { plain = record { reads = plain }; greater = λ g ig. record { reads = greater g ig } }
    where
      plain : {a : Pending} {u : Tokens} → PlainOf ShiftOf a u → (rest : Tokens) → Over 4 rest → length (u ++ rest) < suc n → shift n b (u ++ rest) ≡ taken a rest
      plain (plain_of (shift_is {a = a} {ls = ls} {u = u} {v = v} l z)) rest f = begun (λ p. sum n b >>= shift_from n b p) u v rest (solid_sum a u l)
          (part sum_read l v rest _ (to (shifts_ahead ls v z) (omega arith) (weak (omega arith) f))
          (last (until_read shift_next (shift_item n b) (Over 3) over_shift shift_begins shift_item_read ShiftsOf many_shifts (Over 4) shift_stops (λ ts h. weak (omega arith) h) []) (ls, z, refl) _ f done))

      greater : (g : Token) → Is (sign s.Greater) g → {a : Pending} {u : Tokens} → EndsIn ShiftOf g a u → (rest : Tokens) → Not (closes_shift g) rest → length (u ++ rest) < suc n → shift n b (u ++ rest) ≡ taken a rest
      greater g ig (ends_in (shift_is {a = a} {ls = ls} {u = u} {v = v} l z)) rest f =
          subst (λ (w : Tokens). length (w ++ rest) < suc n → shift n b (w ++ rest) ≡ taken (chain e.Shift a ls (start_of u), Some g) rest) (sym (append_assoc u v (g ∷ [])))
          (begun (λ p. sum n b >>= shift_from n b p) u (v ++ (g ∷ [])) rest (solid_sum a u l)
          (part sum_read l (v ++ (g ∷ [])) rest _ (subst (Over 3) (sym (append_assoc v (g ∷ []) rest)) (to (shifts_ahead ls v z) (omega arith) (over_shift g rest (shift_final_begins g [] g (g ∷ []) rest (shift_final ig)))))
          (last (until_to_read shift_next (shift_item n b) (Over 3) over_shift shift_begins shift_item_read ShiftsOf many_shifts (Not (closes_shift g)) (ShiftFinal g) (shift_final_begins g) (shift_final_ends g) []) (gone_to z (shift_final ig)) _ f
          (λ _. ap (λ (w : List (Link Expr)). taken (chain e.Shift a w (start_of u), Some g) rest) (append-nil ls)))))

  -- ---- bits

  band_pends : Pends (suc n) 5 BandOf (band n b)
  unfolding band band_from
  band_pends = record { plain = record { reads = plain }; greater = λ g ig. record { reads = greater g ig } }
    where
      plain : {a : Pending} {u : Tokens} → PlainOf BandOf a u → (rest : Tokens) → Over 5 rest → length (u ++ rest) < suc n → band n b (u ++ rest) ≡ taken a rest
      plain (plain_of (band_is {a = a} {ls = ls} {u = u} {v = v} l z)) rest f = plain_chain (sign s.Ampersand) operator.BitAnd (s_level s.Ampersand 5 refl) (omega arith) e.BitAnd ShiftOf BandsOf solid_shift many_bands n b (shift n b) shift_pends a u l ls v z rest f

      greater : (g : Token) → Is (sign s.Greater) g → {a : Pending} {u : Tokens} → EndsIn BandOf g a u → (rest : Tokens) → Not (closes_shift g) rest → length (u ++ rest) < suc n → band n b (u ++ rest) ≡ taken a rest
      greater g ig (ends_in (band_is {a = a} {ls = ls} {u = u} {v = v} l z)) rest f = greater_chain (sign s.Ampersand) operator.BitAnd (s_level s.Ampersand 5 refl) (omega arith) e.BitAnd ShiftOf BandsOf solid_shift many_bands n b (shift n b) shift_pends g ig a u l ls v z rest f

  bxor_pends : Pends (suc n) 6 BxorOf (bxor n b)
  unfolding bxor bxor_from
  bxor_pends = record { plain = record { reads = plain }; greater = λ g ig. record { reads = greater g ig } }
    where
      plain : {a : Pending} {u : Tokens} → PlainOf BxorOf a u → (rest : Tokens) → Over 6 rest → length (u ++ rest) < suc n → bxor n b (u ++ rest) ≡ taken a rest
      plain (plain_of (bxor_is {a = a} {ls = ls} {u = u} {v = v} l z)) rest f = plain_chain (sign s.Caret) operator.BitXor (s_level s.Caret 6 refl) (omega arith) e.BitXor BandOf BxorsOf solid_band many_bxors n b (band n b) band_pends a u l ls v z rest f

      greater : (g : Token) → Is (sign s.Greater) g → {a : Pending} {u : Tokens} → EndsIn BxorOf g a u → (rest : Tokens) → Not (closes_shift g) rest → length (u ++ rest) < suc n → bxor n b (u ++ rest) ≡ taken a rest
      greater g ig (ends_in (bxor_is {a = a} {ls = ls} {u = u} {v = v} l z)) rest f = greater_chain (sign s.Caret) operator.BitXor (s_level s.Caret 6 refl) (omega arith) e.BitXor BandOf BxorsOf solid_band many_bxors n b (band n b) band_pends g ig a u l ls v z rest f

  pub bor_pends : Pends (suc n) 7 BorOf (bor_pending n b)
  unfolding bor_pending bor_from
  bor_pends = record { plain = record { reads = plain }; greater = λ g ig. record { reads = greater g ig } }
    where
      plain : {a : Pending} {u : Tokens} → PlainOf BorOf a u → (rest : Tokens) → Over 7 rest → length (u ++ rest) < suc n → bor_pending n b (u ++ rest) ≡ taken a rest
      plain (plain_of (bor_is {a = a} {ls = ls} {u = u} {v = v} l z)) rest f = plain_chain (sign s.Bar) operator.BitOr (s_level s.Bar 7 refl) (omega arith) e.BitOr BxorOf BorsOf solid_bxor many_bors n b (bxor n b) bxor_pends a u l ls v z rest f

      greater : (g : Token) → Is (sign s.Greater) g → {a : Pending} {u : Tokens} → EndsIn BorOf g a u → (rest : Tokens) → Not (closes_shift g) rest → length (u ++ rest) < suc n → bor_pending n b (u ++ rest) ≡ taken a rest
      greater g ig (ends_in (bor_is {a = a} {ls = ls} {u = u} {v = v} l z)) rest f = greater_chain (sign s.Bar) operator.BitOr (s_level s.Bar 7 refl) (omega arith) e.BitOr BxorOf BorsOf solid_bxor many_bors n b (bxor n b) bxor_pends g ig a u l ls v z rest f

  pub bor_read : Read (suc n) (Over 7) BorOf (bor n b)
  unfolding bor
  bor_read = record { reads = λ l rest f lt. last bor_pends.plain (plain_of l) settled f done lt }
