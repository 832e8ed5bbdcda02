-- Readers beside code that goes by the places of the symbols: what is left of a text is its end from a place on.
use Rattle.std.proofs.Common.{◌≡◌, ℕ, zero, suc, ◌+◌, ◌-◌, ◌<◌, ◌≤◌, Bool, true, false, cond, List, [], ◌∷◌, ◌++◌, length, drop, get_or, refl, sym, ◌∙◌, ap, subst, arith}
use Rattle.std.proofs.Math.Seq.{drop-cons}
use Rattle.fronts.specs.Readers.{Outcome, taken, stuck, deep, Reader, and_then, comes, token, many, Going}

-- ---- the symbol at a place

module _ {C : Type 0} where
  pub past_end : (at : ℕ) (ts : List C) → length ts ≤ at → drop at ts ≡ []
  past_end zero [] h = refl
  past_end (suc at) [] h = refl
  past_end zero (t ∷ ts) h = absurd (omega arith)
  past_end (suc at) (t ∷ ts) h = past_end at ts (omega arith)

  pub cell : (at : ℕ) (ts : List C) (t d : C) → at < length ts → t ≡ get_or ts at d → drop at ts ≡ t ∷ drop (at + 1) ts
  cell at ts t d lt e = drop-cons ts at d lt ∙ ap (λ (x : C). x ∷ drop (suc at) ts) (sym e) ∙ (let one : suc at ≡ at + 1 = omega arith in ap (λ n. t ∷ drop n ts) one)

  module _ (fits : C → Bool) (at : ℕ) (ts : List C) where
    -- whether a symbol comes there that fits
    pub comes_cell : (t d : C) → at < length ts → t ≡ get_or ts at d → comes fits (drop at ts) ≡ fits t
    comes_cell t d lt e = ap (comes fits) (cell at ts t d lt e)

    pub comes_none : length ts ≤ at → comes fits (drop at ts) ≡ false
    comes_none le = ap (comes fits) (past_end at ts le)

    pub comes_within : comes fits (drop at ts) ≡ true → length ts ≤ at → ⊥
    comes_within h le = let f = sym h ∙ comes_none le in cc

    -- what a reader of one symbol gives there
    pub token_yes : (t d : C) → at < length ts → t ≡ get_or ts at d → fits t ≡ true → token fits (drop at ts) ≡ taken t (drop (at + 1) ts)
    unfolding token
    token_yes t d lt e s = ap (token fits) (cell at ts t d lt e) ∙ ap (λ b. cond b (taken t (drop (at + 1) ts)) (stuck (t ∷ drop (at + 1) ts))) s

    pub token_not : (t d : C) → at < length ts → t ≡ get_or ts at d → fits t ≡ false → token fits (drop at ts) ≡ stuck (drop at ts)
    unfolding token
    token_not t d lt e s = ap (token fits) (cell at ts t d lt e) ∙ ap (λ b. cond b (taken t (drop (at + 1) ts)) (stuck (t ∷ drop (at + 1) ts))) s ∙ ap stuck (sym (cell at ts t d lt e))

    pub token_none : length ts ≤ at → token fits (drop at ts) ≡ stuck (drop at ts)
    unfolding token
    token_none le = ap (token fits) (past_end at ts le) ∙ ap stuck (sym (past_end at ts le))

-- ---- a repetition, beside a loop

module _ {C A : Type 0} (ts : List C) (fits : C → Bool) (item : Reader C A) where
  pub begin : (found : List A) (at : ℕ) → Going ts fits item (many fits item (suc (length ts)) found (drop at ts)) found at
  begin found at = record { turns = suc (length ts); room = omega arith; is = refl }

  pub begin_at : (first found : List A) (at : ℕ) → found ≡ first → Going ts fits item (many fits item (suc (length ts)) first (drop at ts)) found at
  begin_at first found at e = subst (λ (xs : List A). Going ts fits item (many fits item (suc (length ts)) first (drop at ts)) xs at) (sym e) (begin first at)

  pub inside : (at : ℕ) → comes fits (drop at ts) ≡ true → at < length ts
  inside at h = omega (arith, comes_within fits at ts h)

  step_by : (turns : ℕ) (whole : Outcome C (List A)) (found : List A) (at : ℕ) → length ts - at < turns → whole ≡ many fits item turns found (drop at ts) → comes fits (drop at ts) ≡ true
      → (n : ℕ) × (length ts - at ≤ n) × (whole ≡ and_then (item (drop at ts)) (λ x. many fits item n (found ++ x ∷ [])))
  unfolding many
  step_by zero whole found at lt e h = absurd (omega arith)
  step_by (suc n) whole found at lt e h = (n, omega arith, e ∙ ap (λ b. cond b (and_then (item (drop at ts)) (λ x. many fits item n (found ++ x ∷ []))) (taken found (drop at ts))) h)

  stop_by : (turns : ℕ) (found : List A) (at : ℕ) → comes fits (drop at ts) ≡ false → many fits item turns found (drop at ts) ≡ taken found (drop at ts)
  unfolding many
  stop_by zero found at h = ap (λ b. cond b deep (taken found (drop at ts))) h
  stop_by (suc n) found at h = ap (λ b. cond b (and_then (item (drop at ts)) (λ x. many fits item n (found ++ x ∷ []))) (taken found (drop at ts))) h

  module _ (whole : Outcome C (List A)) (found : List A) (at : ℕ) (g : Going ts fits item whole found at) where
    -- an item more was found
    pub go_on : comes fits (drop at ts) ≡ true → (x : A) (next : ℕ) → at < next → item (drop at ts) ≡ taken x (drop next ts)
        → (more : List A) → more ≡ found ++ x ∷ [] → Going ts fits item whole more next
    go_on h x next up e more is =
        let s = step_by g.turns whole found at g.room g.is h in
        let some = inside at h in
        let going : Going ts fits item whole (found ++ x ∷ []) next = record { turns = s.0; room = omega (arith, s.1); is = s.2 ∙ ap (λ o. and_then o (λ x. many fits item s.0 (found ++ x ∷ []))) e } in
        subst (λ (xs : List A). Going ts fits item whole xs next) (sym is) going

    -- an item is stuck
    pub go_wrong : comes fits (drop at ts) ≡ true → (rest : List C) → item (drop at ts) ≡ stuck rest → whole ≡ stuck rest
    go_wrong h rest e =
        let s = step_by g.turns whole found at g.room g.is h in
        s.2 ∙ ap (λ o. and_then o (λ x. many fits item s.0 (found ++ x ∷ []))) e

    -- no item comes any more
    pub go_end : comes fits (drop at ts) ≡ false → whole ≡ taken found (drop at ts)
    go_end h = g.is ∙ stop_by g.turns found at h
