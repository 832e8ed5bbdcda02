-- Repetitions beside loops: how an item is refused, and repetitions that an item may end.
use Rattle.std.proofs.Common.{◌≡◌, ℕ, zero, suc, ◌+◌, ◌-◌, ◌<◌, ◌≤◌, Bool, true, false, cond, List, [], ◌∷◌, ◌++◌, length, drop, Option, Some, None, refl, sym, ◌∙◌, ap, subst, arith}
use Rattle.fronts.specs.Readers.{Outcome, taken, stuck, deep, and_then, pure, comes, many, Going}
use Rattle.fronts.proofs.Places.{go_wrong, inside}
use Rattle.sql_ast.specs.declared.token.Token.{Token}
use Rattle.sql_ast.specs.declared.refusal.Refusal.{Refusal}
use Rattle.sql_lexer.specs.declared.tokens.Tokens.{Tokens}
use Rattle.sql_grammar.specs.Ways.{Parser, Ended, until, following}
use Rattle.parse_words.specs.Reads.{from, Refuses}
use Rattle.parse_words.proofs.Refusals.{refused_as}

-- an item of a repetition is refused
pub item_refused : {A : Type 0} (text : Tokens) (fits : Token → Bool) (item : Parser A) (whole : Outcome Token (List A)) (found : List A) (at : ℕ) → Going text.list fits item whole found at
    → comes fits (from text at) ≡ true → (e : Refusal) → Refuses text (item (from text at)) e → Refuses text whole e
item_refused text fits item whole found at g h e w = refused_as text (item (from text at)) whole e (λ rest is. go_wrong text.list fits item whole found at g h rest is) w

-- ---- repetitions that an item may end

-- So far these were found, and the repetition that comes to this whole outcome goes on from this place, with as many turns
-- as there are tokens left, or more.
pub record Ending {A E : Type 0} (ts : List Token) (fits : Token → Bool) (item : Parser (Ended A E)) (whole : Outcome Token (Ended A E)) (found : List A) (at : ℕ) : Type 0 where
  pub turns : ℕ
  pub room : length ts - at < turns
  pub is : whole ≡ until fits item turns found (drop at ts)

module _ {A E : Type 0} (ts : List Token) (fits : Token → Bool) (item : Parser (Ended A E)) where
  -- what an item that was read leads to
  abbrev pub behind : ℕ → List A → Ended A E → Parser (Ended A E)
  behind n found x = elim x.1 [ None ↦ until fits item n (found ++ x.0) | Some e ↦ pure (found ++ x.0, Some e) ]

  pub end_begin : (found : List A) (at : ℕ) → Ending ts fits item (until fits item (suc (length ts)) found (drop at ts)) found at
  end_begin found at = record { turns = suc (length ts); room = omega arith; is = refl }

  turn_by : (turns : ℕ) (whole : Outcome Token (Ended A E)) (found : List A) (at : ℕ) → length ts - at < turns → whole ≡ until fits item turns found (drop at ts) → comes fits (drop at ts) ≡ true
      → (n : ℕ) × (length ts - at ≤ n) × (whole ≡ and_then (item (drop at ts)) (behind n found))
  unfolding until
  turn_by zero whole found at lt e h = absurd (omega arith)
  turn_by (suc n) whole found at lt e h = (n, omega arith, e ∙ ap (λ b. cond b (and_then (item (drop at ts)) (behind n found)) (taken (found, None) (drop at ts))) h)

  stops_by : (turns : ℕ) (found : List A) (at : ℕ) → comes fits (drop at ts) ≡ false → until fits item turns found (drop at ts) ≡ taken (found, None) (drop at ts)
  unfolding until
  stops_by zero found at h = ap (λ b. cond b deep (taken (found, None) (drop at ts))) h
  stops_by (suc n) found at h = ap (λ b. cond b (and_then (item (drop at ts)) (behind n found)) (taken (found, None) (drop at ts))) h

  module _ (whole : Outcome Token (Ended A E)) (found : List A) (at : ℕ) (g : Ending ts fits item whole found at) where
    -- an item was read that ends nothing
    pub end_on : comes fits (drop at ts) ≡ true → (xs : List A) (next : ℕ) → at < next → item (drop at ts) ≡ taken (xs, None) (drop next ts)
        → (more : List A) → more ≡ found ++ xs → Ending ts fits item whole more next
    end_on h xs next up e more is =
        let s = turn_by g.turns whole found at g.room g.is h in
        let some = inside ts fits item at h in
        let going : Ending ts fits item whole (found ++ xs) next = record { turns = s.0; room = omega (arith, s.1); is = s.2 ∙ ap (λ o. and_then o (behind s.0 found)) e } in
        subst (λ (ys : List A). Ending ts fits item whole ys next) (sym is) going

    -- one that ends the repetition
    pub end_by : comes fits (drop at ts) ≡ true → (xs : List A) (x : E) (next : ℕ) → item (drop at ts) ≡ taken (xs, Some x) (drop next ts)
        → (more : List A) → more ≡ found ++ xs → whole ≡ taken (more, Some x) (drop next ts)
    end_by h xs x next e more is =
        let s = turn_by g.turns whole found at g.room g.is h in
        s.2 ∙ ap (λ o. and_then o (behind s.0 found)) e ∙ ap (λ (ys : List A). taken (ys, Some x) (drop next ts)) (sym is)

    -- an item is stuck
    pub end_wrong : comes fits (drop at ts) ≡ true → (rest : List Token) → item (drop at ts) ≡ stuck rest → whole ≡ stuck rest
    end_wrong h rest e =
        let s = turn_by g.turns whole found at g.room g.is h in
        s.2 ∙ ap (λ o. and_then o (behind s.0 found)) e

    -- no item comes any more
    pub end_end : comes fits (drop at ts) ≡ false → whole ≡ taken (found, None) (drop at ts)
    end_end h = g.is ∙ stops_by g.turns found at h

-- an item of such a repetition is refused
pub ending_refused : {A E : Type 0} (text : Tokens) (fits : Token → Bool) (item : Parser (Ended A E)) (whole : Outcome Token (Ended A E)) (found : List A) (at : ℕ) → Ending text.list fits item whole found at
    → comes fits (from text at) ≡ true → (e : Refusal) → Refuses text (item (from text at)) e → Refuses text whole e
ending_refused text fits item whole found at g h e w = refused_as text (item (from text at)) whole e (λ rest is. end_wrong text.list fits item whole found at g h rest is) w

-- ---- repetitions of which each item says what the next begins with

-- So far these were found, this is what the next begins with, and the repetition that comes to this whole outcome goes on
-- from this place, with as many turns as there are tokens left, or more.
pub record Followed {A E : Type 0} (ts : List Token) (item : E → Parser (A × Option E)) (whole : Outcome Token (List A)) (found : List A) (next : Option E) (at : ℕ) : Type 0 where
  pub turns : ℕ
  pub room : length ts - at < turns
  pub is : whole ≡ following item turns found next (drop at ts)

module _ {A E : Type 0} (ts : List Token) (item : E → Parser (A × Option E)) where
  pub follow_begin : (found : List A) (next : Option E) (at : ℕ) → Followed ts item (following item (suc (length ts)) found next (drop at ts)) found next at
  follow_begin found next at = record { turns = suc (length ts); room = omega arith; is = refl }

  follow_by : (turns : ℕ) (whole : Outcome Token (List A)) (found : List A) (e : E) (at : ℕ) → length ts - at < turns → whole ≡ following item turns found (Some e) (drop at ts)
      → (n : ℕ) × (length ts - at ≤ n) × (whole ≡ and_then (item e (drop at ts)) (λ x. following item n (found ++ x.0 ∷ []) x.1))
  unfolding following
  follow_by zero whole found e at lt is = absurd (omega arith)
  follow_by (suc n) whole found e at lt is = (n, omega arith, is)

  follow_stop : (turns : ℕ) (found : List A) (at : ℕ) → following item turns found None (drop at ts) ≡ taken found (drop at ts)
  unfolding following
  follow_stop zero found at = refl
  follow_stop (suc n) found at = refl

  module _ (whole : Outcome Token (List A)) (found : List A) (next : Option E) (at : ℕ) (g : Followed ts item whole found next at) where
    -- an item more was found
    pub follow_on : (e : E) → next ≡ Some e → at < length ts → (x : A) (read : Option E) (behind : ℕ) → at < behind → item e (drop at ts) ≡ taken (x, read) (drop behind ts)
        → (more : List A) → more ≡ found ++ x ∷ [] → Followed ts item whole more read behind
    follow_on e h inside x read behind up is more same =
        let s = follow_by g.turns whole found e at g.room (g.is ∙ ap (λ (o : Option E). following item g.turns found o (drop at ts)) h) in
        let going : Followed ts item whole (found ++ x ∷ []) read behind = record { turns = s.0; room = omega (arith, s.1); is = s.2 ∙ ap (λ o. and_then o (λ x. following item s.0 (found ++ x.0 ∷ []) x.1)) is } in
        subst (λ (ys : List A). Followed ts item whole ys read behind) (sym same) going

    -- an item is stuck
    pub follow_wrong : (e : E) → next ≡ Some e → (rest : List Token) → item e (drop at ts) ≡ stuck rest → whole ≡ stuck rest
    follow_wrong e h rest is =
        let s = follow_by g.turns whole found e at g.room (g.is ∙ ap (λ (o : Option E). following item g.turns found o (drop at ts)) h) in
        s.2 ∙ ap (λ o. and_then o (λ x. following item s.0 (found ++ x.0 ∷ []) x.1)) is

    -- no item comes any more
    pub follow_end : next ≡ None → whole ≡ taken found (drop at ts)
    follow_end h = g.is ∙ ap (λ (o : Option E). following item g.turns found o (drop at ts)) h ∙ follow_stop g.turns found at

-- an item of such a repetition is refused
pub following_refused : {A E : Type 0} (text : Tokens) (item : E → Parser (A × Option E)) (whole : Outcome Token (List A)) (found : List A) (next : Option E) (at : ℕ) → Followed text.list item whole found next at
    → (e : E) → next ≡ Some e → (r : Refusal) → Refuses text (item e (from text at)) r → Refuses text whole r
following_refused text item whole found next at g e h r w = refused_as text (item e (from text at)) whole r (λ rest is. follow_wrong text.list item whole found next at g e h rest is) w
