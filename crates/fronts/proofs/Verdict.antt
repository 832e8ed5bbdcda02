-- What the answer of a reader says of all the text: of a part `Front`, of a whole text `Spells` or `NoTree`. The answer
-- doesn't hang on the depth, where it is enough, and no word is read in two ways.
use Rattle.std.proofs.Common.{◌≡◌, ◌⊎◌, inl, inr, ℕ, suc, ◌+◌, ◌-◌, ◌<◌, ◌≤◌, List, [], ◌∷◌, ◌++◌, length, take, drop, length-drop, Option, Some, None, refl, sym, ◌∙◌, ap, subst, arith}
use Rattle.std.proofs.lemmas.List.{append_assoc, append-nil, length-append, drop-drop}
use Rattle.fronts.specs.Fronts.{Language, OneReading, Begins, Longest, Unfinished, Front}
use Rattle.fronts.specs.Texts.{Spells, NoTree}
use Rattle.fronts.specs.Readers.{Outcome, taken, stuck, deep, Reader, to_end}
use Rattle.fronts.proofs.Lists.{front_is, one_more_is, rest_is}
use Rattle.fronts.proofs.Once.{same_front}
use Rattle.fronts.proofs.Agrees.{Answer, Took, Stopped}
use Rattle.fronts.proofs.Exact.{Exact}

-- an outcome is the answer of `Front` at the place where its rest begins
abbrev pub PartAnswer : {C A : Type 0} → Language C A → List C → Outcome C A → Type 0
PartAnswer L ts (taken a rest) = Front L ts (length ts - length rest) (Some a)
PartAnswer L ts (stuck rest) = Front L ts (length ts - length rest) None
PartAnswer L ts deep = ⊥

-- an outcome is the answer for the whole text
abbrev pub TextAnswer : {C A : Type 0} → Language C A → List C → Outcome C A → Type 0
TextAnswer L ts (taken a rest) = Spells L ts a
TextAnswer L ts (stuck rest) = NoTree L ts (length ts - length rest)
TextAnswer L ts deep = ⊥

-- a family of readers, one for each depth, reads this language: exactly, and each word of it that is all of the text
pub record Reads {C A : Type 0} (L : Language C A) (p : ℕ → Reader C A) : Type 0 where
  pub exact : (n m : ℕ) → n ≤ m → Exact n L (p n) (p m)
  pub whole : (n : ℕ) (a : A) (u : List C) → L a u → length u < n → p n u ≡ taken a []

module _ {C A : Type 0} (L : Language C A) (p : ℕ → Reader C A) (x : Reads L p) where
  -- no word is read in two ways
  pub one_reading : OneReading L
  one_reading a b u l m =
      let e = x.whole (suc (length u)) a u l (omega arith) in
      let f = x.whole (suc (length u)) b u m (omega arith) in
      cc

  -- a word that begins with u and t is read whole, so no answer may stand before t
  module _ (u : List C) (t : C) (v : List C) (a : A) (l : L a ((u ++ (t ∷ [])) ++ v)) (m : ℕ) (le : length ((u ++ (t ∷ [])) ++ v) < m) where
    reads_all : p m (u ++ (t ∷ v)) ≡ taken a []
    reads_all = ap (p m) (sym (append_assoc u (t ∷ []) v)) ∙ x.whole m a _ l le

    not_stuck : p m (u ++ (t ∷ v)) ≡ stuck (t ∷ v) → ⊥
    not_stuck e = let f = sym reads_all ∙ e in cc

    not_taken : (b : A) → p m (u ++ (t ∷ v)) ≡ taken b (t ∷ v) → ⊥
    not_taken b e = let f = sym reads_all ∙ e in cc

  -- with depth enough for the text
  module _ (ts : List C) (n : ℕ) (long : length ts < n) where
    stopped : (rest : List C) → p n ts ≡ stuck rest → (m : ℕ) → n ≤ m → Stopped L (p m) ts rest
    stopped rest e m le = subst (Answer n L (p m) ts) e ((x.exact n m le).near.answers ts)

    took : (a : A) (rest : List C) → p n ts ≡ taken a rest → (m : ℕ) → n ≤ m → Took L (p m) ts a rest
    took a rest e m le = subst (Answer n L (p m) ts) e ((x.exact n m le).near.answers ts)

    none_stuck : (rest : List C) → p n ts ≡ stuck rest → length ts - length rest < length ts → Begins L (take (length ts - length rest + 1) ts) → ⊥
    none_stuck [] e lt b = absurd (omega arith)
    none_stuck (t ∷ rest) e lt (v, a, l) =
        let h = stopped (t ∷ rest) e (n + length (take (length ts - length (t ∷ rest) + 1) ts ++ v)) (omega arith) in
        let is = one_more_is ts h.text t rest h.splits in
        let same : length (take (length ts - length (t ∷ rest) + 1) ts ++ v) ≡ length ((h.text ++ (t ∷ [])) ++ v) = ap (λ (u : List C). length (u ++ v)) is in
        not_stuck h.text t v a (subst (λ (u : List C). L a (u ++ v)) is l) (n + length (take (length ts - length (t ∷ rest) + 1) ts ++ v)) (omega arith) (h.stays (t ∷ v) refl)

    none_taken : (a : A) (rest : List C) → p n ts ≡ taken a rest → length ts - length rest < length ts → Begins L (take (length ts - length rest + 1) ts) → ⊥
    none_taken a [] e lt b = absurd (omega arith)
    none_taken a (t ∷ rest) e lt (v, b, l) =
        let h = took a (t ∷ rest) e (n + length (take (length ts - length (t ∷ rest) + 1) ts ++ v)) (omega arith) in
        let is = one_more_is ts h.text t rest h.splits in
        let same : length (take (length ts - length (t ∷ rest) + 1) ts ++ v) ≡ length ((h.text ++ (t ∷ [])) ++ v) = ap (λ (u : List C). length (u ++ v)) is in
        not_taken h.text t v b (subst (λ (u : List C). L b (u ++ v)) is l) (n + length (take (length ts - length (t ∷ rest) + 1) ts ++ v)) (omega arith) a (h.stays (t ∷ v) refl)

    -- what stands before the place at which it is stuck is no word
    no_word_at : (rest text : List C) → p n ts ≡ stuck rest → ts ≡ text ++ rest → (a : A) → L a text → ⊥
    no_word_at [] text e is a l =
        let f = x.whole n a ts (subst (L a) (sym (append-nil text) ∙ sym is) l) long in
        let g = sym e ∙ f in cc
    no_word_at (t ∷ rest) text e is a l =
        let long_too : length ts ≡ length text + length (t ∷ rest) = ap length is ∙ length-append text (t ∷ rest) in
        (x.exact n n (omega arith)).firm.firm text t rest a (x.whole n a text l (omega arith)) (ap (p n) (sym is) ∙ e)

    begun : (rest : List C) (h : Stopped L (p n) ts rest) → Begins L (take (length ts - length rest) ts)
    begun rest h = (h.begins.0, h.begins.1, subst (λ (u : List C). L h.begins.1 (u ++ h.begins.0)) (sym (front_is ts h.text rest h.splits)) h.begins.2)

    -- ---- a part

    pub on_stuck : (rest : List C) → p n ts ≡ stuck rest → Unfinished L ts (length ts - length rest)
    on_stuck rest e =
        let h = stopped rest e n (omega arith) in
        record {
          within = omega arith;
          begun = begun rest h;
          none = λ a l. no_word_at rest h.text e h.splits a (subst (L a) (front_is ts h.text rest h.splits) l);
          ended = none_stuck rest e;
        }

    pub on_taken : (a : A) (rest : List C) → p n ts ≡ taken a rest → Longest L ts a (length ts - length rest)
    on_taken a rest e =
        let h = took a rest e n (omega arith) in
        record { within = omega arith; spells = subst (L a) (sym (front_is ts h.text rest h.splits)) h.spells; ended = none_taken a rest e }

    pub on_deep : p n ts ≡ deep → ⊥
    on_deep e = let h : n ≤ length ts = subst (Answer n L (p n) ts) e ((x.exact n n (omega arith)).near.answers ts) in omega arith

    part_by : (o : Outcome C A) → p n ts ≡ o → PartAnswer L ts o
    part_by (taken a rest) e = on_taken a rest e
    part_by (stuck rest) e = on_stuck rest e
    part_by deep e = on_deep e

    pub part_answer : PartAnswer L ts (p n ts)
    part_answer = part_by (p n ts) refl

    -- ---- from an answer for a part back to the outcome: the text determines it

    rest_by : (rest : List C) (o : Outcome C A) → Answer n L (p n) ts o → (o ≡ stuck rest) ⊎ ((a : A) × (o ≡ taken a rest)) → rest ≡ drop (length ts - length rest) ts
    rest_by rest (taken a r) h (inl e) = absurd cc
    rest_by rest (taken a r) h (inr (b, e)) = let is : r ≡ rest = cc in subst (λ (r : List C). r ≡ drop (length ts - length r) ts) is (rest_is ts h.text r h.splits)
    rest_by rest (stuck r) h (inl e) = let is : r ≡ rest = cc in subst (λ (r : List C). r ≡ drop (length ts - length r) ts) is (rest_is ts h.text r h.splits)
    rest_by rest (stuck r) h (inr (b, e)) = absurd cc
    rest_by rest deep h (inl e) = absurd cc
    rest_by rest deep h (inr (b, e)) = absurd cc

    answers : Answer n L (p n) ts (p n ts)
    answers = (x.exact n n (omega arith)).near.answers ts

    outcome_by : (k : ℕ) (o : Option A) → Front L ts k o → (i : Outcome C A) → p n ts ≡ i → i ≡ elim o [ None ↦ stuck (drop k ts) | Some a ↦ taken a (drop k ts) ]
    outcome_by k None f (taken b rest) e = let h = same_front L ts one_reading k (length ts - length rest) None (Some b) f (on_taken b rest e) in absurd (let g = h.1 in cc)
    outcome_by k (Some a) f (taken b rest) e =
        let h = same_front L ts one_reading k (length ts - length rest) (Some a) (Some b) f (on_taken b rest e) in
        let same : b ≡ a = let g = h.1 in cc in
        ap (λ (c : A). taken c rest) same ∙ ap (taken a) (rest_by rest (p n ts) answers (inr (b, e)) ∙ ap (λ m. drop m ts) (sym h.0))
    outcome_by k None f (stuck rest) e =
        let h = same_front L ts one_reading k (length ts - length rest) None None f (on_stuck rest e) in
        ap stuck (rest_by rest (p n ts) answers (inl e) ∙ ap (λ m. drop m ts) (sym h.0))
    outcome_by k (Some a) f (stuck rest) e = let h = same_front L ts one_reading k (length ts - length rest) (Some a) None f (on_stuck rest e) in absurd (let g = h.1 in cc)
    outcome_by k o f deep e = absurd (on_deep e)

    pub is_taken : (k : ℕ) (a : A) → Front L ts k (Some a) → p n ts ≡ taken a (drop k ts)
    is_taken k a f = outcome_by k (Some a) f (p n ts) refl

    pub is_stuck : (k : ℕ) → Front L ts k None → p n ts ≡ stuck (drop k ts)
    is_stuck k f = outcome_by k None f (p n ts) refl

    -- ---- a whole text

    pub on_all : (a : A) → p n ts ≡ taken a [] → Spells L ts a
    on_all a e =
        let h = took a [] e n (omega arith) in
        record { spells = subst (L a) (sym (append-nil h.text) ∙ sym h.splits) h.spells; only = λ b l. let f = sym (x.whole n b ts l long) ∙ e in cc }

    pub on_some : (a : A) (t : C) (rest : List C) → p n ts ≡ taken a (t ∷ rest) → NoTree L ts (length ts - length (t ∷ rest))
    on_some a t rest e =
        let h = on_taken a (t ∷ rest) e in
        record {
          within = h.within;
          begun = ([], a, subst (L a) (sym (append-nil (take (length ts - length (t ∷ rest)) ts))) h.spells);
          ended = h.ended;
          none = λ b l. let f = sym (x.whole n b ts l long) ∙ e in cc;
        }

    pub on_none : (rest : List C) → p n ts ≡ stuck rest → NoTree L ts (length ts - length rest)
    on_none rest e =
        let h = on_stuck rest e in
        record { within = h.within; begun = h.begun; ended = h.ended; none = λ b l. let f = sym (x.whole n b ts l long) ∙ e in cc }

    text_by : (o : Outcome C A) → p n ts ≡ o → TextAnswer L ts (to_end o)
    text_by (taken a []) e = on_all a e
    text_by (taken a (t ∷ rest)) e = on_some a t rest e
    text_by (stuck rest) e = on_none rest e
    text_by deep e = on_deep e

    pub text_answer : TextAnswer L ts (to_end (p n ts))
    text_answer = text_by (p n ts) refl

    -- ---- more depth changes nothing

    module _ (m : ℕ) (le : n ≤ m) where
      more_depth : (o : Outcome C A) → Answer n L (p m) ts o → p n ts ≡ o → p m ts ≡ o
      more_depth (taken a rest) h e = ap (p m) h.splits ∙ h.stays rest refl
      more_depth (stuck rest) h e = ap (p m) h.splits ∙ h.stays rest refl
      more_depth deep h e = absurd (on_deep e)

      pub enough : p m ts ≡ p n ts
      enough = more_depth (p n ts) ((x.exact n m le).near.answers ts) refl

  -- ---- by the places of the symbols

  module _ (all : List C) (at place : ℕ) (from : at ≤ length all) (within : place ≤ length all) (n : ℕ) (long : length (drop at all) < n) where
    far : length (drop at all) - length (drop place all) ≡ place - at
    far = let e = length-drop at all in let f = length-drop place all in omega arith

    after : length (drop place all) ≤ length (drop at all) → at ≤ place
    after le = let e = length-drop at all in let f = length-drop place all in omega arith

    shorter : (text : List C) → drop at all ≡ text ++ drop place all → length (drop place all) ≤ length (drop at all)
    shorter text is = let e : length (drop at all) ≡ length text + length (drop place all) = ap length is ∙ length-append text (drop place all) in omega arith

    -- the part that begins at `at`, by what a reader gives there
    pub part_taken : (a : A) → p n (drop at all) ≡ taken a (drop place all) → (at ≤ place) × Front L (drop at all) (place - at) (Some a)
    part_taken a e =
        let h = took (drop at all) n long a (drop place all) e n (omega arith) in
        (after (shorter h.text h.splits), subst (λ (k : ℕ). Front L (drop at all) k (Some a)) far (on_taken (drop at all) n long a (drop place all) e))

    pub part_stuck : p n (drop at all) ≡ stuck (drop place all) → (at ≤ place) × Front L (drop at all) (place - at) None
    part_stuck e =
        let h = stopped (drop at all) n long (drop place all) e n (omega arith) in
        (after (shorter h.text h.splits), subst (λ (k : ℕ). Front L (drop at all) k None) far (on_stuck (drop at all) n long (drop place all) e))

    -- what a reader gives there, by the part
    module _ (up : at ≤ place) where
      dropped : drop (place - at) (drop at all) ≡ drop place all
      dropped = drop-drop (place - at) at all ∙ ap (λ m. drop m all) (let e : at + (place - at) ≡ place = omega arith in e)

      pub taken_by_part : (a : A) → Front L (drop at all) (place - at) (Some a) → p n (drop at all) ≡ taken a (drop place all)
      taken_by_part a f = is_taken (drop at all) n long (place - at) a f ∙ ap (taken a) dropped

      pub stuck_by_part : Front L (drop at all) (place - at) None → p n (drop at all) ≡ stuck (drop place all)
      stuck_by_part f = is_stuck (drop at all) n long (place - at) f ∙ ap stuck dropped

  -- a whole text
  module _ (ts : List C) (n : ℕ) (long : length ts < n) where
    pub text_taken : (a : A) (rest : List C) → to_end (p n ts) ≡ taken a rest → Spells L ts a
    text_taken a rest e = subst (TextAnswer L ts) e (text_answer ts n long)

    pub text_stuck : (place : ℕ) → place ≤ length ts → to_end (p n ts) ≡ stuck (drop place ts) → NoTree L ts place
    text_stuck place within e =
        let f = length-drop place ts in
        let far : length ts - length (drop place ts) ≡ place = omega arith in
        subst (NoTree L ts) far (subst (TextAnswer L ts) e (text_answer ts n long))
