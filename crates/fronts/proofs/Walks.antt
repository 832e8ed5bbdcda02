-- A machine whose states are what is left of a language finds the longest front of a text.
use Rattle.std.proofs.Common.{◌≡◌, ℕ, ◌+◌, ◌<◌, List, [], ◌∷◌, ◌++◌, length, take, Option, Some, None, refl, sym, subst, arith}
use Rattle.fronts.specs.Fronts.{Language, OneReading, Begins, Front}
use Rattle.fronts.specs.Machines.{walk}
use Rattle.fronts.proofs.Lists.{take_more}

-- what holds of the state that comes next, where there is one: none doesn't do
abbrev pub On : {S : Type 0} → (S → Type 0) → Option S → Type 0
On P None = ⊥
On P (Some t) = P t

-- what holds of a value, if there is one
abbrev pub If : {S : Type 0} → (S → Type 0) → Option S → Type 0
If P None = Unit {0}
If P (Some a) = P a

-- Each state has its left language R, which is what may still come: it goes forth and back by each step, it has the empty
-- word exactly where the state is one at which something is whole, and it has some word.
pub record Machine {C A S : Type 0} (step : S → C → Option S) (whole : S → Option A) (R : S → Language C A) : Type 0 where
  pub forth : (s : S) (x : C) (a : A) (u : List C) → R s a (x ∷ u) → On (λ t. R t a u) (step s x)
  pub back : (s : S) (x : C) (a : A) (u : List C) → On (λ t. R t a u) (step s x) → R s a (x ∷ u)
  pub ends : (s : S) (a : A) → R s a [] → whole s ≡ Some a
  pub ended : (s : S) → If (λ a. R s a []) (whole s)
  pub some : (s : S) → (a : A) × (u : List C) × R s a u

on_both : {S G : Type 0} (P Q : S → Type 0) (o : Option S) → ((x : S) → P x → Q x → G) → On P o → On Q o → G
on_both P Q None f p q = absurd p
on_both P Q (Some x) f p q = f x p q

module _ {C A S : Type 0} (step : S → C → Option S) (whole : S → Option A) (R : S → Language C A) (machine : Machine step whole R) where
  abbrev Stops : S → List C → ℕ × S → Type 0
  Stops s text w = Front (R s) text w.0 (whole w.1)

  -- nothing goes on here
  module _ (s : S) (text : List C) (dead : 0 < length text → Begins (R s) (take 1 text) → ⊥) where
    here : (o : Option A) → whole s ≡ o → Front (R s) text 0 o
    here None e = record {
      within = omega arith;
      begun = let y = machine.some s in (y.1, y.0, y.2);
      none = λ a r. let f = machine.ends s a r in cc;
      ended = dead;
    }
    here (Some a) e = record { within = omega arith; spells = subst (If (λ a. R s a [])) e (machine.ended s); ended = dead }

  module _ (s t : S) (x : C) (u : List C) (is : step s x ≡ Some t) where
    down : (a : A) (v : List C) → R s a (x ∷ v) → R t a v
    down a v r = subst (On (λ t. R t a v)) is (machine.forth s x a v r)

    up : (a : A) (v : List C) → R t a v → R s a (x ∷ v)
    up a v r = machine.back s x a v (subst (On (λ t. R t a v)) (sym is) r)

    down_begins : (n : ℕ) → Begins (R s) (take (n + 1) (x ∷ u)) → Begins (R t) (take n u)
    down_begins n (v, a, r) = (v, a, down a (take n u ++ v) (subst (λ (w : List C). R s a (w ++ v)) (take_more n x u) r))

    later : (n : ℕ) (o : Option A) → Front (R t) u n o → Front (R s) (x ∷ u) (n + 1) o
    later n None h = record {
      within = let k = h.within in omega arith;
      begun = let b = h.begun in (b.0, b.1, subst (λ (w : List C). R s b.1 (w ++ b.0)) (sym (take_more n x u)) (up b.1 (take n u ++ b.0) b.2));
      none = λ a r. h.none a (down a (take n u) (subst (R s a) (take_more n x u) r));
      ended = λ lt b. h.ended (omega arith) (down_begins (n + 1) b);
    }
    later n (Some a) h = record {
      within = let k = h.within in omega arith;
      spells = subst (R s a) (sym (take_more n x u)) (up a (take n u) h.spells);
      ended = λ lt b. h.ended (omega arith) (down_begins (n + 1) b);
    }

  none_on : (s : S) (x : C) (u : List C) → step s x ≡ None → Begins (R s) (x ∷ u) → ⊥
  none_on s x u e (v, a, r) = subst (On (λ t. R t a (u ++ v))) e (machine.forth s x a (u ++ v) r)

  -- from each state on, the walk stops behind the longest front that begins what is left there
  pub walks : (s : S) (text : List C) → Front (R s) text (walk step s text).0 (whole (walk step s text).1)
  unfolding walk
  walks s [] = here s [] (λ lt _. absurd (omega arith)) (whole s) refl
  walks s (x ∷ u) = elim (step s x) as (λ o. step s x ≡ o → Stops s (x ∷ u) (elim o [ None ↦ (0, s) | Some next ↦ let w = walk step next u in (w.0 + 1, w.1) ])) [
    | None ↦ λ e. here s (x ∷ u) (λ _ b. none_on s x [] e b) (whole s) refl
    | Some t ↦ λ e. later s t x u e (walk step t u).0 (whole (walk step t u).1) (walks t u)
  ] refl

  -- what is left at a state is read in one way
  pub one_reading : (s : S) → OneReading (R s)
  one_reading s a b [] l m = let e = machine.ends s a l in let f = machine.ends s b m in cc
  one_reading s a b (x ∷ u) l m = on_both (λ t. R t a u) (λ t. R t b u) (step s x) (λ t p q. one_reading t a b u p q) (machine.forth s x a u l) (machine.forth s x b u m)
