-- What holds of a list after an addition to it.
use Rattle.std.proofs.Common.{◌≡◌, ◌||◌, Bool, true, false, refl, ap, sym, subst, ◌∙◌, true≢false}
use Rattle.std.specs.Prelude.{Result, Ok, Err, OnOk, OnErr}
use Rattle.sql_catalog.specs.declared.refusal.AddRefusal.{AddRefusal}
use Rattle.sql_catalog.specs.Answers.{Adds}

-- what holds before, and where the entry is added, holds after it
pub either_way : {A : Type 0} (P : A → Type 0) (taken : Bool) (result : Result (Unit {0}) AddRefusal) (old added new : A)
    → Adds taken result → OnOk result (new ≡ added) → OnErr result (new ≡ old) → P old → (taken ≡ false → P added) → P new
either_way P taken (Ok u) old added new answer ok kept before after = subst P (sym ok) (after answer)
either_way P taken (Err e) old added new answer ok kept before after = subst P (sym kept) before

-- the answer where the name is taken as well as is said
pub Adds-along : (taken other : Bool) (result : Result (Unit {0}) AddRefusal) → other ≡ taken → Adds taken result → Adds other result
Adds-along taken other result same answer = subst (λ t. Adds t result) (sym same) answer

pub or_left : (a b : Bool) → a ≡ true → (a || b) ≡ true
or_left true b e = refl
or_left false b e = absurd (true≢false (sym e))

pub or_right : (a b : Bool) → b ≡ true → (a || b) ≡ true
or_right true b e = refl
or_right false b e = e

pub or_other : (a b : Bool) → a ≡ false → (a || b) ≡ b
or_other a b e = ap (λ x. x || b) e

pub or_first : (a b : Bool) → b ≡ false → (a || b) ≡ a
or_first true b e = refl
or_first false b e = e
