-- What may be said of groups in any order.
use Rattle.std.proofs.Common.{ℕ, ◌<◌, List, [], ◌∷◌, ◌++◌}
use Rattle.sql_types.specs.Arranged.{Permutes, permutes_skip, permutes_swap, permutes_then}
use Rattle.sql_types.specs.Parted.{Each, Rising}
use Rattle.sql_types.proofs.Orders.{permutes_refl}

-- ---- each

pub each_both : {A : Type 0} {P Q : A → Type 0} (xs : List A) → ((x : A) → P x → Q x) → Each P xs → Each Q xs
each_both [] step each = tt
each_both (x ∷ xs) step each = (step x each.0, each_both xs step each.1)

pub each_more : {A : Type 0} (P : A → Type 0) (xs ys : List A) → Each P xs → Each P ys → Each P (xs ++ ys)
each_more P [] ys left right = right
each_more P (x ∷ xs) ys left right = (left.0, each_more P xs ys left.1 right)

-- ---- what is put in another order

pub permutes_behind : {A : Type 0} (xs : List A) {ys zs : List A} → Permutes ys zs → Permutes (xs ++ ys) (xs ++ zs)
permutes_behind [] more = more
permutes_behind (x ∷ xs) more = permutes_skip (permutes_behind xs more)

-- an element goes behind a list
pub permutes_past : {A : Type 0} (x : A) (xs ys : List A) → Permutes (x ∷ (xs ++ ys)) (xs ++ x ∷ ys)
permutes_past x [] ys = permutes_refl (x ∷ ys)
permutes_past x (z ∷ xs) ys = permutes_then permutes_swap (permutes_skip (permutes_past x xs ys))

-- ---- numbers that rise

pub rising_more : (numbers : List ℕ) (n : ℕ) → Rising numbers → Each (λ i. i < n) numbers → Rising (numbers ++ n ∷ [])
rising_more [] n rising below = tt
rising_more (i ∷ []) n rising below = (below.0, tt)
rising_more (i ∷ j ∷ numbers) n rising below = (rising.0, rising_more (j ∷ numbers) n rising.1 below.1)
