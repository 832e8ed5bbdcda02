-- What holds of each of a list.
use Rattle.std.proofs.Common.{◌≡◌, Bool, true, ◌&&◌, List, [], ◌∷◌, ◌++◌, map, refl}
use Rattle.std.specs.List.{list_all}
use Rattle.sql_types.specs.Parted.{Each}
use Rattle.resolved_ast.proofs.FitLaws.{first_of, second_of}

pub and_so : (a b : Bool) → a ≡ true → b ≡ true → (a && b) ≡ true
and_so a b x y = rw (x, y) refl

module _ {A : Type 0} (P : A → Type 0) where
  pub each_join : (xs ys : List A) → Each P xs → Each P ys → Each P (xs ++ ys)
  each_join [] ys left right = right
  each_join (x ∷ xs) ys left right = (left.0, each_join xs ys left.1 right)

  pub each_left : (xs ys : List A) → Each P (xs ++ ys) → Each P xs
  each_left [] ys both = tt
  each_left (x ∷ xs) ys both = (both.0, each_left xs ys both.1)

  pub each_right : (xs ys : List A) → Each P (xs ++ ys) → Each P ys
  each_right [] ys both = both
  each_right (x ∷ xs) ys both = each_right xs ys both.1

pub each_so : {A : Type 0} (P Q : A → Type 0) → ((x : A) → P x → Q x) → (xs : List A) → Each P xs → Each Q xs
each_so P Q f [] each = tt
each_so P Q f (x ∷ xs) each = (f x each.0, each_so P Q f xs each.1)

pub each_mapped : {A B : Type 0} (f : A → B) (P : A → Type 0) (Q : B → Type 0) → ((x : A) → P x → Q (f x)) → (xs : List A) → Each P xs → Each Q (map f xs)
each_mapped f P Q along [] each = tt
each_mapped f P Q along (x ∷ xs) each = (along x each.0, each_mapped f P Q along xs each.1)

-- a test of all
pub all_of_each : {A : Type 0} (p : A → Bool) (xs : List A) → Each (λ x. p x ≡ true) xs → list_all p xs ≡ true
all_of_each p [] each = refl
all_of_each p (x ∷ xs) each = and_so (p x) (list_all p xs) each.0 (all_of_each p xs each.1)

pub each_of_all : {A : Type 0} (p : A → Bool) (xs : List A) → list_all p xs ≡ true → Each (λ x. p x ≡ true) xs
each_of_all p [] all = tt
each_of_all p (x ∷ xs) all = (first_of (p x) (list_all p xs) all, each_of_all p xs (second_of (p x) (list_all p xs) all))
