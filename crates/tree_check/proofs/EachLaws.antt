-- Walks over lists of parts, one part after another.
use Rattle.std.proofs.Common.{◌≡◌, ℕ, ◌+◌, ◌<◌, ◌≤◌, List, ◌∷◌, map, length, get_or, drop, Result, Ok, ap, sym, ◌∙◌}
use Rattle.std.proofs.lemmas.List.{at_drop_more, at_drop_all}
use Rattle.resolved_ast.specs.declared.flaw.Flaw.{Flaw}
use Rattle.resolved_ast.specs.Flaws.{Before, Walk, walk_all}
use Rattle.tree_check.specs.declared.refusal.CheckRefusal.{CheckRefusal}
use Rattle.tree_check.specs.Walked.{Refused}
use Rattle.tree_check.proofs.ThenLaws.{onward, refuses, refused_then}

-- F is what is left to walk, as walks
module _ {X : Type 0} (F : List X → List Walk) (xs : List X) (i : ℕ) (x : X) (within : i < length xs) (is : x ≡ get_or xs i x) where
  -- the next one is in front
  pub next_one : F (drop i xs) ≡ F (x ∷ drop (i + 1) xs)
  next_one = at_drop_more F xs i x within ∙ ap (λ y. F (y ∷ drop (i + 1) xs)) (sym is)

-- the walk over what is left, where the next part is a walk w and then come the walks ws
pub goes_on : (whole : Result Before Flaw) (left : List Walk) (w : Walk) (ws : List Walk) (before after : Before) → whole ≡ walk_all left before → left ≡ w ∷ ws → w before ≡ Ok after → whole ≡ walk_all ws after
goes_on whole left w ws before after e f h = e ∙ ap (λ (vs : List Walk). walk_all vs before) f ∙ ap (λ x. onward x (walk_all ws)) h

pub stops : (whole : Result Before Flaw) (left : List Walk) (w : Walk) (ws : List Walk) (before : Before) (e : CheckRefusal) → whole ≡ walk_all left before → left ≡ w ∷ ws → Refused (w before) e → Refused whole e
stops whole left w ws before e is f h =
    refuses whole (onward (w before) (walk_all ws)) e (is ∙ ap (λ (vs : List Walk). walk_all vs before) f) (refused_then (w before) (walk_all ws) e h)

-- each of a list by its own walk
module _ {X : Type 0} (walk : X → Walk) (xs : List X) (i : ℕ) (x : X) (within : i < length xs) (is : x ≡ get_or xs i x) where
  pub each_next : map walk (drop i xs) ≡ walk x ∷ map walk (drop (i + 1) xs)
  each_next = next_one (map walk) xs i x within is

pub each_end : {X : Type 0} (walk : X → Walk) (xs : List X) (i : ℕ) (before : Before) → length xs ≤ i → walk_all (map walk (drop i xs)) before ≡ Ok before
each_end walk xs i before end = ap (λ (vs : List Walk). walk_all vs before) (at_drop_all (map walk) xs i end)
