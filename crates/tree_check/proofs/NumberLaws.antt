-- What a set of numbers says of their list, and new numbers added from the last to the first.
use Rattle.std.proofs.Common.{◌≡◌, ℕ, ◌==◌, Bool, true, false, ◌&&◌, ◌||◌, not, if◌then◌else◌, List, [], ◌∷◌, ◌++◌, refl, ap, sym, ◌∙◌}
use Rattle.std.specs.List.{list_any}
use Rattle.std.proofs.lemmas.Bool.Decides.{Decides-eqb, same_from_decides}
use Rattle.indexmap.specs.IndexSet.{insert_key}
use Rattle.std.specs.Prelude.{nat_eq}
use Rattle.resolved_ast.specs.Columns.{among}
use Rattle.resolved_ast.specs.Flaws.{are_new}
use Rattle.tree_check.specs.Newest.{newest}

-- ---- one of a list

among_step : (b c d e : Bool) → c ≡ (d || e) → (if b then true else c) ≡ ((if b then true else d) || e)
among_step true c d e h = refl
among_step false c d e h = h

alone : (b : Bool) → (if b then true else false) ≡ (false || b)
alone true = refl
alone false = refl

pub among_append : (n : ℕ) (xs ys : List ℕ) → among n (xs ++ ys) ≡ (among n xs || among n ys)
among_append n [] ys = refl
among_append n (x ∷ xs) ys = among_step (n == x) (among n (xs ++ ys)) (among n xs) (among n ys) (among_append n xs ys)

or_turned : (a b : Bool) → (a || b) ≡ (b || a)
or_turned true true = refl
or_turned true false = refl
or_turned false true = refl
or_turned false false = refl

one_or : (b c : Bool) → (c || (if b then true else false)) ≡ (if b then true else c)
one_or true true = refl
one_or true false = refl
one_or false true = refl
one_or false false = refl

pub among_newest : (n : ℕ) (xs : List ℕ) → among n (newest xs) ≡ among n xs
among_newest n [] = refl
among_newest n (x ∷ xs) =
    among_append n (newest xs) (x ∷ []) ∙ ap (λ c. c || (if n == x then true else false)) (among_newest n xs) ∙ one_or (n == x) (among n xs)

any_step : (b c : Bool) → (b || c) ≡ (if b then true else c)
any_step true c = refl
any_step false c = refl

any_among : (n : ℕ) (xs : List ℕ) → list_any (nat_eq n) xs ≡ among n xs
any_among n [] = refl
any_among n (x ∷ xs) = any_step (nat_eq n x) (list_any (nat_eq n) xs) ∙ ap (λ c. if nat_eq n x then true else c) (any_among n xs)

-- the set has a number where its list does
pub any_newest : (n : ℕ) (keys : List ℕ) → list_any (nat_eq n) keys ≡ among n (newest keys)
any_newest n keys = any_among n keys ∙ sym (among_newest n keys)

newest_push : (keys : List ℕ) (n : ℕ) → newest (keys ++ n ∷ []) ≡ n ∷ newest keys
newest_push [] n = refl
newest_push (k ∷ keys) n = ap (λ ns. ns ++ k ∷ []) (newest_push keys n)

inserted : (b : Bool) (keys : List ℕ) (n : ℕ) → newest (if b then keys else keys ++ n ∷ []) ≡ (if b then newest keys else n ∷ newest keys)
inserted true keys n = refl
inserted false keys n = newest_push keys n

-- what the list is after an insertion
pub newest_inserted : (keys : List ℕ) (n : ℕ) → newest (insert_key nat_eq keys n) ≡ (if among n (newest keys) then newest keys else n ∷ newest keys)
newest_inserted keys n = inserted (list_any (nat_eq n) keys) keys n ∙ ap (λ b. if b then newest keys else n ∷ newest keys) (any_newest n keys)

-- ---- new numbers

eq_turned : (m n : ℕ) → (m == n) ≡ (n == m)
eq_turned m n =
    let d = Decides-eqb n m in
    same_from_decides (m == n) (n == m) (Decides-eqb m n) (λ e. sym (d.0 e), λ e. d.1 (sym e))

and_false : (b : Bool) → (b && false) ≡ false
and_false true = refl
and_false false = refl

-- z: m is above 0; e: it is n; a, b, c, d: what is known of the rest
moved : (z e a b c d : Bool) → ((z && not (if e then true else a)) && ((b && not c) && not d)) ≡ (((z && not a) && (b && not d)) && not (if e then true else c))
moved true true a b c d = sym (and_false ((true && not a) && (b && not d)))
moved false true a b c d = refl
moved false false a b c d = refl
moved true false true b c d = refl
moved true false false false c d = refl
moved true false false true true true = refl
moved true false false true true false = refl
moved true false false true false true = refl
moved true false false true false false = refl

-- a number known before them
pub new_beside : (ns : List ℕ) (n : ℕ) (old : List ℕ) → are_new ns (n ∷ old) ≡ (are_new ns old && not (among n ns))
new_beside [] n old = refl
new_beside (m ∷ ns) n old =
    ap (λ r. (not (m == 0) && not (if m == n then true else among m old)) && r)
    (new_beside ns m (n ∷ old) ∙ ap (λ r. r && not (among m ns)) (new_beside ns n old))
    ∙ moved (not (m == 0)) (m == n) (among m old) (are_new ns old) (among n ns) (among m ns)
    ∙ ap (λ r. ((not (m == 0) && not (among m old)) && r) && not (if m == n then true else among n ns)) (sym (new_beside ns m old))
    ∙ ap (λ e. are_new (m ∷ ns) old && not (if e then true else among n ns)) (eq_turned m n)

joined : (z a b c : Bool) → ((z && not a) && (b && not c)) ≡ (b && (z && not (c || a)))
joined true true true true = refl
joined true true true false = refl
joined true true false c = refl
joined true false true true = refl
joined true false true false = refl
joined true false false c = refl
joined false a true c = refl
joined false a false c = refl

-- one more in front
pub new_front : (n : ℕ) (ns : List ℕ) (old : List ℕ) → are_new (n ∷ ns) old ≡ (are_new ns old && (not (n == 0) && not (among n (ns ++ old))))
new_front n ns old =
    ap (λ r. (not (n == 0) && not (among n old)) && r) (new_beside ns n old)
    ∙ joined (not (n == 0)) (among n old) (are_new ns old) (among n ns)
    ∙ ap (λ r. are_new ns old && (not (n == 0) && not r)) (sym (among_append n ns old))
