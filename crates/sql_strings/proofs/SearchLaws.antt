-- Where a part stands in a text: what `begins_with`, `first_place` and `pieces` say, by the texts before and behind.
use Rattle.std.proofs.Common.{◌⊎◌, inl, inr, get_or, ◌≡◌, ℕ, suc, ◌+◌, ◌-◌, ◌<◌, ◌≤◌, Bool, true, false, ◌&&◌, List, [], ◌∷◌, ◌++◌, length, reverse, take, drop, Some, None, refl, ap, sym, ◌∙◌, arith, eqb}
use Rattle.std.proofs.lemmas.List.{reverse-append, reverse-reverse, length-append, length-take, length-drop, length-take-le, take-append-drop, drop-drop, ext_get_or, get_or-take, get_or-drop, get_or-append-add, get_or_append_left}
use Rattle.std.proofs.lemmas.Bool.{cases_lt}
use Rattle.memchr.specs.Find.{OccursAt, FindsNeedle}
use Rattle.std.proofs.lemmas.Bool.Decides.{Decides-eqb}
use Rattle.std.proofs.lemmas.Slice.Eq.{starts_is, ends_is}
use Rattle.std.specs.List.{starts_with}
use Rattle.std.specs.List
use Rattle.std.proofs.lemmas.Grind.{common_steps}
use Rattle.sql_strings.specs.Texts.{begins_with, ends_with, first_place, next_place, place_of, put_before, pieces_behind, pieces}

-- two tests with one meaning
pub same-test : (a b : Bool) → (a ≡ true → b ≡ true) → (b ≡ true → a ≡ true) → a ≡ b
same-test true b to from = sym (to refl)
same-test false true to from = from refl
same-test false false to from = refl

eqb-same : (n : ℕ) → eqb n n ≡ true
eqb-same n = grind (arith, common_steps)

eqb-is : (n m : ℕ) → eqb n m ≡ true → n ≡ m
eqb-is n m h = grind (arith, common_steps)

pub begins-append : (p r : List ℕ) → begins_with p (p ++ r) ≡ true
begins-append [] r = refl
begins-append (x ∷ p) r = rw (eqb-same x) (begins-append p r)

and-both : (a b : Bool) → (a && b) ≡ true → (a ≡ true) × (b ≡ true)
and-both true b h = (refl, h)
and-both false b h = cc

pub begins-split : (p xs : List ℕ) → begins_with p xs ≡ true → (r : List ℕ) × (xs ≡ p ++ r)
begins-split [] xs h = (xs, refl)
begins-split (y ∷ p) [] h = cc
begins-split (y ∷ p) (x ∷ xs) h =
    let both = and-both (eqb y x) (begins_with p xs) h in
    let rest = begins-split p xs both.1 in
    let same : y ≡ x = eqb-is y x both.0 in
    let tail : xs ≡ p ++ rest.0 = rest.1 in
    (rest.0, cc)

pub ends-append : (f p : List ℕ) → ends_with p (f ++ p) ≡ true
ends-append f p = rw (reverse-append f p) (begins-append (reverse p) (reverse f))

pub ends-split : (p xs : List ℕ) → ends_with p xs ≡ true → (f : List ℕ) × (xs ≡ f ++ p)
ends-split p xs h =
    let front = begins-split (reverse p) (reverse xs) h in
    (reverse front.0, sym (reverse-reverse xs) ∙ ap reverse front.1 ∙ reverse-append (reverse p) front.0 ∙ ap (λ t. reverse front.0 ++ t) (reverse-reverse p))

-- ---- places

-- the part stands nowhere in the text
abbrev pub Absent : List ℕ → List ℕ → Type 0
Absent part xs = (u v : List ℕ) → xs ≡ u ++ (part ++ v) → ⊥

-- the part stands behind the front, and nowhere before
abbrev pub Earliest : List ℕ → List ℕ → List ℕ → Type 0
Earliest part front back = (u v : List ℕ) → front ++ (part ++ back) ≡ u ++ (part ++ v) → length front ≤ length u

lacks-first : (part xs : List ℕ) → Absent part xs → begins_with part xs ≡ false
lacks-first part xs absent = lacks part xs (begins_with part xs) refl absent
  where
    lacks : (part xs : List ℕ) (b : Bool) → begins_with part xs ≡ b → Absent part xs → b ≡ false
    lacks part xs true is absent = let r = begins-split part xs is in absurd (absent [] r.0 r.1)
    lacks part xs false is absent = refl

later-first : (part front back : List ℕ) (x : ℕ) → Earliest part (x ∷ front) back → begins_with part (x ∷ (front ++ (part ++ back))) ≡ false
later-first part front back x earliest = lacks (begins_with part (x ∷ (front ++ (part ++ back)))) refl
  where
    lacks : (b : Bool) → begins_with part (x ∷ (front ++ (part ++ back))) ≡ b → b ≡ false
    lacks true is = let r = begins-split part (x ∷ (front ++ (part ++ back))) is in let low : suc (length front) ≤ 0 = earliest [] r.0 r.1 in absurd (omega (arith, low))
    lacks false is = refl

absent-behind : (part xs : List ℕ) (x : ℕ) → Absent part (x ∷ xs) → Absent part xs
absent-behind part xs x absent u v is = absent (x ∷ u) v (ap (λ t. x ∷ t) is)

earliest-behind : (part front back : List ℕ) (x : ℕ) → Earliest part (x ∷ front) back → Earliest part front back
earliest-behind part front back x earliest u v is = let more : suc (length front) ≤ suc (length u) = earliest (x ∷ u) v (ap (λ t. x ∷ t) is) in omega (arith, more)

pub place-none : (part xs : List ℕ) → Absent part xs → first_place part xs ≡ None
place-none part [] absent = rw (lacks-first part [] absent) refl
place-none part (x ∷ xs) absent = rw (lacks-first part (x ∷ xs) absent) (ap next_place (place-none part xs (absent-behind part xs x absent)))

place-here : (part back : List ℕ) → first_place part (part ++ back) ≡ Some 0
place-here [] [] = refl
place-here [] (b ∷ back) = refl
place-here (p ∷ part) back = rw (begins-append (p ∷ part) back) refl

pub place-some : (part front back : List ℕ) → Earliest part front back → first_place part (front ++ (part ++ back)) ≡ Some (length front)
place-some part [] back earliest = place-here part back
place-some part (x ∷ front) back earliest =
    rw (later-first part front back x earliest) (ap next_place (place-some part front back (earliest-behind part front back x earliest)))

-- ---- pieces

skipped : (separator u xs : List ℕ) → pieces_behind separator (length u) (u ++ xs) ≡ pieces separator xs
skipped separator [] xs = refl
skipped separator (x ∷ u) xs = skipped separator u xs

pub pieces-none : (separator xs : List ℕ) → Absent separator xs → pieces separator xs ≡ xs ∷ []
pieces-none separator [] absent = refl
pieces-none separator (x ∷ xs) absent =
    rw (lacks-first separator (x ∷ xs) absent) (ap (put_before x) (pieces-none separator xs (absent-behind separator xs x absent)))

pieces-here : (s : ℕ) (ss back : List ℕ) → pieces (s ∷ ss) ((s ∷ ss) ++ back) ≡ [] ∷ pieces (s ∷ ss) back
pieces-here s ss back =
    let one : length (s ∷ ss) - 1 ≡ length ss = omega arith in
    rw (begins-append (s ∷ ss) back, one) (ap (λ t. [] ∷ t) (skipped (s ∷ ss) ss back))

pub pieces-some : (s : ℕ) (ss front back : List ℕ) → Earliest (s ∷ ss) front back → pieces (s ∷ ss) (front ++ ((s ∷ ss) ++ back)) ≡ front ∷ pieces (s ∷ ss) back
pieces-some s ss [] back earliest = pieces-here s ss back
pieces-some s ss (x ∷ front) back earliest =
    rw (later-first (s ∷ ss) front back x earliest) (ap (put_before x) (pieces-some s ss front back (earliest-behind (s ∷ ss) front back x earliest)))

-- ---- what the calls of std say of bytes

pub bytes-begin : (p s : List ℕ) (b : Bool) → b ≡ starts_with eqb s p → b ≡ begins_with p s
bytes-begin p s b is =
    let says = starts_is Decides-eqb s p b is in
    same-test b (begins_with p s)
    (λ h. ap (begins_with p) (says.0 h) ∙ begins-append p (drop (length p) s))
    (λ h. let r = begins-split p s h in says.1 r.0 r.1)

pub bytes-end : (p s : List ℕ) (b : Bool) → b ≡ List.ends_with eqb s p → b ≡ ends_with p s
bytes-end p s b is =
    let says = ends_is Decides-eqb s p b is in
    same-test b (ends_with p s)
    (λ h. ap (ends_with p) (says.0 h) ∙ ends-append (take (length s - length p) s) p)
    (λ h. let f = ends-split p s h in says.1 f.0 f.1)

-- the part stands in the text at a place of bytes
occurs-split : (xs part : List ℕ) (k : ℕ) → OccursAt xs part k → xs ≡ take k xs ++ (part ++ drop (k + length part) xs)
occurs-split xs part k at =
    let fits = at.fits in
    let size : length (take (length part) (drop k xs)) ≡ length part = omega (arith, fits, length-take (length part) (drop k xs), length-drop k xs) in
    let same : take (length part) (drop k xs) ≡ part =
    ext_get_or 0 (take (length part) (drop k xs)) part size
    (λ i less. let inside : i < length part = omega (arith, less, size) in get_or-take (length part) (drop k xs) i 0 inside ∙ get_or-drop k xs i 0 ∙ at.reads i inside) in
    sym (take-append-drop k xs)
    ∙ ap (λ t. take k xs ++ t) (sym (take-append-drop (length part) (drop k xs)) ∙ ap (λ t. t ++ drop (length part) (drop k xs)) same ∙ ap (λ t. part ++ t) (drop-drop (length part) k xs))

split-occurs : (xs part u v : List ℕ) → xs ≡ u ++ (part ++ v) → OccursAt xs part (length u)
split-occurs xs part u v is = record {
  fits = omega (arith, ap length is, length-append u (part ++ v), length-append part v);
  reads = λ j less. ap (λ t. get_or t (length u + j) 0) is ∙ get_or-append-add u (part ++ v) j 0 ∙ get_or_append_left part v 0 j less;
}

not-occurs : (xs part : List ℕ) → FindsNeedle xs part 0 None → Absent part xs
not-occurs xs part lacks u v is =
    let at = split-occurs xs part u v is in
    let fits = at.fits in
    let within : length u < length xs + 1 = omega (arith, fits) in
    lacks (length u) (omega arith) within at

-- a part that is found stands at the earliest place
found : (xs part : List ℕ) (k : ℕ) → FindsNeedle xs part 0 (Some k) → (xs ≡ take k xs ++ (part ++ drop (k + length part) xs)) × Earliest part (take k xs) (drop (k + length part) xs) × (length (take k xs) ≡ k)
found xs part k (first, at) =
    let whole = occurs-split xs part k at in
    let fits = at.fits in
    let size : length (take k xs) ≡ k = length-take-le k xs (omega (arith, fits)) in
    (whole, (λ u v is. earliest u v (whole ∙ is) size (cases_lt (length u) k)), size)
  where
    earliest : (u v : List ℕ) → xs ≡ u ++ (part ++ v) → length (take k xs) ≡ k → (length u < k) ⊎ (k ≤ length u) → length (take k xs) ≤ length u
    earliest u v is size (inl less) = absurd (first.before (length u) (omega arith) less (split-occurs xs part u v is))
    earliest u v is size (inr more) = omega (arith, size, more)

pub bytes-place-some : (xs part : List ℕ) (k : ℕ) → FindsNeedle xs part 0 (Some k) → k + 1 ≡ place_of (first_place part xs)
bytes-place-some xs part k finds =
    let at = found xs part k finds in
    let is : first_place part xs ≡ Some k = ap (first_place part) at.0 ∙ place-some part (take k xs) (drop (k + length part) xs) at.1 ∙ ap Some at.2 in
    rw is (omega arith)

pub bytes-place-none : (xs part : List ℕ) → FindsNeedle xs part 0 None → 0 ≡ place_of (first_place part xs)
bytes-place-none xs part lacks = rw (place-none part xs (not-occurs xs part lacks)) refl

pub bytes-uncut : (separator xs : List ℕ) → FindsNeedle xs separator 0 None → pieces separator xs ≡ xs ∷ []
bytes-uncut separator xs lacks = pieces-none separator xs (not-occurs xs separator lacks)

pub bytes-cut : (separator xs : List ℕ) (k : ℕ) → 0 < length separator → FindsNeedle xs separator 0 (Some k)
    → pieces separator xs ≡ take k xs ∷ pieces separator (drop (k + length separator) xs)
bytes-cut [] xs k some finds = absurd (omega (arith, some))
bytes-cut (s ∷ ss) xs k some finds =
    let at = found xs (s ∷ ss) k finds in
    ap (pieces (s ∷ ss)) at.0 ∙ pieces-some s ss (take k xs) (drop (k + length (s ∷ ss)) xs) at.1
