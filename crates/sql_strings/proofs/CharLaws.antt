-- What a text's bytes say of its characters.
use Rattle.std.proofs.Common.{◌⊎◌, inl, inr, ◌≡◌, ℕ, zero, suc, ◌+◌, ◌-◌, ◌<◌, ◌≤◌, Bool, true, false, List, [], ◌∷◌, ◌++◌, length, take, drop, Option, Some, None, refl, ap, sym, ◌∙◌, subst, arith, append_assoc}
use Rattle.std.specs.Prelude.{MatchOption, IfSome}
use denote.Ref.{Bor}
use Rattle.std.specs.Bool.{MatchBool}
use Rattle.std.specs.Char.{encode_utf8}
use Rattle.std.specs.Str.{IsUtf8, IsCharBoundary, chars, encode_utf8_all}
use Rattle.std.specs.Str.Pattern.{FindsText, FindsTextPrefix, FindsTextSuffix, LacksTextAt, SplitsAroundMatch, HasPrefixMatch, HasSuffixMatch, MatchBeginsAt, SplitsAroundMatch}
use Rattle.std.proofs.lemmas.Str.{encodes-append, encodes-chars, chars-append, chars-nil, encodes_same, IsUtf8-append, IsUtf8-take, IsUtf8-drop, IsCharBoundary-from_drop, IsCharBoundary-at_seam, length-encode, len_utf8_bounds, length-le-encodes}
use Rattle.std.proofs.lemmas.List.{append-nil, length-append, drop_at, take_at, append_cancel_right, take-append-drop, length-take-le}
use Rattle.std.proofs.lemmas.Bool.{cases_lt}
use Rattle.sql_strings.specs.Texts.{begins_with, ends_with, first_place, place_of, pieces}
use Rattle.sql_strings.proofs.SearchLaws.{begins-append, begins-split, ends-append, ends-split, Absent, Earliest, place-none, place-some, pieces-none, pieces-some}

-- ---- one text in another

-- the characters of a text in three parts
pub chars-three : (a n b : List ℕ) → IsUtf8 a → IsUtf8 n → chars (a ++ (n ++ b)) ≡ chars a ++ (chars n ++ chars b)
chars-three a n b ua un = chars-append a (n ++ b) ua ∙ ap (λ t. chars a ++ t) (chars-append n b un)

-- the bytes of characters in three parts, the middle ones being those of a text
encodes-three : (s n u v : List ℕ) → IsUtf8 s → IsUtf8 n → chars s ≡ u ++ (chars n ++ v) → s ≡ encode_utf8_all u ++ (n ++ encode_utf8_all v)
encodes-three s n u v us un is =
    sym (encodes-chars s us) ∙ ap encode_utf8_all is ∙ encodes-append u (chars n ++ v)
    ∙ ap (λ t. encode_utf8_all u ++ t) (encodes-append (chars n) v ∙ ap (λ t. t ++ encode_utf8_all v) (encodes-chars n un))

-- fewer characters of one text have fewer bytes
shorter : (u a v b : List ℕ) → u ++ v ≡ a ++ b → suc (length u) ≤ length a → suc (length (encode_utf8_all u)) ≤ length (encode_utf8_all a)
shorter [] [] v b is less = absurd (omega (arith, less))
shorter [] (c ∷ a) v b is less =
    let some = (len_utf8_bounds c).0 in
    omega (arith, length-append (encode_utf8 c) (encode_utf8_all a), length-encode c, some)
shorter (x ∷ u) [] v b is less = absurd (omega (arith, less))
shorter (x ∷ u) (c ∷ a) v b is less =
    let head : x ≡ c = cc in
    let tail : u ++ v ≡ a ++ b = cc in
    let fewer : suc (length u) ≤ length a = omega (arith, less) in
    let rest = shorter u a v b tail fewer in
    let same : length (encode_utf8 x) ≡ length (encode_utf8 c) = ap (λ t. length (encode_utf8 t)) head in
    omega (arith, length-append (encode_utf8 c) (encode_utf8_all a), length-append (encode_utf8 x) (encode_utf8_all u), rest, same)

-- a text that lacks a part lacks its characters
pub chars-absent : (n s : List ℕ) → IsUtf8 n → IsUtf8 s → ((i : ℕ) → i ≤ length s → LacksTextAt n s i) → Absent (chars n) (chars s)
chars-absent n s un us lacks u v is =
    let whole = encodes-three s n u v us un is in
    let within : length (encode_utf8_all u) ≤ length s = omega (arith, ap length whole, length-append (encode_utf8_all u) (n ++ encode_utf8_all v)) in
    lacks (length (encode_utf8_all u)) within (encode_utf8_all v) (ap (drop (length (encode_utf8_all u))) whole ∙ drop_at (encode_utf8_all u) (n ++ encode_utf8_all v) (length (encode_utf8_all u)) refl)

-- the first place by bytes is the first by characters
pub chars-earliest : (n a b : List ℕ) → IsUtf8 n → IsUtf8 a → IsUtf8 b → ((i : ℕ) → i < length a → LacksTextAt n (a ++ (n ++ b)) i) → Earliest (chars n) (chars a) (chars b)
chars-earliest n a b un ua ub lacks u v is = earliest (cases_lt (length u) (length (chars a)))
  where
    whole : a ++ (n ++ b) ≡ encode_utf8_all u ++ (n ++ encode_utf8_all v)
    whole = encodes-three (a ++ (n ++ b)) n u v (IsUtf8-append a (n ++ b) ua (IsUtf8-append n b un ub)) un (chars-three a n b ua un ∙ is)

    earliest : (length u < length (chars a)) ⊎ (length (chars a) ≤ length u) → length (chars a) ≤ length u
    earliest (inr more) = more
    earliest (inl less) =
        let fewer = shorter u (chars a) (chars n ++ v) (chars n ++ chars b) (sym is) less in
        let place : length (encode_utf8_all u) < length a = omega (arith, fewer, ap length (encodes-chars a ua)) in
        absurd (lacks (length (encode_utf8_all u)) place (encode_utf8_all v)
        (ap (drop (length (encode_utf8_all u))) whole ∙ drop_at (encode_utf8_all u) (n ++ encode_utf8_all v) (length (encode_utf8_all u)) refl))

-- ---- the last character, and the first ones

pub chars-none : (s : List ℕ) → length s ≡ 0 → chars s ≡ []
chars-none [] none = chars-nil
chars-none (b ∷ s) none = absurd (omega (arith, none))

pub chars-last : (s front : List ℕ) (c : ℕ) → IsUtf8 s → IsUtf8 front → s ≡ front ++ encode_utf8 c → chars s ≡ chars front ++ c ∷ []
chars-last s front c us uf is =
    encodes_same (chars s) (chars front ++ c ∷ [])
    (encodes-chars s us ∙ is ∙ ap (λ t. t ++ encode_utf8 c) (sym (encodes-chars front uf)) ∙ ap (λ t. encode_utf8_all (chars front) ++ t) (sym (append-nil (encode_utf8 c)))
    ∙ sym (encodes-append (chars front) (c ∷ [])))

-- what stands before the rest of a text's characters
pub chars-front : (s front rest : List ℕ) (n : ℕ) → IsUtf8 s → IsUtf8 rest → s ≡ front ++ rest → chars rest ≡ drop n (chars s) → chars (take (length s - length rest) s) ≡ take n (chars s)
chars-front s front rest n us ur is from =
    let size : length s - length rest ≡ length front = omega (arith, ap length is, length-append front rest) in
    let cut : take (length s - length rest) s ≡ front = rw size (ap (take (length front)) is ∙ take_at front rest (length front) refl) in
    let uf : IsUtf8 front = subst IsUtf8 (ap (take (length front)) is ∙ take_at front rest (length front) refl) (IsUtf8-take s (length front) us (IsCharBoundary-at_seam s front rest is ur)) in
    let joined : chars front ++ drop n (chars s) ≡ chars s = ap (λ t. chars front ++ t) (sym from) ∙ sym (chars-append front rest uf) ∙ ap chars (sym is) in
    ap chars cut ∙ append_cancel_right (chars front) (take n (chars s)) (drop n (chars s)) (joined ∙ sym (take-append-drop n (chars s)))

pub front-edge : (s front rest : List ℕ) → IsUtf8 rest → s ≡ front ++ rest → IsCharBoundary s (length s - length rest)
front-edge s front rest ur is =
    let size : length front ≡ length s - length rest = omega (arith, ap length is, length-append front rest) in
    subst (IsCharBoundary s) size (IsCharBoundary-at_seam s front rest is ur)

pub drop-past : (n x : ℕ) (xs ys zs : List ℕ) → 0 < n → xs ≡ x ∷ ys → drop n xs ≡ zs → drop (n - 1) ys ≡ zs
drop-past zero x xs ys zs some is all = absurd (omega (arith, some))
drop-past (suc n) x xs ys zs some is all =
    let one : suc n - 1 ≡ n = omega arith in
    rw one (ap (drop (suc n)) (sym is) ∙ all)

pub front-past : (s rest behind : List ℕ) (c : ℕ) → ((front : List ℕ) × (s ≡ front ++ rest)) → rest ≡ encode_utf8 c ++ behind → (front : List ℕ) × (s ≡ front ++ behind)
front-past s rest behind c (front, is) split = (front ++ encode_utf8 c, is ∙ ap (λ t. front ++ t) split ∙ sym (append_assoc front (encode_utf8 c) behind))

-- ---- what the calls of std say

pub text-begins : (p s : List ℕ) (b : Bool) → IsUtf8 p → IsUtf8 s → MatchBool b (HasPrefixMatch (FindsTextPrefix p) s) (FindsTextPrefix p s None) → b ≡ begins_with (chars p) (chars s)
text-begins p s true up us (k, (size, split, edge), cut) =
    sym (ap (begins_with (chars p)) (ap chars split ∙ chars-append p (drop k s) up) ∙ begins-append (chars p) (chars (drop k s)))
text-begins p s false up us lacks = refuted (begins_with (chars p) (chars s)) refl
  where
    refuted : (b : Bool) → begins_with (chars p) (chars s) ≡ b → false ≡ b
    refuted false is = refl
    refuted true is =
        let r = begins-split (chars p) (chars s) is in
        absurd (lacks (encode_utf8_all r.0) (encodes-three s p [] r.0 us up r.1))

pub text-ends : (p s : List ℕ) (b : Bool) → IsUtf8 p → IsUtf8 s → MatchBool b (HasSuffixMatch (FindsTextSuffix p) s) (FindsTextSuffix p s None) → b ≡ ends_with (chars p) (chars s)
text-ends p s true up us (k, (size, split, edge), within, cut) =
    let front : IsUtf8 (take (length s - k) s) = IsUtf8-take s (length s - k) us cut in
    sym (ap (ends_with (chars p)) (ap chars split ∙ chars-append (take (length s - k) s) p front) ∙ ends-append (chars (take (length s - k) s)) (chars p))
text-ends p s false up us lacks = refuted (ends_with (chars p) (chars s)) refl
  where
    refuted : (b : Bool) → ends_with (chars p) (chars s) ≡ b → false ≡ b
    refuted false is = refl
    refuted true is =
        let f = ends-split (chars p) (chars s) is in
        absurd (lacks (encode_utf8_all f.0)
        (sym (encodes-chars s us) ∙ ap encode_utf8_all f.1 ∙ encodes-append f.0 (chars p) ∙ ap (λ t. encode_utf8_all f.0 ++ t) (encodes-chars p up)))

-- the place of a text is that of its characters
pub text-place : (n s : List ℕ) (r : Option ℕ) → IsUtf8 n → IsUtf8 s → MatchOption r (FindsText n s None) (MatchBeginsAt (FindsText n) s)
    → MatchOption r (first_place (chars n) (chars s) ≡ None) (λ i. first_place (chars n) (chars s) ≡ Some (length (chars (take i s))))
text-place n s None un us lacks = place-none (chars n) (chars s) (chars-absent n s un us lacks)
text-place n s (Some i) un us (j, (earlier, at), order, edge, end) =
    let whole : s ≡ take i s ++ (n ++ drop j s) = sym (take-append-drop i s) ∙ ap (λ t. take i s ++ t) at.split in
    let ua : IsUtf8 (take i s) = IsUtf8-take s i us edge in
    let ub : IsUtf8 (drop j s) = IsUtf8-drop s j us end in
    let size : length (take i s) ≡ i = length-take-le i s edge.0 in
    let lacks : (k : ℕ) → k < length (take i s) → LacksTextAt n (take i s ++ (n ++ drop j s)) k = λ k less. subst (λ t. LacksTextAt n t k) whole (earlier k (omega (arith, less, size))) in
    ap (first_place (chars n)) (ap chars whole ∙ chars-three (take i s) n (drop j s) ua un)
    ∙ place-some (chars n) (chars (take i s)) (chars (drop j s)) (chars-earliest n (take i s) (drop j s) un ua ub lacks)

pub some-chars : (n : List ℕ) → IsUtf8 n → 0 < length n → (c : ℕ) × (cs : List ℕ) × (chars n ≡ c ∷ cs)
some-chars n un some = first (chars n) refl
  where
    first : (cs : List ℕ) → chars n ≡ cs → (c : ℕ) × (rest : List ℕ) × (chars n ≡ c ∷ rest)
    first [] is = absurd (omega (arith, some, ap length (sym (encodes-chars n un) ∙ ap encode_utf8_all is)))
    first (c ∷ cs) is = (c, cs, is)

-- what stands before a place of a text and behind it are texts
cut-parts : (n s front back : List ℕ) → IsUtf8 n → IsUtf8 s → SplitsAroundMatch (FindsText n) s front back → IsUtf8 front × IsUtf8 back
cut-parts n s front back un us (i, j, (earlier, at), isfront, isback, order, size, more) =
    let edge : IsCharBoundary s j = subst (IsCharBoundary s) (sym at.ends) at.after in
    let ub : IsUtf8 (drop j s) = IsUtf8-drop s j us edge in
    let within : i ≤ length s = omega (arith, order, edge.0) in
    let behind : IsUtf8 (drop i s) = subst IsUtf8 (sym at.split) (IsUtf8-append n (drop j s) un ub) in
    let ua : IsUtf8 (take i s) = IsUtf8-take s i us (IsCharBoundary-from_drop s i within behind) in
    (subst IsUtf8 (sym isfront) ua, subst IsUtf8 (sym isback) ub)

-- a text is cut at the first place of a separator, and so are its characters
pub text-cut : (n s front back : List ℕ) → IsUtf8 n → IsUtf8 s → 0 < length n → SplitsAroundMatch (FindsText n) s front back
    → pieces (chars n) (chars s) ≡ chars front ∷ pieces (chars n) (chars back)
text-cut n s front back un us some (i, j, (earlier, at), isfront, isback, order, size, more) =
    let first = some-chars n un some in
    let parts = cut-parts n s front back un us (i, j, (earlier, at), isfront, isback, order, size, more) in
    let whole : s ≡ front ++ (n ++ back) = sym (take-append-drop i s) ∙ ap (λ t. take i s ++ t) at.split ∙ ap (λ t. t ++ (n ++ drop j s)) (sym isfront) ∙ ap (λ t. front ++ (n ++ t)) (sym isback) in
    let lacks : (k : ℕ) → k < length front → LacksTextAt n (front ++ (n ++ back)) k = λ k less. subst (λ t. LacksTextAt n t k) whole (earlier k (omega (arith, less, size))) in
    let earliest : Earliest (chars n) (chars front) (chars back) = chars-earliest n front back un parts.0 parts.1 lacks in
    ap (pieces (chars n)) (ap chars whole ∙ chars-three front n back parts.0 un)
    ∙ subst (λ t. pieces t (chars front ++ (t ++ chars back)) ≡ chars front ∷ pieces t (chars back)) (sym first.2)
    (pieces-some first.0 first.1 (chars front) (chars back) (subst (λ t. Earliest t (chars front) (chars back)) first.2 earliest))

pub text-uncut : (n s : List ℕ) → IsUtf8 n → IsUtf8 s → FindsText n s None → pieces (chars n) (chars s) ≡ chars s ∷ []
text-uncut n s un us lacks = pieces-none (chars n) (chars s) (chars-absent n s un us lacks)

-- what is behind a cut is shorter
pub text-shorter : (n s front back : List ℕ) → 0 < length n → SplitsAroundMatch (FindsText n) s front back → length back < length s
text-shorter n s front back some (i, j, (earlier, at), isfront, isback, order, size, more) = omega (arith, some, at.ends, more)

pub cut-says : (n s : List ℕ) (r : Option (Bor (List ℕ) × Bor (List ℕ))) → IsUtf8 n → IsUtf8 s → 0 < length n
    → MatchOption r (FindsText n s None) (λ x. SplitsAroundMatch (FindsText n) s x.0.now x.1.now)
    → MatchOption r (pieces (chars n) (chars s) ≡ chars s ∷ []) (λ x. pieces (chars n) (chars s) ≡ chars x.0.now ∷ pieces (chars n) (chars x.1.now))
cut-says n s None un us some lacks = text-uncut n s un us lacks
cut-says n s (Some x) un us some splits = text-cut n s x.0.now x.1.now un us some splits

pub cut-shorter : (n s : List ℕ) (r : Option (Bor (List ℕ) × Bor (List ℕ))) → 0 < length n
    → MatchOption r (FindsText n s None) (λ x. SplitsAroundMatch (FindsText n) s x.0.now x.1.now) → IfSome r (λ x. length x.1.now < length s)
cut-shorter n s None some lacks = tt
cut-shorter n s (Some x) some splits = text-shorter n s x.0.now x.1.now some splits

-- a text has no more characters than bytes
pub fewer-chars : (s : List ℕ) → IsUtf8 s → length (chars s) ≤ length s
fewer-chars s us = omega (arith, length-le-encodes (chars s), ap length (encodes-chars s us))

pub place-is : (n s : List ℕ) (i : ℕ) → IsUtf8 n → IsUtf8 s → MatchBeginsAt (FindsText n) s i → length (chars (take i s)) + 1 ≡ place_of (first_place (chars n) (chars s))
place-is n s i un us at =
    let is : first_place (chars n) (chars s) ≡ Some (length (chars (take i s))) = text-place n s (Some i) un us at in
    rw is (omega arith)

pub place-isnt : (n s : List ℕ) → IsUtf8 n → IsUtf8 s → FindsText n s None → 0 ≡ place_of (first_place (chars n) (chars s))
place-isnt n s un us lacks =
    let is : first_place (chars n) (chars s) ≡ None = text-place n s None un us lacks in
    rw is refl

pub cut-utf8 : (n s : List ℕ) (r : Option (Bor (List ℕ) × Bor (List ℕ))) → IsUtf8 n → IsUtf8 s
    → MatchOption r (FindsText n s None) (λ x. SplitsAroundMatch (FindsText n) s x.0.now x.1.now) → IfSome r (λ x. IsUtf8 x.0.now × IsUtf8 x.1.now)
cut-utf8 n s None un us lacks = tt
cut-utf8 n s (Some x) un us splits = cut-parts n s x.0.now x.1.now un us splits
