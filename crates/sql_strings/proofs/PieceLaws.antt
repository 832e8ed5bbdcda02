-- One more piece of a text that is put together.
use Rattle.std.proofs.Common.{◌≡◌, ℕ, zero, suc, ◌-◌, ◌<◌, Bool, true, false, List, [], ◌∷◌, ◌++◌, length, reverse, map, if◌then◌else◌, refl, ap, sym, ◌∙◌, arith, append_assoc}
use Rattle.std.specs.Char.{encode_utf8}
use Rattle.std.specs.Str.{IsUtf8, chars, encode_utf8_all}
use Rattle.std.proofs.lemmas.Str.{encodes-append, encodes-chars, chars-nil}
use Rattle.std.proofs.lemmas.List.{append-nil, reverse-append}
use Rattle.sql_types.specs.declared.value.Value.{Value}
use Rattle.sql_strings.specs.Texts.{begins_with, put_before, pieces_behind, pieces, singles, split_text, joined_by, continued_by, replaced}
use Rattle.sql_strings.specs.Rows.{string}
use Rattle.sql_strings.proofs.CharLaws.{some-chars, chars-none}

-- there is a first piece
put-some : (x : ℕ) (ps : List (List ℕ)) → (p : List ℕ) × (more : List (List ℕ)) × (put_before x ps ≡ p ∷ more)
put-some x [] = (x ∷ [], [], refl)
put-some x (p ∷ ps) = (x ∷ p, ps, refl)

pieces-cons : (separator : List ℕ) (skip : ℕ) (xs : List ℕ) → (p : List ℕ) × (more : List (List ℕ)) × (pieces_behind separator skip xs ≡ p ∷ more)
pieces-cons separator skip [] = ([], [], refl)
pieces-cons separator (suc skip) (x ∷ xs) = pieces-cons separator skip xs
pieces-cons separator zero (x ∷ xs) = by (begins_with separator (x ∷ xs)) (pieces_behind separator (length separator - 1) xs) (pieces_behind separator zero xs)
  where
    by : (b : Bool) (here later : List (List ℕ)) → (p : List ℕ) × (more : List (List ℕ)) × ((if b then [] ∷ here else put_before x later) ≡ p ∷ more)
    by true here later = ([], here, refl)
    by false here later = put-some x later

continued : (between : List ℕ) (ps : List (List ℕ)) (p : List ℕ) (more : List (List ℕ)) → ps ≡ p ∷ more → continued_by between ps ≡ between ++ joined_by between ps
continued between ps p more is = ap (continued_by between) is ∙ append_assoc between p (continued_by between more) ∙ ap (λ t. between ++ joined_by between t) (sym is)

joined-cut : (between piece separator xs : List ℕ) → joined_by between (piece ∷ pieces separator xs) ≡ piece ++ (between ++ joined_by between (pieces separator xs))
joined-cut between piece separator xs =
    let first = pieces-cons separator 0 xs in
    ap (λ t. piece ++ t) (continued between (pieces separator xs) first.0 first.1 first.2)

-- ---- REPLACE

pub bytes-replaced : (made piece new old rest behind whole : List ℕ) → pieces old rest ≡ piece ∷ pieces old behind → made ++ joined_by new (pieces old rest) ≡ whole
    → ((made ++ piece) ++ new) ++ joined_by new (pieces old behind) ≡ whole
bytes-replaced made piece new old rest behind whole cut so_far =
    append_assoc (made ++ piece) new (joined_by new (pieces old behind)) ∙ append_assoc made piece (new ++ joined_by new (pieces old behind))
    ∙ ap (λ t. made ++ t) (sym (joined-cut new piece old behind) ∙ ap (joined_by new) (sym cut)) ∙ so_far

pub bytes-replaced-first : (new old xs : List ℕ) → 0 < length old → joined_by new (pieces old xs) ≡ replaced old new xs
bytes-replaced-first new [] xs some = absurd (omega (arith, some))
bytes-replaced-first new (o ∷ old) xs some = refl

pub text-replaced : (made piece new old rest behind whole : List ℕ) → IsUtf8 piece → IsUtf8 new → pieces (chars old) (chars rest) ≡ chars piece ∷ pieces (chars old) (chars behind)
    → made ++ encode_utf8_all (joined_by (chars new) (pieces (chars old) (chars rest))) ≡ whole
    → ((made ++ piece) ++ new) ++ encode_utf8_all (joined_by (chars new) (pieces (chars old) (chars behind))) ≡ whole
text-replaced made piece new old rest behind whole up un cut so_far =
    let more = joined_by (chars new) (pieces (chars old) (chars behind)) in
    append_assoc (made ++ piece) new (encode_utf8_all more) ∙ append_assoc made piece (new ++ encode_utf8_all more)
    ∙ ap (λ t. made ++ t)
    (ap (λ t. piece ++ (t ++ encode_utf8_all more)) (sym (encodes-chars new un)) ∙ ap (λ t. t ++ (encode_utf8_all (chars new) ++ encode_utf8_all more)) (sym (encodes-chars piece up))
    ∙ ap (λ t. encode_utf8_all (chars piece) ++ t) (sym (encodes-append (chars new) more)) ∙ sym (encodes-append (chars piece) (chars new ++ more))
    ∙ ap encode_utf8_all (sym (joined-cut (chars new) (chars piece) (chars old) (chars behind)) ∙ ap (joined_by (chars new)) (sym cut)))
    ∙ so_far

pub text-replaced-last : (made new old rest whole : List ℕ) → IsUtf8 rest → pieces (chars old) (chars rest) ≡ chars rest ∷ []
    → made ++ encode_utf8_all (joined_by (chars new) (pieces (chars old) (chars rest))) ≡ whole → made ++ rest ≡ whole
text-replaced-last made new old rest whole ur uncut so_far =
    ap (λ t. made ++ t) (sym (encodes-chars rest ur) ∙ ap encode_utf8_all (sym (append-nil (chars rest)) ∙ ap (joined_by (chars new)) (sym uncut))) ∙ so_far

pub text-replaced-first : (new old text : List ℕ) → IsUtf8 old → 0 < length old
    → encode_utf8_all (joined_by (chars new) (pieces (chars old) (chars text))) ≡ encode_utf8_all (replaced (chars old) (chars new) (chars text))
text-replaced-first new old text uo some =
    let first = some-chars old uo some in
    let size : 0 < length (chars old) = omega (arith, ap length first.2) in
    ap encode_utf8_all (bytes-replaced-first (chars new) (chars old) (chars text) size)

pub text-unreplaced : (new old text : List ℕ) → IsUtf8 text → length old ≡ 0 → text ≡ encode_utf8_all (replaced (chars old) (chars new) (chars text))
text-unreplaced new [] text ut none = rw chars-nil (sym (encodes-chars text ut))
text-unreplaced new (o ∷ old) text ut none = absurd (omega (arith, none))

-- ---- REVERSE

pub text-reversed : (made : List ℕ) (last : ℕ) (rest before whole : List ℕ) → chars rest ≡ chars before ++ last ∷ []
    → made ++ encode_utf8_all (reverse (chars rest)) ≡ whole → (made ++ encode_utf8 last) ++ encode_utf8_all (reverse (chars before)) ≡ whole
text-reversed made last rest before whole is so_far =
    append_assoc made (encode_utf8 last) (encode_utf8_all (reverse (chars before)))
    ∙ ap (λ t. made ++ encode_utf8_all t) (sym (reverse-append (chars before) (last ∷ [])) ∙ ap reverse (sym is)) ∙ so_far

pub text-reversed-last : (made rest whole : List ℕ) → chars rest ≡ [] → made ++ encode_utf8_all (reverse (chars rest)) ≡ whole → made ≡ whole
text-reversed-last made rest whole none so_far = sym (append-nil made) ∙ ap (λ t. made ++ encode_utf8_all (reverse t)) (sym none) ∙ so_far

-- ---- SPLIT

pub one-single : (made now : List Value) (c : ℕ) (rest behind : List ℕ) (whole : List Value) → chars rest ≡ c ∷ chars behind → now ≡ made ++ string (c ∷ []) ∷ []
    → made ++ map string (singles (chars rest)) ≡ whole → now ++ map string (singles (chars behind)) ≡ whole
one-single made now c rest behind whole first push so_far =
    ap (λ t. t ++ map string (singles (chars behind))) push ∙ append_assoc made (string (c ∷ []) ∷ []) (map string (singles (chars behind)))
    ∙ ap (λ t. made ++ map string (singles t)) (sym first) ∙ so_far

pub last-single : (made : List Value) (rest : List ℕ) (whole : List Value) → chars rest ≡ [] → made ++ map string (singles (chars rest)) ≡ whole → made ≡ whole
last-single made rest whole none so_far = sym (append-nil made) ∙ ap (λ t. made ++ map string (singles t)) (sym none) ∙ so_far

pub one-piece : (made now : List Value) (piece separator rest behind : List ℕ) (whole : List Value) → pieces (chars separator) (chars rest) ≡ chars piece ∷ pieces (chars separator) (chars behind)
    → now ≡ made ++ string (chars piece) ∷ [] → made ++ map string (pieces (chars separator) (chars rest)) ≡ whole → now ++ map string (pieces (chars separator) (chars behind)) ≡ whole
one-piece made now piece separator rest behind whole cut push so_far =
    ap (λ t. t ++ map string (pieces (chars separator) (chars behind))) push ∙ append_assoc made (string (chars piece) ∷ []) (map string (pieces (chars separator) (chars behind)))
    ∙ ap (λ t. made ++ map string t) (sym cut) ∙ so_far

pub last-piece : (made now : List Value) (separator rest : List ℕ) (whole : List Value) → pieces (chars separator) (chars rest) ≡ chars rest ∷ []
    → now ≡ made ++ string (chars rest) ∷ [] → made ++ map string (pieces (chars separator) (chars rest)) ≡ whole → now ≡ whole
last-piece made now separator rest whole uncut push so_far = push ∙ ap (λ t. made ++ map string t) (sym uncut) ∙ so_far

pub split-empty : (separator text : List ℕ) → length text ≡ 0 → string (chars text) ∷ [] ≡ map string (split_text (chars separator) (chars text))
split-empty separator text none = rw (chars-none text none) refl

pub split-singles : (separator text : List ℕ) → IsUtf8 text → length separator ≡ 0 → 0 < length text → map string (singles (chars text)) ≡ map string (split_text (chars separator) (chars text))
split-singles separator text ut none some =
    let first = some-chars text ut some in
    rw (chars-none separator none, first.2) refl

pub split-pieces : (separator text : List ℕ) → IsUtf8 separator → IsUtf8 text → 0 < length separator → 0 < length text
    → map string (pieces (chars separator) (chars text)) ≡ map string (split_text (chars separator) (chars text))
split-pieces separator text us ut parts some =
    let first = some-chars text ut some in
    let start = some-chars separator us parts in
    rw (start.2, first.2) refl
