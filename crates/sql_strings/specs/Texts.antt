-- Functions on texts. A text is a list of symbols: of a STRING its characters, each one code point, and of a BYTES its bytes.
use Rattle.std.specs.Prelude.{ℕ, zero, suc, ◌-◌, ℤ, pos, negsuc, Bool, true, false, ◌==◌, ◌&&◌, if◌then◌else◌, List, [], ◌∷◌, ◌++◌, length, reverse, take, drop, Option, None, Some}
use Rattle.std.specs.List.{list_any}

-- ---- parts

-- How many symbols stand before the part that SUBSTR begins. Places count from 1, negative ones from the end; 0, or a place
-- before the start, is the first.
abbrev pub before_place : ℕ → ℤ → ℕ
before_place n (pos zero) = 0
before_place n (pos (suc k)) = k
before_place n (negsuc k) = n - suc k

-- the symbols from a place on; past the end there are none
abbrev pub from_place : ℤ → List ℕ → List ℕ
from_place place xs = drop (before_place (length xs) place) xs

-- at most so many of them
abbrev pub part_at : ℤ → ℕ → List ℕ → List ℕ
part_at place count xs = take count (from_place place xs)

-- ---- search

-- the text begins with this part
abbrev pub begins_with : List ℕ → List ℕ → Bool
begins_with [] xs = true
begins_with (p ∷ ps) [] = false
begins_with (p ∷ ps) (x ∷ xs) = p == x && begins_with ps xs

-- the text ends with this part
abbrev pub ends_with : List ℕ → List ℕ → Bool
ends_with part xs = begins_with (reverse part) (reverse xs)

abbrev pub next_place : Option ℕ → Option ℕ
next_place None = None
next_place (Some k) = Some (suc k)

-- how many symbols stand before the first place at which the part stands
abbrev pub first_place : List ℕ → List ℕ → Option ℕ
first_place part [] = if begins_with part [] then Some 0 else None
first_place part (x ∷ xs) = if begins_with part (x ∷ xs) then Some 0 else next_place (first_place part xs)

-- the first place of a part, from 1, and 0 where it stands nowhere
abbrev pub place_of : Option ℕ → ℕ
place_of None = 0
place_of (Some k) = suc k

-- ---- pieces

abbrev pub put_before : ℕ → List (List ℕ) → List (List ℕ)
put_before x [] = (x ∷ []) ∷ []
put_before x (piece ∷ pieces) = (x ∷ piece) ∷ pieces

-- The pieces of a text between the places at which a separator stands, found from the left. So many more symbols belong to
-- the separator that was found last.
abbrev pub pieces_behind : List ℕ → ℕ → List ℕ → List (List ℕ)
pieces_behind separator skip [] = [] ∷ []
pieces_behind separator (suc skip) (x ∷ xs) = pieces_behind separator skip xs
pieces_behind separator zero (x ∷ xs) =
    if begins_with separator (x ∷ xs) then [] ∷ pieces_behind separator (length separator - 1) xs
    else put_before x (pieces_behind separator zero xs)

-- the pieces of a text, for a separator that isn't empty
abbrev pub pieces : List ℕ → List ℕ → List (List ℕ)
pieces separator xs = pieces_behind separator 0 xs

-- each symbol alone
abbrev pub singles : List ℕ → List (List ℕ)
singles [] = []
singles (x ∷ xs) = (x ∷ []) ∷ singles xs

-- SPLIT: an empty text is one empty piece, whatever the separator; else an empty separator parts every symbol
abbrev pub split_text : List ℕ → List ℕ → List (List ℕ)
split_text separator [] = [] ∷ []
split_text [] (x ∷ xs) = singles (x ∷ xs)
split_text (s ∷ ss) (x ∷ xs) = pieces (s ∷ ss) (x ∷ xs)

-- ---- joining

-- each piece with the separator before it
abbrev pub continued_by : List ℕ → List (List ℕ) → List ℕ
continued_by separator [] = []
continued_by separator (piece ∷ pieces) = (separator ++ piece) ++ continued_by separator pieces

-- the pieces with the separator between
abbrev pub joined_by : List ℕ → List (List ℕ) → List ℕ
joined_by separator [] = []
joined_by separator (piece ∷ pieces) = piece ++ continued_by separator pieces

-- REPLACE: every place at which the old part stands, found from the left, has the new one; an empty old part leaves the text
abbrev pub replaced : List ℕ → List ℕ → List ℕ → List ℕ
replaced [] new xs = xs
replaced (p ∷ ps) new xs = joined_by new (pieces (p ∷ ps) xs)

-- so many times the text
abbrev pub repeated : ℕ → List ℕ → List ℕ
repeated zero xs = []
repeated (suc n) xs = xs ++ repeated n xs

-- all texts in a row
abbrev pub all_joined : List (List ℕ) → List ℕ
all_joined [] = []
all_joined (xs ∷ more) = xs ++ all_joined more

-- ---- ends

-- without the symbols at the start that are dropped
abbrev pub drop_front : (ℕ → Bool) → List ℕ → List ℕ
drop_front drops [] = []
drop_front drops (x ∷ xs) = if drops x then drop_front drops xs else x ∷ xs

-- without those at the end
abbrev pub drop_back : (ℕ → Bool) → List ℕ → List ℕ
drop_back drops xs = reverse (drop_front drops (reverse xs))

-- the symbol stands in this list
abbrev pub stands_in : List ℕ → ℕ → Bool
stands_in xs x = list_any (λ y. y == x) xs
