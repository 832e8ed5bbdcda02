-- Worked examples of the definitions, by computation.
use Rattle.std.proofs.Common.{◌≡◌, refl, pos, negsuc, true, [], ◌∷◌, Some, Ok, Err, codes}
use denote.Hole.Carrier.{out}
use Rattle.std.specs.Str.{chars}
use Rattle.sql_types.specs.declared.value.Value.{out-Value}
use Rattle.sql_types.specs.declared.value.Value.TheVariants as value
use Rattle.sql_types.specs.declared.fault.FaultKind.TheVariants as fault
use Rattle.sql_strings.specs.Texts.{part_at, from_place, first_place, place_of, split_text, replaced, drop_front, drop_back, stands_in}
use Rattle.sql_strings.specs.Patterns.{like}
use Rattle.sql_strings.specs.Hex.{from_hex}
use Rattle.sql_strings.specs.Rows.{string_kind, apply_substr, apply_length, apply_repeat}

-- SUBSTR('abc', -5, 2) begins at the first character
before_the_start : part_at (negsuc 4) 2 (codes "abc") ≡ codes "ab"
before_the_start = refl

from_the_end : from_place (negsuc 1) (codes "abc") ≡ codes "bc"
from_the_end = refl

-- SUBSTR('abc', 100, -1)
negative_length : apply_substr string_kind (value.Text (codes "abc") ∷ value.Int (pos 100) ∷ value.Int (negsuc 0) ∷ []) ≡ Err fault.Argument
unfolding out-Value out chars
negative_length = refl

-- a NULL comes before the fault
null_first : apply_substr string_kind (value.Text (codes "a") ∷ value.Null ∷ value.Int (negsuc 0) ∷ []) ≡ Ok value.Null
unfolding out-Value out chars
null_first = refl

-- LENGTH('é') is 1
in_characters : apply_length string_kind (value.Text (195 ∷ 169 ∷ []) ∷ []) ≡ Ok (value.Int (pos 1))
unfolding out-Value out chars
in_characters = refl

empty_is_found_first : place_of (first_place [] (codes "ab")) ≡ 1
empty_is_found_first = refl

-- SPLIT('aaa', 'aa')
pieces_from_the_left : split_text (codes "aa") (codes "aaa") ≡ [] ∷ codes "a" ∷ []
pieces_from_the_left = refl

-- REPLACE('aa', 'a', 'aa') doesn't look into what it wrote
each_once : replaced (codes "a") (codes "aa") (codes "aa") ≡ codes "aaaa"
each_once = refl

-- FROM_HEX('abc')
odd_digits : from_hex (codes "abc") ≡ Some (10 ∷ 188 ∷ [])
odd_digits = refl

-- 'ab' LIKE 'a%', 'zzz' LIKE 'a\'
any_text_matches : like (codes "ab") (codes "a%") ≡ Ok true
any_text_matches = refl

nothing_to_escape : like (codes "zzz") (97 ∷ 92 ∷ []) ≡ Err fault.Pattern
nothing_to_escape = refl

-- a `%` takes as much as is needed, and a backslash makes it stand for itself
tried_again : like (codes "aaab") (codes "%ab") ≡ Ok true
tried_again = refl

escaped : like (codes "a%b") (97 ∷ 92 ∷ 37 ∷ 98 ∷ []) ≡ Ok true
escaped = refl

-- SPLIT('', '') is one empty piece
one_empty_piece : split_text [] [] ≡ [] ∷ []
one_empty_piece = refl

-- TRIM('xax', 'x')
both_ends : drop_back (stands_in (codes "x")) (drop_front (stands_in (codes "x")) (codes "xax")) ≡ codes "a"
both_ends = refl

-- REPEAT('', -1)
negative_times : apply_repeat value.Text (value.Text [] ∷ value.Int (negsuc 0) ∷ []) ≡ Err fault.Argument
unfolding out-Value out
negative_times = refl
