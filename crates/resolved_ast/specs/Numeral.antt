-- How the text of a tree writes a number: in decimal, with all its digits. So two numbers have two texts, whatever their size.
use Rattle.std.specs.Prelude.{ℕ, ◌+◌, ◌==◌, if◌then◌else◌, List, map, codes}
use Rattle.std.specs.Int.Digits.{digits_of}

unfoldable pub numeral : ℕ → List ℕ
numeral n = if n == 0 then codes "0" else map (λ d. 48 + d) (digits_of 10 n)
