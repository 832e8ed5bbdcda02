-- The bytes so far, and those of the digits that are left, are the whole answer.
use Rattle.std.proofs.Common.{◌≡◌, ◌++◌, ◌<◌, length, true}
use Rattle.std.specs.Prelude.{option_map}
use Rattle.std.specs.Str.{chars}
use denote.Shadow.{shadow}
use denote.Text.{Utf8}
use Rattle.sql_strings.specs.Hex.{padded, pairs_of, from_hex}
use Rattle.sql_strings.proofs.hex_digits.from_hex.Given as goal

abbrev pub invariant-loop-rest : goal.invariant-loop-rest
invariant-loop-rest l = record {
  so_far : option_map (λ bytes. l.made ++ bytes) (pairs_of (padded l.is_odd (chars l.rest))) ≡ from_hex (chars l.text);
  odd : l.is_odd ≡ true → 0 < length l.rest;
  utf8 : shadow (Utf8 l.rest);
}

abbrev pub decreases-loop-rest : goal.decreases-loop-rest
decreases-loop-rest l = length l.rest
