-- What is made so far, and the rest turned round, is the whole text turned round.
use Rattle.std.proofs.Common.{◌≡◌, ◌++◌, length, reverse}
use Rattle.std.specs.String.{string_bytes}
use Rattle.std.specs.Str.{chars, encode_utf8_all}
use denote.Shadow.{shadow}
use denote.Text.{Utf8}
use Rattle.sql_strings.proofs.reverse.reversed_text.Given as goal

abbrev pub invariant-loop-before : goal.invariant-loop-before
invariant-loop-before l = record {
  so_far : string_bytes l.made ++ encode_utf8_all (reverse (chars l.rest)) ≡ encode_utf8_all (reverse (chars l.text));
  utf8 : shadow (Utf8 l.rest);
}

abbrev pub decreases-loop-before : goal.decreases-loop-before
decreases-loop-before l = length l.rest
