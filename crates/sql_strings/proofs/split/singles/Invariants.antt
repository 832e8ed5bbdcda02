-- The pieces so far, and those of the rest, are all the pieces.
use Rattle.std.proofs.Common.{◌≡◌, ◌++◌, length, map}
use Rattle.std.specs.Str.{chars}
use denote.Shadow.{shadow}
use denote.Text.{Utf8}
use Rattle.sql_strings.specs.Texts as texts
use Rattle.sql_strings.specs.Rows.{string}
use Rattle.sql_strings.proofs.split.singles.Given as goal

abbrev pub invariant-loop-character : goal.invariant-loop-character
invariant-loop-character l = record {
  so_far : l.made ++ map string (texts.singles (chars l.rest)) ≡ map string (texts.singles (chars l.text));
  utf8 : shadow (Utf8 l.rest);
}

abbrev pub decreases-loop-character : goal.decreases-loop-character
decreases-loop-character l = length l.rest
