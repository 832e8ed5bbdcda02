-- The pieces so far, and those of the rest, are all the pieces.
use Rattle.std.proofs.Common.{◌≡◌, ◌++◌, length, map}
use Rattle.std.specs.Str.{chars}
use denote.Shadow.{shadow}
use denote.Text.{Utf8}
use Rattle.sql_strings.specs.Texts as texts
use Rattle.sql_strings.specs.Rows.{string}
use Rattle.sql_strings.proofs.split.pieces.Given as goal

abbrev pub invariant-loop-piece : goal.invariant-loop-piece
invariant-loop-piece l = record {
  so_far : l.made ++ map string (texts.pieces (chars l.separator) (chars l.rest)) ≡ map string (texts.pieces (chars l.separator) (chars l.text));
  utf8 : shadow (Utf8 l.rest);
}

abbrev pub decreases-loop-piece : goal.decreases-loop-piece
decreases-loop-piece l = length l.rest
