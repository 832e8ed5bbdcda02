-- What is made so far, and what comes of the rest, is the whole answer.
use Rattle.std.proofs.Common.{◌≡◌, ◌++◌, length}
use Rattle.std.specs.String.{string_bytes}
use Rattle.std.specs.Str.{chars, encode_utf8_all}
use denote.Shadow.{shadow}
use denote.Text.{Utf8}
use Rattle.sql_strings.specs.Texts.{joined_by, pieces, replaced}
use Rattle.sql_strings.proofs.replace.replaced_text.Given as goal

abbrev pub invariant-loop-piece : goal.invariant-loop-piece
invariant-loop-piece l = record {
  so_far : string_bytes l.made ++ encode_utf8_all (joined_by (chars l.new) (pieces (chars l.old) (chars l.rest))) ≡ encode_utf8_all (replaced (chars l.old) (chars l.new) (chars l.text));
  utf8 : shadow (Utf8 l.rest);
}

abbrev pub decreases-loop-piece : goal.decreases-loop-piece
decreases-loop-piece l = length l.rest
