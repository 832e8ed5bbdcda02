-- The rest trimmed is the text trimmed.
use Rattle.std.proofs.Common.{◌≡◌, length}
use Rattle.std.specs.Str.{chars}
use denote.Shadow.{shadow}
use denote.Text.{Utf8}
use Rattle.sql_strings.specs.Texts.{drop_back, stands_in}
use Rattle.sql_strings.proofs.trim.without_back.Given as goal

abbrev pub invariant-loop-before : goal.invariant-loop-before
invariant-loop-before l = record {
  so_far : drop_back (stands_in (chars l.set)) (chars l.rest) ≡ drop_back (stands_in (chars l.set)) (chars l.text);
  utf8 : shadow (Utf8 l.rest);
}

abbrev pub decreases-loop-before : goal.decreases-loop-before
decreases-loop-before l = length l.rest
