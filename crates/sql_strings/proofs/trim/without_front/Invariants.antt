-- The rest trimmed is the text trimmed.
use Rattle.std.proofs.Common.{◌≡◌, length}
use Rattle.std.specs.Str.{chars}
use denote.Shadow.{shadow}
use denote.Text.{Utf8}
use Rattle.sql_strings.specs.Texts.{drop_front, stands_in}
use Rattle.sql_strings.proofs.trim.without_front.Given as goal

abbrev pub invariant-loop-first : goal.invariant-loop-first
invariant-loop-first l = record {
  so_far : drop_front (stands_in (chars l.set)) (chars l.rest) ≡ drop_front (stands_in (chars l.set)) (chars l.text);
  utf8 : shadow (Utf8 l.rest);
}

abbrev pub decreases-loop-first : goal.decreases-loop-first
decreases-loop-first l = length l.rest
