-- What is left to be taken from the rest is what was to be taken from the text.
use Rattle.std.proofs.Common.{◌≡◌, ℕ, List, ◌++◌, drop}
use Rattle.std.specs.Str.{chars}
use denote.Shadow.{shadow}
use denote.Text.{Utf8}
use Rattle.sql_strings.proofs.characters.without_first.Given as goal

abbrev pub invariant-loop-left : goal.invariant-loop-left
invariant-loop-left l = record {
  left : drop l.left (chars l.rest) ≡ drop l.count (chars l.text);
  behind : (front : List ℕ) × (l.text ≡ front ++ l.rest);
  utf8 : shadow (Utf8 l.rest);
}

abbrev pub decreases-loop-left : goal.decreases-loop-left
decreases-loop-left l = l.left
