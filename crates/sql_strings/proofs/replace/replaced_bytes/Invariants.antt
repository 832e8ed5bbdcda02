-- What is made so far, and what comes of the rest, is the whole answer.
use Rattle.std.proofs.Common.{◌≡◌, ◌++◌, length}
use Rattle.sql_strings.specs.Texts.{joined_by, pieces, replaced}
use Rattle.sql_strings.proofs.replace.replaced_bytes.Given as goal

abbrev pub invariant-loop-piece : goal.invariant-loop-piece
invariant-loop-piece l = l.made.items ++ joined_by l.new (pieces l.old l.rest) ≡ replaced l.old l.new l.content

abbrev pub decreases-loop-piece : goal.decreases-loop-piece
decreases-loop-piece l = length l.rest
