-- Among the words that are left there is the name exactly where it is among all of them.
use Rattle.std.proofs.Common.{◌≡◌, length, map}
use Rattle.sql_catalog.specs.Names.{has_name}
use Rattle.sql_catalog.proofs.built_in.has_name.Given as goal

abbrev pub invariant-words : goal.invariant-words
invariant-words l = has_name (map (λ word. word.now) l.words) l.name ≡ has_name (map (λ word. word.now) l.initial.words) l.name

abbrev pub decreases-words : goal.decreases-words
decreases-words l = length l.words
