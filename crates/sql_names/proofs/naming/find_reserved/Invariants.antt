use Rattle.std.proofs.Common.{◌≡◌, length, map}
use Rattle.sql_names.specs.Words.{find_word}
use Rattle.sql_names.proofs.naming.find_reserved.Given as goal

abbrev pub invariant-entries : goal.invariant-entries
invariant-entries l = find_word (map (λ e. (e.0.now, e.1)) l.table) l.letters ≡ find_word (map (λ e. (e.0.now, e.1)) l.initial.table) l.letters

abbrev pub decreases-entries : goal.decreases-entries
decreases-entries l = length l.table
