-- What the entries left say, all entries say.
use Rattle.std.proofs.Common.{◌≡◌, length, map}
use Rattle.sql_ast.specs.Marks.{same_reserved}
use Rattle.sql_ast.specs.Pieces.{spelled_by}
use Rattle.sql_print.proofs.spelled.find_reserved.Given as goal

abbrev pub invariant-entries : goal.invariant-entries
invariant-entries l = spelled_by same_reserved (map (λ e. (e.0.now, e.1)) l.table) l.word ≡ spelled_by same_reserved (map (λ e. (e.0.now, e.1)) l.initial.table) l.word

abbrev pub decreases-entries : goal.decreases-entries
decreases-entries l = length l.table
