-- What the entries left say, all entries say.
use Rattle.std.proofs.Common.{◌≡◌, length, map}
use Rattle.sql_ast.specs.Marks.{same_sign}
use Rattle.sql_ast.specs.Pieces.{spelled_by}
use Rattle.sql_print.proofs.spelled.find_sign.Given as goal

abbrev pub invariant-entries : goal.invariant-entries
invariant-entries l = spelled_by same_sign (map (λ e. (e.0.now, e.1)) l.table) l.sign ≡ spelled_by same_sign (map (λ e. (e.0.now, e.1)) l.initial.table) l.sign

abbrev pub decreases-entries : goal.decreases-entries
decreases-entries l = length l.table
