use Rattle.std.proofs.Common.{◌+◌, ◌-◌, ◌*◌, ◌^◌}
use Rattle.parse_query.proofs.descent.+descent.Given as goal

abbrev pub decreases-expr_at : goal.decreases-expr_at
decreases-expr_at l = 2 * (2 ^ 64 - l.at)

abbrev pub decreases-query_at : goal.decreases-query_at
decreases-query_at l = 2 * (2 ^ 64 - l.at)

abbrev pub decreases-expr_at-inner : goal.decreases-expr_at-inner
decreases-expr_at-inner l = 2 * (2 ^ 64 - l.place) + 1

abbrev pub decreases-expr_at-query : goal.decreases-expr_at-query
decreases-expr_at-query l = 2 * (2 ^ 64 - l.place) + 1

abbrev pub decreases-query_at-inner : goal.decreases-query_at-inner
decreases-query_at-inner l = 2 * (2 ^ 64 - l.place) + 1

abbrev pub decreases-query_at-query : goal.decreases-query_at-query
decreases-query_at-query l = 2 * (2 ^ 64 - l.place) + 1
