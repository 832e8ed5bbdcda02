-- The best so far, before the rows left, is the best of all.
use Rattle.std.proofs.Common.{◌≡◌, true, map, drop}
use Rattle.std.specs.List.{filter_map, list_all}
use Rattle.sql_builtins.specs.Choices.{applied, cheapest, rows_of}
use Rattle.sql_builtins.specs.Seen.{seen}
use Rattle.sql_builtins.specs.Steps.{cheapest_behind, ends_open}
use Rattle.sql_builtins.proofs.choosing.best_row.Given as goal

abbrev pub invariant-loop-row : goal.invariant-loop-row
invariant-loop-row l = record {
  ends : list_all (λ row. ends_open row.takes) (map seen (drop l.row-index l.rows)) ≡ true;
  same : cheapest_behind l.best (filter_map (applied l.arguments) (rows_of l.name (map seen (drop l.row-index l.rows)))) ≡ cheapest (filter_map (applied l.arguments) (rows_of l.name (map seen l.rows)));
}
