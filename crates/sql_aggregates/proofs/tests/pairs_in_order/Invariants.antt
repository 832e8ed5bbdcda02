-- Each list so far is two numbers.
use Rattle.std.proofs.Common.{◌≡◌, [], ◌∷◌, false, length}
use Rattle.sql_types.specs.declared.sql_type.SqlType.TheVariants as ty
use Rattle.sql_aggregates.specs.declared.call.AggName.TheVariants as name
use Rattle.sql_aggregates.specs.Calls.{places_from}
use Rattle.sql_aggregates.proofs.TestLaws.{AllFit}
use Rattle.sql_aggregates.proofs.tests.pairs_in_order.Given as goal

abbrev pub invariant-loop-x : goal.invariant-loop-x
invariant-loop-x g l = record {
  named : l.accumulator.call.name ≡ name.ArrayAgg;
  plain : l.accumulator.call.distinct ≡ false;
  one : length l.accumulator.call.order ≡ 1;
  places : places_from 1 l.accumulator.call.order;
  fit : AllFit (ty.Int64 ∷ ty.Int64 ∷ []) l.accumulator.added;
}
