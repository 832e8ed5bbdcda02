-- What an accumulator is seen as: a call, and the lists of arguments that were added.
use Rattle.std.specs.Prelude.{List, refl}
use Rattle.std.specs.Coded.{Coded, code_by, coded×, coded_list}
use Rattle.sql_types.specs.declared.value.Value.{Value}
use Rattle.sql_types.specs.contracts.value.Value as value_row
use Rattle.sql_aggregates.specs.declared.call.AggCall.{AggCall}
use Rattle.sql_aggregates.specs.contracts.call.AggCall as call_row

pub record Accumulated : Type 0 where
  pub call : AggCall
  pub added : List (List Value)

-- stored as the pair of its fields
abbrev pub accumulated_code : Coded Accumulated
accumulated_code =
    code_by (AggCall × List (List Value)) (coded× call_row.the_row.coded (coded_list (coded_list value_row.the_row.coded))) (λ a. (a.call, a.added)) (λ p. record { call = p.0; added = p.1 }) (λ _. refl)
