-- What is left in stages is what a call goes over, and the answer for it is permitted.
use Rattle.std.proofs.Common.{◌≡◌, List, length, Ok, Err, subst}
use Rattle.sql_types.specs.declared.value.Value.{Value}
use Rattle.sql_types.specs.declared.fault.CallFault.{CallFault}
use Rattle.sql_types.specs.declared.fault.CallFault.TheVariants.{Fault, OutOfMemory}
use Rattle.sql_types.specs.Arranged.{Arranged}
use Rattle.sql_types.specs.Outcome.{Answers, just}
use Rattle.std.specs.Prelude.{Result}
use Rattle.std.specs.List.{Contains}
use Rattle.sql_aggregates.specs.declared.call.AggCall.{AggCall}
use Rattle.sql_aggregates.specs.Lists.{skips, kept, Chosen, limited, GoesOver}
use Rattle.sql_aggregates.specs.Aggregates.{answer, AggMeans}
use Rattle.sql_aggregates.specs.Calls.{AllAddable}
use Rattle.sql_aggregates.specs.Sortable.{Sortable}
use Rattle.sql_aggregates.proofs.ChoosingLaws.{in_kept, in_chosen}
use Rattle.sql_aggregates.proofs.AddableLaws.{addable_among, sortable}

-- what DISTINCT leaves can be put in order
pub still_sortable : (call : AggCall) (lists left some : List (List Value)) → AllAddable call lists → left ≡ kept (skips call.name call.ignore_nulls) lists → Chosen call.distinct left some → Sortable call.order some
still_sortable call lists left some addable is chosen =
    sortable call some
    (addable_among call lists some addable (λ x c. in_kept (skips call.name call.ignore_nulls) lists x (subst (λ all. Contains all x) is (in_chosen call.distinct left some x chosen c))))

pub goes_over_stages : (call : AggCall) (lists left some ordered list : List (List Value)) → left ≡ kept (skips call.name call.ignore_nulls) lists → Chosen call.distinct left some → Arranged call.order some ordered → list ≡ limited call.limit ordered → GoesOver call lists list
goes_over_stages call lists left some ordered list is chosen arranged limited_is = record {
  some = some;
  chosen = subst (λ all. Chosen call.distinct all some) is chosen;
  ordered = ordered;
  arranged = arranged;
  is = limited_is;
}

pub means : (call : AggCall) (added list : List (List Value)) (result : Result Value CallFault) → GoesOver call added list → Answers (just (answer call.name (length call.order) list)) result → Answers (AggMeans call added) result
means call added list (Ok x) over given = (list, over, given)
means call added list (Err (Fault fault)) over given = (list, over, given)
means call added list (Err OutOfMemory) over given = tt
