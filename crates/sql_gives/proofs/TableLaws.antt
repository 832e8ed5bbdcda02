-- Each row of the table is sound, so what a call answers fits the type that its row gives.
use Rattle.std.proofs.Common.{◌≡◌, true, List, drop, Ok, sym, subst}
use Rattle.sql_types.specs.declared.sql_type.SqlType.{SqlType}
use Rattle.sql_types.specs.declared.sql_type.SqlType.TheVariants as ty
use Rattle.sql_types.specs.declared.value.Value.{Value}
use Rattle.sql_types.specs.Fits.{fits}
use Rattle.sql_builtins.specs.declared.sig.SigId.{SigId}
use Rattle.sql_builtins.specs.Applies.{apply}
use Rattle.sql_builtins.specs.Asks.{Asks}
use Rattle.sql_builtins.specs.Choices.{slot_type}
use Rattle.sql_builtins.specs.Fitting.{Fitting}
use Rattle.sql_builtins.specs.Table.{functions, aggregates, signatures}
use Rattle.sql_builtins.proofs.FittingLaws.{asks}
use Rattle.sql_gives.proofs.AggregateTable.{aggregate_rows}
use Rattle.sql_gives.proofs.ArrayTable.{array_rows}
use Rattle.sql_gives.proofs.ChoiceTable.{choice_rows}
use Rattle.sql_gives.proofs.GivesLaws.{Gives}
use Rattle.sql_gives.proofs.IntegerTable.{integer_rows}
use Rattle.sql_gives.proofs.OperatorTable.{operator_rows}
use Rattle.sql_gives.proofs.Placed.{Placed}
use Rattle.sql_gives.proofs.Sound.{AllSound, in_parts, all_rows, sound_listed}
use Rattle.sql_gives.proofs.TextTable.{text_rows}

function_rows : AllSound functions
function_rows =
    in_parts 21 functions integer_rows (in_parts 19 (drop 21 functions) operator_rows (in_parts 22 (drop 40 functions) choice_rows (in_parts 27 (drop 62 functions) text_rows array_rows)))

each_row : AllSound signatures
each_row = all_rows functions aggregates function_rows aggregate_rows

pub fitting_gives : (sig : SigId) (gives : SqlType) (values : List Value) → Fitting sig gives values → Gives gives (apply sig values)
fitting_gives sig gives values f =
    let placed : Placed f.row.repeats f.row.takes values = record { common = f.common; element = f.element; owns = f.owns; slots = f.slots; placed = f.placed; fit = f.fit } in
    let own : Asks f.row.sig values = subst (λ s. Asks s values) (sym f.same) (asks sig gives values f) in
    let given : Gives (slot_type f.common f.element ty.Int64 f.row.gives) (apply f.row.sig values) = sound_listed signatures f.row each_row f.listed values placed own in
    subst (λ g. Gives g (apply sig values)) (sym f.gives_type) (subst (λ s. Gives (slot_type f.common f.element ty.Int64 f.row.gives) (apply s values)) f.same given)

pub answer_fits : (sig : SigId) (gives : SqlType) (values : List Value) (answer : Value) → Fitting sig gives values → apply sig values ≡ Ok answer → fits gives answer ≡ true
answer_fits sig gives values answer f is = subst (Gives gives) is (fitting_gives sig gives values f)
