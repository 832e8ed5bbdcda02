-- Each pair that passes is a row.
use Rattle.std.proofs.Common.{refl, ap}
use Rattle.sql_types.specs.declared.sql_type.SqlType.TheVariants as ty
use Rattle.sql_aggregates.specs.Calls.{is_array, takes_any, takes_one, takes_least, takes_greatest, takes_truths, takes_and, takes_or, takes_texts, takes_elements}
use Rattle.sql_aggregates.proofs.TestLaws.{took, took_sum, int_orders}
use Rattle.sql_aggregates.proofs.tests.takes.Goals as goal

pub returns-in-Count : goal.returns-in-Count
returns-in-Count c = took c.args.name _ c.args.ty.now _ c.in-Count.is refl takes_any

pub returns-in-AnyValue : goal.returns-in-AnyValue
returns-in-AnyValue c = took c.args.name _ c.args.ty.now _ c.in-AnyValue.is refl takes_one

pub returns-in-Int64 : goal.returns-in-Int64
returns-in-Int64 c = took_sum c.args.name c.args.ty.now c.in-Sum.is c.in-Int64.is

pub returns-in-Int64-2 : goal.returns-in-Int64-2
returns-in-Int64-2 c = took_sum c.args.name c.args.ty.now c.in-Sum.is c.in-Int64.is

pub returns-in-Int64-matches : goal.returns-in-Int64-matches
returns-in-Int64-matches c = took c.args.name _ c.args.ty.now _ c.in-Min.is c.in-Int64-matches.is (takes_least int_orders)

pub returns-in-Int64-matches-2 : goal.returns-in-Int64-matches-2
returns-in-Int64-matches-2 c = took c.args.name _ c.args.ty.now _ c.in-Max.is c.in-Int64-matches-2.is (takes_greatest int_orders)

pub returns-in-Bool : goal.returns-in-Bool
returns-in-Bool c = took c.args.name _ c.args.ty.now _ c.in-CountIf.is c.in-Bool.is takes_truths

pub returns-in-Bool-matches : goal.returns-in-Bool-matches
returns-in-Bool-matches c = took c.args.name _ c.args.ty.now _ c.in-LogicalAnd.is c.in-Bool-matches.is takes_and

pub returns-in-Bool-matches-2 : goal.returns-in-Bool-matches-2
returns-in-Bool-matches-2 c = took c.args.name _ c.args.ty.now _ c.in-LogicalOr.is c.in-Bool-matches-2.is takes_or

pub returns-in-Text : goal.returns-in-Text
returns-in-Text c = took c.args.name _ c.args.ty.now _ c.in-StringAgg.is c.in-Text.is takes_texts

pub returns-in-Text-matches : goal.returns-in-Text-matches
returns-in-Text-matches c = took c.args.name _ c.args.ty.now _ c.in-ArrayAgg.is c.in-Text-matches.is (takes_elements (ap is_array ty.outs-Text))
