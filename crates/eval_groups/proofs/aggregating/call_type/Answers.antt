use Rattle.std.proofs.Common.{◌≡◌, ℕ, ◌<◌, ◌-◌, List, length, ◌∙◌, sym, subst}
use Rattle.std.specs.Prelude.{IfOk}
use Rattle.sql_types.specs.declared.sql_type.SqlType.{SqlType}
use Rattle.std.specs.List.{All}
use Rattle.std.proofs.lemmas.List.Elements.{All-take}
use Rattle.sql_aggregates.specs.AnswerTypes.{answer_type}
use Rattle.eval_groups.specs.Aggregated.{column_types}
use Rattle.eval_groups.proofs.AggregateLaws.{front_types}
use Rattle.eval_groups.proofs.aggregating.call_type.Goals as goal

pub types_at-requires : goal.types_at-requires
types_at-requires c =
    subst (All (λ (place : ℕ). place < length c.args.rows.now.columns)) (sym c.argument_places.ensures) (All-take (λ (place : ℕ). place < length c.args.rows.now.columns) (length c.args.places.now - c.len.result) c.args.places.now c.requires)

pub returns : goal.returns
returns c =
    subst (λ (z : List SqlType). IfOk c.answer_type.result (λ t. t ≡ answer_type c.args.call.now.name z))
    (c.as_slice.ensures ∙ c.in_ok-types.ensures ∙ front_types (column_types c.args.rows.now) c.args.places.now c.argument_places.result.now c.len.result (length c.args.call.now.order) c.argument_places.ensures c.len.ensures)
    c.answer_type.ensures
