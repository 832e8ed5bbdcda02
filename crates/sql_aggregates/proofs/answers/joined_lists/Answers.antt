use Rattle.std.proofs.Common.{rules, ◌≡◌, length, map, sym, ap, subst, ◌∙◌, arith}
use Rattle.std.specs.List.{Contains, list_all}
use Rattle.sql_types.specs.declared.sql_type.SqlType.TheVariants as ty
use Rattle.sql_types.specs.Fits.{fits}
use Rattle.sql_aggregates.specs.Lists.{first}
use Rattle.sql_aggregates.specs.Aggregates as rows
use Rattle.sql_aggregates.proofs.AddableLaws.{is_texts, texts_fit}
use Rattle.sql_aggregates.proofs.answers.joined_lists.Goals as goal

pub joined-requires-clause-separator : goal.joined-requires-clause-separator
joined-requires-clause-separator c =
    let among : Contains c.args.lists.items c.list-item.result = subst (λ all. Contains all c.list-item.result) c.as_slice.ensures.value (0, omega arith, sym c.list-item.is) in
    let is : c.in_ok-separator.separator ≡ rows.separator (rows.arguments (length c.args.call.now.order) c.list-item.result)
    = c.in_ok-separator.ensures ∙ ap rows.separator (c.arguments.ensures ∙ ap (λ n. rows.arguments n c.as_slice-2.result.now) c.len.ensures ∙ ap (rows.arguments (length c.args.call.now.order)) c.as_slice-2.ensures) in
    ap (fits ty.Text) is ∙ (is_texts c.args.call.now c.args.lists.items c.requires.addable c.requires.name c.list-item.result among).1

pub joined-requires-clause-texts : goal.joined-requires-clause-texts
joined-requires-clause-texts c =
    let is : c.as_slice-3.result.now ≡ map first c.args.lists.items = search rules in
    ap (list_all (fits ty.Text)) is ∙ texts_fit c.args.call.now c.args.lists.items c.requires.addable c.requires.name
