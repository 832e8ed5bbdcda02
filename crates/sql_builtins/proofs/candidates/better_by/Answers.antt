use Rattle.std.proofs.Common.{◌≡◌, true, sym, ◌∙◌}
use Rattle.sql_builtins.specs.Choices as choices
use Rattle.sql_builtins.specs.Seen.{seen}
use Rattle.sql_builtins.proofs.BetterLaws.{both-true, better-worse, better-found, better-apart}
use Rattle.sql_builtins.proofs.candidates.better_by.Goals as goal

pub returns-then-not-improves : goal.returns-then-not-improves
returns-then-not-improves c =
    let one : choices.meets c.args.row.now.needs c.args.common.now ≡ true = sym c.meets.ensures ∙ c.if-not-meets.false in
    let two : choices.meets c.args.row.now.needs c.args.element.now ≡ true = sym c.meets-else-not-meets.ensures ∙ c.if-not-meets-2.false in
    better-worse c.args.best.now (seen c.args.row.now) c.args.arguments.now c.args.slots.now c.args.common.now c.args.element.now _
    (both-true (choices.meets c.args.row.now.needs c.args.common.now) (choices.meets c.args.row.now.needs c.args.element.now) one two)
    (sym c.in-Some.ensures) (sym c.improves.ensures ∙ c.if-not-improves.true)

pub returns-in_ok-gives-in-Some : goal.returns-in_ok-gives-in-Some
returns-in_ok-gives-in-Some c =
    let one : choices.meets c.args.row.now.needs c.args.common.now ≡ true = sym c.meets.ensures ∙ c.if-not-meets.false in
    let two : choices.meets c.args.row.now.needs c.args.element.now ≡ true = sym c.meets-else-not-meets.ensures ∙ c.if-not-meets-2.false in
    better-found c.args.best.now (seen c.args.row.now) c.args.arguments.now c.args.slots.now c.args.common.now c.args.element.now _ c.in_ok-targets-in-Some.targets c.in_ok-gives-in-Some.gives
    (both-true (choices.meets c.args.row.now.needs c.args.common.now) (choices.meets c.args.row.now.needs c.args.element.now) one two)
    (sym c.in-Some.ensures) (sym c.improves.ensures ∙ c.if-not-improves.false) c.in_ok-targets-in-Some.ensures c.in_ok-gives-in-Some.ensures

pub returns-in-None : goal.returns-in-None
returns-in-None c =
    better-apart c.args.best.now (seen c.args.row.now) c.args.arguments.now c.args.slots.now c.args.common.now c.args.element.now (sym c.in-None.ensures)
