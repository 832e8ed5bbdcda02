use Rattle.std.proofs.Common.{map, Some, None, ap, ◌∙◌}
use Rattle.sql_builtins.specs.Choices.{Applied}
use Rattle.sql_builtins.specs.Seen.{seen}
use Rattle.sql_builtins.proofs.ChoiceLaws.{choice-chosen}
use Rattle.sql_builtins.proofs.choosing.choose.Goals as goal

pub returns-in-Some : goal.returns-in-Some
returns-in-Some c =
    ap (λ (a : Applied). Some a.choice) c.best.view_is
    ∙ choice-chosen (map seen c.rows.result.now) c.as_bytes.result.now c.args.name.now c.args.arguments.now c.in_ok-best.field-0 (Some c.in-Some.best) c.rows.ensures c.as_bytes.ensures.bytes c.in_ok-best.ensures c.in-Some.is

pub returns-in-None : goal.returns-in-None
returns-in-None c =
    choice-chosen (map seen c.rows.result.now) c.as_bytes.result.now c.args.name.now c.args.arguments.now c.in_ok-best.field-0 None c.rows.ensures c.as_bytes.ensures.bytes c.in_ok-best.ensures c.in-None.is
