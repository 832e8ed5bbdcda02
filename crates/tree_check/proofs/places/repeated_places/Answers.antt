use Rattle.std.proofs.Common.{arith}
use Rattle.sql_builtins.proofs.FilledLaws.{repeated_are}
use Rattle.tree_check.proofs.places.repeated_places.Goals as goal

pub returns-in_ok-filled-in-Some : goal.returns-in_ok-filled-in-Some
returns-in_ok-filled-in-Some c =
    repeated_are c.args.takes.now c.in_ok-filled-in-Some.field-0.items c.in-Some.last.now c.args.count (omega arith) c.in-Some.ensures.value c.in_ok-filled-in-Some.ensures
