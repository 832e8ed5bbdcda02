-- The report was written whole.
use Rattle.std.proofs.Common.{map, string_bytes}
use Rattle.gsql.proofs.Staged.{ran}
use Rattle.gsql.proofs.run.run_gsql.Goals as goal

pub returns-in-Ok : goal.returns-in-Ok
returns-in-Ok g c =
    ran (map string_bytes c.args.words.now) _ _ _ c.report-printed.result.status c.in-Ok.status c.report-printed.result.out c.report-printed.result.err c.in-Ok.ensures.0 c.report-printed.ensures c.in-Ok.ensures.1 c.in-Ok.ensures.2
