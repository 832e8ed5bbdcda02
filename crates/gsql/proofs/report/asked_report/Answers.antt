-- The report of what the stages answered.
use Rattle.std.proofs.Common.{◌≡◌, map, string_bytes, sym}
use Rattle.gsql.proofs.Staged.{reported, if_ok}
use Rattle.gsql.proofs.report.asked_report.Goals as goal

pub returns-in-Some : goal.returns-in-Some
returns-in-Some g c =
    if_ok c.told.result (λ p tells. reported (map string_bytes c.args.words.now) _ c.in-Some.catalog.now c.in-Some.query.now c.catalog_stage.result (sym c.in-Some.ensures) c.catalog_stage.ensures.stage c.catalog_stage.ensures.counted p.status p.out p.err tells) c.told.ensures
