use Rattle.std.proofs.Common.{◌≤◌, length, take, drop, arith, take-append-drop, length-drop, sym, subst, ◌∙◌}
use Rattle.std.specs.Io.KnownBytes.{Appends}
use Rattle.std.proofs.KnownBytes.{Appends-trans}
use Rattle.gsql_io.proofs.Cuts.{take-more, take-rest}
use Rattle.gsql_io.proofs.Taken.{untold-trans}
use Rattle.gsql_io.proofs.whole.write_all.Goals as goal

pub loop-done-preserved : goal.loop-done-preserved
loop-done-preserved g c =
    let bytes = c.args.bytes.now in
    let done = c.loop-done.done in
    let inv = c.loop-done.invariant in
    let bound : c.in-Ok.n ≤ length (drop done bytes) = rw (take-rest done bytes) at c.in-Ok.ensures.bound in
    record {
      within = omega (arith, length-drop done bytes);
      written = subst (Appends (g.S.Sink.written c.args.sink.now) (g.S.Sink.written c.write.new.self)) (take-more done c.in-Ok.n bytes)
          (Appends-trans _ _ _ _ _ inv.written c.in-Ok.ensures.appends);
      untold = untold-trans _ _ _ inv.untold c.in-Ok.ensures.untold;
      stays = c.in-Ok.ensures.stays ∙ inv.stays;
    }

pub returns-in-Err-clause-err : goal.returns-in-Err-clause-err
returns-in-Err-clause-err g c =
    let done = c.loop-done.done in (
      take done c.args.bytes.now,
      drop done c.args.bytes.now,
      sym (take-append-drop done c.args.bytes.now),
      rw c.in-Err.ensures.unchanged c.loop-done.invariant.written,
    )
