use Rattle.std.proofs.Common.{subst, arith}
use Rattle.sql_constants.specs.declared.cursor.Miss.{Miss}
use Rattle.sql_constants.specs.Readers.{constant_at}
use Rattle.sql_constants.specs.Reads.{from, turns, Stuck, Misses}
use Rattle.sql_constants.proofs.Texts.{slice_read, slice_left, slice_stuck}
use Rattle.sql_constants.proofs.parse.value_of.Goals as goal

pub returns-then-end-len : goal.returns-then-end-len
returns-then-end-len c =
    slice_left c.args.ty.now c.args.tokens.now.list c.as_slice.result.now c.as_slice.ensures c.in-Ok.value c.in-Ok.end c.in-Ok.ensures.reads (omega arith)

pub returns-else-end-len : goal.returns-else-end-len
returns-else-end-len c =
    let shallow = c.nest.ensures in
    slice_read c.args.ty.now c.args.tokens.now.list c.as_slice.result.now c.as_slice.ensures (omega arith) c.in-Ok.value c.in-Ok.end c.in-Ok.ensures.reads (omega arith)

pub returns-in-Err-NoConstant : goal.returns-in-Err-NoConstant
returns-in-Err-NoConstant c =
    let missed : Misses (constant_at (turns c.as_slice.result.now) c.args.ty.now (from c.as_slice.result.now 0)) c.in-Err-NoConstant.field-0 = c.in-Err-NoConstant.ensures.reads in
    let is_stuck : Stuck (constant_at (turns c.as_slice.result.now) c.args.ty.now (from c.as_slice.result.now 0)) =
    subst (λ (e : Miss). Misses (constant_at (turns c.as_slice.result.now) c.args.ty.now (from c.as_slice.result.now 0)) e) c.in-Err-NoConstant.field-0-is missed in
    slice_stuck c.args.ty.now c.args.tokens.now.list c.as_slice.result.now c.as_slice.ensures is_stuck
