use Rattle.std.proofs.Common.{◌++◌, take, arith, rules}
use Rattle.std.proofs.KnownBytes.{Consumes-trans}
use Rattle.gsql_io.proofs.whole.read_rest.Goals as goal

pub returns-in-Err-clause-leaves : goal.returns-in-Err-clause-leaves
returns-in-Err-clause-leaves g c = (c.loop-buf.bytes.items, rw c.in-Err.ensures.unchanged c.loop-buf.invariant.consumed)

pub returns-in-Ok-eq0-clause-leaves : goal.returns-in-Ok-eq0-clause-leaves
returns-in-Ok-eq0-clause-leaves g c = (search rules, search rules)

pub returns-then-is_err-clause-leaves : goal.returns-then-is_err-clause-leaves
returns-then-is_err-clause-leaves g c =
    (c.loop-buf.bytes.items ++ take c.in-Ok.n c.read.new.buf, Consumes-trans _ _ _ _ _ c.loop-buf.invariant.consumed c.in-Ok.ensures.moves.0)

pub returns-clause-leaves : goal.returns-clause-leaves
returns-clause-leaves g c = (c.loop-buf.bytes.items, c.loop-buf.invariant.consumed, omega arith)
