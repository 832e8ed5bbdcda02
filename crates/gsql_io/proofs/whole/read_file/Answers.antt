use Rattle.gsql_io.proofs.Taken.{TakesSome-all}
use Rattle.gsql_io.proofs.whole.read_file.Goals as goal

pub returns-in-Err-clause-leaves : goal.returns-in-Err-clause-leaves
returns-in-Err-clause-leaves g c = rw c.in-Err.ensures.emptied (TakesSome-all _)
