use Rattle.std.proofs.Common.{◌≤◌, ◌-◌, length, take, drop, arith, length-drop}
use Rattle.gsql_io.proofs.Cuts.{drop-copied, take-rest}
use Rattle.gsql_io.proofs.files.copy_from.Goals as goal

pub returns-clause-moves : goal.returns-clause-moves
returns-clause-moves c =
    drop-copied c.args.place c.min-n.result c.args.bytes.now c.copy_from_slice.new.self (drop c.min-n.result c.args.buf.now)
    (let n : c.min-n.result ≤ length (take (length c.args.bytes.now - c.args.place) (drop c.args.place c.args.bytes.now)) = omega arith in
    let m = rw (take-rest c.args.place c.args.bytes.now) at n in omega (arith, length-drop c.args.place c.args.bytes.now, m))
    c.copy_from_slice.ensures.after
