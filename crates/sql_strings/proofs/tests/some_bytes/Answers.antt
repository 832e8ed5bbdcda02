use Rattle.std.proofs.Common.{arith}
use Rattle.sql_strings.proofs.ValueLaws.{bytes_fit}
use Rattle.sql_strings.proofs.tests.some_bytes.Goals as goal

pub returns : goal.returns
returns c = rw c.in_ok-from_slice.ensures (bytes_fit c.args.content.now (λ i. let fits = c.type_inv.content i in omega (arith, fits)))
