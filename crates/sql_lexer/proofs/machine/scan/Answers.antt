use Rattle.std.proofs.Common.{◌∙◌, sym, ap, arith}
use Rattle.sql_lexer.specs.Machine.{step}
use Rattle.sql_lexer.proofs.Scan.{goes_on, goes_stop, goes_end}
use Rattle.sql_lexer.proofs.machine.scan.Goals as goal

pub returns-in-None : goal.returns-in-None
returns-in-None c = goes_stop _ _ _ _ (omega arith) c.bytes.invariant (ap (step c.bytes.state) (sym c.class.ensures) ∙ sym c.step.ensures ∙ c.in-None.is)

pub bytes-preserved : goal.bytes-preserved
bytes-preserved c = goes_on _ _ _ _ _ (omega arith) c.bytes.invariant (ap (step c.bytes.state) (sym c.class.ensures) ∙ sym c.step.ensures ∙ c.in-Some.is)

pub returns : goal.returns
returns c = let le = c.bytes-test.false in goes_end _ _ _ _ (omega arith) c.bytes.invariant
