use Rattle.sql_strings.proofs.ValueLaws.{null_fits_text, text_fits}
use Rattle.sql_strings.proofs.tests.text.Goals as goal

pub returns-then-eq : goal.returns-then-eq
returns-then-eq c = null_fits_text

pub returns : goal.returns
returns c = rw c.in_ok-copy_of.ensures (text_fits c.args.content.now c.utf8.content)
