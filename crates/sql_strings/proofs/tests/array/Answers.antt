use Rattle.sql_strings.proofs.ValueLaws.{array_fits, three_fit}
use Rattle.sql_strings.proofs.tests.array.Goals as goal

pub returns : goal.returns
returns c =
    array_fits c.push-3.new.self
    (three_fit c.new-elements.result c.push.new.self c.push-2.new.self c.push-3.new.self c.in_ok-text.field-0 c.in_ok-text-2.field-0 c.in_ok-text-3.field-0
    c.new-elements.ensures c.in_ok-push.ensures.ok c.in_ok-push-2.ensures.ok c.in_ok-push-3.ensures.ok c.in_ok-text.ensures c.in_ok-text-2.ensures c.in_ok-text-3.ensures)
