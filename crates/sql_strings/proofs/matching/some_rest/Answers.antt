use Rattle.sql_strings.specs.Patterns.{parts}
use Rattle.sql_strings.proofs.PatternLaws.{rest-true}
use Rattle.sql_strings.proofs.matching.some_rest.Goals as goal

pub returns-in-Err-true : goal.returns-in-Err-true
returns-in-Err-true g c =
    rest-true (parts (g.S.Symbols.symbols c.loop-after.parts)) (g.S.Symbols.symbols c.loop-after.rest) _ _ c.in-Err-true.ensures.anchored c.in-Err-true.field-0-test c.loop-after.invariant.anywhere
