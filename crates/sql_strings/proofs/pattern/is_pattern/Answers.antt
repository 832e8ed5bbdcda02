use Rattle.std.proofs.Common.{◌∙◌, ap, sym}
use Rattle.std.specs.Prelude.{is_some}
use Rattle.sql_strings.specs.Patterns.{parts_behind}
use Rattle.sql_strings.proofs.PatternLaws.{pattern-more, pattern-end}
use Rattle.sql_strings.proofs.pattern.is_pattern.Goals as goal

pub loop-first-preserved : goal.loop-first-preserved
loop-first-preserved g c =
    ap (λ b. is_some (parts_behind b (g.S.Symbols.symbols c.in-Some.first.1))) c.escapes_next-escaped.ensures
    ∙ pattern-more c.loop-first.escaped c.in-Some.first.0 (g.S.Symbols.symbols c.in-Some.first.1)
    ∙ ap (λ t. is_some (parts_behind c.loop-first.escaped t)) (sym c.in-Some.ensures) ∙ c.loop-first.invariant

pub returns : goal.returns
returns g c =
    pattern-end c.loop-first.escaped ∙ ap (λ t. is_some (parts_behind c.loop-first.escaped t)) (sym c.in_default.ensures) ∙ c.loop-first.invariant
