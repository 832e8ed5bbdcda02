use Rattle.std.proofs.Common.{◌∙◌, sym}
use Rattle.sql_strings.proofs.PatternLaws.{like-parts}
use Rattle.sql_strings.proofs.matching.like_symbols.Goals as goal

pub returns-in-Ok : goal.returns-in-Ok
returns-in-Ok g c =
    like-parts (g.S.Symbols.symbols c.args.pattern) (g.S.Symbols.symbols c.args.text) c.some_rest.result (sym c.if-not-is_pattern.ensures)
    (c.in-Ok.ensures.anchored ∙ sym c.some_rest.ensures)
