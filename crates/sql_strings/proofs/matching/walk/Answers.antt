use Rattle.std.proofs.Common.{arith, length}
use Rattle.sql_strings.specs.Patterns.{parts}
use Rattle.sql_strings.proofs.PatternLaws.{walk-met, walk-met-anywhere, walk-not, walk-on, walk-on-anywhere, walk-parts, walk-rest}
use Rattle.sql_strings.proofs.matching.walk.Goals as goal

pub returns-in-AnyText-clause-anchored : goal.returns-in-AnyText-clause-anchored
returns-in-AnyText-clause-anchored g c =
    walk-met (parts (g.S.Symbols.symbols c.args.pattern)) (parts (g.S.Symbols.symbols c.loop-first.parts)) (parts (g.S.Symbols.symbols c.in-Some.first.1))
    (g.S.Symbols.symbols c.args.text) (g.S.Symbols.symbols c.loop-first.rest) c.in-Some.first.0 c.in-Some.ensures.parts c.in-AnyText.is c.loop-first.invariant.anchored

pub returns-in-AnyText-clause-anywhere : goal.returns-in-AnyText-clause-anywhere
returns-in-AnyText-clause-anywhere g c =
    walk-met-anywhere (parts (g.S.Symbols.symbols c.args.pattern)) (parts (g.S.Symbols.symbols c.loop-first.parts)) (parts (g.S.Symbols.symbols c.in-Some.first.1))
    (g.S.Symbols.symbols c.args.text) (g.S.Symbols.symbols c.loop-first.rest) c.in-Some.first.0 c.in-Some.ensures.parts c.in-AnyText.is
    c.loop-first.invariant.anchored c.loop-first.invariant.anywhere

pub returns-in-None-take_symbol : goal.returns-in-None-take_symbol
returns-in-None-take_symbol g c = record {
  anchored =
      walk-not (parts (g.S.Symbols.symbols c.args.pattern)) (parts (g.S.Symbols.symbols c.loop-first.parts)) (parts (g.S.Symbols.symbols c.in-Some.first.1))
      (g.S.Symbols.symbols c.args.text) (g.S.Symbols.symbols c.loop-first.rest) c.in-Some.first.0 c.in-Some.ensures.parts c.in_default.not-AnyText c.in-None-take_symbol.ensures
      c.loop-first.invariant.anchored;
  anywhere = tt;
  pattern = tt;
  shorter = tt;
}

pub loop-first-preserved : goal.loop-first-preserved
loop-first-preserved g c =
    let taken = c.in-Some-take_symbol.ensures in
    let so_far = c.loop-first.invariant in
    record {
      anchored =
          walk-on (parts (g.S.Symbols.symbols c.args.pattern)) (parts (g.S.Symbols.symbols c.loop-first.parts)) (parts (g.S.Symbols.symbols c.in-Some.first.1))
          (g.S.Symbols.symbols c.args.text) (g.S.Symbols.symbols c.loop-first.rest) (g.S.Symbols.symbols c.in-Some-take_symbol.later) c.in-Some.first.0 c.in-Some.ensures.parts
          c.in_default.not-AnyText taken so_far.anchored;
      anywhere =
          walk-on-anywhere (parts (g.S.Symbols.symbols c.args.pattern)) (parts (g.S.Symbols.symbols c.loop-first.parts)) (parts (g.S.Symbols.symbols c.in-Some.first.1))
          (g.S.Symbols.symbols c.args.text) (g.S.Symbols.symbols c.loop-first.rest) (g.S.Symbols.symbols c.in-Some-take_symbol.later) c.in-Some.first.0 c.in-Some.ensures.parts
          c.in_default.not-AnyText taken so_far.anywhere;
      pattern = walk-parts (parts (g.S.Symbols.symbols c.loop-first.parts)) (parts (g.S.Symbols.symbols c.in-Some.first.1)) c.in-Some.first.0 c.in-Some.ensures.parts so_far.pattern;
      rest = walk-rest (g.S.Symbols.symbols c.loop-first.rest) (g.S.Symbols.symbols c.in-Some-take_symbol.later) (length (g.S.Symbols.symbols c.args.text)) taken.0 taken.1 so_far.rest;
      parts = omega (arith, c.in-Some.ensures.shorter, so_far.parts);
    }
