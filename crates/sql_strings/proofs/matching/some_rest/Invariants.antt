-- Some rest of what is left matches what is left of the pattern just where some rest of the whole matches the whole.
use Rattle.std.proofs.Common.{◌≡◌, ◌+◌, length, true}
use Rattle.std.specs.Prelude.{is_some}
use Rattle.sql_strings.specs.Patterns.{parts, passes, some_rest}
use Rattle.sql_strings.proofs.matching.some_rest.Given as goal

abbrev pub invariant-loop-after : goal.invariant-loop-after
invariant-loop-after g l = record {
  anywhere : some_rest (passes (parts (g.S.Symbols.symbols l.parts))) (g.S.Symbols.symbols l.rest) ≡ some_rest (passes (parts (g.S.Symbols.symbols l.fn.pattern))) (g.S.Symbols.symbols l.fn.text);
  pattern : is_some (parts (g.S.Symbols.symbols l.parts)) ≡ true;
}

abbrev pub decreases-loop-after : goal.decreases-loop-after
decreases-loop-after g l = length (g.S.Symbols.symbols l.rest) + length (g.S.Symbols.symbols l.parts)
