-- What is left of the pattern matches what is left of the text just where the whole matches the whole. Where the pattern
-- matches somewhere behind, so does what is left of it.
use Rattle.std.proofs.Common.{◌≡◌, ◌≤◌, length, true}
use Rattle.std.specs.Prelude.{is_some}
use Rattle.sql_strings.specs.Patterns.{parts, passes, some_rest}
use Rattle.sql_strings.proofs.matching.walk.Given as goal

abbrev pub invariant-loop-first : goal.invariant-loop-first
invariant-loop-first g l = record {
  anchored : passes (parts (g.S.Symbols.symbols l.fn.pattern)) (g.S.Symbols.symbols l.fn.text) ≡ passes (parts (g.S.Symbols.symbols l.parts)) (g.S.Symbols.symbols l.rest);
  anywhere : some_rest (passes (parts (g.S.Symbols.symbols l.fn.pattern))) (g.S.Symbols.symbols l.fn.text) ≡ true → some_rest (passes (parts (g.S.Symbols.symbols l.parts))) (g.S.Symbols.symbols l.rest) ≡ true;
  pattern : is_some (parts (g.S.Symbols.symbols l.parts)) ≡ true;
  rest : length (g.S.Symbols.symbols l.rest) ≤ length (g.S.Symbols.symbols l.fn.text);
  parts : length (g.S.Symbols.symbols l.parts) ≤ length (g.S.Symbols.symbols l.fn.pattern);
}

abbrev pub decreases-loop-first : goal.decreases-loop-first
decreases-loop-first g l = length (g.S.Symbols.symbols l.parts)
