-- The rows so far are found by their keys.
use Rattle.std.proofs.Common.{◌≡◌, take, length}
use Rattle.eval_rows.specs.EqualKeys.{Indexes}
use Rattle.eval_rows.proofs.key_index.KeyIndex.of.Given as goal

abbrev pub invariant-loop-number : goal.invariant-loop-number
invariant-loop-number l = record {
  as_many : length l.numbers.items ≡ length l.values;
  indexed : Indexes l.column (take l.number l.rows) l.values l.numbers.items;
}
