-- What the columns left say, all columns say.
use Rattle.std.proofs.Common.{◌≡◌, drop}
use Rattle.sql_types.specs.SameValue.{same_values}
use Rattle.key_classes.specs.Classes.{key_of}
use Rattle.key_classes.specs.Keys.{values_of}
use Rattle.key_classes.proofs.key.KeyPartialEq.eq.Given as goal

abbrev pub invariant-loop-column : goal.invariant-loop-column
invariant-loop-column l = same_values (key_of (drop l.column-index l.column-items) l.self.row.now) (key_of l.rest l.other.row.now) ≡ same_values (values_of l.self) (values_of l.other)
