-- The names of the columns from the place on are distinct, and stand in the set.
use Rattle.std.proofs.Common.{◌≡◌, ◌≤◌, ℕ, List, length, drop, true}
use Rattle.std.specs.HashSet.{contains_text}
use Rattle.small_catalog.specs.Catalogs.{distinct}
use Rattle.small_catalog.proofs.ColumnLaws.{has_letters}
use Rattle.small_catalog.proofs.column.are_distinct.Given as goal

abbrev pub invariant-columns : goal.invariant-columns
invariant-columns l = record {
  within : l.place ≤ length l.columns;
  distinct_so_far : distinct (drop l.place l.columns) ≡ true;
  held : (letters : List ℕ) → contains_text l.names letters ≡ has_letters letters (drop l.place l.columns);
}

abbrev pub decreases-columns : goal.decreases-columns
decreases-columns l = l.place
