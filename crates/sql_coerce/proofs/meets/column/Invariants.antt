-- The members left are STRUCTs, and their fields behind the ones so far are the whole column.
use Rattle.std.proofs.Common.{◌≡◌, ◌++◌, true, map, drop}
use Rattle.std.specs.List.{list_all}
use Rattle.sql_types.specs.declared.sql_type.SqlType.{out-SqlType}
use Rattle.sql_coerce.specs.Supertypes.{field_at, is_struct_of}
use Rattle.sql_coerce.proofs.meets.column.Given as goal

abbrev pub invariant-loop-member : goal.invariant-loop-member
invariant-loop-member l = record {
  structs : list_all (λ m. is_struct_of l.count (out-SqlType m.ty)) (drop l.member-index l.list) ≡ true;
  same : l.column.items ++ map (field_at l.place) (drop l.member-index l.list) ≡ map (field_at l.place) l.list;
}
