-- One part more is written.
use Rattle.std.proofs.Common.{◌++◌, List, ℕ, ap, ◌∙◌, append_assoc, arith}
use Rattle.sql_names.specs.Commas.{separator}
use Rattle.sql_names.proofs.Joins.{wrote_joined}
use Rattle.resolved_ast.proofs.spelled.write_joined.Goals as goal

pub loop-place-preserved : goal.loop-place-preserved
loop-place-preserved g c =
    let part = c.index-list-place.result in
    let before : List ℕ = c.loop-place.out.items in
    wrote_joined g.C.Spelled.spelled c.args.list.now c.loop-place.place part (omega arith) c.index-list-place.is c.args.out.now.items before c.write.new.out.items
    (c.in_ok-write.ensures ∙ ap (λ (r : List ℕ). r ++ g.C.Spelled.spelled part) c.in_ok-write_separator.ensures ∙ append_assoc before (separator c.loop-place.place) (g.C.Spelled.spelled part))
    c.loop-place.invariant
