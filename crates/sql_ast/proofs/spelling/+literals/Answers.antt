-- One value more is written, and an ARRAY or a STRUCT is.
use Rattle.std.proofs.Common.{◌++◌, List, ℕ, codes, ap, sym, ◌∙◌, append_assoc, arith, rules}
use Rattle.std.specs.List.{list_all}
use Rattle.sql_names.specs.Commas.{separator}
use Rattle.sql_names.proofs.Joins.{wrote_joined}
use Rattle.sql_types.specs.declared.value.Value.{the_lemmas}
use Rattle.sql_ast.specs.Literals.{LiteralText, dates_fit}
use Rattle.sql_ast.proofs.LiteralLaws.{array_text, struct_text, array_dates, struct_dates, wrote_between}
use Rattle.sql_ast.proofs.spelling.+literals.Goals as goal

pub write_literal-write_literals-requires : goal.write_literal-write_literals-requires
write_literal-write_literals-requires t c = (
  search (rules, the_lemmas),
  ap (list_all dates_fit) c.as_slice-in-Array.ensures ∙ sym (ap dates_fit c.in-Array.is ∙ array_dates c.in-Array.elements) ∙ c.requires,
)

pub write_literal-write_literals-requires-in-Struct : goal.write_literal-write_literals-requires-in-Struct
write_literal-write_literals-requires-in-Struct t c = (
  search (rules, the_lemmas),
  ap (list_all dates_fit) c.as_slice-in-Struct.ensures ∙ sym (ap dates_fit c.in-Struct.is ∙ struct_dates c.in-Struct.fields) ∙ c.requires,
)

pub write_literal-returns-in_ok-push-in-Array-2 : goal.write_literal-returns-in_ok-push-in-Array-2
write_literal-returns-in_ok-push-in-Array-2 t c =
    wrote_between (codes "[") (codes "]") (LiteralText c.args.value.now) c.as_slice-in-Array.result.now c.in-Array.elements c.as_slice-in-Array.ensures
    (ap LiteralText c.in-Array.is ∙ array_text c.in-Array.elements) c.args.out.now.items c.push.new.self.items c.write_literals.new.out.items c.push-in-Array.new.self.items
    c.in_ok-push-in-Array.ensures.items c.in_ok-write_literals-in-Array.ensures c.in_ok-push-in-Array-2.ensures.items

pub write_literal-returns-in_ok-push-in-Struct : goal.write_literal-returns-in_ok-push-in-Struct
write_literal-returns-in_ok-push-in-Struct t c =
    wrote_between (codes "STRUCT(") (codes ")") (LiteralText c.args.value.now) c.as_slice-in-Struct.result.now c.in-Struct.fields c.as_slice-in-Struct.ensures
    (ap LiteralText c.in-Struct.is ∙ struct_text c.in-Struct.fields) c.args.out.now.items c.extend_from_slice-in-Struct.new.self.items c.write_literals-in-Struct.new.out.items
    c.push-in-Struct.new.self.items c.in_ok-extend_from_slice-in-Struct.ensures.items c.in_ok-write_literals-in-Struct.ensures c.in_ok-push-in-Struct.ensures.items

pub write_literals-loop-place-preserved : goal.write_literals-loop-place-preserved
write_literals-loop-place-preserved t c =
    let value = c.index-values-place.result in
    wrote_joined LiteralText c.args.values.now c.loop-place.place value (omega arith) c.index-values-place.is c.args.out.now.items c.loop-place.out.items c.write_literal.new.out.items
    (c.in_ok-write_literal.ensures ∙ ap (λ (r : List ℕ). r ++ LiteralText value) c.in_ok-write_separator.ensures
    ∙ append_assoc c.loop-place.out.items (separator c.loop-place.place) (LiteralText value))
    c.loop-place.invariant
