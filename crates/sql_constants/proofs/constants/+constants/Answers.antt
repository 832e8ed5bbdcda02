use Rattle.std.proofs.Common.{◌≡◌, ◌+◌, drop, List, [], sym, ap, ◌∙◌, subst, arith, rules}
use Rattle.std.proofs.lemmas.List.{drop_all}
use Rattle.std.proofs.lemmas.Grind.{common_steps}
use Rattle.std.proofs.lemmas.Result.{err_from_is_err_and}
use Rattle.fronts.specs.Readers.{Outcome}
use Rattle.fronts.proofs.Places.{begin, go_on, go_end}
use Rattle.sql_types.specs.declared.sql_type.Named.{Named}
use Rattle.sql_types.specs.declared.sql_type.SqlType.{SqlType, out-SqlType}
use Rattle.sql_types.specs.declared.sql_type.SqlType.TheOpen as form
use Rattle.sql_types.specs.declared.sql_type.SqlType.TheVariants as ty
use Rattle.sql_types.specs.declared.value.Value.{Value}
use Rattle.sql_ast.specs.declared.token.Token.{Token}
use Rattle.sql_ast.specs.declared.words.Sign.TheVariants as signs
use Rattle.sql_ast.specs.Marks as spec
use Rattle.sql_constants.specs.Readers.{comma_element, constant_at, more_fields, fields_at}
use Rattle.sql_constants.specs.Reads.{from, turns, Reads, Misses}
use Rattle.sql_constants.proofs.Levels.{at_null, at_form, at_integer}
use Rattle.sql_constants.proofs.Loops.{item_missed, missed_as, fields_from, comma_missed, value_missed, field_more, fields_end, no_fields, some_fields}
use Rattle.sql_constants.proofs.constants.+constants.Goals as goal

pub constant-returns-then-sees-clause-reads : goal.constant-returns-then-sees-clause-reads
constant-returns-then-sees-clause-reads t c =
    subst (λ (o : Outcome Token Value). Reads c.args.tokens.now o c.null.result) (sym (at_null (turns c.args.tokens.now) c.args.ty.now (from c.args.tokens.now c.args.at) (sym c.if-sees.true ∙ c.sees.ensures))) c.null.ensures.reads

pub constant-returns-in-Bool-clause-reads : goal.constant-returns-in-Bool-clause-reads
constant-returns-in-Bool-clause-reads t c =
    subst (λ (o : Outcome Token Value). Reads c.args.tokens.now o c.truth.result)
    (sym (at_form (turns c.args.tokens.now) c.args.ty.now (from c.args.tokens.now c.args.at) (sym c.if-sees.false ∙ c.sees.ensures) form.Bool (ap out-SqlType c.in-Bool.is ∙ ty.outs-Bool))) c.truth.ensures.reads

pub constant-returns-in-Text-clause-reads : goal.constant-returns-in-Text-clause-reads
constant-returns-in-Text-clause-reads t c =
    subst (λ (o : Outcome Token Value). Reads c.args.tokens.now o c.text.result)
    (sym (at_form (turns c.args.tokens.now) c.args.ty.now (from c.args.tokens.now c.args.at) (sym c.if-sees.false ∙ c.sees.ensures) form.Text (ap out-SqlType c.in-Text.is ∙ ty.outs-Text))) c.text.ensures.reads

pub constant-returns-in-Bytes-clause-reads : goal.constant-returns-in-Bytes-clause-reads
constant-returns-in-Bytes-clause-reads t c =
    subst (λ (o : Outcome Token Value). Reads c.args.tokens.now o c.bytes.result)
    (sym (at_form (turns c.args.tokens.now) c.args.ty.now (from c.args.tokens.now c.args.at) (sym c.if-sees.false ∙ c.sees.ensures) form.Bytes (ap out-SqlType c.in-Bytes.is ∙ ty.outs-Bytes))) c.bytes.ensures.reads

pub constant-returns-in-Date-clause-reads : goal.constant-returns-in-Date-clause-reads
constant-returns-in-Date-clause-reads t c =
    subst (λ (o : Outcome Token Value). Reads c.args.tokens.now o c.day.result)
    (sym (at_form (turns c.args.tokens.now) c.args.ty.now (from c.args.tokens.now c.args.at) (sym c.if-sees.false ∙ c.sees.ensures) form.Date (ap out-SqlType c.in-Date.is ∙ ty.outs-Date))) c.day.ensures.reads

pub constant-returns-in-Array-clause-reads : goal.constant-returns-in-Array-clause-reads
constant-returns-in-Array-clause-reads t c =
    subst (λ (o : Outcome Token Value). Reads c.args.tokens.now o c.array.result)
    (sym (at_form (turns c.args.tokens.now) c.args.ty.now (from c.args.tokens.now c.args.at) (sym c.if-sees.false ∙ c.sees.ensures) (form.Array c.in-Array.element) (ap out-SqlType c.in-Array.is ∙ ty.outs-Array c.in-Array.element))) c.array.ensures.reads

pub constant-returns-in-Struct-clause-reads : goal.constant-returns-in-Struct-clause-reads
constant-returns-in-Struct-clause-reads t c =
    subst (λ (o : Outcome Token Value). Reads c.args.tokens.now o c.structure.result)
    (sym (at_form (turns c.args.tokens.now) c.args.ty.now (from c.args.tokens.now c.args.at) (sym c.if-sees.false ∙ c.sees.ensures) (form.Struct c.in-Struct.fields) (ap out-SqlType c.in-Struct.is ∙ ty.outs-Struct c.in-Struct.fields))) c.structure.ensures.reads

pub constant-returns-in_default-clause-reads : goal.constant-returns-in_default-clause-reads
constant-returns-in_default-clause-reads t c =
    subst (λ (o : Outcome Token Value). Reads c.args.tokens.now o c.integer.result)
    (sym (at_integer (turns c.args.tokens.now) c.args.ty.now (from c.args.tokens.now c.args.at) (sym c.if-sees.false ∙ c.sees.ensures) c.in_default.not-Bool c.in_default.not-Text c.in_default.not-Bytes c.in_default.not-Date c.in_default.not-Array c.in_default.not-Struct))
    c.integer.ensures.reads

pub more_elements-elements-init : goal.more_elements-elements-init
more_elements-elements-init t c = record {
  moved = omega arith;
  going = begin c.args.tokens.now (spec.sign signs.Comma) (comma_element (constant_at (turns c.args.tokens.now) c.args.element.now)) c.args.found c.args.at;
}

pub more_elements-elements-preserved : goal.more_elements-elements-preserved
more_elements-elements-preserved t c = let up = c.in_ok-next.ensures.moves in record {
  moved = omega arith;
  going = go_on c.args.tokens.now (spec.sign signs.Comma) (comma_element (constant_at (turns c.args.tokens.now) c.args.element.now)) _ c.elements.found c.elements.at c.elements.invariant.going
      (sym c.sees.ensures ∙ c.elements-test.true) c.in_ok-next.next c.in_ok-next.behind c.in_ok-next.ensures.moves c.in_ok-next.ensures.reads _ c.in_ok-push.ensures.ok;
}

pub more_elements-returns-in_err-next-clause-reads : goal.more_elements-returns-in_err-next-clause-reads
more_elements-returns-in_err-next-clause-reads t c =
    let w = item_missed c.args.tokens.now (spec.sign signs.Comma) (comma_element (constant_at (turns c.args.tokens.now) c.args.element.now)) _ c.elements.found c.elements.at c.elements.invariant.going
    (sym c.sees.ensures ∙ c.elements-test.true) c.in_err-next.field-0.0 c.in_err-next.ensures.reads in
    let p = err_from_is_err_and c.from_residual.result c.from_residual.ensures.1 in
    first_of (search (rules, w), grind (arith, common_steps, w))

pub more_elements-returns-clause-reads : goal.more_elements-returns-clause-reads
more_elements-returns-clause-reads t c =
    go_end c.args.tokens.now (spec.sign signs.Comma) (comma_element (constant_at (turns c.args.tokens.now) c.args.element.now)) _ c.elements.found c.elements.at c.elements.invariant.going (sym c.sees.ensures ∙ c.elements-test.false)

pub field_values-returns-in_err-place-clause-reads : goal.field_values-returns-in_err-place-clause-reads
field_values-returns-in_err-place-clause-reads t c =
    let here = fields_from c.args.fields.now c.as_slice-field-items.result.now c.fields.field-index c.field-item.result c.as_slice-field-items.ensures c.fields-test.true c.field-item.is in
    let m = comma_missed (turns c.args.tokens.now) c.field-item.result (drop (c.fields.field-index + 1) c.args.fields.now) (drop c.fields.field-index c.args.fields.now) here c.fields.found c.args.tokens.now c.fields.at
    c.in_err-place.field-0.0 c.in_err-place.ensures.reads in
    let w : Misses (more_fields (fields_at (turns c.args.tokens.now) c.args.fields.now) _ (from c.args.tokens.now c.args.at)) c.in_err-place.field-0.0 =
    missed_as _ _ c.in_err-place.field-0.0 (λ rest g. c.fields.invariant.same ∙ g) m in
    let p = err_from_is_err_and c.from_residual.result c.from_residual.ensures.1 in
    first_of (search (rules, w), grind (arith, common_steps, w))

pub field_values-returns-in_err-value-clause-reads : goal.field_values-returns-in_err-value-clause-reads
field_values-returns-in_err-value-clause-reads t c =
    let here = fields_from c.args.fields.now c.as_slice-field-items.result.now c.fields.field-index c.field-item.result c.as_slice-field-items.ensures c.fields-test.true c.field-item.is in
    let m = value_missed (turns c.args.tokens.now) c.field-item.result (drop (c.fields.field-index + 1) c.args.fields.now) (drop c.fields.field-index c.args.fields.now) here c.fields.found c.args.tokens.now c.fields.at
    c.in_ok-place.place c.in_ok-place.ensures.reads c.in_err-value.field-0.0 c.in_err-value.ensures.reads in
    let w : Misses (more_fields (fields_at (turns c.args.tokens.now) c.args.fields.now) _ (from c.args.tokens.now c.args.at)) c.in_err-value.field-0.0 =
    missed_as _ _ c.in_err-value.field-0.0 (λ rest g. c.fields.invariant.same ∙ g) m in
    let p = err_from_is_err_and c.from_residual-in_err-value.result c.from_residual-in_err-value.ensures.1 in
    first_of (search (rules, w), grind (arith, common_steps, w))

pub field_values-fields-preserved : goal.field_values-fields-preserved
field_values-fields-preserved t c =
    let here = fields_from c.args.fields.now c.as_slice-field-items.result.now c.fields.field-index c.field-item.result c.as_slice-field-items.ensures c.fields-test.true c.field-item.is in
    let up = c.in_ok-value.ensures.moves in
    let before = c.in_ok-place.ensures.moves in
    record {
      moved = omega arith;
      same = c.fields.invariant.same
          ∙ field_more (turns c.args.tokens.now) c.field-item.result (drop (c.fields.field-index + 1) c.args.fields.now) (drop c.fields.field-index c.args.fields.now) here c.fields.found c.args.tokens.now c.fields.at
          c.in_ok-place.place c.in_ok-place.ensures.reads c.in_ok-value.value c.in_ok-value.behind c.in_ok-value.ensures.reads
          ∙ ap (λ (xs : List Value). more_fields (fields_at (turns c.args.tokens.now) (drop (c.fields.field-index + 1) c.args.fields.now)) xs (from c.args.tokens.now c.in_ok-value.behind)) (sym c.in_ok-push.ensures.ok);
    }

pub field_values-returns-clause-reads : goal.field_values-returns-clause-reads
field_values-returns-clause-reads t c =
    let none = subst (λ (fs : List (Named SqlType)). drop c.fields.field-index fs ≡ []) c.as_slice-field-items.ensures (drop_all c.fields.field-index c.as_slice-field-items.result.now c.fields-test.false) in
    c.fields.invariant.same ∙ fields_end (turns c.args.tokens.now) (drop c.fields.field-index c.args.fields.now) c.fields.found (from c.args.tokens.now c.fields.at) none

pub structure-returns-then-len-eq0-clause-reads : goal.structure-returns-then-len-eq0-clause-reads
structure-returns-then-len-eq0-clause-reads t c = record {
  rest = from c.args.tokens.now c.args.at;
  is = no_fields (turns c.args.tokens.now) c.args.fields.now (from c.args.tokens.now c.args.at) (sym c.len.ensures ∙ c.if-len-eq0.true);
}

pub structure-returns-clause-reads : goal.structure-returns-clause-reads
structure-returns-clause-reads t c =
    subst (λ (o : Outcome Token Value). Reads c.args.tokens.now o c.in_brackets.result)
    (sym (some_fields (turns c.args.tokens.now) c.args.fields.now (from c.args.tokens.now c.args.at) (λ none. absurd (c.if-len-eq0.false (c.len.ensures ∙ none))))) c.in_brackets.ensures.reads
