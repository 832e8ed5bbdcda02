-- What was found so far, before what the rest gives, is all that is found.
use Rattle.std.proofs.Common.{◌≡◌, ◌≤◌, ◌-◌, [], length, drop}
use Rattle.fronts.specs.Readers.{many, Going}
use Rattle.sql_ast.specs.Marks as spec
use Rattle.sql_ast.specs.declared.words.Sign.TheVariants as signs
use Rattle.sql_constants.specs.Readers.{comma_element, constant_at, more_fields, fields_at}
use Rattle.sql_constants.specs.Reads.{from, turns}
use Rattle.sql_constants.proofs.constants.+constants.Given as goal

abbrev pub invariant-more_elements-elements : goal.invariant-more_elements-elements
invariant-more_elements-elements l = record {
  moved : l.fn.at ≤ l.at;
  going : Going l.tokens (spec.sign signs.Comma) (comma_element (constant_at (turns l.tokens) l.element)) (many (spec.sign signs.Comma) (comma_element (constant_at (turns l.tokens) l.element)) (turns l.tokens) l.fn.found (from l.tokens l.fn.at)) l.found l.at;
}

abbrev pub decreases-more_elements-elements : goal.decreases-more_elements-elements
decreases-more_elements-elements l = length l.tokens - l.at

abbrev pub invariant-field_values-fields : goal.invariant-field_values-fields
invariant-field_values-fields l = record {
  moved : l.fn.at ≤ l.at;
  same : more_fields (fields_at (turns l.tokens) l.fields) [] (from l.tokens l.fn.at) ≡ more_fields (fields_at (turns l.tokens) (drop l.field-index l.fields)) l.found (from l.tokens l.at);
}
