-- The text so far, and what comes of the elements that are left, is the whole answer.
use Rattle.std.proofs.Common.{◌≡◌, ◌++◌, drop, true, Some, None, if◌then◌else◌}
use Rattle.std.specs.List.{list_all}
use Rattle.std.specs.String.{string_bytes}
use Rattle.sql_types.specs.declared.sql_type.SqlType.TheVariants as types
use Rattle.sql_types.specs.Fits.{fits}
use Rattle.sql_strings.specs.Texts.{joined_by}
use Rattle.sql_strings.specs.Rows.{element_texts}
use Rattle.sql_strings.proofs.JoinLaws.{Rest}
use Rattle.sql_strings.proofs.array_to_string.joined_elements.Given as goal

abbrev pub invariant-loop-element : goal.invariant-loop-element
invariant-loop-element l = record {
  so_far : string_bytes l.made ++ Rest l.is_first l.separator (element_texts (if l.keeps_nulls then Some l.null_text else None) (drop l.element-index l.elements))
      ≡ joined_by l.separator (element_texts (if l.keeps_nulls then Some l.null_text else None) l.elements);
  fit : list_all (fits types.Text) (drop l.element-index l.elements) ≡ true;
}
