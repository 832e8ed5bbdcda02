use Rattle.std.proofs.Common.{◌∙◌, ap, sym}
use Rattle.std.specs.List.{list_all}
use Rattle.sql_types.specs.declared.sql_type.SqlType.TheVariants as types
use Rattle.sql_types.specs.Fits.{fits}
use Rattle.sql_strings.proofs.ValueLaws.{array-elements, elements-fit}
use Rattle.sql_strings.proofs.arguments.elements_of.Goals as goal

pub returns-in-Array-clause-fit : goal.returns-in-Array-clause-fit
returns-in-Array-clause-fit c =
    ap (list_all (fits types.Text)) (c.as_slice.ensures ∙ sym (array-elements c.args.value.now c.in-Array.elements c.in-Array.is)) ∙ elements-fit c.args.value.now c.requires
