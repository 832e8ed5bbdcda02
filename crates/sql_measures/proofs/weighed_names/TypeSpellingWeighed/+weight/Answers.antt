-- Each written type weighs what its law says.
use Rattle.std.proofs.Common.{rules, ap, ◌∙◌}
use Rattle.sql_ast.specs.declared.type_spelling.TypeSpelling.{out-TypeSpelling}
use Rattle.sql_ast.specs.declared.type_spelling.TypeSpelling.TheVariants as type
use Rattle.sql_measures.proofs.WeightLaws.{weight_type, type_at}
use Rattle.sql_measures.proofs.weighed_names.TypeSpellingWeighed.+weight.Goals as goal

pub returns-in-Name : goal.returns-in-Name
returns-in-Name t c = rw (weight_type c.args.self.now ∙ ap type_at (ap out-TypeSpelling c.in-Name.is ∙ type.outs-Name c.in-Name.name)) (search rules)

pub returns-in-Array : goal.returns-in-Array
returns-in-Array t c = rw (weight_type c.args.self.now ∙ ap type_at (ap out-TypeSpelling c.in-Array.is ∙ type.outs-Array c.in-Array.element c.in-Array.place)) (search rules)

pub returns-in-Struct : goal.returns-in-Struct
returns-in-Struct t c = rw (weight_type c.args.self.now ∙ ap type_at (ap out-TypeSpelling c.in-Struct.is ∙ type.outs-Struct c.in-Struct.fields c.in-Struct.place)) (search rules)
