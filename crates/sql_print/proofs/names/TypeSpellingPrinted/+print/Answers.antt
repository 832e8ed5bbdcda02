-- Each written type is printed as its law says.
use Rattle.std.proofs.Common.{rules, ap, ◌∙◌}
use Rattle.sql_ast.specs.declared.type_spelling.TypeSpelling.{out-TypeSpelling}
use Rattle.sql_ast.specs.declared.type_spelling.TypeSpelling.TheVariants as type
use Rattle.sql_print.proofs.TypeLaws.{print_type, type_at}
use Rattle.sql_print.proofs.names.TypeSpellingPrinted.+print.Goals as goal

pub returns-in-Name : goal.returns-in-Name
returns-in-Name t c = rw (print_type c.args.self.now ∙ ap type_at (ap out-TypeSpelling c.in-Name.is ∙ type.outs-Name c.in-Name.name)) (search rules)

pub returns-in_ok-word-in-Array : goal.returns-in_ok-word-in-Array
returns-in_ok-word-in-Array t c = rw (print_type c.args.self.now ∙ ap type_at (ap out-TypeSpelling c.in-Array.is ∙ type.outs-Array c.in-Array.element c.in-Array.place)) (search rules)

pub returns-in_ok-word-in-Struct : goal.returns-in_ok-word-in-Struct
returns-in_ok-word-in-Struct t c = rw (print_type c.args.self.now ∙ ap type_at (ap out-TypeSpelling c.in-Struct.is ∙ type.outs-Struct c.in-Struct.fields c.in-Struct.place)) (search rules)
