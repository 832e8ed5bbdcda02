use Rattle.std.proofs.Common.{subst, map}
use Rattle.sql_ast.specs.declared.pieces.Shape.{Shape}
use Rattle.sql_ast.specs.Classes.{class}
use Rattle.sql_ast.specs.Forms.{Form}
use Rattle.sql_lexer.proofs.Marks.{literal_marked, name_marked, quoted_parameter_marked, parameter_starts}
use Rattle.sql_lexer.proofs.piece.meaning.Goals as goal

pub literal-requires : goal.literal-requires
literal-requires c = literal_marked c.args.text.now c.utf8.text c.in-Literal.prefix c.in-Literal.quotes (subst (λ (a : Shape). Form a (map class c.args.text.now)) (c.in-Literal.is) c.requires)

pub quoted_name_piece-requires : goal.quoted_name_piece-requires
quoted_name_piece-requires c = name_marked c.args.text.now c.utf8.text (subst (λ (a : Shape). Form a (map class c.args.text.now)) (c.in-QuotedName.is) c.requires)

pub quoted_parameter_piece-requires : goal.quoted_parameter_piece-requires
quoted_parameter_piece-requires c = quoted_parameter_marked c.args.text.now c.utf8.text (subst (λ (a : Shape). Form a (map class c.args.text.now)) (c.in-QuotedParameter.is) c.requires)

pub parameter_piece-requires : goal.parameter_piece-requires
parameter_piece-requires c = parameter_starts c.args.text.now c.utf8.text (subst (λ (a : Shape). Form a (map class c.args.text.now)) (c.in-Parameter.is) c.requires)
