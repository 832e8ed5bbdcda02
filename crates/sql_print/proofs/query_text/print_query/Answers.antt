-- The page that is written from blank is the text of the query's tokens.
use Rattle.std.proofs.Common.{ap, ◌∙◌}
use Rattle.sql_ast.specs.Canon.{canon_pieces}
use Rattle.sql_print.specs.Pages.{written}
use Rattle.sql_print.proofs.PageLaws.{whole_text}
use Rattle.sql_print.proofs.query_text.print_query.Goals as goal

pub returns : goal.returns
returns c = c.finish.ensures ∙ ap (λ p. p.text) (c.in_ok-print.ensures ∙ ap (λ p. written p (canon_pieces c.args.query.now)) c.new-writer.ensures) ∙ whole_text (canon_pieces c.args.query.now)
