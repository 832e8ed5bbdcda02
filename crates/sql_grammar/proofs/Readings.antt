-- The readers of the grammar read it: exactly, and each word. So their answers are those of `Verdict`: for a part the longest
-- front that is read, for a whole text the only tree or the first fault, and they don't hang on the depth.
use Rattle.fronts.proofs.Verdict.{Reads}
use Rattle.sql_ast.specs.Parts.{TypeOf, type_levels}
use Rattle.sql_ast.specs.Grammar.{ExprOf, QueryOf, TextOf}
use Rattle.sql_grammar.specs.Knot.{expr_at, query_at, text_at, written_type_at}
use Rattle.sql_grammar.proofs.Knot.{expr_exact, query_exact, text_exact, type_exact}
use Rattle.sql_grammar.proofs.CompleteQueries.{expr_whole, query_all, text_whole, type_whole}

pub expr_reads : Reads ExprOf expr_at
expr_reads = record { exact = expr_exact; whole = expr_whole }

pub query_reads : Reads QueryOf query_at
query_reads = record { exact = query_exact; whole = query_all }

pub text_reads : Reads TextOf text_at
text_reads = record { exact = text_exact; whole = text_whole }

pub type_reads : Reads (TypeOf type_levels) written_type_at
type_reads = record { exact = type_exact; whole = type_whole }
