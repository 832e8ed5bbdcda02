use Rattle.sql_grammar.proofs.CompleteQueries.{text_once, query_once, expr_once}
use Rattle.parse_query.proofs.laws.one_tree.Goals as goal

pub returns : goal.returns
returns c = record { text = λ a b u l m. text_once a b u l m; query = λ a b u l m. query_once a b u l m; expr = λ a b u l m. expr_once a b u l m }
