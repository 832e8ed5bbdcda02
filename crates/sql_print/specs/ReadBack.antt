-- Which queries a text spells, places aside.
use Rattle.std.specs.Prelude.{ℕ, List, Ok}
use Rattle.sql_ast.specs.declared.query.Query.{Query}
use Rattle.sql_ast.specs.Grammar.{TextOf}
use Rattle.sql_ast.specs.Marks.{Tokens}
use Rattle.sql_ast.specs.Tokens.{TokensOf}
use Rattle.sql_same.specs.Bare.{SamePlacesAside}

-- a text spells a query where its tokens do
pub record TextSpells (text : List ℕ) (query : Query) : Type 0 where
  pub tokens : Tokens
  pub lexed : TokensOf text (Ok tokens)
  pub spelled : TextOf query tokens

-- a text spells a query, places aside
pub record SpellsAside (text : List ℕ) (query : Query) : Type 0 where
  pub read : Query
  pub spells : TextSpells text read
  pub same : SamePlacesAside read query
