-- What the text of a tree shows, and what a tree keeps of a query's text.
use Rattle.std.specs.Prelude.{◌≡◌, ℕ, zero, suc, List, [], ◌∷◌, map, length, Ok}
use Rattle.sql_ast.specs.declared.query.Query.{Query}
use Rattle.sql_catalog.specs.declared.entries.Entries.{Entries}
use Rattle.sql_semantics.specs.Types.{TypeText}
use Rattle.resolved_ast.specs.declared.scan.Output.{Output}
use Rattle.resolved_ast.specs.declared.scan.Tree.{Tree}
use Rattle.resolved_ast.specs.Flaws.{Valid}
use Rattle.resolved_ast.specs.TreeText.{TreeText}
use Rattle.tree_refines.specs.Nodes.{made_columns}
use Rattle.tree_refines.specs.Over.{Over}
use Rattle.tree_refines.specs.Plain.{Plain}
use Rattle.tree_refines.specs.Refines.{Refines}

-- a tree that the query may have: it refines the query, and its outputs have the names and types of the query's columns
pub record TreeOf (catalog : Entries) (query : Query) (tree : Tree) : Type 0 where
  pub refines : Refines catalog tree query
  pub outputs : TypeText catalog query ≡ Ok (map (λ (o : Output). record { name = o.name; ty = o.ty }) tree.outputs)

-- Some valid tree over the catalog has this text, and each valid tree over the catalog that has it is one that the query may have.
pub record Shows (catalog : Entries) (text : List ℕ) (query : Query) : Type 0 where
  pub tree : Tree
  pub valid : Valid tree
  pub over : Over catalog tree
  pub has_text : TreeText tree ≡ text
  pub each : (other : Tree) → Valid other → Over catalog other → TreeText other ≡ text → TreeOf catalog query other

-- so many numbers, from this one on
abbrev pub counted : ℕ → ℕ → List ℕ
counted first zero = []
counted first (suc n) = first ∷ counted (suc first) n

-- The columns that the tree makes are numbered from 1 on in the order of its text. No node stands for a view, a function or a form
-- that the rewriters take away, so the catalog has no view and no function, and the text none of these forms.
pub record Keeps (catalog : Entries) (tree : Tree) (query : Query) : Type 0 where
  pub numbered : made_columns tree.scan ≡ counted 1 (length (made_columns tree.scan))
  pub undefined : catalog.definitions ≡ []
  pub plain : Plain query
