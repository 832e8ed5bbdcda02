-- The tokens of the clauses of SELECT and of queries, given the tokens of the trees in them.
use Rattle.std.specs.Prelude.{Bool, List, [], ◌∷◌, ◌++◌, Option}
use Rattle.sql_names.specs.declared.words.Reserved.{Reserved}
use Rattle.sql_names.specs.declared.words.Reserved.TheVariants as r
use Rattle.sql_ast.specs.declared.grouping.Groups.{Groups}
use Rattle.sql_ast.specs.Pieces.{Piece, word, if_there, if_so}
use Rattle.sql_print.specs.PartPieces.{groups_pieces}

abbrev pub front_pieces : Bool → Bool → List Piece
front_pieces distinct as_struct = if_so distinct (word r.Distinct ∷ []) ++ if_so as_struct (word r.As ∷ word r.Struct ∷ [])

abbrev pub clause_pieces : {P : Type 0} → (P → List Piece) → Reserved → Option P → List Piece
clause_pieces says w part = if_there (λ x. word w ∷ says x) part

abbrev pub grouping_pieces : {E : Type 0} → (E → List Piece) → Option (Groups E) → List Piece
grouping_pieces says grouping = if_there (λ g. word r.Group ∷ word r.By ∷ groups_pieces says g) grouping
