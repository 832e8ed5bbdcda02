-- The environment semantics of whole texts: the layers tied, over the definitions of the catalog.
use Rattle.std.specs.Prelude.{List, [], ◌∷◌, ◌++◌, map}
use Rattle.sql_types.specs.declared.sql_type.SqlType.{SqlType}
use Rattle.sql_types.specs.declared.value.Value.{Value}
use Rattle.sql_types.specs.Outcome.{Meaning, nothing}
use Rattle.sql_ast.specs.declared.expr.Expr.{Expr, rec-Expr}
use Rattle.sql_ast.specs.declared.query.Primary.{Primary, rec-Primary}
use Rattle.sql_ast.specs.declared.query.Term.{Term, rec-Term}
use Rattle.sql_ast.specs.declared.query.FromItem.{FromItem, rec-FromItem}
use Rattle.sql_ast.specs.declared.query.Joined.{Joined, rec-Joined}
use Rattle.sql_ast.specs.declared.query.Query.{Query, rec-Query}
use Rattle.sql_ast.specs.declared.query.Select.{Select, rec-Select}
use Rattle.sql_catalog.specs.declared.entries.Argument.{Argument}
use Rattle.sql_catalog.specs.declared.entries.Definition.{Definition}
use Rattle.sql_catalog.specs.declared.entries.Definition.TheVariants.{View, Function}
use Rattle.sql_catalog.specs.declared.entries.Entries.{Entries}
use Rattle.sql_catalog.specs.declared.entries.Written.{Written}
use Rattle.sql_catalog.specs.declared.entries.Written.TheVariants as written
use Rattle.sql_semantics.specs.FromScopes.{FromScope}
use Rattle.sql_semantics.specs.TypeCalls.{Defined}
use Rattle.sql_semantics.specs.Types.{defined, argument_scope, definitions_of}
use Rattle.sql_semantics.specs.Environments.{Row, Frame, Env, empty_env, within}
use Rattle.sql_semantics.specs.MeansLayers.{TableRows, Meant, view_means, function_means, Meanings, expr_means, primary_means, term_means, from_means, joined_means, query_means, select_means}

abbrev pub ME : Type 1
ME = Env → Meaning Value

abbrev pub MP : Type 1
MP = Env → Frame → Meaning (List Row)

abbrev pub MJ : Type 1
MJ = Env → FromScope → Meaning (List Row) → Meaning (List Row)

abbrev pub MQ : Type 1
MQ = Env → Meaning (List Row)

-- the trees of the parts, and what they mean
abbrev pub meanings : {E P T F J Q S : Type 0} → (E → Expr) → (P → Primary) → (F → FromItem) → (J → Joined) → (Q → Query)
    → (E → ME) → (P → MP) → (T → MQ) → (F → MQ) → (J → MJ) → (Q → MQ) → (S → MQ) → Meanings E P T F J Q S
meanings ve vp vf vj vq e p t f j q s = record {
  tree = ve;
  item = vp;
  from_tree = vf;
  joined_tree = vj;
  query_tree = vq;
  expr = e;
  primary = p;
  from = f;
  joined = j;
  term = t;
  query = q;
  select = s;
}

module _ (catalog : Entries) (definitions : List Defined) (meant : List Meant) (tables : TableRows) (params : List Value) where
  unfoldable pub MeansExpr : Expr → Env → Meaning Value
  MeansExpr = rec-Expr ME MP MQ MQ MJ MQ MQ
      (λ E P T F J Q S ve vp vt vf vj vq vs e p t f j q s. expr_means catalog definitions meant tables params (meanings ve vp vf vj vq e p t f j q s))
      (λ E P T F J Q S ve vp vt vf vj vq vs e p t f j q s. primary_means catalog definitions meant tables params (meanings ve vp vf vj vq e p t f j q s))
      (λ E P T F J Q S ve vp vt vf vj vq vs e p t f j q s. term_means catalog definitions meant tables params (meanings ve vp vf vj vq e p t f j q s))
      (λ E P T F J Q S ve vp vt vf vj vq vs e p t f j q s. from_means catalog definitions meant tables params (meanings ve vp vf vj vq e p t f j q s))
      (λ E P T F J Q S ve vp vt vf vj vq vs e p t f j q s. joined_means catalog definitions meant tables params (meanings ve vp vf vj vq e p t f j q s))
      (λ E P T F J Q S ve vp vt vf vj vq vs e p t f j q s. query_means catalog definitions meant tables params (meanings ve vp vf vj vq e p t f j q s))
      (λ E P T F J Q S ve vp vt vf vj vq vs e p t f j q s. select_means catalog definitions meant tables params (meanings ve vp vf vj vq e p t f j q s))

  unfoldable pub MeansPrimary : Primary → Env → Frame → Meaning (List Row)
  MeansPrimary = rec-Primary ME MP MQ MQ MJ MQ MQ
      (λ E P T F J Q S ve vp vt vf vj vq vs e p t f j q s. expr_means catalog definitions meant tables params (meanings ve vp vf vj vq e p t f j q s))
      (λ E P T F J Q S ve vp vt vf vj vq vs e p t f j q s. primary_means catalog definitions meant tables params (meanings ve vp vf vj vq e p t f j q s))
      (λ E P T F J Q S ve vp vt vf vj vq vs e p t f j q s. term_means catalog definitions meant tables params (meanings ve vp vf vj vq e p t f j q s))
      (λ E P T F J Q S ve vp vt vf vj vq vs e p t f j q s. from_means catalog definitions meant tables params (meanings ve vp vf vj vq e p t f j q s))
      (λ E P T F J Q S ve vp vt vf vj vq vs e p t f j q s. joined_means catalog definitions meant tables params (meanings ve vp vf vj vq e p t f j q s))
      (λ E P T F J Q S ve vp vt vf vj vq vs e p t f j q s. query_means catalog definitions meant tables params (meanings ve vp vf vj vq e p t f j q s))
      (λ E P T F J Q S ve vp vt vf vj vq vs e p t f j q s. select_means catalog definitions meant tables params (meanings ve vp vf vj vq e p t f j q s))

  unfoldable pub MeansTerm : Term → Env → Meaning (List Row)
  MeansTerm = rec-Term ME MP MQ MQ MJ MQ MQ
      (λ E P T F J Q S ve vp vt vf vj vq vs e p t f j q s. expr_means catalog definitions meant tables params (meanings ve vp vf vj vq e p t f j q s))
      (λ E P T F J Q S ve vp vt vf vj vq vs e p t f j q s. primary_means catalog definitions meant tables params (meanings ve vp vf vj vq e p t f j q s))
      (λ E P T F J Q S ve vp vt vf vj vq vs e p t f j q s. term_means catalog definitions meant tables params (meanings ve vp vf vj vq e p t f j q s))
      (λ E P T F J Q S ve vp vt vf vj vq vs e p t f j q s. from_means catalog definitions meant tables params (meanings ve vp vf vj vq e p t f j q s))
      (λ E P T F J Q S ve vp vt vf vj vq vs e p t f j q s. joined_means catalog definitions meant tables params (meanings ve vp vf vj vq e p t f j q s))
      (λ E P T F J Q S ve vp vt vf vj vq vs e p t f j q s. query_means catalog definitions meant tables params (meanings ve vp vf vj vq e p t f j q s))
      (λ E P T F J Q S ve vp vt vf vj vq vs e p t f j q s. select_means catalog definitions meant tables params (meanings ve vp vf vj vq e p t f j q s))

  unfoldable pub MeansFrom : FromItem → Env → Meaning (List Row)
  MeansFrom = rec-FromItem ME MP MQ MQ MJ MQ MQ
      (λ E P T F J Q S ve vp vt vf vj vq vs e p t f j q s. expr_means catalog definitions meant tables params (meanings ve vp vf vj vq e p t f j q s))
      (λ E P T F J Q S ve vp vt vf vj vq vs e p t f j q s. primary_means catalog definitions meant tables params (meanings ve vp vf vj vq e p t f j q s))
      (λ E P T F J Q S ve vp vt vf vj vq vs e p t f j q s. term_means catalog definitions meant tables params (meanings ve vp vf vj vq e p t f j q s))
      (λ E P T F J Q S ve vp vt vf vj vq vs e p t f j q s. from_means catalog definitions meant tables params (meanings ve vp vf vj vq e p t f j q s))
      (λ E P T F J Q S ve vp vt vf vj vq vs e p t f j q s. joined_means catalog definitions meant tables params (meanings ve vp vf vj vq e p t f j q s))
      (λ E P T F J Q S ve vp vt vf vj vq vs e p t f j q s. query_means catalog definitions meant tables params (meanings ve vp vf vj vq e p t f j q s))
      (λ E P T F J Q S ve vp vt vf vj vq vs e p t f j q s. select_means catalog definitions meant tables params (meanings ve vp vf vj vq e p t f j q s))

  unfoldable pub MeansJoined : Joined → Env → FromScope → Meaning (List Row) → Meaning (List Row)
  MeansJoined = rec-Joined ME MP MQ MQ MJ MQ MQ
      (λ E P T F J Q S ve vp vt vf vj vq vs e p t f j q s. expr_means catalog definitions meant tables params (meanings ve vp vf vj vq e p t f j q s))
      (λ E P T F J Q S ve vp vt vf vj vq vs e p t f j q s. primary_means catalog definitions meant tables params (meanings ve vp vf vj vq e p t f j q s))
      (λ E P T F J Q S ve vp vt vf vj vq vs e p t f j q s. term_means catalog definitions meant tables params (meanings ve vp vf vj vq e p t f j q s))
      (λ E P T F J Q S ve vp vt vf vj vq vs e p t f j q s. from_means catalog definitions meant tables params (meanings ve vp vf vj vq e p t f j q s))
      (λ E P T F J Q S ve vp vt vf vj vq vs e p t f j q s. joined_means catalog definitions meant tables params (meanings ve vp vf vj vq e p t f j q s))
      (λ E P T F J Q S ve vp vt vf vj vq vs e p t f j q s. query_means catalog definitions meant tables params (meanings ve vp vf vj vq e p t f j q s))
      (λ E P T F J Q S ve vp vt vf vj vq vs e p t f j q s. select_means catalog definitions meant tables params (meanings ve vp vf vj vq e p t f j q s))

  unfoldable pub MeansQuery : Query → Env → Meaning (List Row)
  MeansQuery = rec-Query ME MP MQ MQ MJ MQ MQ
      (λ E P T F J Q S ve vp vt vf vj vq vs e p t f j q s. expr_means catalog definitions meant tables params (meanings ve vp vf vj vq e p t f j q s))
      (λ E P T F J Q S ve vp vt vf vj vq vs e p t f j q s. primary_means catalog definitions meant tables params (meanings ve vp vf vj vq e p t f j q s))
      (λ E P T F J Q S ve vp vt vf vj vq vs e p t f j q s. term_means catalog definitions meant tables params (meanings ve vp vf vj vq e p t f j q s))
      (λ E P T F J Q S ve vp vt vf vj vq vs e p t f j q s. from_means catalog definitions meant tables params (meanings ve vp vf vj vq e p t f j q s))
      (λ E P T F J Q S ve vp vt vf vj vq vs e p t f j q s. joined_means catalog definitions meant tables params (meanings ve vp vf vj vq e p t f j q s))
      (λ E P T F J Q S ve vp vt vf vj vq vs e p t f j q s. query_means catalog definitions meant tables params (meanings ve vp vf vj vq e p t f j q s))
      (λ E P T F J Q S ve vp vt vf vj vq vs e p t f j q s. select_means catalog definitions meant tables params (meanings ve vp vf vj vq e p t f j q s))

  unfoldable pub MeansSelect : Select → Env → Meaning (List Row)
  MeansSelect = rec-Select ME MP MQ MQ MJ MQ MQ
      (λ E P T F J Q S ve vp vt vf vj vq vs e p t f j q s. expr_means catalog definitions meant tables params (meanings ve vp vf vj vq e p t f j q s))
      (λ E P T F J Q S ve vp vt vf vj vq vs e p t f j q s. primary_means catalog definitions meant tables params (meanings ve vp vf vj vq e p t f j q s))
      (λ E P T F J Q S ve vp vt vf vj vq vs e p t f j q s. term_means catalog definitions meant tables params (meanings ve vp vf vj vq e p t f j q s))
      (λ E P T F J Q S ve vp vt vf vj vq vs e p t f j q s. from_means catalog definitions meant tables params (meanings ve vp vf vj vq e p t f j q s))
      (λ E P T F J Q S ve vp vt vf vj vq vs e p t f j q s. joined_means catalog definitions meant tables params (meanings ve vp vf vj vq e p t f j q s))
      (λ E P T F J Q S ve vp vt vf vj vq vs e p t f j q s. query_means catalog definitions meant tables params (meanings ve vp vf vj vq e p t f j q s))
      (λ E P T F J Q S ve vp vt vf vj vq vs e p t f j q s. select_means catalog definitions meant tables params (meanings ve vp vf vj vq e p t f j q s))

  -- each part means what its own word says
  abbrev pub meant_parts : Meanings Expr Primary Term FromItem Joined Query Select
  meant_parts = meanings (λ e. e) (λ p. p) (λ f. f) (λ j. j) (λ q. q) MeansExpr MeansPrimary MeansTerm MeansFrom MeansJoined MeansQuery MeansSelect

-- ---- the definitions of a catalog

-- A view's query is evaluated in the empty environment, and a function's body in one of its arguments alone. Both see the
-- definitions before them.
abbrev pub MeansView : Entries → List Defined → List Meant → TableRows → List Value → Written Query → Meaning (List Row)
MeansView catalog typed before tables params (written.Tree query) = MeansQuery catalog typed before tables params query empty_env
MeansView catalog typed before tables params (written.NoTree place) = nothing
MeansView catalog typed before tables params written.Nested = nothing

abbrev pub MeansCall : Entries → List Defined → List Meant → TableRows → List Value → List Argument → Written Expr → List SqlType → List Value → Meaning Value
MeansCall catalog typed before tables params arguments (written.Tree body) types values =
    MeansExpr catalog typed before tables params body (within empty_env (record { scope = argument_scope arguments types; values = values }))
MeansCall catalog typed before tables params arguments (written.NoTree place) types values = nothing
MeansCall catalog typed before tables params arguments written.Nested types values = nothing

abbrev pub meant_definition : Entries → List Defined → List Meant → TableRows → List Value → Definition → Meant
meant_definition catalog typed before tables params (View v) = view_means (MeansView catalog typed before tables params v.query)
meant_definition catalog typed before tables params (Function f) =
    function_means (map (λ a. a.ty) f.arguments) (MeansCall catalog typed before tables params f.arguments f.body)

-- the definitions in order, each over those before it, as they are typed and as they mean
abbrev pub meant_from : Entries → TableRows → List Value → List Defined → List Meant → List Definition → List Meant
meant_from catalog tables params typed before [] = before
meant_from catalog tables params typed before (d ∷ definitions) =
    meant_from catalog tables params (typed ++ defined catalog typed d ∷ []) (before ++ meant_definition catalog typed before tables params d ∷ []) definitions

abbrev pub meant_of : Entries → TableRows → List Value → List Meant
meant_of catalog tables params = meant_from catalog tables params [] [] catalog.definitions

-- The environment semantics: what a query permits in the empty environment, over the rows of the catalog's tables and the
-- values of its parameters.
abbrev pub Permits : Entries → TableRows → List Value → Query → Meaning (List Row)
Permits catalog tables params query = MeansQuery catalog (definitions_of catalog) (meant_of catalog tables params) tables params query empty_env
