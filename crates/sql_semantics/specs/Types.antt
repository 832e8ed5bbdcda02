-- The typing of whole texts: the layers tied, over the definitions of the catalog.
use Rattle.std.specs.Prelude.{true, false, List, [], ◌∷◌, ◌++◌, map, Some, Ok}
use Rattle.sql_types.specs.declared.sql_type.SqlType.{SqlType}
use Rattle.sql_ast.specs.declared.expr.Expr.{Expr, para-Expr}
use Rattle.sql_ast.specs.declared.query.Primary.{Primary, para-Primary}
use Rattle.sql_ast.specs.declared.query.Term.{Term, para-Term}
use Rattle.sql_ast.specs.declared.query.FromItem.{FromItem, para-FromItem}
use Rattle.sql_ast.specs.declared.query.Joined.{Joined, para-Joined}
use Rattle.sql_ast.specs.declared.query.Query.{Query, para-Query}
use Rattle.sql_ast.specs.declared.query.Select.{Select, para-Select}
use Rattle.sql_coerce.specs.declared.arg.Arg.{Arg}
use Rattle.sql_catalog.specs.declared.entries.Argument.{Argument}
use Rattle.sql_catalog.specs.declared.entries.Definition.{Definition}
use Rattle.sql_catalog.specs.declared.entries.Definition.TheVariants.{View, Function}
use Rattle.sql_catalog.specs.declared.entries.Entries.{Entries}
use Rattle.sql_catalog.specs.declared.entries.Written.{Written}
use Rattle.sql_catalog.specs.declared.entries.Written.TheVariants as written
use Rattle.sql_rules.specs.declared.scope.Entry.{Entry}
use Rattle.sql_rules.specs.declared.scope.What.TheVariants as what
use Rattle.written_types.specs.Checks.{Checked, ◌>>=◌, broken}
use Rattle.sql_semantics.specs.Sights.{Sight, nothing_in_sight, inside, for_struct}
use Rattle.sql_semantics.specs.FromScopes.{FromScope}
use Rattle.sql_semantics.specs.Unbuilt.{unbuilt_query, unbuilt_expr}
use Rattle.sql_semantics.specs.TypeForms.{type_of}
use Rattle.sql_semantics.specs.TypeCalls.{Defined, a_view, a_function}
use Rattle.sql_semantics.specs.TypeLayers.{Typings, Columns, expr_layer, primary_layer, term_layer, from_layer, joined_layer, query_layer, select_layer}

abbrev pub AsExpr : Type 0
AsExpr = Sight → Checked Arg

abbrev pub AsPrimary : Type 0
AsPrimary = Sight → List Entry → Checked FromScope

abbrev pub AsFrom : Type 0
AsFrom = Sight → Checked FromScope

abbrev pub AsJoined : Type 0
AsJoined = Sight → FromScope → Checked FromScope

abbrev pub AsColumns : Type 0
AsColumns = Sight → Checked Columns

-- each part of a tree with how it is typed
abbrev pub given : Typings (Expr × AsExpr) (Primary × AsPrimary) (Term × AsColumns) (FromItem × AsFrom) (Joined × AsJoined) (Query × AsColumns) (Select × AsColumns)
given = record {
  tree = λ e. e.0;
  item = λ p. p.0;
  expr = λ e. e.1;
  primary = λ p. p.1;
  from = λ p. p.1;
  joined = λ p. p.1;
  term = λ p. p.1;
  query = λ p. p.1;
  select = λ p. p.1;
}

module _ (catalog : Entries) (definitions : List Defined) where
  unfoldable pub TypeExpr : Expr → Sight → Checked Arg
  TypeExpr = para-Expr AsExpr AsPrimary AsColumns AsFrom AsJoined AsColumns AsColumns
      (expr_layer catalog definitions given) (primary_layer catalog definitions given) (term_layer catalog definitions given) (from_layer catalog definitions given)
      (joined_layer catalog definitions given) (query_layer catalog definitions given) (select_layer catalog definitions given)

  unfoldable pub TypePrimary : Primary → Sight → List Entry → Checked FromScope
  TypePrimary = para-Primary AsExpr AsPrimary AsColumns AsFrom AsJoined AsColumns AsColumns
      (expr_layer catalog definitions given) (primary_layer catalog definitions given) (term_layer catalog definitions given) (from_layer catalog definitions given)
      (joined_layer catalog definitions given) (query_layer catalog definitions given) (select_layer catalog definitions given)

  unfoldable pub TypeFrom : FromItem → Sight → Checked FromScope
  TypeFrom = para-FromItem AsExpr AsPrimary AsColumns AsFrom AsJoined AsColumns AsColumns
      (expr_layer catalog definitions given) (primary_layer catalog definitions given) (term_layer catalog definitions given) (from_layer catalog definitions given)
      (joined_layer catalog definitions given) (query_layer catalog definitions given) (select_layer catalog definitions given)

  unfoldable pub TypeJoined : Joined → Sight → FromScope → Checked FromScope
  TypeJoined = para-Joined AsExpr AsPrimary AsColumns AsFrom AsJoined AsColumns AsColumns
      (expr_layer catalog definitions given) (primary_layer catalog definitions given) (term_layer catalog definitions given) (from_layer catalog definitions given)
      (joined_layer catalog definitions given) (query_layer catalog definitions given) (select_layer catalog definitions given)

  unfoldable pub TypeTerm : Term → Sight → Checked Columns
  TypeTerm = para-Term AsExpr AsPrimary AsColumns AsFrom AsJoined AsColumns AsColumns
      (expr_layer catalog definitions given) (primary_layer catalog definitions given) (term_layer catalog definitions given) (from_layer catalog definitions given)
      (joined_layer catalog definitions given) (query_layer catalog definitions given) (select_layer catalog definitions given)

  -- the columns of a query, or the first broken rule and its place
  unfoldable pub TypeQuery : Query → Sight → Checked Columns
  TypeQuery = para-Query AsExpr AsPrimary AsColumns AsFrom AsJoined AsColumns AsColumns
      (expr_layer catalog definitions given) (primary_layer catalog definitions given) (term_layer catalog definitions given) (from_layer catalog definitions given)
      (joined_layer catalog definitions given) (query_layer catalog definitions given) (select_layer catalog definitions given)

  unfoldable pub TypeSelect : Select → Sight → Checked Columns
  TypeSelect = para-Select AsExpr AsPrimary AsColumns AsFrom AsJoined AsColumns AsColumns
      (expr_layer catalog definitions given) (primary_layer catalog definitions given) (term_layer catalog definitions given) (from_layer catalog definitions given)
      (joined_layer catalog definitions given) (query_layer catalog definitions given) (select_layer catalog definitions given)

  -- each part is typed by its own word
  abbrev pub typed : Typings Expr Primary Term FromItem Joined Query Select
  typed = record { tree = λ e. e; item = λ p. p; expr = TypeExpr; primary = TypePrimary; from = TypeFrom; joined = TypeJoined; term = TypeTerm; query = TypeQuery; select = TypeSelect }

-- ---- the definitions of a catalog

-- the scope of a function's arguments, with the types that they have in a call
abbrev pub argument_scope : List Argument → List SqlType → List Entry
argument_scope [] types = []
argument_scope (a ∷ arguments) [] = []
argument_scope (a ∷ arguments) (type ∷ types) = record { name = Some a.name; what = what.Argument; ty = Some type } ∷ argument_scope arguments types

-- a definition whose text has no tree has no type
abbrev pub view_columns : Entries → List Defined → Written Query → Checked Columns
view_columns catalog before (written.Tree query) = elim (unbuilt_query query) [ true ↦ broken 2 0 | false ↦ TypeQuery catalog before query (for_struct false nothing_in_sight) ]
view_columns catalog before (written.NoTree place) = broken 1 place
view_columns catalog before written.Nested = broken 1 0

abbrev pub body_type : Entries → List Defined → List Argument → Written Expr → List SqlType → Checked SqlType
body_type catalog before arguments (written.Tree body) types = elim (unbuilt_expr body) [
  | true ↦ broken 2 0
  | false ↦ TypeExpr catalog before body (inside nothing_in_sight (argument_scope arguments types)) >>= (λ a. Ok (type_of a))
]
body_type catalog before arguments (written.NoTree place) types = broken 1 place
body_type catalog before arguments written.Nested types = broken 1 0

-- A definition sees all tables, all parameters and the definitions before it.
abbrev pub defined : Entries → List Defined → Definition → Defined
defined catalog before (View v) = a_view (view_columns catalog before v.query)
defined catalog before (Function f) = a_function (map (λ a. a.ty) f.arguments) (body_type catalog before f.arguments f.body)

-- the definitions in order, each over those before it
abbrev pub defined_from : Entries → List Defined → List Definition → List Defined
defined_from catalog before [] = before
defined_from catalog before (d ∷ definitions) = defined_from catalog (before ++ defined catalog before d ∷ []) definitions

abbrev pub definitions_of : Entries → List Defined
definitions_of catalog = defined_from catalog [] catalog.definitions

-- The type of a text: its columns, or the first broken rule and its place. A form that isn't built comes before every other.
abbrev pub TypeText : Entries → Query → Checked Columns
TypeText catalog query = elim (unbuilt_query query) [ true ↦ broken 2 0 | false ↦ TypeQuery catalog (definitions_of catalog) query nothing_in_sight ]
