-- What a text means in an environment: which outcomes it permits.
use Rattle.std.specs.Prelude.{◌≡◌, ℕ, Bool, true, false, List, [], ◌∷◌, ◌++◌, map, Option, None, Some, Ok, slice_get, slice_index_or}
use Rattle.sql_types.specs.declared.value.Value.{Value, out-Value}
use Rattle.sql_types.specs.declared.value.Value.TheVariants as value
use Rattle.sql_types.specs.declared.value.Value.TheOpen as v
use Rattle.sql_types.specs.Same.{equal}
use Rattle.sql_types.specs.Arranged.{Arranged}
use Rattle.sql_types.specs.Outcome.{Meaning, gives, nothing, ◌>>=◌, Gather}
use Rattle.sql_ast.specs.declared.clauses.Item.{Item}
use Rattle.sql_ast.specs.declared.clauses.Item.TheVariants as item
use Rattle.sql_ast.specs.declared.clauses.FilterPart.{FilterPart}
use Rattle.sql_ast.specs.declared.clauses.LimitPart.{LimitPart}
use Rattle.sql_ast.specs.declared.clauses.Sort.{Sort}
use Rattle.sql_ast.specs.declared.grouping.Groups.{Groups}
use Rattle.sql_ast.specs.declared.query.Cte.{Cte}
use Rattle.sql_ast.specs.declared.query.SetTerm.{SetTerm}
use Rattle.sql_ast.specs.declared.expr.Comparison.TheVariants as comparison
use Rattle.sql_ast.specs.declared.expr.Comparison.{Comparison}
use Rattle.sql_ast.specs.declared.expr.Expr.{Expr, rec-Expr}
use Rattle.sql_ast.specs.declared.query.Primary.{Primary, rec-Primary}
use Rattle.sql_ast.specs.declared.query.Term.{Term, rec-Term}
use Rattle.sql_ast.specs.declared.query.FromItem.{FromItem, rec-FromItem}
use Rattle.sql_ast.specs.declared.query.Joined.{Joined, rec-Joined}
use Rattle.sql_ast.specs.declared.query.Query.{Query, rec-Query}
use Rattle.sql_ast.specs.declared.query.Select.{Select, rec-Select}
use Rattle.sql_ast.specs.declared.expr.Expr.TheOpen as ast
use Rattle.sql_ast.specs.declared.expr.Expr.TheOpen.{Expr-F, Primary-F, Term-F, FromItem-F, Joined-F, Query-F, Select-F}
use Rattle.sql_catalog.specs.declared.entries.Entries.{Entries}
use Rattle.sql_catalog.specs.declared.entries.TableDef.{TableDef}
use Rattle.sql_rules.specs.declared.scope.Entry.{Entry}
use Rattle.sql_rules.specs.declared.scope.Found.{Found}
use Rattle.sql_rules.specs.declared.scope.Found.TheVariants.{Bound, Missing, Ambiguous}
use Rattle.sql_rules.specs.Scopes.{found}
use Rattle.sql_rules.specs.Tables.{Tables, table_from, table_scope, table_values}
use Rattle.sql_rules.specs.Typing.{integer_value}

abbrev pub Row : Type 0
Row = List Value

-- a scope with a value per entry
pub record Frame : Type 0 where
  pub scope : List Entry
  pub values : List Value

-- the frames in sight, the innermost last
pub record Env : Type 0 where
  pub frames : List Frame

abbrev pub empty_env : Env
empty_env = record { frames = [] }

-- one more frame inside
abbrev pub within : Env → Frame → Env
within env frame = record { frames = env.frames ++ frame ∷ [] }

abbrev pub scopes_of : Env → List (List Entry)
scopes_of env = map (λ f. f.scope) env.frames

-- ---- expressions

-- the value of the entry that a name has found
abbrev pub Reads : Env → Found → Meaning Value
Reads env Missing o = ⊥
Reads env Ambiguous o = ⊥
Reads env (Bound b) o = (frame : Frame) × (x : Value) × (slice_get env.frames b.level ≡ Some frame) × (slice_get frame.values b.slot ≡ Some x) × (o ≡ Ok x)

-- TRUE, FALSE, or NULL
abbrev pub truth : Option Bool → Value
truth None = value.Null
truth (Some b) = value.Bool b

abbrev pub compare : Comparison → List Value → Meaning Value
compare comparison.Equal (x ∷ y ∷ []) = gives (truth (equal x y))
compare _ xs = nothing

-- ---- rows

abbrev pub is_true : v.Value-F Value → Bool
is_true (v.Bool b) = b
is_true _ = false

abbrev pub keep_if : {A : Type 0} → Bool → A → List A → List A
keep_if true x xs = x ∷ xs
keep_if false x xs = xs

-- the elements whose test is TRUE, one test for each
abbrev pub kept : {A : Type 0} → List A → List Value → List A
kept [] tests = []
kept (x ∷ xs) [] = []
kept (x ∷ xs) (test ∷ tests) = keep_if (is_true (out-Value test)) x (kept xs tests)

-- any order of the rows
abbrev pub in_any_order : List Row → Meaning (List Row)
in_any_order rows o = (list : List Row) × Arranged [] rows list × (o ≡ Ok list)

-- ---- the layers, one case per construct, over what the parts mean

pub record Meanings (E P T F J Q S : Type 0) : Type 1 where
  pub expr : E → Env → Meaning Value
  pub primary : P → Env → Meaning (List Frame)
  pub term : T → Env → Meaning (List Row)
  pub from : F → Env → Meaning (List Frame)
  pub joined : J → Env → Meaning (List Frame)
  pub query : Q → Env → Meaning (List Row)
  pub select : S → Env → Meaning (List Row)

module _ (catalog : Entries) (tables : Tables) where
  -- a table's rows under its range variable, as bindings
  abbrev pub table_frames : TableDef → List Row → List Frame
  table_frames def rows = map (λ row. record { scope = table_scope def.name def.columns; values = table_values row }) rows

  -- a table gives its rows
  abbrev pub table_means : Option (ℕ × TableDef) → Meaning (List Frame)
  table_means None = nothing
  table_means (Some found) = gives (table_frames found.1 (slice_index_or tables found.0 []))

  module _ {E P T F J Q S : Type 0} (parts : Meanings E P T F J Q S) where
    abbrev pub expr_means : Expr-F E P T F J Q S → Env → Meaning Value
    expr_means (ast.Integer n place) env = gives (integer_value n)
    expr_means (ast.Text text place) env = gives (value.Text text)
    expr_means (ast.Name name place) env = Reads env (found (scopes_of env) name [])
    -- both operands gather, and then they are compared
    expr_means (ast.Compare left operator operator_place right place) env =
        Gather (parts.expr left env ∷ parts.expr right env ∷ []) >>= compare operator
    expr_means _ env = nothing

    abbrev pub primary_means : Primary-F E P T F J Q S → Env → Meaning (List Frame)
    primary_means (ast.Table name None None place) env = table_means (table_from 0 catalog.tables name.text)
    primary_means _ env = nothing

    abbrev pub first_means : List J → Meaning (List Frame) → Meaning (List Frame)
    first_means [] first = first
    first_means (j ∷ js) first = nothing

    abbrev pub from_means : FromItem-F E P T F J Q S → Env → Meaning (List Frame)
    from_means f env = first_means f.rest (parts.primary f.first env)

    abbrev pub joined_means : Joined-F E P T F J Q S → Env → Meaning (List Frame)
    joined_means j env = nothing

    abbrev pub item_means : Item E → Env → Meaning Value
    item_means (item.Expr e None place) env = parts.expr e env
    item_means _ env = nothing

    -- the items of one row gather
    abbrev pub row_means : List (Item E) → Env → Meaning Row
    row_means items env = Gather (map (λ i. item_means i env) items)

    -- WHERE gathers over the rows of FROM, and keeps those for which it is TRUE; then the items gather over these
    abbrev pub select_means_of : F → E → List (Item E) → Env → Meaning (List Row)
    select_means_of from test items env =
        parts.from from env >>= (λ frames.
        Gather (map (λ frame. parts.expr test (within env frame)) frames) >>= (λ tests.
        Gather (map (λ frame. row_means items (within env frame)) (kept frames tests))))

    abbrev pub plain_select_means : Bool → Bool → Option F → Option E → Option (Groups E) → Option (FilterPart E) → List (Item E) → Env → Meaning (List Row)
    plain_select_means false false (Some from) (Some test) None None items env = select_means_of from test items env
    plain_select_means _ _ _ _ _ _ items env = nothing

    abbrev pub select_means : Select-F E P T F J Q S → Env → Meaning (List Row)
    select_means s env = plain_select_means s.distinct s.as_struct s.from s.filter s.grouping s.having s.items env

    abbrev pub term_means : Term-F E P T F J Q S → Env → Meaning (List Row)
    term_means (ast.Select select) env = parts.select select env
    term_means _ env = nothing

    -- a query without ORDER BY permits every order of its rows
    abbrev pub plain_query_means : List (Cte Q) → List (SetTerm T) → List (Sort E) → Option (LimitPart E) → Meaning (List Row) → Meaning (List Row)
    plain_query_means [] [] [] None first = first >>= in_any_order
    plain_query_means _ _ _ _ first = nothing

    abbrev pub query_means : Query-F E P T F J Q S → Env → Meaning (List Row)
    query_means q env = plain_query_means q.ctes q.body.rest q.order q.limit (parts.term q.body.first env)

  -- ---- the layers tied: each part means what its own layer says

  abbrev ME : Type 1
  ME = Env → Meaning Value

  abbrev MF : Type 1
  MF = Env → Meaning (List Frame)

  abbrev MQ : Type 1
  MQ = Env → Meaning (List Row)

  abbrev pub meanings : {E P T F J Q S : Type 0} → (E → ME) → (P → MF) → (T → MQ) → (F → MF) → (J → MF) → (Q → MQ) → (S → MQ) → Meanings E P T F J Q S
  meanings e p t f j q s = record { expr = e; primary = p; term = t; from = f; joined = j; query = q; select = s }

  unfoldable pub MeansExpr : Expr → Env → Meaning Value
  MeansExpr = rec-Expr ME MF MQ MF MF MQ MQ
      (λ E P T F J Q S _ _ _ _ _ _ _ e p t f j q s. expr_means (meanings e p t f j q s)) (λ E P T F J Q S _ _ _ _ _ _ _ e p t f j q s. primary_means (meanings e p t f j q s))
      (λ E P T F J Q S _ _ _ _ _ _ _ e p t f j q s. term_means (meanings e p t f j q s)) (λ E P T F J Q S _ _ _ _ _ _ _ e p t f j q s. from_means (meanings e p t f j q s))
      (λ E P T F J Q S _ _ _ _ _ _ _ e p t f j q s. joined_means (meanings e p t f j q s)) (λ E P T F J Q S _ _ _ _ _ _ _ e p t f j q s. query_means (meanings e p t f j q s))
      (λ E P T F J Q S _ _ _ _ _ _ _ e p t f j q s. select_means (meanings e p t f j q s))

  unfoldable pub MeansPrimary : Primary → Env → Meaning (List Frame)
  MeansPrimary = rec-Primary ME MF MQ MF MF MQ MQ
      (λ E P T F J Q S _ _ _ _ _ _ _ e p t f j q s. expr_means (meanings e p t f j q s)) (λ E P T F J Q S _ _ _ _ _ _ _ e p t f j q s. primary_means (meanings e p t f j q s))
      (λ E P T F J Q S _ _ _ _ _ _ _ e p t f j q s. term_means (meanings e p t f j q s)) (λ E P T F J Q S _ _ _ _ _ _ _ e p t f j q s. from_means (meanings e p t f j q s))
      (λ E P T F J Q S _ _ _ _ _ _ _ e p t f j q s. joined_means (meanings e p t f j q s)) (λ E P T F J Q S _ _ _ _ _ _ _ e p t f j q s. query_means (meanings e p t f j q s))
      (λ E P T F J Q S _ _ _ _ _ _ _ e p t f j q s. select_means (meanings e p t f j q s))

  unfoldable pub MeansTerm : Term → Env → Meaning (List Row)
  MeansTerm = rec-Term ME MF MQ MF MF MQ MQ
      (λ E P T F J Q S _ _ _ _ _ _ _ e p t f j q s. expr_means (meanings e p t f j q s)) (λ E P T F J Q S _ _ _ _ _ _ _ e p t f j q s. primary_means (meanings e p t f j q s))
      (λ E P T F J Q S _ _ _ _ _ _ _ e p t f j q s. term_means (meanings e p t f j q s)) (λ E P T F J Q S _ _ _ _ _ _ _ e p t f j q s. from_means (meanings e p t f j q s))
      (λ E P T F J Q S _ _ _ _ _ _ _ e p t f j q s. joined_means (meanings e p t f j q s)) (λ E P T F J Q S _ _ _ _ _ _ _ e p t f j q s. query_means (meanings e p t f j q s))
      (λ E P T F J Q S _ _ _ _ _ _ _ e p t f j q s. select_means (meanings e p t f j q s))

  unfoldable pub MeansFrom : FromItem → Env → Meaning (List Frame)
  MeansFrom = rec-FromItem ME MF MQ MF MF MQ MQ
      (λ E P T F J Q S _ _ _ _ _ _ _ e p t f j q s. expr_means (meanings e p t f j q s)) (λ E P T F J Q S _ _ _ _ _ _ _ e p t f j q s. primary_means (meanings e p t f j q s))
      (λ E P T F J Q S _ _ _ _ _ _ _ e p t f j q s. term_means (meanings e p t f j q s)) (λ E P T F J Q S _ _ _ _ _ _ _ e p t f j q s. from_means (meanings e p t f j q s))
      (λ E P T F J Q S _ _ _ _ _ _ _ e p t f j q s. joined_means (meanings e p t f j q s)) (λ E P T F J Q S _ _ _ _ _ _ _ e p t f j q s. query_means (meanings e p t f j q s))
      (λ E P T F J Q S _ _ _ _ _ _ _ e p t f j q s. select_means (meanings e p t f j q s))

  unfoldable pub MeansJoined : Joined → Env → Meaning (List Frame)
  MeansJoined = rec-Joined ME MF MQ MF MF MQ MQ
      (λ E P T F J Q S _ _ _ _ _ _ _ e p t f j q s. expr_means (meanings e p t f j q s)) (λ E P T F J Q S _ _ _ _ _ _ _ e p t f j q s. primary_means (meanings e p t f j q s))
      (λ E P T F J Q S _ _ _ _ _ _ _ e p t f j q s. term_means (meanings e p t f j q s)) (λ E P T F J Q S _ _ _ _ _ _ _ e p t f j q s. from_means (meanings e p t f j q s))
      (λ E P T F J Q S _ _ _ _ _ _ _ e p t f j q s. joined_means (meanings e p t f j q s)) (λ E P T F J Q S _ _ _ _ _ _ _ e p t f j q s. query_means (meanings e p t f j q s))
      (λ E P T F J Q S _ _ _ _ _ _ _ e p t f j q s. select_means (meanings e p t f j q s))

  unfoldable pub MeansQuery : Query → Env → Meaning (List Row)
  MeansQuery = rec-Query ME MF MQ MF MF MQ MQ
      (λ E P T F J Q S _ _ _ _ _ _ _ e p t f j q s. expr_means (meanings e p t f j q s)) (λ E P T F J Q S _ _ _ _ _ _ _ e p t f j q s. primary_means (meanings e p t f j q s))
      (λ E P T F J Q S _ _ _ _ _ _ _ e p t f j q s. term_means (meanings e p t f j q s)) (λ E P T F J Q S _ _ _ _ _ _ _ e p t f j q s. from_means (meanings e p t f j q s))
      (λ E P T F J Q S _ _ _ _ _ _ _ e p t f j q s. joined_means (meanings e p t f j q s)) (λ E P T F J Q S _ _ _ _ _ _ _ e p t f j q s. query_means (meanings e p t f j q s))
      (λ E P T F J Q S _ _ _ _ _ _ _ e p t f j q s. select_means (meanings e p t f j q s))

  unfoldable pub MeansSelect : Select → Env → Meaning (List Row)
  MeansSelect = rec-Select ME MF MQ MF MF MQ MQ
      (λ E P T F J Q S _ _ _ _ _ _ _ e p t f j q s. expr_means (meanings e p t f j q s)) (λ E P T F J Q S _ _ _ _ _ _ _ e p t f j q s. primary_means (meanings e p t f j q s))
      (λ E P T F J Q S _ _ _ _ _ _ _ e p t f j q s. term_means (meanings e p t f j q s)) (λ E P T F J Q S _ _ _ _ _ _ _ e p t f j q s. from_means (meanings e p t f j q s))
      (λ E P T F J Q S _ _ _ _ _ _ _ e p t f j q s. joined_means (meanings e p t f j q s)) (λ E P T F J Q S _ _ _ _ _ _ _ e p t f j q s. query_means (meanings e p t f j q s))
      (λ E P T F J Q S _ _ _ _ _ _ _ e p t f j q s. select_means (meanings e p t f j q s))

  -- each part means what its own word says
  abbrev pub meant : Meanings Expr Primary Term FromItem Joined Query Select
  meant = meanings MeansExpr MeansPrimary MeansTerm MeansFrom MeansJoined MeansQuery MeansSelect

-- The environment semantics: what a query permits in the empty environment.
abbrev pub Permits : Entries → Tables → Query → Meaning (List Row)
Permits catalog tables query = MeansQuery catalog tables query empty_env
