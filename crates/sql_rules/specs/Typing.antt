-- The type of a text, or the first rule that it breaks and the place.
use Rattle.std.specs.Prelude.{ℕ, pos, Bool, true, false, nat_lt, ◌&&◌, if◌then◌else◌, List, [], ◌∷◌, ◌++◌, Option, None, Some, Result, Ok, Err}
use Rattle.sql_types.specs.declared.sql_type.Named.{Named}
use Rattle.sql_types.specs.declared.sql_type.SqlType.{SqlType, out-SqlType}
use Rattle.sql_types.specs.declared.sql_type.SqlType.TheVariants as ty
use Rattle.sql_types.specs.declared.sql_type.SqlType.TheOpen as t
use Rattle.sql_types.specs.declared.value.Value.{Value}
use Rattle.sql_types.specs.declared.value.Value.TheVariants as value
use Rattle.sql_ast.specs.declared.clauses.Item.{Item}
use Rattle.sql_ast.specs.declared.clauses.Item.TheVariants as item
use Rattle.sql_ast.specs.declared.clauses.FilterPart.{FilterPart}
use Rattle.sql_ast.specs.declared.clauses.LimitPart.{LimitPart}
use Rattle.sql_ast.specs.declared.clauses.Sort.{Sort}
use Rattle.sql_ast.specs.declared.grouping.Groups.{Groups}
use Rattle.sql_ast.specs.declared.query.Cte.{Cte}
use Rattle.sql_ast.specs.declared.query.SetTerm.{SetTerm}
use Rattle.sql_ast.specs.declared.expr.Comparison.{Comparison}
use Rattle.sql_ast.specs.declared.expr.Comparison.TheVariants as comparison
use Rattle.sql_ast.specs.declared.expr.Expr.{Expr, out-Expr, para-Expr}
use Rattle.sql_ast.specs.declared.query.Primary.{Primary, para-Primary}
use Rattle.sql_ast.specs.declared.query.Term.{Term, para-Term}
use Rattle.sql_ast.specs.declared.query.FromItem.{FromItem, para-FromItem}
use Rattle.sql_ast.specs.declared.query.Joined.{Joined, para-Joined}
use Rattle.sql_ast.specs.declared.query.Query.{Query, para-Query}
use Rattle.sql_ast.specs.declared.query.Select.{Select, para-Select}
use Rattle.sql_ast.specs.declared.expr.Expr.TheOpen as ast
use Rattle.sql_ast.specs.declared.expr.Expr.TheOpen.{Expr-F, Primary-F, Term-F, FromItem-F, Joined-F, Query-F, Select-F}
use Rattle.sql_coerce.specs.declared.arg.Arg.{Arg}
use Rattle.sql_coerce.specs.declared.arg.Kind.TheVariants as kind
use Rattle.sql_catalog.specs.declared.entries.Entries.{Entries}
use Rattle.sql_catalog.specs.declared.entries.TableDef.{TableDef}
use Rattle.sql_rules.specs.declared.scope.Entry.{Entry}
use Rattle.sql_rules.specs.declared.scope.Found.{Found}
use Rattle.sql_rules.specs.declared.scope.Found.TheVariants.{Bound, Missing, Ambiguous}
use Rattle.sql_rules.specs.Scopes.{found, entry_at}
use Rattle.sql_rules.specs.Tables.{table_from, table_scope}

-- what is typed, or the rule that is broken and its place
abbrev pub Checked : Type 0 → Type 0
Checked A = Result A (ℕ × ℕ)

infixl 1 ◌>>=◌
abbrev pub ◌>>=◌ : {A B : Type 0} → Checked A → (A → Checked B) → Checked B
◌>>=◌ (Ok x) next = next x
◌>>=◌ (Err broken) next = Err broken

abbrev pub broken : {A : Type 0} → ℕ → ℕ → Checked A
broken rule place = Err (rule, place)

-- a form that isn't built yet
abbrev pub unbuilt : {A : Type 0} → Checked A
unbuilt = broken 2 0

-- what is in sight at a place of the text: the scopes, the innermost last
pub record Sight : Type 0 where
  pub levels : List (List Entry)

-- one more scope inside
abbrev pub inside : Sight → List Entry → Sight
inside sight scope = record { levels = sight.levels ++ scope ∷ [] }

-- ---- expressions

-- an integer literal is INT64 where it fits, and else UINT64
abbrev pub integer_type : ℕ → SqlType
integer_type n = if nat_lt n 9223372036854775808 then ty.Int64 else ty.Uint64

abbrev pub integer_value : ℕ → Value
integer_value n = if nat_lt n 9223372036854775808 then value.Int (pos n) else value.Uint n

abbrev pub literal : SqlType → Value → Checked Arg
literal type x = Ok (record { ty = Some type; kind = kind.Literal x })

-- an expression that is neither a literal nor a parameter
abbrev pub other : SqlType → Checked Arg
other type = Ok (record { ty = Some type; kind = kind.Other })

-- a path that ends at a range variable has no value (rule 6)
abbrev pub entry_type : ℕ → Option SqlType → Checked Arg
entry_type place None = broken 6 place
entry_type place (Some type) = other type

abbrev pub found_type : ℕ → Option Entry → Checked Arg
found_type place None = unbuilt
found_type place (Some entry) = entry_type place entry.ty

-- A single name: its first name isn't found (rule 3), it is ambiguous (rule 4), or it has its entry's type.
abbrev pub name_type : ℕ → List (List Entry) → Found → Checked Arg
name_type place levels Missing = broken 3 place
name_type place levels Ambiguous = broken 4 place
name_type place levels (Bound b) = found_type place (entry_at levels b.level b.slot)

-- the types that both operands of `=` may have
abbrev pub same_scalar : t.SqlType-F SqlType → t.SqlType-F SqlType → Bool
same_scalar t.Bool t.Bool = true
same_scalar t.Int64 t.Int64 = true
same_scalar t.Text t.Text = true
same_scalar _ _ = false

abbrev pub equal_types : Option SqlType → Option SqlType → Bool
equal_types (Some a) (Some b) = same_scalar (out-SqlType a) (out-SqlType b)
equal_types _ _ = false

-- `=` is over two operands of one type, BOOL, INT64 or STRING; no signature applies else (rule 9 at the operator)
abbrev pub equal_type : ℕ → Arg → Arg → Checked Arg
equal_type place a b = if equal_types a.ty b.ty then other ty.Bool else broken 9 place

abbrev pub compare_type : Comparison → ℕ → Arg → Arg → Checked Arg
compare_type comparison.Equal place a b = equal_type place a b
compare_type _ place a b = unbuilt

-- ---- conditions and items

abbrev pub is_bool : Option SqlType → Bool
is_bool (Some type) = truth (out-SqlType type)
  where
    truth : t.SqlType-F SqlType → Bool
    truth t.Bool = true
    truth _ = false
is_bool None = false

-- a condition is BOOL (rule 11 at the expression)
abbrev pub condition : ℕ → Arg → Checked (Unit {0})
condition place a = if is_bool a.ty then Ok tt else broken 11 place

-- the place of an expression that is a comparison of columns and literals
abbrev pub place_of : {E P T F J Q S : Type 0} → Expr-F E P T F J Q S → ℕ
place_of (ast.Compare left operator operator_place right place) = place
place_of (ast.Integer n place) = place
place_of (ast.Text text place) = place
place_of (ast.Name name place) = place
place_of _ = 0

-- a select item without an alias has the last name of an expression that is an identifier
abbrev pub implied_name : {E P T F J Q S : Type 0} → Expr-F E P T F J Q S → Option (List ℕ)
implied_name (ast.Name name place) = Some name
implied_name _ = None

-- a column of the type that an item has
abbrev pub item_column : Option (List ℕ) → Option SqlType → Checked (Named SqlType)
item_column name (Some type) = Ok (record { name = name; ty = type })
item_column name None = unbuilt

-- ---- the forms that are built: WHERE compares a name with a literal, and a select item is a name

abbrev pub is_name : {E P T F J Q S : Type 0} → Expr-F E P T F J Q S → Bool
is_name (ast.Name name place) = true
is_name _ = false

abbrev pub is_literal : {E P T F J Q S : Type 0} → Expr-F E P T F J Q S → Bool
is_literal (ast.Integer n place) = true
is_literal (ast.Text text place) = true
is_literal _ = false

abbrev pub compares_name : {P T F J Q S : Type 0} → Expr-F Expr P T F J Q S → Bool
compares_name (ast.Compare left operator operator_place right place) = is_name (out-Expr left) && is_literal (out-Expr right)
compares_name _ = false

-- what has a form that is built
abbrev pub if_built : {A : Type 0} → Bool → Checked A → Checked A
if_built true checked = checked
if_built false checked = unbuilt

-- ---- the layers, one case per construct, over what the parts are typed as

pub record Typings (E P T F J Q S : Type 0) : Type 0 where
  -- the expression itself, for the name that it implies
  pub tree : E → Expr
  pub expr : E → Sight → Checked Arg
  pub primary : P → Sight → Checked (List Entry)
  pub term : T → Sight → Checked (List (Named SqlType))
  pub from : F → Sight → Checked (List Entry)
  pub joined : J → Sight → Checked (List Entry)
  pub query : Q → Sight → Checked (List (Named SqlType))
  pub select : S → Sight → Checked (List (Named SqlType))

module _ (catalog : Entries) where
  module _ {E P T F J Q S : Type 0} (parts : Typings E P T F J Q S) where
    abbrev pub expr_layer : Expr-F E P T F J Q S → Sight → Checked Arg
    expr_layer (ast.Integer n place) sight = literal (integer_type n) (integer_value n)
    expr_layer (ast.Text text place) sight = literal ty.Text (value.Text text)
    expr_layer (ast.Name name place) sight = name_type place sight.levels (found sight.levels name [])
    -- operands before the operator
    expr_layer (ast.Compare left operator operator_place right place) sight =
        parts.expr left sight >>= (λ a. parts.expr right sight >>= (λ b. compare_type operator operator_place a b))
    expr_layer _ sight = unbuilt

    -- a FROM name that is no table is rule 5 at the path
    abbrev pub table_type : ℕ → Option (ℕ × TableDef) → Checked (List Entry)
    table_type place None = broken 5 place
    table_type place (Some found) = Ok (table_scope found.1.name found.1.columns)

    abbrev pub primary_layer : Primary-F E P T F J Q S → Sight → Checked (List Entry)
    primary_layer (ast.Table name None None place) sight = table_type place (table_from 0 catalog.tables name.text)
    primary_layer _ sight = unbuilt

    abbrev pub first_only : List J → Checked (List Entry) → Checked (List Entry)
    first_only [] first = first
    first_only (j ∷ js) first = unbuilt

    abbrev pub from_layer : FromItem-F E P T F J Q S → Sight → Checked (List Entry)
    from_layer f sight = first_only f.rest (parts.primary f.first sight)

    abbrev pub joined_layer : Joined-F E P T F J Q S → Sight → Checked (List Entry)
    joined_layer j sight = unbuilt

    abbrev pub item_layer : Item E → Sight → Checked (Named SqlType)
    item_layer (item.Expr e None place) sight =
        if_built (is_name (out-Expr (parts.tree e))) (parts.expr e sight >>= (λ a. item_column (implied_name (out-Expr (parts.tree e))) a.ty))
    item_layer _ sight = unbuilt

    -- items from left to right
    abbrev pub items_layer : List (Item E) → Sight → Checked (List (Named SqlType))
    items_layer [] sight = Ok []
    items_layer (i ∷ is) sight = item_layer i sight >>= (λ c. items_layer is sight >>= (λ cs. Ok (c ∷ cs)))

    abbrev pub filter_layer : E → Sight → Checked (Unit {0})
    filter_layer test sight =
        if_built (compares_name (out-Expr (parts.tree test))) (parts.expr test sight >>= condition (place_of (out-Expr (parts.tree test))))

    -- FROM, then WHERE, then the select list
    abbrev pub select_of : F → E → List (Item E) → Sight → Checked (List (Named SqlType))
    select_of from test items sight =
        parts.from from sight >>= (λ scope. filter_layer test (inside sight scope) >>= (λ _. items_layer items (inside sight scope)))

    abbrev pub plain_select : Bool → Bool → Option F → Option E → Option (Groups E) → Option (FilterPart E) → List (Item E) → Sight → Checked (List (Named SqlType))
    plain_select false false (Some from) (Some test) None None items sight = select_of from test items sight
    plain_select _ _ _ _ _ _ items sight = unbuilt

    abbrev pub select_layer : Select-F E P T F J Q S → Sight → Checked (List (Named SqlType))
    select_layer s sight = plain_select s.distinct s.as_struct s.from s.filter s.grouping s.having s.items sight

    abbrev pub term_layer : Term-F E P T F J Q S → Sight → Checked (List (Named SqlType))
    term_layer (ast.Select select) sight = parts.select select sight
    term_layer _ sight = unbuilt

    abbrev pub plain_query : List (Cte Q) → List (SetTerm T) → List (Sort E) → Option (LimitPart E) → Checked (List (Named SqlType)) → Checked (List (Named SqlType))
    plain_query [] [] [] None first = first
    plain_query _ _ _ _ first = unbuilt

    abbrev pub query_layer : Query-F E P T F J Q S → Sight → Checked (List (Named SqlType))
    query_layer q sight = plain_query q.ctes q.body.rest q.order q.limit (parts.term q.body.first sight)

  -- ---- the layers tied: each part is typed by its own layer

  abbrev AE : Type 0
  AE = Sight → Checked Arg

  abbrev AF : Type 0
  AF = Sight → Checked (List Entry)

  abbrev AQ : Type 0
  AQ = Sight → Checked (List (Named SqlType))

  abbrev pub given : Typings (Expr × AE) (Primary × AF) (Term × AQ) (FromItem × AF) (Joined × AF) (Query × AQ) (Select × AQ)
  given = record {
    tree = λ e. e.0;
    expr = λ e. e.1;
    primary = λ p. p.1;
    term = λ p. p.1;
    from = λ p. p.1;
    joined = λ p. p.1;
    query = λ p. p.1;
    select = λ p. p.1;
  }

  unfoldable pub TypeExpr : Expr → Sight → Checked Arg
  TypeExpr = para-Expr AE AF AQ AF AF AQ AQ (expr_layer given) (primary_layer given) (term_layer given) (from_layer given) (joined_layer given) (query_layer given) (select_layer given)

  unfoldable pub TypePrimary : Primary → Sight → Checked (List Entry)
  TypePrimary = para-Primary AE AF AQ AF AF AQ AQ (expr_layer given) (primary_layer given) (term_layer given) (from_layer given) (joined_layer given) (query_layer given) (select_layer given)

  unfoldable pub TypeTerm : Term → Sight → Checked (List (Named SqlType))
  TypeTerm = para-Term AE AF AQ AF AF AQ AQ (expr_layer given) (primary_layer given) (term_layer given) (from_layer given) (joined_layer given) (query_layer given) (select_layer given)

  unfoldable pub TypeFrom : FromItem → Sight → Checked (List Entry)
  TypeFrom = para-FromItem AE AF AQ AF AF AQ AQ (expr_layer given) (primary_layer given) (term_layer given) (from_layer given) (joined_layer given) (query_layer given) (select_layer given)

  unfoldable pub TypeJoined : Joined → Sight → Checked (List Entry)
  TypeJoined = para-Joined AE AF AQ AF AF AQ AQ (expr_layer given) (primary_layer given) (term_layer given) (from_layer given) (joined_layer given) (query_layer given) (select_layer given)

  -- the columns of a query, or the first broken rule and its place
  unfoldable pub TypeQuery : Query → Sight → Checked (List (Named SqlType))
  TypeQuery = para-Query AE AF AQ AF AF AQ AQ (expr_layer given) (primary_layer given) (term_layer given) (from_layer given) (joined_layer given) (query_layer given) (select_layer given)

  unfoldable pub TypeSelect : Select → Sight → Checked (List (Named SqlType))
  TypeSelect = para-Select AE AF AQ AF AF AQ AQ (expr_layer given) (primary_layer given) (term_layer given) (from_layer given) (joined_layer given) (query_layer given) (select_layer given)

  -- each part is typed by its own word
  abbrev pub typed : Typings Expr Primary Term FromItem Joined Query Select
  typed = record { tree = λ e. e; expr = TypeExpr; primary = TypePrimary; term = TypeTerm; from = TypeFrom; joined = TypeJoined; query = TypeQuery; select = TypeSelect }

-- a text is typed with nothing in sight
abbrev pub nothing_in_sight : Sight
nothing_in_sight = record { levels = [] }
