-- The equations by which worked examples are computed: one step each of typing, of the trees, of types and of values.
use Rattle.std.proofs.Common.{◌≡◌, true, false, List, ap}
use Rattle.sql_types.specs.declared.sql_type.SqlType.TheVariants.{outs-Bool as type-Bool, outs-Int32 as type-Int32, outs-Int64 as type-Int64, outs-Uint32 as type-Uint32, outs-Uint64 as type-Uint64, outs-Text as type-Text, outs-Bytes as type-Bytes, outs-Date as type-Date, outs-Array as type-Array, outs-Struct as type-Struct}
use Rattle.sql_types.specs.declared.value.Value.TheVariants.{outs-Null as value-Null, outs-Bool as value-Bool, outs-Int as value-Int, outs-Uint as value-Uint, outs-Text as value-Text, outs-Bytes as value-Bytes, outs-Date as value-Date, outs-Array as value-Array, outs-Struct as value-Struct}
use Rattle.sql_types.proofs.TypeOpens.{comparable_opens, same_opens}
use Rattle.sql_types.proofs.ValueOpens.{equal_opens}
use Rattle.sql_coerce.proofs.Opens.{converted-opens, castable-opens, other_coerces-opens, meet-opens}
use Rattle.sql_catalog.specs.declared.entries.Entries.{Entries}
use Rattle.sql_ast.specs.declared.expr.Expr.TheVariants.{outs-Or as expr-Or, outs-And as expr-And, outs-Not as expr-Not, outs-BitOr as expr-BitOr, outs-BitXor as expr-BitXor, outs-BitAnd as expr-BitAnd, outs-Shift as expr-Shift, outs-Sum as expr-Sum, outs-Product as expr-Product, outs-Unary as expr-Unary, outs-Compare as expr-Compare, outs-Like as expr-Like, outs-LikeList as expr-LikeList, outs-LikeUnnest as expr-LikeUnnest, outs-Between as expr-Between, outs-InList as expr-InList, outs-InQuery as expr-InQuery, outs-InUnnest as expr-InUnnest, outs-Is as expr-Is, outs-Distinct as expr-Distinct, outs-Postfix as expr-Postfix, outs-Integer as expr-Integer, outs-Text as expr-Text, outs-Bytes as expr-Bytes, outs-Bool as expr-Bool, outs-Null as expr-Null, outs-Date as expr-Date, outs-Parameter as expr-Parameter, outs-Name as expr-Name, outs-Call as expr-Call, outs-SafeCall as expr-SafeCall, outs-Scalar as expr-Scalar, outs-Tuple as expr-Tuple, outs-Case as expr-Case, outs-Cast as expr-Cast, outs-Extract as expr-Extract, outs-Grouping as expr-Grouping, outs-Exists as expr-Exists, outs-ArrayQuery as expr-ArrayQuery, outs-Array as expr-Array, outs-Struct as expr-Struct, outs-TypedStruct as expr-TypedStruct, outs-With as expr-With}
use Rattle.sql_ast.specs.declared.query.Term.TheVariants.{outs-Select as term-Select, outs-Query as term-Query}
use Rattle.sql_ast.specs.declared.query.Primary.TheVariants.{outs-Table as primary-Table, outs-Query as primary-Query, outs-Path as primary-Path, outs-Unnest as primary-Unnest}
use Rattle.sql_ast.specs.declared.type_spelling.TypeSpelling.{TypeSpelling, out-TypeSpelling, map-TypeSpelling, fold_out-TypeSpelling}
use Rattle.sql_ast.specs.declared.type_spelling.TypeSpelling.TheVariants.{outs-Name as spelling-Name, outs-Array as spelling-Array, outs-Struct as spelling-Struct}
use Rattle.sql_ast.specs.declared.expr.Expr.{Expr, out-Expr}
use Rattle.sql_ast.specs.declared.query.Primary.{Primary, out-Primary}
use Rattle.sql_ast.specs.declared.query.Term.{Term, out-Term}
use Rattle.sql_ast.specs.declared.query.FromItem.{FromItem, out-FromItem, out-roll-FromItem}
use Rattle.sql_ast.specs.declared.query.Joined.{Joined, out-Joined, out-roll-Joined}
use Rattle.sql_ast.specs.declared.query.Query.{Query, out-Query, out-roll-Query}
use Rattle.sql_ast.specs.declared.query.Select.{Select, out-Select, out-roll-Select}
use Rattle.sql_rules.specs.declared.scope.Entry.{Entry}
use Rattle.written_types.specs.Checks.{Checked, broken}
use Rattle.sql_semantics.specs.Sights.{Sight, nothing_in_sight}
use Rattle.sql_semantics.specs.FromScopes.{FromScope}
use Rattle.written_types.specs.TypeNames.{written_type, written_layer}
use Rattle.sql_semantics.specs.TypeCalls.{Defined}
use Rattle.sql_semantics.specs.TypeLayers.{Columns, expr_layer, primary_layer, term_layer, from_layer, joined_layer, query_layer, select_layer}
use Rattle.sql_semantics.specs.Types.{AsExpr, AsPrimary, AsFrom, AsJoined, AsColumns, typed, TypeExpr, TypePrimary, TypeTerm, TypeFrom, TypeJoined, TypeQuery, TypeSelect, definitions_of, TypeText}
use Rattle.sql_semantics.specs.Unbuilt.{unbuilt_query}
use Rattle.sql_semantics.proofs.TypingLaws.{typed-expr, typed-primary, typed-term, typed-from, typed-joined, typed-query, typed-select}

-- ---- typing

module _ (catalog : Entries) (definitions : List Defined) where
  pub type-expr : (x : Expr) (sight : Sight) → TypeExpr catalog definitions x sight ≡ expr_layer catalog definitions (typed catalog definitions) (out-Expr x) sight
  type-expr x sight = ap (λ (f : AsExpr). f sight) (typed-expr catalog definitions x)

  pub type-primary : (x : Primary) (sight : Sight) (left : List Entry) → TypePrimary catalog definitions x sight left ≡ primary_layer catalog definitions (typed catalog definitions) (out-Primary x) sight left
  type-primary x sight left = ap (λ (f : AsPrimary). f sight left) (typed-primary catalog definitions x)

  pub type-term : (x : Term) (sight : Sight) → TypeTerm catalog definitions x sight ≡ term_layer catalog definitions (typed catalog definitions) (out-Term x) sight
  type-term x sight = ap (λ (f : AsColumns). f sight) (typed-term catalog definitions x)

  pub type-from : (x : FromItem) (sight : Sight) → TypeFrom catalog definitions x sight ≡ from_layer catalog definitions (typed catalog definitions) (out-FromItem x) sight
  type-from x sight = ap (λ (f : AsFrom). f sight) (typed-from catalog definitions x)

  pub type-joined : (x : Joined) (sight : Sight) (left : FromScope) → TypeJoined catalog definitions x sight left ≡ joined_layer catalog definitions (typed catalog definitions) (out-Joined x) sight left
  type-joined x sight left = ap (λ (f : AsJoined). f sight left) (typed-joined catalog definitions x)

  pub type-query : (x : Query) (sight : Sight) → TypeQuery catalog definitions x sight ≡ query_layer catalog definitions (typed catalog definitions) (out-Query x) sight
  type-query x sight = ap (λ (f : AsColumns). f sight) (typed-query catalog definitions x)

  pub type-select : (x : Select) (sight : Sight) → TypeSelect catalog definitions x sight ≡ select_layer catalog definitions (typed catalog definitions) (out-Select x) sight
  type-select x sight = ap (λ (f : AsColumns). f sight) (typed-select catalog definitions x)

pub type-written : (x : TypeSpelling) → written_type x ≡ written_layer (map-TypeSpelling _ _ written_type (out-TypeSpelling x))
unfolding written_type
type-written x = fold_out-TypeSpelling _ written_layer x

-- what typing answers for a text of built forms
abbrev pub answer : Entries → Query → Checked Columns
answer catalog query = TypeQuery catalog (definitions_of catalog) query nothing_in_sight

-- a text of built forms is typed with nothing in sight, and every other is refused by rule 2
pub text_typed : (catalog : Entries) (query : Query) → unbuilt_query query ≡ false → TypeText catalog query ≡ answer catalog query
text_typed catalog query built = simp (TypeText, built)

pub text_refused : (catalog : Entries) (query : Query) → unbuilt_query query ≡ true → TypeText catalog query ≡ broken 2 0
text_refused catalog query found = simp (TypeText, found)

-- ---- lists of equations

pub ruleset trees = (
  out-roll-Query,
  out-roll-Select,
  out-roll-FromItem,
  out-roll-Joined,
  term-Select,
  term-Query,
  primary-Table,
  primary-Query,
  primary-Path,
  primary-Unnest,
  expr-Or,
  expr-And,
  expr-Not,
  expr-BitOr,
  expr-BitXor,
  expr-BitAnd,
  expr-Shift,
  expr-Sum,
  expr-Product,
  expr-Unary,
  expr-Compare,
  expr-Like,
  expr-LikeList,
  expr-LikeUnnest,
  expr-Between,
  expr-InList,
  expr-InQuery,
  expr-InUnnest,
  expr-Is,
  expr-Distinct,
  expr-Postfix,
  expr-Integer,
  expr-Text,
  expr-Bytes,
  expr-Bool,
  expr-Null,
  expr-Date,
  expr-Parameter,
  expr-Name,
  expr-Call,
  expr-SafeCall,
  expr-Scalar,
  expr-Tuple,
  expr-Case,
  expr-Cast,
  expr-Extract,
  expr-Grouping,
  expr-Exists,
  expr-ArrayQuery,
  expr-Array,
  expr-Struct,
  expr-TypedStruct,
  expr-With,
  spelling-Name,
  spelling-Array,
  spelling-Struct,
)

pub ruleset types = (
  type-Bool,
  type-Int32,
  type-Int64,
  type-Uint32,
  type-Uint64,
  type-Text,
  type-Bytes,
  type-Date,
  type-Array,
  type-Struct,
)

pub ruleset values = (
  value-Null,
  value-Bool,
  value-Int,
  value-Uint,
  value-Text,
  value-Bytes,
  value-Date,
  value-Array,
  value-Struct,
)

pub ruleset opens = (converted-opens, castable-opens, other_coerces-opens, meet-opens, comparable_opens, same_opens, equal_opens)

pub ruleset typing = (type-expr, type-primary, type-term, type-from, type-joined, type-query, type-select, type-written)
