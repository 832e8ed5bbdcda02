-- A bare tree, one level at a time: it is of the construct that the tree is of, and its parts are the bare parts.
use Rattle.std.proofs.Common.{◌≡◌, ℕ, false, List, [], ◌∷◌, map, Option, None, Some, option_map, refl, sym, ◌∙◌, ap}
use Rattle.sql_ast.specs.declared.clauses.Aliased.{Aliased}
use Rattle.sql_ast.specs.declared.clauses.Arg.{Arg}
use Rattle.sql_ast.specs.declared.clauses.Arg.TheVariants as arg
use Rattle.sql_ast.specs.declared.clauses.Binding.{Binding}
use Rattle.sql_ast.specs.declared.clauses.Call.{Call}
use Rattle.sql_ast.specs.declared.clauses.Edit.{Edit}
use Rattle.sql_ast.specs.declared.clauses.FilterPart.{FilterPart}
use Rattle.sql_ast.specs.declared.clauses.Function.TheVariants as function
use Rattle.sql_ast.specs.declared.clauses.Item.{Item}
use Rattle.sql_ast.specs.declared.clauses.Item.TheVariants as item
use Rattle.sql_ast.specs.declared.clauses.LimitPart.{LimitPart}
use Rattle.sql_ast.specs.declared.clauses.Name.{Name}
use Rattle.sql_ast.specs.declared.clauses.On.{On}
use Rattle.sql_ast.specs.declared.clauses.On.TheVariants as on
use Rattle.sql_ast.specs.declared.clauses.PivotCall.{PivotCall}
use Rattle.sql_ast.specs.declared.clauses.Replacement.{Replacement}
use Rattle.sql_ast.specs.declared.clauses.Sort.{Sort}
use Rattle.sql_ast.specs.declared.clauses.Turn.{Turn}
use Rattle.sql_ast.specs.declared.clauses.Turn.TheVariants as turn
use Rattle.sql_ast.specs.declared.clauses.Turned.{Turned}
use Rattle.sql_ast.specs.declared.clauses.When.{When}
use Rattle.sql_ast.specs.declared.grouping.Cube.{Cube}
use Rattle.sql_ast.specs.declared.grouping.GroupItem.{GroupItem}
use Rattle.sql_ast.specs.declared.grouping.GroupItem.TheVariants as group_item
use Rattle.sql_ast.specs.declared.grouping.GroupSet.{GroupSet}
use Rattle.sql_ast.specs.declared.grouping.GroupSet.TheVariants as group_set
use Rattle.sql_ast.specs.declared.grouping.Groups.{Groups}
use Rattle.sql_ast.specs.declared.grouping.Groups.TheVariants as groups
use Rattle.sql_ast.specs.declared.expr.Link.{Link}
use Rattle.sql_ast.specs.declared.expr.Part.{Part}
use Rattle.sql_ast.specs.declared.expr.Part.TheVariants as part
use Rattle.sql_ast.specs.declared.query.Cte.{Cte}
use Rattle.sql_ast.specs.declared.query.SetTerm.{SetTerm}
use Rattle.sql_ast.specs.declared.expr.Expr.{Expr, roll-Expr, out-Expr, out-roll-Expr, roll-out-Expr, map-Expr, fold-roll-Expr}
use Rattle.sql_ast.specs.declared.query.Primary.{Primary, roll-Primary, out-Primary, out-roll-Primary, roll-out-Primary, map-Primary, fold-roll-Primary}
use Rattle.sql_ast.specs.declared.query.Term.{Term, roll-Term, out-Term, out-roll-Term, roll-out-Term, map-Term, fold-roll-Term}
use Rattle.sql_ast.specs.declared.query.FromItem.{FromItem, roll-FromItem, out-FromItem, out-roll-FromItem, roll-out-FromItem, map-FromItem, fold-roll-FromItem}
use Rattle.sql_ast.specs.declared.query.Joined.{Joined, roll-Joined, out-Joined, out-roll-Joined, roll-out-Joined, map-Joined, fold-roll-Joined}
use Rattle.sql_ast.specs.declared.query.Query.{Query, roll-Query, out-Query, out-roll-Query, roll-out-Query, map-Query, fold-roll-Query}
use Rattle.sql_ast.specs.declared.query.Select.{Select, roll-Select, out-Select, out-roll-Select, roll-out-Select, map-Select, fold-roll-Select}
use Rattle.sql_ast.specs.declared.expr.Expr.TheOpen.{Expr-F, Primary-F, Term-F, FromItem-F, Joined-F, Query-F, Select-F}
use Rattle.sql_ast.specs.declared.expr.Expr.TheOpen as ast
use Rattle.sql_ast.specs.declared.expr.Expr.TheShapes as shapes
use Rattle.sql_ast.specs.declared.clauses.UnpivotColumn.{UnpivotColumn}
use Rattle.sql_ast.specs.declared.clauses.WithOffset.{WithOffset}
use Rattle.sql_ast.specs.declared.type_spelling.TypeField.{TypeField}
use Rattle.sql_ast.specs.declared.type_spelling.TypeSpelling.{TypeSpelling, roll-TypeSpelling, out-TypeSpelling, out-roll-TypeSpelling, roll-out-TypeSpelling, map-TypeSpelling, fold-roll-TypeSpelling}
use Rattle.sql_ast.specs.declared.type_spelling.TypeSpelling.TheOpen.{TypeSpelling-F}
use Rattle.sql_ast.specs.declared.type_spelling.TypeSpelling.TheOpen as type
use Rattle.sql_same.specs.Bare.{Spell, as_is, bare_name, bare_names, bare_alias, bare_offset, bare_column, bare_prefix, bare_field, bare_link, bare_part, bare_sort, bare_argument, bare_call, bare_when, bare_aliased, bare_binding, bare_replacement, bare_edit, bare_item, bare_on, bare_pivot_call, bare_turn, bare_turned, bare_group_item, bare_cube, bare_set, bare_groups, bare_having, bare_limit, bare_cte, bare_set_term, bare_body, type_layer, expr_layer, primary_layer, term_layer, from_layer, joined_layer, query_layer, select_layer, BareType, BareExpr, BarePrimary, BareTerm, BareFrom, BareJoined, BareQuery, BareSelect}

-- ---- lists

-- what is made of a list in two steps is made of it in one
moved : {A B C : Type 0} (f : B → C) (g : A → B) (h : A → C) → ((x : A) → f (g x) ≡ h x) → (xs : List A) → map f (map g xs) ≡ map h xs
moved f g h same [] = refl
moved f g h same (x ∷ xs) = rw (same x) (ap (λ r. h x ∷ r) (moved f g h same xs))

itself : {A : Type 0} (xs : List A) → map (as_is {A = A}) xs ≡ xs
itself [] = refl
itself (x ∷ xs) = ap (λ r. x ∷ r) (itself xs)

itself_there : {A : Type 0} (x : Option A) → option_map (as_is {A = A}) x ≡ x
itself_there None = refl
itself_there (Some x) = refl

module _ (s : Spell) where
  -- ---- types

  abbrev pub type_at : TypeSpelling-F TypeSpelling → TypeSpelling-F TypeSpelling
  type_at (type.Name n) = type.Name (bare_name s n)
  type_at (type.Array element place) = type.Array (BareType s element) 0
  type_at (type.Struct fields place) = type.Struct (map (bare_field s (BareType s)) fields) 0

  abbrev field_of : TypeField TypeSpelling → TypeField TypeSpelling
  field_of f = record { name = f.name; ty = BareType s f.ty }

  type_moved : (x : TypeSpelling-F TypeSpelling) → type_layer s (map-TypeSpelling TypeSpelling TypeSpelling (BareType s) x) ≡ type_at x
  type_moved (type.Name n) = refl
  type_moved (type.Array element place) = refl
  type_moved (type.Struct fields place) = ap (λ fs. type.Struct fs 0) (moved (bare_field s as_is) field_of (bare_field s (BareType s)) (λ f. refl) fields)

  pub bare_type : (x : TypeSpelling) → out-TypeSpelling (BareType s x) ≡ type_at (out-TypeSpelling x)
  unfolding BareType
  bare_type x =
      ap (λ z. out-TypeSpelling (BareType s z)) (sym (roll-out-TypeSpelling x))
      ∙ ap out-TypeSpelling (fold-roll-TypeSpelling TypeSpelling (λ z. roll-TypeSpelling (type_layer s z)) (out-TypeSpelling x))
      ∙ out-roll-TypeSpelling (type_layer s (map-TypeSpelling TypeSpelling TypeSpelling (BareType s) (out-TypeSpelling x)))
      ∙ type_moved (out-TypeSpelling x)

  -- ---- parts of expressions

  own : (es : List Expr) → map (BareExpr s) es ≡ map (BareExpr s) es
  own es = refl

  abbrev link_of : Link Expr → Link Expr
  link_of l = record { operator = l.operator; operand = BareExpr s l.operand; place = l.place }

  links : (ls : List (Link Expr)) → map (bare_link as_is) (map link_of ls) ≡ map (bare_link (BareExpr s)) ls
  links = moved (bare_link as_is) link_of (bare_link (BareExpr s)) (λ l. refl)

  abbrev parts_of : List (Part Expr) → List (Part Expr)
  parts_of = shapes.former-Expr-Postfix-1.map Expr Expr (BareExpr s)

  all_parts : (ps : List (Part Expr)) → map (bare_part s as_is) (parts_of ps) ≡ map (bare_part s (BareExpr s)) ps
  all_parts [] = refl
  all_parts (part.Field name ∷ ps) = ap (λ r. part.Field (bare_name s name) ∷ r) (all_parts ps)
  all_parts (part.Index form index place ∷ ps) = ap (λ r. part.Index form (BareExpr s index) 0 ∷ r) (all_parts ps)

  -- ---- calls

  abbrev called : Call Expr → Call Expr
  called = shapes.former-Expr-Call-0.map Expr Expr (BareExpr s)

  abbrev call_arguments : List (Arg Expr) → List (Arg Expr)
  call_arguments xs = (called (record { function = function.If; distinct = false; star = false; arguments = xs; nulls = None; order = []; limit = None; place = 0 })).arguments

  arguments : (xs : List (Arg Expr)) → map (bare_argument s as_is) (call_arguments xs) ≡ map (bare_argument s (BareExpr s)) xs
  arguments [] = refl
  arguments (arg.Expr a ∷ xs) = ap (λ r. arg.Expr (BareExpr s a) ∷ r) (arguments xs)
  arguments (arg.Lambda variables body place ∷ xs) = ap (λ r. arg.Lambda (bare_names s variables) (BareExpr s body) 0 ∷ r) (arguments xs)
  arguments (arg.Interval amount n place ∷ xs) = ap (λ r. arg.Interval (BareExpr s amount) (bare_name s n) 0 ∷ r) (arguments xs)

  abbrev sort_of : Sort Expr → Sort Expr
  sort_of o = record { expr = BareExpr s o.expr; descending = o.descending; nulls = o.nulls; place = o.place }

  sorts : (os : List (Sort Expr)) → map (bare_sort as_is) (map sort_of os) ≡ map (bare_sort (BareExpr s)) os
  sorts = moved (bare_sort as_is) sort_of (bare_sort (BareExpr s)) (λ o. refl)

  a_call : (call : Call Expr) → bare_call s as_is (called call) ≡ bare_call s (BareExpr s) call
  a_call call = rw (arguments call.arguments) (rw (sorts call.order) refl)

  -- ---- other parts of expressions

  abbrev when_of : When Expr → When Expr
  when_of w = record { test = BareExpr s w.test; result = BareExpr s w.result }

  whens : (ws : List (When Expr)) → map (bare_when as_is) (map when_of ws) ≡ map (bare_when (BareExpr s)) ws
  whens = moved (bare_when as_is) when_of (bare_when (BareExpr s)) (λ w. refl)

  abbrev optional : Option Expr → Option Expr
  optional = shapes.former-Expr-Case-0.map Expr Expr (BareExpr s)

  maybe : (a : Option Expr) → optional a ≡ option_map (BareExpr s) a
  maybe None = refl
  maybe (Some a) = refl

  abbrev aliased_of : Aliased Expr → Aliased Expr
  aliased_of x = record { expr = BareExpr s x.expr; alias = x.alias }

  aliased : (xs : List (Aliased Expr)) → map (bare_aliased s as_is) (map aliased_of xs) ≡ map (bare_aliased s (BareExpr s)) xs
  aliased = moved (bare_aliased s as_is) aliased_of (bare_aliased s (BareExpr s)) (λ x. refl)

  abbrev binding_of : Binding Expr → Binding Expr
  binding_of b = record { name = b.name; expr = BareExpr s b.expr }

  bindings : (bs : List (Binding Expr)) → map (bare_binding s as_is) (map binding_of bs) ≡ map (bare_binding s (BareExpr s)) bs
  bindings = moved (bare_binding s as_is) binding_of (bare_binding s (BareExpr s)) (λ b. refl)

  -- ---- expressions

  abbrev pub expr_at : Expr-F Expr Primary Term FromItem Joined Query Select → Expr-F Expr Primary Term FromItem Joined Query Select
  expr_at (ast.Or first rest place) = ast.Or (BareExpr s first) (map (bare_link (BareExpr s)) rest) 0
  expr_at (ast.And first rest place) = ast.And (BareExpr s first) (map (bare_link (BareExpr s)) rest) 0
  expr_at (ast.Not operators operand place) = ast.Not (map (λ o. 0) operators) (BareExpr s operand) 0
  expr_at (ast.BitOr first rest place) = ast.BitOr (BareExpr s first) (map (bare_link (BareExpr s)) rest) 0
  expr_at (ast.BitXor first rest place) = ast.BitXor (BareExpr s first) (map (bare_link (BareExpr s)) rest) 0
  expr_at (ast.BitAnd first rest place) = ast.BitAnd (BareExpr s first) (map (bare_link (BareExpr s)) rest) 0
  expr_at (ast.Shift first rest place) = ast.Shift (BareExpr s first) (map (bare_link (BareExpr s)) rest) 0
  expr_at (ast.Sum first rest place) = ast.Sum (BareExpr s first) (map (bare_link (BareExpr s)) rest) 0
  expr_at (ast.Product first rest place) = ast.Product (BareExpr s first) (map (bare_link (BareExpr s)) rest) 0
  expr_at (ast.Unary operators operand place) = ast.Unary (map bare_prefix operators) (BareExpr s operand) 0
  expr_at (ast.Compare left operator operator_place right place) = ast.Compare (BareExpr s left) operator 0 (BareExpr s right) 0
  expr_at (ast.Like left negated operator_place right place) = ast.Like (BareExpr s left) negated 0 (BareExpr s right) 0
  expr_at (ast.LikeList left quantifier operator_place patterns place) = ast.LikeList (BareExpr s left) quantifier 0 (map (BareExpr s) patterns) 0
  expr_at (ast.LikeUnnest left quantifier operator_place array place) = ast.LikeUnnest (BareExpr s left) quantifier 0 (BareExpr s array) 0
  expr_at (ast.Between subject negated operator_place low high place) = ast.Between (BareExpr s subject) negated 0 (BareExpr s low) (BareExpr s high) 0
  expr_at (ast.InList left negated operator_place list place) = ast.InList (BareExpr s left) negated 0 (map (BareExpr s) list) 0
  expr_at (ast.InQuery left negated operator_place query open_place place) = ast.InQuery (BareExpr s left) negated 0 (BareQuery s query) 0 0
  expr_at (ast.InUnnest left negated operator_place array place) = ast.InUnnest (BareExpr s left) negated 0 (BareExpr s array) 0
  expr_at (ast.Is left negated test operator_place place) = ast.Is (BareExpr s left) negated test 0 0
  expr_at (ast.Distinct left negated operator_place right place) = ast.Distinct (BareExpr s left) negated 0 (BareExpr s right) 0
  expr_at (ast.Postfix first parts place) = ast.Postfix (BareExpr s first) (map (bare_part s (BareExpr s)) parts) 0
  expr_at (ast.Integer value place) = ast.Integer value 0
  expr_at (ast.Text value place) = ast.Text value 0
  expr_at (ast.Bytes value place) = ast.Bytes value 0
  expr_at (ast.Bool value place) = ast.Bool value 0
  expr_at (ast.Null place) = ast.Null 0
  expr_at (ast.Date text place) = ast.Date text 0
  expr_at (ast.Parameter name place) = ast.Parameter (s name) 0
  expr_at (ast.Name name place) = ast.Name (s name) 0
  expr_at (ast.Call call place) = ast.Call (bare_call s (BareExpr s) call) 0
  expr_at (ast.SafeCall call place) = ast.SafeCall (bare_call s (BareExpr s) call) 0
  expr_at (ast.Scalar query place) = ast.Scalar (BareQuery s query) 0
  expr_at (ast.Tuple parts place) = ast.Tuple (map (BareExpr s) parts) 0
  expr_at (ast.Case subject branches otherwise place) = ast.Case (option_map (BareExpr s) subject) (map (bare_when (BareExpr s)) branches) (option_map (BareExpr s) otherwise) 0
  expr_at (ast.Cast safe a type place) = ast.Cast safe (BareExpr s a) (BareType s type) 0
  expr_at (ast.Extract name a place) = ast.Extract (bare_name s name) (BareExpr s a) 0
  expr_at (ast.Grouping argument place) = ast.Grouping (BareExpr s argument) 0
  expr_at (ast.Exists query place) = ast.Exists (BareQuery s query) 0
  expr_at (ast.ArrayQuery query open_place place) = ast.ArrayQuery (BareQuery s query) 0 0
  expr_at (ast.Array element items open_place place) = ast.Array (option_map (BareType s) element) (map (BareExpr s) items) 0 0
  expr_at (ast.Struct parts place) = ast.Struct (map (bare_aliased s (BareExpr s)) parts) 0
  expr_at (ast.TypedStruct fields parts open_place place) = ast.TypedStruct (map (bare_field s (BareType s)) fields) (map (BareExpr s) parts) 0 0
  expr_at (ast.With bindings result place) = ast.With (map (bare_binding s (BareExpr s)) bindings) (BareExpr s result) 0

  expr_moved : (x : Expr-F Expr Primary Term FromItem Joined Query Select) → expr_layer s (map-Expr Expr Primary Term FromItem Joined Query Select Expr Primary Term FromItem Joined Query Select (BareExpr s) (BarePrimary s) (BareTerm s) (BareFrom s) (BareJoined s) (BareQuery s) (BareSelect s) x) ≡ expr_at x
  expr_moved (ast.Or first rest place) = ap (λ r. ast.Or (BareExpr s first) r 0) (links rest)
  expr_moved (ast.And first rest place) = ap (λ r. ast.And (BareExpr s first) r 0) (links rest)
  expr_moved (ast.Not operators operand place) = refl
  expr_moved (ast.BitOr first rest place) = ap (λ r. ast.BitOr (BareExpr s first) r 0) (links rest)
  expr_moved (ast.BitXor first rest place) = ap (λ r. ast.BitXor (BareExpr s first) r 0) (links rest)
  expr_moved (ast.BitAnd first rest place) = ap (λ r. ast.BitAnd (BareExpr s first) r 0) (links rest)
  expr_moved (ast.Shift first rest place) = ap (λ r. ast.Shift (BareExpr s first) r 0) (links rest)
  expr_moved (ast.Sum first rest place) = ap (λ r. ast.Sum (BareExpr s first) r 0) (links rest)
  expr_moved (ast.Product first rest place) = ap (λ r. ast.Product (BareExpr s first) r 0) (links rest)
  expr_moved (ast.Unary operators operand place) = refl
  expr_moved (ast.Compare left operator operator_place right place) = refl
  expr_moved (ast.Like left negated operator_place right place) = refl
  expr_moved (ast.LikeList left quantifier operator_place patterns place) = refl
  expr_moved (ast.LikeUnnest left quantifier operator_place array place) = refl
  expr_moved (ast.Between subject negated operator_place low high place) = refl
  expr_moved (ast.InList left negated operator_place list place) = refl
  expr_moved (ast.InQuery left negated operator_place query open_place place) = refl
  expr_moved (ast.InUnnest left negated operator_place array place) = refl
  expr_moved (ast.Is left negated test operator_place place) = refl
  expr_moved (ast.Distinct left negated operator_place right place) = refl
  expr_moved (ast.Postfix first parts place) = ap (λ r. ast.Postfix (BareExpr s first) r 0) (all_parts parts)
  expr_moved (ast.Integer value place) = refl
  expr_moved (ast.Text value place) = refl
  expr_moved (ast.Bytes value place) = refl
  expr_moved (ast.Bool value place) = refl
  expr_moved (ast.Null place) = refl
  expr_moved (ast.Date text place) = refl
  expr_moved (ast.Parameter name place) = refl
  expr_moved (ast.Name name place) = refl
  expr_moved (ast.Call call place) = ap (λ r. ast.Call r 0) (a_call call)
  expr_moved (ast.SafeCall call place) = ap (λ r. ast.SafeCall r 0) (a_call call)
  expr_moved (ast.Scalar query place) = refl
  expr_moved (ast.Tuple parts place) = refl
  expr_moved (ast.Case subject branches otherwise place) = rw (maybe subject) (rw (maybe otherwise) (ap (λ r. ast.Case (option_map (BareExpr s) subject) r (option_map (BareExpr s) otherwise) 0) (whens branches)))
  expr_moved (ast.Cast safe a type place) = refl
  expr_moved (ast.Extract name a place) = refl
  expr_moved (ast.Grouping argument place) = refl
  expr_moved (ast.Exists query place) = refl
  expr_moved (ast.ArrayQuery query open_place place) = refl
  expr_moved (ast.Array element items open_place place) = refl
  expr_moved (ast.Struct parts place) = ap (λ r. ast.Struct r 0) (aliased parts)
  expr_moved (ast.TypedStruct fields parts open_place place) = refl
  expr_moved (ast.With bindings_ result place) = ap (λ r. ast.With r (BareExpr s result) 0) (bindings bindings_)

  -- ---- the select list

  abbrev items_of : List (Item Expr) → List (Item Expr)
  items_of = shapes.former-Select-items.map Expr Expr (BareExpr s)

  abbrev replacement_of : Replacement Expr → Replacement Expr
  replacement_of r = record { expr = BareExpr s r.expr; name = r.name }

  replacements : (rs : List (Replacement Expr)) → map (bare_replacement s as_is) (map replacement_of rs) ≡ map (bare_replacement s (BareExpr s)) rs
  replacements = moved (bare_replacement s as_is) replacement_of (bare_replacement s (BareExpr s)) (λ r. refl)

  items : (is : List (Item Expr)) → map (bare_item s as_is) (items_of is) ≡ map (bare_item s (BareExpr s)) is
  items [] = refl
  items (item.Star edit place ∷ is) = rw (replacements edit.replace) (ap (λ r. item.Star (bare_edit s (BareExpr s) edit) 0 ∷ r) (items is))
  items (item.QualifiedStar a edit place ∷ is) = rw (replacements edit.replace) (ap (λ r. item.QualifiedStar (BareExpr s a) (bare_edit s (BareExpr s) edit) 0 ∷ r) (items is))
  items (item.Expr a alias place ∷ is) = ap (λ r. item.Expr (BareExpr s a) (bare_alias s alias) 0 ∷ r) (items is)

  -- ---- FROM

  abbrev turned_of : Option (Turned Expr) → Option (Turned Expr)
  turned_of = shapes.former-Primary-Table-2.map Expr Expr (BareExpr s)

  abbrev turn_of : Turn Expr → Option (Turned Expr)
  turn_of t = turned_of (Some (record { turn = t; alias = None }))

  abbrev calls_in : Option (Turned Expr) → List (PivotCall Expr)
  calls_in None = []
  calls_in (Some t) = elim t.turn as (λ x. List (PivotCall Expr)) [ turn.Pivot aggregates input values place ↦ aggregates | turn.Unpivot include_nulls value label columns place ↦ [] ]

  aggregates : (ks : List (PivotCall Expr)) → map (bare_pivot_call s as_is) (calls_in (turn_of (turn.Pivot ks [] [] 0))) ≡ map (bare_pivot_call s (BareExpr s)) ks
  aggregates [] = refl
  aggregates (k ∷ ks) = rw (a_call k.call) (ap (λ r. bare_pivot_call s (BareExpr s) k ∷ r) (aggregates ks))

  turns : (t : Turn Expr) (alias : Option Name) → option_map (bare_turned s as_is) (turned_of (Some (record { turn = t; alias = alias }))) ≡ Some (bare_turned s (BareExpr s) (record { turn = t; alias = alias }))
  turns (turn.Pivot ks input values place) alias = rw (aggregates ks) (rw (aliased values) refl)
  turns (turn.Unpivot include_nulls value label columns place) alias = refl

  turned : (t : Option (Turned Expr)) → option_map (bare_turned s as_is) (turned_of t) ≡ option_map (bare_turned s (BareExpr s)) t
  turned None = refl
  turned (Some t) = turns t.turn t.alias

  abbrev pub primary_at : Primary-F Expr Primary Term FromItem Joined Query Select → Primary-F Expr Primary Term FromItem Joined Query Select
  primary_at (ast.Table name alias t place) = ast.Table (bare_name s name) (bare_alias s alias) (option_map (bare_turned s (BareExpr s)) t) 0
  primary_at (Primary-F.«Primary::Query» query alias t place) = Primary-F.«Primary::Query» (BareQuery s query) (bare_alias s alias) (option_map (bare_turned s (BareExpr s)) t) 0
  primary_at (ast.Path path alias offset place) = ast.Path (bare_names s path) (bare_alias s alias) (option_map (bare_offset s) offset) 0
  primary_at (ast.Unnest array alias offset place) = ast.Unnest (BareExpr s array) (bare_alias s alias) (option_map (bare_offset s) offset) 0

  primary_moved : (x : Primary-F Expr Primary Term FromItem Joined Query Select) → primary_layer s (map-Primary Expr Primary Term FromItem Joined Query Select Expr Primary Term FromItem Joined Query Select (BareExpr s) (BarePrimary s) (BareTerm s) (BareFrom s) (BareJoined s) (BareQuery s) (BareSelect s) x) ≡ primary_at x
  primary_moved (ast.Table name alias t place) = ap (λ r. ast.Table (bare_name s name) (bare_alias s alias) r 0) (turned t)
  primary_moved (Primary-F.«Primary::Query» query alias t place) = ap (λ r. Primary-F.«Primary::Query» (BareQuery s query) (bare_alias s alias) r 0) (turned t)
  primary_moved (ast.Path path alias offset place) = refl
  primary_moved (ast.Unnest array alias offset place) = refl

  abbrev condition_of : Option (On Expr) → Option (On Expr)
  condition_of = shapes.former-Joined-on.map Expr Expr (BareExpr s)

  condition : (o : Option (On Expr)) → option_map (bare_on s as_is) (condition_of o) ≡ option_map (bare_on s (BareExpr s)) o
  condition None = refl
  condition (Some (on.On a place)) = refl
  condition (Some (on.Using columns place)) = refl

  abbrev pub joined_at : Joined-F Expr Primary Term FromItem Joined Query Select → Joined-F Expr Primary Term FromItem Joined Query Select
  joined_at j = record { word = j.word; primary = BarePrimary s j.primary; on = option_map (bare_on s (BareExpr s)) j.on; place = 0 }

  joined_moved : (x : Joined-F Expr Primary Term FromItem Joined Query Select) → joined_layer s (map-Joined Expr Primary Term FromItem Joined Query Select Expr Primary Term FromItem Joined Query Select (BareExpr s) (BarePrimary s) (BareTerm s) (BareFrom s) (BareJoined s) (BareQuery s) (BareSelect s) x) ≡ joined_at x
  joined_moved x = rw (condition x.on) refl

  abbrev pub from_at : FromItem-F Expr Primary Term FromItem Joined Query Select → FromItem-F Expr Primary Term FromItem Joined Query Select
  from_at f = record { first = BarePrimary s f.first; rest = map (BareJoined s) f.rest; place = 0 }

  from_moved : (x : FromItem-F Expr Primary Term FromItem Joined Query Select) → from_layer s (map-FromItem Expr Primary Term FromItem Joined Query Select Expr Primary Term FromItem Joined Query Select (BareExpr s) (BarePrimary s) (BareTerm s) (BareFrom s) (BareJoined s) (BareQuery s) (BareSelect s) x) ≡ from_at x
  from_moved x = refl

  -- ---- GROUP BY

  abbrev groups_of : Option (Groups Expr) → Option (Groups Expr)
  groups_of = shapes.former-Select-grouping.map Expr Expr (BareExpr s)

  abbrev sets_in : Option (Groups Expr) → List (GroupSet Expr)
  sets_in None = []
  sets_in (Some (groups.Keys keys place)) = []
  sets_in (Some (groups.Empty place)) = []
  sets_in (Some (groups.Sets sets place)) = sets
  sets_in (Some (groups.Cube cube place)) = []

  abbrev items_in : Option (Groups Expr) → List (GroupItem Expr)
  items_in None = []
  items_in (Some (groups.Keys keys place)) = []
  items_in (Some (groups.Empty place)) = []
  items_in (Some (groups.Sets sets place)) = []
  items_in (Some (groups.Cube cube place)) = cube.items

  cubed : (c : Cube Expr) (xs : List (GroupItem Expr)) → map (bare_group_item as_is) (items_in (groups_of (Some (groups.Cube (record { kind = c.kind; items = xs; place = 0 }) 0)))) ≡ map (bare_group_item (BareExpr s)) xs
  cubed c [] = refl
  cubed c (group_item.Expr a ∷ xs) = ap (λ r. group_item.Expr (BareExpr s a) ∷ r) (cubed c xs)
  cubed c (group_item.List es place ∷ xs) = rw (itself (map (BareExpr s) es)) (ap (λ r. group_item.List (map (BareExpr s) es) 0 ∷ r) (cubed c xs))

  sets : (xs : List (GroupSet Expr)) → map (bare_set as_is) (sets_in (groups_of (Some (groups.Sets xs 0)))) ≡ map (bare_set (BareExpr s)) xs
  sets [] = refl
  sets (group_set.Item (group_item.Expr a) ∷ xs) = ap (λ r. group_set.Item (group_item.Expr (BareExpr s a)) ∷ r) (sets xs)
  sets (group_set.Item (group_item.List es place) ∷ xs) = rw (itself (map (BareExpr s) es)) (ap (λ r. group_set.Item (group_item.List (map (BareExpr s) es) 0) ∷ r) (sets xs))
  sets (group_set.Cube c ∷ xs) = rw (cubed c c.items) (ap (λ r. group_set.Cube (bare_cube (BareExpr s) c) ∷ r) (sets xs))

  grouping : (g : Option (Groups Expr)) → option_map (bare_groups as_is) (groups_of g) ≡ option_map (bare_groups (BareExpr s)) g
  grouping None = refl
  grouping (Some (groups.Keys keys place)) = ap (λ r. Some (groups.Keys r 0)) (itself (map (BareExpr s) keys))
  grouping (Some (groups.Empty place)) = refl
  grouping (Some (groups.Sets xs place)) = ap (λ r. Some (groups.Sets r 0)) (sets xs)
  grouping (Some (groups.Cube c place)) = ap (λ r. Some (groups.Cube (record { kind = c.kind; items = r; place = 0 }) 0)) (cubed c c.items)

  -- ---- SELECT and queries

  abbrev optional_from : Option FromItem → Option FromItem
  optional_from = shapes.former-Select-from.map FromItem FromItem (BareFrom s)

  maybe_from : (f : Option FromItem) → optional_from f ≡ option_map (BareFrom s) f
  maybe_from None = refl
  maybe_from (Some f) = refl

  abbrev having_of : Option (FilterPart Expr) → Option (FilterPart Expr)
  having_of = shapes.former-Select-having.map Expr Expr (BareExpr s)

  maybe_having : (h : Option (FilterPart Expr)) → option_map (bare_having as_is) (having_of h) ≡ option_map (bare_having (BareExpr s)) h
  maybe_having None = refl
  maybe_having (Some h) = refl

  abbrev pub select_at : Select-F Expr Primary Term FromItem Joined Query Select → Select-F Expr Primary Term FromItem Joined Query Select
  select_at x = record {
    distinct = x.distinct;
    as_struct = x.as_struct;
    items = map (bare_item s (BareExpr s)) x.items;
    from = option_map (BareFrom s) x.from;
    filter = option_map (BareExpr s) x.filter;
    grouping = option_map (bare_groups (BareExpr s)) x.grouping;
    having = option_map (bare_having (BareExpr s)) x.having;
    place = 0;
  }

  select_moved : (x : Select-F Expr Primary Term FromItem Joined Query Select) → select_layer s (map-Select Expr Primary Term FromItem Joined Query Select Expr Primary Term FromItem Joined Query Select (BareExpr s) (BarePrimary s) (BareTerm s) (BareFrom s) (BareJoined s) (BareQuery s) (BareSelect s) x) ≡ select_at x
  select_moved x = rw (items x.items) (rw (maybe_from x.from) (rw (maybe x.filter) (rw (grouping x.grouping) (rw (maybe_having x.having) refl))))

  abbrev pub term_at : Term-F Expr Primary Term FromItem Joined Query Select → Term-F Expr Primary Term FromItem Joined Query Select
  term_at (Term-F.Select select) = Term-F.Select (BareSelect s select)
  term_at (Term-F.«Term::Query» query place) = Term-F.«Term::Query» (BareQuery s query) 0

  term_moved : (x : Term-F Expr Primary Term FromItem Joined Query Select) → term_layer s (map-Term Expr Primary Term FromItem Joined Query Select Expr Primary Term FromItem Joined Query Select (BareExpr s) (BarePrimary s) (BareTerm s) (BareFrom s) (BareJoined s) (BareQuery s) (BareSelect s) x) ≡ term_at x
  term_moved (Term-F.Select select) = refl
  term_moved (Term-F.«Term::Query» query place) = refl

  abbrev cte_of : Cte Query → Cte Query
  cte_of c = record { name = c.name; query = BareQuery s c.query }

  ctes : (cs : List (Cte Query)) → map (bare_cte s as_is) (map cte_of cs) ≡ map (bare_cte s (BareQuery s)) cs
  ctes = moved (bare_cte s as_is) cte_of (bare_cte s (BareQuery s)) (λ c. refl)

  abbrev set_of : SetTerm Term → SetTerm Term
  set_of t = record { kind = t.kind; term = BareTerm s t.term; place = t.place }

  terms : (ts : List (SetTerm Term)) → map (bare_set_term as_is) (map set_of ts) ≡ map (bare_set_term (BareTerm s)) ts
  terms = moved (bare_set_term as_is) set_of (bare_set_term (BareTerm s)) (λ t. refl)

  abbrev limit_of : Option (LimitPart Expr) → Option (LimitPart Expr)
  limit_of = shapes.former-Query-limit.map Expr Expr (BareExpr s)

  limits : (count : Expr) (offset : Option Expr) (place : ℕ) → option_map (bare_limit as_is) (limit_of (Some (record { count = count; offset = offset; place = place }))) ≡ Some (record { count = BareExpr s count; offset = option_map (BareExpr s) offset; place = 0 })
  limits count None place = refl
  limits count (Some offset) place = refl

  maybe_limit : (l : Option (LimitPart Expr)) → option_map (bare_limit as_is) (limit_of l) ≡ option_map (bare_limit (BareExpr s)) l
  maybe_limit None = refl
  maybe_limit (Some l) = limits l.count l.offset l.place

  abbrev pub query_at : Query-F Expr Primary Term FromItem Joined Query Select → Query-F Expr Primary Term FromItem Joined Query Select
  query_at q = record {
    ctes = map (bare_cte s (BareQuery s)) q.ctes;
    body = bare_body (BareTerm s) q.body;
    order = map (bare_sort (BareExpr s)) q.order;
    limit = option_map (bare_limit (BareExpr s)) q.limit;
    place = 0;
  }

  query_moved : (q : Query-F Expr Primary Term FromItem Joined Query Select) → query_layer s (map-Query Expr Primary Term FromItem Joined Query Select Expr Primary Term FromItem Joined Query Select (BareExpr s) (BarePrimary s) (BareTerm s) (BareFrom s) (BareJoined s) (BareQuery s) (BareSelect s) q) ≡ query_at q
  query_moved q = rw (ctes q.ctes) (rw (terms q.body.rest) (rw (sorts q.order) (rw (maybe_limit q.limit) refl)))

  -- ---- one equation a sort

  pub bare_expr : (x : Expr) → out-Expr (BareExpr s x) ≡ expr_at (out-Expr x)
  unfolding BareExpr BarePrimary BareTerm BareFrom BareJoined BareQuery BareSelect
  bare_expr x =
      ap (λ z. out-Expr (BareExpr s z)) (sym (roll-out-Expr x))
      ∙ ap out-Expr (fold-roll-Expr Expr Primary Term FromItem Joined Query Select (λ z. roll-Expr (expr_layer s z)) (λ z. roll-Primary (primary_layer s z)) (λ z. roll-Term (term_layer s z)) (λ z. roll-FromItem (from_layer s z)) (λ z. roll-Joined (joined_layer s z)) (λ z. roll-Query (query_layer s z)) (λ z. roll-Select (select_layer s z)) (out-Expr x))
      ∙ out-roll-Expr (expr_layer s (map-Expr Expr Primary Term FromItem Joined Query Select Expr Primary Term FromItem Joined Query Select (BareExpr s) (BarePrimary s) (BareTerm s) (BareFrom s) (BareJoined s) (BareQuery s) (BareSelect s) (out-Expr x)))
      ∙ expr_moved (out-Expr x)

  pub bare_primary : (x : Primary) → out-Primary (BarePrimary s x) ≡ primary_at (out-Primary x)
  unfolding BareExpr BarePrimary BareTerm BareFrom BareJoined BareQuery BareSelect
  bare_primary x =
      ap (λ z. out-Primary (BarePrimary s z)) (sym (roll-out-Primary x))
      ∙ ap out-Primary (fold-roll-Primary Expr Primary Term FromItem Joined Query Select (λ z. roll-Expr (expr_layer s z)) (λ z. roll-Primary (primary_layer s z)) (λ z. roll-Term (term_layer s z)) (λ z. roll-FromItem (from_layer s z)) (λ z. roll-Joined (joined_layer s z)) (λ z. roll-Query (query_layer s z)) (λ z. roll-Select (select_layer s z)) (out-Primary x))
      ∙ out-roll-Primary (primary_layer s (map-Primary Expr Primary Term FromItem Joined Query Select Expr Primary Term FromItem Joined Query Select (BareExpr s) (BarePrimary s) (BareTerm s) (BareFrom s) (BareJoined s) (BareQuery s) (BareSelect s) (out-Primary x)))
      ∙ primary_moved (out-Primary x)

  pub bare_term : (x : Term) → out-Term (BareTerm s x) ≡ term_at (out-Term x)
  unfolding BareExpr BarePrimary BareTerm BareFrom BareJoined BareQuery BareSelect
  bare_term x =
      ap (λ z. out-Term (BareTerm s z)) (sym (roll-out-Term x))
      ∙ ap out-Term (fold-roll-Term Expr Primary Term FromItem Joined Query Select (λ z. roll-Expr (expr_layer s z)) (λ z. roll-Primary (primary_layer s z)) (λ z. roll-Term (term_layer s z)) (λ z. roll-FromItem (from_layer s z)) (λ z. roll-Joined (joined_layer s z)) (λ z. roll-Query (query_layer s z)) (λ z. roll-Select (select_layer s z)) (out-Term x))
      ∙ out-roll-Term (term_layer s (map-Term Expr Primary Term FromItem Joined Query Select Expr Primary Term FromItem Joined Query Select (BareExpr s) (BarePrimary s) (BareTerm s) (BareFrom s) (BareJoined s) (BareQuery s) (BareSelect s) (out-Term x)))
      ∙ term_moved (out-Term x)

  pub bare_from : (x : FromItem) → out-FromItem (BareFrom s x) ≡ from_at (out-FromItem x)
  unfolding BareExpr BarePrimary BareTerm BareFrom BareJoined BareQuery BareSelect
  bare_from x =
      ap (λ z. out-FromItem (BareFrom s z)) (sym (roll-out-FromItem x))
      ∙ ap out-FromItem (fold-roll-FromItem Expr Primary Term FromItem Joined Query Select (λ z. roll-Expr (expr_layer s z)) (λ z. roll-Primary (primary_layer s z)) (λ z. roll-Term (term_layer s z)) (λ z. roll-FromItem (from_layer s z)) (λ z. roll-Joined (joined_layer s z)) (λ z. roll-Query (query_layer s z)) (λ z. roll-Select (select_layer s z)) (out-FromItem x))
      ∙ out-roll-FromItem (from_layer s (map-FromItem Expr Primary Term FromItem Joined Query Select Expr Primary Term FromItem Joined Query Select (BareExpr s) (BarePrimary s) (BareTerm s) (BareFrom s) (BareJoined s) (BareQuery s) (BareSelect s) (out-FromItem x)))
      ∙ from_moved (out-FromItem x)

  pub bare_joined : (x : Joined) → out-Joined (BareJoined s x) ≡ joined_at (out-Joined x)
  unfolding BareExpr BarePrimary BareTerm BareFrom BareJoined BareQuery BareSelect
  bare_joined x =
      ap (λ z. out-Joined (BareJoined s z)) (sym (roll-out-Joined x))
      ∙ ap out-Joined (fold-roll-Joined Expr Primary Term FromItem Joined Query Select (λ z. roll-Expr (expr_layer s z)) (λ z. roll-Primary (primary_layer s z)) (λ z. roll-Term (term_layer s z)) (λ z. roll-FromItem (from_layer s z)) (λ z. roll-Joined (joined_layer s z)) (λ z. roll-Query (query_layer s z)) (λ z. roll-Select (select_layer s z)) (out-Joined x))
      ∙ out-roll-Joined (joined_layer s (map-Joined Expr Primary Term FromItem Joined Query Select Expr Primary Term FromItem Joined Query Select (BareExpr s) (BarePrimary s) (BareTerm s) (BareFrom s) (BareJoined s) (BareQuery s) (BareSelect s) (out-Joined x)))
      ∙ joined_moved (out-Joined x)

  pub bare_select : (x : Select) → out-Select (BareSelect s x) ≡ select_at (out-Select x)
  unfolding BareExpr BarePrimary BareTerm BareFrom BareJoined BareQuery BareSelect
  bare_select x =
      ap (λ z. out-Select (BareSelect s z)) (sym (roll-out-Select x))
      ∙ ap out-Select (fold-roll-Select Expr Primary Term FromItem Joined Query Select (λ z. roll-Expr (expr_layer s z)) (λ z. roll-Primary (primary_layer s z)) (λ z. roll-Term (term_layer s z)) (λ z. roll-FromItem (from_layer s z)) (λ z. roll-Joined (joined_layer s z)) (λ z. roll-Query (query_layer s z)) (λ z. roll-Select (select_layer s z)) (out-Select x))
      ∙ out-roll-Select (select_layer s (map-Select Expr Primary Term FromItem Joined Query Select Expr Primary Term FromItem Joined Query Select (BareExpr s) (BarePrimary s) (BareTerm s) (BareFrom s) (BareJoined s) (BareQuery s) (BareSelect s) (out-Select x)))
      ∙ select_moved (out-Select x)

  pub bare_query : (x : Query) → out-Query (BareQuery s x) ≡ query_at (out-Query x)
  unfolding BareExpr BarePrimary BareTerm BareFrom BareJoined BareQuery BareSelect
  bare_query x =
      ap (λ z. out-Query (BareQuery s z)) (sym (roll-out-Query x))
      ∙ ap out-Query (fold-roll-Query Expr Primary Term FromItem Joined Query Select (λ z. roll-Expr (expr_layer s z)) (λ z. roll-Primary (primary_layer s z)) (λ z. roll-Term (term_layer s z)) (λ z. roll-FromItem (from_layer s z)) (λ z. roll-Joined (joined_layer s z)) (λ z. roll-Query (query_layer s z)) (λ z. roll-Select (select_layer s z)) (out-Query x))
      ∙ out-roll-Query (query_layer s (map-Query Expr Primary Term FromItem Joined Query Select Expr Primary Term FromItem Joined Query Select (BareExpr s) (BarePrimary s) (BareTerm s) (BareFrom s) (BareJoined s) (BareQuery s) (BareSelect s) (out-Query x)))
      ∙ query_moved (out-Query x)
