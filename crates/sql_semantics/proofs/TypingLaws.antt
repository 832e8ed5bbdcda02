-- The type of a text, one construct at a time: each part is typed by its layer over its own parts.
use Rattle.std.proofs.Common.{◌≡◌, ℕ, zero, suc, ◌==◌, Bool, true, false, not, List, [], ◌∷◌, map, length, drop, Option, None, Some, Ok, Err, refl, sym, ◌∙◌, ap}
use mathlib.Core.Path.{fun_ext}
use Rattle.sql_types.specs.declared.sql_type.Named.{Named}
use Rattle.sql_types.specs.declared.sql_type.SqlType.{SqlType}
use Rattle.sql_types.specs.declared.sql_type.SqlType.TheVariants as ty
use Rattle.sql_ast.specs.declared.clauses.Aliased.{Aliased}
use Rattle.sql_ast.specs.declared.clauses.Arg.{Arg as Argument}
use Rattle.sql_ast.specs.declared.clauses.Arg.TheVariants as arg
use Rattle.sql_ast.specs.declared.clauses.Binding.{Binding}
use Rattle.sql_ast.specs.declared.clauses.Call.{Call}
use Rattle.sql_ast.specs.declared.clauses.Edit.{Edit}
use Rattle.sql_ast.specs.declared.clauses.FilterPart.{FilterPart}
use Rattle.sql_ast.specs.declared.clauses.Function.TheVariants as function
use Rattle.sql_ast.specs.declared.clauses.Item.{Item}
use Rattle.sql_ast.specs.declared.clauses.Item.TheVariants as item
use Rattle.sql_ast.specs.declared.clauses.LimitPart.{LimitPart}
use Rattle.sql_ast.specs.declared.clauses.NullsPart.{NullsPart}
use Rattle.sql_ast.specs.declared.clauses.On.{On}
use Rattle.sql_ast.specs.declared.clauses.On.TheVariants as on
use Rattle.sql_ast.specs.declared.clauses.Replacement.{Replacement}
use Rattle.sql_ast.specs.declared.clauses.Sort.{Sort}
use Rattle.sql_ast.specs.declared.clauses.When.{When}
use Rattle.sql_ast.specs.declared.grouping.Groups.{Groups}
use Rattle.sql_ast.specs.declared.expr.Link.{Link}
use Rattle.sql_ast.specs.declared.expr.Part.{Part}
use Rattle.sql_ast.specs.declared.expr.Part.TheVariants as part
use Rattle.sql_ast.specs.declared.query.Cte.{Cte}
use Rattle.sql_ast.specs.declared.query.SetTerm.{SetTerm}
use Rattle.sql_ast.specs.declared.expr.Expr.{Expr, out-Expr, roll-out-Expr, map-Expr, para-roll-Expr}
use Rattle.sql_ast.specs.declared.query.Primary.{Primary, out-Primary, roll-out-Primary, map-Primary, para-roll-Primary}
use Rattle.sql_ast.specs.declared.query.Term.{Term, out-Term, roll-out-Term, map-Term, para-roll-Term}
use Rattle.sql_ast.specs.declared.query.FromItem.{FromItem, out-FromItem, roll-out-FromItem, map-FromItem, para-roll-FromItem}
use Rattle.sql_ast.specs.declared.query.Joined.{Joined, out-Joined, roll-out-Joined, map-Joined, para-roll-Joined}
use Rattle.sql_ast.specs.declared.query.Query.{Query, out-Query, roll-out-Query, map-Query, para-roll-Query}
use Rattle.sql_ast.specs.declared.query.Select.{Select, out-Select, roll-out-Select, map-Select, para-roll-Select}
use Rattle.sql_ast.specs.declared.expr.Expr.TheOpen.{Expr-F, Primary-F, Term-F, FromItem-F, Joined-F, Query-F, Select-F}
use Rattle.sql_ast.specs.declared.expr.Expr.TheOpen as ast
use Rattle.sql_ast.specs.declared.expr.Expr.TheShapes as shapes
use Rattle.sql_coerce.specs.declared.arg.Arg.{Arg}
use Rattle.sql_catalog.specs.declared.entries.Entries.{Entries}
use Rattle.sql_rules.specs.declared.scope.Entry.{Entry}
use Rattle.sql_rules.specs.Scopes.{found}
use Rattle.written_types.specs.Checks.{Checked, ◌>>=◌, unless}
use Rattle.sql_semantics.specs.Sights.{Sight, inside, with_cte, for_struct}
use Rattle.sql_semantics.specs.Places.{place_of, single_name, implied_name}
use Rattle.sql_semantics.specs.Paths.{leading_names, path_type}
use Rattle.sql_semantics.specs.FromScopes.{FromScope, repeats_range}
use Rattle.sql_semantics.specs.TypeCalls.{Defined, has_modifier, call_type, safe_call_type}
use Rattle.sql_semantics.specs.CatalogNames.{function_of}
use Rattle.sql_semantics.specs.TypeForms.{needed, field_type, element_of, type_of, other, struct_fields, operator_type, operator_name}
use Rattle.sql_semantics.specs.TypeLayers.{Columns, function_name, named_or, columns_at, cte_named, primary_place, seen_scope, hides_left, is_part, next_part, path_place, chain_layer, chained, args_layer, parts_layer, path_layer, postfix_layer, sorts_layer, expression_layer, argument_layer, arguments_layer, call_layer, safe_call_layer, condition_layer, branches_layer, values_layer, otherwise_layer, case_layer, bindings_layer, elements_layer, fields_layer, aliased_args, aliased_names, expr_layer, primary_layer, on_layer, joined_layer, joins_layer, from_layer, from_part, replacements_layer, edit_layer, items_layer, where_layer, select_layer, term_layer, ctes_layer, query_layer}
use Rattle.sql_semantics.specs.Types.{AsExpr, AsPrimary, AsFrom, AsJoined, AsColumns, given, typed, TypeExpr, TypePrimary, TypeTerm, TypeFrom, TypeJoined, TypeQuery, TypeSelect}

-- one check after another is the same where each is
then_on : {A B : Type 0} (m : Checked A) {k l : A → Checked B} → ((x : A) → k x ≡ l x) → (m >>= k) ≡ (m >>= l)
then_on (Ok x) next = next x
then_on (Err broken) next = refl

then_same : {A B : Type 0} {m n : Checked A} {k l : A → Checked B} → m ≡ n → ((x : A) → k x ≡ l x) → (m >>= k) ≡ (n >>= l)
then_same {n = n} {k = k} same next = ap (λ r. r >>= k) same ∙ then_on n next

module _ (catalog : Entries) (definitions : List Defined) where
  -- each part with how it is typed
  abbrev e1 : Expr → Expr × AsExpr
  e1 y = (y, TypeExpr catalog definitions y)

  abbrev p1 : Primary → Primary × AsPrimary
  p1 y = (y, TypePrimary catalog definitions y)

  abbrev t1 : Term → Term × AsColumns
  t1 y = (y, TypeTerm catalog definitions y)

  abbrev f1 : FromItem → FromItem × AsFrom
  f1 y = (y, TypeFrom catalog definitions y)

  abbrev j1 : Joined → Joined × AsJoined
  j1 y = (y, TypeJoined catalog definitions y)

  abbrev q1 : Query → Query × AsColumns
  q1 y = (y, TypeQuery catalog definitions y)

  abbrev s1 : Select → Select × AsColumns
  s1 y = (y, TypeSelect catalog definitions y)

  -- ---- lists of parts

  abbrev links : List (Link Expr) → List (Link (Expr × AsExpr))
  links = map (λ l. record { operator = l.operator; operand = e1 l.operand; place = l.place })

  pair-chain : (a : Arg) (ls : List (Link Expr)) (sight : Sight) → chain_layer catalog definitions given a (links ls) sight ≡ chain_layer catalog definitions (typed catalog definitions) a ls sight
  pair-chain a [] sight = refl
  pair-chain a (l ∷ ls) sight = then_on (TypeExpr catalog definitions l.operand sight) (λ b. then_on (operator_type (operator_name l.operator) l.place (a ∷ b ∷ [])) (λ c. pair-chain c ls sight))

  pair-chained : (first : Expr) (ls : List (Link Expr)) (sight : Sight) → chained catalog definitions given (e1 first) (links ls) sight ≡ chained catalog definitions (typed catalog definitions) first ls sight
  pair-chained first ls sight = then_on (TypeExpr catalog definitions first sight) (λ a. pair-chain a ls sight)

  pair-args : (es : List Expr) (sight : Sight) → args_layer catalog definitions given (map e1 es) sight ≡ args_layer catalog definitions (typed catalog definitions) es sight
  pair-args [] sight = refl
  pair-args (e ∷ es) sight = then_on (TypeExpr catalog definitions e sight) (λ x. then_same (pair-args es sight) (λ xs. refl))

  pair-length : (es : List Expr) → length (map e1 es) ≡ length es
  pair-length [] = refl
  pair-length (e ∷ es) = ap suc (pair-length es)

  abbrev parts : List (Part Expr) → List (Part (Expr × AsExpr))
  parts = shapes.former-Expr-Postfix-1.map Expr (Expr × AsExpr) e1

  pair-leading : (ps : List (Part Expr)) → leading_names (parts ps) ≡ leading_names ps
  pair-leading [] = refl
  pair-leading (part.Field name ∷ ps) = ap (λ names. name.text ∷ names) (pair-leading ps)
  pair-leading (part.Index form index place ∷ ps) = refl

  pair-drop : (n : ℕ) (ps : List (Part Expr)) → drop n (parts ps) ≡ parts (drop n ps)
  pair-drop zero ps = refl
  pair-drop (suc n) [] = refl
  pair-drop (suc n) (p ∷ ps) = pair-drop n ps

  pair-parts : (place own : ℕ) (type : SqlType) (ps : List (Part Expr)) (sight : Sight) → parts_layer catalog definitions given place own type (parts ps) sight ≡ parts_layer catalog definitions (typed catalog definitions) place own type ps sight
  pair-parts place own type [] sight = refl
  pair-parts place own type (part.Field name ∷ ps) sight = then_on (field_type name type) (λ field. pair-parts place place field ps sight)
  pair-parts place own type (part.Index form index open_place ∷ ps) sight =
      then_on (element_of own type) (λ element. then_on (TypeExpr catalog definitions index sight) (λ i. then_on (needed ty.Int64 (place_of index) i) (λ _. pair-parts place place element ps sight)))

  pair-path : (place own : ℕ) (first : List ℕ) (ps : List (Part Expr)) (sight : Sight) → path_layer catalog definitions given place own first (parts ps) sight ≡ path_layer catalog definitions (typed catalog definitions) place own first ps sight
  pair-path place own first ps sight =
      then_same (ap (λ names. path_type own sight.levels (found sight.levels first names)) (pair-leading ps))
      (λ bound. then_same (ap (λ more. parts_layer catalog definitions given place own bound.0 more sight) (pair-drop bound.1 ps) ∙ pair-parts place own bound.0 (drop bound.1 ps) sight) (λ type. refl))

  pair-postfix : (place : ℕ) (name : Option (List ℕ)) (first : Expr) (ps : List (Part Expr)) (sight : Sight) → postfix_layer catalog definitions given place name (e1 first) (parts ps) sight ≡ postfix_layer catalog definitions (typed catalog definitions) place name first ps sight
  pair-postfix place (Some name) first ps sight =
      ap (λ names. path_layer catalog definitions given place (path_place catalog definitions (typed catalog definitions) place (place_of first) names) name (parts ps) sight) (pair-leading ps)
      ∙ pair-path place (path_place catalog definitions (typed catalog definitions) place (place_of first) (leading_names ps)) name ps sight
  pair-postfix place None first ps sight = then_on (TypeExpr catalog definitions first sight) (λ a. then_same (pair-parts place (place_of first) (type_of a) ps sight) (λ type. refl))

  -- ---- calls

  abbrev called : Call Expr → Call (Expr × AsExpr)
  called = shapes.former-Expr-Call-0.map Expr (Expr × AsExpr) e1

  abbrev call_arguments : List (Argument Expr) → List (Argument (Expr × AsExpr))
  call_arguments xs = (called (record { function = function.If; distinct = false; star = false; arguments = xs; nulls = None; order = []; limit = None; place = 0 })).arguments

  abbrev sorts : List (Sort Expr) → List (Sort (Expr × AsExpr))
  sorts = map (λ s. record { expr = e1 s.expr; descending = s.descending; nulls = s.nulls; place = s.place })

  pair-sorts : (ss : List (Sort Expr)) (sight : Sight) → sorts_layer catalog definitions given (sorts ss) sight ≡ sorts_layer catalog definitions (typed catalog definitions) ss sight
  pair-sorts [] sight = refl
  pair-sorts (s ∷ ss) sight = then_on (TypeExpr catalog definitions s.expr sight) (λ x. then_same (pair-sorts ss sight) (λ xs. refl))

  pair-modifier : (distinct star : Bool) (nulls : Option NullsPart) (ss : List (Sort Expr)) (limit : Option ℕ) → has_modifier distinct star nulls (sorts ss) limit ≡ has_modifier distinct star nulls ss limit
  pair-modifier distinct star nulls [] limit = refl
  pair-modifier distinct star nulls (s ∷ ss) limit = refl

  pair-arguments : (here : Option ℕ) (xs : List (Argument Expr)) (sight : Sight) → arguments_layer catalog definitions given here (call_arguments xs) sight ≡ arguments_layer catalog definitions (typed catalog definitions) here xs sight
  pair-arguments here [] sight = refl
  pair-arguments here (arg.Expr e ∷ xs) sight = then_on (expression_layer catalog definitions (typed catalog definitions) (is_part here) e sight) (λ w. then_same (pair-arguments (next_part here) xs sight) (λ ws. refl))
  pair-arguments here (arg.Interval amount part place ∷ xs) sight =
      then_on (argument_layer catalog definitions (typed catalog definitions) (is_part here) (arg.Interval amount part place) sight) (λ w. then_same (pair-arguments (next_part here) xs sight) (λ ws. refl))
  pair-arguments here (arg.Lambda variables body place ∷ xs) sight = refl

  pair-call : (call : Call Expr) (sight : Sight) → call_layer catalog definitions given (called call) sight ≡ call_layer catalog definitions (typed catalog definitions) call sight
  pair-call call sight =
      then_same (pair-arguments _ call.arguments sight) (λ arguments. then_same (pair-sorts call.order sight) (λ found_sorts.
      ap (λ modified. call_type call.place (function_name call.function) (function_of catalog definitions (function_name call.function)) modified arguments) (pair-modifier call.distinct call.star call.nulls call.order call.limit)))

  pair-safe-call : (call : Call Expr) (sight : Sight) → safe_call_layer catalog definitions given (called call) sight ≡ safe_call_layer catalog definitions (typed catalog definitions) call sight
  pair-safe-call call sight =
      then_same (pair-arguments _ call.arguments sight) (λ arguments. then_same (pair-sorts call.order sight) (λ found_sorts.
      ap (λ modified. safe_call_type call.place (function_name call.function) (function_of catalog definitions (function_name call.function)) modified arguments) (pair-modifier call.distinct call.star call.nulls call.order call.limit)))

  -- ---- CASE

  abbrev branches : List (When Expr) → List (When (Expr × AsExpr))
  branches = map (λ w. record { test = e1 w.test; result = e1 w.result })

  abbrev optional : Option Expr → Option (Expr × AsExpr)
  optional = shapes.former-Expr-Case-0.map Expr (Expr × AsExpr) e1

  pair-branches : (ws : List (When Expr)) (sight : Sight) → branches_layer catalog definitions given (branches ws) sight ≡ branches_layer catalog definitions (typed catalog definitions) ws sight
  pair-branches [] sight = refl
  pair-branches (w ∷ ws) sight =
      then_on (condition_layer catalog definitions (typed catalog definitions) w.test sight) (λ _. then_on (TypeExpr catalog definitions w.result sight) (λ r. then_same (pair-branches ws sight) (λ rs. refl)))

  pair-values : (ws : List (When Expr)) (sight : Sight) → values_layer catalog definitions given (branches ws) sight ≡ values_layer catalog definitions (typed catalog definitions) ws sight
  pair-values [] sight = refl
  pair-values (w ∷ ws) sight =
      then_on (TypeExpr catalog definitions w.test sight) (λ v. then_on (TypeExpr catalog definitions w.result sight) (λ r. then_same (pair-values ws sight) (λ rest. refl)))

  pair-otherwise : (last : Option Expr) (sight : Sight) → otherwise_layer catalog definitions given (optional last) sight ≡ otherwise_layer catalog definitions (typed catalog definitions) last sight
  pair-otherwise None sight = refl
  pair-otherwise (Some e) sight = refl

  pair-case : (place : ℕ) (subject : Option Expr) (ws : List (When Expr)) (last : Option Expr) (sight : Sight) →
      case_layer catalog definitions given place (optional subject) (branches ws) (optional last) sight ≡ case_layer catalog definitions (typed catalog definitions) place subject ws last sight
  pair-case place None ws last sight = then_same (pair-branches ws sight) (λ results. then_same (pair-otherwise last sight) (λ l. refl))
  pair-case place (Some subject) ws last sight =
      then_on (TypeExpr catalog definitions subject sight) (λ s. then_same (pair-values ws sight) (λ both. then_same (pair-otherwise last sight) (λ l. refl)))

  -- ---- WITH expressions, typed arrays and STRUCTs

  abbrev bound : List (Binding Expr) → List (Binding (Expr × AsExpr))
  bound = map (λ b. record { name = b.name; expr = e1 b.expr })

  pair-bindings : (bs : List (Binding Expr)) (scope : List Entry) (sight : Sight) → bindings_layer catalog definitions given (bound bs) scope sight ≡ bindings_layer catalog definitions (typed catalog definitions) bs scope sight
  pair-bindings [] scope sight = refl
  pair-bindings (b ∷ bs) scope sight = then_on (TypeExpr catalog definitions b.expr (inside sight scope)) (λ a. then_on _ (λ _. pair-bindings bs _ sight))

  pair-elements : (type : SqlType) (es : List Expr) (sight : Sight) → elements_layer catalog definitions given type (map e1 es) sight ≡ elements_layer catalog definitions (typed catalog definitions) type es sight
  pair-elements type [] sight = refl
  pair-elements type (e ∷ es) sight = then_on (TypeExpr catalog definitions e sight) (λ a. then_on (needed type (place_of e) a) (λ _. pair-elements type es sight))

  pair-fields : (fields : List (Named SqlType)) (es : List Expr) (sight : Sight) → fields_layer catalog definitions given fields (map e1 es) sight ≡ fields_layer catalog definitions (typed catalog definitions) fields es sight
  pair-fields [] [] sight = refl
  pair-fields (f ∷ fields) [] sight = refl
  pair-fields [] (e ∷ es) sight = then_on (TypeExpr catalog definitions e sight) (λ a. pair-fields [] es sight)
  pair-fields (f ∷ fields) (e ∷ es) sight = then_on (TypeExpr catalog definitions e sight) (λ a. then_on (needed f.ty (place_of e) a) (λ _. pair-fields fields es sight))

  abbrev aliased : List (Aliased Expr) → List (Aliased (Expr × AsExpr))
  aliased = map (λ x. record { expr = e1 x.expr; alias = x.alias })

  pair-aliased : (xs : List (Aliased Expr)) (sight : Sight) → aliased_args catalog definitions given (aliased xs) sight ≡ aliased_args catalog definitions (typed catalog definitions) xs sight
  pair-aliased [] sight = refl
  pair-aliased (x ∷ xs) sight = then_on (TypeExpr catalog definitions x.expr sight) (λ a. then_same (pair-aliased xs sight) (λ rest. refl))

  pair-names : (xs : List (Aliased Expr)) → aliased_names catalog definitions given (aliased xs) ≡ aliased_names catalog definitions (typed catalog definitions) xs
  pair-names [] = refl
  pair-names (x ∷ xs) = ap (λ names. named_or x.alias (implied_name x.expr) ∷ names) (pair-names xs)

  -- ---- expressions

  abbrev over_expr : Expr-F Expr Primary Term FromItem Joined Query Select → Expr-F (Expr × AsExpr) (Primary × AsPrimary) (Term × AsColumns) (FromItem × AsFrom) (Joined × AsJoined) (Query × AsColumns) (Select × AsColumns)
  over_expr = map-Expr _ _ _ _ _ _ _ _ _ _ _ _ _ _ e1 p1 t1 f1 j1 q1 s1

  pair-expr : (x : Expr-F Expr Primary Term FromItem Joined Query Select) (sight : Sight) → expr_layer catalog definitions given (over_expr x) sight ≡ expr_layer catalog definitions (typed catalog definitions) x sight
  pair-expr (ast.Or first rest place) sight = pair-chained first rest sight
  pair-expr (ast.And first rest place) sight = pair-chained first rest sight
  pair-expr (ast.BitOr first rest place) sight = pair-chained first rest sight
  pair-expr (ast.BitXor first rest place) sight = pair-chained first rest sight
  pair-expr (ast.BitAnd first rest place) sight = pair-chained first rest sight
  pair-expr (ast.Shift first rest place) sight = pair-chained first rest sight
  pair-expr (ast.Sum first rest place) sight = pair-chained first rest sight
  pair-expr (ast.Product first rest place) sight = pair-chained first rest sight
  pair-expr (ast.InList left negated operator_place list place) sight = then_same (pair-args (left ∷ list) sight) (λ arguments. refl)
  pair-expr (ast.Postfix first more place) sight = pair-postfix place (single_name first) first more sight
  pair-expr (ast.Name name place) sight = pair-path place place name [] sight
  pair-expr (ast.Call call place) sight = pair-call call sight
  pair-expr (ast.SafeCall call place) sight = pair-safe-call call sight
  pair-expr (ast.Tuple es place) sight = then_same (pair-args es sight) (λ arguments. refl)
  pair-expr (ast.Case subject whens last place) sight = pair-case place subject whens last sight
  pair-expr (ast.Array None es open_place place) sight = then_same (pair-args es sight) (λ arguments. refl)
  pair-expr (ast.Array (Some type) es open_place place) sight = then_on _ (λ array. then_on (element_of place array) (λ element. then_same (pair-elements element es sight) (λ _. refl)))
  pair-expr (ast.Struct fields place) sight = then_same (pair-aliased fields sight) (λ arguments. ap (λ names. other (ty.Struct (struct_fields names arguments))) (pair-names fields))
  pair-expr (ast.TypedStruct fields es open_place place) sight =
      then_on _ (λ types. then_same (pair-fields types es sight) (λ _. ap (λ n. unless (not (length types == n)) 18 open_place >>= (λ _. other (ty.Struct types))) (pair-length es)))
  pair-expr (ast.With bindings result place) sight = then_same (pair-bindings bindings [] sight) (λ scope. refl)
  pair-expr _ sight = refl

  -- ---- FROM

  abbrev over_primary : Primary-F Expr Primary Term FromItem Joined Query Select → Primary-F (Expr × AsExpr) (Primary × AsPrimary) (Term × AsColumns) (FromItem × AsFrom) (Joined × AsJoined) (Query × AsColumns) (Select × AsColumns)
  over_primary = map-Primary _ _ _ _ _ _ _ _ _ _ _ _ _ _ e1 p1 t1 f1 j1 q1 s1

  pair-primary : (x : Primary-F Expr Primary Term FromItem Joined Query Select) (sight : Sight) (left : List Entry) → primary_layer catalog definitions given (over_primary x) sight left ≡ primary_layer catalog definitions (typed catalog definitions) x sight left
  pair-primary (ast.Table name alias None place) sight left = refl
  pair-primary (ast.Table name alias (Some turned) place) sight left = refl
  pair-primary (Primary-F.«Primary::Query» query alias None place) sight left = refl
  pair-primary (Primary-F.«Primary::Query» query alias (Some turned) place) sight left = refl
  pair-primary _ sight left = refl

  abbrev over_joined : Joined-F Expr Primary Term FromItem Joined Query Select → Joined-F (Expr × AsExpr) (Primary × AsPrimary) (Term × AsColumns) (FromItem × AsFrom) (Joined × AsJoined) (Query × AsColumns) (Select × AsColumns)
  over_joined = map-Joined _ _ _ _ _ _ _ _ _ _ _ _ _ _ e1 p1 t1 f1 j1 q1 s1

  abbrev condition_of : Option (On Expr) → Option (On (Expr × AsExpr))
  condition_of = shapes.former-Joined-on.map Expr (Expr × AsExpr) e1

  pair-on : (o : Option (On Expr)) (left right : FromScope) (sight : Sight) → on_layer catalog definitions given (condition_of o) left right sight ≡ on_layer catalog definitions (typed catalog definitions) o left right sight
  pair-on None left right sight = refl
  pair-on (Some (on.On condition place)) left right sight = refl
  pair-on (Some (on.Using columns place)) left right sight = refl

  pair-joined : (x : Joined-F Expr Primary Term FromItem Joined Query Select) (sight : Sight) (left : FromScope) → joined_layer catalog definitions given (over_joined x) sight left ≡ joined_layer catalog definitions (typed catalog definitions) x sight left
  pair-joined x sight left =
      then_on (TypePrimary catalog definitions x.primary sight (seen_scope (hides_left x.word) left)) (λ right.
      then_on (unless (repeats_range left.scope right.scope) 8 (primary_place (out-Primary x.primary))) (λ _. pair-on x.on left right sight))

  pair-joins : (js : List Joined) (sight : Sight) (left : FromScope) → joins_layer catalog definitions given (map j1 js) sight left ≡ joins_layer catalog definitions (typed catalog definitions) js sight left
  pair-joins [] sight left = refl
  pair-joins (j ∷ js) sight left = then_on (TypeJoined catalog definitions j sight left) (λ all. pair-joins js sight all)

  abbrev over_from : FromItem-F Expr Primary Term FromItem Joined Query Select → FromItem-F (Expr × AsExpr) (Primary × AsPrimary) (Term × AsColumns) (FromItem × AsFrom) (Joined × AsJoined) (Query × AsColumns) (Select × AsColumns)
  over_from = map-FromItem _ _ _ _ _ _ _ _ _ _ _ _ _ _ e1 p1 t1 f1 j1 q1 s1

  pair-from : (x : FromItem-F Expr Primary Term FromItem Joined Query Select) (sight : Sight) → from_layer catalog definitions given (over_from x) sight ≡ from_layer catalog definitions (typed catalog definitions) x sight
  pair-from x sight = then_on _ (λ first. pair-joins x.rest sight first)

  -- ---- the select list

  abbrev replacements : List (Replacement Expr) → List (Replacement (Expr × AsExpr))
  replacements = map (λ r. record { expr = e1 r.expr; name = r.name })

  pair-replacements : (rs : List (Replacement Expr)) (sight : Sight) → replacements_layer catalog definitions given (replacements rs) sight ≡ replacements_layer catalog definitions (typed catalog definitions) rs sight
  pair-replacements [] sight = refl
  pair-replacements (r ∷ rs) sight = then_on (TypeExpr catalog definitions r.expr sight) (λ a. then_same (pair-replacements rs sight) (λ types. refl))

  abbrev edits : Edit Expr → Edit (Expr × AsExpr)
  edits edit = record { except = edit.except; replace = replacements edit.replace }

  pair-edit : (place : ℕ) (edit : Edit Expr) (columns : Columns) (sight : Sight) → edit_layer catalog definitions given place (edits edit) columns sight ≡ edit_layer catalog definitions (typed catalog definitions) place edit columns sight
  pair-edit place edit columns sight = then_same (pair-replacements edit.replace sight) (λ replaced. refl)

  abbrev items : List (Item Expr) → List (Item (Expr × AsExpr))
  items = shapes.former-Select-items.map Expr (Expr × AsExpr) e1

  pair-items : (from : FromScope) (is : List (Item Expr)) (sight : Sight) → items_layer catalog definitions given from (items is) sight ≡ items_layer catalog definitions (typed catalog definitions) from is sight
  pair-items from [] sight = refl
  pair-items from (item.Star edit place ∷ is) sight = then_same (pair-edit place edit (columns_at from.scope from.star) sight) (λ c. then_same (pair-items from is sight) (λ cs. refl))
  pair-items from (item.QualifiedStar e edit place ∷ is) sight =
      then_same (then_on _ (λ columns. pair-edit place edit columns sight)) (λ c. then_same (pair-items from is sight) (λ cs. refl))
  pair-items from (item.Expr e alias place ∷ is) sight = then_on _ (λ c. then_same (pair-items from is sight) (λ cs. refl))

  -- ---- queries

  abbrev over_select : Select-F Expr Primary Term FromItem Joined Query Select → Select-F (Expr × AsExpr) (Primary × AsPrimary) (Term × AsColumns) (FromItem × AsFrom) (Joined × AsJoined) (Query × AsColumns) (Select × AsColumns)
  over_select = map-Select _ _ _ _ _ _ _ _ _ _ _ _ _ _ e1 p1 t1 f1 j1 q1 s1

  abbrev optional_from : Option FromItem → Option (FromItem × AsFrom)
  optional_from = shapes.former-Select-from.map FromItem (FromItem × AsFrom) f1

  pair-from-part : (from : Option FromItem) (sight : Sight) → from_part catalog definitions given (optional_from from) sight ≡ from_part catalog definitions (typed catalog definitions) from sight
  pair-from-part None sight = refl
  pair-from-part (Some f) sight = refl

  pair-where : (test : Option Expr) (sight : Sight) → where_layer catalog definitions given (optional test) sight ≡ where_layer catalog definitions (typed catalog definitions) test sight
  pair-where None sight = refl
  pair-where (Some e) sight = refl

  pair-select : (distinct as_struct : Bool) (is : List (Item Expr)) (from : Option FromItem) (filter : Option Expr) (grouping : Option (Groups Expr)) (having : Option (FilterPart Expr)) (place : ℕ) (sight : Sight) →
      select_layer catalog definitions given (over_select (record { distinct = distinct; as_struct = as_struct; items = is; from = from; filter = filter; grouping = grouping; having = having; place = place })) sight
      ≡ select_layer catalog definitions (typed catalog definitions) (record { distinct = distinct; as_struct = as_struct; items = is; from = from; filter = filter; grouping = grouping; having = having; place = place }) sight
  pair-select true as_struct is from filter grouping having place sight = refl
  pair-select false as_struct is from filter (Some grouping) having place sight = refl
  pair-select false as_struct is from filter None (Some having) place sight = refl
  pair-select false as_struct is from filter None None place sight =
      then_same (pair-from-part from sight) (λ scope. then_same (pair-where filter (inside sight scope.scope)) (λ _. then_same (pair-items scope is (inside sight scope.scope)) (λ columns. refl)))

  abbrev over_term : Term-F Expr Primary Term FromItem Joined Query Select → Term-F (Expr × AsExpr) (Primary × AsPrimary) (Term × AsColumns) (FromItem × AsFrom) (Joined × AsJoined) (Query × AsColumns) (Select × AsColumns)
  over_term = map-Term _ _ _ _ _ _ _ _ _ _ _ _ _ _ e1 p1 t1 f1 j1 q1 s1

  pair-term : (x : Term-F Expr Primary Term FromItem Joined Query Select) (sight : Sight) → term_layer catalog definitions given (over_term x) sight ≡ term_layer catalog definitions (typed catalog definitions) x sight
  pair-term (ast.Select select) sight = refl
  pair-term _ sight = refl

  abbrev ctes : List (Cte Query) → List (Cte (Query × AsColumns))
  ctes = map (λ c. record { name = c.name; query = q1 c.query })

  pair-ctes : (names : List (List ℕ)) (cs : List (Cte Query)) (sight : Sight) → ctes_layer catalog definitions given names (ctes cs) sight ≡ ctes_layer catalog definitions (typed catalog definitions) names cs sight
  pair-ctes names [] sight = refl
  pair-ctes names (c ∷ cs) sight = then_on (TypeQuery catalog definitions c.query (for_struct false sight)) (λ columns. then_on (unless (cte_named c.name.text names) 8 c.name.place) (λ _. pair-ctes (c.name.text ∷ names) cs (with_cte sight (record { name = c.name.text; columns = columns }))))

  abbrev over_query : Query-F Expr Primary Term FromItem Joined Query Select → Query-F (Expr × AsExpr) (Primary × AsPrimary) (Term × AsColumns) (FromItem × AsFrom) (Joined × AsJoined) (Query × AsColumns) (Select × AsColumns)
  over_query = map-Query _ _ _ _ _ _ _ _ _ _ _ _ _ _ e1 p1 t1 f1 j1 q1 s1

  pair-query : (cs : List (Cte Query)) (first : Term) (rest : List (SetTerm Term)) (body_place : ℕ) (order : List (Sort Expr)) (limit : Option (LimitPart Expr)) (place : ℕ) (sight : Sight) →
      query_layer catalog definitions given (over_query (record { ctes = cs; body = record { first = first; rest = rest; place = body_place }; order = order; limit = limit; place = place })) sight
      ≡ query_layer catalog definitions (typed catalog definitions) (record { ctes = cs; body = record { first = first; rest = rest; place = body_place }; order = order; limit = limit; place = place }) sight
  pair-query cs first (set ∷ rest) body_place order limit place sight = refl
  pair-query cs first [] body_place (sort ∷ order) limit place sight = refl
  pair-query cs first [] body_place [] (Some limit) place sight = refl
  pair-query cs first [] body_place [] None place sight = then_same (pair-ctes [] cs sight) (λ inner. refl)

  -- ---- one equation a sort

  pub typed-expr : (e : Expr) → TypeExpr catalog definitions e ≡ expr_layer catalog definitions (typed catalog definitions) (out-Expr e)
  unfolding TypeExpr TypePrimary TypeTerm TypeFrom TypeJoined TypeQuery TypeSelect
  typed-expr e =
      ap (TypeExpr catalog definitions) (sym (roll-out-Expr e))
      ∙ para-roll-Expr AsExpr AsPrimary AsColumns AsFrom AsJoined AsColumns AsColumns (expr_layer catalog definitions given) (primary_layer catalog definitions given) (term_layer catalog definitions given) (from_layer catalog definitions given) (joined_layer catalog definitions given) (query_layer catalog definitions given) (select_layer catalog definitions given) (out-Expr e)
      ∙ fun_ext (pair-expr (out-Expr e))

  pub typed-primary : (e : Primary) → TypePrimary catalog definitions e ≡ primary_layer catalog definitions (typed catalog definitions) (out-Primary e)
  unfolding TypeExpr TypePrimary TypeTerm TypeFrom TypeJoined TypeQuery TypeSelect
  typed-primary e =
      ap (TypePrimary catalog definitions) (sym (roll-out-Primary e))
      ∙ para-roll-Primary AsExpr AsPrimary AsColumns AsFrom AsJoined AsColumns AsColumns (expr_layer catalog definitions given) (primary_layer catalog definitions given) (term_layer catalog definitions given) (from_layer catalog definitions given) (joined_layer catalog definitions given) (query_layer catalog definitions given) (select_layer catalog definitions given) (out-Primary e)
      ∙ fun_ext (λ sight. fun_ext (pair-primary (out-Primary e) sight))

  pub typed-term : (e : Term) → TypeTerm catalog definitions e ≡ term_layer catalog definitions (typed catalog definitions) (out-Term e)
  unfolding TypeExpr TypePrimary TypeTerm TypeFrom TypeJoined TypeQuery TypeSelect
  typed-term e =
      ap (TypeTerm catalog definitions) (sym (roll-out-Term e))
      ∙ para-roll-Term AsExpr AsPrimary AsColumns AsFrom AsJoined AsColumns AsColumns (expr_layer catalog definitions given) (primary_layer catalog definitions given) (term_layer catalog definitions given) (from_layer catalog definitions given) (joined_layer catalog definitions given) (query_layer catalog definitions given) (select_layer catalog definitions given) (out-Term e)
      ∙ fun_ext (pair-term (out-Term e))

  pub typed-from : (e : FromItem) → TypeFrom catalog definitions e ≡ from_layer catalog definitions (typed catalog definitions) (out-FromItem e)
  unfolding TypeExpr TypePrimary TypeTerm TypeFrom TypeJoined TypeQuery TypeSelect
  typed-from e =
      ap (TypeFrom catalog definitions) (sym (roll-out-FromItem e))
      ∙ para-roll-FromItem AsExpr AsPrimary AsColumns AsFrom AsJoined AsColumns AsColumns (expr_layer catalog definitions given) (primary_layer catalog definitions given) (term_layer catalog definitions given) (from_layer catalog definitions given) (joined_layer catalog definitions given) (query_layer catalog definitions given) (select_layer catalog definitions given) (out-FromItem e)
      ∙ fun_ext (pair-from (out-FromItem e))

  pub typed-joined : (e : Joined) → TypeJoined catalog definitions e ≡ joined_layer catalog definitions (typed catalog definitions) (out-Joined e)
  unfolding TypeExpr TypePrimary TypeTerm TypeFrom TypeJoined TypeQuery TypeSelect
  typed-joined e =
      ap (TypeJoined catalog definitions) (sym (roll-out-Joined e))
      ∙ para-roll-Joined AsExpr AsPrimary AsColumns AsFrom AsJoined AsColumns AsColumns (expr_layer catalog definitions given) (primary_layer catalog definitions given) (term_layer catalog definitions given) (from_layer catalog definitions given) (joined_layer catalog definitions given) (query_layer catalog definitions given) (select_layer catalog definitions given) (out-Joined e)
      ∙ fun_ext (λ sight. fun_ext (pair-joined (out-Joined e) sight))

  pub typed-query : (e : Query) → TypeQuery catalog definitions e ≡ query_layer catalog definitions (typed catalog definitions) (out-Query e)
  unfolding TypeExpr TypePrimary TypeTerm TypeFrom TypeJoined TypeQuery TypeSelect
  typed-query e =
      ap (TypeQuery catalog definitions) (sym (roll-out-Query e))
      ∙ para-roll-Query AsExpr AsPrimary AsColumns AsFrom AsJoined AsColumns AsColumns (expr_layer catalog definitions given) (primary_layer catalog definitions given) (term_layer catalog definitions given) (from_layer catalog definitions given) (joined_layer catalog definitions given) (query_layer catalog definitions given) (select_layer catalog definitions given) (out-Query e)
      ∙ fun_ext (pair-query (out-Query e).ctes (out-Query e).body.first (out-Query e).body.rest (out-Query e).body.place (out-Query e).order (out-Query e).limit (out-Query e).place)

  pub typed-select : (e : Select) → TypeSelect catalog definitions e ≡ select_layer catalog definitions (typed catalog definitions) (out-Select e)
  unfolding TypeExpr TypePrimary TypeTerm TypeFrom TypeJoined TypeQuery TypeSelect
  typed-select e =
      ap (TypeSelect catalog definitions) (sym (roll-out-Select e))
      ∙ para-roll-Select AsExpr AsPrimary AsColumns AsFrom AsJoined AsColumns AsColumns (expr_layer catalog definitions given) (primary_layer catalog definitions given) (term_layer catalog definitions given) (from_layer catalog definitions given) (joined_layer catalog definitions given) (query_layer catalog definitions given) (select_layer catalog definitions given) (out-Select e)
      ∙ fun_ext (pair-select (out-Select e).distinct (out-Select e).as_struct (out-Select e).items (out-Select e).from (out-Select e).filter (out-Select e).grouping (out-Select e).having (out-Select e).place)
