-- The meaning of a text, one construct at a time: each part means what its layer says over its own parts.
use Rattle.std.proofs.Common.{◌≡◌, ℕ, zero, suc, Bool, true, false, not, ◌&&◌, if◌then◌else◌, List, [], ◌∷◌, ◌++◌, map, drop, length, Option, None, Some, Ok, Err, refl, sym, ◌∙◌, ap}
use mathlib.Core.Path.{fun_ext}
use Rattle.sql_types.specs.declared.kinds.JoinKind.{JoinKind}
use Rattle.sql_types.specs.declared.sql_type.SqlType.{SqlType}
use Rattle.sql_types.specs.declared.sql_type.SqlType.TheVariants as ty
use Rattle.sql_types.specs.declared.value.Value.{Value}
use Rattle.sql_types.specs.declared.value.Value.TheVariants as value
use Rattle.sql_types.specs.Joined.{joined}
use Rattle.sql_types.specs.Logic.{Decided}
use Rattle.sql_types.specs.Same.{equal}
use Rattle.sql_types.specs.Outcome.{Outcome, Meaning, gives, just, ◌>>=◌, Gather, Both}
use Rattle.sql_names.specs.Words.{same_name}
use Rattle.sql_ast.specs.declared.clauses.Aliased.{Aliased}
use Rattle.sql_ast.specs.declared.clauses.Arg.{Arg as Argument}
use Rattle.sql_ast.specs.declared.clauses.Arg.TheVariants as arg
use Rattle.sql_ast.specs.declared.clauses.Binding.{Binding}
use Rattle.sql_ast.specs.declared.clauses.Call.{Call}
use Rattle.sql_ast.specs.declared.clauses.Edit.{Edit}
use Rattle.sql_ast.specs.declared.clauses.FilterPart.{FilterPart}
use Rattle.sql_ast.specs.declared.clauses.Function.TheVariants as function
use Rattle.sql_ast.specs.declared.clauses.Item.{Item}
use Rattle.sql_ast.specs.declared.clauses.Item.TheVariants as item
use Rattle.sql_ast.specs.declared.clauses.LimitPart.{LimitPart}
use Rattle.sql_ast.specs.declared.clauses.On.{On}
use Rattle.sql_ast.specs.declared.clauses.On.TheVariants as on
use Rattle.sql_ast.specs.declared.clauses.Replacement.{Replacement}
use Rattle.sql_ast.specs.declared.clauses.Sort.{Sort}
use Rattle.sql_ast.specs.declared.clauses.When.{When}
use Rattle.sql_ast.specs.declared.grouping.Groups.{Groups}
use Rattle.sql_ast.specs.declared.expr.Link.{Link}
use Rattle.sql_ast.specs.declared.expr.Part.{Part}
use Rattle.sql_ast.specs.declared.expr.Part.TheVariants as part
use Rattle.sql_ast.specs.declared.query.Cte.{Cte}
use Rattle.sql_ast.specs.declared.query.SetTerm.{SetTerm}
use Rattle.sql_ast.specs.declared.expr.Expr.{Expr, out-Expr, roll-out-Expr, map-Expr, rec-roll-Expr}
use Rattle.sql_ast.specs.declared.query.Primary.{Primary, out-Primary, roll-out-Primary, map-Primary, rec-roll-Primary}
use Rattle.sql_ast.specs.declared.query.Term.{Term, out-Term, roll-out-Term, map-Term, rec-roll-Term}
use Rattle.sql_ast.specs.declared.query.FromItem.{FromItem, out-FromItem, roll-out-FromItem, map-FromItem, rec-roll-FromItem}
use Rattle.sql_ast.specs.declared.query.Joined.{Joined, out-Joined, roll-out-Joined, map-Joined, rec-roll-Joined}
use Rattle.sql_ast.specs.declared.query.Query.{Query, out-Query, roll-out-Query, map-Query, rec-roll-Query}
use Rattle.sql_ast.specs.declared.query.Select.{Select, out-Select, roll-out-Select, map-Select, rec-roll-Select}
use Rattle.sql_ast.specs.declared.expr.Expr.TheOpen.{Expr-F, Primary-F, Term-F, FromItem-F, Joined-F, Query-F, Select-F}
use Rattle.sql_ast.specs.declared.expr.Expr.TheOpen as ast
use Rattle.sql_ast.specs.declared.expr.Expr.TheShapes as shapes
use Rattle.sql_catalog.specs.declared.entries.Entries.{Entries}
use Rattle.sql_builtins.specs.Choices.{chosen}
use Rattle.sql_rules.specs.declared.scope.Entry.{Entry}
use Rattle.sql_rules.specs.declared.scope.Member.{Member}
use Rattle.sql_rules.specs.declared.scope.Found.{Found}
use Rattle.sql_rules.specs.declared.scope.Found.TheVariants.{Bound, Missing, Ambiguous}
use Rattle.sql_rules.specs.Scopes.{found}
use Rattle.written_types.specs.Checks.{Checked}
use Rattle.sql_semantics.specs.TypeForms.{type_of, field_type, element_of, operator_name}
use Rattle.sql_semantics.specs.Places.{single_name}
use Rattle.written_types.specs.TypeNames.{written_type}
use Rattle.sql_semantics.specs.Paths.{leading_names, path_type}
use Rattle.sql_semantics.specs.FromScopes.{FromScope, beside}
use Rattle.sql_semantics.specs.TypeCalls.{Defined, part_place}
use Rattle.sql_semantics.specs.TypeLayers.{Columns, range_of, function_name, is_part, next_part, variable_entry, columns_at, hides_left, lists}
use Rattle.sql_semantics.specs.Types.{TypePrimary, TypeJoined, TypeQuery}
use Rattle.sql_semantics.specs.Environments.{Row, Frame, Env, within, with_outcome, sight_of, Reads}
use Rattle.sql_semantics.specs.MeansForms.{Operand, operator_operand, converted_each, all_converted, args_of, safe_means, negated_means, field_value}
use Rattle.sql_semantics.specs.MeansFroms.{join_kind, is_equal, true_of}
use Rattle.sql_semantics.specs.MeansLayers.{TableRows, Meant, all_of, as_struct, Meanings, type_or, scope_or, columns_or, looks_left, no_frame, function_among, arg_of, operand, operands, value_as, common, chain_operand, chained, decided, parts_means, bound_means, path_means, postfix_means, expression_operand, argument_operands, call_operands, body_means, call_means, safe_call_means, otherwise_operands, branches_means, last_means, results_of, case_means, bindings_means, expr_means, primary_means, pair_tests, kept_pairs, with_columns, join_each, join_alike, join_by, right_scope, joined_means, joins_means, from_means, replaced_value, edited_values, edit_means, members_means, qualified_means, qualified_by, item_means, values_at, row_means, from_scope, from_rows, inner, where_means, plain_select_means, select_means, term_means, ctes_means, query_means}
use Rattle.sql_semantics.specs.Meanings.{ME, MP, MJ, MQ, meanings, meant_parts, MeansExpr, MeansPrimary, MeansTerm, MeansFrom, MeansJoined, MeansQuery, MeansSelect}
use Rattle.sql_forms.specs.Conditions.{is_true, list_means, pick}
use Rattle.sql_forms.specs.Rows.{in_any_order, joined_each}
use Rattle.sql_forms.specs.Subscripts.{subscript}

-- one after another is the same where each is
then_on : {A B : Type 0} (m : Meaning A) {k l : A → Meaning B} → ((x : A) → k x ≡ l x) → (m >>= k) ≡ (m >>= l)
then_on {A = A} {B = B} m next = ap (λ (h : A → Meaning B). m >>= h) (fun_ext next)

then_same : {A B : Type 0} {m n : Meaning A} {k l : A → Meaning B} → m ≡ n → ((x : A) → k x ≡ l x) → (m >>= k) ≡ (n >>= l)
then_same {A = A} {n = n} {k = k} same next = ap (λ (r : Meaning A). r >>= k) same ∙ then_on n next

module _ (catalog : Entries) (definitions : List Defined) (meant : List Meant) (tables : TableRows) (params : List Value) where
  -- ---- a layer doesn't depend on how its parts are named

  module _ {E P T F J Q S : Type 0} (v1 : E → Expr) (v2 : P → Primary) (v3 : T → Term) (v4 : F → FromItem) (v5 : J → Joined) (v6 : Q → Query) (v7 : S → Select) (k1 : Expr → ME) (k2 : Primary → MP) (k3 : Term → MQ) (k4 : FromItem → MQ) (k5 : Joined → MJ) (k6 : Query → MQ) (k7 : Select → MQ) where
    abbrev named : Meanings E P T F J Q S
    named = meanings v1 v2 v4 v5 v6 (λ x. k1 (v1 x)) (λ x. k2 (v2 x)) (λ x. k3 (v3 x)) (λ x. k4 (v4 x)) (λ x. k5 (v5 x)) (λ x. k6 (v6 x)) (λ x. k7 (v7 x))

    abbrev whole : Meanings Expr Primary Term FromItem Joined Query Select
    whole = meanings (λ x. x) (λ x. x) (λ x. x) (λ x. x) (λ x. x) k1 k2 k3 k4 k5 k6 k7

    -- ---- operands

    natural-operands : (es : List E) (env : Env) → operands catalog definitions meant tables params named es env ≡ operands catalog definitions meant tables params whole (map v1 es) env
    natural-operands [] env = refl
    natural-operands (e ∷ es) env = ap (λ (xs : List Operand). operand catalog definitions meant tables params whole (v1 e) env ∷ xs) (natural-operands es env)

    natural-each : (es : List E) (env : Env) → map (λ e. k1 (v1 e) env) es ≡ map (λ e. k1 e env) (map v1 es)
    natural-each [] env = refl
    natural-each (e ∷ es) env = ap (λ (ms : List (Meaning Value)). k1 (v1 e) env ∷ ms) (natural-each es env)

    abbrev links : List (Link E) → List (Link Expr)
    links = map (λ l. record { operator = l.operator; operand = v1 l.operand; place = l.place })

    natural-chain : (x : Operand) (ls : List (Link E)) (env : Env) → chain_operand catalog definitions meant tables params named x ls env ≡ chain_operand catalog definitions meant tables params whole x (links ls) env
    natural-chain x [] env = refl
    natural-chain x (l ∷ ls) env = natural-chain (operator_operand (operator_name l.operator) (x ∷ operand catalog definitions meant tables params whole (v1 l.operand) env ∷ [])) ls env

    natural-chained : (first : E) (ls : List (Link E)) (env : Env) → chained catalog definitions meant tables params named first ls env ≡ chained catalog definitions meant tables params whole (v1 first) (links ls) env
    natural-chained first ls env = ap (λ (x : Operand). x.means) (natural-chain (operand catalog definitions meant tables params whole (v1 first) env) ls env)

    natural-linked : (ls : List (Link E)) (env : Env) → operands catalog definitions meant tables params named (map (λ l. l.operand) ls) env ≡ operands catalog definitions meant tables params whole (map (λ l. l.operand) (links ls)) env
    natural-linked [] env = refl
    natural-linked (l ∷ ls) env = ap (λ (xs : List Operand). operand catalog definitions meant tables params whole (v1 l.operand) env ∷ xs) (natural-linked ls env)

    natural-decided : (deciding : Bool) (first : E) (ls : List (Link E)) (env : Env) → decided catalog definitions meant tables params named deciding first ls env ≡ decided catalog definitions meant tables params whole deciding (v1 first) (links ls) env
    natural-decided deciding first ls env = ap (λ (xs : List Operand). Decided deciding (all_converted ty.Bool (operand catalog definitions meant tables params whole (v1 first) env ∷ xs))) (natural-linked ls env)

    -- ---- paths

    abbrev parts : List (Part E) → List (Part Expr)
    parts = shapes.former-Expr-Postfix-1.map E Expr v1

    natural-leading : (ps : List (Part E)) → leading_names ps ≡ leading_names (parts ps)
    natural-leading [] = refl
    natural-leading (part.Field name ∷ ps) = ap (λ names. name.text ∷ names) (natural-leading ps)
    natural-leading (part.Index form index place ∷ ps) = refl

    natural-drop : (n : ℕ) (ps : List (Part E)) → parts (drop n ps) ≡ drop n (parts ps)
    natural-drop zero ps = refl
    natural-drop (suc n) [] = refl
    natural-drop (suc n) (p ∷ ps) = natural-drop n ps

    natural-parts : (type : SqlType) (m : Meaning Value) (ps : List (Part E)) (env : Env) → parts_means catalog definitions meant tables params named type m ps env ≡ parts_means catalog definitions meant tables params whole type m (parts ps) env
    natural-parts type m [] env = refl
    natural-parts type m (part.Field name ∷ ps) env = natural-parts (type_or (field_type name type)) (m >>= (λ x. gives (field_value name.text type x))) ps env
    natural-parts type m (part.Index form index place ∷ ps) env =
        natural-parts (type_or (element_of 0 type)) (Both m (value_as catalog definitions meant tables params whole ty.Int64 (v1 index) env) >>= (λ both. just (subscript form both.0 both.1))) ps env

    natural-bound : (f : Found) (bound : Checked (SqlType × ℕ)) (ps : List (Part E)) (env : Env) → bound_means catalog definitions meant tables params named f bound ps env ≡ bound_means catalog definitions meant tables params whole f bound (parts ps) env
    natural-bound f (Err refused) ps env = refl
    natural-bound f (Ok bound) ps env =
        natural-parts bound.0 (Reads env f) (drop bound.1 ps) env ∙ ap (λ more. parts_means catalog definitions meant tables params whole bound.0 (Reads env f) more env) (natural-drop bound.1 ps)

    natural-path : (first : List ℕ) (ps : List (Part E)) (env : Env) → path_means catalog definitions meant tables params named first ps env ≡ path_means catalog definitions meant tables params whole first (parts ps) env
    natural-path first ps env =
        ap (λ names. bound_means catalog definitions meant tables params named (found (sight_of env).levels first names) (path_type 0 (sight_of env).levels (found (sight_of env).levels first names)) ps env) (natural-leading ps)
        ∙ natural-bound (found (sight_of env).levels first (leading_names (parts ps))) (path_type 0 (sight_of env).levels (found (sight_of env).levels first (leading_names (parts ps)))) ps env

    natural-postfix : (name : Option (List ℕ)) (first : E) (ps : List (Part E)) (env : Env) → postfix_means catalog definitions meant tables params named name first ps env ≡ postfix_means catalog definitions meant tables params whole name (v1 first) (parts ps) env
    natural-postfix (Some name) first ps env = natural-path name ps env
    natural-postfix None first ps env = natural-parts (type_of (arg_of catalog definitions meant tables params whole (v1 first) env)) (k1 (v1 first) env) ps env

    -- ---- calls

    abbrev called : Call E → Call Expr
    called = shapes.former-Expr-Call-0.map E Expr v1

    abbrev call_arguments : List (Argument E) → List (Argument Expr)
    call_arguments xs = (called (record { function = function.If; distinct = false; star = false; arguments = xs; nulls = None; order = []; limit = None; place = 0 })).arguments

    natural-expression : (name : Option (List ℕ)) (e : E) (env : Env) → expression_operand catalog definitions meant tables params named name e env ≡ expression_operand catalog definitions meant tables params whole name (v1 e) env
    natural-expression (Some name) e env = refl
    natural-expression None e env = refl

    natural-arguments : (here : Option ℕ) (xs : List (Argument E)) (env : Env) → call_operands catalog definitions meant tables params named here xs env ≡ call_operands catalog definitions meant tables params whole here (call_arguments xs) env
    natural-arguments here [] env = refl
    natural-arguments here (arg.Expr e ∷ xs) env =
        ap (λ (x : Operand). x ∷ call_operands catalog definitions meant tables params named (next_part here) xs env) (natural-expression (if is_part here then single_name (v1 e) else None) e env)
        ∙ ap (λ (ys : List Operand). argument_operands catalog definitions meant tables params whole (is_part here) (arg.Expr (v1 e)) env ++ ys) (natural-arguments (next_part here) xs env)
    natural-arguments here (arg.Interval amount part place ∷ xs) env =
        ap (λ (ys : List Operand). argument_operands catalog definitions meant tables params whole (is_part here) (arg.Interval (v1 amount) part place) env ++ ys) (natural-arguments (next_part here) xs env)
    natural-arguments here (arg.Lambda variables body place ∷ xs) env = natural-arguments (next_part here) xs env

    natural-call : (call : Call E) (env : Env) → call_means catalog definitions meant tables params named call env ≡ call_means catalog definitions meant tables params whole (called call) env
    natural-call call env =
        ap (λ (xs : List Operand). body_means catalog definitions meant tables params whole (function_among catalog.definitions meant (function_name call.function)) (function_name call.function) xs)
        (natural-arguments (part_place (function_name call.function)) call.arguments env)

    natural-safe-call : (call : Call E) (env : Env) → safe_call_means catalog definitions meant tables params named call env ≡ safe_call_means catalog definitions meant tables params whole (called call) env
    natural-safe-call call env =
        ap (λ (xs : List Operand). safe_means (chosen (function_name call.function) (args_of xs)) xs) (natural-arguments (part_place (function_name call.function)) call.arguments env)

    -- ---- CASE

    abbrev branches : List (When E) → List (When Expr)
    branches = map (λ w. record { test = v1 w.test; result = v1 w.result })

    abbrev optional : Option E → Option Expr
    optional = shapes.former-Expr-Case-0.map E Expr v1

    natural-otherwise : (last : Option E) (env : Env) → otherwise_operands catalog definitions meant tables params named last env ≡ otherwise_operands catalog definitions meant tables params whole (optional last) env
    natural-otherwise None env = refl
    natural-otherwise (Some e) env = refl

    natural-results : (ws : List (When E)) (last : Option E) (env : Env) → results_of catalog definitions meant tables params named ws last env ≡ results_of catalog definitions meant tables params whole (branches ws) (optional last) env
    natural-results [] last env = natural-otherwise last env
    natural-results (w ∷ ws) last env = ap (λ (xs : List Operand). operand catalog definitions meant tables params whole (v1 w.result) env ∷ xs) (natural-results ws last env)

    natural-tests : (ws : List (When E)) (env : Env) → operands catalog definitions meant tables params named (map (λ w. w.test) ws) env ≡ operands catalog definitions meant tables params whole (map (λ w. w.test) (branches ws)) env
    natural-tests [] env = refl
    natural-tests (w ∷ ws) env = ap (λ (xs : List Operand). operand catalog definitions meant tables params whole (v1 w.test) env ∷ xs) (natural-tests ws env)

    natural-branches : (chooses : Value → Bool) (test : Expr → Meaning Value) (type : SqlType) (ws : List (When E)) (last : Meaning Value) (env : Env) →
        branches_means catalog definitions meant tables params named chooses (λ e. test (v1 e)) type ws last env ≡ branches_means catalog definitions meant tables params whole chooses test type (branches ws) last env
    natural-branches chooses test type [] last env = refl
    natural-branches chooses test type (w ∷ ws) last env =
        then_on (test (v1 w.test)) (λ x. ap (λ (rest : Meaning Value). pick (chooses x) (value_as catalog definitions meant tables params whole type (v1 w.result) env) rest) (natural-branches chooses test type ws last env))

    -- a CASE by the operands that decide its types
    abbrev without_subject : List (When E) → Env → List Operand → List Operand → Meaning Value
    without_subject ws env results last = branches_means catalog definitions meant tables params named is_true (λ e. value_as catalog definitions meant tables params named ty.Bool e env) (common catalog definitions meant tables params whole results) ws (last_means catalog definitions meant tables params whole (common catalog definitions meant tables params whole results) last) env

    abbrev with_subject : E → List (When E) → Env → List Operand → List Operand → List Operand → Meaning Value
    with_subject subject ws env tests results last =
        value_as catalog definitions meant tables params named (common catalog definitions meant tables params whole (operand catalog definitions meant tables params whole (v1 subject) env ∷ tests)) subject env >>= (λ x.
        branches_means catalog definitions meant tables params named (λ y. is_equal (equal x y)) (λ e. value_as catalog definitions meant tables params named (common catalog definitions meant tables params whole (operand catalog definitions meant tables params whole (v1 subject) env ∷ tests)) e env) (common catalog definitions meant tables params whole results) ws (last_means catalog definitions meant tables params whole (common catalog definitions meant tables params whole results) last) env)

    natural-case : (subject : Option E) (ws : List (When E)) (last : Option E) (env : Env) → case_means catalog definitions meant tables params named subject ws last env ≡ case_means catalog definitions meant tables params whole (optional subject) (branches ws) (optional last) env
    natural-case None ws last env =
        ap (λ (results : List Operand). without_subject ws env results (otherwise_operands catalog definitions meant tables params named last env)) (natural-results ws last env)
        ∙ ap (without_subject ws env (results_of catalog definitions meant tables params whole (branches ws) (optional last) env)) (natural-otherwise last env)
        ∙ natural-branches is_true (λ e. value_as catalog definitions meant tables params whole ty.Bool e env) (common catalog definitions meant tables params whole (results_of catalog definitions meant tables params whole (branches ws) (optional last) env)) ws
        (last_means catalog definitions meant tables params whole (common catalog definitions meant tables params whole (results_of catalog definitions meant tables params whole (branches ws) (optional last) env)) (otherwise_operands catalog definitions meant tables params whole (optional last) env)) env
    natural-case (Some subject) ws last env =
        ap (λ (tests : List Operand). with_subject subject ws env tests (results_of catalog definitions meant tables params named ws last env) (otherwise_operands catalog definitions meant tables params named last env)) (natural-tests ws env)
        ∙ ap (λ (results : List Operand). with_subject subject ws env (operands catalog definitions meant tables params whole (map (λ w. w.test) (branches ws)) env) results (otherwise_operands catalog definitions meant tables params named last env)) (natural-results ws last env)
        ∙ ap (with_subject subject ws env (operands catalog definitions meant tables params whole (map (λ w. w.test) (branches ws)) env) (results_of catalog definitions meant tables params whole (branches ws) (optional last) env)) (natural-otherwise last env)
        ∙ then_on (value_as catalog definitions meant tables params whole (common catalog definitions meant tables params whole (operand catalog definitions meant tables params whole (v1 subject) env ∷ operands catalog definitions meant tables params whole (map (λ w. w.test) (branches ws)) env)) (v1 subject) env) (λ x.
        natural-branches (λ y. is_equal (equal x y)) (λ e. value_as catalog definitions meant tables params whole (common catalog definitions meant tables params whole (operand catalog definitions meant tables params whole (v1 subject) env ∷ operands catalog definitions meant tables params whole (map (λ w. w.test) (branches ws)) env)) e env)
        (common catalog definitions meant tables params whole (results_of catalog definitions meant tables params whole (branches ws) (optional last) env)) ws (last_means catalog definitions meant tables params whole (common catalog definitions meant tables params whole (results_of catalog definitions meant tables params whole (branches ws) (optional last) env)) (otherwise_operands catalog definitions meant tables params whole (optional last) env)) env)

    -- ---- WITH expressions and STRUCTs

    abbrev bound : List (Binding E) → List (Binding Expr)
    bound = map (λ b. record { name = b.name; expr = v1 b.expr })

    natural-bindings : (bs : List (Binding E)) (scope : List Entry) (values : List Value) (result : E) (env : Env) →
        bindings_means catalog definitions meant tables params named bs scope values result env ≡ bindings_means catalog definitions meant tables params whole (bound bs) scope values (v1 result) env
    natural-bindings [] scope values result env = refl
    natural-bindings (b ∷ bs) scope values result env =
        then_on (k1 (v1 b.expr) (within env (record { scope = scope; values = values }))) (λ x.
        natural-bindings bs (scope ++ variable_entry b.name.text (type_of (arg_of catalog definitions meant tables params whole (v1 b.expr) (within env (record { scope = scope; values = values })))) ∷ []) (values ++ x ∷ []) result env)

    abbrev aliased : List (Aliased E) → List (Aliased Expr)
    aliased = map (λ x. record { expr = v1 x.expr; alias = x.alias })

    natural-aliased : (xs : List (Aliased E)) (env : Env) → map (λ x. k1 (v1 x.expr) env) xs ≡ map (λ x. k1 x.expr env) (aliased xs)
    natural-aliased [] env = refl
    natural-aliased (x ∷ xs) env = ap (λ (ms : List (Meaning Value)). k1 (v1 x.expr) env ∷ ms) (natural-aliased xs env)

    -- ---- expressions

    abbrev over_expr : Expr-F E P T F J Q S → Expr-F Expr Primary Term FromItem Joined Query Select
    over_expr = map-Expr E P T F J Q S Expr Primary Term FromItem Joined Query Select v1 v2 v3 v4 v5 v6 v7

    natural-expr : (x : Expr-F E P T F J Q S) (env : Env) → expr_means catalog definitions meant tables params named x env ≡ expr_means catalog definitions meant tables params whole (over_expr x) env
    natural-expr (ast.Or first rest place) env = natural-decided true first rest env
    natural-expr (ast.And first rest place) env = natural-decided false first rest env
    natural-expr (ast.BitOr first rest place) env = natural-chained first rest env
    natural-expr (ast.BitXor first rest place) env = natural-chained first rest env
    natural-expr (ast.BitAnd first rest place) env = natural-chained first rest env
    natural-expr (ast.Shift first rest place) env = natural-chained first rest env
    natural-expr (ast.Sum first rest place) env = natural-chained first rest env
    natural-expr (ast.Product first rest place) env = natural-chained first rest env
    natural-expr (ast.InList left negated operator_place list place) env =
        ap (λ (xs : List Operand). negated_means negated (list_means (value_as catalog definitions meant tables params whole (common catalog definitions meant tables params whole (operand catalog definitions meant tables params whole (v1 left) env ∷ xs)) (v1 left) env) (all_converted (common catalog definitions meant tables params whole (operand catalog definitions meant tables params whole (v1 left) env ∷ xs)) xs)))
        (natural-operands list env)
    natural-expr (ast.Postfix first more place) env = natural-postfix (single_name (v1 first)) first more env
    natural-expr (ast.Name name place) env = natural-path name [] env
    natural-expr (ast.Call call place) env = natural-call call env
    natural-expr (ast.SafeCall call place) env = natural-safe-call call env
    natural-expr (ast.Tuple es place) env = ap (λ (ms : List (Meaning Value)). Gather ms >>= (λ xs. gives (value.Struct xs))) (natural-each es env)
    natural-expr (ast.Case subject whens last place) env = natural-case subject whens last env
    natural-expr (ast.Array None es open_place place) env = ap (λ (xs : List Operand). Gather (all_converted (common catalog definitions meant tables params whole xs) xs) >>= (λ ys. gives (value.Array ys))) (natural-operands es env)
    natural-expr (ast.Array (Some type) es open_place place) env = ap (λ (xs : List Operand). Gather (all_converted (type_or (written_type type)) xs) >>= (λ ys. gives (value.Array ys))) (natural-operands es env)
    natural-expr (ast.Struct fields place) env = ap (λ (ms : List (Meaning Value)). Gather ms >>= (λ xs. gives (value.Struct xs))) (natural-aliased fields env)
    natural-expr (ast.TypedStruct fields es open_place place) env =
        ap (λ (xs : List Operand). Gather (converted_each (map (λ f. type_or (written_type f.ty)) fields) xs) >>= (λ ys. gives (value.Struct ys))) (natural-operands es env)
    natural-expr (ast.With bindings result place) env = natural-bindings bindings [] [] result env
    natural-expr _ env = refl

    -- ---- FROM

    abbrev over_primary : Primary-F E P T F J Q S → Primary-F Expr Primary Term FromItem Joined Query Select
    over_primary = map-Primary E P T F J Q S Expr Primary Term FromItem Joined Query Select v1 v2 v3 v4 v5 v6 v7

    natural-primary : (x : Primary-F E P T F J Q S) (env : Env) (left : Frame) → primary_means catalog definitions meant tables params named x env left ≡ primary_means catalog definitions meant tables params whole (over_primary x) env left
    natural-primary (ast.Table name alias None place) env left = refl
    natural-primary (ast.Table name alias (Some turned) place) env left = refl
    natural-primary (Primary-F.«Primary::Query» query alias None place) env left = refl
    natural-primary (Primary-F.«Primary::Query» query alias (Some turned) place) env left = refl
    natural-primary _ env left = refl

    natural-pair-tests : (test : E) (env : Env) (scope : List Entry) (lefts : List Row) (rights : List (List Row)) → pair_tests catalog definitions meant tables params named test env scope lefts rights ≡ pair_tests catalog definitions meant tables params whole (v1 test) env scope lefts rights
    natural-pair-tests test env scope [] rights = refl
    natural-pair-tests test env scope (left ∷ lefts) [] = refl
    natural-pair-tests test env scope (left ∷ lefts) (right ∷ rights) =
        ap (λ (ts : Meaning (List (List Value))). Both (Gather (map (λ row. value_as catalog definitions meant tables params whole ty.Bool (v1 test) (within env (record { scope = scope; values = left ++ row }))) right)) ts >>= (λ both. gives (both.0 ∷ both.1)))
        (natural-pair-tests test env scope lefts rights)

    abbrev condition_of : Option (On E) → Option (On Expr)
    condition_of = shapes.former-Joined-on.map E Expr v1

    natural-kept : (o : Option (On E)) (env : Env) (left right : FromScope) (lefts : List Row) (rights : List (List Row)) → kept_pairs catalog definitions meant tables params named o env left right lefts rights ≡ kept_pairs catalog definitions meant tables params whole (condition_of o) env left right lefts rights
    natural-kept None env left right lefts rights = refl
    natural-kept (Some (on.On test place)) env left right lefts rights =
        ap (λ (ts : Meaning (List (List Value))). ts >>= (λ tests. gives (map true_of tests))) (natural-pair-tests test env (beside left right).scope lefts rights)
    natural-kept (Some (on.Using columns place)) env left right lefts rights = refl

    natural-columns : (o : Option (On E)) (k : JoinKind) (left right : FromScope) (rows : List Row) → with_columns catalog definitions meant tables params named o k left right rows ≡ with_columns catalog definitions meant tables params whole (condition_of o) k left right rows
    natural-columns None k left right rows = refl
    natural-columns (Some (on.On test place)) k left right rows = refl
    natural-columns (Some (on.Using columns place)) k left right rows = refl

    abbrev over_joined : Joined-F E P T F J Q S → Joined-F Expr Primary Term FromItem Joined Query Select
    over_joined = map-Joined E P T F J Q S Expr Primary Term FromItem Joined Query Select v1 v2 v3 v4 v5 v6 v7

    natural-join-each : (j : Joined-F E P T F J Q S) (env : Env) (left right : FromScope) (lefts : List Row) (rights : List (List Row)) → join_each catalog definitions meant tables params named j env left right lefts rights ≡ join_each catalog definitions meant tables params whole (over_joined j) env left right lefts rights
    natural-join-each j env left right lefts rights =
        then_same (natural-kept j.on env left right lefts rights) (λ pairs. ap gives (natural-columns j.on (join_kind j.word) left right (joined_each (join_kind j.word) (length right.scope) lefts rights pairs)))

    natural-join-alike : (j : Joined-F E P T F J Q S) (env : Env) (left right : FromScope) (lefts rights : List Row) → join_alike catalog definitions meant tables params named j env left right lefts rights ≡ join_alike catalog definitions meant tables params whole (over_joined j) env left right lefts rights
    natural-join-alike j env left right lefts rights =
        then_same (natural-kept j.on env left right lefts (map (λ l. rights) lefts)) (λ pairs.
        ap gives (natural-columns j.on (join_kind j.word) left right (joined (join_kind j.word) (length left.scope) (length right.scope) lefts rights pairs)))

    natural-join-by : (looks : Bool) (j : Joined-F E P T F J Q S) (env : Env) (left right : FromScope) (lefts : Meaning (List Row)) → join_by catalog definitions meant tables params named looks j env left right lefts ≡ join_by catalog definitions meant tables params whole looks (over_joined j) env left right lefts
    natural-join-by true j env left right lefts =
        then_on lefts (λ ls. then_on (Gather (map (λ row. k2 (v2 j.primary) env (record { scope = left.scope; values = row })) ls)) (λ rights. natural-join-each j env left right ls rights))
    natural-join-by false j env left right lefts = then_on (Both lefts (k2 (v2 j.primary) env no_frame)) (λ both. natural-join-alike j env left right both.0 both.1)

    natural-joined : (j : Joined-F E P T F J Q S) (env : Env) (left : FromScope) (lefts : Meaning (List Row)) → joined_means catalog definitions meant tables params named j env left lefts ≡ joined_means catalog definitions meant tables params whole (over_joined j) env left lefts
    natural-joined j env left lefts = natural-join-by (looks_left (out-Primary (v2 j.primary)) && not (hides_left j.word)) j env left (right_scope catalog definitions meant tables params named j env left) lefts

    natural-joins : (js : List J) (env : Env) (left : FromScope) (rows : Meaning (List Row)) → joins_means catalog definitions meant tables params named js env left rows ≡ joins_means catalog definitions meant tables params whole (map v5 js) env left rows
    natural-joins [] env left rows = refl
    natural-joins (j ∷ js) env left rows = natural-joins js env (scope_or (TypeJoined catalog definitions (v5 j) (sight_of env) left)) (k5 (v5 j) env left rows)

    abbrev over_from : FromItem-F E P T F J Q S → FromItem-F Expr Primary Term FromItem Joined Query Select
    over_from = map-FromItem E P T F J Q S Expr Primary Term FromItem Joined Query Select v1 v2 v3 v4 v5 v6 v7

    natural-from : (f : FromItem-F E P T F J Q S) (env : Env) → from_means catalog definitions meant tables params named f env ≡ from_means catalog definitions meant tables params whole (over_from f) env
    natural-from f env = natural-joins f.rest env (scope_or (TypePrimary catalog definitions (v2 f.first) (sight_of env) [])) (k2 (v2 f.first) env no_frame)

    -- ---- the select list

    abbrev replacements : List (Replacement E) → List (Replacement Expr)
    replacements = map (λ r. record { expr = v1 r.expr; name = r.name })

    abbrev edits : Edit E → Edit Expr
    edits edit = record { except = edit.except; replace = replacements edit.replace }

    natural-replaced : (rs : List (Replacement E)) (xs : List Value) (name : Option (List ℕ)) → replaced_value catalog definitions meant tables params named rs xs name ≡ replaced_value catalog definitions meant tables params whole (replacements rs) xs name
    natural-replaced [] xs None = refl
    natural-replaced [] xs (Some name) = refl
    natural-replaced (r ∷ rs) [] None = refl
    natural-replaced (r ∷ rs) [] (Some name) = refl
    natural-replaced (r ∷ rs) (x ∷ xs) None = refl
    natural-replaced (r ∷ rs) (x ∷ xs) (Some name) = ap (λ rest. if same_name r.name.text name then Some x else rest) (natural-replaced rs xs (Some name))

    abbrev one_value : Option Value → Value → Value
    one_value replaced v = elim replaced [ None ↦ v | Some x ↦ x ]

    natural-edited : (edit : Edit E) (xs : List Value) (columns : Columns) (values : List Value) → edited_values catalog definitions meant tables params named edit xs columns values ≡ edited_values catalog definitions meant tables params whole (edits edit) xs columns values
    natural-edited edit xs [] values = refl
    natural-edited edit xs (c ∷ columns) [] = refl
    natural-edited edit xs (c ∷ columns) (v ∷ values) =
        ap (λ rest. if lists (map (λ n. n.text) edit.except) c.name then rest else one_value (replaced_value catalog definitions meant tables params named edit.replace xs c.name) v ∷ rest) (natural-edited edit xs columns values)
        ∙ ap (λ replaced. if lists (map (λ n. n.text) edit.except) c.name then edited_values catalog definitions meant tables params whole (edits edit) xs columns values else one_value replaced v ∷ edited_values catalog definitions meant tables params whole (edits edit) xs columns values)
        (natural-replaced edit.replace xs c.name)

    natural-replacements : (rs : List (Replacement E)) (env : Env) → map (λ r. k1 (v1 r.expr) env) rs ≡ map (λ r. k1 r.expr env) (replacements rs)
    natural-replacements [] env = refl
    natural-replacements (r ∷ rs) env = ap (λ (ms : List (Meaning Value)). k1 (v1 r.expr) env ∷ ms) (natural-replacements rs env)

    natural-edit : (edit : Edit E) (columns : Columns) (values : List Value) (env : Env) → edit_means catalog definitions meant tables params named edit columns values env ≡ edit_means catalog definitions meant tables params whole (edits edit) columns values env
    natural-edit edit columns values env =
        then_same (ap (λ (ms : List (Meaning Value)). Gather ms) (natural-replacements edit.replace env)) (λ xs. ap gives (natural-edited edit xs columns values))

    natural-members : (edit : Edit E) (frames : List Frame) (f : Found) (range : Option (List Entry × List Member)) (env : Env) (others : Meaning (List Value)) →
        members_means catalog definitions meant tables params named edit frames f range env others ≡ members_means catalog definitions meant tables params whole (edits edit) frames f range env others
    natural-members edit frames (Bound b) (Some range) env others = natural-edit edit _ _ env
    natural-members edit frames (Bound b) None env others = refl
    natural-members edit frames Missing range env others = refl
    natural-members edit frames Ambiguous range env others = refl

    natural-qualified : (e : E) (edit : Edit E) (env : Env) → qualified_means catalog definitions meant tables params named e edit env ≡ qualified_means catalog definitions meant tables params whole (v1 e) (edits edit) env
    natural-qualified e edit env = then_on (k1 (v1 e) env) (λ x. natural-edit edit _ _ env)

    natural-qualified-by : (name : Option (List ℕ)) (e : E) (edit : Edit E) (env : Env) → qualified_by catalog definitions meant tables params named name e edit env ≡ qualified_by catalog definitions meant tables params whole name (v1 e) (edits edit) env
    natural-qualified-by None e edit env = natural-qualified e edit env
    natural-qualified-by (Some name) e edit env =
        natural-members edit env.frames (found (sight_of env).levels name []) (range_of (sight_of env).levels (found (sight_of env).levels name [])) env (qualified_means catalog definitions meant tables params named e edit env)
        ∙ ap (λ (others : Meaning (List Value)). members_means catalog definitions meant tables params whole (edits edit) env.frames (found (sight_of env).levels name []) (range_of (sight_of env).levels (found (sight_of env).levels name [])) env others) (natural-qualified e edit env)

    abbrev items : List (Item E) → List (Item Expr)
    items = shapes.former-Select-items.map E Expr v1

    abbrev beside_items : Meaning (List Value) → List (Meaning (List Value)) → List (Meaning (List Value))
    beside_items m ms = m ∷ ms

    both_same : {m n : Meaning (List Value)} {ms ns : List (Meaning (List Value))} → m ≡ n → ms ≡ ns → beside_items m ms ≡ beside_items n ns
    both_same {n = n} {ms = ms} first rest = ap (λ (r : Meaning (List Value)). r ∷ ms) first ∙ ap (λ (rs : List (Meaning (List Value))). n ∷ rs) rest

    natural-items : (from : FromScope) (row : Row) (is : List (Item E)) (env : Env) → map (λ i. item_means catalog definitions meant tables params named from row i env) is ≡ map (λ i. item_means catalog definitions meant tables params whole from row i env) (items is)
    natural-items from row [] env = refl
    natural-items from row (item.Star edit place ∷ is) env = both_same (natural-edit edit (columns_at from.scope from.star) (values_at catalog definitions meant tables params whole row from.star) env) (natural-items from row is env)
    natural-items from row (item.QualifiedStar e edit place ∷ is) env = both_same (natural-qualified-by (single_name (v1 e)) e edit env) (natural-items from row is env)
    natural-items from row (item.Expr e alias place ∷ is) env = ap (λ (rs : List (Meaning (List Value))). (k1 (v1 e) env >>= (λ x. gives (x ∷ []))) ∷ rs) (natural-items from row is env)

    natural-row : (from : FromScope) (row : Row) (is : List (Item E)) (env : Env) → row_means catalog definitions meant tables params named from row is env ≡ row_means catalog definitions meant tables params whole from row (items is) env
    natural-row from row is env = ap (λ (ms : List (Meaning (List Value))). Gather ms >>= (λ values. gives (all_of values))) (natural-items from row is env)

    -- ---- queries

    abbrev optional_from : Option F → Option FromItem
    optional_from = shapes.former-Select-from.map F FromItem v4

    natural-from-scope : (from : Option F) (env : Env) → from_scope catalog definitions meant tables params named from env ≡ from_scope catalog definitions meant tables params whole (optional_from from) env
    natural-from-scope None env = refl
    natural-from-scope (Some f) env = refl

    natural-from-rows : (from : Option F) (env : Env) → from_rows catalog definitions meant tables params named from env ≡ from_rows catalog definitions meant tables params whole (optional_from from) env
    natural-from-rows None env = refl
    natural-from-rows (Some f) env = refl

    natural-where : (test : Option E) (from : FromScope) (rows : List Row) (env : Env) → where_means catalog definitions meant tables params named test from rows env ≡ where_means catalog definitions meant tables params whole (optional test) from rows env
    natural-where None from rows env = refl
    natural-where (Some e) from rows env = refl

    abbrev over_select : Select-F E P T F J Q S → Select-F Expr Primary Term FromItem Joined Query Select
    over_select = map-Select E P T F J Q S Expr Primary Term FromItem Joined Query Select v1 v2 v3 v4 v5 v6 v7

    natural-plain : (s : Select-F E P T F J Q S) (from : FromScope) (env : Env) → plain_select_means catalog definitions meant tables params named s from env ≡ plain_select_means catalog definitions meant tables params whole (over_select s) from env
    natural-plain s from env =
        then_same (natural-from-rows s.from env) (λ rows. then_same (natural-where s.filter from rows env) (λ left.
        ap (λ (f : Row → Meaning Row). Gather (map f left) >>= (λ list. gives (map (as_struct catalog definitions meant tables params whole s.as_struct) list))) (fun_ext (λ row. natural-row from row s.items (inner catalog definitions meant tables params whole env from row)))))

    natural-select : (distinct as_struct : Bool) (is : List (Item E)) (from : Option F) (filter : Option E) (grouping : Option (Groups E)) (having : Option (FilterPart E)) (place : ℕ) (env : Env) →
        select_means catalog definitions meant tables params named (record { distinct = distinct; as_struct = as_struct; items = is; from = from; filter = filter; grouping = grouping; having = having; place = place }) env
        ≡ select_means catalog definitions meant tables params whole (over_select (record { distinct = distinct; as_struct = as_struct; items = is; from = from; filter = filter; grouping = grouping; having = having; place = place })) env
    natural-select true as_struct is from filter grouping having place env = refl
    natural-select false as_struct is from filter (Some grouping) having place env = refl
    natural-select false as_struct is from filter None (Some having) place env = refl
    natural-select false as_struct is from filter None None place env =
        natural-plain (record { distinct = false; as_struct = as_struct; items = is; from = from; filter = filter; grouping = None; having = None; place = place }) (from_scope catalog definitions meant tables params named from env) env
        ∙ ap (λ scope. plain_select_means catalog definitions meant tables params whole (over_select (record { distinct = false; as_struct = as_struct; items = is; from = from; filter = filter; grouping = None; having = None; place = place })) scope env) (natural-from-scope from env)

    abbrev over_term : Term-F E P T F J Q S → Term-F Expr Primary Term FromItem Joined Query Select
    over_term = map-Term E P T F J Q S Expr Primary Term FromItem Joined Query Select v1 v2 v3 v4 v5 v6 v7

    natural-term : (x : Term-F E P T F J Q S) (env : Env) → term_means catalog definitions meant tables params named x env ≡ term_means catalog definitions meant tables params whole (over_term x) env
    natural-term (ast.Select select) env = refl
    natural-term _ env = refl

    abbrev ctes : List (Cte Q) → List (Cte Query)
    ctes = map (λ c. record { name = c.name; query = v6 c.query })

    natural-ctes : (cs : List (Cte Q)) (first : T) (env : Env) (o : Outcome (List Row)) → ctes_means catalog definitions meant tables params named cs first env o ≡ ctes_means catalog definitions meant tables params whole (ctes cs) (v3 first) env o
    natural-ctes [] first env o = refl
    natural-ctes (c ∷ cs) first env o =
        ap (λ (rest : Outcome (List Row) → Type 0). (taken : Outcome (List Row)) × k6 (v6 c.query) env taken × rest taken)
        (fun_ext (λ taken. natural-ctes cs first (with_outcome env (record { name = c.name.text; columns = columns_or (TypeQuery catalog definitions (v6 c.query) (sight_of env)); outcome = taken })) o))

    abbrev over_query : Query-F E P T F J Q S → Query-F Expr Primary Term FromItem Joined Query Select
    over_query = map-Query E P T F J Q S Expr Primary Term FromItem Joined Query Select v1 v2 v3 v4 v5 v6 v7

    natural-query : (cs : List (Cte Q)) (first : T) (rest : List (SetTerm T)) (body_place : ℕ) (order : List (Sort E)) (limit : Option (LimitPart E)) (place : ℕ) (env : Env) →
        query_means catalog definitions meant tables params named (record { ctes = cs; body = record { first = first; rest = rest; place = body_place }; order = order; limit = limit; place = place }) env
        ≡ query_means catalog definitions meant tables params whole (over_query (record { ctes = cs; body = record { first = first; rest = rest; place = body_place }; order = order; limit = limit; place = place })) env
    natural-query cs first (set ∷ rest) body_place order limit place env = refl
    natural-query cs first [] body_place (sort ∷ order) limit place env = refl
    natural-query cs first [] body_place [] (Some limit) place env = refl
    natural-query cs first [] body_place [] None place env = ap (λ (m : Meaning (List Row)). m >>= in_any_order) (fun_ext (λ o. natural-ctes cs first env o))

  -- ---- one equation a sort

  pub meant-expr : (e : Expr) → MeansExpr catalog definitions meant tables params e ≡ expr_means catalog definitions meant tables params (meant_parts catalog definitions meant tables params) (out-Expr e)
  unfolding MeansExpr MeansPrimary MeansTerm MeansFrom MeansJoined MeansQuery MeansSelect
  meant-expr e =
      ap (MeansExpr catalog definitions meant tables params) (sym (roll-out-Expr e))
      ∙ rec-roll-Expr ME MP MQ MQ MJ MQ MQ
      (λ E P T F J Q S ve vp vt vf vj vq vs e p t f j q s. expr_means catalog definitions meant tables params (meanings ve vp vf vj vq e p t f j q s))
      (λ E P T F J Q S ve vp vt vf vj vq vs e p t f j q s. primary_means catalog definitions meant tables params (meanings ve vp vf vj vq e p t f j q s))
      (λ E P T F J Q S ve vp vt vf vj vq vs e p t f j q s. term_means catalog definitions meant tables params (meanings ve vp vf vj vq e p t f j q s))
      (λ E P T F J Q S ve vp vt vf vj vq vs e p t f j q s. from_means catalog definitions meant tables params (meanings ve vp vf vj vq e p t f j q s))
      (λ E P T F J Q S ve vp vt vf vj vq vs e p t f j q s. joined_means catalog definitions meant tables params (meanings ve vp vf vj vq e p t f j q s))
      (λ E P T F J Q S ve vp vt vf vj vq vs e p t f j q s. query_means catalog definitions meant tables params (meanings ve vp vf vj vq e p t f j q s))
      (λ E P T F J Q S ve vp vt vf vj vq vs e p t f j q s. select_means catalog definitions meant tables params (meanings ve vp vf vj vq e p t f j q s))
      (λ E P T F J Q S v1 v2 v3 v4 v5 v6 v7 k1 k2 k3 k4 k5 k6 k7 x. fun_ext (natural-expr v1 v2 v3 v4 v5 v6 v7 k1 k2 k3 k4 k5 k6 k7 x))
      (out-Expr e)

  pub meant-primary : (e : Primary) → MeansPrimary catalog definitions meant tables params e ≡ primary_means catalog definitions meant tables params (meant_parts catalog definitions meant tables params) (out-Primary e)
  unfolding MeansExpr MeansPrimary MeansTerm MeansFrom MeansJoined MeansQuery MeansSelect
  meant-primary e =
      ap (MeansPrimary catalog definitions meant tables params) (sym (roll-out-Primary e))
      ∙ rec-roll-Primary ME MP MQ MQ MJ MQ MQ
      (λ E P T F J Q S ve vp vt vf vj vq vs e p t f j q s. expr_means catalog definitions meant tables params (meanings ve vp vf vj vq e p t f j q s))
      (λ E P T F J Q S ve vp vt vf vj vq vs e p t f j q s. primary_means catalog definitions meant tables params (meanings ve vp vf vj vq e p t f j q s))
      (λ E P T F J Q S ve vp vt vf vj vq vs e p t f j q s. term_means catalog definitions meant tables params (meanings ve vp vf vj vq e p t f j q s))
      (λ E P T F J Q S ve vp vt vf vj vq vs e p t f j q s. from_means catalog definitions meant tables params (meanings ve vp vf vj vq e p t f j q s))
      (λ E P T F J Q S ve vp vt vf vj vq vs e p t f j q s. joined_means catalog definitions meant tables params (meanings ve vp vf vj vq e p t f j q s))
      (λ E P T F J Q S ve vp vt vf vj vq vs e p t f j q s. query_means catalog definitions meant tables params (meanings ve vp vf vj vq e p t f j q s))
      (λ E P T F J Q S ve vp vt vf vj vq vs e p t f j q s. select_means catalog definitions meant tables params (meanings ve vp vf vj vq e p t f j q s))
      (λ E P T F J Q S v1 v2 v3 v4 v5 v6 v7 k1 k2 k3 k4 k5 k6 k7 x. fun_ext (λ env. fun_ext (natural-primary v1 v2 v3 v4 v5 v6 v7 k1 k2 k3 k4 k5 k6 k7 x env)))
      (out-Primary e)

  pub meant-term : (e : Term) → MeansTerm catalog definitions meant tables params e ≡ term_means catalog definitions meant tables params (meant_parts catalog definitions meant tables params) (out-Term e)
  unfolding MeansExpr MeansPrimary MeansTerm MeansFrom MeansJoined MeansQuery MeansSelect
  meant-term e =
      ap (MeansTerm catalog definitions meant tables params) (sym (roll-out-Term e))
      ∙ rec-roll-Term ME MP MQ MQ MJ MQ MQ
      (λ E P T F J Q S ve vp vt vf vj vq vs e p t f j q s. expr_means catalog definitions meant tables params (meanings ve vp vf vj vq e p t f j q s))
      (λ E P T F J Q S ve vp vt vf vj vq vs e p t f j q s. primary_means catalog definitions meant tables params (meanings ve vp vf vj vq e p t f j q s))
      (λ E P T F J Q S ve vp vt vf vj vq vs e p t f j q s. term_means catalog definitions meant tables params (meanings ve vp vf vj vq e p t f j q s))
      (λ E P T F J Q S ve vp vt vf vj vq vs e p t f j q s. from_means catalog definitions meant tables params (meanings ve vp vf vj vq e p t f j q s))
      (λ E P T F J Q S ve vp vt vf vj vq vs e p t f j q s. joined_means catalog definitions meant tables params (meanings ve vp vf vj vq e p t f j q s))
      (λ E P T F J Q S ve vp vt vf vj vq vs e p t f j q s. query_means catalog definitions meant tables params (meanings ve vp vf vj vq e p t f j q s))
      (λ E P T F J Q S ve vp vt vf vj vq vs e p t f j q s. select_means catalog definitions meant tables params (meanings ve vp vf vj vq e p t f j q s))
      (λ E P T F J Q S v1 v2 v3 v4 v5 v6 v7 k1 k2 k3 k4 k5 k6 k7 x. fun_ext (natural-term v1 v2 v3 v4 v5 v6 v7 k1 k2 k3 k4 k5 k6 k7 x))
      (out-Term e)

  pub meant-from : (e : FromItem) → MeansFrom catalog definitions meant tables params e ≡ from_means catalog definitions meant tables params (meant_parts catalog definitions meant tables params) (out-FromItem e)
  unfolding MeansExpr MeansPrimary MeansTerm MeansFrom MeansJoined MeansQuery MeansSelect
  meant-from e =
      ap (MeansFrom catalog definitions meant tables params) (sym (roll-out-FromItem e))
      ∙ rec-roll-FromItem ME MP MQ MQ MJ MQ MQ
      (λ E P T F J Q S ve vp vt vf vj vq vs e p t f j q s. expr_means catalog definitions meant tables params (meanings ve vp vf vj vq e p t f j q s))
      (λ E P T F J Q S ve vp vt vf vj vq vs e p t f j q s. primary_means catalog definitions meant tables params (meanings ve vp vf vj vq e p t f j q s))
      (λ E P T F J Q S ve vp vt vf vj vq vs e p t f j q s. term_means catalog definitions meant tables params (meanings ve vp vf vj vq e p t f j q s))
      (λ E P T F J Q S ve vp vt vf vj vq vs e p t f j q s. from_means catalog definitions meant tables params (meanings ve vp vf vj vq e p t f j q s))
      (λ E P T F J Q S ve vp vt vf vj vq vs e p t f j q s. joined_means catalog definitions meant tables params (meanings ve vp vf vj vq e p t f j q s))
      (λ E P T F J Q S ve vp vt vf vj vq vs e p t f j q s. query_means catalog definitions meant tables params (meanings ve vp vf vj vq e p t f j q s))
      (λ E P T F J Q S ve vp vt vf vj vq vs e p t f j q s. select_means catalog definitions meant tables params (meanings ve vp vf vj vq e p t f j q s))
      (λ E P T F J Q S v1 v2 v3 v4 v5 v6 v7 k1 k2 k3 k4 k5 k6 k7 x. fun_ext (natural-from v1 v2 v3 v4 v5 v6 v7 k1 k2 k3 k4 k5 k6 k7 x))
      (out-FromItem e)

  pub meant-joined : (e : Joined) → MeansJoined catalog definitions meant tables params e ≡ joined_means catalog definitions meant tables params (meant_parts catalog definitions meant tables params) (out-Joined e)
  unfolding MeansExpr MeansPrimary MeansTerm MeansFrom MeansJoined MeansQuery MeansSelect
  meant-joined e =
      ap (MeansJoined catalog definitions meant tables params) (sym (roll-out-Joined e))
      ∙ rec-roll-Joined ME MP MQ MQ MJ MQ MQ
      (λ E P T F J Q S ve vp vt vf vj vq vs e p t f j q s. expr_means catalog definitions meant tables params (meanings ve vp vf vj vq e p t f j q s))
      (λ E P T F J Q S ve vp vt vf vj vq vs e p t f j q s. primary_means catalog definitions meant tables params (meanings ve vp vf vj vq e p t f j q s))
      (λ E P T F J Q S ve vp vt vf vj vq vs e p t f j q s. term_means catalog definitions meant tables params (meanings ve vp vf vj vq e p t f j q s))
      (λ E P T F J Q S ve vp vt vf vj vq vs e p t f j q s. from_means catalog definitions meant tables params (meanings ve vp vf vj vq e p t f j q s))
      (λ E P T F J Q S ve vp vt vf vj vq vs e p t f j q s. joined_means catalog definitions meant tables params (meanings ve vp vf vj vq e p t f j q s))
      (λ E P T F J Q S ve vp vt vf vj vq vs e p t f j q s. query_means catalog definitions meant tables params (meanings ve vp vf vj vq e p t f j q s))
      (λ E P T F J Q S ve vp vt vf vj vq vs e p t f j q s. select_means catalog definitions meant tables params (meanings ve vp vf vj vq e p t f j q s))
      (λ E P T F J Q S v1 v2 v3 v4 v5 v6 v7 k1 k2 k3 k4 k5 k6 k7 x. fun_ext (λ env. fun_ext (λ left. fun_ext (natural-joined v1 v2 v3 v4 v5 v6 v7 k1 k2 k3 k4 k5 k6 k7 x env left))))
      (out-Joined e)

  pub meant-query : (e : Query) → MeansQuery catalog definitions meant tables params e ≡ query_means catalog definitions meant tables params (meant_parts catalog definitions meant tables params) (out-Query e)
  unfolding MeansExpr MeansPrimary MeansTerm MeansFrom MeansJoined MeansQuery MeansSelect
  meant-query e =
      ap (MeansQuery catalog definitions meant tables params) (sym (roll-out-Query e))
      ∙ rec-roll-Query ME MP MQ MQ MJ MQ MQ
      (λ E P T F J Q S ve vp vt vf vj vq vs e p t f j q s. expr_means catalog definitions meant tables params (meanings ve vp vf vj vq e p t f j q s))
      (λ E P T F J Q S ve vp vt vf vj vq vs e p t f j q s. primary_means catalog definitions meant tables params (meanings ve vp vf vj vq e p t f j q s))
      (λ E P T F J Q S ve vp vt vf vj vq vs e p t f j q s. term_means catalog definitions meant tables params (meanings ve vp vf vj vq e p t f j q s))
      (λ E P T F J Q S ve vp vt vf vj vq vs e p t f j q s. from_means catalog definitions meant tables params (meanings ve vp vf vj vq e p t f j q s))
      (λ E P T F J Q S ve vp vt vf vj vq vs e p t f j q s. joined_means catalog definitions meant tables params (meanings ve vp vf vj vq e p t f j q s))
      (λ E P T F J Q S ve vp vt vf vj vq vs e p t f j q s. query_means catalog definitions meant tables params (meanings ve vp vf vj vq e p t f j q s))
      (λ E P T F J Q S ve vp vt vf vj vq vs e p t f j q s. select_means catalog definitions meant tables params (meanings ve vp vf vj vq e p t f j q s))
      (λ E P T F J Q S v1 v2 v3 v4 v5 v6 v7 k1 k2 k3 k4 k5 k6 k7 x. fun_ext (natural-query v1 v2 v3 v4 v5 v6 v7 k1 k2 k3 k4 k5 k6 k7 x.ctes x.body.first x.body.rest x.body.place x.order x.limit x.place))
      (out-Query e)

  pub meant-select : (e : Select) → MeansSelect catalog definitions meant tables params e ≡ select_means catalog definitions meant tables params (meant_parts catalog definitions meant tables params) (out-Select e)
  unfolding MeansExpr MeansPrimary MeansTerm MeansFrom MeansJoined MeansQuery MeansSelect
  meant-select e =
      ap (MeansSelect catalog definitions meant tables params) (sym (roll-out-Select e))
      ∙ rec-roll-Select ME MP MQ MQ MJ MQ MQ
      (λ E P T F J Q S ve vp vt vf vj vq vs e p t f j q s. expr_means catalog definitions meant tables params (meanings ve vp vf vj vq e p t f j q s))
      (λ E P T F J Q S ve vp vt vf vj vq vs e p t f j q s. primary_means catalog definitions meant tables params (meanings ve vp vf vj vq e p t f j q s))
      (λ E P T F J Q S ve vp vt vf vj vq vs e p t f j q s. term_means catalog definitions meant tables params (meanings ve vp vf vj vq e p t f j q s))
      (λ E P T F J Q S ve vp vt vf vj vq vs e p t f j q s. from_means catalog definitions meant tables params (meanings ve vp vf vj vq e p t f j q s))
      (λ E P T F J Q S ve vp vt vf vj vq vs e p t f j q s. joined_means catalog definitions meant tables params (meanings ve vp vf vj vq e p t f j q s))
      (λ E P T F J Q S ve vp vt vf vj vq vs e p t f j q s. query_means catalog definitions meant tables params (meanings ve vp vf vj vq e p t f j q s))
      (λ E P T F J Q S ve vp vt vf vj vq vs e p t f j q s. select_means catalog definitions meant tables params (meanings ve vp vf vj vq e p t f j q s))
      (λ E P T F J Q S v1 v2 v3 v4 v5 v6 v7 k1 k2 k3 k4 k5 k6 k7 x. fun_ext (natural-select v1 v2 v3 v4 v5 v6 v7 k1 k2 k3 k4 k5 k6 k7 x.distinct x.as_struct x.items x.from x.filter x.grouping x.having x.place))
      (out-Select e)
