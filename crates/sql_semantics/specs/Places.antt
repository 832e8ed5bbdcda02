-- Where an expression begins, and the name that it implies.
use Rattle.std.specs.Prelude.{ℕ, List, [], ◌∷◌, Option, None, Some}
use Rattle.sql_ast.specs.declared.expr.Part.{Part}
use Rattle.sql_ast.specs.declared.expr.Part.TheVariants as part
use Rattle.sql_ast.specs.declared.expr.Expr.{Expr, out-Expr}
use Rattle.sql_ast.specs.declared.expr.Expr.TheOpen as ast
use Rattle.sql_ast.specs.declared.expr.Expr.TheOpen.{Expr-F}

-- the first byte of an expression; brackets round an expression leave nothing in the tree
abbrev pub place_layer : {E P T F J Q S : Type 0} → Expr-F E P T F J Q S → ℕ
place_layer (ast.Or first rest place) = place
place_layer (ast.And first rest place) = place
place_layer (ast.Not operators operand place) = place
place_layer (ast.BitOr first rest place) = place
place_layer (ast.BitXor first rest place) = place
place_layer (ast.BitAnd first rest place) = place
place_layer (ast.Shift first rest place) = place
place_layer (ast.Sum first rest place) = place
place_layer (ast.Product first rest place) = place
place_layer (ast.Unary operators operand place) = place
place_layer (ast.Compare left operator operator_place right place) = place
place_layer (ast.Like left negated operator_place right place) = place
place_layer (ast.LikeList left quantifier operator_place patterns place) = place
place_layer (ast.LikeUnnest left quantifier operator_place array place) = place
place_layer (ast.Between subject negated operator_place low high place) = place
place_layer (ast.InList left negated operator_place list place) = place
place_layer (ast.InQuery left negated operator_place query open_place place) = place
place_layer (ast.InUnnest left negated operator_place array place) = place
place_layer (ast.Is left negated test operator_place place) = place
place_layer (ast.Distinct left negated operator_place right place) = place
place_layer (ast.Postfix first parts place) = place
place_layer (ast.Integer value place) = place
place_layer (ast.Text value place) = place
place_layer (ast.Bytes value place) = place
place_layer (ast.Bool value place) = place
place_layer (ast.Null place) = place
place_layer (ast.Date text place) = place
place_layer (ast.Parameter name place) = place
place_layer (ast.Name name place) = place
place_layer (ast.Call call place) = place
place_layer (ast.SafeCall call place) = place
place_layer (ast.Scalar query place) = place
place_layer (ast.Tuple parts place) = place
place_layer (ast.Case subject branches otherwise place) = place
place_layer (ast.Cast safe expr ty place) = place
place_layer (ast.Extract part expr place) = place
place_layer (ast.Grouping argument place) = place
place_layer (ast.Exists query place) = place
place_layer (ast.ArrayQuery query open_place place) = place
place_layer (ast.Array element items open_place place) = place
place_layer (ast.Struct parts place) = place
place_layer (ast.TypedStruct fields parts open_place place) = place
place_layer (ast.With bindings result place) = place

abbrev pub place_of : Expr → ℕ
place_of e = place_layer (out-Expr e)

-- the name of the last part, where that is a field
abbrev pub last_field : {E : Type 0} → List (Part E) → Option (List ℕ)
last_field [] = None
last_field (part.Field name ∷ []) = Some name.text
last_field (part.Index form index place ∷ []) = None
last_field (p ∷ q ∷ parts) = last_field (q ∷ parts)

-- an expression that is an identifier, or ends in `.name`, implies that name
abbrev pub implied_layer : {E P T F J Q S : Type 0} → Expr-F E P T F J Q S → Option (List ℕ)
implied_layer (ast.Name name place) = Some name
implied_layer (ast.Postfix first parts place) = last_field parts
implied_layer _ = None

abbrev pub implied_name : Expr → Option (List ℕ)
implied_name e = implied_layer (out-Expr e)

-- a single name, which may be a date part
abbrev pub single_layer : {E P T F J Q S : Type 0} → Expr-F E P T F J Q S → Option (List ℕ)
single_layer (ast.Name name place) = Some name
single_layer _ = None

abbrev pub single_name : Expr → Option (List ℕ)
single_name e = single_layer (out-Expr e)

-- an integer literal
abbrev pub integer_layer : {E P T F J Q S : Type 0} → Expr-F E P T F J Q S → Option ℕ
integer_layer (ast.Integer value place) = Some value
integer_layer _ = None

abbrev pub integer_literal : Expr → Option ℕ
integer_literal e = integer_layer (out-Expr e)
