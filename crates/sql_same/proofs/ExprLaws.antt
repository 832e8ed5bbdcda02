-- When two expressions are alike, by what each is made of.
use Rattle.std.proofs.Common.{◌≡◌, ◌↔◌, ℕ, Bool, true, false, nat_eq, IsTrue, List, Option, refl, sym, ◌∙◌, ap}
use Rattle.std.specs.Str.{str_to_ascii_lowercase}
use Rattle.sql_ast.specs.declared.clauses.Aliased.{Aliased}
use Rattle.sql_ast.specs.declared.clauses.Binding.{Binding}
use Rattle.sql_ast.specs.declared.clauses.Call.{Call}
use Rattle.sql_ast.specs.declared.clauses.Name.{Name}
use Rattle.sql_ast.specs.declared.clauses.When.{When}
use Rattle.sql_ast.specs.declared.expr.Comparison.{Comparison}
use Rattle.sql_ast.specs.declared.expr.IsTest.{IsTest}
use Rattle.sql_ast.specs.declared.expr.Link.{Link}
use Rattle.sql_ast.specs.declared.expr.Part.{Part}
use Rattle.sql_ast.specs.declared.expr.Prefix.{Prefix}
use Rattle.sql_ast.specs.declared.expr.Quantifier.{Quantifier}
use Rattle.sql_ast.specs.declared.expr.Expr.{Expr, roll-Expr, out-Expr, roll-out-Expr}
use Rattle.sql_ast.specs.declared.expr.Expr.TheVariants as v
use Rattle.sql_ast.specs.declared.expr.Expr.TheOpen.{Expr-F}
use Rattle.sql_ast.specs.declared.expr.Expr.TheOpen as ast
use Rattle.sql_ast.specs.declared.query.Primary.{Primary}
use Rattle.sql_ast.specs.declared.query.Term.{Term}
use Rattle.sql_ast.specs.declared.query.FromItem.{FromItem}
use Rattle.sql_ast.specs.declared.query.Joined.{Joined}
use Rattle.sql_ast.specs.declared.query.Query.{Query}
use Rattle.sql_ast.specs.declared.query.Select.{Select}
use Rattle.sql_ast.specs.declared.type_spelling.TypeField.{TypeField}
use Rattle.sql_ast.specs.declared.type_spelling.TypeSpelling.{TypeSpelling}
use Rattle.sql_same.specs.Bare.{Spell, BareExpr}
use Rattle.sql_same.proofs.BareLaws.{expr_at, bare_expr}

abbrev lower : Spell
lower = str_to_ascii_lowercase

never : {A : Type 0} → false ≡ true → A
never h = absurd (let g : true ≡ false = sym h in cc)

-- ---- expr

outs_expr : (x y : Expr) → out-Expr x ≡ out-Expr y → x ≡ y
outs_expr x y e = sym (roll-out-Expr x) ∙ ap roll-Expr e ∙ roll-out-Expr y

-- two of known constructs
pub expr_by : (b : Bool) (x y : Expr) (p q : Expr-F Expr Primary Term FromItem Joined Query Select) → out-Expr x ≡ p → out-Expr y ≡ q → (IsTrue b ↔ (expr_at lower p ≡ expr_at lower q)) → (IsTrue b ↔ (BareExpr lower x ≡ BareExpr lower y))
expr_by b x y p q ex ey h =
    let left : out-Expr (BareExpr lower x) ≡ expr_at lower p = bare_expr lower x ∙ ap (expr_at lower) ex in
    let right : out-Expr (BareExpr lower y) ≡ expr_at lower q = bare_expr lower y ∙ ap (expr_at lower) ey in
    (λ t. outs_expr (BareExpr lower x) (BareExpr lower y) (left ∙ h.0 t ∙ sym right), λ e. h.1 (sym left ∙ ap out-Expr e ∙ right))

-- which construct it is
abbrev expr_kind : Expr-F Expr Primary Term FromItem Joined Query Select → ℕ
expr_kind (ast.Or first rest place) = 0
expr_kind (ast.And first rest place) = 1
expr_kind (ast.Not operators operand place) = 2
expr_kind (ast.BitOr first rest place) = 3
expr_kind (ast.BitXor first rest place) = 4
expr_kind (ast.BitAnd first rest place) = 5
expr_kind (ast.Shift first rest place) = 6
expr_kind (ast.Sum first rest place) = 7
expr_kind (ast.Product first rest place) = 8
expr_kind (ast.Unary operators operand place) = 9
expr_kind (ast.Compare left operator operator_place right place) = 10
expr_kind (ast.Like left negated operator_place right place) = 11
expr_kind (ast.LikeList left quantifier operator_place patterns place) = 12
expr_kind (ast.LikeUnnest left quantifier operator_place array place) = 13
expr_kind (ast.Between subject negated operator_place low high place) = 14
expr_kind (ast.InList left negated operator_place list place) = 15
expr_kind (ast.InQuery left negated operator_place query open_place place) = 16
expr_kind (ast.InUnnest left negated operator_place array place) = 17
expr_kind (ast.Is left negated test operator_place place) = 18
expr_kind (ast.Distinct left negated operator_place right place) = 19
expr_kind (ast.Postfix first parts place) = 20
expr_kind (ast.Integer value place) = 21
expr_kind (ast.Text value place) = 22
expr_kind (ast.Bytes value place) = 23
expr_kind (ast.Bool value place) = 24
expr_kind (ast.Null place) = 25
expr_kind (ast.Date text place) = 26
expr_kind (ast.Parameter name place) = 27
expr_kind (ast.Name name place) = 28
expr_kind (ast.Call call place) = 29
expr_kind (ast.SafeCall call place) = 30
expr_kind (ast.Scalar query place) = 31
expr_kind (ast.Tuple parts place) = 32
expr_kind (ast.Case subject branches otherwise place) = 33
expr_kind (ast.Cast safe expr ty place) = 34
expr_kind (ast.Extract part expr place) = 35
expr_kind (ast.Grouping argument place) = 36
expr_kind (ast.Exists query place) = 37
expr_kind (ast.ArrayQuery query open_place place) = 38
expr_kind (ast.Array element items open_place place) = 39
expr_kind (ast.Struct parts place) = 40
expr_kind (ast.TypedStruct fields parts open_place place) = 41
expr_kind (ast.With bindings result place) = 42

expr_kind_at : (p : Expr-F Expr Primary Term FromItem Joined Query Select) → expr_kind (expr_at lower p) ≡ expr_kind p
expr_kind_at (ast.Or first rest place) = refl
expr_kind_at (ast.And first rest place) = refl
expr_kind_at (ast.Not operators operand place) = refl
expr_kind_at (ast.BitOr first rest place) = refl
expr_kind_at (ast.BitXor first rest place) = refl
expr_kind_at (ast.BitAnd first rest place) = refl
expr_kind_at (ast.Shift first rest place) = refl
expr_kind_at (ast.Sum first rest place) = refl
expr_kind_at (ast.Product first rest place) = refl
expr_kind_at (ast.Unary operators operand place) = refl
expr_kind_at (ast.Compare left operator operator_place right place) = refl
expr_kind_at (ast.Like left negated operator_place right place) = refl
expr_kind_at (ast.LikeList left quantifier operator_place patterns place) = refl
expr_kind_at (ast.LikeUnnest left quantifier operator_place array place) = refl
expr_kind_at (ast.Between subject negated operator_place low high place) = refl
expr_kind_at (ast.InList left negated operator_place list place) = refl
expr_kind_at (ast.InQuery left negated operator_place query open_place place) = refl
expr_kind_at (ast.InUnnest left negated operator_place array place) = refl
expr_kind_at (ast.Is left negated test operator_place place) = refl
expr_kind_at (ast.Distinct left negated operator_place right place) = refl
expr_kind_at (ast.Postfix first parts place) = refl
expr_kind_at (ast.Integer value place) = refl
expr_kind_at (ast.Text value place) = refl
expr_kind_at (ast.Bytes value place) = refl
expr_kind_at (ast.Bool value place) = refl
expr_kind_at (ast.Null place) = refl
expr_kind_at (ast.Date text place) = refl
expr_kind_at (ast.Parameter name place) = refl
expr_kind_at (ast.Name name place) = refl
expr_kind_at (ast.Call call place) = refl
expr_kind_at (ast.SafeCall call place) = refl
expr_kind_at (ast.Scalar query place) = refl
expr_kind_at (ast.Tuple parts place) = refl
expr_kind_at (ast.Case subject branches otherwise place) = refl
expr_kind_at (ast.Cast safe expr ty place) = refl
expr_kind_at (ast.Extract part expr place) = refl
expr_kind_at (ast.Grouping argument place) = refl
expr_kind_at (ast.Exists query place) = refl
expr_kind_at (ast.ArrayQuery query open_place place) = refl
expr_kind_at (ast.Array element items open_place place) = refl
expr_kind_at (ast.Struct parts place) = refl
expr_kind_at (ast.TypedStruct fields parts open_place place) = refl
expr_kind_at (ast.With bindings result place) = refl

expr_kept : (x y : Expr) → BareExpr lower x ≡ BareExpr lower y → expr_kind (out-Expr x) ≡ expr_kind (out-Expr y)
expr_kept x y e =
    sym (ap expr_kind (bare_expr lower x) ∙ expr_kind_at (out-Expr x))
    ∙ ap (λ z. expr_kind (out-Expr z)) e ∙ ap expr_kind (bare_expr lower y) ∙ expr_kind_at (out-Expr y)

-- two of which only one is of this kind
expr_apart : (x y : Expr) (k : ℕ) → expr_kind (out-Expr x) ≡ k → (nat_eq (expr_kind (out-Expr y)) k ≡ true → ⊥) → nat_eq k k ≡ true → (IsTrue false ↔ (BareExpr lower x ≡ BareExpr lower y))
expr_apart x y k e lacks same = (λ t. never t, λ h. absurd (lacks (ap (λ n. nat_eq n k) (sym (expr_kept x y h) ∙ e) ∙ same)))

expr_no_Or : (p : Expr-F Expr Primary Term FromItem Joined Query Select) → ((f0 : Expr) (f1 : List (Link Expr)) (f2 : ℕ) → roll-Expr p ≡ v.Or f0 f1 f2 → ⊥) → nat_eq (expr_kind p) 0 ≡ true → ⊥
expr_no_Or (ast.Or f0 f1 f2) lacks h = lacks f0 f1 f2 (ap roll-Expr (sym (v.outs-Or f0 f1 f2)) ∙ roll-out-Expr (v.Or f0 f1 f2))
expr_no_Or _ lacks h = never h

pub expr_only_Or : (x y : Expr) (f0 : Expr) (f1 : List (Link Expr)) (f2 : ℕ) → x ≡ v.Or f0 f1 f2 → ((g0 : Expr) (g1 : List (Link Expr)) (g2 : ℕ) → y ≡ v.Or g0 g1 g2 → ⊥) → (IsTrue false ↔ (BareExpr lower x ≡ BareExpr lower y))
expr_only_Or x y f0 f1 f2 e lacks =
    expr_apart x y 0 (ap (λ z. expr_kind (out-Expr z)) e ∙ ap expr_kind (v.outs-Or f0 f1 f2)) (expr_no_Or (out-Expr y) (λ g0 g1 g2 h. lacks g0 g1 g2 (sym (roll-out-Expr y) ∙ h))) refl

expr_no_And : (p : Expr-F Expr Primary Term FromItem Joined Query Select) → ((f0 : Expr) (f1 : List (Link Expr)) (f2 : ℕ) → roll-Expr p ≡ v.And f0 f1 f2 → ⊥) → nat_eq (expr_kind p) 1 ≡ true → ⊥
expr_no_And (ast.And f0 f1 f2) lacks h = lacks f0 f1 f2 (ap roll-Expr (sym (v.outs-And f0 f1 f2)) ∙ roll-out-Expr (v.And f0 f1 f2))
expr_no_And _ lacks h = never h

pub expr_only_And : (x y : Expr) (f0 : Expr) (f1 : List (Link Expr)) (f2 : ℕ) → x ≡ v.And f0 f1 f2 → ((g0 : Expr) (g1 : List (Link Expr)) (g2 : ℕ) → y ≡ v.And g0 g1 g2 → ⊥) → (IsTrue false ↔ (BareExpr lower x ≡ BareExpr lower y))
expr_only_And x y f0 f1 f2 e lacks =
    expr_apart x y 1 (ap (λ z. expr_kind (out-Expr z)) e ∙ ap expr_kind (v.outs-And f0 f1 f2)) (expr_no_And (out-Expr y) (λ g0 g1 g2 h. lacks g0 g1 g2 (sym (roll-out-Expr y) ∙ h))) refl

expr_no_Not : (p : Expr-F Expr Primary Term FromItem Joined Query Select) → ((f0 : List ℕ) (f1 : Expr) (f2 : ℕ) → roll-Expr p ≡ v.Not f0 f1 f2 → ⊥) → nat_eq (expr_kind p) 2 ≡ true → ⊥
expr_no_Not (ast.Not f0 f1 f2) lacks h = lacks f0 f1 f2 (ap roll-Expr (sym (v.outs-Not f0 f1 f2)) ∙ roll-out-Expr (v.Not f0 f1 f2))
expr_no_Not _ lacks h = never h

pub expr_only_Not : (x y : Expr) (f0 : List ℕ) (f1 : Expr) (f2 : ℕ) → x ≡ v.Not f0 f1 f2 → ((g0 : List ℕ) (g1 : Expr) (g2 : ℕ) → y ≡ v.Not g0 g1 g2 → ⊥) → (IsTrue false ↔ (BareExpr lower x ≡ BareExpr lower y))
expr_only_Not x y f0 f1 f2 e lacks =
    expr_apart x y 2 (ap (λ z. expr_kind (out-Expr z)) e ∙ ap expr_kind (v.outs-Not f0 f1 f2)) (expr_no_Not (out-Expr y) (λ g0 g1 g2 h. lacks g0 g1 g2 (sym (roll-out-Expr y) ∙ h))) refl

expr_no_BitOr : (p : Expr-F Expr Primary Term FromItem Joined Query Select) → ((f0 : Expr) (f1 : List (Link Expr)) (f2 : ℕ) → roll-Expr p ≡ v.BitOr f0 f1 f2 → ⊥) → nat_eq (expr_kind p) 3 ≡ true → ⊥
expr_no_BitOr (ast.BitOr f0 f1 f2) lacks h = lacks f0 f1 f2 (ap roll-Expr (sym (v.outs-BitOr f0 f1 f2)) ∙ roll-out-Expr (v.BitOr f0 f1 f2))
expr_no_BitOr _ lacks h = never h

pub expr_only_BitOr : (x y : Expr) (f0 : Expr) (f1 : List (Link Expr)) (f2 : ℕ) → x ≡ v.BitOr f0 f1 f2 → ((g0 : Expr) (g1 : List (Link Expr)) (g2 : ℕ) → y ≡ v.BitOr g0 g1 g2 → ⊥) → (IsTrue false ↔ (BareExpr lower x ≡ BareExpr lower y))
expr_only_BitOr x y f0 f1 f2 e lacks =
    expr_apart x y 3 (ap (λ z. expr_kind (out-Expr z)) e ∙ ap expr_kind (v.outs-BitOr f0 f1 f2)) (expr_no_BitOr (out-Expr y) (λ g0 g1 g2 h. lacks g0 g1 g2 (sym (roll-out-Expr y) ∙ h))) refl

expr_no_BitXor : (p : Expr-F Expr Primary Term FromItem Joined Query Select) → ((f0 : Expr) (f1 : List (Link Expr)) (f2 : ℕ) → roll-Expr p ≡ v.BitXor f0 f1 f2 → ⊥) → nat_eq (expr_kind p) 4 ≡ true → ⊥
expr_no_BitXor (ast.BitXor f0 f1 f2) lacks h = lacks f0 f1 f2 (ap roll-Expr (sym (v.outs-BitXor f0 f1 f2)) ∙ roll-out-Expr (v.BitXor f0 f1 f2))
expr_no_BitXor _ lacks h = never h

pub expr_only_BitXor : (x y : Expr) (f0 : Expr) (f1 : List (Link Expr)) (f2 : ℕ) → x ≡ v.BitXor f0 f1 f2 → ((g0 : Expr) (g1 : List (Link Expr)) (g2 : ℕ) → y ≡ v.BitXor g0 g1 g2 → ⊥) → (IsTrue false ↔ (BareExpr lower x ≡ BareExpr lower y))
expr_only_BitXor x y f0 f1 f2 e lacks =
    expr_apart x y 4 (ap (λ z. expr_kind (out-Expr z)) e ∙ ap expr_kind (v.outs-BitXor f0 f1 f2)) (expr_no_BitXor (out-Expr y) (λ g0 g1 g2 h. lacks g0 g1 g2 (sym (roll-out-Expr y) ∙ h))) refl

expr_no_BitAnd : (p : Expr-F Expr Primary Term FromItem Joined Query Select) → ((f0 : Expr) (f1 : List (Link Expr)) (f2 : ℕ) → roll-Expr p ≡ v.BitAnd f0 f1 f2 → ⊥) → nat_eq (expr_kind p) 5 ≡ true → ⊥
expr_no_BitAnd (ast.BitAnd f0 f1 f2) lacks h = lacks f0 f1 f2 (ap roll-Expr (sym (v.outs-BitAnd f0 f1 f2)) ∙ roll-out-Expr (v.BitAnd f0 f1 f2))
expr_no_BitAnd _ lacks h = never h

pub expr_only_BitAnd : (x y : Expr) (f0 : Expr) (f1 : List (Link Expr)) (f2 : ℕ) → x ≡ v.BitAnd f0 f1 f2 → ((g0 : Expr) (g1 : List (Link Expr)) (g2 : ℕ) → y ≡ v.BitAnd g0 g1 g2 → ⊥) → (IsTrue false ↔ (BareExpr lower x ≡ BareExpr lower y))
expr_only_BitAnd x y f0 f1 f2 e lacks =
    expr_apart x y 5 (ap (λ z. expr_kind (out-Expr z)) e ∙ ap expr_kind (v.outs-BitAnd f0 f1 f2)) (expr_no_BitAnd (out-Expr y) (λ g0 g1 g2 h. lacks g0 g1 g2 (sym (roll-out-Expr y) ∙ h))) refl

expr_no_Shift : (p : Expr-F Expr Primary Term FromItem Joined Query Select) → ((f0 : Expr) (f1 : List (Link Expr)) (f2 : ℕ) → roll-Expr p ≡ v.Shift f0 f1 f2 → ⊥) → nat_eq (expr_kind p) 6 ≡ true → ⊥
expr_no_Shift (ast.Shift f0 f1 f2) lacks h = lacks f0 f1 f2 (ap roll-Expr (sym (v.outs-Shift f0 f1 f2)) ∙ roll-out-Expr (v.Shift f0 f1 f2))
expr_no_Shift _ lacks h = never h

pub expr_only_Shift : (x y : Expr) (f0 : Expr) (f1 : List (Link Expr)) (f2 : ℕ) → x ≡ v.Shift f0 f1 f2 → ((g0 : Expr) (g1 : List (Link Expr)) (g2 : ℕ) → y ≡ v.Shift g0 g1 g2 → ⊥) → (IsTrue false ↔ (BareExpr lower x ≡ BareExpr lower y))
expr_only_Shift x y f0 f1 f2 e lacks =
    expr_apart x y 6 (ap (λ z. expr_kind (out-Expr z)) e ∙ ap expr_kind (v.outs-Shift f0 f1 f2)) (expr_no_Shift (out-Expr y) (λ g0 g1 g2 h. lacks g0 g1 g2 (sym (roll-out-Expr y) ∙ h))) refl

expr_no_Sum : (p : Expr-F Expr Primary Term FromItem Joined Query Select) → ((f0 : Expr) (f1 : List (Link Expr)) (f2 : ℕ) → roll-Expr p ≡ v.Sum f0 f1 f2 → ⊥) → nat_eq (expr_kind p) 7 ≡ true → ⊥
expr_no_Sum (ast.Sum f0 f1 f2) lacks h = lacks f0 f1 f2 (ap roll-Expr (sym (v.outs-Sum f0 f1 f2)) ∙ roll-out-Expr (v.Sum f0 f1 f2))
expr_no_Sum _ lacks h = never h

pub expr_only_Sum : (x y : Expr) (f0 : Expr) (f1 : List (Link Expr)) (f2 : ℕ) → x ≡ v.Sum f0 f1 f2 → ((g0 : Expr) (g1 : List (Link Expr)) (g2 : ℕ) → y ≡ v.Sum g0 g1 g2 → ⊥) → (IsTrue false ↔ (BareExpr lower x ≡ BareExpr lower y))
expr_only_Sum x y f0 f1 f2 e lacks =
    expr_apart x y 7 (ap (λ z. expr_kind (out-Expr z)) e ∙ ap expr_kind (v.outs-Sum f0 f1 f2)) (expr_no_Sum (out-Expr y) (λ g0 g1 g2 h. lacks g0 g1 g2 (sym (roll-out-Expr y) ∙ h))) refl

expr_no_Product : (p : Expr-F Expr Primary Term FromItem Joined Query Select) → ((f0 : Expr) (f1 : List (Link Expr)) (f2 : ℕ) → roll-Expr p ≡ v.Product f0 f1 f2 → ⊥) → nat_eq (expr_kind p) 8 ≡ true → ⊥
expr_no_Product (ast.Product f0 f1 f2) lacks h = lacks f0 f1 f2 (ap roll-Expr (sym (v.outs-Product f0 f1 f2)) ∙ roll-out-Expr (v.Product f0 f1 f2))
expr_no_Product _ lacks h = never h

pub expr_only_Product : (x y : Expr) (f0 : Expr) (f1 : List (Link Expr)) (f2 : ℕ) → x ≡ v.Product f0 f1 f2 → ((g0 : Expr) (g1 : List (Link Expr)) (g2 : ℕ) → y ≡ v.Product g0 g1 g2 → ⊥) → (IsTrue false ↔ (BareExpr lower x ≡ BareExpr lower y))
expr_only_Product x y f0 f1 f2 e lacks =
    expr_apart x y 8 (ap (λ z. expr_kind (out-Expr z)) e ∙ ap expr_kind (v.outs-Product f0 f1 f2)) (expr_no_Product (out-Expr y) (λ g0 g1 g2 h. lacks g0 g1 g2 (sym (roll-out-Expr y) ∙ h))) refl

expr_no_Unary : (p : Expr-F Expr Primary Term FromItem Joined Query Select) → ((f0 : List Prefix) (f1 : Expr) (f2 : ℕ) → roll-Expr p ≡ v.Unary f0 f1 f2 → ⊥) → nat_eq (expr_kind p) 9 ≡ true → ⊥
expr_no_Unary (ast.Unary f0 f1 f2) lacks h = lacks f0 f1 f2 (ap roll-Expr (sym (v.outs-Unary f0 f1 f2)) ∙ roll-out-Expr (v.Unary f0 f1 f2))
expr_no_Unary _ lacks h = never h

pub expr_only_Unary : (x y : Expr) (f0 : List Prefix) (f1 : Expr) (f2 : ℕ) → x ≡ v.Unary f0 f1 f2 → ((g0 : List Prefix) (g1 : Expr) (g2 : ℕ) → y ≡ v.Unary g0 g1 g2 → ⊥) → (IsTrue false ↔ (BareExpr lower x ≡ BareExpr lower y))
expr_only_Unary x y f0 f1 f2 e lacks =
    expr_apart x y 9 (ap (λ z. expr_kind (out-Expr z)) e ∙ ap expr_kind (v.outs-Unary f0 f1 f2)) (expr_no_Unary (out-Expr y) (λ g0 g1 g2 h. lacks g0 g1 g2 (sym (roll-out-Expr y) ∙ h))) refl

expr_no_Compare : (p : Expr-F Expr Primary Term FromItem Joined Query Select) → ((f0 : Expr) (f1 : Comparison) (f2 : ℕ) (f3 : Expr) (f4 : ℕ) → roll-Expr p ≡ v.Compare f0 f1 f2 f3 f4 → ⊥) → nat_eq (expr_kind p) 10 ≡ true → ⊥
expr_no_Compare (ast.Compare f0 f1 f2 f3 f4) lacks h = lacks f0 f1 f2 f3 f4 (ap roll-Expr (sym (v.outs-Compare f0 f1 f2 f3 f4)) ∙ roll-out-Expr (v.Compare f0 f1 f2 f3 f4))
expr_no_Compare _ lacks h = never h

pub expr_only_Compare : (x y : Expr) (f0 : Expr) (f1 : Comparison) (f2 : ℕ) (f3 : Expr) (f4 : ℕ) → x ≡ v.Compare f0 f1 f2 f3 f4 → ((g0 : Expr) (g1 : Comparison) (g2 : ℕ) (g3 : Expr) (g4 : ℕ) → y ≡ v.Compare g0 g1 g2 g3 g4 → ⊥) → (IsTrue false ↔ (BareExpr lower x ≡ BareExpr lower y))
expr_only_Compare x y f0 f1 f2 f3 f4 e lacks =
    expr_apart x y 10 (ap (λ z. expr_kind (out-Expr z)) e ∙ ap expr_kind (v.outs-Compare f0 f1 f2 f3 f4)) (expr_no_Compare (out-Expr y) (λ g0 g1 g2 g3 g4 h. lacks g0 g1 g2 g3 g4 (sym (roll-out-Expr y) ∙ h))) refl

expr_no_Like : (p : Expr-F Expr Primary Term FromItem Joined Query Select) → ((f0 : Expr) (f1 : Bool) (f2 : ℕ) (f3 : Expr) (f4 : ℕ) → roll-Expr p ≡ v.Like f0 f1 f2 f3 f4 → ⊥) → nat_eq (expr_kind p) 11 ≡ true → ⊥
expr_no_Like (ast.Like f0 f1 f2 f3 f4) lacks h = lacks f0 f1 f2 f3 f4 (ap roll-Expr (sym (v.outs-Like f0 f1 f2 f3 f4)) ∙ roll-out-Expr (v.Like f0 f1 f2 f3 f4))
expr_no_Like _ lacks h = never h

pub expr_only_Like : (x y : Expr) (f0 : Expr) (f1 : Bool) (f2 : ℕ) (f3 : Expr) (f4 : ℕ) → x ≡ v.Like f0 f1 f2 f3 f4 → ((g0 : Expr) (g1 : Bool) (g2 : ℕ) (g3 : Expr) (g4 : ℕ) → y ≡ v.Like g0 g1 g2 g3 g4 → ⊥) → (IsTrue false ↔ (BareExpr lower x ≡ BareExpr lower y))
expr_only_Like x y f0 f1 f2 f3 f4 e lacks =
    expr_apart x y 11 (ap (λ z. expr_kind (out-Expr z)) e ∙ ap expr_kind (v.outs-Like f0 f1 f2 f3 f4)) (expr_no_Like (out-Expr y) (λ g0 g1 g2 g3 g4 h. lacks g0 g1 g2 g3 g4 (sym (roll-out-Expr y) ∙ h))) refl

expr_no_LikeList : (p : Expr-F Expr Primary Term FromItem Joined Query Select) → ((f0 : Expr) (f1 : Quantifier) (f2 : ℕ) (f3 : List Expr) (f4 : ℕ) → roll-Expr p ≡ v.LikeList f0 f1 f2 f3 f4 → ⊥) → nat_eq (expr_kind p) 12 ≡ true → ⊥
expr_no_LikeList (ast.LikeList f0 f1 f2 f3 f4) lacks h = lacks f0 f1 f2 f3 f4 (ap roll-Expr (sym (v.outs-LikeList f0 f1 f2 f3 f4)) ∙ roll-out-Expr (v.LikeList f0 f1 f2 f3 f4))
expr_no_LikeList _ lacks h = never h

pub expr_only_LikeList : (x y : Expr) (f0 : Expr) (f1 : Quantifier) (f2 : ℕ) (f3 : List Expr) (f4 : ℕ) → x ≡ v.LikeList f0 f1 f2 f3 f4 → ((g0 : Expr) (g1 : Quantifier) (g2 : ℕ) (g3 : List Expr) (g4 : ℕ) → y ≡ v.LikeList g0 g1 g2 g3 g4 → ⊥) → (IsTrue false ↔ (BareExpr lower x ≡ BareExpr lower y))
expr_only_LikeList x y f0 f1 f2 f3 f4 e lacks =
    expr_apart x y 12 (ap (λ z. expr_kind (out-Expr z)) e ∙ ap expr_kind (v.outs-LikeList f0 f1 f2 f3 f4)) (expr_no_LikeList (out-Expr y) (λ g0 g1 g2 g3 g4 h. lacks g0 g1 g2 g3 g4 (sym (roll-out-Expr y) ∙ h))) refl

expr_no_LikeUnnest : (p : Expr-F Expr Primary Term FromItem Joined Query Select) → ((f0 : Expr) (f1 : Quantifier) (f2 : ℕ) (f3 : Expr) (f4 : ℕ) → roll-Expr p ≡ v.LikeUnnest f0 f1 f2 f3 f4 → ⊥) → nat_eq (expr_kind p) 13 ≡ true → ⊥
expr_no_LikeUnnest (ast.LikeUnnest f0 f1 f2 f3 f4) lacks h = lacks f0 f1 f2 f3 f4 (ap roll-Expr (sym (v.outs-LikeUnnest f0 f1 f2 f3 f4)) ∙ roll-out-Expr (v.LikeUnnest f0 f1 f2 f3 f4))
expr_no_LikeUnnest _ lacks h = never h

pub expr_only_LikeUnnest : (x y : Expr) (f0 : Expr) (f1 : Quantifier) (f2 : ℕ) (f3 : Expr) (f4 : ℕ) → x ≡ v.LikeUnnest f0 f1 f2 f3 f4 → ((g0 : Expr) (g1 : Quantifier) (g2 : ℕ) (g3 : Expr) (g4 : ℕ) → y ≡ v.LikeUnnest g0 g1 g2 g3 g4 → ⊥) → (IsTrue false ↔ (BareExpr lower x ≡ BareExpr lower y))
expr_only_LikeUnnest x y f0 f1 f2 f3 f4 e lacks =
    expr_apart x y 13 (ap (λ z. expr_kind (out-Expr z)) e ∙ ap expr_kind (v.outs-LikeUnnest f0 f1 f2 f3 f4)) (expr_no_LikeUnnest (out-Expr y) (λ g0 g1 g2 g3 g4 h. lacks g0 g1 g2 g3 g4 (sym (roll-out-Expr y) ∙ h))) refl

expr_no_Between : (p : Expr-F Expr Primary Term FromItem Joined Query Select) → ((f0 : Expr) (f1 : Bool) (f2 : ℕ) (f3 : Expr) (f4 : Expr) (f5 : ℕ) → roll-Expr p ≡ v.Between f0 f1 f2 f3 f4 f5 → ⊥) → nat_eq (expr_kind p) 14 ≡ true → ⊥
expr_no_Between (ast.Between f0 f1 f2 f3 f4 f5) lacks h = lacks f0 f1 f2 f3 f4 f5 (ap roll-Expr (sym (v.outs-Between f0 f1 f2 f3 f4 f5)) ∙ roll-out-Expr (v.Between f0 f1 f2 f3 f4 f5))
expr_no_Between _ lacks h = never h

pub expr_only_Between : (x y : Expr) (f0 : Expr) (f1 : Bool) (f2 : ℕ) (f3 : Expr) (f4 : Expr) (f5 : ℕ) → x ≡ v.Between f0 f1 f2 f3 f4 f5 → ((g0 : Expr) (g1 : Bool) (g2 : ℕ) (g3 : Expr) (g4 : Expr) (g5 : ℕ) → y ≡ v.Between g0 g1 g2 g3 g4 g5 → ⊥) → (IsTrue false ↔ (BareExpr lower x ≡ BareExpr lower y))
expr_only_Between x y f0 f1 f2 f3 f4 f5 e lacks =
    expr_apart x y 14 (ap (λ z. expr_kind (out-Expr z)) e ∙ ap expr_kind (v.outs-Between f0 f1 f2 f3 f4 f5)) (expr_no_Between (out-Expr y) (λ g0 g1 g2 g3 g4 g5 h. lacks g0 g1 g2 g3 g4 g5 (sym (roll-out-Expr y) ∙ h))) refl

expr_no_InList : (p : Expr-F Expr Primary Term FromItem Joined Query Select) → ((f0 : Expr) (f1 : Bool) (f2 : ℕ) (f3 : List Expr) (f4 : ℕ) → roll-Expr p ≡ v.InList f0 f1 f2 f3 f4 → ⊥) → nat_eq (expr_kind p) 15 ≡ true → ⊥
expr_no_InList (ast.InList f0 f1 f2 f3 f4) lacks h = lacks f0 f1 f2 f3 f4 (ap roll-Expr (sym (v.outs-InList f0 f1 f2 f3 f4)) ∙ roll-out-Expr (v.InList f0 f1 f2 f3 f4))
expr_no_InList _ lacks h = never h

pub expr_only_InList : (x y : Expr) (f0 : Expr) (f1 : Bool) (f2 : ℕ) (f3 : List Expr) (f4 : ℕ) → x ≡ v.InList f0 f1 f2 f3 f4 → ((g0 : Expr) (g1 : Bool) (g2 : ℕ) (g3 : List Expr) (g4 : ℕ) → y ≡ v.InList g0 g1 g2 g3 g4 → ⊥) → (IsTrue false ↔ (BareExpr lower x ≡ BareExpr lower y))
expr_only_InList x y f0 f1 f2 f3 f4 e lacks =
    expr_apart x y 15 (ap (λ z. expr_kind (out-Expr z)) e ∙ ap expr_kind (v.outs-InList f0 f1 f2 f3 f4)) (expr_no_InList (out-Expr y) (λ g0 g1 g2 g3 g4 h. lacks g0 g1 g2 g3 g4 (sym (roll-out-Expr y) ∙ h))) refl

expr_no_InQuery : (p : Expr-F Expr Primary Term FromItem Joined Query Select) → ((f0 : Expr) (f1 : Bool) (f2 : ℕ) (f3 : Query) (f4 : ℕ) (f5 : ℕ) → roll-Expr p ≡ v.InQuery f0 f1 f2 f3 f4 f5 → ⊥) → nat_eq (expr_kind p) 16 ≡ true → ⊥
expr_no_InQuery (ast.InQuery f0 f1 f2 f3 f4 f5) lacks h = lacks f0 f1 f2 f3 f4 f5 (ap roll-Expr (sym (v.outs-InQuery f0 f1 f2 f3 f4 f5)) ∙ roll-out-Expr (v.InQuery f0 f1 f2 f3 f4 f5))
expr_no_InQuery _ lacks h = never h

pub expr_only_InQuery : (x y : Expr) (f0 : Expr) (f1 : Bool) (f2 : ℕ) (f3 : Query) (f4 : ℕ) (f5 : ℕ) → x ≡ v.InQuery f0 f1 f2 f3 f4 f5 → ((g0 : Expr) (g1 : Bool) (g2 : ℕ) (g3 : Query) (g4 : ℕ) (g5 : ℕ) → y ≡ v.InQuery g0 g1 g2 g3 g4 g5 → ⊥) → (IsTrue false ↔ (BareExpr lower x ≡ BareExpr lower y))
expr_only_InQuery x y f0 f1 f2 f3 f4 f5 e lacks =
    expr_apart x y 16 (ap (λ z. expr_kind (out-Expr z)) e ∙ ap expr_kind (v.outs-InQuery f0 f1 f2 f3 f4 f5)) (expr_no_InQuery (out-Expr y) (λ g0 g1 g2 g3 g4 g5 h. lacks g0 g1 g2 g3 g4 g5 (sym (roll-out-Expr y) ∙ h))) refl

expr_no_InUnnest : (p : Expr-F Expr Primary Term FromItem Joined Query Select) → ((f0 : Expr) (f1 : Bool) (f2 : ℕ) (f3 : Expr) (f4 : ℕ) → roll-Expr p ≡ v.InUnnest f0 f1 f2 f3 f4 → ⊥) → nat_eq (expr_kind p) 17 ≡ true → ⊥
expr_no_InUnnest (ast.InUnnest f0 f1 f2 f3 f4) lacks h = lacks f0 f1 f2 f3 f4 (ap roll-Expr (sym (v.outs-InUnnest f0 f1 f2 f3 f4)) ∙ roll-out-Expr (v.InUnnest f0 f1 f2 f3 f4))
expr_no_InUnnest _ lacks h = never h

pub expr_only_InUnnest : (x y : Expr) (f0 : Expr) (f1 : Bool) (f2 : ℕ) (f3 : Expr) (f4 : ℕ) → x ≡ v.InUnnest f0 f1 f2 f3 f4 → ((g0 : Expr) (g1 : Bool) (g2 : ℕ) (g3 : Expr) (g4 : ℕ) → y ≡ v.InUnnest g0 g1 g2 g3 g4 → ⊥) → (IsTrue false ↔ (BareExpr lower x ≡ BareExpr lower y))
expr_only_InUnnest x y f0 f1 f2 f3 f4 e lacks =
    expr_apart x y 17 (ap (λ z. expr_kind (out-Expr z)) e ∙ ap expr_kind (v.outs-InUnnest f0 f1 f2 f3 f4)) (expr_no_InUnnest (out-Expr y) (λ g0 g1 g2 g3 g4 h. lacks g0 g1 g2 g3 g4 (sym (roll-out-Expr y) ∙ h))) refl

expr_no_Is : (p : Expr-F Expr Primary Term FromItem Joined Query Select) → ((f0 : Expr) (f1 : Bool) (f2 : IsTest) (f3 : ℕ) (f4 : ℕ) → roll-Expr p ≡ v.Is f0 f1 f2 f3 f4 → ⊥) → nat_eq (expr_kind p) 18 ≡ true → ⊥
expr_no_Is (ast.Is f0 f1 f2 f3 f4) lacks h = lacks f0 f1 f2 f3 f4 (ap roll-Expr (sym (v.outs-Is f0 f1 f2 f3 f4)) ∙ roll-out-Expr (v.Is f0 f1 f2 f3 f4))
expr_no_Is _ lacks h = never h

pub expr_only_Is : (x y : Expr) (f0 : Expr) (f1 : Bool) (f2 : IsTest) (f3 : ℕ) (f4 : ℕ) → x ≡ v.Is f0 f1 f2 f3 f4 → ((g0 : Expr) (g1 : Bool) (g2 : IsTest) (g3 : ℕ) (g4 : ℕ) → y ≡ v.Is g0 g1 g2 g3 g4 → ⊥) → (IsTrue false ↔ (BareExpr lower x ≡ BareExpr lower y))
expr_only_Is x y f0 f1 f2 f3 f4 e lacks =
    expr_apart x y 18 (ap (λ z. expr_kind (out-Expr z)) e ∙ ap expr_kind (v.outs-Is f0 f1 f2 f3 f4)) (expr_no_Is (out-Expr y) (λ g0 g1 g2 g3 g4 h. lacks g0 g1 g2 g3 g4 (sym (roll-out-Expr y) ∙ h))) refl

expr_no_Distinct : (p : Expr-F Expr Primary Term FromItem Joined Query Select) → ((f0 : Expr) (f1 : Bool) (f2 : ℕ) (f3 : Expr) (f4 : ℕ) → roll-Expr p ≡ v.Distinct f0 f1 f2 f3 f4 → ⊥) → nat_eq (expr_kind p) 19 ≡ true → ⊥
expr_no_Distinct (ast.Distinct f0 f1 f2 f3 f4) lacks h = lacks f0 f1 f2 f3 f4 (ap roll-Expr (sym (v.outs-Distinct f0 f1 f2 f3 f4)) ∙ roll-out-Expr (v.Distinct f0 f1 f2 f3 f4))
expr_no_Distinct _ lacks h = never h

pub expr_only_Distinct : (x y : Expr) (f0 : Expr) (f1 : Bool) (f2 : ℕ) (f3 : Expr) (f4 : ℕ) → x ≡ v.Distinct f0 f1 f2 f3 f4 → ((g0 : Expr) (g1 : Bool) (g2 : ℕ) (g3 : Expr) (g4 : ℕ) → y ≡ v.Distinct g0 g1 g2 g3 g4 → ⊥) → (IsTrue false ↔ (BareExpr lower x ≡ BareExpr lower y))
expr_only_Distinct x y f0 f1 f2 f3 f4 e lacks =
    expr_apart x y 19 (ap (λ z. expr_kind (out-Expr z)) e ∙ ap expr_kind (v.outs-Distinct f0 f1 f2 f3 f4)) (expr_no_Distinct (out-Expr y) (λ g0 g1 g2 g3 g4 h. lacks g0 g1 g2 g3 g4 (sym (roll-out-Expr y) ∙ h))) refl

expr_no_Postfix : (p : Expr-F Expr Primary Term FromItem Joined Query Select) → ((f0 : Expr) (f1 : List (Part Expr)) (f2 : ℕ) → roll-Expr p ≡ v.Postfix f0 f1 f2 → ⊥) → nat_eq (expr_kind p) 20 ≡ true → ⊥
expr_no_Postfix (ast.Postfix f0 f1 f2) lacks h = lacks f0 f1 f2 (ap roll-Expr (sym (v.outs-Postfix f0 f1 f2)) ∙ roll-out-Expr (v.Postfix f0 f1 f2))
expr_no_Postfix _ lacks h = never h

pub expr_only_Postfix : (x y : Expr) (f0 : Expr) (f1 : List (Part Expr)) (f2 : ℕ) → x ≡ v.Postfix f0 f1 f2 → ((g0 : Expr) (g1 : List (Part Expr)) (g2 : ℕ) → y ≡ v.Postfix g0 g1 g2 → ⊥) → (IsTrue false ↔ (BareExpr lower x ≡ BareExpr lower y))
expr_only_Postfix x y f0 f1 f2 e lacks =
    expr_apart x y 20 (ap (λ z. expr_kind (out-Expr z)) e ∙ ap expr_kind (v.outs-Postfix f0 f1 f2)) (expr_no_Postfix (out-Expr y) (λ g0 g1 g2 h. lacks g0 g1 g2 (sym (roll-out-Expr y) ∙ h))) refl

expr_no_Integer : (p : Expr-F Expr Primary Term FromItem Joined Query Select) → ((f0 : ℕ) (f1 : ℕ) → roll-Expr p ≡ v.Integer f0 f1 → ⊥) → nat_eq (expr_kind p) 21 ≡ true → ⊥
expr_no_Integer (ast.Integer f0 f1) lacks h = lacks f0 f1 (ap roll-Expr (sym (v.outs-Integer f0 f1)) ∙ roll-out-Expr (v.Integer f0 f1))
expr_no_Integer _ lacks h = never h

pub expr_only_Integer : (x y : Expr) (f0 : ℕ) (f1 : ℕ) → x ≡ v.Integer f0 f1 → ((g0 : ℕ) (g1 : ℕ) → y ≡ v.Integer g0 g1 → ⊥) → (IsTrue false ↔ (BareExpr lower x ≡ BareExpr lower y))
expr_only_Integer x y f0 f1 e lacks =
    expr_apart x y 21 (ap (λ z. expr_kind (out-Expr z)) e ∙ ap expr_kind (v.outs-Integer f0 f1)) (expr_no_Integer (out-Expr y) (λ g0 g1 h. lacks g0 g1 (sym (roll-out-Expr y) ∙ h))) refl

expr_no_Text : (p : Expr-F Expr Primary Term FromItem Joined Query Select) → ((f0 : List ℕ) (f1 : ℕ) → roll-Expr p ≡ v.Text f0 f1 → ⊥) → nat_eq (expr_kind p) 22 ≡ true → ⊥
expr_no_Text (ast.Text f0 f1) lacks h = lacks f0 f1 (ap roll-Expr (sym (v.outs-Text f0 f1)) ∙ roll-out-Expr (v.Text f0 f1))
expr_no_Text _ lacks h = never h

pub expr_only_Text : (x y : Expr) (f0 : List ℕ) (f1 : ℕ) → x ≡ v.Text f0 f1 → ((g0 : List ℕ) (g1 : ℕ) → y ≡ v.Text g0 g1 → ⊥) → (IsTrue false ↔ (BareExpr lower x ≡ BareExpr lower y))
expr_only_Text x y f0 f1 e lacks =
    expr_apart x y 22 (ap (λ z. expr_kind (out-Expr z)) e ∙ ap expr_kind (v.outs-Text f0 f1)) (expr_no_Text (out-Expr y) (λ g0 g1 h. lacks g0 g1 (sym (roll-out-Expr y) ∙ h))) refl

expr_no_Bytes : (p : Expr-F Expr Primary Term FromItem Joined Query Select) → ((f0 : List ℕ) (f1 : ℕ) → roll-Expr p ≡ v.Bytes f0 f1 → ⊥) → nat_eq (expr_kind p) 23 ≡ true → ⊥
expr_no_Bytes (ast.Bytes f0 f1) lacks h = lacks f0 f1 (ap roll-Expr (sym (v.outs-Bytes f0 f1)) ∙ roll-out-Expr (v.Bytes f0 f1))
expr_no_Bytes _ lacks h = never h

pub expr_only_Bytes : (x y : Expr) (f0 : List ℕ) (f1 : ℕ) → x ≡ v.Bytes f0 f1 → ((g0 : List ℕ) (g1 : ℕ) → y ≡ v.Bytes g0 g1 → ⊥) → (IsTrue false ↔ (BareExpr lower x ≡ BareExpr lower y))
expr_only_Bytes x y f0 f1 e lacks =
    expr_apart x y 23 (ap (λ z. expr_kind (out-Expr z)) e ∙ ap expr_kind (v.outs-Bytes f0 f1)) (expr_no_Bytes (out-Expr y) (λ g0 g1 h. lacks g0 g1 (sym (roll-out-Expr y) ∙ h))) refl

expr_no_Bool : (p : Expr-F Expr Primary Term FromItem Joined Query Select) → ((f0 : Bool) (f1 : ℕ) → roll-Expr p ≡ v.Bool f0 f1 → ⊥) → nat_eq (expr_kind p) 24 ≡ true → ⊥
expr_no_Bool (ast.Bool f0 f1) lacks h = lacks f0 f1 (ap roll-Expr (sym (v.outs-Bool f0 f1)) ∙ roll-out-Expr (v.Bool f0 f1))
expr_no_Bool _ lacks h = never h

pub expr_only_Bool : (x y : Expr) (f0 : Bool) (f1 : ℕ) → x ≡ v.Bool f0 f1 → ((g0 : Bool) (g1 : ℕ) → y ≡ v.Bool g0 g1 → ⊥) → (IsTrue false ↔ (BareExpr lower x ≡ BareExpr lower y))
expr_only_Bool x y f0 f1 e lacks =
    expr_apart x y 24 (ap (λ z. expr_kind (out-Expr z)) e ∙ ap expr_kind (v.outs-Bool f0 f1)) (expr_no_Bool (out-Expr y) (λ g0 g1 h. lacks g0 g1 (sym (roll-out-Expr y) ∙ h))) refl

expr_no_Null : (p : Expr-F Expr Primary Term FromItem Joined Query Select) → ((f0 : ℕ) → roll-Expr p ≡ v.Null f0 → ⊥) → nat_eq (expr_kind p) 25 ≡ true → ⊥
expr_no_Null (ast.Null f0) lacks h = lacks f0 (ap roll-Expr (sym (v.outs-Null f0)) ∙ roll-out-Expr (v.Null f0))
expr_no_Null _ lacks h = never h

pub expr_only_Null : (x y : Expr) (f0 : ℕ) → x ≡ v.Null f0 → ((g0 : ℕ) → y ≡ v.Null g0 → ⊥) → (IsTrue false ↔ (BareExpr lower x ≡ BareExpr lower y))
expr_only_Null x y f0 e lacks =
    expr_apart x y 25 (ap (λ z. expr_kind (out-Expr z)) e ∙ ap expr_kind (v.outs-Null f0)) (expr_no_Null (out-Expr y) (λ g0 h. lacks g0 (sym (roll-out-Expr y) ∙ h))) refl

expr_no_Date : (p : Expr-F Expr Primary Term FromItem Joined Query Select) → ((f0 : List ℕ) (f1 : ℕ) → roll-Expr p ≡ v.Date f0 f1 → ⊥) → nat_eq (expr_kind p) 26 ≡ true → ⊥
expr_no_Date (ast.Date f0 f1) lacks h = lacks f0 f1 (ap roll-Expr (sym (v.outs-Date f0 f1)) ∙ roll-out-Expr (v.Date f0 f1))
expr_no_Date _ lacks h = never h

pub expr_only_Date : (x y : Expr) (f0 : List ℕ) (f1 : ℕ) → x ≡ v.Date f0 f1 → ((g0 : List ℕ) (g1 : ℕ) → y ≡ v.Date g0 g1 → ⊥) → (IsTrue false ↔ (BareExpr lower x ≡ BareExpr lower y))
expr_only_Date x y f0 f1 e lacks =
    expr_apart x y 26 (ap (λ z. expr_kind (out-Expr z)) e ∙ ap expr_kind (v.outs-Date f0 f1)) (expr_no_Date (out-Expr y) (λ g0 g1 h. lacks g0 g1 (sym (roll-out-Expr y) ∙ h))) refl

expr_no_Parameter : (p : Expr-F Expr Primary Term FromItem Joined Query Select) → ((f0 : List ℕ) (f1 : ℕ) → roll-Expr p ≡ v.Parameter f0 f1 → ⊥) → nat_eq (expr_kind p) 27 ≡ true → ⊥
expr_no_Parameter (ast.Parameter f0 f1) lacks h = lacks f0 f1 (ap roll-Expr (sym (v.outs-Parameter f0 f1)) ∙ roll-out-Expr (v.Parameter f0 f1))
expr_no_Parameter _ lacks h = never h

pub expr_only_Parameter : (x y : Expr) (f0 : List ℕ) (f1 : ℕ) → x ≡ v.Parameter f0 f1 → ((g0 : List ℕ) (g1 : ℕ) → y ≡ v.Parameter g0 g1 → ⊥) → (IsTrue false ↔ (BareExpr lower x ≡ BareExpr lower y))
expr_only_Parameter x y f0 f1 e lacks =
    expr_apart x y 27 (ap (λ z. expr_kind (out-Expr z)) e ∙ ap expr_kind (v.outs-Parameter f0 f1)) (expr_no_Parameter (out-Expr y) (λ g0 g1 h. lacks g0 g1 (sym (roll-out-Expr y) ∙ h))) refl

expr_no_Name : (p : Expr-F Expr Primary Term FromItem Joined Query Select) → ((f0 : List ℕ) (f1 : ℕ) → roll-Expr p ≡ v.Name f0 f1 → ⊥) → nat_eq (expr_kind p) 28 ≡ true → ⊥
expr_no_Name (ast.Name f0 f1) lacks h = lacks f0 f1 (ap roll-Expr (sym (v.outs-Name f0 f1)) ∙ roll-out-Expr (v.Name f0 f1))
expr_no_Name _ lacks h = never h

pub expr_only_Name : (x y : Expr) (f0 : List ℕ) (f1 : ℕ) → x ≡ v.Name f0 f1 → ((g0 : List ℕ) (g1 : ℕ) → y ≡ v.Name g0 g1 → ⊥) → (IsTrue false ↔ (BareExpr lower x ≡ BareExpr lower y))
expr_only_Name x y f0 f1 e lacks =
    expr_apart x y 28 (ap (λ z. expr_kind (out-Expr z)) e ∙ ap expr_kind (v.outs-Name f0 f1)) (expr_no_Name (out-Expr y) (λ g0 g1 h. lacks g0 g1 (sym (roll-out-Expr y) ∙ h))) refl

expr_no_Call : (p : Expr-F Expr Primary Term FromItem Joined Query Select) → ((f0 : Call Expr) (f1 : ℕ) → roll-Expr p ≡ v.Call f0 f1 → ⊥) → nat_eq (expr_kind p) 29 ≡ true → ⊥
expr_no_Call (ast.Call f0 f1) lacks h = lacks f0 f1 (ap roll-Expr (sym (v.outs-Call f0 f1)) ∙ roll-out-Expr (v.Call f0 f1))
expr_no_Call _ lacks h = never h

pub expr_only_Call : (x y : Expr) (f0 : Call Expr) (f1 : ℕ) → x ≡ v.Call f0 f1 → ((g0 : Call Expr) (g1 : ℕ) → y ≡ v.Call g0 g1 → ⊥) → (IsTrue false ↔ (BareExpr lower x ≡ BareExpr lower y))
expr_only_Call x y f0 f1 e lacks =
    expr_apart x y 29 (ap (λ z. expr_kind (out-Expr z)) e ∙ ap expr_kind (v.outs-Call f0 f1)) (expr_no_Call (out-Expr y) (λ g0 g1 h. lacks g0 g1 (sym (roll-out-Expr y) ∙ h))) refl

expr_no_SafeCall : (p : Expr-F Expr Primary Term FromItem Joined Query Select) → ((f0 : Call Expr) (f1 : ℕ) → roll-Expr p ≡ v.SafeCall f0 f1 → ⊥) → nat_eq (expr_kind p) 30 ≡ true → ⊥
expr_no_SafeCall (ast.SafeCall f0 f1) lacks h = lacks f0 f1 (ap roll-Expr (sym (v.outs-SafeCall f0 f1)) ∙ roll-out-Expr (v.SafeCall f0 f1))
expr_no_SafeCall _ lacks h = never h

pub expr_only_SafeCall : (x y : Expr) (f0 : Call Expr) (f1 : ℕ) → x ≡ v.SafeCall f0 f1 → ((g0 : Call Expr) (g1 : ℕ) → y ≡ v.SafeCall g0 g1 → ⊥) → (IsTrue false ↔ (BareExpr lower x ≡ BareExpr lower y))
expr_only_SafeCall x y f0 f1 e lacks =
    expr_apart x y 30 (ap (λ z. expr_kind (out-Expr z)) e ∙ ap expr_kind (v.outs-SafeCall f0 f1)) (expr_no_SafeCall (out-Expr y) (λ g0 g1 h. lacks g0 g1 (sym (roll-out-Expr y) ∙ h))) refl

expr_no_Scalar : (p : Expr-F Expr Primary Term FromItem Joined Query Select) → ((f0 : Query) (f1 : ℕ) → roll-Expr p ≡ v.Scalar f0 f1 → ⊥) → nat_eq (expr_kind p) 31 ≡ true → ⊥
expr_no_Scalar (ast.Scalar f0 f1) lacks h = lacks f0 f1 (ap roll-Expr (sym (v.outs-Scalar f0 f1)) ∙ roll-out-Expr (v.Scalar f0 f1))
expr_no_Scalar _ lacks h = never h

pub expr_only_Scalar : (x y : Expr) (f0 : Query) (f1 : ℕ) → x ≡ v.Scalar f0 f1 → ((g0 : Query) (g1 : ℕ) → y ≡ v.Scalar g0 g1 → ⊥) → (IsTrue false ↔ (BareExpr lower x ≡ BareExpr lower y))
expr_only_Scalar x y f0 f1 e lacks =
    expr_apart x y 31 (ap (λ z. expr_kind (out-Expr z)) e ∙ ap expr_kind (v.outs-Scalar f0 f1)) (expr_no_Scalar (out-Expr y) (λ g0 g1 h. lacks g0 g1 (sym (roll-out-Expr y) ∙ h))) refl

expr_no_Tuple : (p : Expr-F Expr Primary Term FromItem Joined Query Select) → ((f0 : List Expr) (f1 : ℕ) → roll-Expr p ≡ v.Tuple f0 f1 → ⊥) → nat_eq (expr_kind p) 32 ≡ true → ⊥
expr_no_Tuple (ast.Tuple f0 f1) lacks h = lacks f0 f1 (ap roll-Expr (sym (v.outs-Tuple f0 f1)) ∙ roll-out-Expr (v.Tuple f0 f1))
expr_no_Tuple _ lacks h = never h

pub expr_only_Tuple : (x y : Expr) (f0 : List Expr) (f1 : ℕ) → x ≡ v.Tuple f0 f1 → ((g0 : List Expr) (g1 : ℕ) → y ≡ v.Tuple g0 g1 → ⊥) → (IsTrue false ↔ (BareExpr lower x ≡ BareExpr lower y))
expr_only_Tuple x y f0 f1 e lacks =
    expr_apart x y 32 (ap (λ z. expr_kind (out-Expr z)) e ∙ ap expr_kind (v.outs-Tuple f0 f1)) (expr_no_Tuple (out-Expr y) (λ g0 g1 h. lacks g0 g1 (sym (roll-out-Expr y) ∙ h))) refl

expr_no_Case : (p : Expr-F Expr Primary Term FromItem Joined Query Select) → ((f0 : Option Expr) (f1 : List (When Expr)) (f2 : Option Expr) (f3 : ℕ) → roll-Expr p ≡ v.Case f0 f1 f2 f3 → ⊥) → nat_eq (expr_kind p) 33 ≡ true → ⊥
expr_no_Case (ast.Case f0 f1 f2 f3) lacks h = lacks f0 f1 f2 f3 (ap roll-Expr (sym (v.outs-Case f0 f1 f2 f3)) ∙ roll-out-Expr (v.Case f0 f1 f2 f3))
expr_no_Case _ lacks h = never h

pub expr_only_Case : (x y : Expr) (f0 : Option Expr) (f1 : List (When Expr)) (f2 : Option Expr) (f3 : ℕ) → x ≡ v.Case f0 f1 f2 f3 → ((g0 : Option Expr) (g1 : List (When Expr)) (g2 : Option Expr) (g3 : ℕ) → y ≡ v.Case g0 g1 g2 g3 → ⊥) → (IsTrue false ↔ (BareExpr lower x ≡ BareExpr lower y))
expr_only_Case x y f0 f1 f2 f3 e lacks =
    expr_apart x y 33 (ap (λ z. expr_kind (out-Expr z)) e ∙ ap expr_kind (v.outs-Case f0 f1 f2 f3)) (expr_no_Case (out-Expr y) (λ g0 g1 g2 g3 h. lacks g0 g1 g2 g3 (sym (roll-out-Expr y) ∙ h))) refl

expr_no_Cast : (p : Expr-F Expr Primary Term FromItem Joined Query Select) → ((f0 : Bool) (f1 : Expr) (f2 : TypeSpelling) (f3 : ℕ) → roll-Expr p ≡ v.Cast f0 f1 f2 f3 → ⊥) → nat_eq (expr_kind p) 34 ≡ true → ⊥
expr_no_Cast (ast.Cast f0 f1 f2 f3) lacks h = lacks f0 f1 f2 f3 (ap roll-Expr (sym (v.outs-Cast f0 f1 f2 f3)) ∙ roll-out-Expr (v.Cast f0 f1 f2 f3))
expr_no_Cast _ lacks h = never h

pub expr_only_Cast : (x y : Expr) (f0 : Bool) (f1 : Expr) (f2 : TypeSpelling) (f3 : ℕ) → x ≡ v.Cast f0 f1 f2 f3 → ((g0 : Bool) (g1 : Expr) (g2 : TypeSpelling) (g3 : ℕ) → y ≡ v.Cast g0 g1 g2 g3 → ⊥) → (IsTrue false ↔ (BareExpr lower x ≡ BareExpr lower y))
expr_only_Cast x y f0 f1 f2 f3 e lacks =
    expr_apart x y 34 (ap (λ z. expr_kind (out-Expr z)) e ∙ ap expr_kind (v.outs-Cast f0 f1 f2 f3)) (expr_no_Cast (out-Expr y) (λ g0 g1 g2 g3 h. lacks g0 g1 g2 g3 (sym (roll-out-Expr y) ∙ h))) refl

expr_no_Extract : (p : Expr-F Expr Primary Term FromItem Joined Query Select) → ((f0 : Name) (f1 : Expr) (f2 : ℕ) → roll-Expr p ≡ v.Extract f0 f1 f2 → ⊥) → nat_eq (expr_kind p) 35 ≡ true → ⊥
expr_no_Extract (ast.Extract f0 f1 f2) lacks h = lacks f0 f1 f2 (ap roll-Expr (sym (v.outs-Extract f0 f1 f2)) ∙ roll-out-Expr (v.Extract f0 f1 f2))
expr_no_Extract _ lacks h = never h

pub expr_only_Extract : (x y : Expr) (f0 : Name) (f1 : Expr) (f2 : ℕ) → x ≡ v.Extract f0 f1 f2 → ((g0 : Name) (g1 : Expr) (g2 : ℕ) → y ≡ v.Extract g0 g1 g2 → ⊥) → (IsTrue false ↔ (BareExpr lower x ≡ BareExpr lower y))
expr_only_Extract x y f0 f1 f2 e lacks =
    expr_apart x y 35 (ap (λ z. expr_kind (out-Expr z)) e ∙ ap expr_kind (v.outs-Extract f0 f1 f2)) (expr_no_Extract (out-Expr y) (λ g0 g1 g2 h. lacks g0 g1 g2 (sym (roll-out-Expr y) ∙ h))) refl

expr_no_Grouping : (p : Expr-F Expr Primary Term FromItem Joined Query Select) → ((f0 : Expr) (f1 : ℕ) → roll-Expr p ≡ v.Grouping f0 f1 → ⊥) → nat_eq (expr_kind p) 36 ≡ true → ⊥
expr_no_Grouping (ast.Grouping f0 f1) lacks h = lacks f0 f1 (ap roll-Expr (sym (v.outs-Grouping f0 f1)) ∙ roll-out-Expr (v.Grouping f0 f1))
expr_no_Grouping _ lacks h = never h

pub expr_only_Grouping : (x y : Expr) (f0 : Expr) (f1 : ℕ) → x ≡ v.Grouping f0 f1 → ((g0 : Expr) (g1 : ℕ) → y ≡ v.Grouping g0 g1 → ⊥) → (IsTrue false ↔ (BareExpr lower x ≡ BareExpr lower y))
expr_only_Grouping x y f0 f1 e lacks =
    expr_apart x y 36 (ap (λ z. expr_kind (out-Expr z)) e ∙ ap expr_kind (v.outs-Grouping f0 f1)) (expr_no_Grouping (out-Expr y) (λ g0 g1 h. lacks g0 g1 (sym (roll-out-Expr y) ∙ h))) refl

expr_no_Exists : (p : Expr-F Expr Primary Term FromItem Joined Query Select) → ((f0 : Query) (f1 : ℕ) → roll-Expr p ≡ v.Exists f0 f1 → ⊥) → nat_eq (expr_kind p) 37 ≡ true → ⊥
expr_no_Exists (ast.Exists f0 f1) lacks h = lacks f0 f1 (ap roll-Expr (sym (v.outs-Exists f0 f1)) ∙ roll-out-Expr (v.Exists f0 f1))
expr_no_Exists _ lacks h = never h

pub expr_only_Exists : (x y : Expr) (f0 : Query) (f1 : ℕ) → x ≡ v.Exists f0 f1 → ((g0 : Query) (g1 : ℕ) → y ≡ v.Exists g0 g1 → ⊥) → (IsTrue false ↔ (BareExpr lower x ≡ BareExpr lower y))
expr_only_Exists x y f0 f1 e lacks =
    expr_apart x y 37 (ap (λ z. expr_kind (out-Expr z)) e ∙ ap expr_kind (v.outs-Exists f0 f1)) (expr_no_Exists (out-Expr y) (λ g0 g1 h. lacks g0 g1 (sym (roll-out-Expr y) ∙ h))) refl

expr_no_ArrayQuery : (p : Expr-F Expr Primary Term FromItem Joined Query Select) → ((f0 : Query) (f1 : ℕ) (f2 : ℕ) → roll-Expr p ≡ v.ArrayQuery f0 f1 f2 → ⊥) → nat_eq (expr_kind p) 38 ≡ true → ⊥
expr_no_ArrayQuery (ast.ArrayQuery f0 f1 f2) lacks h = lacks f0 f1 f2 (ap roll-Expr (sym (v.outs-ArrayQuery f0 f1 f2)) ∙ roll-out-Expr (v.ArrayQuery f0 f1 f2))
expr_no_ArrayQuery _ lacks h = never h

pub expr_only_ArrayQuery : (x y : Expr) (f0 : Query) (f1 : ℕ) (f2 : ℕ) → x ≡ v.ArrayQuery f0 f1 f2 → ((g0 : Query) (g1 : ℕ) (g2 : ℕ) → y ≡ v.ArrayQuery g0 g1 g2 → ⊥) → (IsTrue false ↔ (BareExpr lower x ≡ BareExpr lower y))
expr_only_ArrayQuery x y f0 f1 f2 e lacks =
    expr_apart x y 38 (ap (λ z. expr_kind (out-Expr z)) e ∙ ap expr_kind (v.outs-ArrayQuery f0 f1 f2)) (expr_no_ArrayQuery (out-Expr y) (λ g0 g1 g2 h. lacks g0 g1 g2 (sym (roll-out-Expr y) ∙ h))) refl

expr_no_Array : (p : Expr-F Expr Primary Term FromItem Joined Query Select) → ((f0 : Option TypeSpelling) (f1 : List Expr) (f2 : ℕ) (f3 : ℕ) → roll-Expr p ≡ v.Array f0 f1 f2 f3 → ⊥) → nat_eq (expr_kind p) 39 ≡ true → ⊥
expr_no_Array (ast.Array f0 f1 f2 f3) lacks h = lacks f0 f1 f2 f3 (ap roll-Expr (sym (v.outs-Array f0 f1 f2 f3)) ∙ roll-out-Expr (v.Array f0 f1 f2 f3))
expr_no_Array _ lacks h = never h

pub expr_only_Array : (x y : Expr) (f0 : Option TypeSpelling) (f1 : List Expr) (f2 : ℕ) (f3 : ℕ) → x ≡ v.Array f0 f1 f2 f3 → ((g0 : Option TypeSpelling) (g1 : List Expr) (g2 : ℕ) (g3 : ℕ) → y ≡ v.Array g0 g1 g2 g3 → ⊥) → (IsTrue false ↔ (BareExpr lower x ≡ BareExpr lower y))
expr_only_Array x y f0 f1 f2 f3 e lacks =
    expr_apart x y 39 (ap (λ z. expr_kind (out-Expr z)) e ∙ ap expr_kind (v.outs-Array f0 f1 f2 f3)) (expr_no_Array (out-Expr y) (λ g0 g1 g2 g3 h. lacks g0 g1 g2 g3 (sym (roll-out-Expr y) ∙ h))) refl

expr_no_Struct : (p : Expr-F Expr Primary Term FromItem Joined Query Select) → ((f0 : List (Aliased Expr)) (f1 : ℕ) → roll-Expr p ≡ v.Struct f0 f1 → ⊥) → nat_eq (expr_kind p) 40 ≡ true → ⊥
expr_no_Struct (ast.Struct f0 f1) lacks h = lacks f0 f1 (ap roll-Expr (sym (v.outs-Struct f0 f1)) ∙ roll-out-Expr (v.Struct f0 f1))
expr_no_Struct _ lacks h = never h

pub expr_only_Struct : (x y : Expr) (f0 : List (Aliased Expr)) (f1 : ℕ) → x ≡ v.Struct f0 f1 → ((g0 : List (Aliased Expr)) (g1 : ℕ) → y ≡ v.Struct g0 g1 → ⊥) → (IsTrue false ↔ (BareExpr lower x ≡ BareExpr lower y))
expr_only_Struct x y f0 f1 e lacks =
    expr_apart x y 40 (ap (λ z. expr_kind (out-Expr z)) e ∙ ap expr_kind (v.outs-Struct f0 f1)) (expr_no_Struct (out-Expr y) (λ g0 g1 h. lacks g0 g1 (sym (roll-out-Expr y) ∙ h))) refl

expr_no_TypedStruct : (p : Expr-F Expr Primary Term FromItem Joined Query Select) → ((f0 : List (TypeField TypeSpelling)) (f1 : List Expr) (f2 : ℕ) (f3 : ℕ) → roll-Expr p ≡ v.TypedStruct f0 f1 f2 f3 → ⊥) → nat_eq (expr_kind p) 41 ≡ true → ⊥
expr_no_TypedStruct (ast.TypedStruct f0 f1 f2 f3) lacks h = lacks f0 f1 f2 f3 (ap roll-Expr (sym (v.outs-TypedStruct f0 f1 f2 f3)) ∙ roll-out-Expr (v.TypedStruct f0 f1 f2 f3))
expr_no_TypedStruct _ lacks h = never h

pub expr_only_TypedStruct : (x y : Expr) (f0 : List (TypeField TypeSpelling)) (f1 : List Expr) (f2 : ℕ) (f3 : ℕ) → x ≡ v.TypedStruct f0 f1 f2 f3 → ((g0 : List (TypeField TypeSpelling)) (g1 : List Expr) (g2 : ℕ) (g3 : ℕ) → y ≡ v.TypedStruct g0 g1 g2 g3 → ⊥) → (IsTrue false ↔ (BareExpr lower x ≡ BareExpr lower y))
expr_only_TypedStruct x y f0 f1 f2 f3 e lacks =
    expr_apart x y 41 (ap (λ z. expr_kind (out-Expr z)) e ∙ ap expr_kind (v.outs-TypedStruct f0 f1 f2 f3)) (expr_no_TypedStruct (out-Expr y) (λ g0 g1 g2 g3 h. lacks g0 g1 g2 g3 (sym (roll-out-Expr y) ∙ h))) refl

expr_no_With : (p : Expr-F Expr Primary Term FromItem Joined Query Select) → ((f0 : List (Binding Expr)) (f1 : Expr) (f2 : ℕ) → roll-Expr p ≡ v.With f0 f1 f2 → ⊥) → nat_eq (expr_kind p) 42 ≡ true → ⊥
expr_no_With (ast.With f0 f1 f2) lacks h = lacks f0 f1 f2 (ap roll-Expr (sym (v.outs-With f0 f1 f2)) ∙ roll-out-Expr (v.With f0 f1 f2))
expr_no_With _ lacks h = never h

pub expr_only_With : (x y : Expr) (f0 : List (Binding Expr)) (f1 : Expr) (f2 : ℕ) → x ≡ v.With f0 f1 f2 → ((g0 : List (Binding Expr)) (g1 : Expr) (g2 : ℕ) → y ≡ v.With g0 g1 g2 → ⊥) → (IsTrue false ↔ (BareExpr lower x ≡ BareExpr lower y))
expr_only_With x y f0 f1 f2 e lacks =
    expr_apart x y 42 (ap (λ z. expr_kind (out-Expr z)) e ∙ ap expr_kind (v.outs-With f0 f1 f2)) (expr_no_With (out-Expr y) (λ g0 g1 g2 h. lacks g0 g1 g2 (sym (roll-out-Expr y) ∙ h))) refl
