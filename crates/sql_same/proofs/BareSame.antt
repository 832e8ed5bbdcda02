-- Two trees are the same, places aside, where what they are made of is.
use Rattle.std.proofs.Common.{◌≡◌, sym, ◌∙◌, ap}
use Rattle.sql_ast.specs.declared.expr.Expr.{Expr, roll-Expr, out-Expr, roll-out-Expr}
use Rattle.sql_ast.specs.declared.query.Primary.{Primary, roll-Primary, out-Primary, roll-out-Primary}
use Rattle.sql_ast.specs.declared.query.Term.{Term, roll-Term, out-Term, roll-out-Term}
use Rattle.sql_ast.specs.declared.query.FromItem.{FromItem, roll-FromItem, out-FromItem, roll-out-FromItem}
use Rattle.sql_ast.specs.declared.query.Joined.{Joined, roll-Joined, out-Joined, roll-out-Joined}
use Rattle.sql_ast.specs.declared.query.Query.{Query, roll-Query, out-Query, roll-out-Query}
use Rattle.sql_ast.specs.declared.query.Select.{Select, roll-Select, out-Select, roll-out-Select}
use Rattle.sql_ast.specs.declared.expr.Expr.TheOpen.{Expr-F, Primary-F, Term-F, FromItem-F, Joined-F, Query-F, Select-F}
use Rattle.sql_ast.specs.declared.type_spelling.TypeSpelling.{TypeSpelling, roll-TypeSpelling, out-TypeSpelling, roll-out-TypeSpelling}
use Rattle.sql_ast.specs.declared.type_spelling.TypeSpelling.TheOpen.{TypeSpelling-F}
use Rattle.sql_same.specs.Bare.{Spell, BareType, BareExpr, BarePrimary, BareTerm, BareFrom, BareJoined, BareQuery, BareSelect}
use Rattle.sql_same.proofs.BareLaws.{type_at, bare_type, expr_at, bare_expr, primary_at, bare_primary, term_at, bare_term, from_at, bare_from, joined_at, bare_joined, query_at, bare_query, select_at, bare_select}

outs_type : (x y : TypeSpelling) → out-TypeSpelling x ≡ out-TypeSpelling y → x ≡ y
outs_type x y e = sym (roll-out-TypeSpelling x) ∙ ap roll-TypeSpelling e ∙ roll-out-TypeSpelling y

pub same_type : (s : Spell) (x y : TypeSpelling) (p q : TypeSpelling-F TypeSpelling) → out-TypeSpelling x ≡ p → out-TypeSpelling y ≡ q → type_at s p ≡ type_at s q → BareType s x ≡ BareType s y
same_type s x y p q ex ey e = outs_type (BareType s x) (BareType s y) (bare_type s x ∙ ap (type_at s) ex ∙ e ∙ sym (bare_type s y ∙ ap (type_at s) ey))

outs_expr : (x y : Expr) → out-Expr x ≡ out-Expr y → x ≡ y
outs_expr x y e = sym (roll-out-Expr x) ∙ ap roll-Expr e ∙ roll-out-Expr y

pub same_expr : (s : Spell) (x y : Expr) (p q : Expr-F Expr Primary Term FromItem Joined Query Select) → out-Expr x ≡ p → out-Expr y ≡ q → expr_at s p ≡ expr_at s q → BareExpr s x ≡ BareExpr s y
same_expr s x y p q ex ey e = outs_expr (BareExpr s x) (BareExpr s y) (bare_expr s x ∙ ap (expr_at s) ex ∙ e ∙ sym (bare_expr s y ∙ ap (expr_at s) ey))

outs_primary : (x y : Primary) → out-Primary x ≡ out-Primary y → x ≡ y
outs_primary x y e = sym (roll-out-Primary x) ∙ ap roll-Primary e ∙ roll-out-Primary y

pub same_primary : (s : Spell) (x y : Primary) (p q : Primary-F Expr Primary Term FromItem Joined Query Select) → out-Primary x ≡ p → out-Primary y ≡ q → primary_at s p ≡ primary_at s q → BarePrimary s x ≡ BarePrimary s y
same_primary s x y p q ex ey e = outs_primary (BarePrimary s x) (BarePrimary s y) (bare_primary s x ∙ ap (primary_at s) ex ∙ e ∙ sym (bare_primary s y ∙ ap (primary_at s) ey))

outs_term : (x y : Term) → out-Term x ≡ out-Term y → x ≡ y
outs_term x y e = sym (roll-out-Term x) ∙ ap roll-Term e ∙ roll-out-Term y

pub same_term : (s : Spell) (x y : Term) (p q : Term-F Expr Primary Term FromItem Joined Query Select) → out-Term x ≡ p → out-Term y ≡ q → term_at s p ≡ term_at s q → BareTerm s x ≡ BareTerm s y
same_term s x y p q ex ey e = outs_term (BareTerm s x) (BareTerm s y) (bare_term s x ∙ ap (term_at s) ex ∙ e ∙ sym (bare_term s y ∙ ap (term_at s) ey))

outs_from : (x y : FromItem) → out-FromItem x ≡ out-FromItem y → x ≡ y
outs_from x y e = sym (roll-out-FromItem x) ∙ ap roll-FromItem e ∙ roll-out-FromItem y

pub same_from : (s : Spell) (x y : FromItem) (p q : FromItem-F Expr Primary Term FromItem Joined Query Select) → out-FromItem x ≡ p → out-FromItem y ≡ q → from_at s p ≡ from_at s q → BareFrom s x ≡ BareFrom s y
same_from s x y p q ex ey e = outs_from (BareFrom s x) (BareFrom s y) (bare_from s x ∙ ap (from_at s) ex ∙ e ∙ sym (bare_from s y ∙ ap (from_at s) ey))

outs_joined : (x y : Joined) → out-Joined x ≡ out-Joined y → x ≡ y
outs_joined x y e = sym (roll-out-Joined x) ∙ ap roll-Joined e ∙ roll-out-Joined y

pub same_joined : (s : Spell) (x y : Joined) (p q : Joined-F Expr Primary Term FromItem Joined Query Select) → out-Joined x ≡ p → out-Joined y ≡ q → joined_at s p ≡ joined_at s q → BareJoined s x ≡ BareJoined s y
same_joined s x y p q ex ey e = outs_joined (BareJoined s x) (BareJoined s y) (bare_joined s x ∙ ap (joined_at s) ex ∙ e ∙ sym (bare_joined s y ∙ ap (joined_at s) ey))

outs_query : (x y : Query) → out-Query x ≡ out-Query y → x ≡ y
outs_query x y e = sym (roll-out-Query x) ∙ ap roll-Query e ∙ roll-out-Query y

pub same_query : (s : Spell) (x y : Query) (p q : Query-F Expr Primary Term FromItem Joined Query Select) → out-Query x ≡ p → out-Query y ≡ q → query_at s p ≡ query_at s q → BareQuery s x ≡ BareQuery s y
same_query s x y p q ex ey e = outs_query (BareQuery s x) (BareQuery s y) (bare_query s x ∙ ap (query_at s) ex ∙ e ∙ sym (bare_query s y ∙ ap (query_at s) ey))

outs_select : (x y : Select) → out-Select x ≡ out-Select y → x ≡ y
outs_select x y e = sym (roll-out-Select x) ∙ ap roll-Select e ∙ roll-out-Select y

pub same_select : (s : Spell) (x y : Select) (p q : Select-F Expr Primary Term FromItem Joined Query Select) → out-Select x ≡ p → out-Select y ≡ q → select_at s p ≡ select_at s q → BareSelect s x ≡ BareSelect s y
same_select s x y p q ex ey e = outs_select (BareSelect s x) (BareSelect s y) (bare_select s x ∙ ap (select_at s) ex ∙ e ∙ sym (bare_select s y ∙ ap (select_at s) ey))
