-- Expressions of the first form: names, literals, and a comparison of both.
use Rattle.std.proofs.Common.{◌≡◌, ℕ, Bool, true, false, ◌&&◌, List, [], ◌∷◌, Some, None, Ok, Err, refl, sym, ap, ◌∙◌, subst}
use Rattle.std.specs.Prelude.{slice_get, slice_index_or, if◌then◌else◌}
use Rattle.sql_types.specs.declared.sql_type.Named.{Named}
use Rattle.sql_types.specs.declared.sql_type.SqlType.{SqlType, out-SqlType}
use Rattle.sql_types.specs.declared.sql_type.SqlType.TheVariants as ty
use Rattle.sql_types.specs.declared.sql_type.SqlType.TheViews.{outs-Bool}
use Rattle.sql_types.specs.declared.sql_type.SqlType.TheOpen as t
use Rattle.sql_types.specs.declared.value.Value.{Value}
use Rattle.sql_types.specs.declared.value.Value.TheVariants as value
use Rattle.sql_types.specs.declared.value.Value.TheVariants.{Null}
use Rattle.sql_types.specs.Fits.{fits_row}
use Rattle.sql_types.specs.Same.{equal}
use Rattle.sql_types.specs.Outcome.{Outcome, Meaning, goes_on, all_give}
use Rattle.sql_ast.specs.declared.clauses.Item.{Item}
use Rattle.sql_ast.specs.declared.clauses.Item.TheVariants as item
use Rattle.sql_ast.specs.declared.expr.Comparison.{Comparison}
use Rattle.sql_ast.specs.declared.expr.Comparison.TheVariants as comparison
use Rattle.sql_ast.specs.declared.expr.Expr.{Expr, out-Expr}
use Rattle.sql_ast.specs.declared.expr.Expr.TheOpen as ast
use Rattle.sql_ast.specs.declared.expr.Expr.TheOpen.{Expr-F}
use Rattle.sql_ast.specs.declared.query.Primary.{Primary}
use Rattle.sql_ast.specs.declared.query.Term.{Term}
use Rattle.sql_ast.specs.declared.query.FromItem.{FromItem}
use Rattle.sql_ast.specs.declared.query.Joined.{Joined}
use Rattle.sql_ast.specs.declared.query.Query.{Query}
use Rattle.sql_ast.specs.declared.query.Select.{Select}
use Rattle.sql_coerce.specs.declared.arg.Arg.{Arg}
use Rattle.sql_coerce.specs.declared.arg.Kind.TheVariants as kind
use Rattle.sql_catalog.specs.declared.entries.Entries.{Entries}
use Rattle.sql_catalog.specs.declared.entries.TableDef.{TableDef}
use Rattle.sql_rules.specs.Tables.{Tables}
use Rattle.sql_rules.specs.Typing.{Checked, Sight, ◌>>=◌, broken, other, integer_type, integer_value, same_scalar, equal_type, compare_type, is_bool, condition, place_of, is_name, is_literal, compares_name, if_built, implied_name, item_column, expr_layer, item_layer, filter_layer, typed, TypeExpr}
use Rattle.sql_rules.specs.Meaning.{Env, truth, expr_means, meant, MeansExpr}
use Rattle.sql_rules.proofs.TypingLaws.{typed-expr}
use Rattle.sql_rules.proofs.MeaningLaws.{meant-expr}
use Rattle.small_run.specs.declared.parts.Literal.{Literal}
use Rattle.small_run.specs.declared.parts.Test.{Test}
use Rattle.small_run.specs.declared.parts.Picked.{Picked}
use Rattle.small_run.specs.Plans.{one}
use Rattle.small_run.specs.Parts.{Refused, sight_of, env_of, IsColumn, NamesColumn, IsLiteral, Tests, Picks, is_plain}
use Rattle.small_run.proofs.Rows.{one_of_each, fits_at}
use Rattle.small_run.proofs.Names.{column_type, column_reads}

-- an expression, seen as its form
abbrev pub Form : Type 0
Form = Expr-F Expr Primary Term FromItem Joined Query Select

-- ---- an expression is typed, and means, what its form says

pub types_by : (catalog : Entries) (e : Expr) (x : Form) (sight : Sight) → out-Expr e ≡ x → TypeExpr catalog e sight ≡ expr_layer catalog (typed catalog) x sight
types_by catalog e x sight is = ap (λ (k : Sight → Checked Arg). k sight) (typed-expr catalog e) ∙ ap (λ (y : Form). expr_layer catalog (typed catalog) y sight) is

pub means_by : (catalog : Entries) (tables : Tables) (e : Expr) (x : Form) (env : Env) (o : Outcome Value) → out-Expr e ≡ x → expr_means catalog tables (meant catalog tables) x env o → MeansExpr catalog tables e env o
means_by catalog tables e x env o is holds =
    subst (λ (m : Env → Meaning Value). m env o) (sym (meant-expr catalog tables e)) (subst (λ (y : Form). expr_means catalog tables (meant catalog tables) y env o) (sym is) holds)

-- ---- literals

pub integer_literal : (e : Expr) (n place : ℕ) (l : Literal) → out-Expr e ≡ ast.Integer n place → l ≡ record { ty = integer_type n; value = integer_value n } → IsLiteral e l
integer_literal e n place l is same =
    subst (λ (l : Literal). IsLiteral e l) (sym same)
    (record {
      is = ap is_literal is;
      checked = λ catalog sight. types_by catalog e (ast.Integer n place) sight is;
      means = λ catalog tables env. means_by catalog tables e (ast.Integer n place) env (Ok (integer_value n)) is refl;
    })

pub text_literal : (e : Expr) (text : List ℕ) (place : ℕ) (l : Literal) → out-Expr e ≡ ast.Text text place → l ≡ record { ty = ty.Text; value = value.Text text } → IsLiteral e l
text_literal e text place l is same =
    subst (λ (l : Literal). IsLiteral e l) (sym same)
    (record {
      is = ap is_literal is;
      checked = λ catalog sight. types_by catalog e (ast.Text text place) sight is;
      means = λ catalog tables env. means_by catalog tables e (ast.Text text place) env (Ok (value.Text text)) is refl;
    })

-- ---- names

module _ (t : TableDef) (e : Expr) (name : List ℕ) (place : ℕ) (is : out-Expr e ≡ ast.Name name place) where
  pub name_types : (slot : ℕ) (c : Named SqlType) → IsColumn t name slot → slice_get t.columns slot ≡ Some c → TypeExpr (one t) e (sight_of t) ≡ other c.ty
  name_types slot c column at = types_by (one t) e (ast.Name name place) (sight_of t) is ∙ column_type t name slot column place c at

  pub name_means : (slot : ℕ) → IsColumn t name slot → (tables : Tables) (row : List Value) → fits_row t.columns row ≡ true → MeansExpr (one t) tables e (env_of t row) (Ok (slice_index_or row slot Null))
  name_means slot column tables row fit = means_by (one t) tables e (ast.Name name place) (env_of t row) (Ok (slice_index_or row slot Null)) is (column_reads t name slot column row fit)

  pub name_refused : NamesColumn t name None → Refused (TypeExpr (one t) e (sight_of t))
  name_refused none = let b = none place in (b.0, types_by (one t) e (ast.Name name place) (sight_of t) is ∙ b.1)

-- ---- what is refused first is refused

pub refused_then : {A B : Type 0} (first : Checked A) (next : A → Checked B) → Refused first → Refused (first >>= next)
refused_then first next b = (b.0, ap (λ (c : Checked _). c >>= next) b.1)

pub built_refused : {A : Type 0} (b : Bool) (checked : Checked A) → Refused checked → Refused (if_built b checked)
built_refused true checked r = r
built_refused false checked r = ((2, 0), refl)

pub unbuilt_refused : {A : Type 0} (b : Bool) (checked : Checked A) → b ≡ false → Refused (if_built b checked)
unbuilt_refused true checked h = absurd cc
unbuilt_refused false checked h = ((2, 0), refl)

-- ---- a select item

-- what an expression of a form is typed as, as a select item
item_by : TableDef → Expr → Form → Checked (Named SqlType)
item_by t e x = if_built (is_name x) (TypeExpr (one t) e (sight_of t) >>= (λ a. item_column (implied_name x) a.ty))

pub picks_column : (t : TableDef) (i : Item Expr) (e : Expr) (item_place : ℕ) (name : List ℕ) (place slot : ℕ) (c : Named SqlType) (p : Picked) →
    i ≡ item.Expr e None item_place → out-Expr e ≡ ast.Name name place → IsColumn t name slot → slice_get t.columns slot ≡ Some c →
    p ≡ record { column = record { name = Some name; ty = c.ty }; slot = slot } → Picks t i p
unfolding item_by
picks_column t i e item_place name place slot c p plain is column at same =
    subst (λ (p : Picked). Picks t i p) (sym same) (subst (λ (i : Item Expr). Picks t i (record { column = record { name = Some name; ty = c.ty }; slot = slot })) (sym plain)
    (record {
      checked =
          ap (item_by t e) is ∙ ap (λ (a : Checked Arg). a >>= (λ a. item_column (Some name) a.ty)) (name_types t e name place is slot c column at);
      means = λ tables row fit. name_means t e name place is slot column tables row fit;
      fits = λ row fit. fits_at t.columns row slot c at fit;
    }))

module _ (t : TableDef) (i : Item Expr) (e : Expr) (item_place : ℕ) (plain : i ≡ item.Expr e None item_place) where
  pub item_unnamed : is_name (out-Expr e) ≡ false → Refused (item_layer (one t) (typed (one t)) i (sight_of t))
  item_unnamed is = subst (λ (i : Item Expr). Refused (item_layer (one t) (typed (one t)) i (sight_of t))) (sym plain) (unbuilt_refused _ _ is)

  pub item_no_column : (name : List ℕ) (place : ℕ) → out-Expr e ≡ ast.Name name place → NamesColumn t name None → Refused (item_layer (one t) (typed (one t)) i (sight_of t))
  item_no_column name place is none =
      subst (λ (i : Item Expr). Refused (item_layer (one t) (typed (one t)) i (sight_of t))) (sym plain)
      (built_refused (is_name (out-Expr e)) _ (refused_then (TypeExpr (one t) e (sight_of t)) (λ a. item_column (implied_name (out-Expr e)) a.ty) (name_refused t e name place is none)))

pub item_not_plain : (t : TableDef) (i : Item Expr) → is_plain i ≡ false → Refused (item_layer (one t) (typed (one t)) i (sight_of t))
item_not_plain t (item.Expr e None place) h = absurd cc
item_not_plain t (item.Expr e (Some alias) place) h = ((2, 0), refl)
item_not_plain t (item.Star edit place) h = ((2, 0), refl)
item_not_plain t (item.QualifiedStar e edit place) h = ((2, 0), refl)

-- ---- WHERE

pub then_refused : {A B : Type 0} (first : Checked A) (next : A → Checked B) → ((x : A) → Refused (next x)) → Refused (first >>= next)
then_refused (Ok x) next b = b x
then_refused (Err e) next b = (e, refl)

left_fails : (a b : Bool) → a ≡ false → (a && b) ≡ false
left_fails true b h = absurd cc
left_fails false b h = refl

right_fails : (a b : Bool) → b ≡ false → (a && b) ≡ false
right_fails true b h = h
right_fails false b h = refl

-- what a form is typed as, as a condition
abbrev condition_by : TableDef → ℕ → Form → Checked (Unit {0})
condition_by t place x = if_built (compares_name x) (expr_layer (one t) (typed (one t)) x (sight_of t) >>= condition place)

pub condition_unbuilt : (t : TableDef) (e : Expr) → compares_name (out-Expr e) ≡ false → Refused (filter_layer (one t) (typed (one t)) e (sight_of t))
condition_unbuilt t e h = unbuilt_refused _ _ h

module _ (t : TableDef) (e left right : Expr) (operator : Comparison) (operator_place place : ℕ) (is : out-Expr e ≡ ast.Compare left operator operator_place right place) where
  abbrev form : Form
  form = ast.Compare left operator operator_place right place

  condition_is : filter_layer (one t) (typed (one t)) e (sight_of t) ≡ condition_by t place form
  condition_is =
      ap (λ (c : Checked Arg). if_built (compares_name (out-Expr e)) (c >>= condition (place_of (out-Expr e)))) (types_by (one t) e (out-Expr e) (sight_of t) refl)
      ∙ ap (λ (x : Form). if_built (compares_name x) (expr_layer (one t) (typed (one t)) x (sight_of t) >>= condition (place_of x))) is

  -- it is refused as its form is
  by_form : Refused (condition_by t place form) → Refused (filter_layer (one t) (typed (one t)) e (sight_of t))
  by_form b = (b.0, condition_is ∙ b.1)

  pub left_unnamed : is_name (out-Expr left) ≡ false → Refused (filter_layer (one t) (typed (one t)) e (sight_of t))
  left_unnamed h = by_form (unbuilt_refused (is_name (out-Expr left) && is_literal (out-Expr right)) _ (left_fails _ _ h))

  pub right_no_literal : is_literal (out-Expr right) ≡ false → Refused (filter_layer (one t) (typed (one t)) e (sight_of t))
  right_no_literal h = by_form (unbuilt_refused (is_name (out-Expr left) && is_literal (out-Expr right)) _ (right_fails _ _ h))

  pub left_refused : Refused (TypeExpr (one t) left (sight_of t)) → Refused (filter_layer (one t) (typed (one t)) e (sight_of t))
  left_refused b =
      by_form (built_refused (compares_name form) _ (refused_then (expr_layer (one t) (typed (one t)) form (sight_of t)) (condition place)
      (refused_then (TypeExpr (one t) left (sight_of t)) (λ a. TypeExpr (one t) right (sight_of t) >>= (λ b. compare_type operator operator_place a b)) b)))

  pub unlike_refused : ((a b : Arg) → Refused (compare_type operator operator_place a b)) → Refused (filter_layer (one t) (typed (one t)) e (sight_of t))
  unlike_refused b =
      by_form (built_refused (compares_name form) _ (refused_then (expr_layer (one t) (typed (one t)) form (sight_of t)) (condition place)
      (then_refused (TypeExpr (one t) left (sight_of t)) _ (λ x. then_refused (TypeExpr (one t) right (sight_of t)) _ (λ y. b x y)))))

no_other : (operator : Comparison) (place : ℕ) (a b : Arg) → (operator ≡ comparison.Equal → ⊥) → Refused (compare_type operator place a b)
no_other comparison.Equal place a b h = absurd (h refl)
no_other comparison.NotEqual place a b h = ((2, 0), refl)
no_other comparison.Less place a b h = ((2, 0), refl)
no_other comparison.LessEqual place a b h = ((2, 0), refl)
no_other comparison.Greater place a b h = ((2, 0), refl)
no_other comparison.GreaterEqual place a b h = ((2, 0), refl)

-- no other comparison is built
pub other_operator : (t : TableDef) (left right : Expr) (operator : Comparison) → (operator ≡ comparison.Equal → ⊥) → (e : Expr) (operator_place place : ℕ) →
    out-Expr e ≡ ast.Compare left operator operator_place right place → Refused (filter_layer (one t) (typed (one t)) e (sight_of t))
other_operator t left right operator apart e operator_place place is = unlike_refused t e left right operator operator_place place is (λ a b. no_other operator operator_place a b apart)

abbrev truth_of : t.SqlType-F SqlType → Bool
truth_of t.Bool = true
truth_of _ = false

bool_is_bool : is_bool (Some ty.Bool) ≡ true
bool_is_bool = ap truth_of outs-Bool

-- a column of the table equals a literal of its type
module _ (t : TableDef) (left right : Expr) (name : List ℕ) (name_place slot : ℕ) (c : Named SqlType) (l : Literal) (named : out-Expr left ≡ ast.Name name name_place) (column : IsColumn t name slot)
    (at : slice_get t.columns slot ≡ Some c) (lit : IsLiteral right l) (e : Expr) (operator_place place : ℕ) (is : out-Expr e ≡ ast.Compare left comparison.Equal operator_place right place) where
  -- the condition is typed as the equation of its operands' types
  equation_is : filter_layer (one t) (typed (one t)) e (sight_of t) ≡ ((if same_scalar (out-SqlType c.ty) (out-SqlType l.ty) then other ty.Bool else broken 9 operator_place) >>= condition place)
  equation_is =
      condition_is t e left right comparison.Equal operator_place place is
      ∙ ap (λ (b : Bool). if_built b (expr_layer (one t) (typed (one t)) (ast.Compare left comparison.Equal operator_place right place) (sight_of t) >>= condition place))
      (one_of_each (is_name (out-Expr left)) (is_literal (out-Expr right)) (ap is_name named) lit.is)
      ∙ ap (λ (a : Checked Arg). (a >>= (λ a. TypeExpr (one t) right (sight_of t) >>= (λ b. equal_type operator_place a b))) >>= condition place) (name_types t left name name_place named slot c column at)
      ∙ ap (λ (b : Checked Arg). (b >>= (λ b. equal_type operator_place (let a : Arg = record { ty = Some c.ty; kind = kind.Other } in a) b)) >>= condition place) (lit.checked (one t) (sight_of t))

  pub tests_column : (test : Test) → same_scalar (out-SqlType c.ty) (out-SqlType l.ty) ≡ true → test ≡ record { place = slot; literal = l.value } → Tests t e test
  tests_column test same made =
      subst (λ (test : Test). Tests t e test) (sym made)
      (record {
        checked =
            equation_is ∙ ap (λ (b : Bool). (if b then other ty.Bool else broken 9 operator_place) >>= condition place) same
            ∙ ap (λ (b : Bool). if b then Ok tt else broken 11 place) bool_is_bool;
        means = λ tables row fit.
            means_by (one t) tables e (ast.Compare left comparison.Equal operator_place right place) (env_of t row) (Ok (truth (equal (slice_index_or row slot Null) l.value))) is
            (goes_on {x = slice_index_or row slot Null ∷ l.value ∷ []} (all_give (name_means t left name name_place named slot column tables row fit, (lit.means (one t) tables (env_of t row), tt))) refl);
      })

  pub types_differ : same_scalar (out-SqlType c.ty) (out-SqlType l.ty) ≡ false → Refused (filter_layer (one t) (typed (one t)) e (sight_of t))
  types_differ apart = ((9, operator_place), equation_is ∙ ap (λ (b : Bool). (if b then other ty.Bool else broken 9 operator_place) >>= condition place) apart)
