-- The columns of a Let: each is of its expression's type, and those behind it see it.
use Rattle.std.proofs.Common.{◌≡◌, ℕ, Bool, true, false, List, [], ◌∷◌, ◌++◌, if◌then◌else◌, refl, sym, subst}
use Rattle.std.specs.Prelude.{◌==◌}
use Rattle.sql_types.specs.declared.rows.Param.{Param}
use Rattle.sql_types.specs.Fits.{fits}
use Rattle.sql_types.specs.Joined.{Row}
use Rattle.sql_types.specs.Parted.{Each}
use Rattle.sql_types.specs.SameType.{same_type}
use Rattle.resolved_ast.specs.declared.column.MadeColumn.{MadeColumn}
use Rattle.resolved_ast.specs.declared.rex.Compute.{Compute}
use Rattle.resolved_ast.specs.declared.rex.Rex.{Rex}
use Rattle.resolved_ast.specs.Columns.{among, rex_type}
use Rattle.resolved_ast.specs.Fitting.{SlotsFit}
use Rattle.resolved_ast.specs.Flaws.{Sight, over, with_column}
use Rattle.resolved_ast.specs.Meanings.{TableRows, Means, let_means}
use Rattle.resolved_ast.specs.Slots.{Slots, value_at, within}
use Rattle.tree_fits.proofs.WalkTypes.{Typing, number_is}
use Rattle.tree_fits.proofs.Lists.{and_so, each_join, each_left, each_right, each_so}
use Rattle.tree_fits.proofs.RowFits.{RowFits, SightAgrees, in_row, rows_join}
use Rattle.tree_fits.proofs.Sure.{Sure, sure_then}
use Rattle.tree_fits.proofs.FittingForms.{Of}
use Rattle.tree_fits.proofs.FittingParts.{of_type}
use Rattle.tree_fits.proofs.NodeFacts.{RexOk}

-- a column that is computed: its type is that of its expression, and of its number
pub record ComputeOk (p : Means) (T : Typing) (sight : Sight) (c : Compute Rex) : Type 0 where
  pub typed : same_type c.column.ty (rex_type c.expr) ≡ true
  pub agrees : T c.column.id.0 ≡ c.column.ty
  pub expr : RexOk p T sight c.expr

abbrev pub LetOk : Means → Typing → Sight → List (Compute Rex) → Rex → Type 0
LetOk p T sight [] x = RexOk p T sight x
LetOk p T sight (c ∷ cs) x = ComputeOk p T sight c × LetOk p T (with_column sight c.column) cs x

-- what is in sight and not among the columns so far stands in the slots around
abbrev Around : List ℕ → Slots → MadeColumn → Type 0
Around ids slots c = among c.id.0 ids ≡ false → fits c.ty (value_at slots.values c.id.0) ≡ true

-- what isn't among a longer list isn't among the shorter one, and its last is among it
in_front : (n : ℕ) (ids more : List ℕ) → among n (ids ++ more) ≡ false → among n ids ≡ false
in_front n [] more out = refl
in_front n (id ∷ ids) more out = by (n == id) (in_front n ids more) out
  where
    by : (b : Bool) → (among n (ids ++ more) ≡ false → among n ids ≡ false) → (if b then true else among n (ids ++ more)) ≡ false → (if b then true else among n ids) ≡ false
    by true rest out = out
    by false rest out = rest out

behind : (n : ℕ) (ids more : List ℕ) → among n (ids ++ more) ≡ false → among n more ≡ false
behind n [] more out = out
behind n (id ∷ ids) more out = by (n == id) (behind n ids more) out
  where
    by : (b : Bool) → (among n (ids ++ more) ≡ false → among n more ≡ false) → (if b then true else among n (ids ++ more)) ≡ false → among n more ≡ false
    by true rest out = cc
    by false rest out = rest out

around_more : (ids more : List ℕ) (slots : Slots) (columns : List MadeColumn) → Each (Around ids slots) columns → Each (Around (ids ++ more) slots) columns
around_more ids more slots columns around = each_so (Around ids slots) (Around (ids ++ more) slots) (λ c told out. told (in_front c.id.0 ids more out)) columns around

around_itself : (ids : List ℕ) (slots : Slots) (c : MadeColumn) → Around (ids ++ c.id.0 ∷ []) slots c
around_itself ids slots c out = by (c.id.0 == c.id.0) (number_is c.id.0) (behind c.id.0 ids (c.id.0 ∷ []) out)
  where
    by : (b : Bool) → b ≡ true → (if b then true else false) ≡ false → fits c.ty (value_at slots.values c.id.0) ≡ true
    by true is out = cc
    by false is out = cc

module _ (tables : TableRows) (params : List Param) (p : Means) (T : Typing) (base : Sight) (slots : Slots) (slots_fit : SlotsFit base slots) where
  -- with the columns so far, and the row of their values
  columns_fit : (cs : List (Compute Rex)) (x : Rex) (inner : List MadeColumn) (ids : List ℕ) (row : Row) → LetOk p T (over base inner) cs x → SightAgrees T (over base inner) →
      Each (Around ids slots) (inner ++ base.outer) → RowFits T ids row → Sure (let_means tables params p ids row cs x slots) (Of (rex_type x))
  columns_fit [] x inner ids row ok agree around fit =
      ok.gives agree (within slots ids row) (record { values = in_row T (inner ++ base.outer) ids row slots.values agree fit around; ctes = slots_fit.ctes })
  columns_fit (c ∷ cs) x inner ids row ok agree around fit =
      let id = c.column.id.0 in
      let seen = each_join (λ (d : MadeColumn). T d.id.0 ≡ d.ty) inner (c.column ∷ []) (each_left _ inner base.outer agree) (ok.0.agrees, tt) in
      let stand = each_join (Around (ids ++ id ∷ []) slots) inner (c.column ∷ [])
      (around_more ids (id ∷ []) slots inner (each_left (Around ids slots) inner base.outer around)) (around_itself ids slots c.column, tt) in
      sure_then (ok.0.expr.gives agree (within slots ids row) (record { values = in_row T (inner ++ base.outer) ids row slots.values agree fit around; ctes = slots_fit.ctes }))
      (λ y of. columns_fit cs x (inner ++ c.column ∷ []) (ids ++ id ∷ []) (row ++ y ∷ []) ok.1
      (each_join _ (inner ++ c.column ∷ []) base.outer seen (each_right _ inner base.outer agree))
      (each_join (Around (ids ++ id ∷ []) slots) (inner ++ c.column ∷ []) base.outer stand (around_more ids (id ∷ []) slots base.outer (each_right (Around ids slots) inner base.outer around)))
      (rows_join T ids (id ∷ []) row (y ∷ []) fit (and_so _ _ (subst (λ type. fits type y ≡ true) (sym ok.0.agrees) (of_type c.column.ty (rex_type c.expr) y ok.0.typed of)) refl)))

  pub let_fits : (cs : List (Compute Rex)) (x : Rex) → LetOk p T base cs x → SightAgrees T base → Sure (let_means tables params p [] [] cs x slots) (Of (rex_type x))
  let_fits cs x ok agree =
      columns_fit cs x base.inner [] [] ok agree (each_so _ (Around [] slots) (λ c fit out. fit) (base.inner ++ base.outer) slots_fit.values) refl
