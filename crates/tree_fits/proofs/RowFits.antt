-- The rows of a scan: each value fits the type of its column's number, wherever the number is looked up.
use Rattle.std.proofs.Common.{◌≡◌, ℕ, Bool, true, false, List, [], ◌∷◌, ◌++◌, map, length, if◌then◌else◌, refl, sym, ap, subst, ◌∙◌, arith}
use Rattle.std.specs.Prelude.{◌==◌, replicate}
use Rattle.std.proofs.lemmas.Bool.Decides.{nat_tests}
use Rattle.sql_types.specs.declared.value.Value.{Value}
use Rattle.sql_types.specs.declared.value.Value.TheVariants as value
use Rattle.sql_types.specs.Fits.{fits}
use Rattle.sql_types.specs.Joined.{Row}
use Rattle.sql_types.specs.Parted.{Each}
use Rattle.sql_types.specs.Takes.{fits_types}
use Rattle.sql_gives.proofs.GivesLaws.{null_fits}
use Rattle.resolved_ast.specs.declared.column.MadeColumn.{MadeColumn}
use Rattle.resolved_ast.specs.Columns.{among}
use Rattle.resolved_ast.specs.Fitting.{SlotsFit}
use Rattle.resolved_ast.specs.Flaws.{Sight, over}
use Rattle.resolved_ast.specs.Slots.{Slots, Table, value_at, bound, within, picked}
use Rattle.resolved_ast.proofs.FitLaws.{first_of, second_of}
use Rattle.tree_fits.proofs.Lists.{and_so, each_join, each_right, each_so}
use Rattle.tree_fits.proofs.WalkTypes.{Typing, Agrees, number_same}

-- one value per number, of its type
abbrev pub RowFits : Typing → List ℕ → Row → Type 0
RowFits T ids row = fits_types (map T ids) row ≡ true

-- all columns in sight have their numbers' types
abbrev pub SightAgrees : Typing → Sight → Type 0
SightAgrees T sight = Agrees T (sight.inner ++ sight.outer)

-- The rows have the types of their numbers, and each of these columns is among them. There may be more columns than numbers: a column that a
-- Project lists twice is two columns of each list above it that names it once.
pub record TableFits (T : Typing) (columns : List MadeColumn) (u : Table) : Type 0 where
  pub rows : Each (RowFits T u.ids) u.rows
  pub listed : Each (λ (c : MadeColumn). among c.id.0 u.ids ≡ true) columns

turned : (m n : ℕ) → (m == n) ≡ false → (n == m) ≡ false
turned m n e = grind (arith, nat_tests, e)

pub both_ways : (b : Bool) → b ≡ true → b ≡ false → ⊥
both_ways true in_it out = cc
both_ways false in_it out = cc

module _ (T : Typing) where
  -- what is found under a number fits its type: a value of the row, or else what stood there before
  pub bound_fits : (ids : List ℕ) (row : Row) (values : List (ℕ × Value)) (n : ℕ) → RowFits T ids row → (among n ids ≡ false → fits (T n) (value_at values n) ≡ true) →
      fits (T n) (value_at (bound ids row values) n) ≡ true
  bound_fits [] row values n fit other = other refl
  bound_fits (id ∷ ids) [] values n fit other = cc
  bound_fits (id ∷ ids) (x ∷ row) values n fit other =
      by (bound_fits ids row values n (second_of _ _ fit)) (id == n) refl
    where
      by : ((among n ids ≡ false → fits (T n) (value_at values n) ≡ true) → fits (T n) (value_at (bound ids row values) n) ≡ true) →
          (b : Bool) → (id == n) ≡ b → fits (T n) (if b then x else value_at (bound ids row values) n) ≡ true
      by later true is = subst (λ m. fits (T m) x ≡ true) (number_same id n is) (first_of _ _ fit)
      by later false is = later (λ out. other (ap (λ b. if b then true else among n ids) (turned id n is) ∙ out))

  pub found_fits : (ids : List ℕ) (row : Row) (values : List (ℕ × Value)) (n : ℕ) → RowFits T ids row → among n ids ≡ true → fits (T n) (value_at (bound ids row values) n) ≡ true
  found_fits ids row values n fit inside = bound_fits ids row values n fit (λ out. absurd (both_ways (among n ids) inside out))

  -- the same of columns in sight
  pub in_row : (columns : List MadeColumn) (ids : List ℕ) (row : Row) (values : List (ℕ × Value)) → Agrees T columns → RowFits T ids row →
      Each (λ (c : MadeColumn). among c.id.0 ids ≡ false → fits c.ty (value_at values c.id.0) ≡ true) columns →
      Each (λ (c : MadeColumn). fits c.ty (value_at (bound ids row values) c.id.0) ≡ true) columns
  in_row [] ids row values agree fit other = tt
  in_row (c ∷ columns) ids row values agree fit other = (
    subst (λ ty. fits ty (value_at (bound ids row values) c.id.0) ≡ true) agree.0
        (bound_fits ids row values c.id.0 fit (λ out. subst (λ ty. fits ty (value_at values c.id.0) ≡ true) (sym agree.0) (other.0 out))),
    in_row columns ids row values agree.1 fit other.1,
  )

  -- slots inside of a row fit what an expression sees there
  pub over_fits : (sight : Sight) (columns : List MadeColumn) (slots : Slots) (ids : List ℕ) (row : Row) → SightAgrees T sight → Agrees T columns →
      Each (λ (c : MadeColumn). among c.id.0 ids ≡ true) columns → SlotsFit sight slots → RowFits T ids row → SlotsFit (over sight columns) (within slots ids row)
  over_fits sight columns slots ids row agree own listed slots_fit fit = record {
    values = each_join _ columns sight.outer
        (in_row columns ids row slots.values own fit (each_so _ _ (λ c inside out. absurd (both_ways (among c.id.0 ids) inside out)) columns listed))
        (in_row sight.outer ids row slots.values (each_right _ sight.inner sight.outer agree) fit (each_so _ _ (λ c h out. h) sight.outer (each_right _ sight.inner sight.outer slots_fit.values)));
    ctes = slots_fit.ctes;
  }

  pub over_agrees : (sight : Sight) (columns : List MadeColumn) → SightAgrees T sight → Agrees T columns → SightAgrees T (over sight columns)
  over_agrees sight columns agree own = each_join _ columns sight.outer own (each_right _ sight.inner sight.outer agree)

  -- ---- longer rows, rows without values, and rows of some columns

  pub rows_join : (ids more : List ℕ) (xs ys : Row) → RowFits T ids xs → RowFits T more ys → RowFits T (ids ++ more) (xs ++ ys)
  rows_join [] more [] ys left right = right
  rows_join [] more (x ∷ xs) ys left right = cc
  rows_join (id ∷ ids) more [] ys left right = cc
  rows_join (id ∷ ids) more (x ∷ xs) ys left right = and_so _ _ (first_of _ _ left) (rows_join ids more xs ys (second_of _ _ left) right)

  pub nulls_fit : (ids : List ℕ) → RowFits T ids (replicate (length ids) value.Null)
  nulls_fit [] = refl
  nulls_fit (id ∷ ids) = and_so _ _ (null_fits (T id)) (nulls_fit ids)

  pub picked_fits : (ids : List ℕ) (values : List (ℕ × Value)) → Each (λ n. fits (T n) (value_at values n) ≡ true) ids → RowFits T ids (picked ids values)
  picked_fits [] values each = refl
  picked_fits (id ∷ ids) values each = and_so _ _ each.0 (picked_fits ids values each.1)
