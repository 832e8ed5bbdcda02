-- The rows of joins, filters and other orders have the types of their numbers where those that they come of have.
use Rattle.std.proofs.Common.{◌≡◌, ℕ, Bool, true, false, List, [], ◌∷◌, ◌++◌, length, if◌then◌else◌, refl, sym, ap, subst}
use Rattle.std.specs.Prelude.{◌==◌, replicate}
use Rattle.sql_types.specs.declared.kinds.JoinKind.{JoinKind}
use Rattle.sql_types.specs.declared.kinds.JoinKind.TheVariants as join
use Rattle.sql_types.specs.declared.value.Value.{Value}
use Rattle.sql_types.specs.declared.value.Value.TheVariants as value
use Rattle.sql_types.specs.Arranged.{Permutes, permutes_none, permutes_skip, permutes_swap, permutes_then}
use Rattle.sql_types.specs.Joined.{Row, Pairs, met, padded_right, from_left, first_kept, other_pairs, alone, from_right, joined}
use Rattle.sql_types.specs.Parted.{Each}
use Rattle.sql_forms.specs.Conditions.{is_true}
use Rattle.sql_forms.specs.Rows.{in_any_order, kept, joined_each}
use Rattle.resolved_ast.specs.declared.column.MadeColumn.{MadeColumn}
use Rattle.resolved_ast.specs.Columns.{among, numbers}
use Rattle.tree_fits.proofs.WalkTypes.{Typing, number_is}
use Rattle.tree_fits.proofs.Lists.{each_join, each_so}
use Rattle.tree_fits.proofs.RowFits.{RowFits, rows_join, nulls_fit}
use Rattle.tree_fits.proofs.Sure.{OfOk, Sure, sure_by}

-- ---- other orders, and the rows that a test keeps

permuted : {A : Type 0} (P : A → Type 0) {xs ys : List A} → Permutes xs ys → Each P xs → Each P ys
permuted P permutes_none each = each
permuted P (permutes_skip more) each = (each.0, permuted P more each.1)
permuted P permutes_swap each = (each.1.0, (each.0, each.1.1))
permuted P (permutes_then first second) each = permuted P second (permuted P first each)

pub any_order : (P : Row → Type 0) (rows : List Row) → Each P rows → Sure (in_any_order rows) (Each P)
any_order P rows each = sure_by (λ o given. subst (λ q. OfOk (Each P) q) (sym given.2) (permuted P given.1.permutes each))

pub kept_fit : {A : Type 0} (P : A → Type 0) (xs : List A) (tests : List Value) → Each P xs → Each P (kept xs tests)
kept_fit P [] tests each = tt
kept_fit P (x ∷ xs) [] each = tt
kept_fit P (x ∷ xs) (test ∷ tests) each = by (is_true test) (kept_fit P xs tests each.1)
  where
    by : (b : Bool) → Each P (kept xs tests) → Each P (if b then x ∷ kept xs tests else kept xs tests)
    by true rest = (each.0, rest)
    by false rest = rest

-- ---- numbers among longer lists

pub among_left : (n : ℕ) (ids more : List ℕ) → among n ids ≡ true → among n (ids ++ more) ≡ true
among_left n [] more inside = cc
among_left n (id ∷ ids) more inside = by (n == id) (among_left n ids more) inside
  where
    by : (b : Bool) → (among n ids ≡ true → among n (ids ++ more) ≡ true) → (if b then true else among n ids) ≡ true → (if b then true else among n (ids ++ more)) ≡ true
    by true rest inside = refl
    by false rest inside = rest inside

pub among_right : (n : ℕ) (ids more : List ℕ) → among n more ≡ true → among n (ids ++ more) ≡ true
among_right n [] more inside = inside
among_right n (id ∷ ids) more inside = by (n == id) (among_right n ids more inside)
  where
    by : (b : Bool) → among n (ids ++ more) ≡ true → (if b then true else among n (ids ++ more)) ≡ true
    by true rest = refl
    by false rest = rest

pub among_first : (n : ℕ) (ids : List ℕ) → among n (n ∷ ids) ≡ true
among_first n ids = ap (λ b. if b then true else among n ids) (number_is n)

-- each column's number is among their numbers
pub all_listed : (columns : List MadeColumn) → Each (λ (c : MadeColumn). among c.id.0 (numbers columns) ≡ true) columns
all_listed [] = tt
all_listed (c ∷ columns) = (
  among_first c.id.0 (numbers columns),
  each_so (λ (d : MadeColumn). among d.id.0 (numbers columns) ≡ true) (λ (d : MadeColumn). among d.id.0 (c.id.0 ∷ numbers columns) ≡ true) (λ d inside. among_right d.id.0 (c.id.0 ∷ []) (numbers columns) inside) columns (all_listed columns),
)

-- ---- joins

module _ (T : Typing) (ids more : List ℕ) where
  met_fit : (left : Row) (rights : List Row) (kept : List Bool) → RowFits T ids left → Each (RowFits T more) rights → Each (RowFits T (ids ++ more)) (met left rights kept)
  met_fit left [] kept fit each = tt
  met_fit left (right ∷ rights) [] fit each = tt
  met_fit left (right ∷ rights) (true ∷ kept) fit each = (rows_join T ids more left right fit each.0, met_fit left rights kept fit each.1)
  met_fit left (right ∷ rights) (false ∷ kept) fit each = met_fit left rights kept fit each.1

  padded_fit : (kind : JoinKind) (left : Row) (rows : List Row) → RowFits T ids left → Each (RowFits T (ids ++ more)) rows → Each (RowFits T (ids ++ more)) (padded_right kind (length more) left rows)
  padded_fit join.Left left [] fit each = (rows_join T ids more left (replicate (length more) value.Null) fit (nulls_fit T more), tt)
  padded_fit join.Full left [] fit each = (rows_join T ids more left (replicate (length more) value.Null) fit (nulls_fit T more), tt)
  padded_fit join.Left left (row ∷ rows) fit each = each
  padded_fit join.Full left (row ∷ rows) fit each = each
  padded_fit _ left rows fit each = each

  left_fit : (kind : JoinKind) (lefts rights : List Row) (kept : Pairs) → Each (RowFits T ids) lefts → Each (RowFits T more) rights →
      Each (RowFits T (ids ++ more)) (from_left kind (length more) lefts rights kept)
  left_fit kind [] rights kept lefts_fit rights_fit = tt
  left_fit kind (left ∷ lefts) rights [] lefts_fit rights_fit = tt
  left_fit kind (left ∷ lefts) rights (row ∷ kept) lefts_fit rights_fit =
      each_join (RowFits T (ids ++ more)) (padded_right kind (length more) left (met left rights row)) (from_left kind (length more) lefts rights kept)
      (padded_fit kind left (met left rights row) lefts_fit.0 (met_fit left rights row lefts_fit.0 rights_fit)) (left_fit kind lefts rights kept lefts_fit.1 rights_fit)

  alone_fit : (rights : List Row) (kept : Pairs) → Each (RowFits T more) rights → Each (RowFits T (ids ++ more)) (alone (length ids) rights kept)
  alone_fit [] kept each = tt
  alone_fit (right ∷ rights) kept each = by (first_kept kept) (alone_fit rights (other_pairs kept) each.1) (rows_join T ids more (replicate (length ids) value.Null) right (nulls_fit T ids) each.0)
    where
      by : (b : Bool) → Each (RowFits T (ids ++ more)) (alone (length ids) rights (other_pairs kept)) → RowFits T (ids ++ more) (replicate (length ids) value.Null ++ right) →
          Each (RowFits T (ids ++ more)) (if b then alone (length ids) rights (other_pairs kept) else ((replicate (length ids) value.Null ++ right) ∷ alone (length ids) rights (other_pairs kept)))
      by true rest fit = rest
      by false rest fit = (fit, rest)

  right_fit : (kind : JoinKind) (rights : List Row) (kept : Pairs) → Each (RowFits T more) rights → Each (RowFits T (ids ++ more)) (from_right kind (length ids) rights kept)
  right_fit join.Right rights kept each = alone_fit rights kept each
  right_fit join.Full rights kept each = alone_fit rights kept each
  right_fit _ rights kept each = tt

  pub joined_fit : (kind : JoinKind) (lefts rights : List Row) (kept : Pairs) → Each (RowFits T ids) lefts → Each (RowFits T more) rights →
      Each (RowFits T (ids ++ more)) (joined kind (length ids) (length more) lefts rights kept)
  joined_fit kind lefts rights kept lefts_fit rights_fit =
      each_join (RowFits T (ids ++ more)) (from_left kind (length more) lefts rights kept) (from_right kind (length ids) rights kept) (left_fit kind lefts rights kept lefts_fit rights_fit) (right_fit kind rights kept rights_fit)

  -- the same where each left row has right rows of its own
  pub each_fit : (kind : JoinKind) (lefts : List Row) (rights : List (List Row)) (kept : Pairs) → Each (RowFits T ids) lefts → Each (Each (RowFits T more)) rights →
      Each (RowFits T (ids ++ more)) (joined_each kind (length more) lefts rights kept)
  each_fit kind [] rights kept lefts_fit rights_fit = tt
  each_fit kind (left ∷ lefts) [] kept lefts_fit rights_fit = tt
  each_fit kind (left ∷ lefts) (right ∷ rights) [] lefts_fit rights_fit = tt
  each_fit kind (left ∷ lefts) (right ∷ rights) (row ∷ kept) lefts_fit rights_fit =
      each_join (RowFits T (ids ++ more)) (padded_right kind (length more) left (met left right row)) (joined_each kind (length more) lefts rights kept)
      (padded_fit kind left (met left right row) lefts_fit.0 (met_fit left right row lefts_fit.0 rights_fit.0)) (each_fit kind lefts rights kept lefts_fit.1 rights_fit.1)
