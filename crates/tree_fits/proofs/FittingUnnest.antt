-- UNNEST: the elements of an array and their places have the types of the columns that are made.
use Rattle.std.proofs.Common.{◌≡◌, ℕ, suc, true, ◌&&◌, List, [], ◌∷◌, ◌++◌, map, Option, None, Some, refl, sym, subst, ◌∙◌}
use Rattle.std.specs.List.{list_all}
use Rattle.sql_types.specs.declared.rows.Param.{Param}
use Rattle.sql_types.specs.declared.sql_type.SqlType.TheVariants as ty
use Rattle.sql_types.specs.declared.value.Value.{Value}
use Rattle.sql_types.specs.Fits.{fits}
use Rattle.sql_types.specs.Parted.{Each}
use Rattle.sql_types.specs.Takes.{count_value, elements}
use Rattle.sql_gives.proofs.GivesLaws.{count_gives}
use Rattle.resolved_ast.specs.declared.column.MadeColumn.{MadeColumn}
use Rattle.resolved_ast.specs.declared.rex.Rex.{Rex}
use Rattle.resolved_ast.specs.declared.scan.UnnestKind.{UnnestKind}
use Rattle.resolved_ast.specs.Columns.{element_of, numbers, rex_type}
use Rattle.resolved_ast.specs.Fitting.{SlotsFit}
use Rattle.resolved_ast.specs.Flaws.{Sight, over, is_type, all_of_type, types_of}
use Rattle.resolved_ast.specs.Meanings.{TableRows, Means, has, with_offset, element_rows, join_kind, row_elements, unnest_table}
use Rattle.resolved_ast.specs.Parts.{there}
use Rattle.resolved_ast.specs.Slots.{Slots, Table}
use Rattle.resolved_ast.proofs.FitLaws.{first_of, second_of}
use Rattle.tree_fits.proofs.WalkTypes.{Typing, Agrees}
use Rattle.tree_fits.proofs.Lists.{and_so, each_join, each_so}
use Rattle.tree_fits.proofs.RowFits.{RowFits, SightAgrees, TableFits, over_fits, over_agrees}
use Rattle.tree_fits.proofs.SameTypes.{same_type_is}
use Rattle.tree_fits.proofs.Sure.{Sure, sure_just, sure_gives, sure_then, sure_behind, EachSure, sure_gather, each_sure}
use Rattle.tree_fits.proofs.ScanRows.{among_left, among_right, all_listed, each_fit}
use Rattle.tree_fits.proofs.FittingParts.{is_type_of, elements_fit}
use Rattle.tree_fits.proofs.NodeFacts.{RexOk}

-- ---- a row for each element

module _ (T : Typing) (element : MadeColumn) where
  made_row : (offset : Option MadeColumn) → Agrees T (element ∷ there offset) → all_of_type ty.Int64 (types_of (there offset)) ≡ true → (place : ℕ) (x : Value) → fits element.ty x ≡ true →
      Sure (with_offset (has offset) place (x ∷ [])) (RowFits T (numbers (element ∷ there offset)))
  made_row None agree typed place x fit = sure_gives _ (and_so _ _ (subst (λ type. fits type x ≡ true) (sym agree.0) fit) refl)
  made_row (Some c) agree typed place x fit =
      sure_then (sure_just (count_value place) (count_gives place)) (λ n of. sure_gives _
      (and_so _ _ (subst (λ type. fits type x ≡ true) (sym agree.0) fit) (and_so _ _ (subst (λ type. fits type n ≡ true) (same_type_is ty.Int64 c.ty (first_of _ _ typed) ∙ sym agree.1.0) of) refl)))

  made_rows : (offset : Option MadeColumn) → Agrees T (element ∷ there offset) → all_of_type ty.Int64 (types_of (there offset)) ≡ true → (place : ℕ) (xs : List Value) → list_all (fits element.ty) xs ≡ true →
      EachSure (RowFits T (numbers (element ∷ there offset))) (element_rows (has offset) place xs)
  made_rows offset agree typed place [] fit = tt
  made_rows offset agree typed place (x ∷ xs) fit = (made_row offset agree typed place x (first_of _ _ fit), made_rows offset agree typed (suc place) xs (second_of _ _ fit))

-- ---- the table

module _ (tables : TableRows) (params : List Param) (p : Means) (T : Typing) (sight : Sight) (columns : List MadeColumn) (element : MadeColumn) (offset : Option MadeColumn) (array : Rex) where
  abbrev made : List ℕ
  made = numbers (element ∷ there offset)

  pub unnest_fits : (kind : UnnestKind) (condition : Option Rex) (u : Table) (slots : Slots) → (is_type element.ty (element_of (rex_type array)) && all_of_type ty.Int64 (types_of (there offset))) ≡ true →
      Agrees T columns → Agrees T (element ∷ there offset) → RexOk p T (over sight columns) array → SightAgrees T sight → SlotsFit sight slots → TableFits T columns u →
      Sure (unnest_table tables params p kind made (has offset) array condition u slots) (TableFits T (columns ++ element ∷ there offset))
  unnest_fits kind condition u slots typed own agree ok in_sight fit rows =
      sure_then (sure_gather (Each (RowFits T made)) (map (row_elements tables params p array (has offset) u.ids slots) u.rows)
      (each_sure (Each (RowFits T made)) (RowFits T u.ids) (row_elements tables params p array (has offset) u.ids slots)
      (λ row row_fit. sure_then (ok.gives (over_agrees T sight columns in_sight own) _ (over_fits T sight columns slots u.ids row in_sight own rows.listed fit row_fit))
      (λ xs of. sure_gather (RowFits T made) (element_rows (has offset) 0 (elements xs)) (made_rows T element offset agree (second_of _ _ typed) 0 (elements xs)
      (elements_fit (rex_type array) element.ty xs (is_type_of element.ty (element_of (rex_type array)) (first_of _ _ typed)) of)))) u.rows rows.rows))
      (λ rights rights_fit. sure_behind (λ pairs. sure_gives _ (record {
        rows = each_fit T u.ids made (join_kind kind) u.rows rights pairs rows.rows rights_fit;
        listed = each_join _ columns (element ∷ there offset) (each_so _ _ (λ c inside. among_left c.id.0 u.ids made inside) columns rows.listed)
            (each_so _ _ (λ c inside. among_right c.id.0 u.ids made inside) (element ∷ there offset) (all_listed (element ∷ there offset)));
      })))
