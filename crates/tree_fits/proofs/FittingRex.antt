-- The nodes of expressions, one line a node: over parts that give values of their types, a node gives values of its own.
use Rattle.std.proofs.Common.{◌≡◌, ℕ, Bool, true, false, ◌&&◌, List, [], ◌∷◌, ◌++◌, map, if◌then◌else◌, refl, sym, ap, subst}
use Rattle.std.specs.Prelude.{not}
use Rattle.sql_types.specs.declared.rows.Param.{Param}
use Rattle.sql_types.specs.declared.sql_type.SqlType.{SqlType}
use Rattle.sql_types.specs.declared.sql_type.SqlType.TheVariants as ty
use Rattle.sql_types.specs.declared.value.Value.{Value}
use Rattle.sql_types.specs.declared.value.Value.TheVariants as value
use Rattle.sql_types.specs.Fits.{fits}
use Rattle.sql_types.specs.Outcome.{Meaning}
use Rattle.sql_types.specs.Parted.{Each}
use Rattle.sql_types.specs.SameType.{same_type}
use Rattle.sql_types.specs.Takes.{fits_types}
use Rattle.sql_names.specs.Words.{same_name}
use Rattle.sql_forms.specs.Rows.{is_empty, single}
use Rattle.sql_builtins.specs.declared.sig.SigId.{SigId}
use Rattle.sql_builtins.specs.Applies.{apply}
use Rattle.sql_gives.proofs.GivesLaws.{bool_fits}
use Rattle.resolved_ast.specs.declared.column.ColumnRef.{ColumnRef}
use Rattle.resolved_ast.specs.declared.column.MadeColumn.{MadeColumn}
use Rattle.resolved_ast.specs.declared.rex.Compute.{Compute}
use Rattle.resolved_ast.specs.declared.rex.Rex.{Rex, map-Rex}
use Rattle.resolved_ast.specs.declared.rex.Rex.TheOpen.{Rex-F}
use Rattle.resolved_ast.specs.declared.rex.Rex.TheOpen as t
use Rattle.resolved_ast.specs.declared.scan.Scan.{Scan}
use Rattle.resolved_ast.specs.Columns.{columns, element_of, rex_type, rex_type_layer}
use Rattle.resolved_ast.specs.Fitting.{SlotsFit, fitting_rex, param_fits}
use Rattle.resolved_ast.specs.Flaws.{Sight, Order, RexPart, ScanPart, walk_all, at_node, sees, sees_such, if_seen, is_type, types, trees, each, let_walks, with_column, below, rex_walk, RexWalk, ScanWalk}
use Rattle.resolved_ast.specs.Meanings.{TableRows, Means, param_value, column_values, rex_means}
use Rattle.resolved_ast.specs.Parts.{all_so, exprs_of}
use Rattle.resolved_ast.specs.Signatures.{call_row, row_typed, row_shaped}
use Rattle.resolved_ast.specs.Slots.{Slots, Table, value_at}
use Rattle.resolved_ast.proofs.FitLaws.{first_of, second_of}
use Rattle.resolved_ast.proofs.WalkLaws.{rex_part, scan_part}
use Rattle.tree_fits.proofs.WalkTypes.{Typing, Agrees, Claims, InOrder, claims_map, claims_none, claims_more, claims_node}
use Rattle.tree_fits.proofs.Lists.{each_left, each_right, each_so}
use Rattle.tree_fits.proofs.SameTypes.{same_type_is}
use Rattle.tree_fits.proofs.RowFits.{SightAgrees, TableFits}
use Rattle.tree_fits.proofs.ColumnsSeen.{such_column, seen_such}
use Rattle.tree_fits.proofs.Sure.{OfOk, Sure, sure_just, sure_gives, sure_then, sure_behind, sure_both}
use Rattle.tree_fits.proofs.FittingForms.{Of, Operands, of_same, all_of, first_types, gather_fits, decided_fits, among_fits, list_fits, tried_fits, if_fits, case_fits, first_fits, caught_fits}
use Rattle.tree_fits.proofs.FittingParts.{of_type, converted_ok, or_null_ok, make_array_fits, subscript_ok, make_struct_fits, field_fits, single_ok, column_array}
use Rattle.tree_fits.proofs.FittingCalls.{AnswersFit, call_ok}
use Rattle.tree_fits.proofs.FittingFolds.{RexTaken, ScanTaken}
use Rattle.tree_fits.proofs.TakenColumns.{taken_values}
use Rattle.tree_fits.proofs.NodeFacts.{RexOk, ScanOk, RexNodeOk, below_fits}
use Rattle.tree_fits.proofs.FittingLet.{LetOk, let_fits}

-- ---- leaves

-- the first parameter of the name has the value, and its type is tested
param_ok : (params : List Param) (name : List ℕ) (type : SqlType) → param_fits params name type ≡ true → fits type (param_value params name) ≡ true
param_ok [] name type fit = cc
param_ok (p ∷ params) name type fit = by (same_name p.name name) (param_ok params name type) fit
  where
    by : (b : Bool) → (param_fits params name type ≡ true → fits type (param_value params name) ≡ true) → (if b then fits type p.value else param_fits params name type) ≡ true →
        fits type (if b then p.value else param_value params name) ≡ true
    by true rest fit = fit
    by false rest fit = rest fit

-- the value of a column that is seen
column_ok : (r : ColumnRef) (type : SqlType) (columns : List MadeColumn) (values : List (ℕ × Value)) → Each (λ (c : MadeColumn). fits c.ty (value_at values c.id.0) ≡ true) columns →
    sees_such r (same_type type) columns ≡ true → fits type (value_at values r.id.0) ≡ true
column_ok r type columns values each seen =
    let found = such_column (λ c. fits c.ty (value_at values c.id.0) ≡ true) r (same_type type) columns each seen in
    of_type type found.0.ty (value_at values r.id.0) found.3 (subst (λ n. fits found.0.ty (value_at values n) ≡ true) (sym found.2) found.1)

-- ---- calls

types_of_trees : (xs : List RexPart) → types xs ≡ map rex_type (trees xs)
types_of_trees [] = refl
types_of_trees (x ∷ xs) = ap (λ more. rex_type x.0 ∷ more) (types_of_trees xs)

called : AnswersFit → (s : SigId) (type : SqlType) (xs : List RexPart) (values : List Value) → row_typed (call_row s) (types xs) type ≡ true → row_shaped (call_row s) (trees xs) ≡ true →
    fits_types (types xs) values ≡ true → OfOk (Of type) (apply s values)
called answers s type xs values typed shaped fit =
    call_ok answers s type (trees xs) values (subst (λ z. row_typed (call_row s) z type ≡ true) (types_of_trees xs) typed) shaped (subst (λ z. fits_types z values ≡ true) (types_of_trees xs) fit)

-- ---- truth values, and columns as values

bool_as : (type : SqlType) (m : Meaning Value) → same_type ty.Bool type ≡ true → Sure m (Of ty.Bool) → Sure m (Of type)
bool_as type m same s = subst (λ z. Sure m (Of z)) (same_type_is ty.Bool type same) s

scalar_ok : (type : SqlType) (xs : List Value) → (other : SqlType) × (same_type type other ≡ true) × Each (Of other) xs → OfOk (Of type) (single xs)
scalar_ok type xs found = single_ok type xs (each_so (Of found.0) (Of type) (λ x fit. of_type type found.0 x found.1 fit) xs found.2)

array_ok : (type : SqlType) (xs : List Value) → (other : SqlType) × (is_type other (element_of type) ≡ true) × Each (Of other) xs → fits type (value.Array xs) ≡ true
array_ok type xs found = column_array type found.0 xs found.1 found.2

-- ---- nodes

module _ (answers : AnswersFit) (tables : TableRows) (params : List Param) (p : Means) {X Y : Type 0} (f : X → Rex) (h : Y → Scan)
    (rex_ok : (x : X) → RexTaken tables params (f x) ≡ true → (sight : Sight) → Claims (RexWalk (f x) sight) (λ T. RexOk p T sight (f x)))
    (scan_ok : (y : Y) → ScanTaken tables params (h y) ≡ true → (sight : Sight) → Claims (ScanWalk (h y) sight) (λ T. ScanOk p T sight (h y))) where
  abbrev compute : Compute X → Compute Rex
  compute c = record { column = c.column; expr = f c.expr }

  abbrev compute_part : Compute Rex → Compute RexPart
  compute_part c = record { column = c.column; expr = rex_part c.expr }

  abbrev parts : List X → List RexPart
  parts xs = map rex_part (map f xs)

  abbrev Taken : List X → Type 0
  Taken xs = all_so (map (RexTaken tables params) (map f xs)) ≡ true

  -- several expressions in the same sight
  all_ok : (xs : List X) → Taken xs → (sight : Sight) → Claims (walk_all (each (parts xs) sight)) (λ T. Each (λ x. RexOk p T sight (f x)) xs)
  all_ok [] taken sight = claims_none
  all_ok (x ∷ xs) taken sight = claims_more (each (parts xs) sight) (rex_ok x (first_of _ _ taken) sight) (all_ok xs (second_of _ _ taken) sight)

  operands : (T : Typing) (sight : Sight) (slots : Slots) → SightAgrees T sight → SlotsFit sight slots → (xs : List X) → Each (λ x. RexOk p T sight (f x)) xs →
      Operands (types (parts xs)) (map (λ x. p.rex x slots) (map f xs))
  operands T sight slots agree fit [] each = tt
  operands T sight slots agree fit (x ∷ xs) each = (each.0.gives agree slots fit, operands T sight slots agree fit xs each.1)

  -- a node without parts
  leaf : {order : Order} (z : Rex-F Rex Scan) (sight : Sight) → (InOrder order → (slots : Slots) → SlotsFit sight slots → Sure (rex_means tables params p z slots) (Of (rex_type_layer z))) →
      Claims (at_node order [] []) (λ T. RexNodeOk tables params p T sight z)
  leaf z sight give = claims_node [] [] (λ T o made none. record { gives = λ agree slots fit. give o slots fit }) claims_none

  -- a node over operands in its own sight
  over_operands : {order : Order} (z : Rex-F Rex Scan) (xs : List X) → Taken xs → (sight : Sight) →
      (InOrder order → (slots : Slots) → Operands (types (parts xs)) (map (λ x. p.rex x slots) (map f xs)) → Sure (rex_means tables params p z slots) (Of (rex_type_layer z))) →
      Claims (at_node order [] (each (parts xs) sight)) (λ T. RexNodeOk tables params p T sight z)
  over_operands z xs taken sight give =
      claims_node [] (each (parts xs) sight) (λ T o made ok. record { gives = λ agree slots fit. give o slots (operands T sight slots agree fit xs ok) }) (all_ok xs taken sight)

  -- a node over a subquery
  over_query : {order : Order} (z : Rex-F Rex Scan) (y : Y) → (ScanTaken tables params (h y) && true) ≡ true → (sight : Sight) →
      (InOrder order → (T : Typing) (slots : Slots) → Agrees T (columns (h y)) → Sure (p.scan (h y) slots) (TableFits T (columns (h y))) → Sure (rex_means tables params p z slots) (Of (rex_type_layer z))) →
      Claims (at_node order [] (ScanWalk (h y) (below sight) ∷ [])) (λ T. RexNodeOk tables params p T sight z)
  over_query z y taken sight give =
      claims_node [] (ScanWalk (h y) (below sight) ∷ [])
      (λ T o made ok. record { gives = λ agree slots fit. give o T slots ok.0.agrees (ok.0.gives agree slots (below_fits sight slots fit)) })
      (claims_more [] (scan_ok y (first_of _ _ taken) (below sight)) claims_none)

  -- the column that a subquery takes has this type
  taken_by : (T : Typing) (column : ColumnRef) (y : Y) (test : SqlType → Bool) (others : Bool) → Agrees T (columns (h y)) → (sees column (columns (h y)) && others) ≡ true → if_seen column test (columns (h y)) ≡ true → (u : Table) →
      TableFits T (columns (h y)) u → (type : SqlType) × (test type ≡ true) × Each (Of type) (column_values column.id.0 u)
  taken_by T column y test others agree seen typed u fit = taken_values T (columns (h y)) u column test agree fit (seen_such column test (columns (h y)) (first_of _ _ seen) typed)

  -- the columns of a Let, and its expression
  let_ok : (cs : List (Compute X)) (x : X) → all_so (exprs_of (map (λ c. record { column = c.column; expr = RexTaken tables params c.expr }) (map compute cs)) ++ RexTaken tables params (f x) ∷ []) ≡ true → (sight : Sight) →
      Claims (walk_all (let_walks (map compute_part (map compute cs)) (rex_part (f x)) sight)) (λ T. LetOk p T sight (map compute cs) (f x))
  let_ok [] x taken sight = claims_map (λ T ok. ok.0) (claims_more [] (rex_ok x (first_of _ _ taken) sight) claims_none)
  let_ok (c ∷ cs) x taken sight =
      claims_more (let_walks (map compute_part (map compute cs)) (rex_part (f x)) (with_column sight c.column))
      (claims_node (c.column ∷ []) (RexWalk (f c.expr) sight ∷ []) (λ T o made ok. record { typed = o.typed; agrees = made.0; expr = ok.0 }) (claims_more [] (rex_ok c.expr (first_of _ _ taken) sight) claims_none))
      (let_ok cs x (second_of _ _ taken) (with_column sight c.column))

  over_let : (type : SqlType) (cs : List (Compute X)) (x : X) → all_so (exprs_of (map (λ c. record { column = c.column; expr = RexTaken tables params c.expr }) (map compute cs)) ++ RexTaken tables params (f x) ∷ []) ≡ true → (sight : Sight) →
      Claims (rex_walk (t.Let type (map compute_part (map compute cs)) (rex_part (f x))) sight) (λ T. RexNodeOk tables params p T sight (t.Let type (map compute cs) (f x)))
  over_let type cs x taken sight =
      claims_node [] (let_walks (map compute_part (map compute cs)) (rex_part (f x)) sight)
      (λ T o made ok. record { gives = λ agree slots fit. of_same type (rex_type (f x)) _ o.typed (let_fits tables params p T sight slots fit (map compute cs) (f x) ok agree) }) (let_ok cs x taken sight)

  over_sought : (type : SqlType) (column : ColumnRef) (outer : List ColumnRef) (x : X) (y : Y) → (RexTaken tables params (f x) && (ScanTaken tables params (h y) && true)) ≡ true → (sight : Sight) →
      Claims (rex_walk (t.InQuery type column outer (rex_part (f x)) (scan_part (h y))) sight) (λ T. RexNodeOk tables params p T sight (t.InQuery type column outer (f x) (h y)))
  over_sought type column outer x y taken sight =
      let second = second_of (RexTaken tables params (f x)) (ScanTaken tables params (h y) && true) taken in
      claims_node [] (RexWalk (f x) sight ∷ ScanWalk (h y) (below sight) ∷ [])
      (λ T o made ok. record {
        gives = λ agree slots fit.
            sure_then (sure_both (ok.0.gives agree slots fit) (ok.1.0.gives agree slots (below_fits sight slots fit))) (λ both so. sure_gives _ (of_type type ty.Bool _
            (first_of _ _ (taken_by T column y (λ taken. same_type type ty.Bool && same_type taken (rex_type (f x))) _ ok.1.0.agrees o.seen o.typed both.1 so.1).1)
            (among_fits both.0 (column_values column.id.0 both.1))));
      })
      (claims_more (ScanWalk (h y) (below sight) ∷ []) (rex_ok x (first_of _ _ taken) sight) (claims_more [] (scan_ok y (first_of _ _ second) (below sight)) claims_none))

  pub rex_claims : (z : Rex-F X Y) (sight : Sight) → fitting_rex tables params (map-Rex Rex Scan Bool Bool (RexTaken tables params) (ScanTaken tables params) (map-Rex X Y Rex Scan f h z)) ≡ true →
      Claims (rex_walk (map-Rex Rex Scan RexPart ScanPart rex_part scan_part (map-Rex X Y Rex Scan f h z)) sight) (λ T. RexNodeOk tables params p T sight (map-Rex X Y Rex Scan f h z))
  rex_claims (t.Literal v type) sight taken = leaf (t.Literal v type) sight (λ o slots fit. sure_gives v o.typed)
  rex_claims (t.Parameter name type) sight taken = leaf (t.Parameter name type) sight (λ o slots fit. sure_gives _ (param_ok params name type taken))
  rex_claims (t.Column column type) sight taken =
      leaf (t.Column column type) sight (λ o slots fit. sure_gives _ (column_ok column type sight.inner slots.values (each_left _ sight.inner sight.outer fit.values) o.seen))
  rex_claims (t.Outer column type) sight taken =
      leaf (t.Outer column type) sight (λ o slots fit. sure_gives _ (column_ok column type sight.outer slots.values (each_right _ sight.inner sight.outer fit.values) o.seen))
  rex_claims (t.Call s type xs) sight taken =
      over_operands (t.Call s type (map f xs)) xs taken sight (λ o slots each. sure_then (gather_fits _ _ each) (λ values fit. sure_just _ (called answers s type (parts xs) values o.typed o.shaped fit)))
  rex_claims (t.SafeCall s type xs) sight taken =
      over_operands (t.SafeCall s type (map f xs)) xs taken sight (λ o slots each. sure_then (gather_fits _ _ each) (λ values fit. sure_just _ (or_null_ok type _ (called answers s type (parts xs) values o.typed o.shaped fit))))
  rex_claims (t.Cast type x) sight taken =
      over_operands (t.Cast type (f x)) (x ∷ []) taken sight (λ o slots each. sure_then each.0 (λ v fit. sure_just _ (converted_ok (rex_type (f x)) type v o.typed fit)))
  rex_claims (t.SafeCast type x) sight taken =
      over_operands (t.SafeCast type (f x)) (x ∷ []) taken sight (λ o slots each. sure_then each.0 (λ v fit. sure_just _ (or_null_ok type _ (converted_ok (rex_type (f x)) type v o.typed fit))))
  rex_claims (t.If type xs) sight taken = over_operands (t.If type (map f xs)) xs taken sight (λ o slots each. if_fits type _ (first_types (ty.Bool ∷ type ∷ type ∷ []) _ _ o.typed each))
  rex_claims (t.Case type xs) sight taken = over_operands (t.Case type (map f xs)) xs taken sight (λ o slots each. case_fits type _ _ o.typed each)
  rex_claims (t.Coalesce type xs) sight taken = over_operands (t.Coalesce type (map f xs)) xs taken sight (λ o slots each. first_fits type _ (all_of type _ _ o.typed each))
  rex_claims (t.And type xs) sight taken = over_operands (t.And type (map f xs)) xs taken sight (λ o slots each. bool_as type _ (first_of _ _ o.typed) (decided_fits false _))
  rex_claims (t.Or type xs) sight taken = over_operands (t.Or type (map f xs)) xs taken sight (λ o slots each. bool_as type _ (first_of _ _ o.typed) (decided_fits true _))
  rex_claims (t.IfError type xs) sight taken = over_operands (t.IfError type (map f xs)) xs taken sight (λ o slots each. caught_fits type _ (all_of type _ _ o.typed each))
  rex_claims (t.IsError type xs) sight taken = over_operands (t.IsError type (map f xs)) xs taken sight (λ o slots each. of_same type ty.Bool _ o.typed (tried_fits (map (λ x. p.rex x slots) (map f xs))))
  rex_claims (t.NullIfError type xs) sight taken = over_operands (t.NullIfError type (map f xs)) xs taken sight (λ o slots each. caught_fits type _ (all_of type _ _ o.typed each))
  rex_claims (t.Raise type xs) sight taken = over_operands (t.Raise type (map f xs)) xs taken sight (λ o slots each. sure_behind (λ values. sure_just _ tt))
  rex_claims (t.InList x xs) sight taken = over_operands (t.InList (f x) (map f xs)) (x ∷ xs) taken sight (λ o slots each. list_fits _ _)
  rex_claims (t.InArray x a) sight taken = over_operands (t.InArray (f x) (f a)) (x ∷ a ∷ []) taken sight (λ o slots each. sure_behind (λ both. sure_gives _ (among_fits both.0 both.1)))
  rex_claims (t.Let type cs x) sight taken = over_let type cs x taken sight
  rex_claims (t.MakeArray type xs) sight taken =
      over_operands (t.MakeArray type (map f xs)) xs taken sight (λ o slots each. sure_then (gather_fits _ _ each) (λ values fit. sure_gives _ (make_array_fits type _ values o.typed fit)))
  rex_claims (t.MakeStruct type xs) sight taken =
      over_operands (t.MakeStruct type (map f xs)) xs taken sight (λ o slots each. sure_then (gather_fits _ _ each) (λ values fit. sure_gives _ (make_struct_fits type _ values o.typed o.shaped fit)))
  rex_claims (t.Field place type x) sight taken =
      over_operands (t.Field place type (f x)) (x ∷ []) taken sight (λ o slots each. sure_then each.0 (λ v fit. sure_gives _ (field_fits type (rex_type (f x)) place v o.typed fit)))
  rex_claims (t.Index form type a i) sight taken =
      over_operands (t.Index form type (f a) (f i)) (a ∷ i ∷ []) taken sight
      (λ o slots each. sure_then (sure_both each.0 each.1.0) (λ both fit. sure_just _ (subscript_ok type (rex_type (f a)) form both.0 both.1 (first_of _ _ o.typed) fit.0)))
  rex_claims (t.Scalar type column outer y) sight taken =
      over_query (t.Scalar type column outer (h y)) y taken sight (λ o T slots agree rows. sure_then rows (λ u fit. sure_just _
      (scalar_ok type _ (taken_by T column y (same_type type) _ agree o.seen o.typed u fit))))
  rex_claims (t.ArrayOf type column outer y) sight taken =
      over_query (t.ArrayOf type column outer (h y)) y taken sight (λ o T slots agree rows. sure_then rows (λ u fit. sure_gives _
      (array_ok type _ (taken_by T column y (λ taken. is_type taken (element_of type)) _ agree o.seen o.typed u fit))))
  rex_claims (t.Exists type outer y) sight taken =
      over_query (t.Exists type outer (h y)) y taken sight (λ o T slots agree rows. sure_behind (λ u. sure_gives _ (of_type type ty.Bool _ o.typed (bool_fits (not (is_empty u.rows))))))
  rex_claims (t.InQuery type column outer x y) sight taken = over_sought type column outer x y taken sight
