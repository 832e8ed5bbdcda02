-- The nodes of scans, one line a node: over parts that give rows of their columns, a node gives rows of its own.
use Rattle.std.proofs.Common.{◌≡◌, ℕ, Bool, true, ◌&&◌, List, [], ◌∷◌, ◌++◌, map, Option, None, Some, refl, sym, ap, subst}
use Rattle.sql_types.specs.declared.kinds.JoinKind.{JoinKind}
use Rattle.sql_types.specs.declared.rows.Param.{Param}
use Rattle.sql_types.specs.declared.sql_type.SqlType.TheVariants as ty
use Rattle.sql_types.specs.Outcome.{◌>>=◌}
use Rattle.sql_types.specs.Parted.{Each}
use Rattle.resolved_ast.specs.declared.column.ColumnRef.{ColumnRef}
use Rattle.resolved_ast.specs.declared.column.MadeColumn.{MadeColumn}
use Rattle.resolved_ast.specs.declared.rex.Compute.{Compute}
use Rattle.resolved_ast.specs.declared.rex.Rex.{Rex}
use Rattle.resolved_ast.specs.declared.rex.Rex.TheOpen.{Scan-F}
use Rattle.resolved_ast.specs.declared.rex.Rex.TheOpen as t
use Rattle.resolved_ast.specs.declared.scan.Cte.{Cte}
use Rattle.resolved_ast.specs.declared.scan.Scan.{Scan, map-Scan}
use Rattle.resolved_ast.specs.declared.scan.UnnestKind.{UnnestKind}
use Rattle.resolved_ast.specs.Columns.{columns, computed_columns, element_of, ids_of, listed, rex_type}
use Rattle.resolved_ast.specs.Fitting.{fitting_scan}
use Rattle.resolved_ast.specs.Flaws.{Sight, RexPart, ScanPart, walk_all, all_seen, computes, cte_seen, is_type, all_of_type, types_of, with_walks, with_cte, over, scan_walk, RexWalk, ScanWalk}
use Rattle.resolved_ast.specs.Meanings.{TableRows, Means, project_table, scan_rows, reordered}
use Rattle.resolved_ast.specs.Parts.{there, all_so, exprs_of, scans_of}
use Rattle.resolved_ast.specs.Slots.{Slots}
use Rattle.resolved_ast.proofs.FitLaws.{first_of, second_of}
use Rattle.resolved_ast.proofs.WalkLaws.{rex_part, scan_part}
use Rattle.tree_fits.proofs.WalkTypes.{Typing, Agrees, Claims, claims_map, claims_none, claims_more, claims_node}
use Rattle.tree_fits.proofs.Lists.{each_join}
use Rattle.tree_fits.proofs.RowFits.{TableFits}
use Rattle.tree_fits.proofs.Sure.{Sure, sure_just, sure_gives, sure_then, sure_both}
use Rattle.tree_fits.proofs.ScanRows.{all_listed}
use Rattle.tree_fits.proofs.FittingFolds.{RexTaken, ScanTaken}
use Rattle.tree_fits.proofs.NodeFacts.{RexOk, ScanOk, ScanNodeOk, node_columns}
use Rattle.tree_fits.proofs.FittingLet.{ComputeOk}
use Rattle.tree_fits.proofs.FittingCtes.{cte_part, WithOk, with_fits}
use Rattle.tree_fits.proofs.FittingUnnest.{unnest_fits}
use Rattle.tree_fits.proofs.FittingProject.{listed_each, project_fits}
use Rattle.tree_fits.proofs.FittingScans.{table_ok, reference_ok, reordered_fits, filter_fits, join_fits}

-- the columns of other expressions are the same
same_columns : {A B : Type 0} (g : A → B) (cs : List (Compute A)) → computed_columns (map (λ (c : Compute A). record { column = c.column; expr = g c.expr }) cs) ≡ computed_columns cs
same_columns g [] = refl
same_columns g (c ∷ cs) = ap (λ made. c.column ∷ made) (same_columns g cs)

module _ (tables : TableRows) (params : List Param) (p : Means) {X Y : Type 0} (f : X → Rex) (h : Y → Scan)
    (rex_ok : (x : X) → RexTaken tables params (f x) ≡ true → (sight : Sight) → Claims (RexWalk (f x) sight) (λ T. RexOk p T sight (f x)))
    (scan_ok : (y : Y) → ScanTaken tables params (h y) ≡ true → (sight : Sight) → Claims (ScanWalk (h y) sight) (λ T. ScanOk p T sight (h y))) where
  abbrev compute : Compute X → Compute Rex
  compute c = record { column = c.column; expr = f c.expr }

  abbrev compute_part : Compute Rex → Compute RexPart
  compute_part c = record { column = c.column; expr = rex_part c.expr }

  abbrev cte : Cte Y → Cte Scan
  cte c = record { number = c.number; columns = c.columns; scan = h c.scan }

  abbrev taken_compute : Compute Rex → Compute Bool
  taken_compute c = record { column = c.column; expr = RexTaken tables params c.expr }

  abbrev taken_cte : Cte Scan → Cte Bool
  taken_cte c = record { number = c.number; columns = c.columns; scan = ScanTaken tables params c.scan }

  -- a scan that keeps no order
  unordered : (T : Typing) (z : Scan-F Rex Scan) (made : List MadeColumn) (slots : Slots) → Sure (scan_rows tables params p z slots) (TableFits T made) →
      Sure (scan_rows tables params p z slots >>= reordered tables params p) (TableFits T made)
  unordered T z made slots rows = sure_then rows (λ u fit. reordered_fits tables params p T made u fit)

  -- ---- the columns of a Project

  computes_ok : (cs : List (Compute X)) → all_so (exprs_of (map taken_compute (map compute cs))) ≡ true → (sight : Sight) →
      Claims (walk_all (computes (map compute_part (map compute cs)) sight)) (λ T. Each (ComputeOk p T sight) (map compute cs))
  computes_ok [] taken sight = claims_none
  computes_ok (c ∷ cs) taken sight =
      claims_more (computes (map compute_part (map compute cs)) sight)
      (claims_node (c.column ∷ []) (RexWalk (f c.expr) sight ∷ []) (λ T o made ok. record { typed = o.typed; agrees = made.0; expr = ok.0 }) (claims_more [] (rex_ok c.expr (first_of _ _ taken) sight) claims_none))
      (computes_ok cs (second_of _ _ taken) sight)

  computed_agree : (T : Typing) (sight : Sight) (cs : List (Compute Rex)) → Each (ComputeOk p T sight) cs → Agrees T (computed_columns cs)
  computed_agree T sight [] each = tt
  computed_agree T sight (c ∷ cs) each = (each.0.agrees, computed_agree T sight cs each.1)

  -- what is computed says nothing of the columns
  made_by : (refs : List ColumnRef) (x : Scan) (cs : List (Compute Rex)) → listed refs (columns x ++ computed_columns cs) ≡ node_columns (t.Project refs x cs)
  made_by refs x cs = ap (λ made. listed refs (columns x ++ made)) (sym (same_columns (λ e. tt) cs))

  project_so : (T : Typing) (sight : Sight) (refs : List ColumnRef) (x : Scan) (cs : List (Compute Rex)) → all_seen refs (columns x ++ computed_columns cs) ≡ true → ScanOk p T sight x → Each (ComputeOk p T (over sight (columns x))) cs →
      ScanNodeOk tables params p T sight (t.Project refs x cs)
  project_so T sight refs x cs seen scan each = record {
    agrees = subst (Agrees T) (made_by refs x cs) (listed_each (λ (c : MadeColumn). T c.id.0 ≡ c.ty) refs (columns x ++ computed_columns cs)
        (each_join (λ (c : MadeColumn). T c.id.0 ≡ c.ty) (columns x) (computed_columns cs) scan.agrees (computed_agree T (over sight (columns x)) cs each)));
    gives = λ agree slots fit. unordered T (t.Project refs x cs) (node_columns (t.Project refs x cs)) slots
        (sure_then (scan.gives agree slots fit) (λ u rows. subst (λ made. Sure (project_table tables params p (ids_of refs) cs u slots) (TableFits T made)) (made_by refs x cs)
        (project_fits tables params p T sight slots refs cs (columns x) u seen scan.agrees each agree fit rows)));
  }

  project_node : (refs : List ColumnRef) (y : Y) (cs : List (Compute X)) (sight : Sight) → (ScanTaken tables params (h y) && all_so (exprs_of (map taken_compute (map compute cs)))) ≡ true →
      Claims (scan_walk (t.Project refs (scan_part (h y)) (map compute_part (map compute cs))) sight) (λ T. ScanNodeOk tables params p T sight (t.Project refs (h y) (map compute cs)))
  project_node refs y cs sight taken =
      let inside = over sight (columns (h y)) in
      claims_node [] (ScanWalk (h y) sight ∷ computes (map compute_part (map compute cs)) inside)
      (λ T o made ok. project_so T sight refs (h y) (map compute cs)
      (subst (λ made. all_seen refs (columns (h y) ++ made) ≡ true) (same_columns rex_part (map compute cs)) o.seen) ok.0 ok.1)
      (claims_more (computes (map compute_part (map compute cs)) inside) (scan_ok y (first_of _ _ taken) sight) (computes_ok cs (second_of _ _ taken) inside))

  -- ---- the queries of a WITH list

  with_ok : (earlier : List ℕ) (cs : List (Cte Y)) (y : Y) → all_so (scans_of (map taken_cte (map cte cs)) ++ ScanTaken tables params (h y) ∷ []) ≡ true → (sight : Sight) →
      Claims (walk_all (with_walks earlier (map cte_part (map cte cs)) (scan_part (h y)) sight)) (λ T. WithOk p T sight (map cte cs) (h y))
  with_ok earlier [] y taken sight = claims_map (λ T ok. ok.0) (claims_more [] (scan_ok y (first_of _ _ taken) sight) claims_none)
  with_ok earlier (c ∷ cs) y taken sight =
      claims_more (with_walks (c.number ∷ earlier) (map cte_part (map cte cs)) (scan_part (h y)) (with_cte sight (cte_seen (cte_part (cte c)))))
      (claims_node [] (ScanWalk (h c.scan) sight ∷ []) (λ T o made ok. record { seen = o.seen; scan = ok.0 }) (claims_more [] (scan_ok c.scan (first_of _ _ taken) sight) claims_none))
      (with_ok (c.number ∷ earlier) cs y (second_of _ _ taken) (with_cte sight (cte_seen (cte_part (cte c)))))

  with_agrees : (T : Typing) (cs : List (Cte Scan)) (x : Scan) (sight : Sight) → WithOk p T sight cs x → Agrees T (columns x)
  with_agrees T [] x sight ok = ok.agrees
  with_agrees T (c ∷ cs) x sight ok = with_agrees T cs x (with_cte sight (cte_seen (cte_part c))) ok.1

  with_node : (cs : List (Cte Y)) (y : Y) (sight : Sight) → all_so (scans_of (map taken_cte (map cte cs)) ++ ScanTaken tables params (h y) ∷ []) ≡ true →
      Claims (scan_walk (t.With (map cte_part (map cte cs)) (scan_part (h y))) sight) (λ T. ScanNodeOk tables params p T sight (t.With (map cte cs) (h y)))
  with_node cs y sight taken =
      claims_node [] (with_walks [] (map cte_part (map cte cs)) (scan_part (h y)) sight)
      (λ T o made ok. record { agrees = with_agrees T (map cte cs) (h y) sight ok; gives = λ agree slots fit. with_fits tables params p T (map cte cs) (h y) sight slots ok agree fit })
      (with_ok [] cs y taken sight)

  -- ---- UNNEST and joins; a condition has no say in what its rows fit

  unnest_so : (T : Typing) (sight : Sight) (kind : UnnestKind) (element : MadeColumn) (offset : Option MadeColumn) (y : Y) (a : X) (condition : Option Rex) (tested : Bool) →
      ((is_type element.ty (element_of (rex_type (f a))) && all_of_type ty.Int64 (types_of (there offset))) && tested) ≡ true → Agrees T (element ∷ there offset) → ScanOk p T sight (h y) → RexOk p T (over sight (columns (h y))) (f a) →
      ScanNodeOk tables params p T sight (t.Unnest kind element offset (h y) (f a) condition)
  unnest_so T sight kind element offset y a condition tested typed made scan array = record {
    agrees = each_join (λ (c : MadeColumn). T c.id.0 ≡ c.ty) (columns (h y)) (element ∷ there offset) scan.agrees made;
    gives = λ agree slots fit. unordered T (t.Unnest kind element offset (h y) (f a) condition) (columns (h y) ++ element ∷ there offset) slots
        (sure_then (scan.gives agree slots fit) (λ u rows.
        unnest_fits tables params p T sight (columns (h y)) element offset (f a) kind condition u slots (first_of _ _ typed) scan.agrees made array agree fit rows));
  }

  join_so : (T : Typing) (sight : Sight) (kind : JoinKind) (y w : Y) (condition : Option Rex) → ScanOk p T sight (h y) → ScanOk p T sight (h w) → ScanNodeOk tables params p T sight (t.Join kind (h y) (h w) condition)
  join_so T sight kind y w condition left right = record {
    agrees = each_join (λ (c : MadeColumn). T c.id.0 ≡ c.ty) (columns (h y)) (columns (h w)) left.agrees right.agrees;
    gives = λ agree slots fit. unordered T (t.Join kind (h y) (h w) condition) (columns (h y) ++ columns (h w)) slots
        (sure_then (sure_both (left.gives agree slots fit) (right.gives agree slots fit)) (λ both so. join_fits tables params p T kind condition (columns (h y)) (columns (h w)) both.0 both.1 slots so.0 so.1));
  }

  -- ---- the nodes

  pub scan_claims : (z : Scan-F X Y) (sight : Sight) → fitting_scan tables params (map-Scan Rex Scan Bool Bool (RexTaken tables params) (ScanTaken tables params) (map-Scan X Y Rex Scan f h z)) ≡ true →
      Claims (scan_walk (map-Scan Rex Scan RexPart ScanPart rex_part scan_part (map-Scan X Y Rex Scan f h z)) sight) (λ T. ScanNodeOk tables params p T sight (map-Scan X Y Rex Scan f h z))
  scan_claims t.Single sight taken =
      claims_node [] [] (λ T o made none. record { agrees = tt; gives = λ agree slots fit. unordered T t.Single [] slots (sure_gives _ (record { rows = (refl, tt); listed = tt })) }) claims_none
  scan_claims (t.Table name number made_here) sight taken =
      claims_node made_here [] (λ T o made none. record {
        agrees = made;
        gives = λ agree slots fit. unordered T (t.Table name number made_here) made_here slots (sure_gives _ (table_ok T tables number made_here made taken));
      }) claims_none
  scan_claims (t.With cs y) sight taken = with_node cs y sight taken
  scan_claims (t.CteRef number made_here) sight taken =
      claims_node made_here [] (λ T o made none. record {
        agrees = made;
        gives = λ agree slots fit. unordered T (t.CteRef number made_here) made_here slots
            (sure_then (sure_just _ (reference_ok T sight slots number made_here o made fit)) (λ rows each. sure_gives _ (record { rows = each; listed = all_listed made_here })));
      }) claims_none
  scan_claims (t.Unnest kind element offset y a None) sight taken =
      let inside = over sight (columns (h y)) in
      claims_node (element ∷ there offset) (ScanWalk (h y) sight ∷ RexWalk (f a) inside ∷ [])
      (λ T o made ok. unnest_so T sight kind element offset y a None _ o.typed made ok.0 ok.1.0)
      (claims_more (RexWalk (f a) inside ∷ []) (scan_ok y (first_of _ _ taken) sight) (claims_more [] (rex_ok a (first_of _ _ (second_of (ScanTaken tables params (h y)) _ taken)) inside) claims_none))
  scan_claims (t.Unnest kind element offset y a (Some c)) sight taken =
      let inside = over sight (columns (h y)) in
      let further = over sight (columns (h y) ++ element ∷ there offset) in
      let rest = second_of (ScanTaken tables params (h y)) (RexTaken tables params (f a) && (RexTaken tables params (f c) && true)) taken in
      claims_node (element ∷ there offset) (ScanWalk (h y) sight ∷ RexWalk (f a) inside ∷ RexWalk (f c) further ∷ [])
      (λ T o made ok. unnest_so T sight kind element offset y a (Some (f c)) _ o.typed made ok.0 ok.1.0)
      (claims_more (RexWalk (f a) inside ∷ RexWalk (f c) further ∷ []) (scan_ok y (first_of _ _ taken) sight)
      (claims_more (RexWalk (f c) further ∷ []) (rex_ok a (first_of _ _ rest) inside) (claims_more [] (rex_ok c (first_of _ _ (second_of (RexTaken tables params (f a)) (RexTaken tables params (f c) && true) rest)) further) claims_none)))
  scan_claims (t.Join kind y w None) sight taken =
      claims_node [] (ScanWalk (h y) sight ∷ ScanWalk (h w) sight ∷ []) (λ T o made ok. join_so T sight kind y w None ok.0 ok.1.0)
      (claims_more (ScanWalk (h w) sight ∷ []) (scan_ok y (first_of _ _ taken) sight) (claims_more [] (scan_ok w (first_of _ _ (second_of (ScanTaken tables params (h y)) (ScanTaken tables params (h w) && true) taken)) sight) claims_none))
  scan_claims (t.Join kind y w (Some c)) sight taken =
      let inside = over sight (columns (h y) ++ columns (h w)) in
      let rest = second_of (ScanTaken tables params (h y)) (ScanTaken tables params (h w) && (RexTaken tables params (f c) && true)) taken in
      claims_node [] (ScanWalk (h y) sight ∷ ScanWalk (h w) sight ∷ RexWalk (f c) inside ∷ []) (λ T o made ok. join_so T sight kind y w (Some (f c)) ok.0 ok.1.0)
      (claims_more (ScanWalk (h w) sight ∷ RexWalk (f c) inside ∷ []) (scan_ok y (first_of _ _ taken) sight)
      (claims_more (RexWalk (f c) inside ∷ []) (scan_ok w (first_of _ _ rest) sight) (claims_more [] (rex_ok c (first_of _ _ (second_of (ScanTaken tables params (h w)) (RexTaken tables params (f c) && true) rest)) inside) claims_none)))
  scan_claims (t.Filter y x) sight taken =
      let inside = over sight (columns (h y)) in
      claims_node [] (ScanWalk (h y) sight ∷ RexWalk (f x) inside ∷ [])
      (λ T o made ok. record {
        agrees = ok.0.agrees;
        gives = λ agree slots fit. unordered T (t.Filter (h y) (f x)) (columns (h y)) slots (sure_then (ok.0.gives agree slots fit) (λ u rows. filter_fits tables params p T (columns (h y)) (f x) u slots rows));
      })
      (claims_more (RexWalk (f x) inside ∷ []) (scan_ok y (first_of _ _ taken) sight) (claims_more [] (rex_ok x (first_of _ _ (second_of (ScanTaken tables params (h y)) (RexTaken tables params (f x) && true) taken)) inside) claims_none))
  scan_claims (t.Project refs y cs) sight taken = project_node refs y cs sight taken
