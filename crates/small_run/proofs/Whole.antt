-- FROM, SELECT and the query, over parts that are planned.
use Rattle.std.proofs.Common.{◌≡◌, ℕ, Bool, true, false, not, ◌&&◌, Result, List, [], ◌∷◌, map, filter, Option, Some, None, Ok, Err, refl, sym, ap, ◌∙◌, subst}
use Rattle.std.specs.Prelude.{slice_index_or, if◌then◌else◌, is_none, IfOk}
use Rattle.std.specs.List.{list_all}
use Rattle.std.specs.Bool.{MatchBool}
use Rattle.sql_types.specs.declared.sql_type.Named.{Named}
use Rattle.sql_types.specs.declared.sql_type.SqlType.{SqlType}
use Rattle.sql_types.specs.declared.value.Value.{Value}
use Rattle.sql_types.specs.declared.value.Value.TheVariants.{Null}
use Rattle.sql_types.specs.Fits.{fits_row}
use Rattle.sql_types.specs.Same.{equal}
use Rattle.sql_types.specs.Outcome.{Outcome, Meaning, Gather, EachGives, goes_on, all_give}
use Rattle.sql_types.proofs.Orders.{arranged_refl}
use Rattle.sql_names.specs.Words.{same_name}
use Rattle.sql_ast.specs.declared.clauses.Name.{Name}
use Rattle.sql_ast.specs.declared.clauses.Item.{Item}
use Rattle.sql_ast.specs.declared.clauses.FilterPart.{FilterPart}
use Rattle.sql_ast.specs.declared.clauses.LimitPart.{LimitPart}
use Rattle.sql_ast.specs.declared.clauses.Sort.{Sort}
use Rattle.sql_ast.specs.declared.grouping.Groups.{Groups}
use Rattle.sql_ast.specs.declared.query.Cte.{Cte}
use Rattle.sql_ast.specs.declared.query.SetTerm.{SetTerm}
use Rattle.sql_ast.specs.declared.expr.Expr.{Expr}
use Rattle.sql_ast.specs.declared.expr.Expr.TheOpen as ast
use Rattle.sql_ast.specs.declared.expr.Expr.TheOpen.{Expr-F, Primary-F, Term-F, FromItem-F, Query-F, Select-F}
use Rattle.sql_ast.specs.declared.query.Primary.{Primary, out-Primary}
use Rattle.sql_ast.specs.declared.query.Term.{Term, out-Term}
use Rattle.sql_ast.specs.declared.query.FromItem.{FromItem, out-FromItem}
use Rattle.sql_ast.specs.declared.query.Joined.{Joined}
use Rattle.sql_ast.specs.declared.query.Query.{Query, out-Query}
use Rattle.sql_ast.specs.declared.query.Select.{Select, out-Select}
use Rattle.sql_catalog.specs.declared.entries.TableDef.{TableDef}
use Rattle.sql_rules.specs.declared.scope.Entry.{Entry}
use Rattle.sql_rules.specs.Tables.{Tables, table_values}
use Rattle.sql_rules.specs.Typing.{Checked, Sight, ◌>>=◌, table_type, primary_layer, first_only, plain_select, select_of, term_layer, plain_query, filter_layer, items_layer, inside, nothing_in_sight, typed, TypeFrom, TypePrimary, TypeTerm, TypeSelect, TypeQuery}
use Rattle.sql_rules.specs.Meaning.{Row, Frame, Env, within, empty_env, truth, keep_if, kept, table_frames, table_means, primary_means, first_means, row_means, select_means_of, plain_select_means, term_means, plain_query_means, meant, MeansExpr, MeansPrimary, MeansTerm, MeansSelect}
use Rattle.sql_rules.proofs.TypingLaws.{typed-primary, typed-from, typed-term, typed-select, typed-query}
use Rattle.sql_rules.proofs.MeaningLaws.{meant-primary, meant-from, meant-term, meant-select, meant-query}
use Rattle.small_run.specs.declared.form.NoPlan.{NoPlan}
use Rattle.small_run.specs.declared.form.NoPlan.TheVariants.{OtherForm, OutOfMemory}
use Rattle.small_run.specs.declared.form.Plan.{Plan}
use Rattle.small_run.specs.declared.parts.Test.{Test}
use Rattle.small_run.specs.declared.parts.Selected.{Selected}
use Rattle.small_run.specs.Plans.{one, picked, passes, answers, Plans}
use Rattle.small_run.specs.Parts.{Refused, scope_of, sight_of, is_table_name, is_select, is_empty, plain_parts, one_term, IsPrimary, IsTable, Tests, Selects, PlansText, MakesParts, MakesSelect, MakesQuery}
use Rattle.small_run.proofs.Rows.{both, one_of_each}
use Rattle.small_run.proofs.Terms.{refused_then}

-- a row of the table, as a binding
abbrev frame_of : TableDef → List Value → Frame
frame_of t row = record { scope = scope_of t; values = table_values row }

-- ---- FROM

abbrev pub Place : Type 0
Place = Primary-F Expr Primary Term FromItem Joined Query Select

module _ (t : TableDef) (p : Primary) where
  primary_types : (x : Place) → out-Primary p ≡ x → TypePrimary (one t) p nothing_in_sight ≡ primary_layer (one t) (typed (one t)) x nothing_in_sight
  primary_types x is = ap (λ (k : Sight → Checked (List Entry)). k nothing_in_sight) (typed-primary (one t) p) ∙ ap (λ (y : Place). primary_layer (one t) (typed (one t)) y nothing_in_sight) is

  is_primary : (name : Name) (place : ℕ) → out-Primary p ≡ ast.Table name None None place → same_name t.name name.text ≡ true → IsPrimary t p
  is_primary name place is same = record {
    checked = primary_types (ast.Table name None None place) is ∙ ap (λ (b : Bool). table_type (one t) (typed (one t)) place (if b then Some (0, t) else None)) same;
    means = λ rows.
        subst (λ (m : Env → Meaning (List Frame)). m empty_env (Ok (table_frames (one t) (rows ∷ []) t rows))) (sym (meant-primary (one t) (rows ∷ []) p))
        (subst (λ (y : Place). primary_means (one t) (rows ∷ []) (meant (one t) (rows ∷ [])) y empty_env (Ok (table_frames (one t) (rows ∷ []) t rows))) (sym is)
        (subst (λ (b : Bool). table_means (one t) (rows ∷ []) (if b then Some (0, t) else None) (Ok (table_frames (one t) (rows ∷ []) t rows))) (sym same) refl));
  }

  other_table : (name : Name) (place : ℕ) → out-Primary p ≡ ast.Table name None None place → same_name t.name name.text ≡ false → Refused (TypePrimary (one t) p nothing_in_sight)
  other_table name place is apart =
      ((5, place), primary_types (ast.Table name None None place) is ∙ ap (λ (b : Bool). table_type (one t) (typed (one t)) place (if b then Some (0, t) else None)) apart)

  pub by_name : (name : Name) (place : ℕ) (b : Bool) → out-Primary p ≡ ast.Table name None None place → b ≡ same_name t.name name.text → MatchBool b (IsPrimary t p) (Refused (TypePrimary (one t) p nothing_in_sight))
  by_name name place true is same = is_primary name place is (sym same)
  by_name name place false is apart = other_table name place is (sym apart)

  no_table : (x : Place) → is_table_name x ≡ false → Refused (primary_layer (one t) (typed (one t)) x nothing_in_sight)
  no_table (ast.Table name None None place) h = absurd cc
  no_table _ h = ((2, 0), refl)

  pub not_table : is_table_name (out-Primary p) ≡ false → Refused (TypePrimary (one t) p nothing_in_sight)
  not_table h = let b = no_table (out-Primary p) h in (b.0, primary_types (out-Primary p) refl ∙ b.1)

module _ (t : TableDef) (from : FromItem) where
  from_types : (js : List Joined) → (out-FromItem from).rest ≡ js → TypeFrom (one t) from nothing_in_sight ≡ first_only (one t) (typed (one t)) js (TypePrimary (one t) (out-FromItem from).first nothing_in_sight)
  from_types js is = ap (λ (k : Sight → Checked (List Entry)). k nothing_in_sight) (typed-from (one t) from) ∙ ap (λ (js : List Joined). first_only (one t) (typed (one t)) js (TypePrimary (one t) (out-FromItem from).first nothing_in_sight)) is

  is_from : (out-FromItem from).rest ≡ [] → IsPrimary t (out-FromItem from).first → IsTable t from
  is_from alone first = record {
    checked = from_types [] alone ∙ first.checked;
    means = λ rows.
        subst (λ (m : Env → Meaning (List Frame)). m empty_env (Ok (table_frames (one t) (rows ∷ []) t rows))) (sym (meant-from (one t) (rows ∷ []) from))
        (subst (λ (js : List Joined). first_means (one t) (rows ∷ []) (meant (one t) (rows ∷ [])) js (MeansPrimary (one t) (rows ∷ []) (out-FromItem from).first empty_env) (Ok (table_frames (one t) (rows ∷ []) t rows))) (sym alone)
        (first.means rows));
  }

  first_refused : (out-FromItem from).rest ≡ [] → Refused (TypePrimary (one t) (out-FromItem from).first nothing_in_sight) → Refused (TypeFrom (one t) from nothing_in_sight)
  first_refused alone b = (b.0, from_types [] alone ∙ b.1)

  joined_at : (js : List Joined) → (out-FromItem from).rest ≡ js → (js ≡ [] → ⊥) → Refused (TypeFrom (one t) from nothing_in_sight)
  joined_at [] is some = absurd (some refl)
  joined_at (j ∷ js) is some = ((2, 0), from_types (j ∷ js) is)

  pub joined_refused : ((out-FromItem from).rest ≡ [] → ⊥) → Refused (TypeFrom (one t) from nothing_in_sight)
  joined_refused some = joined_at _ refl some

  pub by_first : (b : Bool) → (out-FromItem from).rest ≡ [] → MatchBool b (IsPrimary t (out-FromItem from).first) (Refused (TypePrimary (one t) (out-FromItem from).first nothing_in_sight)) →
      MatchBool b (IsTable t from) (Refused (TypeFrom (one t) from nothing_in_sight))
  by_first true alone first = is_from alone first
  by_first false alone refused = first_refused alone refused

-- ---- FROM, WHERE and the select list

keep_filtered : (b : Bool) (t : TableDef) (row : List Value) (rows : List (List Value)) → keep_if b (frame_of t row) (map (frame_of t) rows) ≡ map (frame_of t) (if b then row ∷ rows else rows)
keep_filtered true t row rows = refl
keep_filtered false t row rows = refl

all_kept : (b : Bool) (test : List Value → Bool) (row : List Value) (rows : List (List Value)) → test row ≡ true → list_all test rows ≡ true → list_all test (if b then row ∷ rows else rows) ≡ true
all_kept true test row rows p q = one_of_each (test row) (list_all test rows) p q
all_kept false test row rows p q = q

all_filtered : (test keep : List Value → Bool) (rows : List (List Value)) → list_all test rows ≡ true → list_all test (filter keep rows) ≡ true
all_filtered test keep [] h = h
all_filtered test keep (row ∷ rows) h = let p = both (test row) (list_all test rows) h in all_kept (keep row) test row (filter keep rows) p.0 (all_filtered test keep rows p.1)

module _ (t : TableDef) (test : Test) where
  -- the value of the condition at a row
  abbrev tested : List Value → Value
  tested row = truth (equal (slice_index_or row test.place Null) test.literal)

  kept_rows : (rows : List (List Value)) → kept (map (frame_of t) rows) (map tested rows) ≡ map (frame_of t) (filter (passes test.place test.literal) rows)
  kept_rows [] = refl
  kept_rows (row ∷ rows) =
      ap (λ (fs : List Frame). keep_if (passes test.place test.literal row) (frame_of t row) fs) (kept_rows rows)
      ∙ keep_filtered (passes test.place test.literal row) t row (filter (passes test.place test.literal) rows)

  each_tests : (tables : Tables) (e : Expr) → Tests t e test → (rows : List (List Value)) → list_all (fits_row t.columns) rows ≡ true →
      EachGives (map (λ frame. MeansExpr (one t) tables e (within empty_env frame)) (map (frame_of t) rows)) (map tested rows)
  each_tests tables e tests [] h = tt
  each_tests tables e tests (row ∷ rows) h = let p = both (fits_row t.columns row) (list_all (fits_row t.columns) rows) h in (tests.means tables row p.0, each_tests tables e tests rows p.1)

each_row : (t : TableDef) (tables : Tables) (items : List (Item Expr)) (s : Selected) → Selects t items s → (rows : List (List Value)) → list_all (fits_row t.columns) rows ≡ true →
    EachGives (map (λ frame. row_means (one t) tables (meant (one t) tables) items (within empty_env frame)) (map (frame_of t) rows)) (map (picked s.slots) rows)
each_row t tables items s selects [] h = tt
each_row t tables items s selects (row ∷ rows) h = let p = both (fits_row t.columns row) (list_all (fits_row t.columns) rows) h in (selects.means tables row p.0, each_row t tables items s selects rows p.1)

module _ (t : TableDef) (from : FromItem) (e : Expr) (items : List (Item Expr)) where
  abbrev parts_type : Checked (List (Named SqlType))
  parts_type = select_of (one t) (typed (one t)) from e items nothing_in_sight

  pub from_refused : Refused (TypeFrom (one t) from nothing_in_sight) → Refused parts_type
  from_refused b = refused_then (TypeFrom (one t) from nothing_in_sight) (λ scope. filter_layer (one t) (typed (one t)) e (inside nothing_in_sight scope) >>= (λ _. items_layer (one t) (typed (one t)) items (inside nothing_in_sight scope))) b

  module _ (is : IsTable t from) where
    after_from : parts_type ≡ (filter_layer (one t) (typed (one t)) e (sight_of t) >>= (λ _. items_layer (one t) (typed (one t)) items (sight_of t)))
    after_from = ap (λ (c : Checked (List Entry)). c >>= (λ scope. filter_layer (one t) (typed (one t)) e (inside nothing_in_sight scope) >>= (λ _. items_layer (one t) (typed (one t)) items (inside nothing_in_sight scope)))) is.checked

    pub test_refused : Refused (filter_layer (one t) (typed (one t)) e (sight_of t)) → Refused parts_type
    test_refused b = let r = refused_then (filter_layer (one t) (typed (one t)) e (sight_of t)) (λ _. items_layer (one t) (typed (one t)) items (sight_of t)) b in (r.0, after_from ∙ r.1)

    after_test : (test : Test) → Tests t e test → parts_type ≡ items_layer (one t) (typed (one t)) items (sight_of t)
    after_test test tests = after_from ∙ ap (λ (c : Checked (Unit {0})). c >>= (λ _. items_layer (one t) (typed (one t)) items (sight_of t))) tests.checked

    pub items_refused : (test : Test) → Tests t e test → Refused (items_layer (one t) (typed (one t)) items (sight_of t)) → Refused parts_type
    items_refused test tests b = (b.0, after_test test tests ∙ b.1)

    pub plans_parts : (test : Test) (s : Selected) (p : Plan) → Tests t e test → Selects t items s → p ≡ record { columns = s.columns; slots = s.slots; test = test.place; literal = test.literal } →
        PlansText t parts_type (λ tables. select_means_of (one t) tables (meant (one t) tables) from e items empty_env) p
    plans_parts test s p tests selects made =
        subst (λ (p : Plan). PlansText t parts_type (λ tables. select_means_of (one t) tables (meant (one t) tables) from e items empty_env) p) (sym made)
        (record {
          checked = after_test test tests ∙ selects.checked;
          permitted = λ rows fit.
              goes_on {x = map (frame_of t) rows} (is.means rows)
              (goes_on {x = map (tested t test) rows} (all_give (each_tests t test (rows ∷ []) e tests rows fit))
              (subst (λ (fs : List Frame). Gather (map (λ frame. row_means (one t) (rows ∷ []) (meant (one t) (rows ∷ [])) items (within empty_env frame)) fs) (Ok (map (picked s.slots) (filter (passes test.place test.literal) rows)))) (sym (kept_rows t test rows))
              (all_give (each_row t (rows ∷ []) items s selects (filter (passes test.place test.literal) rows) (all_filtered (fits_row t.columns) (passes test.place test.literal) rows fit)))));
          fits = λ row fit. selects.fits row fit;
        })

-- ---- SELECT

abbrev Columns : Type 0
Columns = List (Named SqlType)

abbrev Forms : Type 0
Forms = Select-F Expr Primary Term FromItem Joined Query Select

plain : Bool → Bool → Option (Groups Expr) → Option (FilterPart Expr) → Bool
plain d a g h = not d && not a && is_none g && is_none h

module _ (t : TableDef) where
  plain_types : (d a : Bool) (g : Option (Groups Expr)) (h : Option (FilterPart Expr)) (from : FromItem) (test : Expr) (items : List (Item Expr)) → plain d a g h ≡ true →
      plain_select (one t) (typed (one t)) d a (Some from) (Some test) g h items nothing_in_sight ≡ select_of (one t) (typed (one t)) from test items nothing_in_sight
  unfolding plain
  plain_types false false None None from test items is = refl
  plain_types _ _ _ _ from test items is = absurd cc

  plain_means : (tables : Tables) (d a : Bool) (g : Option (Groups Expr)) (h : Option (FilterPart Expr)) (from : FromItem) (test : Expr) (items : List (Item Expr)) (o : Outcome (List Row)) → plain d a g h ≡ true →
      select_means_of (one t) tables (meant (one t) tables) from test items empty_env o → plain_select_means (one t) tables (meant (one t) tables) d a (Some from) (Some test) g h items empty_env o
  unfolding plain
  plain_means tables false false None None from test items o is holds = holds
  plain_means tables _ _ _ _ from test items o is holds = absurd cc

  unplain : (d a : Bool) (f : Option FromItem) (w : Option Expr) (g : Option (Groups Expr)) (h : Option (FilterPart Expr)) (items : List (Item Expr)) → plain d a g h ≡ false →
      Refused (plain_select (one t) (typed (one t)) d a f w g h items nothing_in_sight)
  unfolding plain
  unplain false false (Some from) (Some test) None None items is = absurd cc
  unplain _ _ _ _ _ _ items is = ((2, 0), refl)

  no_from : (d a : Bool) (w : Option Expr) (g : Option (Groups Expr)) (h : Option (FilterPart Expr)) (items : List (Item Expr)) → Refused (plain_select (one t) (typed (one t)) d a None w g h items nothing_in_sight)
  no_from false false (Some test) None None items = ((2, 0), refl)
  no_from _ _ _ _ _ items = ((2, 0), refl)

  no_where : (d a : Bool) (from : FromItem) (g : Option (Groups Expr)) (h : Option (FilterPart Expr)) (items : List (Item Expr)) → Refused (plain_select (one t) (typed (one t)) d a (Some from) None g h items nothing_in_sight)
  no_where false false from None None items = ((2, 0), refl)
  no_where _ _ from _ _ items = ((2, 0), refl)

module _ (t : TableDef) (s : Select) where
  -- by its FROM and its WHERE
  abbrev by_parts : Option FromItem → Option Expr → Checked Columns
  by_parts f w = plain_select (one t) (typed (one t)) (out-Select s).distinct (out-Select s).as_struct f w (out-Select s).grouping (out-Select s).having (out-Select s).items nothing_in_sight

  select_is : TypeSelect (one t) s nothing_in_sight ≡ by_parts (out-Select s).from (out-Select s).filter
  select_is = ap (λ (k : Sight → Checked Columns). k nothing_in_sight) (typed-select (one t) s)

  pub parts_refused : plain_parts (out-Select s) ≡ false → Refused (TypeSelect (one t) s nothing_in_sight)
  unfolding plain
  parts_refused h = let b = unplain t (out-Select s).distinct (out-Select s).as_struct (out-Select s).from (out-Select s).filter (out-Select s).grouping (out-Select s).having (out-Select s).items h in (b.0, select_is ∙ b.1)

  pub from_missing : (out-Select s).from ≡ None → Refused (TypeSelect (one t) s nothing_in_sight)
  from_missing none =
      let b = no_from t (out-Select s).distinct (out-Select s).as_struct (out-Select s).filter (out-Select s).grouping (out-Select s).having (out-Select s).items in
      (b.0, select_is ∙ ap (λ (f : Option FromItem). by_parts f (out-Select s).filter) none ∙ b.1)

  pub where_missing : (from : FromItem) → (out-Select s).from ≡ Some from → (out-Select s).filter ≡ None → Refused (TypeSelect (one t) s nothing_in_sight)
  where_missing from some none =
      let b = no_where t (out-Select s).distinct (out-Select s).as_struct from (out-Select s).grouping (out-Select s).having (out-Select s).items in
      (b.0, select_is ∙ ap (λ (f : Option FromItem). by_parts f (out-Select s).filter) some ∙ ap (by_parts (Some from)) none ∙ b.1)

  module _ (from : FromItem) (test : Expr) (items : List (Item Expr)) (parts : plain_parts (out-Select s) ≡ true) (is_from : (out-Select s).from ≡ Some from) (is_test : (out-Select s).filter ≡ Some test) (is_items : items ≡ (out-Select s).items) where
    types_of_parts : TypeSelect (one t) s nothing_in_sight ≡ select_of (one t) (typed (one t)) from test items nothing_in_sight
    unfolding plain
    types_of_parts =
        select_is ∙ ap (λ (f : Option FromItem). by_parts f (out-Select s).filter) is_from ∙ ap (by_parts (Some from)) is_test
        ∙ plain_types t (out-Select s).distinct (out-Select s).as_struct (out-Select s).grouping (out-Select s).having from test (out-Select s).items parts
        ∙ ap (λ (is : List (Item Expr)). select_of (one t) (typed (one t)) from test is nothing_in_sight) (sym is_items)

    means_of_parts : (tables : Tables) (o : Outcome (List Row)) → select_means_of (one t) tables (meant (one t) tables) from test items empty_env o → MeansSelect (one t) tables s empty_env o
    unfolding plain
    means_of_parts tables o holds =
        subst (λ (m : Env → Meaning (List Row)). m empty_env o) (sym (meant-select (one t) tables s))
        (subst (λ (f : Option FromItem). plain_select_means (one t) tables (meant (one t) tables) (out-Select s).distinct (out-Select s).as_struct f (out-Select s).filter (out-Select s).grouping (out-Select s).having (out-Select s).items empty_env o) (sym is_from)
        (subst (λ (w : Option Expr). plain_select_means (one t) tables (meant (one t) tables) (out-Select s).distinct (out-Select s).as_struct (Some from) w (out-Select s).grouping (out-Select s).having (out-Select s).items empty_env o) (sym is_test)
        (plain_means t tables (out-Select s).distinct (out-Select s).as_struct (out-Select s).grouping (out-Select s).having from test (out-Select s).items o parts
        (subst (λ (is : List (Item Expr)). select_means_of (one t) tables (meant (one t) tables) from test is empty_env o) is_items holds))))

    pub select_by_parts : (result : Result Plan NoPlan) → MakesParts t from test items result → MakesSelect t s result
    select_by_parts (Ok p) made = record {
      checked = types_of_parts ∙ made.checked;
      permitted = λ rows fit. means_of_parts (rows ∷ []) (Ok (answers p rows)) (made.permitted rows fit);
      fits = made.fits;
    }
    select_by_parts (Err OtherForm) b = (b.0, types_of_parts ∙ b.1)
    select_by_parts (Err OutOfMemory) made = tt

-- ---- the query

module _ (t : TableDef) where
  query_refused : (c : List (Cte Query)) (r : List (SetTerm Term)) (o : List (Sort Expr)) (l : Option (LimitPart Expr)) (first : Checked Columns) → Refused first → Refused (plain_query (one t) (typed (one t)) c r o l first)
  query_refused [] [] [] None first b = b
  query_refused _ _ _ _ first b = ((2, 0), refl)

  more_refused : (c : List (Cte Query)) (r : List (SetTerm Term)) (o : List (Sort Expr)) (l : Option (LimitPart Expr)) (first : Checked Columns) → (is_empty c && is_empty r && is_empty o && is_none l) ≡ false →
      Refused (plain_query (one t) (typed (one t)) c r o l first)
  more_refused [] [] [] None first h = absurd cc
  more_refused _ _ _ _ first h = ((2, 0), refl)

  query_types : (c : List (Cte Query)) (r : List (SetTerm Term)) (o : List (Sort Expr)) (l : Option (LimitPart Expr)) (first : Checked Columns) → (is_empty c && is_empty r && is_empty o && is_none l) ≡ true →
      plain_query (one t) (typed (one t)) c r o l first ≡ first
  query_types [] [] [] None first h = refl
  query_types _ _ _ _ first h = absurd cc

  query_permits : (tables : Tables) (c : List (Cte Query)) (r : List (SetTerm Term)) (o : List (Sort Expr)) (l : Option (LimitPart Expr)) (first : Meaning (List Row)) (rows : List Row) →
      (is_empty c && is_empty r && is_empty o && is_none l) ≡ true → first (Ok rows) → plain_query_means (one t) tables (meant (one t) tables) c r o l first (Ok rows)
  query_permits tables [] [] [] None first rows h holds = goes_on {x = rows} holds (rows, arranged_refl rows, refl)
  query_permits tables _ _ _ _ first rows h holds = absurd cc

  not_select : (x : Term-F Expr Primary Term FromItem Joined Query Select) → is_select x ≡ false → Refused (term_layer (one t) (typed (one t)) x nothing_in_sight)
  not_select (ast.Select select) h = absurd cc
  not_select _ h = ((2, 0), refl)

module _ (t : TableDef) (q : Query) where
  query_is : TypeQuery (one t) q nothing_in_sight ≡ plain_query (one t) (typed (one t)) (out-Query q).ctes (out-Query q).body.rest (out-Query q).order (out-Query q).limit (TypeTerm (one t) (out-Query q).body.first nothing_in_sight)
  query_is = ap (λ (k : Sight → Checked Columns). k nothing_in_sight) (typed-query (one t) q)

  pub forms_refused : one_term (out-Query q) ≡ false → Refused (TypeQuery (one t) q nothing_in_sight)
  forms_refused h =
      let b = more_refused t (out-Query q).ctes (out-Query q).body.rest (out-Query q).order (out-Query q).limit (TypeTerm (one t) (out-Query q).body.first nothing_in_sight) h in
      (b.0, query_is ∙ b.1)

  term_is : (x : Term-F Expr Primary Term FromItem Joined Query Select) → out-Term (out-Query q).body.first ≡ x → TypeTerm (one t) (out-Query q).body.first nothing_in_sight ≡ term_layer (one t) (typed (one t)) x nothing_in_sight
  term_is x is =
      ap (λ (k : Sight → Checked Columns). k nothing_in_sight) (typed-term (one t) (out-Query q).body.first)
      ∙ ap (λ (y : Term-F Expr Primary Term FromItem Joined Query Select). term_layer (one t) (typed (one t)) y nothing_in_sight) is

  term_refused : Refused (TypeTerm (one t) (out-Query q).body.first nothing_in_sight) → Refused (TypeQuery (one t) q nothing_in_sight)
  term_refused b =
      let r = query_refused t (out-Query q).ctes (out-Query q).body.rest (out-Query q).order (out-Query q).limit (TypeTerm (one t) (out-Query q).body.first nothing_in_sight) b in
      (r.0, query_is ∙ r.1)

  pub brackets_refused : is_select (out-Term (out-Query q).body.first) ≡ false → Refused (TypeQuery (one t) q nothing_in_sight)
  brackets_refused h = let b = not_select t (out-Term (out-Query q).body.first) h in term_refused (b.0, term_is _ refl ∙ b.1)

  pub query_by_select : (s : Select) (result : Result Plan NoPlan) → one_term (out-Query q) ≡ true → out-Term (out-Query q).body.first ≡ ast.Select s → MakesSelect t s result → MakesQuery t q result
  query_by_select s (Ok p) alone is made = record {
    checked =
        query_is ∙ query_types t (out-Query q).ctes (out-Query q).body.rest (out-Query q).order (out-Query q).limit (TypeTerm (one t) (out-Query q).body.first nothing_in_sight) alone
        ∙ term_is (ast.Select s) is ∙ made.checked;
    permitted = λ rows fit.
        subst (λ (m : Env → Meaning (List Row)). m empty_env (Ok (answers p rows))) (sym (meant-query (one t) (rows ∷ []) q))
        (query_permits t (rows ∷ []) (out-Query q).ctes (out-Query q).body.rest (out-Query q).order (out-Query q).limit (MeansTerm (one t) (rows ∷ []) (out-Query q).body.first empty_env) (answers p rows) alone
        (subst (λ (m : Env → Meaning (List Row)). m empty_env (Ok (answers p rows))) (sym (meant-term (one t) (rows ∷ []) (out-Query q).body.first))
        (subst (λ (x : Term-F Expr Primary Term FromItem Joined Query Select). term_means (one t) (rows ∷ []) (meant (one t) (rows ∷ [])) x empty_env (Ok (answers p rows))) (sym is) (made.permitted rows fit))));
    fits = made.fits;
  }
  query_by_select s (Err OtherForm) alone is b = term_refused (b.0, term_is (ast.Select s) is ∙ b.1)
  query_by_select s (Err OutOfMemory) alone is made = tt

pub made_ok : (t : TableDef) (q : Query) (result : Result Plan NoPlan) → MakesQuery t q result → IfOk result (λ p. Plans t q p)
made_ok t q (Ok p) made = made
made_ok t q (Err why) made = tt

pub made_other : (t : TableDef) (q : Query) (result : Result Plan NoPlan) → MakesQuery t q result → result ≡ Err OtherForm → Refused (TypeQuery (one t) q nothing_in_sight)
made_other t q (Ok p) made is = absurd cc
made_other t q (Err OtherForm) made is = made
made_other t q (Err OutOfMemory) made is = absurd cc
