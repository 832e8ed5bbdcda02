-- The names of a catalog's entries, where they are looked up and after an entry is added.
use Rattle.std.proofs.Common.{◌≡◌, ◌+◌, ◌<◌, ℕ, Bool, true, false, not, ◌&&◌, ◌||◌, List, [], ◌∷◌, ◌++◌, map, length, position, slice_get, get_or, Option, Some, None, IfSome, refl, ap, sym, subst, ◌∙◌, true≢false}
use Rattle.std.proofs.Math.Path.{fun_ext}
use Rattle.std.specs.List.{list_any, IsDistinct}
use Rattle.std.specs.Option.{option_map}
use Rattle.std.specs.Cmp.{IsEquivalence}
use Rattle.std.proofs.lemmas.Option.{none-some, slice_get-get_or, slice_get_within}
use Rattle.std.proofs.lemmas.List.Quantifiers.{position-Some}
use Rattle.std.proofs.lemmas.List.Folds.{list_any-append}
use Rattle.std.proofs.lemmas.List.Sorted.{IsPermutation-append_comm, IsPermutation-append_right}
use Rattle.std.proofs.lemmas.Map.Keys.{IsDistinct-push, IsDistinct-IsPermutation}
use Rattle.std.proofs.lemmas.Cmp.{on_equiv, nat_list_eq_equiv}
use Rattle.std.proofs.lemmas.List.{append_assoc, map_push}
use Rattle.std.specs.Str.{str_to_ascii_lowercase}
use Rattle.std.specs.List.Sorted.{IsPermutation}
use Rattle.sql_names.specs.Words.{same_name}
use Rattle.sql_catalog.specs.declared.entries.Definition.{Definition}
use Rattle.sql_catalog.specs.declared.entries.Definition.TheVariants.{View, Function}
use Rattle.sql_catalog.specs.declared.entries.Entries.{Entries}
use Rattle.sql_catalog.specs.declared.entries.TableDef.{TableDef}
use Rattle.sql_catalog.specs.declared.entries.ViewDef.{ViewDef}
use Rattle.sql_catalog.specs.declared.entries.FunctionDef.{FunctionDef}
use Rattle.sql_catalog.specs.declared.entries.ParamDef.{ParamDef}
use Rattle.sql_catalog.specs.Names.{has_name, view_names, function_names, names_in_from, names_of_calls, names_of_params, taken_in_from, taken_by_calls, taken_by_params, is_built_in, is_view, is_view_at, is_view_named, is_function_named, TakenOnce}
use Rattle.sql_catalog.specs.Slots.{goes_by}
use Rattle.sql_catalog.specs.Sorts.{definition_name, is_function}

-- a name among the names of entries is the name of an entry
pub has_name-map : {A : Type 0} (called : A → List ℕ) (xs : List A) (name : List ℕ) → has_name (map called xs) name ≡ list_any (λ x. same_name name (called x)) xs
has_name-map called [] name = refl
has_name-map called (x ∷ xs) name = ap (λ b. same_name name (called x) || b) (has_name-map called xs name)

pub has_name-view_names : (definitions : List Definition) (name : List ℕ) → has_name (view_names definitions) name ≡ list_any (goes_by definition_name is_function name false) definitions
has_name-view_names [] name = refl
has_name-view_names (View view ∷ definitions) name = ap (λ b. same_name name view.name || b) (has_name-view_names definitions name)
has_name-view_names (Function function ∷ definitions) name = has_name-view_names definitions name

pub has_name-function_names : (definitions : List Definition) (name : List ℕ) → has_name (function_names definitions) name ≡ list_any (goes_by definition_name is_function name true) definitions
has_name-function_names [] name = refl
has_name-function_names (View view ∷ definitions) name = has_name-function_names definitions name
has_name-function_names (Function function ∷ definitions) name = ap (λ b. same_name name function.name || b) (has_name-function_names definitions name)

-- the names in FROM are those of the tables and those of the views
pub has_name-in_from : (tables : List TableDef) (definitions : List Definition) (name : List ℕ)
    → has_name (map (λ table. table.name) tables ++ view_names definitions) name
    ≡ (list_any (λ table. same_name name table.name) tables || list_any (goes_by definition_name is_function name false) definitions)
has_name-in_from tables definitions name =
    list_any-append (same_name name) (map (λ table. table.name) tables) (view_names definitions)
    ∙ (λ i. has_name-map (λ table. table.name) tables name i || has_name-view_names definitions name i)

-- the definitions of a name and a sort
pub goes_by-view : (name : List ℕ) → goes_by definition_name is_function name false ≡ is_view_named name
goes_by-view name = fun_ext (elim [ View view ↦ refl | Function function ↦ refl ])

pub goes_by-function : (name : List ℕ) → goes_by definition_name is_function name true ≡ is_function_named name
goes_by-function name = fun_ext (elim [ View view ↦ refl | Function function ↦ refl ])

-- views and functions that go last
pub view_names-view : (definitions : List Definition) (view : ViewDef) → view_names (definitions ++ View view ∷ []) ≡ view_names definitions ++ view.name ∷ []
view_names-view [] view = refl
view_names-view (View first ∷ definitions) view = ap (λ names. first.name ∷ names) (view_names-view definitions view)
view_names-view (Function first ∷ definitions) view = view_names-view definitions view

pub view_names-function : (definitions : List Definition) (function : FunctionDef) → view_names (definitions ++ Function function ∷ []) ≡ view_names definitions
view_names-function [] function = refl
view_names-function (View first ∷ definitions) function = ap (λ names. first.name ∷ names) (view_names-function definitions function)
view_names-function (Function first ∷ definitions) function = view_names-function definitions function

pub function_names-view : (definitions : List Definition) (view : ViewDef) → function_names (definitions ++ View view ∷ []) ≡ function_names definitions
function_names-view [] view = refl
function_names-view (View first ∷ definitions) view = function_names-view definitions view
function_names-view (Function first ∷ definitions) view = ap (λ names. first.name ∷ names) (function_names-view definitions view)

pub function_names-function : (definitions : List Definition) (function : FunctionDef) → function_names (definitions ++ Function function ∷ []) ≡ function_names definitions ++ function.name ∷ []
function_names-function [] function = refl
function_names-function (View first ∷ definitions) function = function_names-function definitions function
function_names-function (Function first ∷ definitions) function = ap (λ names. first.name ∷ names) (function_names-function definitions function)

pub same_name-equiv : IsEquivalence same_name
same_name-equiv = on_equiv str_to_ascii_lowercase nat_list_eq_equiv

-- none of two tests
pub neither : (a b : Bool) → (a || b) ≡ false → (a ≡ false) × (b ≡ false)
neither true b e = absurd (true≢false e)
neither false b e = (refl, e)

pub both_none : (a b : Bool) → a ≡ false → b ≡ false → (a || b) ≡ false
both_none a b p q = ap (λ x. x || b) p ∙ q

-- a name that isn't there, put between the names
pub between : (first later : List (List ℕ)) (name : List ℕ) → IsDistinct same_name (first ++ later) → has_name (first ++ later) name ≡ false → IsDistinct same_name ((first ++ name ∷ []) ++ later)
between first later name once fresh =
    subst (IsDistinct same_name) (sym (append_assoc first (name ∷ []) later))
    (IsDistinct-IsPermutation same_name (λ x y. same_name-equiv.symm x y) ((first ++ later) ++ name ∷ []) (first ++ name ∷ later)
    (subst (λ names. IsPermutation names (first ++ name ∷ later)) (sym (append_assoc first later (name ∷ [])))
    (IsPermutation-append_right first (later ++ name ∷ []) (name ∷ later) (IsPermutation-append_comm later (name ∷ []))))
    (IsDistinct-push same_name-equiv (first ++ later) name once fresh))

module _ (tables : List TableDef) (definitions : List Definition) (params : List ParamDef) where
  abbrev catalog : Entries
  catalog = record { tables = tables; definitions = definitions; params = params }

  -- a catalog with no entries
  pub TakenOnce-none : tables ≡ [] → definitions ≡ [] → params ≡ [] → TakenOnce catalog
  unfolding IsDistinct
  TakenOnce-none t d p =
      let none : TakenOnce (record { tables = []; definitions = []; params = [] }) = record { in_from = tt; by_calls = tt; by_params = tt; own = refl } in
      subst (λ ts. TakenOnce (record { tables = ts; definitions = definitions; params = params })) (sym t)
      (subst (λ ds. TakenOnce (record { tables = []; definitions = ds; params = params })) (sym d)
      (subst (λ ps. TakenOnce (record { tables = []; definitions = []; params = ps })) (sym p) none))

  pub TakenOnce-table : (table : TableDef) → TakenOnce catalog → taken_in_from catalog table.name ≡ false → TakenOnce (record { tables = tables ++ table ∷ []; definitions = definitions; params = params })
  TakenOnce-table table once fresh = record {
    in_from = subst (λ names. IsDistinct same_name (names ++ view_names definitions)) (sym (map_push (λ t. t.name) tables table))
        (between (map (λ t. t.name) tables) (view_names definitions) table.name once.in_from fresh);
    by_calls = once.by_calls;
    by_params = once.by_params;
    own = once.own;
  }

  pub TakenOnce-view : (view : ViewDef) → TakenOnce catalog → taken_in_from catalog view.name ≡ false → TakenOnce (record { tables = tables; definitions = definitions ++ View view ∷ []; params = params })
  TakenOnce-view view once fresh = record {
    in_from = subst (IsDistinct same_name)
        (append_assoc (map (λ t. t.name) tables) (view_names definitions) (view.name ∷ []) ∙ ap (λ names. map (λ t. t.name) tables ++ names) (sym (view_names-view definitions view)))
        (IsDistinct-push same_name-equiv (names_in_from catalog) view.name once.in_from fresh);
    by_calls = subst (IsDistinct same_name) (sym (function_names-view definitions view)) once.by_calls;
    by_params = once.by_params;
    own = ap (list_any is_built_in) (function_names-view definitions view) ∙ once.own;
  }

  pub TakenOnce-function : (function : FunctionDef) → TakenOnce catalog → taken_by_calls catalog function.name ≡ false → TakenOnce (record { tables = tables; definitions = definitions ++ Function function ∷ []; params = params })
  TakenOnce-function function once fresh =
      let parts = neither (is_built_in function.name) (has_name (function_names definitions) function.name) fresh in
      record {
        in_from = subst (λ names. IsDistinct same_name (map (λ t. t.name) tables ++ names)) (sym (view_names-function definitions function)) once.in_from;
        by_calls = subst (IsDistinct same_name) (sym (function_names-function definitions function))
            (IsDistinct-push same_name-equiv (function_names definitions) function.name once.by_calls parts.1);
        by_params = once.by_params;
        own = ap (list_any is_built_in) (function_names-function definitions function)
            ∙ list_any-append is_built_in (function_names definitions) (function.name ∷ [])
            ∙ both_none (list_any is_built_in (function_names definitions)) (is_built_in function.name || false) once.own (both_none (is_built_in function.name) false parts.0 refl);
      }

  pub TakenOnce-param : (param : ParamDef) → TakenOnce catalog → taken_by_params catalog param.name ≡ false → TakenOnce (record { tables = tables; definitions = definitions; params = params ++ param ∷ [] })
  TakenOnce-param param once fresh = record {
    in_from = once.in_from;
    by_calls = once.by_calls;
    by_params = subst (IsDistinct same_name) (sym (map_push (λ p. p.name) params param))
        (IsDistinct-push same_name-equiv (map (λ p. p.name) params) param.name once.by_params fresh);
    own = once.own;
  }

-- the first entry that passes is there
pub position-at : {X : Type 0} (test : X → Bool) (xs : List X) (i : ℕ) → position test xs ≡ Some i → (x : X) × (slice_get xs i ≡ Some x) × (test x ≡ true)
position-at test [] i e = absurd (none-some i e)
position-at test (x ∷ xs) i e =
    let first = position-Some test (x ∷ xs) i x e in (get_or (x ∷ xs) i x, slice_get-get_or (x ∷ xs) i x first.0, first.1)

pub position-within : {X : Type 0} (test : X → Bool) (xs : List X) (found : Option ℕ) → found ≡ position test xs → IfSome found (λ i. i < length xs)
position-within test xs None e = tt
position-within test xs (Some i) e = let at = position-at test xs i (sym e) in slice_get_within xs i at.0 at.1

-- a definition that goes by a name is of its sort
pub sort-of : (name : List ℕ) (sort : Bool) (definition : Definition) → goes_by definition_name is_function name sort definition ≡ true → is_view definition ≡ not sort
sort-of name true (View view) e = absurd (true≢false (sym e))
sort-of name true (Function function) e = refl
sort-of name false (View view) e = refl
sort-of name false (Function function) e = absurd (true≢false (sym e))

pub position-sort : (name : List ℕ) (sort : Bool) (definitions : List Definition) (found : Option ℕ)
    → found ≡ position (goes_by definition_name is_function name sort) definitions → IfSome found (λ i. option_map is_view (slice_get definitions i) ≡ Some (not sort))
position-sort name sort definitions None e = tt
position-sort name sort definitions (Some i) e =
    let at = position-at (goes_by definition_name is_function name sort) definitions i (sym e) in
    ap (option_map is_view) at.1 ∙ ap Some (sort-of name sort at.0 at.2)
