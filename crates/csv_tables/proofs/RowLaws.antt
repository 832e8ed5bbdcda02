-- Going over the columns and the cells of a record, from the first place on.
use Rattle.std.proofs.Common.{◌≡◌, ℕ, suc, zero, ◌+◌, ◌<◌, ◌≤◌, Bool, true, false, List, [], ◌∷◌, ◌++◌, length, drop, Option, Some, None, if◌then◌else◌, sym, ap, ◌∙◌, refl, arith, add-one, drop-cons, get_or, append_assoc}
use Rattle.std.proofs.lemmas.List.{drop_all, length-drop, append-nil}
use Rattle.std.proofs.lemmas.Bool.{false≢true}
use Rattle.std.specs.Prelude.{nat_lt, option_map, option_and_then, Result, Ok, Err}
use Rattle.std.specs.Option.{option_map_or}
use Rattle.csv.specs.Records.{field_at}
use Rattle.sql_types.specs.declared.sql_type.Named.{Named}
use Rattle.sql_types.specs.declared.sql_type.SqlType.{SqlType}
use Rattle.sql_types.specs.declared.value.Value.{Value}
use Rattle.csv_tables.specs.Cells.{cell_of}
use Rattle.csv_tables.specs.Tables.{row_of, before_row, header_fault, names}

abbrev Column : Type 0
Column = Named SqlType

-- the cells from a place on
cells-at : (cells : List (List ℕ)) (i : ℕ) (cell : List ℕ) → field_at cells i ≡ Some cell → drop i cells ≡ cell ∷ drop (suc i) cells
unfolding field_at
cells-at [] i cell is = cc
cells-at (f ∷ fs) zero cell is = let same : f ≡ cell = cc in rw same refl
cells-at (f ∷ fs) (suc i) cell is = cells-at fs i cell is

cells-past : (cells : List (List ℕ)) (i : ℕ) → field_at cells i ≡ None → drop i cells ≡ []
unfolding field_at
cells-past [] i is = drop_all i [] (omega arith)
cells-past (f ∷ fs) zero is = cc
cells-past (f ∷ fs) (suc i) is = cells-past fs i is

-- the columns from a place on
columns-at : (columns : List Column) (i : ℕ) (column : Column) → i < length columns → column ≡ get_or columns i column → drop i columns ≡ column ∷ drop (suc i) columns
columns-at columns i column lt is = drop-cons columns i column lt ∙ ap (λ c. c ∷ drop (suc i) columns) (sym is)

-- a fault behind so many places
abbrev pub shifted : ℕ → Option ℕ → Option ℕ
shifted i fault = option_map (λ k. i + k) fault

shifted-suc : (i : ℕ) (fault : Option ℕ) → shifted i (option_map suc fault) ≡ shifted (i + 1) fault
shifted-suc i None = refl
shifted-suc i (Some k) = let e : i + suc k ≡ i + 1 + k = omega arith in ap Some e

-- whether the cell at a place, if there is one, is the name of its column
abbrev pub is_named : Column → Option (List ℕ) → Bool
is_named column cell = option_map_or (names column.name) cell false

header-named : (column : Column) (columns : List Column) (cell : List ℕ) (cells : List (List ℕ)) → names column.name cell ≡ true
    → header_fault (column ∷ columns) (cell ∷ cells) ≡ option_map suc (header_fault columns cells)
header-named column columns cell cells named = rw named refl

header-unnamed : (column : Column) (columns : List Column) (cell : List ℕ) (cells : List (List ℕ)) → names column.name cell ≡ false
    → header_fault (column ∷ columns) (cell ∷ cells) ≡ Some 0
header-unnamed column columns cell cells named = rw named refl

go-named : (columns : List Column) (cells : List (List ℕ)) (i : ℕ) (column : Column) (cell : Option (List ℕ)) → field_at cells i ≡ cell
    → i < length columns → column ≡ get_or columns i column → is_named column cell ≡ true
    → header_fault (drop i columns) (drop i cells) ≡ option_map suc (header_fault (drop (suc i) columns) (drop (suc i) cells))
go-named columns cells i column None at lt is named = absurd (false≢true named)
go-named columns cells i column (Some cell) at lt is named =
    rw (columns-at columns i column lt is, cells-at cells i cell at) (header-named column (drop (suc i) columns) cell (drop (suc i) cells) named)

stop-unnamed : (columns : List Column) (cells : List (List ℕ)) (i : ℕ) (column : Column) (cell : Option (List ℕ)) → field_at cells i ≡ cell
    → i < length columns → column ≡ get_or columns i column → is_named column cell ≡ false
    → header_fault (drop i columns) (drop i cells) ≡ Some 0
stop-unnamed columns cells i column None at lt is named = rw (columns-at columns i column lt is, cells-past cells i at) refl
stop-unnamed columns cells i column (Some cell) at lt is named =
    rw (columns-at columns i column lt is, cells-at cells i cell at) (header-unnamed column (drop (suc i) columns) cell (drop (suc i) cells) named)

-- the header goes on behind a name
pub header-go : (columns : List Column) (cells : List (List ℕ)) (i : ℕ) (column : Column) → i < length columns → column ≡ get_or columns i column
    → is_named column (field_at cells i) ≡ true
    → shifted i (header_fault (drop i columns) (drop i cells)) ≡ shifted (i + 1) (header_fault (drop (i + 1) columns) (drop (i + 1) cells))
header-go columns cells i column lt is named =
    ap (shifted i) (go-named columns cells i column (field_at cells i) refl lt is named)
    ∙ shifted-suc i (header_fault (drop (suc i) columns) (drop (suc i) cells))
    ∙ ap (λ n. shifted (i + 1) (header_fault (drop n columns) (drop n cells))) (sym (add-one i))

-- and stops at a cell that is no name
pub header-stop : (columns : List Column) (cells : List (List ℕ)) (i : ℕ) (column : Column) → i < length columns → column ≡ get_or columns i column
    → is_named column (field_at cells i) ≡ false
    → shifted i (header_fault (drop i columns) (drop i cells)) ≡ Some i
header-stop columns cells i column lt is named =
    let zero_more : i + 0 ≡ i = omega arith in
    ap (shifted i) (stop-unnamed columns cells i column (field_at cells i) refl lt is named) ∙ ap Some zero_more

-- the first cell behind the columns
abbrev pub extra : List Column → List (List ℕ) → Option ℕ
extra columns cells = if nat_lt (length columns) (length cells) then Some (length columns) else None

header-fields : (xs : List (List ℕ)) → 0 < length xs → header_fault [] xs ≡ Some 0
header-fields [] lt = absurd (omega arith)
header-fields (x ∷ xs) lt = refl

-- past the columns
header-behind : (b : Bool) (columns : List Column) (cells : List (List ℕ)) (i : ℕ) → nat_lt (length columns) (length cells) ≡ b → i ≡ length columns
    → shifted i (header_fault (drop i columns) (drop i cells)) ≡ (if b then Some (length columns) else None)
header-behind true columns cells i test is =
    let lt : length columns < length cells = grind arith in
    let same : i + 0 ≡ length columns = omega arith in
    let left : 0 < length (drop i cells) = rw length-drop (omega arith) in
    rw (drop_all i columns (omega arith), header-fields (drop i cells) left) (ap Some same)
header-behind false columns cells i test is =
    let none : length cells ≤ length columns = grind arith in
    rw (drop_all i columns (omega arith), drop_all i cells (omega arith)) refl

pub header-end : (columns : List Column) (cells : List (List ℕ)) (i : ℕ) → i ≡ length columns → shifted i (header_fault (drop i columns) (drop i cells)) ≡ extra columns cells
header-end columns cells i is = header-behind (nat_lt (length columns) (length cells)) columns cells i refl is

-- values before the rest of a row, or the fault that stands so many places on
abbrev pub onto : List Value → ℕ → Result (List Value) ℕ → Result (List Value) ℕ
onto values i (Ok rest) = Ok (values ++ rest)
onto values i (Err place) = Err (i + place)

onto-suc : (values : List Value) (i : ℕ) (value : Value) (rest : Result (List Value) ℕ)
    → onto values i (before_row (Some value) rest) ≡ onto (values ++ value ∷ []) (i + 1) rest
onto-suc values i value (Ok rest) = ap Ok (sym (append_assoc values (value ∷ []) rest))
onto-suc values i value (Err place) = let e : i + suc place ≡ i + 1 + place = omega arith in ap Err e

-- the value at a place, if there is a cell
abbrev pub place_value : Column → Option (List ℕ) → Option Value
place_value column cell = option_and_then (cell_of column.ty) cell

go-valued : (columns : List Column) (cells : List (List ℕ)) (i : ℕ) (column : Column) (value : Value) (cell : Option (List ℕ)) → field_at cells i ≡ cell
    → i < length columns → column ≡ get_or columns i column → place_value column cell ≡ Some value
    → row_of (drop i columns) (drop i cells) ≡ before_row (Some value) (row_of (drop (suc i) columns) (drop (suc i) cells))
go-valued columns cells i column value None at lt is valued = cc
go-valued columns cells i column value (Some cell) at lt is valued = rw (columns-at columns i column lt is, cells-at cells i cell at, valued) refl

stop-unvalued : (columns : List Column) (cells : List (List ℕ)) (i : ℕ) (column : Column) (cell : Option (List ℕ)) → field_at cells i ≡ cell
    → i < length columns → column ≡ get_or columns i column → place_value column cell ≡ None
    → row_of (drop i columns) (drop i cells) ≡ Err 0
stop-unvalued columns cells i column None at lt is valued = rw (columns-at columns i column lt is, cells-past cells i at) refl
stop-unvalued columns cells i column (Some cell) at lt is valued = rw (columns-at columns i column lt is, cells-at cells i cell at, valued) refl

-- a row goes on behind a value
pub row-go : (columns : List Column) (cells : List (List ℕ)) (i : ℕ) (column : Column) (values : List Value) (value : Value)
    → i < length columns → column ≡ get_or columns i column → place_value column (field_at cells i) ≡ Some value
    → onto values i (row_of (drop i columns) (drop i cells)) ≡ onto (values ++ value ∷ []) (i + 1) (row_of (drop (i + 1) columns) (drop (i + 1) cells))
row-go columns cells i column values value lt is valued =
    ap (onto values i) (go-valued columns cells i column value (field_at cells i) refl lt is valued)
    ∙ onto-suc values i value (row_of (drop (suc i) columns) (drop (suc i) cells))
    ∙ ap (λ n. onto (values ++ value ∷ []) (i + 1) (row_of (drop n columns) (drop n cells))) (sym (add-one i))

-- and stops at a place that has none
pub row-stop : (columns : List Column) (cells : List (List ℕ)) (i : ℕ) (column : Column) (values : List Value)
    → i < length columns → column ≡ get_or columns i column → place_value column (field_at cells i) ≡ None
    → onto values i (row_of (drop i columns) (drop i cells)) ≡ Err i
row-stop columns cells i column values lt is valued =
    let zero_more : i + 0 ≡ i = omega arith in
    ap (onto values i) (stop-unvalued columns cells i column (field_at cells i) refl lt is valued) ∙ ap Err zero_more

row-fields : (xs : List (List ℕ)) → 0 < length xs → row_of [] xs ≡ Err 0
row-fields [] lt = absurd (omega arith)
row-fields (x ∷ xs) lt = refl

-- past the columns
pub row-extra : (columns : List Column) (cells : List (List ℕ)) (i : ℕ) (values : List Value) (field : ℕ) → i ≡ length columns → extra columns cells ≡ Some field
    → onto values i (row_of (drop i columns) (drop i cells)) ≡ Err field
row-extra columns cells i values field is more = row-behind (nat_lt (length columns) (length cells)) refl more
  where
    row-behind : (b : Bool) → nat_lt (length columns) (length cells) ≡ b → (if b then Some (length columns) else None) ≡ Some field
        → onto values i (row_of (drop i columns) (drop i cells)) ≡ Err field
    row-behind true test more =
        let lt : length columns < length cells = grind arith in
        let at : length columns ≡ field = cc in
        let same : i + 0 ≡ field = omega arith in
        let left : 0 < length (drop i cells) = rw length-drop (omega arith) in
        rw (drop_all i columns (omega arith), row-fields (drop i cells) left) (ap Err same)
    row-behind false test more = cc

pub row-end : (columns : List Column) (cells : List (List ℕ)) (i : ℕ) (values : List Value) → i ≡ length columns → extra columns cells ≡ None
    → onto values i (row_of (drop i columns) (drop i cells)) ≡ Ok values
row-end columns cells i values is none = row-behind (nat_lt (length columns) (length cells)) refl none
  where
    row-behind : (b : Bool) → nat_lt (length columns) (length cells) ≡ b → (if b then Some (length columns) else None) ≡ None
        → onto values i (row_of (drop i columns) (drop i cells)) ≡ Ok values
    row-behind true test none = cc
    row-behind false test none =
        let short : length cells ≤ length columns = grind arith in
        rw (drop_all i columns (omega arith), drop_all i cells (omega arith)) (ap Ok (append-nil values))
