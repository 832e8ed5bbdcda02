-- What is read fits its column.
use Rattle.std.proofs.Common.{◌≡◌, ℕ, suc, ◌<◌, ℤ, Bool, true, false, List, [], ◌∷◌, Option, Some, None, if◌then◌else◌, refl, sym, ap, ◌∙◌, subst, lt-ltb}
use Rattle.std.specs.Prelude.{Result, Ok, Err, option_map, option_and_then, nat_lt, slice_index, IfSome}
use Rattle.std.specs.List.{list_all}
use Rattle.std.specs.Str.{is_utf8}
use Rattle.hex.specs.Hex.{decode_of}
use Rattle.hex.specs.declared.error.FromHexError.{FromHexError}
use Rattle.hex.proofs.HexLemmas.{decode_of-ok}
use Rattle.sql_types.specs.Calendar.{read_date}
use Rattle.sql_types.specs.Fits.{fits, fits_row, is_day}
use Rattle.sql_types.proofs.DateTextLaws.{read_date-fits}
use Rattle.sql_types.proofs.ValueOpens.{fits_by}
use Rattle.sql_types.specs.declared.sql_type.Named.{Named}
use Rattle.sql_types.specs.declared.sql_type.SqlType.{SqlType, out-SqlType}
use Rattle.sql_types.specs.declared.sql_type.SqlType.TheOpen as t
use Rattle.sql_types.specs.declared.value.Value.{Value}
use Rattle.sql_types.specs.declared.value.Value.TheOpen as o
use Rattle.sql_types.specs.declared.value.Value.TheVariants as v
use Rattle.sql_coerce.specs.Casts.{integer_value, or_cast_fault, truth_of_text}
use Rattle.sql_coerce.specs.Numerals.{integer}
use Rattle.sql_constants.proofs.FitLaws.{integer-fits, null-fits}
use Rattle.sql_constants.proofs.ValueLaws.{value_fits}
use Rattle.csv_tables.specs.Cells.{cell_of, typed_cell, some_cell, unless_empty, if_any, text_bytes, is_null_mark}
use Rattle.csv_tables.specs.Tables.{row_of, before_row}
use Rattle.csv_tables.proofs.CellLaws.{any_but_fault}

-- a value that stands for NULL fits each type
marked-null : (type : SqlType) (value : Value) → Some v.Null ≡ Some value → fits type value ≡ true
marked-null type value is = let same : v.Null ≡ value = cc in subst (λ x. fits type x ≡ true) same (null-fits type)

-- a text is UTF-8
text-some : (type : SqlType) → out-SqlType type ≡ t.Text → (b : Bool) (bytes : List ℕ) (value : Value) → is_utf8 bytes ≡ b → option_map v.Text (if b then Some bytes else None) ≡ Some value
    → fits type value ≡ true
text-some type form false bytes value test is = cc
text-some type form true bytes value test is =
    let same : v.Text bytes ≡ value = cc in
    subst (λ x. fits type x ≡ true) same (fits_by type (v.Text bytes) t.Text (o.Text bytes) form (v.outs-Text bytes) ∙ test)

-- two digits are a byte
all_below : (bytes : List ℕ) → ((k : ℕ) → slice_index bytes k < 256) → list_all (λ b. nat_lt b 256) bytes ≡ true
all_below [] below = refl
all_below (b ∷ bytes) below = rw (lt-ltb b 256 (below 0)) (all_below bytes (λ k. below (suc k)))

digits-some : (type : SqlType) → out-SqlType type ≡ t.Bytes → (cell : List ℕ) (r : Result (List ℕ) FromHexError) (value : Value) → decode_of cell ≡ r → option_map v.Bytes (if_any r) ≡ Some value → fits type value ≡ true
digits-some type form cell (Err e) value read is = cc
digits-some type form cell (Ok bytes) value read is =
    let same : v.Bytes bytes ≡ value = cc in
    subst (λ x. fits type x ≡ true) same (fits_by type (v.Bytes bytes) t.Bytes (o.Bytes bytes) form (v.outs-Bytes bytes) ∙ all_below bytes (decode_of-ok cell bytes read).3)

bool-some : (type : SqlType) → out-SqlType type ≡ t.Bool → (b : Option Bool) (value : Value) → option_map v.Bool b ≡ Some value → fits type value ≡ true
bool-some type form None value is = cc
bool-some type form (Some b) value is =
    let same : v.Bool b ≡ value = cc in
    subst (λ x. fits type x ≡ true) same (fits_by type (v.Bool b) t.Bool (o.Bool b) form (v.outs-Bool b))

day-some : (type : SqlType) → out-SqlType type ≡ t.Date → (d : Option ℤ) (value : Value) → IfSome d (λ k. is_day k ≡ true) → option_map v.Date d ≡ Some value → fits type value ≡ true
day-some type form None value day is = cc
day-some type form (Some d) value day is =
    let same : v.Date d ≡ value = cc in
    subst (λ x. fits type x ≡ true) same (fits_by type (v.Date d) t.Date (o.Date d) form (v.outs-Date d) ∙ day)

number-some : (type : SqlType) (n : Option ℤ) (value : Value) → option_and_then (integer_value (out-SqlType type)) n ≡ Some value → fits type value ≡ true
number-some type None value is = cc
number-some type (Some n) value is = integer-fits type n value is

number-at : (type : SqlType) (form : t.SqlType-F SqlType) → out-SqlType type ≡ form → (cell : List ℕ) (value : Value) → if_any (or_cast_fault (option_and_then (integer_value form) (integer cell))) ≡ Some value → fits type value ≡ true
number-at type form e cell value is =
    number-some type (integer cell) value (ap (λ f. option_and_then (integer_value f) (integer cell)) e ∙ sym (any_but_fault (option_and_then (integer_value form) (integer cell))) ∙ is)

unless-fits : (type : SqlType) (cell : List ℕ) (full : Option Value) (value : Value) → unless_empty cell full ≡ Some value → (full ≡ Some value → fits type value ≡ true) → fits type value ≡ true
unless-fits type [] full value is fit = marked-null type value is
unless-fits type (c ∷ cs) full value is fit = fit is

typed-fits : (type : SqlType) (form : t.SqlType-F SqlType) → out-SqlType type ≡ form → (cell : List ℕ) (value : Value) → typed_cell type form cell ≡ Some value → fits type value ≡ true
typed-fits type t.Text e cell value is = text-some type e (is_utf8 (text_bytes cell)) (text_bytes cell) value refl is
typed-fits type t.Bytes e cell value is = digits-some type e cell (decode_of cell) value refl is
typed-fits type t.Bool e cell value is = unless-fits type cell (some_cell type t.Bool cell) value is (λ is. bool-some type e (truth_of_text cell) value (sym (any_but_fault (option_map v.Bool (truth_of_text cell))) ∙ is))
typed-fits type t.Int32 e cell value is = unless-fits type cell (some_cell type t.Int32 cell) value is (λ is. number-at type t.Int32 e cell value is)
typed-fits type t.Int64 e cell value is = unless-fits type cell (some_cell type t.Int64 cell) value is (λ is. number-at type t.Int64 e cell value is)
typed-fits type t.Uint32 e cell value is = unless-fits type cell (some_cell type t.Uint32 cell) value is (λ is. number-at type t.Uint32 e cell value is)
typed-fits type t.Uint64 e cell value is = unless-fits type cell (some_cell type t.Uint64 cell) value is (λ is. number-at type t.Uint64 e cell value is)
typed-fits type t.Date e cell value is = unless-fits type cell (some_cell type t.Date cell) value is (λ is. day-some type e (read_date cell) value (read_date-fits cell) (sym (any_but_fault (option_map v.Date (read_date cell))) ∙ is))
typed-fits type (t.Array element) e cell value is = unless-fits type cell (some_cell type (t.Array element) cell) value is (λ is. value_fits type cell value is)
typed-fits type (t.Struct fields) e cell value is = unless-fits type cell (some_cell type (t.Struct fields) cell) value is (λ is. value_fits type cell value is)

unmarked-fits : (b : Bool) (type : SqlType) (cell : List ℕ) (value : Value) → (if b then Some v.Null else typed_cell type (out-SqlType type) cell) ≡ Some value → fits type value ≡ true
unmarked-fits true type cell value is = marked-null type value is
unmarked-fits false type cell value is = typed-fits type (out-SqlType type) refl cell value is

-- the value of a cell fits the type
pub cell_of-fits : (ty : SqlType) (cell : List ℕ) (value : Value) → cell_of ty cell ≡ Some value → fits ty value ≡ true
cell_of-fits ty cell value is = unmarked-fits (is_null_mark cell) ty cell value is

row-before : (column : Named SqlType) (columns : List (Named SqlType)) (cell : Option Value) (rest : Result (List Value) ℕ) (row : List Value)
    → before_row cell rest ≡ Ok row → ((value : Value) → cell ≡ Some value → fits column.ty value ≡ true)
    → ((values : List Value) → rest ≡ Ok values → fits_row columns values ≡ true) → fits_row (column ∷ columns) row ≡ true
row-before column columns None rest row is fit more = cc
row-before column columns (Some value) (Err place) row is fit more = cc
row-before column columns (Some value) (Ok values) row is fit more =
    let same : value ∷ values ≡ row = cc in
    rw (← same, fit value refl) (more values refl)

-- the row of a record fits the columns
pub row_of-fits : (columns : List (Named SqlType)) (cells : List (List ℕ)) (row : List Value) → row_of columns cells ≡ Ok row → fits_row columns row ≡ true
row_of-fits [] [] row is = let same : [] ≡ row = cc in rw (← same) refl
row_of-fits [] (cell ∷ cells) row is = cc
row_of-fits (column ∷ columns) [] row is = cc
row_of-fits (column ∷ columns) (cell ∷ cells) row is =
    row-before column columns (cell_of column.ty cell) (row_of columns cells) row is
    (λ value at. cell_of-fits column.ty cell value at)
    (λ values at. row_of-fits columns cells values at)
