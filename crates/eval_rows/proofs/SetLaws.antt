-- What the counts of rows say of set operations.
use Rattle.std.proofs.Common.{◌≡◌, ℕ, zero, suc, ◌+◌, ◌-◌, ◌<◌, ◌≤◌, Bool, true, false, ◌&&◌, cond, List, [], ◌∷◌, ◌++◌, length, get_or, map, take, drop, refl, ap, sym, ◌∙◌, subst, arith, Result, Ok, Err}
use Rattle.std.specs.Prelude.{min, IfOk}
use Rattle.std.specs.List.{All, list_all, flat_map}
use Rattle.std.proofs.lemmas.Bool.{false≢true}
use Rattle.std.proofs.lemmas.List.{map-append, take_all, get_or_default}
use Rattle.std.proofs.lemmas.List.Concat.{flat_map-cons}
use Rattle.std.proofs.lemmas.List.Elements.{All-head, All-tail}
use Rattle.sql_types.specs.Combined.{Counted, counted_none, counted_same, counted_other, CountedEach, Combined, total, least, at_most_one, combined_count}
use Rattle.sql_types.specs.Fits.{fits, fits_row}
use Rattle.sql_types.specs.Joined.{Row}
use Rattle.sql_types.specs.declared.kinds.SetKind.{SetKind}
use Rattle.sql_types.specs.declared.kinds.SetKind.TheVariants as set
use Rattle.sql_types.specs.declared.rows.Rows.{Rows}
use Rattle.sql_types.specs.declared.sql_type.Named.{Named}
use Rattle.sql_types.specs.declared.sql_type.SqlType.{SqlType}
use Rattle.sql_types.specs.declared.value.Value.TheVariants.{Null}
use Rattle.sql_types.proofs.TestParts.{first as left_of, second as right_of}
use Rattle.sql_types.specs.SameValue.{same_values}
use Rattle.key_classes.specs.Classes.{key_of}
use Rattle.eval_rows.specs.Counts.{rows_of, count, CombinedBy, AllWhole}
use Rattle.eval_rows.specs.Sets.{column_types, Alike, Combines}
use Rattle.key_classes.specs.KeyLaws.{told, itself}
use Rattle.eval_rows.proofs.CountLaws.{one, one_is, differs_by, count_append, count_flat, counted_passes, pass_by_counts, at_most}
use Rattle.eval_rows.proofs.FitLaws.{both, append_pass}
use Rattle.eval_rows.proofs.JoinLaws.{take_next}

-- ---- a count is how often a row stands in a list

counted_by : (row other : Row) (rows : List Row) (n : ℕ) (b : Bool) → same_values row other ≡ b → Counted row rows n → Counted row (other ∷ rows) (cond b 1 0 + n)
counted_by row other rows n true is counted =
    let more : suc n ≡ cond true 1 0 + n = omega arith in
    subst (Counted row (other ∷ rows)) more (counted_same (told row other is) counted)
counted_by row other rows n false is counted =
    let more : n ≡ cond false 1 0 + n = omega arith in
    subst (Counted row (other ∷ rows)) more (counted_other (λ same. false≢true (sym is ∙ ap (same_values row) (sym same) ∙ itself row)) counted)

count_counted : (row : Row) (rows : List Row) → Counted row rows (count row rows)
count_counted row [] = counted_none
count_counted row (other ∷ rows) = counted_by row other rows (count row rows) (same_values row other) refl (count_counted row rows)

counted_is : (row : Row) (rows : List Row) (n : ℕ) → Counted row rows n → n ≡ count row rows
counted_is row [] n counted_none = refl
counted_is row (other ∷ rows) n (counted_same {n = m} same counted) =
    let here : one row other ≡ 1 = one_is row other true (ap (same_values row) (sym same) ∙ itself row) in
    omega (arith, here, counted_is row rows m counted)
counted_is row (other ∷ rows) n (counted_other {n = m} differs counted) =
    let here : one row other ≡ 0 = differs_by row other (same_values row other) refl differs in
    omega (arith, here, counted_is row rows m counted)

counts_are : (row : Row) (operands : List (List Row)) (counts : List ℕ) → CountedEach row operands counts → counts ≡ map (count row) operands
counts_are row [] [] each = refl
counts_are row [] (n ∷ counts) each = absurd each
counts_are row (rows ∷ operands) [] each = absurd each
counts_are row (rows ∷ operands) (n ∷ counts) each = λ i. counted_is row rows n each.0 i ∷ counts_are row operands counts each.1 i

pub combined : (kind : SetKind) (first : List Row) (others : List (List Row)) (result : List Row) → CombinedBy kind first others result → Combined kind first others result
combined kind first others result by row n counts one each =
    subst (Counted row result) (by row ∙ ap (λ (m : ℕ). combined_count kind m (map (count row) others)) (sym (counted_is row first n one)) ∙ ap (combined_count kind n) (sym (counts_are row others counts each)))
    (count_counted row result)

-- ---- the parts of a list

first_pass : (p : Row → Bool) (xs ys : List Row) → list_all p (xs ++ ys) ≡ true → list_all p xs ≡ true
first_pass p [] ys all = refl
first_pass p (x ∷ xs) ys all = both (left_of _ _ all) (first_pass p xs ys (right_of _ _ all))

rest_pass : (p : Row → Bool) (xs ys : List Row) → list_all p (xs ++ ys) ≡ true → list_all p ys ≡ true
rest_pass p [] ys all = all
rest_pass p (x ∷ xs) ys all = rest_pass p xs ys (right_of _ _ all)

-- ---- the kinds

pub one_operand_more : (n m : ℕ) (counts : List ℕ) → least n (counts ++ m ∷ []) ≡ min (least n counts) m
one_operand_more n m [] = refl
one_operand_more n m (k ∷ counts) = one_operand_more (min n k) m counts

-- ---- the rows fit

least_below : (n : ℕ) (counts : List ℕ) → least n counts ≤ n
least_below n [] = omega arith
least_below n (m ∷ counts) =
    let more : least (min n m) counts ≤ min n m = least_below (min n m) counts in
    omega (arith, more)

-- a row of the result stands in an operand
not_more : (kind : SetKind) (n : ℕ) (counts : List ℕ) → combined_count kind n counts ≤ n + total counts
not_more set.UnionAll n counts = omega arith
not_more set.UnionDistinct n counts = at_most (n + total counts)
not_more set.IntersectAll n counts = omega (arith, least_below n counts)
not_more set.IntersectDistinct n counts = omega (arith, at_most (least n counts), least_below n counts)
not_more set.ExceptAll n counts = omega arith
not_more set.ExceptDistinct n counts = omega (arith, at_most n)

pub result_passes : {A : Type 0} (p : Row → Bool) (kind : SetKind) (first : List Row) (rows : A → List Row) (others : List A) (result : List Row) →
    CombinedBy kind first (map rows others) result → list_all p first ≡ true → list_all p (flat_map rows others) ≡ true → list_all p result ≡ true
result_passes p kind first rows others result by pass more =
    pass_by_counts p result
    (λ row some. counted_passes p row (first ++ flat_map rows others) (append_pass p first (flat_map rows others) pass more)
    (omega (arith, by row, not_more kind (count row first) (map (count row) (map rows others)), count_append row first (flat_map rows others), count_flat rows row others)))

row_fits : (cs ds : List (Named SqlType)) (row : Row) → map (λ c. c.ty) cs ≡ map (λ c. c.ty) ds → fits_row cs row ≡ fits_row ds row
row_fits [] [] row same = refl
row_fits [] (d ∷ ds) row same = cc
row_fits (c ∷ cs) [] row same = cc
row_fits (c ∷ cs) (d ∷ ds) [] same = refl
row_fits (c ∷ cs) (d ∷ ds) (x ∷ xs) same =
    let here : c.ty ≡ d.ty = cc in
    let more : map (λ z. z.ty) cs ≡ map (λ z. z.ty) ds = cc in
    ap (λ t. fits t x && fits_row cs xs) here ∙ ap (λ b. fits d.ty x && b) (row_fits cs ds xs more)

rows_fit : (cs ds : List (Named SqlType)) (rows : List Row) → map (λ c. c.ty) cs ≡ map (λ c. c.ty) ds → list_all (fits_row cs) rows ≡ true → list_all (fits_row ds) rows ≡ true
rows_fit cs ds [] same all = refl
rows_fit cs ds (row ∷ rows) same all = both (sym (row_fits cs ds row same) ∙ left_of _ _ all) (rows_fit cs ds rows same (right_of _ _ all))

pub all_rows_fit : (first : Rows) (others : List Rows) → All (λ other. column_types other ≡ column_types first) others → list_all (fits_row first.columns) (flat_map rows_of others) ≡ true
all_rows_fit first [] alike = refl
all_rows_fit first (other ∷ others) alike =
    append_pass (fits_row first.columns) other.rows (flat_map rows_of others)
    (rows_fit other.columns first.columns other.rows (All-head (λ (z : Rows). column_types z ≡ column_types first) other others alike) other.fitting)
    (all_rows_fit first others (All-tail (λ (z : Rows). column_types z ≡ column_types first) other others alike))

-- ---- rows that stand in each table

map_more : {A B : Type 0} (f : A → B) (xs : List A) (x : A) → map f (xs ++ x ∷ []) ≡ map f xs ++ f x ∷ []
map_more f xs x = map-append f xs (x ∷ [])

-- as often as in the list and in each of the tables so far
pub in_one_more : (row : Row) (first left kept others : List Row) (operands : List Rows) (i : ℕ) (operand : Rows) → i < length operands → operand ≡ get_or operands i operand → others ≡ operand.rows →
    count row left ≡ least (count row first) (map (count row) (map rows_of (take i operands))) → count row kept ≡ min (count row left) (count row others) →
    count row kept ≡ least (count row first) (map (count row) (map rows_of (take (i + 1) operands)))
in_one_more row first left kept others operands i operand within is others_are before kept_are =
    kept_are ∙ ap (λ n. min n (count row others)) before ∙ ap (λ n. min (least (count row first) (map (count row) (map rows_of (take i operands)))) n) (ap (count row) others_are)
    ∙ sym (one_operand_more (count row first) (count row operand.rows) (map (count row) (map rows_of (take i operands))))
    ∙ sym (ap (λ (z : List Rows). least (count row first) (map (count row) (map rows_of z))) (take_next operands i operand within is)
    ∙ ap (λ z. least (count row first) z) (ap (map (count row)) (map_more rows_of (take i operands) operand) ∙ map_more (count row) (map rows_of (take i operands)) operand.rows))

-- the rows of one operand pass where those of all pass
pub operand_passes : (p : Row → Bool) (operands : List Rows) (i : ℕ) (operand : Rows) → i < length operands → operand ≡ get_or operands i operand → list_all p (flat_map rows_of operands) ≡ true → list_all p operand.rows ≡ true
operand_passes p [] i operand within is all = absurd (omega arith)
operand_passes p (o ∷ operands) zero operand within is all =
    ap (λ (z : Rows). list_all p z.rows) is ∙ first_pass p o.rows (flat_map rows_of operands) (ap (list_all p) (sym (flat_map-cons rows_of o operands)) ∙ all)
operand_passes p (o ∷ operands) (suc i) operand within is all =
    operand_passes p operands i operand (omega arith) is (rest_pass p o.rows (flat_map rows_of operands) (ap (list_all p) (sym (flat_map-cons rows_of o operands)) ∙ all))

-- ---- all columns

pub column_more : (columns : List ℕ) (row : Row) (column : ℕ) → key_of columns row ≡ take column row → column < length row → key_of (columns ++ column ∷ []) row ≡ take (column + 1) row
column_more columns row column so_far within =
    map-append (λ (c : ℕ). get_or row c Null) columns (column ∷ []) ∙ ap (λ (z : Row). z ++ get_or row column Null ∷ []) so_far
    ∙ sym (take_next row column (get_or row column Null) within (get_or_default row column Null (get_or row column Null) within))

fits_long : (columns : List (Named SqlType)) (row : Row) → fits_row columns row ≡ true → length row ≡ length columns
fits_long [] [] fit = refl
fits_long [] (x ∷ row) fit = absurd (false≢true fit)
fits_long (c ∷ columns) [] fit = absurd (false≢true fit)
fits_long (c ∷ columns) (x ∷ row) fit = omega (arith, fits_long columns row (right_of _ _ fit))

pub all_whole : (columns : List (Named SqlType)) (numbers : List ℕ) (rows : List Row) → ((row : Row) → length row ≡ length columns → key_of numbers row ≡ row) → list_all (fits_row columns) rows ≡ true → AllWhole numbers rows
all_whole columns numbers [] each all = refl
all_whole columns numbers (row ∷ rows) each all =
    both (ap (λ (z : Row). same_values z row) (each row (fits_long columns row (left_of _ _ all))) ∙ itself row) (all_whole columns numbers rows each (right_of _ _ all))

-- ---- each kind

-- how often a row stands in the first operand's rows and then those of the others
pub all_counts : (first list all : List Row) (others : List Rows) → list ≡ first → all ≡ list ++ flat_map rows_of others → (row : Row) → count row all ≡ count row first + total (map (count row) (map rows_of others))
all_counts first list all others first_is all_is row =
    ap (count row) (all_is ∙ ap (λ z. z ++ flat_map rows_of others) first_is) ∙ count_append row first (flat_map rows_of others) ∙ ap (λ n. count row first + n) (count_flat rows_of row others)

pub once_of_all : (first list all given left : List Row) (others : List Rows) → list ≡ first → all ≡ list ++ flat_map rows_of others → given ≡ all → ((row : Row) → count row left ≡ at_most_one (count row given)) → (row : Row) →
    count row left ≡ at_most_one (count row first + total (map (count row) (map rows_of others)))
once_of_all first list all given left others first_is all_is given_is left_counts row =
    left_counts row ∙ ap at_most_one (ap (count row) given_is ∙ all_counts first list all others first_is all_is row)

pub if_ok : {A E : Type 0} {P Q : A → Type 0} (r : Result A E) → ((x : A) → P x → Q x) → IfOk r P → IfOk r Q
if_ok (Ok x) step all = step x all
if_ok (Err e) step all = all

-- ---- all operands

-- the operands behind the first one, as a pattern gives them
abbrev pub behind_first : List Rows → List Rows
behind_first operands = take (length operands - 1) (drop 1 operands)

behind_is : (first : Rows) (others : List Rows) → behind_first (first ∷ others) ≡ others
behind_is first others = take_all (length (first ∷ others) - 1) others (omega arith)

by_others : (kind : SetKind) (first operand : Rows) (others : List Rows) (rows : List Row) → first ≡ operand → CombinedBy kind first.rows (map rows_of (behind_first (operand ∷ others))) rows →
    CombinedBy kind operand.rows (map rows_of others) rows
by_others kind first operand others rows is by =
    subst (λ (z : Rows). CombinedBy kind z.rows (map rows_of others) rows) is
    (subst (λ (z : List Rows). CombinedBy kind first.rows (map rows_of z) rows) (behind_is operand others) by)

pub set_combines : (kind : SetKind) (operands : List Rows) (first result : Rows) (rows : List Row) → 0 < length operands → first ≡ get_or operands 0 first → CombinedBy kind first.rows (map rows_of (behind_first operands)) rows → result.rows ≡ rows → Combines kind operands result
set_combines kind [] first result rows some is by result_is = absurd (omega arith)
set_combines kind (operand ∷ others) first result rows some is by result_is =
    subst (λ (z : List Row). Combined kind operand.rows (map rows_of others) z) (sym result_is)
    (combined kind operand.rows (map rows_of others) rows (by_others kind first operand others rows is by))

pub set_fits : (kind : SetKind) (operands : List Rows) (first : Rows) (columns : List (Named SqlType)) (rows list : List Row) → 0 < length operands → first ≡ get_or operands 0 first → Alike operands → columns ≡ first.columns → rows ≡ list →
    CombinedBy kind first.rows (map rows_of (behind_first operands)) list → list_all (fits_row columns) rows ≡ true
set_fits kind [] first columns rows list some is alike columns_are rows_are by = absurd (omega arith)
set_fits kind (operand ∷ others) first columns rows list some is alike columns_are rows_are by =
    let same : columns ≡ operand.columns = columns_are ∙ ap (λ (z : Rows). z.columns) is in
    ap (λ (z : List (Named SqlType)). list_all (fits_row z) rows) same ∙ ap (list_all (fits_row operand.columns)) rows_are
    ∙ result_passes (fits_row operand.columns) kind operand.rows rows_of others list (by_others kind first operand others list is by) operand.fitting (all_rows_fit operand others alike)

-- these columns are all of each operand's rows
pub first_whole : (first : Rows) (numbers : List ℕ) (width : ℕ) → width ≡ length first.columns → ((row : Row) → length row ≡ width → key_of numbers row ≡ row) → AllWhole numbers first.rows
first_whole first numbers width width_is each = all_whole first.columns numbers first.rows (λ row long. each row (long ∙ sym width_is)) first.fitting

others_by : (first operand : Rows) (others : List Rows) (numbers : List ℕ) (width : ℕ) → first ≡ operand → width ≡ length first.columns → Alike (operand ∷ others) → ((row : Row) → length row ≡ width → key_of numbers row ≡ row) → AllWhole numbers (flat_map rows_of others)
others_by first operand others numbers width is width_is alike each =
    all_whole operand.columns numbers (flat_map rows_of others) (λ row long. each row (long ∙ ap (λ (z : Rows). length z.columns) (sym is) ∙ sym width_is)) (all_rows_fit operand others alike)

pub others_whole : (operands : List Rows) (first : Rows) (numbers : List ℕ) (width : ℕ) → 0 < length operands → first ≡ get_or operands 0 first → width ≡ length first.columns → Alike operands → ((row : Row) → length row ≡ width → key_of numbers row ≡ row) →
    AllWhole numbers (flat_map rows_of (behind_first operands))
others_whole [] first numbers width some is width_is alike each = absurd (omega arith)
others_whole (operand ∷ others) first numbers width some is width_is alike each =
    subst (λ (z : List Rows). AllWhole numbers (flat_map rows_of z)) (sym (behind_is operand others)) (others_by first operand others numbers width is width_is alike each)
