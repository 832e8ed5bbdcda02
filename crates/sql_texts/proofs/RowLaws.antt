-- The rows of a text.
use Rattle.std.proofs.Common.{◌≡◌, ℕ, true, false, ◌==◌, List, [], ◌∷◌, ◌++◌, map, length, codes, decimal, refl, ap, sym, subst, ◌∙◌, append_assoc}
use Rattle.std.proofs.lemmas.Bool.{false≢true, and_parts}
use Rattle.std.proofs.lemmas.List.{append_cancel_left}
use Rattle.std.specs.List.{list_all}
use Rattle.sql_names.specs.Commas.{joined, continued}
use Rattle.sql_types.specs.Fits.{fits, fits_row}
use Rattle.sql_types.specs.declared.sql_type.Named.{Named}
use Rattle.sql_types.specs.declared.sql_type.SqlType.{SqlType}
use Rattle.sql_types.specs.declared.sql_type.SqlType.TheShapes as shapes
use Rattle.sql_types.specs.declared.value.Value.{Value}
use Rattle.sql_ast.specs.Literals.{LiteralText}
use Rattle.sql_ast.specs.Rows.{header_text, row_text, rows_lines, count_text, RowsText}
use Rattle.sql_texts.proofs.Fronts.{literal_once}
use Rattle.sql_texts.proofs.Lists.{With, bare_fields, fields_once, literal_first}
use Rattle.sql_texts.proofs.Numbers.{first_of}
use Rattle.sql_texts.proofs.Openings.{opening}

-- each column with the law of its literals
abbrev told : List (Named SqlType) → List (Named With)
told = map (shapes.former-SqlType-Struct-0-at-2.map SqlType With (λ ty. (ty, literal_once ty)))

told_bare : (columns : List (Named SqlType)) → bare_fields (told columns) ≡ columns
told_bare [] = refl
told_bare (c ∷ columns) = ap (λ cs. c ∷ cs) (told_bare columns)

abbrev FitsRow : List (Named SqlType) → List Value → Type 0
FitsRow columns row = fits_row columns row ≡ true

row_once : (columns : List (Named SqlType)) (xs ys : List Value) (r s : List ℕ) → FitsRow columns xs → FitsRow columns ys → row_text xs ++ r ≡ row_text ys ++ s → (xs ≡ ys) × (r ≡ s)
row_once columns xs ys r s fit fit' e =
    let is = sym (told_bare columns) in
    fields_once 10 refl (told columns) xs ys r s (subst (λ cs. FitsRow cs xs) is fit) (subst (λ cs. FitsRow cs ys) is fit')
    (sym (append_assoc (joined (map LiteralText xs)) (10 ∷ []) r) ∙ e ∙ append_assoc (joined (map LiteralText ys)) (10 ∷ []) s)

-- a row's line doesn't begin as the last line does, with `r`
row_begins : (columns : List (Named SqlType)) (xs : List Value) (r s : List ℕ) → FitsRow columns xs → row_text xs ++ r ≡ 114 ∷ s → true ≡ false
row_begins columns [] r s fit e = ap (λ z. first_of z == 10) e
row_begins [] (x ∷ xs) r s fit e = absurd (false≢true fit)
row_begins (c ∷ columns) (x ∷ xs) r s fit e =
    let both = and_parts (fits c.ty x) (fits_row columns xs) fit in
    let p = continued (map LiteralText xs) in
    sym (ap (λ z. opening (first_of z)) (append_assoc (LiteralText x ++ p) (10 ∷ []) r ∙ append_assoc (LiteralText x) p (10 ∷ r)) ∙ literal_first c.ty x (p ++ 10 ∷ r) both.0) ∙ ap (λ z. opening (first_of z)) e

lines_once : (columns : List (Named SqlType)) (left right : List (List Value)) (r s : List ℕ) → list_all (fits_row columns) left ≡ true → list_all (fits_row columns) right ≡ true
    → rows_lines left ++ 114 ∷ r ≡ rows_lines right ++ 114 ∷ s → left ≡ right
lines_once columns [] [] r s fit fit' e = refl
lines_once columns [] (y ∷ ys) r s fit fit' e =
    let right = and_parts (fits_row columns y) (list_all (fits_row columns) ys) fit' in
    absurd (false≢true (sym (row_begins columns y (rows_lines ys ++ 114 ∷ s) r right.0 (sym (append_assoc (row_text y) (rows_lines ys) (114 ∷ s)) ∙ sym e))))
lines_once columns (x ∷ xs) [] r s fit fit' e =
    let left = and_parts (fits_row columns x) (list_all (fits_row columns) xs) fit in
    absurd (false≢true (sym (row_begins columns x (rows_lines xs ++ 114 ∷ r) s left.0 (sym (append_assoc (row_text x) (rows_lines xs) (114 ∷ r)) ∙ e))))
lines_once columns (x ∷ xs) (y ∷ ys) r s fit fit' e =
    let left = and_parts (fits_row columns x) (list_all (fits_row columns) xs) fit in
    let right = and_parts (fits_row columns y) (list_all (fits_row columns) ys) fit' in
    let first = row_once columns x y (rows_lines xs ++ 114 ∷ r) (rows_lines ys ++ 114 ∷ s) left.0 right.0
    (sym (append_assoc (row_text x) (rows_lines xs) (114 ∷ r)) ∙ e ∙ append_assoc (row_text y) (rows_lines ys) (114 ∷ s)) in
    let row = first.0 in
    let rest = lines_once columns xs ys r s left.1 right.1 first.1 in
    λ i. row i ∷ rest i

-- what the last line says behind its first byte
abbrev behind_first : ℕ → List ℕ
behind_first n = codes "ows=" ++ decimal n ++ 10 ∷ []

pub rows_once : (columns : List (Named SqlType)) (left right : List (List Value)) → list_all (fits_row columns) left ≡ true → list_all (fits_row columns) right ≡ true
    → RowsText columns left ≡ RowsText columns right → left ≡ right
rows_once columns left right fit fit' e =
    let header = header_text columns in
    lines_once columns left right (behind_first (length left)) (behind_first (length right)) fit fit'
    (append_cancel_left header (rows_lines left ++ count_text (length left)) (rows_lines right ++ count_text (length right))
    (sym (append_assoc header (rows_lines left) (count_text (length left))) ∙ e ∙ append_assoc header (rows_lines right) (count_text (length right))))
