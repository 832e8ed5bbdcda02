-- One row of the table after another.
use Rattle.std.proofs.Common.{◌≡◌, ℕ, ◌+◌, ◌<◌, Bool, true, false, List, [], ◌∷◌, length, drop, get_or, map, Option, ap, sym, ◌∙◌, arith, add-one, drop-cons}
use Rattle.std.specs.List.{filter_map, list_all}
use Rattle.std.specs.Str.{str_eq_ignore_ascii_case}
use Rattle.sql_coerce.specs.declared.arg.Arg.{Arg}
use Rattle.sql_builtins.specs.declared.table.Row.{Row}
use Rattle.sql_builtins.specs.Table.{Signature}
use Rattle.sql_builtins.specs.Choices.{Applied, applied, rows_of}
use Rattle.sql_builtins.specs.Seen.{seen}
use Rattle.sql_builtins.specs.Steps.{ends_open, better_than, best_after, cheapest_behind}
use Rattle.sql_builtins.proofs.PlaceLaws.{and-right}
use Rattle.sql_builtins.proofs.StepLaws.{row-named, row-other}

-- the row at a place and those behind it
first-of : (rows : List Row) (i : ℕ) (d : Row) → i < length rows → map seen (drop i rows) ≡ seen (get_or rows i d) ∷ map seen (drop (i + 1) rows)
first-of rows i d within = ap (map seen) (drop-cons rows i d within) ∙ ap (λ (n : ℕ). seen (get_or rows i d) ∷ map seen (drop n rows)) (sym (add-one i))

abbrev ends : List Signature → Bool
ends rows = list_all (λ row. ends_open row.takes) rows

pub ends-behind : (rows : List Row) (i : ℕ) → i < length rows → list_all (λ row. ends_open row.takes) (map seen (drop i rows)) ≡ true → list_all (λ row. ends_open row.takes) (map seen (drop (i + 1) rows)) ≡ true
ends-behind [] i within each = absurd (omega arith)
ends-behind (row ∷ rows) i within each =
    and-right (ends_open (seen (get_or (row ∷ rows) i row)).takes) (ends (map seen (drop (i + 1) (row ∷ rows)))) (sym (ap ends (first-of (row ∷ rows) i row within)) ∙ each)

pub named-behind : (rows : List Row) (i : ℕ) (d : Row) (name : List ℕ) (arguments : List Arg) (best better after all : Option Applied) → i < length rows → str_eq_ignore_ascii_case (seen (get_or rows i d)).name name ≡ true → better ≡ better_than best (applied arguments (seen (get_or rows i d))) → after ≡ best_after best better → cheapest_behind best (filter_map (applied arguments) (rows_of name (map seen (drop i rows)))) ≡ all → cheapest_behind after (filter_map (applied arguments) (rows_of name (map seen (drop (i + 1) rows)))) ≡ all
named-behind rows i d name arguments best better after all within named is next same =
    ap (λ (b : Option Applied). cheapest_behind b (filter_map (applied arguments) (rows_of name (map seen (drop (i + 1) rows))))) next
    ∙ row-named best better name arguments (seen (get_or rows i d)) (map seen (drop (i + 1) rows)) named is
    ∙ ap (λ (more : List Signature). cheapest_behind best (filter_map (applied arguments) (rows_of name more))) (sym (first-of rows i d within)) ∙ same

pub other-behind : (rows : List Row) (i : ℕ) (d : Row) (name : List ℕ) (arguments : List Arg) (best after all : Option Applied) → i < length rows → str_eq_ignore_ascii_case (seen (get_or rows i d)).name name ≡ false → after ≡ best → cheapest_behind best (filter_map (applied arguments) (rows_of name (map seen (drop i rows)))) ≡ all → cheapest_behind after (filter_map (applied arguments) (rows_of name (map seen (drop (i + 1) rows)))) ≡ all
other-behind rows i d name arguments best after all within named next same =
    ap (λ (b : Option Applied). cheapest_behind b (filter_map (applied arguments) (rows_of name (map seen (drop (i + 1) rows))))) next
    ∙ row-other best name arguments (seen (get_or rows i d)) (map seen (drop (i + 1) rows)) named
    ∙ ap (λ (more : List Signature). cheapest_behind best (filter_map (applied arguments) (rows_of name more))) (sym (first-of rows i d within)) ∙ same
