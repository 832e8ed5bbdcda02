-- Rows that are moved to the front of their list.
use Rattle.std.proofs.Common.{◌≡◌, ℕ, zero, suc, ◌+◌, ◌-◌, ◌<◌, ◌≤◌, List, [], ◌∷◌, ◌++◌, length, get_or, set, take, drop, refl, ap, sym, ◌∙◌, arith}
use Rattle.std.specs.List.{remove}
use Rattle.std.proofs.lemmas.List.{ext_get_or, get_or-set_same, get_or-set_other, get_or-take, get_or-drop, length-take, length-drop, length-append, length-set, get_or_append_left, get_or_at, drop_more, drop-take, take_all}
use Rattle.sql_types.specs.Cut.{cut}
use Rattle.sql_types.specs.Joined.{Row}

-- Of the last rows of a list, so many as are kept, some wait at the end, and the others stand at their places in front.
pub record Moved (rows list : List Row) (left_out kept waiting : ℕ) : Type 0 where
  pub long : length list ≡ left_out + waiting
  pub some : waiting ≤ kept
  pub moved : (k : ℕ) → waiting ≤ k → k < kept → get_or list k [] ≡ get_or rows (left_out + k) []
  pub waits : (k : ℕ) → k < waiting → get_or list (left_out + k) [] ≡ get_or rows (left_out + k) []

pub none_moved : (rows : List Row) (left_out kept : ℕ) → length rows ≡ left_out + kept → Moved rows rows left_out kept kept
none_moved rows left_out kept long = record {
  long = long;
  some = omega arith;
  moved = λ k above below. absurd (omega arith);
  waits = λ k below. refl;
}

-- the last row goes to its place
moved_last : (rows rest : List Row) (last : Row) (left_out kept waiting : ℕ) → kept ≤ left_out → Moved rows (rest ++ last ∷ []) left_out kept (suc waiting) → length rest ≡ left_out + waiting → get_or (set rest waiting last) waiting [] ≡ get_or rows (left_out + waiting) []
moved_last rows rest last left_out kept waiting fewer m short =
    let within : waiting < length rest = omega (arith, m.some) in
    get_or-set_same rest waiting last [] within ∙ sym (get_or_at rest last [] [] (left_out + waiting) short) ∙ m.waits waiting (omega arith)

moved_earlier : (rows rest : List Row) (last : Row) (left_out kept waiting k : ℕ) → kept ≤ left_out → Moved rows (rest ++ last ∷ []) left_out kept (suc waiting) → length rest ≡ left_out + waiting → waiting < k → k < kept → get_or (set rest waiting last) k [] ≡ get_or rows (left_out + k) []
moved_earlier rows rest last left_out kept waiting k fewer m short above below =
    get_or-set_other rest waiting k last [] (λ e. omega arith) ∙ sym (get_or_append_left rest (last ∷ []) [] k (omega arith)) ∙ m.moved k (omega arith) below

moved_each : (rows rest : List Row) (last : Row) (left_out kept waiting k : ℕ) → kept ≤ left_out → Moved rows (rest ++ last ∷ []) left_out kept (suc waiting) → length rest ≡ left_out + waiting → waiting ≤ k → k < kept → (gap : ℕ) → k ≡ waiting + gap → get_or (set rest waiting last) k [] ≡ get_or rows (left_out + k) []
moved_each rows rest last left_out kept waiting k fewer m short above below zero at =
    let here : waiting ≡ k = omega arith in
    ap (λ n. get_or (set rest waiting last) n []) (sym here) ∙ moved_last rows rest last left_out kept waiting fewer m short ∙ ap (λ n. get_or rows (left_out + n) []) here
moved_each rows rest last left_out kept waiting k fewer m short above below (suc gap) at = moved_earlier rows rest last left_out kept waiting k fewer m short (omega arith) below

pub one_moved : (rows list rest : List Row) (last : Row) (left_out kept waiting : ℕ) → kept ≤ left_out → Moved rows list left_out kept (suc waiting) → list ≡ rest ++ last ∷ [] → Moved rows (set rest waiting last) left_out kept waiting
one_moved rows list rest last left_out kept waiting fewer before is =
    let m : Moved rows (rest ++ last ∷ []) left_out kept (suc waiting) = rw (← is) before in
    let all : length (rest ++ last ∷ []) ≡ length rest + 1 = length-append rest (last ∷ []) in
    let short : length rest ≡ left_out + waiting = omega (arith, all, m.long) in
    record {
      long = length-set rest waiting last ∙ short;
      some = omega (arith, m.some);
      moved = λ k above below. moved_each rows rest last left_out kept waiting k fewer m short above below (k - waiting) (omega arith);
      waits = λ k below.
          get_or-set_other rest waiting (left_out + k) last [] (λ e. omega (arith, m.some)) ∙ sym (get_or_append_left rest (last ∷ []) [] (left_out + k) (omega arith)) ∙ m.waits k (omega arith);
    }

pub all_moved : (rows list : List Row) (left_out kept waiting : ℕ) → kept ≤ left_out → length rows ≡ left_out + kept → waiting ≤ 0 → Moved rows list left_out kept waiting → take kept list ≡ drop left_out rows
all_moved rows list left_out kept waiting fewer long none m =
    let short : length (take kept list) ≡ kept = length-take kept list ∙ omega (arith, m.long) in
    ext_get_or [] (take kept list) (drop left_out rows) (short ∙ omega (arith, length-drop left_out rows))
    (λ i within. get_or-take kept list i [] (omega arith) ∙ m.moved i (omega arith) (omega arith) ∙ sym (get_or-drop left_out rows i []))

-- ---- the first row is removed

pub first_removed : (rows : List Row) (n : ℕ) → n < length rows → remove (drop n rows) 0 ≡ drop (n + 1) rows
first_removed rows n within = ap (λ (list : List Row). remove list 0) (drop_more rows n [] within)

-- ---- cuts

pub cut_taken : (list short kept : List Row) (skip count : ℕ) → short ≡ take (skip + count) list → kept ≡ drop skip short → kept ≡ cut list skip count
cut_taken list short kept skip count short_is kept_is = kept_is ∙ ap (λ (z : List Row). drop skip z) short_is ∙ drop-take skip count list

pub cut_whole : (list kept : List Row) (skip count : ℕ) → length list ≤ skip + count → kept ≡ drop skip list → kept ≡ cut list skip count
cut_whole list kept skip count few kept_is = kept_is ∙ sym (take_all count (drop skip list) (omega (arith, length-drop skip list)))
