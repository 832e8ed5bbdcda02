-- The steps of adding new numbers from the last to the first.
use Rattle.std.proofs.Common.{◌≡◌, ◌==◌, ℕ, zero, suc, ◌<◌, Bool, true, false, ◌&&◌, not, List, [], ◌∷◌, ◌++◌, length, get_or, drop, ◌+◌, ap, sym, ◌∙◌}
use Rattle.std.proofs.lemmas.List.{drop_more}
use Rattle.resolved_ast.specs.declared.column.MadeColumn.{MadeColumn}
use Rattle.resolved_ast.specs.Columns.{numbers, among}
use Rattle.resolved_ast.specs.Flaws.{are_new}
use Rattle.tree_check.proofs.NumberLaws.{new_front}

-- a front that isn't new
fails_left : (a b : Bool) → a ≡ false → (a && b) ≡ false
fails_left a b e = ap (λ x. x && b) e

and_both : (a b : Bool) → a ≡ true → b ≡ true → (a && b) ≡ true
and_both a b e f = ap (λ x. x && b) e ∙ f

-- those before them change nothing where some aren't new
pub not_new : (cs : List MadeColumn) (k : ℕ) (old : List ℕ) → are_new (numbers (drop k cs)) old ≡ false → are_new (numbers cs) old ≡ false
not_new cs zero old e = e
not_new [] (suc k) old e = e
not_new (c ∷ cs) (suc k) old e =
    new_front c.id.0 (numbers cs) old ∙ fails_left (are_new (numbers cs) old) (not (c.id.0 == 0) && not (among c.id.0 (numbers cs ++ old))) (not_new cs k old e)

-- the columns from one place on, where those from the next are known
module _ (cs : List MadeColumn) (k left : ℕ) (x : MadeColumn) (old known : List ℕ) (within : k < length cs) (next : left ≡ k + 1) (is : x ≡ get_or cs k x)
    (new : are_new (numbers (drop left cs)) old ≡ true) (kept : known ≡ numbers (drop left cs) ++ old) where
  here : numbers (drop k cs) ≡ x.id.0 ∷ numbers (drop left cs)
  here =
      ap numbers (drop_more cs k x within) ∙ ap (λ (y : MadeColumn). y.id.0 ∷ numbers (drop (k + 1) cs)) (sym is)
      ∙ ap (λ (n : ℕ). x.id.0 ∷ numbers (drop n cs)) (sym next)

  tested : are_new (numbers (drop k cs)) old ≡ (not (x.id.0 == 0) && not (among x.id.0 known))
  tested =
      ap (λ ns. are_new ns old) here ∙ new_front x.id.0 (numbers (drop left cs)) old
      ∙ ap (λ b. b && (not (x.id.0 == 0) && not (among x.id.0 (numbers (drop left cs) ++ old)))) new
      ∙ ap (λ ns. not (x.id.0 == 0) && not (among x.id.0 ns)) (sym kept)

  pub goes_new : (not (x.id.0 == 0) && not (among x.id.0 known)) ≡ true → are_new (numbers (drop k cs)) old ≡ true
  goes_new e = tested ∙ e

  pub goes_known : x.id.0 ∷ known ≡ numbers (drop k cs) ++ old
  goes_known = ap (λ ns. x.id.0 ∷ ns) kept ∙ ap (λ ns. ns ++ old) (sym here)

  pub stops_new : (not (x.id.0 == 0) && not (among x.id.0 known)) ≡ false → are_new (numbers cs) old ≡ false
  stops_new e = not_new cs k old (tested ∙ e)
