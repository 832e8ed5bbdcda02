-- What is written on a page.
use Rattle.std.proofs.Common.{◌≡◌, ℕ, ◌+◌, ◌<◌, ◌≤◌, Bool, true, false, ◌&&◌, List, [], ◌∷◌, ◌++◌, length, take, drop, get_or, codes, refl, sym, ◌∙◌, ap, subst, append_assoc, arith}
use Rattle.std.proofs.lemmas.List.{drop_more, at_drop_all}
use Rattle.resolved_ast.specs.Lines.{each_text}
use Rattle.resolved_ast.specs.LiteralsFit.{each_fits}
use Rattle.resolved_ast.specs.TreeText.{Shown, line, node, in_turn}
use Rattle.resolved_ast.specs.Pages.{Page, blank, written, deeper, narrowed, below}

pub written_append : (page : Page) (xs ys : List ℕ) → written page (xs ++ ys) ≡ written (written page xs) ys
unfolding written
written_append page xs ys = ap (λ r. record { text = r; margin = page.margin }) (sym (append_assoc page.text xs ys))

append_nil : (xs : List ℕ) → xs ++ [] ≡ xs
append_nil [] = refl
append_nil (x ∷ xs) = ap (λ r. x ∷ r) (append_nil xs)

pub written_none : (page : Page) → written page [] ≡ page
unfolding written
written_none page = ap (λ r. record { text = r; margin = page.margin }) (append_nil page.text)

front : (xs ys : List ℕ) → take (length xs) (xs ++ ys) ≡ xs
front [] ys = refl
front (x ∷ xs) ys = ap (λ r. x ∷ r) (front xs ys)

-- what is written further in, and then back again
pub narrowed_again : (page : Page) (text : List ℕ) → narrowed (written (deeper page) text) (length page.margin) ≡ written page text
unfolding written deeper narrowed
narrowed_again page text = ap (λ m. record { text = page.text ++ text; margin = m }) (front page.margin (codes "  "))

-- a field, and what comes behind it
pub written_field : (page : Page) (field rest : List ℕ) → written page ((codes " " ++ field) ++ rest) ≡ written (written page (codes " " ++ field)) rest
written_field page field rest = written_append page (codes " " ++ field) rest

-- a part that is written further in
pub showed_below : (shown : List ℕ → List ℕ) (page first second last : Page) (depth : ℕ) → depth ≡ length page.margin → first ≡ deeper page →
    second ≡ written first (shown first.margin) → last ≡ narrowed second depth → last ≡ below page shown
unfolding deeper below
showed_below shown page first second last depth deep in_ wrote out =
    out
    ∙ ap (λ q. narrowed q depth) (wrote ∙ ap (λ (q : Page). written q (shown q.margin)) in_)
    ∙ ap (narrowed (written (deeper page) (shown (page.margin ++ codes "  ")))) deep
    ∙ narrowed_again page (shown (page.margin ++ codes "  "))

-- the margin stays
pub same_margin : (page : Page) (text : List ℕ) → (written page text).margin ≡ page.margin
unfolding written
same_margin page text = refl

and_first : (a b : Bool) → (a && b) ≡ true → a ≡ true
and_first true b both = refl
and_first false b both = both

and_second : (a b : Bool) → (a && b) ≡ true → b ≡ true
and_second true b both = both
and_second false b both = grind (arith, both)

-- what the invariant says of the parts that are left
pub record Left {A : Type 0} (shown : A → List ℕ → List ℕ) (fit : A → Bool) (margin : List ℕ) (whole page : Page) (rest : List A) : Type 0 where
  pub text : written page (each_text shown rest margin) ≡ whole
  pub same : page.margin ≡ margin
  pub fits : each_fits fit rest ≡ true

one_less : {A : Type 0} (shown : A → List ℕ → List ℕ) (fit : A → Bool) (margin : List ℕ) (whole page next : Page) (x : A) (rest : List A) →
    next ≡ written page (shown x page.margin) → Left shown fit margin whole page (x ∷ rest) → Left shown fit margin whole next rest
one_less shown fit margin whole page next x rest wrote left = record {
  text =
      ap (λ q. written q (each_text shown rest margin)) (wrote ∙ ap (λ m. written page (shown x m)) left.same)
      ∙ sym (written_append page (shown x margin) (each_text shown rest margin)) ∙ left.text;
  same = ap (λ (q : Page). q.margin) wrote ∙ same_margin page (shown x page.margin) ∙ left.same;
  fits = and_second (fit x) (each_fits fit rest) left.fits;
}

-- one part more is written
pub showed_one : {A : Type 0} (shown : A → List ℕ → List ℕ) (fit : A → Bool) (margin : List ℕ) (whole page next : Page) (xs : List A) (i : ℕ) (x : A) → i < length xs → x ≡ get_or xs i x →
    next ≡ written page (shown x page.margin) → Left shown fit margin whole page (drop i xs) → Left shown fit margin whole next (drop (i + 1) xs)
showed_one shown fit margin whole page next xs i x within at wrote left =
    one_less shown fit margin whole page next x (drop (i + 1) xs) wrote
    (subst (λ y. Left shown fit margin whole page (y ∷ drop (i + 1) xs)) (sym at) (subst (Left shown fit margin whole page) (drop_more xs i x within) left))

-- the next part can be written
pub next_fits : {A : Type 0} (fit : A → Bool) (xs : List A) (i : ℕ) (x : A) → i < length xs → x ≡ get_or xs i x → each_fits fit (drop i xs) ≡ true → fit x ≡ true
next_fits fit xs i x within at all =
    and_first (fit x) (each_fits fit (drop (i + 1) xs)) (subst (λ y. each_fits fit (y ∷ drop (i + 1) xs) ≡ true) (sym at) (subst (λ l. each_fits fit l ≡ true) (drop_more xs i x within) all))

-- no part is left
pub showed_all : {A : Type 0} (shown : A → List ℕ → List ℕ) (fit : A → Bool) (margin : List ℕ) (whole page : Page) (xs : List A) (i : ℕ) → length xs ≤ i →
    Left shown fit margin whole page (drop i xs) → page ≡ whole
showed_all shown fit margin whole page xs i end left =
    sym (written_none page) ∙ sym (at_drop_all (λ l. written page (each_text shown l margin)) xs i end) ∙ left.text

-- ---- nodes

-- parts one after another, each two spaces further in
abbrev pub all_below : Page → List Shown → Page
all_below page [] = page
all_below page (s ∷ ss) = all_below (below page s) ss

wrote_parts : (page : Page) (parts : List Shown) → written page (in_turn parts (page.margin ++ codes "  ")) ≡ all_below page parts
unfolding below
wrote_parts page [] = written_none page
wrote_parts page (s ∷ ss) =
    written_append page (s (page.margin ++ codes "  ")) (in_turn ss (page.margin ++ codes "  "))
    ∙ ap (λ m. written (written page (s (page.margin ++ codes "  "))) (in_turn ss (m ++ codes "  "))) (sym (same_margin page (s (page.margin ++ codes "  "))))
    ∙ wrote_parts (written page (s (page.margin ++ codes "  "))) ss

-- a node is its line, and then its parts
pub wrote_node : (page : Page) (word : List ℕ) (fields : List (List ℕ)) (parts : List Shown) →
    written page (node word fields parts page.margin) ≡ all_below (written page (line word fields page.margin)) parts
wrote_node page word fields parts =
    written_append page (line word fields page.margin) (in_turn parts (page.margin ++ codes "  "))
    ∙ ap (λ m. written (written page (line word fields page.margin)) (in_turn parts (m ++ codes "  "))) (sym (same_margin page (line word fields page.margin)))
    ∙ wrote_parts (written page (line word fields page.margin)) parts

-- several parts together
pub below_each : (page : Page) (parts : List Shown) → all_below page parts ≡ below page (in_turn parts)
unfolding below
below_each page parts = sym (wrote_parts page parts)

pub below_append : (page : Page) (xs ys : List Shown) → all_below page (xs ++ ys) ≡ all_below (all_below page xs) ys
below_append page [] ys = refl
below_append page (x ∷ xs) ys = below_append (below page x) xs ys

-- on a blank page a text is what is written
pub blank_text : (text : List ℕ) → (written blank text).text ≡ text
unfolding written
blank_text text = refl
