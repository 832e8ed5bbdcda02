-- Lists of pieces with commas between them, before what closes the list: where each piece ends, and how many there are.
use Rattle.std.proofs.Common.{◌≡◌, ℕ, Bool, true, false, ◌==◌, ◌||◌, List, [], ◌∷◌, ◌++◌, map, codes, refl, ap, sym, ◌∙◌, append_assoc, arith}
use Rattle.std.proofs.lemmas.Bool.{false≢true}
use Rattle.std.proofs.lemmas.Bool.Decides.{nat_tests}
use Rattle.sql_names.specs.Commas.{joined, continued}
use Rattle.sql_texts.proofs.Numbers.{first_of}

-- behind a piece stands a comma, or what closes the list
abbrev pub after : ℕ → List ℕ → Bool
after z r = first_of r == 44 || first_of r == z

-- something of each element
abbrev pub Each : {A : Type 0} → (A → Type 0) → List A → Type 0
Each P [] = Unit {0}
Each P (x ∷ xs) = P x × Each P xs

pub each_by : {A : Type 0} (P : A → Type 0) → ((x : A) → P x) → (xs : List A) → Each P xs
each_by P all [] = tt
each_by P all (x ∷ xs) = (all x, each_by P all xs)

closes : (z : ℕ) (r : List ℕ) → after z (z ∷ r) ≡ true
closes z r = grind (arith, nat_tests)

same : (n : ℕ) → (n == n) ≡ true
same n = grind (arith, nat_tests)

past_comma : (p q r s : List ℕ) → (codes ", " ++ p) ++ r ≡ (codes ", " ++ q) ++ s → p ++ r ≡ q ++ s
past_comma p q r s e = cc

module _ {A K : Type 0} (text : A → List ℕ) (key : A → K) (Fine : A → Type 0) (z : ℕ) (no_comma : (44 == z) ≡ false)
    (opens : (x : A) (r : List ℕ) → Fine x → (first_of (text x ++ r) == z) ≡ false) where
  -- the text of the piece is that of another one alone that has the same key
  abbrev pub Law : A → Type 0
  Law x = (y : A) (r s : List ℕ) → Fine y → after z r ≡ true → after z s ≡ true → text x ++ r ≡ text y ++ s → (key x ≡ key y) × (r ≡ s)

  more_after : (xs : List A) (r : List ℕ) → after z (continued (map text xs) ++ z ∷ r) ≡ true
  more_after [] r = closes z r
  more_after (x ∷ xs) r = refl

  first_piece : (x y : A) (p q r s : List ℕ) → Law x → Fine y → after z (p ++ r) ≡ true → after z (q ++ s) ≡ true → (text x ++ p) ++ r ≡ (text y ++ q) ++ s → (key x ≡ key y) × (p ++ r ≡ q ++ s)
  first_piece x y p q r s law fine stop stop' e = law y (p ++ r) (q ++ s) fine stop stop' (sym (append_assoc (text x) p r) ∙ e ∙ append_assoc (text y) q s)

  comma_apart : (r s : List ℕ) → z ∷ r ≡ codes ", " ++ s → true ≡ false
  comma_apart r s e = let is : z ≡ 44 = ap first_of e in sym (same z) ∙ ap (λ c. c == z) is ∙ no_comma

  more_once : (xs ys : List A) (r s : List ℕ) → Each Law xs → Each Fine ys → continued (map text xs) ++ z ∷ r ≡ continued (map text ys) ++ z ∷ s → (map key xs ≡ map key ys) × (r ≡ s)
  more_once [] [] r s laws fine e = (refl, cc)
  more_once [] (y ∷ ys) r s laws fine e = absurd (false≢true (sym (comma_apart r ((text y ++ continued (map text ys)) ++ z ∷ s) e)))
  more_once (x ∷ xs) [] r s laws fine e = absurd (false≢true (sym (comma_apart s ((text x ++ continued (map text xs)) ++ z ∷ r) (sym e))))
  more_once (x ∷ xs) (y ∷ ys) r s laws fine e =
      let p = continued (map text xs) in
      let q = continued (map text ys) in
      let first = first_piece x y p q (z ∷ r) (z ∷ s) laws.0 fine.0 (more_after xs r) (more_after ys s) (past_comma (text x ++ p) (text y ++ q) (z ∷ r) (z ∷ s) e) in
      let rest = more_once xs ys r s laws.1 fine.1 first.1 in
      (λ i. first.0 i ∷ rest.0 i, rest.1)

  none : (y : A) (p r s : List ℕ) → Fine y → z ∷ r ≡ (text y ++ p) ++ s → true ≡ false
  none y p r s fine e = sym (same z) ∙ ap (λ l. first_of l == z) (e ∙ append_assoc (text y) p s) ∙ opens y (p ++ s) fine

  pub joined_once : (xs ys : List A) (r s : List ℕ) → Each Law xs → Each Fine xs → Each Fine ys → joined (map text xs) ++ z ∷ r ≡ joined (map text ys) ++ z ∷ s → (map key xs ≡ map key ys) × (r ≡ s)
  joined_once [] [] r s laws fine fine' e = (refl, cc)
  joined_once [] (y ∷ ys) r s laws fine fine' e = absurd (false≢true (sym (none y (continued (map text ys)) r (z ∷ s) fine'.0 e)))
  joined_once (x ∷ xs) [] r s laws fine fine' e = absurd (false≢true (sym (none x (continued (map text xs)) s (z ∷ r) fine.0 (sym e))))
  joined_once (x ∷ xs) (y ∷ ys) r s laws fine fine' e =
      let p = continued (map text xs) in
      let q = continued (map text ys) in
      let first = first_piece x y p q (z ∷ r) (z ∷ s) laws.0 fine'.0 (more_after xs r) (more_after ys s) e in
      let rest = more_once xs ys r s laws.1 fine'.1 first.1 in
      (λ i. first.0 i ∷ rest.0 i, rest.1)

-- the key is the element itself
pub itself : {A : Type 0} (xs : List A) → map (λ x. x) xs ≡ xs
itself [] = refl
itself (x ∷ xs) = ap (λ l. x ∷ l) (itself xs)
