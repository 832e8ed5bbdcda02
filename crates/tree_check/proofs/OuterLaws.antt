-- Numbers where they stand first, without those that are known.
use Rattle.std.proofs.Common.{◌≡◌, ℕ, ◌+◌, ◌<◌, ◌==◌, Bool, true, false, not, ◌||◌, if◌then◌else◌, List, [], ◌∷◌, ◌++◌, length, get_or, drop, take, refl, ap, sym, ◌∙◌, arith}
use Rattle.std.proofs.lemmas.Bool.Decides.{Decides-eqb}
use Rattle.std.proofs.lemmas.Grind.{common_steps}
use Rattle.std.proofs.lemmas.List.{at_drop_more, take_more}
use Rattle.resolved_ast.specs.declared.column.ColumnRef.{ColumnRef}
use Rattle.resolved_ast.specs.Columns.{among, firsts}
use Rattle.resolved_ast.specs.Flaws.{same_numbers}

-- two lists with the same numbers
abbrev pub Alike : List ℕ → List ℕ → Type 0
Alike xs ys = (n : ℕ) → among n xs ≡ among n ys

choice_same : (b c : Bool) (x x' y y' : List ℕ) → b ≡ c → x ≡ x' → y ≡ y' → (if b then x else y) ≡ (if c then x' else y')
choice_same b c x x' y y' e f g = ap (λ d. if d then x else y) e ∙ ap (λ z. if c then z else y) f ∙ ap (λ z. if c then x' else z) g

pub firsts_same : (ns xs ys : List ℕ) → Alike xs ys → firsts xs ns ≡ firsts ys ns
firsts_same [] xs ys e = refl
firsts_same (n ∷ ns) xs ys e =
    choice_same (among n xs) (among n ys) (firsts xs ns) (firsts ys ns) (n ∷ firsts (n ∷ xs) ns) (n ∷ firsts (n ∷ ys) ns) (e n) (firsts_same ns xs ys e)
    (ap (λ (zs : List ℕ). n ∷ zs) (firsts_same ns (n ∷ xs) (n ∷ ys) (λ m. ap (λ b. if m == n then true else b) (e m))))

-- ---- one number more, which is known already or new

known_by : (b added : Bool) (n : ℕ) (ns known new : List ℕ) → added ≡ not b → new ≡ (if b then known else n ∷ known) → added ≡ false →
    (if b then firsts known ns else (n ∷ firsts (n ∷ known) ns)) ≡ firsts new ns
known_by true added n ns known new was now old = ap (λ ks. firsts ks ns) (sym now)
known_by false added n ns known new was now old = cc

new_by : (b added : Bool) (n : ℕ) (ns known new : List ℕ) → added ≡ not b → new ≡ (if b then known else n ∷ known) → added ≡ true →
    (if b then firsts known ns else (n ∷ firsts (n ∷ known) ns)) ≡ n ∷ firsts new ns
new_by true added n ns known new was now fresh = cc
new_by false added n ns known new was now fresh = ap (λ ks. n ∷ firsts ks ns) (sym now)

module _ (numbers : List ℕ) (i : ℕ) (n : ℕ) (within : i < length numbers) (is : n ≡ get_or numbers i n)
    (known new : List ℕ) (added : Bool) (was : added ≡ not (among n known)) (now : new ≡ (if among n known then known else n ∷ known)) where
  next : firsts known (drop i numbers) ≡ firsts known (n ∷ drop (i + 1) numbers)
  next = at_drop_more (firsts known) numbers i n within ∙ ap (λ m. firsts known (m ∷ drop (i + 1) numbers)) (sym is)

  pub next_known : added ≡ false → firsts known (drop i numbers) ≡ firsts new (drop (i + 1) numbers)
  next_known old = next ∙ known_by (among n known) added n (drop (i + 1) numbers) known new was now old

  pub next_new : added ≡ true → firsts known (drop i numbers) ≡ n ∷ firsts new (drop (i + 1) numbers)
  next_new fresh = next ∙ new_by (among n known) added n (drop (i + 1) numbers) known new was now fresh

-- ---- a list beside them

pub none_listed : (list : List ColumnRef) → (length list == 0) ≡ same_numbers list []
none_listed [] = refl
none_listed (r ∷ list) = grind (arith, common_steps)

-- ---- numbers that are known after others were added

among_append : (n : ℕ) (xs ys : List ℕ) → among n (xs ++ ys) ≡ (among n xs || among n ys)
among_append n [] ys = refl
among_append n (x ∷ xs) ys = or_step (n == x) (among n (xs ++ ys)) (among n xs) (among n ys) (among_append n xs ys)
  where
    or_step : (b c d e : Bool) → c ≡ (d || e) → (if b then true else c) ≡ ((if b then true else d) || e)
    or_step true c d e is = refl
    or_step false c d e is = is

module _ (m n : ℕ) (known new : List ℕ) where
  known_so : (d : Bool) → (m == n) ≡ d → among n known ≡ true → among m known ≡ (if d then true else among m known)
  known_so true e is = ap (λ k. among k known) ((Decides-eqb m n).0 e) ∙ is
  known_so false e is = refl

  added_so : (b : Bool) → among n known ≡ b → new ≡ (if b then known else n ∷ known) → among m new ≡ (if m == n then true else among m known)
  added_so true is now = ap (among m) now ∙ known_so (m == n) refl is
  added_so false is now = ap (among m) now

or_last : (d k t : Bool) → (if d then true else (k || t)) ≡ (k || (t || (if d then true else false)))
or_last true true t = refl
or_last true false true = refl
or_last true false false = refl
or_last false true t = refl
or_last false false true = refl
or_last false false false = refl

pub one_known : (m n i : ℕ) (numbers first known new : List ℕ) → i < length numbers → n ≡ get_or numbers i 0 →
    among m known ≡ (among m first || among m (take i numbers)) → new ≡ (if among n known then known else n ∷ known) →
    among m new ≡ (among m first || among m (take (i + 1) numbers))
one_known m n i numbers first known new within is so now =
    added_so m n known new (among n known) refl now
    ∙ ap (λ b. if m == n then true else b) so
    ∙ or_last (m == n) (among m first) (among m (take i numbers))
    ∙ ap (λ b. among m first || b) (sym (among_append m (take i numbers) (n ∷ [])))
    ∙ ap (λ k. among m first || among m (take i numbers ++ k ∷ [])) is
    ∙ ap (λ ns. among m first || among m ns) (sym (take_more numbers i 0 within))
