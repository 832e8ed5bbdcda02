-- The places of a row's arguments: how many there are, and that the open types stand at their end.
use Rattle.std.proofs.Common.{◌≡◌, ℕ, zero, suc, ◌-◌, ◌≤◌, Bool, true, false, cond, eqb, List, [], ◌∷◌, ◌++◌, length, take, Option, Some, None, refl, ap, sym, ◌∙◌, arith, length-append}
use Rattle.std.specs.Prelude.{◌&&◌, replicate, nat_le, option_map}
use Rattle.std.specs.List.{last_or, list_all}
use Rattle.std.proofs.lemmas.List.{length-replicate}
use Rattle.std.proofs.lemmas.Bool.Decides.{nat_tests}
use Rattle.std.proofs.lemmas.Grind.{common_steps}
use Rattle.sql_builtins.specs.declared.table.Slot.{Slot}
use Rattle.sql_builtins.specs.declared.table.Repeats.{Repeats}
use Rattle.sql_builtins.specs.declared.table.Repeats.TheVariants as repeats
use Rattle.sql_builtins.specs.Choices.{places, is_common, is_element}
use Rattle.sql_builtins.specs.Steps.{at_end, ends_open}

pub some-same : {A : Type 0} (x y : A) → Some x ≡ Some y → x ≡ y
some-same x y is = cc

-- ---- as many as the arguments

exact-length : (slots taken : List Slot) (n : ℕ) (b : Bool) → (b ≡ true → length slots ≡ n) → cond b (Some slots) None ≡ Some taken → length taken ≡ n
exact-length slots taken n true test is = ap length (sym (some-same slots taken is)) ∙ test refl
exact-length slots taken n false test is = cc

optional-length : (slots taken : List Slot) (n : ℕ) (b c : Bool) → (b ≡ true → length slots ≡ n) → (c ≡ true → length slots ≡ suc n) → cond b (Some slots) (cond c (Some (take n slots)) None) ≡ Some taken → length taken ≡ n
optional-length slots taken n true c test less is = ap length (sym (some-same slots taken is)) ∙ test refl
optional-length slots taken n false true test less is =
    let e = less refl in ap length (sym (some-same (take n slots) taken is)) ∙ grind (arith, common_steps, e)
optional-length slots taken n false false test less is = cc

repeated-length : (slots taken : List Slot) (n : ℕ) (b : Bool) (last : Option Slot) → (b ≡ true → length slots ≤ n) → cond b (option_map (λ l. slots ++ replicate (n - length slots) l) last) None ≡ Some taken → length taken ≡ n
repeated-length slots taken n true (Some l) test is =
    let e = test refl in
    let f : length (slots ++ replicate (n - length slots) l) ≡ n = omega (arith, length-append slots (replicate (n - length slots) l), length-replicate (n - length slots) l, e) in
    ap length (sym (some-same (slots ++ replicate (n - length slots) l) taken is)) ∙ f
repeated-length slots taken n true None test is = cc
repeated-length slots taken n false last test is = cc

pub places-length : (r : Repeats) (slots : List Slot) (n : ℕ) (taken : List Slot) → places r slots n ≡ Some taken → length taken ≡ n
places-length repeats.Exactly slots n taken is = exact-length slots taken n (eqb (length slots) n) (λ e. grind (arith, nat_tests, e)) is
places-length repeats.LastOptional slots n taken is = optional-length slots taken n (eqb (length slots) n) (eqb (length slots) (suc n)) (λ e. grind (arith, nat_tests, e)) (λ e. grind (arith, nat_tests, e)) is
places-length repeats.LastRepeats slots n taken is = repeated-length slots taken n (nat_le (length slots) n) (last_or None slots) (λ e. grind (arith, nat_tests, e)) is

-- ---- the open types at the end

pub and-left : (a b : Bool) → (a && b) ≡ true → a ≡ true
and-left true b is = refl
and-left false b is = is

pub and-right : (a b : Bool) → (a && b) ≡ true → b ≡ true
and-right true b is = is
and-right false b is = cc

and-both : (a b : Bool) → a ≡ true → b ≡ true → (a && b) ≡ true
and-both true b e f = f
and-both false b e f = e

all-take : (is : Slot → Bool) (slots : List Slot) (n : ℕ) → list_all is slots ≡ true → list_all is (take n slots) ≡ true
all-take is slots zero all = refl
all-take is [] (suc n) all = refl
all-take is (s ∷ slots) (suc n) all = and-both (is s) (list_all is (take n slots)) (and-left (is s) (list_all is slots) all) (all-take is slots n (and-right (is s) (list_all is slots) all))

both-branches : (b x y x' y' : Bool) → (b ≡ true → x ≡ true → x' ≡ true) → (b ≡ false → y ≡ true → y' ≡ true) → cond b x y ≡ true → cond b x' y' ≡ true
both-branches true x y x' y' f g is = f refl is
both-branches false x y x' y' f g is = g refl is

branches : (b x y : Bool) → (b ≡ true → x ≡ true) → y ≡ true → cond b x y ≡ true
branches true x y f g = f refl
branches false x y f g = g

end-take : (is : Slot → Bool) (slots : List Slot) (n : ℕ) → at_end is slots ≡ true → at_end is (take n slots) ≡ true
end-take is slots zero end = refl
end-take is [] (suc n) end = refl
end-take is (s ∷ slots) (suc n) end =
    both-branches (is s) (list_all is slots) (at_end is slots) (list_all is (take n slots)) (at_end is (take n slots)) (λ _ all. all-take is slots n all) (λ _ e. end-take is slots n e) end

-- the last again and again
all-replicate : (is : Slot → Bool) (n : ℕ) (s : Slot) → is s ≡ true → list_all is (replicate n s) ≡ true
all-replicate is zero s it = refl
all-replicate is (suc n) s it = and-both (is s) (list_all is (replicate n s)) it (all-replicate is n s it)

end-replicate : (is : Slot → Bool) (n : ℕ) (s : Slot) → at_end is (replicate n s) ≡ true
end-replicate is zero s = refl
end-replicate is (suc n) s = branches (is s) (list_all is (replicate n s)) (at_end is (replicate n s)) (λ it. all-replicate is n s it) (end-replicate is n s)

all-more : (is : Slot → Bool) (slots : List Slot) (n : ℕ) (last : Slot) → last_or None slots ≡ Some last → list_all is slots ≡ true → list_all is (slots ++ replicate n last) ≡ true
all-more is [] n last ends all = cc
all-more is (s ∷ []) n last ends all =
    let e = some-same s last ends in
    let it = and-left (is s) true all in
    and-both (is s) (list_all is (replicate n last)) it (all-replicate is n last (ap is (sym e) ∙ it))
all-more is (s ∷ t ∷ slots) n last ends all =
    and-both (is s) (list_all is ((t ∷ slots) ++ replicate n last)) (and-left (is s) (list_all is (t ∷ slots)) all) (all-more is (t ∷ slots) n last ends (and-right (is s) (list_all is (t ∷ slots)) all))

end-more : (is : Slot → Bool) (slots : List Slot) (n : ℕ) (last : Slot) → last_or None slots ≡ Some last → at_end is slots ≡ true → at_end is (slots ++ replicate n last) ≡ true
end-more is [] n last ends end = cc
end-more is (s ∷ []) n last ends end =
    let e = some-same s last ends in
    branches (is s) (list_all is (replicate n last)) (at_end is (replicate n last)) (λ it. all-replicate is n last (ap is (sym e) ∙ it)) (end-replicate is n last)
end-more is (s ∷ t ∷ slots) n last ends end =
    both-branches (is s) (list_all is (t ∷ slots)) (at_end is (t ∷ slots)) (list_all is ((t ∷ slots) ++ replicate n last)) (at_end is ((t ∷ slots) ++ replicate n last))
    (λ _ all. all-more is (t ∷ slots) n last ends all) (λ _ e. end-more is (t ∷ slots) n last ends e) end

exact-end : (is : Slot → Bool) (slots taken : List Slot) (b : Bool) → at_end is slots ≡ true → cond b (Some slots) None ≡ Some taken → at_end is taken ≡ true
exact-end is slots taken true end e = ap (at_end is) (sym (some-same slots taken e)) ∙ end
exact-end is slots taken false end e = cc

optional-end : (is : Slot → Bool) (slots taken : List Slot) (n : ℕ) (b c : Bool) → at_end is slots ≡ true → cond b (Some slots) (cond c (Some (take n slots)) None) ≡ Some taken → at_end is taken ≡ true
optional-end is slots taken n true c end e = ap (at_end is) (sym (some-same slots taken e)) ∙ end
optional-end is slots taken n false true end e = ap (at_end is) (sym (some-same (take n slots) taken e)) ∙ end-take is slots n end
optional-end is slots taken n false false end e = cc

repeated-end : (is : Slot → Bool) (slots taken : List Slot) (n : ℕ) (b : Bool) (last : Option Slot) → last_or None slots ≡ last → at_end is slots ≡ true → cond b (option_map (λ l. slots ++ replicate n l) last) None ≡ Some taken → at_end is taken ≡ true
repeated-end is slots taken n true (Some l) ends end e = ap (at_end is) (sym (some-same (slots ++ replicate n l) taken e)) ∙ end-more is slots n l ends end
repeated-end is slots taken n true None ends end e = cc
repeated-end is slots taken n false last ends end e = cc

places-end : (is : Slot → Bool) (r : Repeats) (slots : List Slot) (n : ℕ) (taken : List Slot) → places r slots n ≡ Some taken → at_end is slots ≡ true → at_end is taken ≡ true
places-end is repeats.Exactly slots n taken e end = exact-end is slots taken (eqb (length slots) n) end e
places-end is repeats.LastOptional slots n taken e end = optional-end is slots taken n (eqb (length slots) n) (eqb (length slots) (suc n)) end e
places-end is repeats.LastRepeats slots n taken e end = repeated-end is slots taken (n - length slots) (nat_le (length slots) n) (last_or None slots) refl end e

pub places-ends_open : (r : Repeats) (slots : List Slot) (n : ℕ) (taken : List Slot) → places r slots n ≡ Some taken → ends_open slots ≡ true → ends_open taken ≡ true
places-ends_open r slots n taken e ends =
    and-both (at_end is_common taken) (at_end is_element taken)
    (places-end is_common r slots n taken e (and-left (at_end is_common slots) (at_end is_element slots) ends))
    (places-end is_element r slots n taken e (and-right (at_end is_common slots) (at_end is_element slots) ends))

pub ends-common : (slots : List Slot) → ends_open slots ≡ true → at_end is_common slots ≡ true
ends-common slots ends = and-left (at_end is_common slots) (at_end is_element slots) ends

pub ends-element : (slots : List Slot) → ends_open slots ≡ true → at_end is_element slots ≡ true
ends-element slots ends = and-right (at_end is_common slots) (at_end is_element slots) ends
