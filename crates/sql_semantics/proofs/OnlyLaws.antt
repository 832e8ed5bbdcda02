-- Meanings that permit one outcome alone.
use Rattle.std.proofs.Common.{◌≡◌, List, [], ◌∷◌, slice_get, Some, inl, inr, Ok, Err, refl, sym, ◌∙◌, ap, subst}
use Rattle.sql_types.specs.declared.fault.FaultKind.{FaultKind}
use Rattle.sql_types.specs.declared.fault.FaultKind.TheVariants as fault
use Rattle.sql_types.specs.declared.value.Value.{Value}
use Rattle.sql_types.specs.Arranged.{Permutes, permutes_none, permutes_skip, permutes_swap, permutes_then}
use Rattle.sql_types.specs.Outcome.{Outcome, Meaning, just, ◌>>=◌, goes_on, ends, Gather, all_give, one_faults, Both, both_give, left_faults, right_faults}
use Rattle.sql_types.proofs.Orders.{arranged_refl}
use Rattle.sql_rules.specs.declared.scope.Binding.{Binding}
use Rattle.sql_rules.specs.declared.scope.Found.TheVariants.{Bound}
use Rattle.sql_semantics.specs.Environments.{Row, Frame, Env, Reads}
use Rattle.sql_semantics.specs.MeansForms.{single}
use Rattle.sql_forms.specs.Rows.{in_any_order}

pub record Only {A : Type 0} (m : Meaning A) (o : Outcome A) : Type 0 where
  pub given : m o
  pub alone : (p : Outcome A) → m p → p ≡ o

pub only_just : {A : Type 0} (o : Outcome A) → Only (just o) o
only_just o = record { given = refl; alone = λ p same. same }

pub same_value : {A : Type 0} {x y : A} → ◌≡◌ {A = Outcome A} (Ok x) (Ok y) → x ≡ y
same_value same = cc

pub same_fault : {A : Type 0} {f g : FaultKind} → ◌≡◌ {A = Outcome A} (Err f) (Err g) → f ≡ g
same_fault same = cc

pub no_value : {A : Type 0} {x : A} {f : FaultKind} → ◌≡◌ {A = Outcome A} (Ok x) (Err f) → ⊥
no_value same = cc

pub no_fault : {A : Type 0} {x : A} {f : FaultKind} → ◌≡◌ {A = Outcome A} (Err f) (Ok x) → ⊥
no_fault same = cc

-- ---- one after another

then_alone : {A B : Type 0} {m : Meaning A} {k : A → Meaning B} {x : A} {o : Outcome B} → Only m (Ok x) → Only (k x) o → (p : Outcome B) → (m >>= k) p → p ≡ o
then_alone {k = k} first next p (goes_on given more) = next.alone p (subst (λ y. k y p) (same_value (first.alone _ given)) more)
then_alone first next p (ends given) = absurd (no_fault (first.alone _ given))

pub only_then : {A B : Type 0} {m : Meaning A} {k : A → Meaning B} {x : A} {o : Outcome B} → Only m (Ok x) → Only (k x) o → Only (m >>= k) o
only_then first next = record { given = goes_on first.given next.given; alone = then_alone first next }

fault_alone : {A B : Type 0} {m : Meaning A} {k : A → Meaning B} {f : FaultKind} → Only m (Err f) → (p : Outcome B) → (m >>= k) p → p ≡ Err f
fault_alone first p (goes_on given more) = absurd (no_value (first.alone _ given))
fault_alone first p (ends given) = ap Err (same_fault (first.alone _ given))

pub only_fault : {A B : Type 0} {m : Meaning A} {k : A → Meaning B} {f : FaultKind} → Only m (Err f) → Only (m >>= k) (Err f)
only_fault first = record { given = ends first.given; alone = fault_alone first }

-- ---- several at once

nothing_alone : {A : Type 0} (p : Outcome (List A)) → Gather [] p → p ≡ Ok []
nothing_alone p (all_give {values = []} each) = refl
nothing_alone p (all_give {values = x ∷ xs} each) = absurd each
nothing_alone p (one_faults some) = absurd some

pub only_nothing : {A : Type 0} → Only (Gather {A = A} []) (Ok [])
only_nothing = record { given = all_give tt; alone = nothing_alone }

more_alone : {A : Type 0} {m : Meaning A} {ms : List (Meaning A)} {x : A} {xs : List A} → Only m (Ok x) → Only (Gather ms) (Ok xs) → (p : Outcome (List A)) → Gather (m ∷ ms) p → p ≡ Ok (x ∷ xs)
more_alone first rest p (all_give {values = []} each) = absurd each
more_alone {x = x} first rest p (all_give {values = y ∷ ys} each) =
    ap (λ z. Ok (z ∷ ys)) (same_value (first.alone _ each.0)) ∙ ap (λ zs. Ok (x ∷ zs)) (same_value (rest.alone _ (all_give each.1)))
more_alone first rest p (one_faults (inl here)) = absurd (no_fault (first.alone _ here))
more_alone first rest p (one_faults (inr later)) = absurd (no_fault (rest.alone _ (one_faults later)))

given_more : {A : Type 0} {m : Meaning A} {ms : List (Meaning A)} {x : A} {xs : List A} → m (Ok x) → Gather ms (Ok xs) → Gather (m ∷ ms) (Ok (x ∷ xs))
given_more first (all_give each) = all_give (first, each)

pub only_more : {A : Type 0} {m : Meaning A} {ms : List (Meaning A)} {x : A} {xs : List A} → Only m (Ok x) → Only (Gather ms) (Ok xs) → Only (Gather (m ∷ ms)) (Ok (x ∷ xs))
only_more first rest = record { given = given_more first.given rest.given; alone = more_alone first rest }

both_alone : {A B : Type 0} {m : Meaning A} {n : Meaning B} {x : A} {y : B} → Only m (Ok x) → Only n (Ok y) → (p : Outcome (A × B)) → Both m n p → p ≡ Ok (x, y)
both_alone {x = x} first second p (both_give {y = z} left right) = ap (λ u. Ok (u, z)) (same_value (first.alone _ left)) ∙ ap (λ u. Ok (x, u)) (same_value (second.alone _ right))
both_alone first second p (left_faults left) = absurd (no_fault (first.alone _ left))
both_alone first second p (right_faults right) = absurd (no_fault (second.alone _ right))

pub only_both : {A B : Type 0} {m : Meaning A} {n : Meaning B} {x : A} {y : B} → Only m (Ok x) → Only n (Ok y) → Only (Both m n) (Ok (x, y))
only_both first second = record { given = both_give first.given second.given; alone = both_alone first second }

-- ---- reading a name

reads_alone : (env : Env) (b : Binding) (frame : Frame) (x : Value) → slice_get env.frames b.level ≡ Some frame → slice_get frame.values b.slot ≡ Some x → (p : Outcome Value) → Reads env (Bound b) p → p ≡ Ok x
reads_alone env b frame x there here p (own, y, level, slot, same) =
    same ∙ ap Ok (same_some (sym slot ∙ ap (λ (f : Frame). slice_get f.values b.slot) (same_some (sym level ∙ there)) ∙ here))
  where
    same_some : {A : Type 0} {u v : A} → Some u ≡ Some v → u ≡ v
    same_some e = cc

pub only_reads : (env : Env) (b : Binding) (frame : Frame) (x : Value) → slice_get env.frames b.level ≡ Some frame → slice_get frame.values b.slot ≡ Some x → Only (Reads env (Bound b)) (Ok x)
only_reads env b frame x there here = record { given = (frame, x, there, here, refl); alone = reads_alone env b frame x there here }

-- ---- orders

none_orders : {A : Type 0} {xs ys : List A} → Permutes xs ys → xs ≡ [] → ys ≡ []
none_orders permutes_none same = refl
none_orders (permutes_skip more) same = cc
none_orders permutes_swap same = cc
none_orders (permutes_then first second) same = none_orders second (none_orders first same)

one_orders : {A : Type 0} {xs ys : List A} {x : A} → Permutes xs ys → xs ≡ x ∷ [] → ys ≡ x ∷ []
one_orders permutes_none same = same
one_orders {x = z} (permutes_skip {x = y} {xs = xs} {ys = ys} more) same =
    let rest : xs ≡ [] = cc in
    let head : y ≡ z = cc in
    ap (λ u. u ∷ ys) head ∙ ap (λ zs. z ∷ zs) (none_orders more rest)
one_orders permutes_swap same = cc
one_orders (permutes_then first second) same = one_orders second (one_orders first same)

pub only_row : (row : Row) → Only (in_any_order (row ∷ [])) (Ok (row ∷ []))
only_row row = record { given = (row ∷ [], arranged_refl _, refl); alone = λ p o. o.2 ∙ ap Ok (one_orders o.1.permutes refl) }

pub only_no_row : Only (in_any_order []) (Ok [])
only_no_row = record { given = ([], arranged_refl _, refl); alone = λ p o. o.2 ∙ ap Ok (none_orders o.1.permutes refl) }

-- an order of two rows or more has as many
abbrev Some_row : List Row → Type 0
Some_row [] = ⊥
Some_row (row ∷ rows) = Unit {0}

abbrev pub Several : List Row → Type 0
Several [] = ⊥
Several (row ∷ rows) = Some_row rows

still_some : {xs ys : List Row} → Permutes xs ys → Some_row xs → Some_row ys
still_some permutes_none some = some
still_some (permutes_skip more) some = tt
still_some permutes_swap some = tt
still_some (permutes_then first second) some = still_some second (still_some first some)

still_several : {xs ys : List Row} → Permutes xs ys → Several xs → Several ys
still_several permutes_none several = several
still_several (permutes_skip more) several = still_some more several
still_several permutes_swap several = tt
still_several (permutes_then first second) several = still_several second (still_several first several)

pub several_single : (rows : List Row) → Several rows → single rows ≡ Err fault.ScalarRows
several_single [] several = absurd several
several_single (row ∷ []) several = absurd several
several_single (row ∷ other ∷ rows) several = refl

-- of two rows or more, in any order, a scalar subquery makes SCALAR_ROWS
pub scalar_rows : (rows : List Row) → Several rows → Only (in_any_order rows >>= (λ list. just (single list))) (Err fault.ScalarRows)
scalar_rows rows several = record {
  given = goes_on (rows, arranged_refl _, refl) (sym (several_single rows several));
  alone = scalar_alone rows several;
}
  where
    scalar_alone : (rows : List Row) → Several rows → (p : Outcome Value) → (in_any_order rows >>= (λ list. just (single list))) p → p ≡ Err fault.ScalarRows
    scalar_alone rows several p (goes_on {x = list} (own, arranged, same) more) =
        more ∙ several_single list (subst Several (sym (same_value same)) (still_several arranged.permutes several))
    scalar_alone rows several p (ends (own, arranged, same)) = absurd (no_fault same)

-- ---- more of one outcome

pub only_as : {A : Type 0} {p o : Outcome A} → p ≡ o → Only (just p) o
only_as same = record { given = sym same; alone = λ q given. given ∙ same }

first_alone : {A : Type 0} {m : Meaning A} {ms : List (Meaning A)} {f : FaultKind} {xs : List A} → Only m (Err f) → Only (Gather ms) (Ok xs) → (p : Outcome (List A)) → Gather (m ∷ ms) p → p ≡ Err f
first_alone first rest p (all_give {values = []} each) = absurd each
first_alone first rest p (all_give {values = y ∷ ys} each) = absurd (no_value (first.alone _ each.0))
first_alone first rest p (one_faults (inl here)) = ap Err (same_fault (first.alone _ here))
first_alone first rest p (one_faults (inr later)) = absurd (no_fault (rest.alone _ (one_faults later)))

-- the first of several faults
pub only_first_faults : {A : Type 0} {m : Meaning A} {ms : List (Meaning A)} {f : FaultKind} {xs : List A} → Only m (Err f) → Only (Gather ms) (Ok xs) → Only (Gather (m ∷ ms)) (Err f)
only_first_faults first rest = record { given = one_faults (inl first.given); alone = first_alone first rest }

-- a query of rows in any order, under brackets
scalar_alone_of : {m : Meaning (List Row)} {rows : List Row} → Only m (Ok rows) → Several rows → (p : Outcome Value) → (m >>= in_any_order >>= (λ list. just (single list))) p → p ≡ Err fault.ScalarRows
scalar_alone_of {rows = rows} first several p (goes_on {x = list} (goes_on given ordered) more) =
    (scalar_rows rows several).alone p (goes_on (subst (λ r. in_any_order r (Ok list)) (same_value (first.alone _ given)) ordered) more)
scalar_alone_of first several p (ends (goes_on given ordered)) = absurd (no_fault ordered.2)
scalar_alone_of first several p (ends (ends given)) = absurd (no_fault (first.alone _ given))

pub scalar_of : {m : Meaning (List Row)} {rows : List Row} → Only m (Ok rows) → Several rows → Only (m >>= in_any_order >>= (λ list. just (single list))) (Err fault.ScalarRows)
scalar_of {rows = rows} first several = record {
  given = goes_on (goes_on first.given (rows, arranged_refl _, refl)) (sym (several_single rows several));
  alone = scalar_alone_of first several;
}
