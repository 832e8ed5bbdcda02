-- Rows that are found by their keys.
use Rattle.std.proofs.Common.{◌≡◌, ℕ, suc, ◌+◌, ◌<◌, ◌≤◌, Bool, true, false, ◌||◌, cond, List, [], ◌∷◌, ◌++◌, length, get_or, set, map, take, refl, ap, sym, ◌∙◌, subst, arith, Option, None, Some, Ok}
use Rattle.std.specs.List.{All}
use Rattle.std.proofs.lemmas.Bool.{false≢true}
use Rattle.std.proofs.lemmas.List.{length-map, length-take, map-append, take_all}
use Rattle.std.proofs.lemmas.List.Elements.{All-cons}
use Rattle.sql_types.specs.declared.kinds.JoinKind.{JoinKind}
use Rattle.sql_types.specs.declared.value.Value.{Value}
use Rattle.sql_types.specs.Joined.{Row, Pairs, Joined, met, padded_right, joined}
use Rattle.sql_types.specs.Outcome.{Outcome, Meaning}
use Rattle.sql_types.specs.Same.{equal}
use Rattle.sql_types.specs.SameValue.{same_values}
use Rattle.sql_types.proofs.EqualLaws.{equal_same}
use Rattle.eval_rows.specs.ByClass.{by_class}
use Rattle.eval_rows.specs.EqualKeys.{key_at, holds, equal_to, equal_pairs, kept_from, Indexes}
use Rattle.eval_rows.specs.Joins.{Answered, AnsweredAll, Joins}
use Rattle.eval_rows.specs.Met.{either_each, noted_at, from_unmet}
use Rattle.key_classes.specs.KeyLaws.{told, itself}
use Rattle.eval_rows.proofs.ByClassLaws.{OneMore}
use Rattle.eval_rows.proofs.JoinLaws.{JoinedSo, as_many, joined_more, all_joined, take_next}

-- ---- the numbers of those that are kept

kept_suc : (n : ℕ) (kept : List Bool) → kept_from (suc n) kept ≡ map suc (kept_from n kept)
kept_suc n [] = refl
kept_suc n (true ∷ kept) = ap (λ z. suc n ∷ z) (kept_suc (suc n) kept)
kept_suc n (false ∷ kept) = kept_suc (suc n) kept

kept_below : (n bound : ℕ) (kept : List Bool) → n + length kept ≤ bound → All (λ number. number < bound) (kept_from n kept)
kept_below n bound [] within = λ k d none. absurd (omega arith)
kept_below n bound (true ∷ kept) within = All-cons (λ number. number < bound) n (kept_from (suc n) kept) (omega arith) (kept_below (suc n) bound kept (omega arith))
kept_below n bound (false ∷ kept) within = kept_below (suc n) bound kept (omega arith)

pub equal_long : (key : Value) (column : ℕ) (rights : List Row) → length (equal_to key column rights) ≡ length rights
equal_long key column rights = length-map rights (λ right. holds (equal key (key_at column right)))

pub partners_below : (key : Value) (column bound : ℕ) (rights : List Row) (numbers : List ℕ) → numbers ≡ kept_from 0 (equal_to key column rights) → length rights ≤ bound → All (λ number. number < bound) numbers
partners_below key column bound rights numbers is within =
    subst (All (λ number. number < bound)) (sym is) (kept_below 0 bound (equal_to key column rights) (omega (arith, equal_long key column rights)))

beside_suc : (left right : Row) (rights : List Row) (numbers : List ℕ) → map (λ n. left ++ get_or (right ∷ rights) n []) (map suc numbers) ≡ map (λ n. left ++ get_or rights n []) numbers
beside_suc left right rights [] = refl
beside_suc left right rights (n ∷ numbers) = ap (λ z. (left ++ get_or rights n []) ∷ z) (beside_suc left right rights numbers)

pub met_kept : (left : Row) (rights : List Row) (kept : List Bool) → length kept ≡ length rights → map (λ n. left ++ get_or rights n []) (kept_from 0 kept) ≡ met left rights kept
met_kept left [] [] long = refl
met_kept left [] (keep ∷ kept) long = absurd (omega (arith, long))
met_kept left (right ∷ rights) [] long = refl
met_kept left (right ∷ rights) (true ∷ kept) long =
    ap (λ z. (left ++ right) ∷ z)
    (ap (map (λ n. left ++ get_or (right ∷ rights) n [])) (kept_suc 0 kept) ∙ beside_suc left right rights (kept_from 0 kept) ∙ met_kept left rights kept (omega (arith, long)))
met_kept left (right ∷ rights) (false ∷ kept) long =
    ap (map (λ n. left ++ get_or (right ∷ rights) n [])) (kept_suc 0 kept) ∙ beside_suc left right rights (kept_from 0 kept) ∙ met_kept left rights kept (omega (arith, long))

noted_suc : (b : Bool) (had : List Bool) (numbers : List ℕ) → noted_at (b ∷ had) (map suc numbers) ≡ b ∷ noted_at had numbers
noted_suc b had [] = refl
noted_suc b had (n ∷ numbers) = noted_suc b (set had n true) numbers

or_true : (b : Bool) → true ≡ (b || true)
or_true true = refl
or_true false = refl

or_false : (b : Bool) → b ≡ (b || false)
or_false true = refl
or_false false = refl

pub noted_kept : (had kept : List Bool) → length had ≡ length kept → noted_at had (kept_from 0 kept) ≡ either_each had kept
noted_kept [] [] long = refl
noted_kept [] (keep ∷ kept) long = absurd (omega (arith, long))
noted_kept (b ∷ had) [] long = refl
noted_kept (b ∷ had) (true ∷ kept) long =
    ap (noted_at (true ∷ had)) (kept_suc 0 kept) ∙ noted_suc true had (kept_from 0 kept) ∙ (λ i. or_true b i ∷ noted_kept had kept (omega (arith, long)) i)
noted_kept (b ∷ had) (false ∷ kept) long =
    ap (noted_at (b ∷ had)) (kept_suc 0 kept) ∙ noted_suc b had (kept_from 0 kept) ∙ (λ i. or_false b i ∷ noted_kept had kept (omega (arith, long)) i)

-- ---- keys that are equal

at_truth : (o : Option Bool) → holds o ≡ true → o ≡ Some true
at_truth None e = cc
at_truth (Some true) e = refl
at_truth (Some false) e = cc

-- a key that is equal to another is the same, and equal to itself
pub equal_is : (key x : Value) → holds (equal key x) ≡ true → key ≡ x
equal_is key x truth = equal_same key x (at_truth (equal key x) truth)

whole_by : (key x : Value) (b : Bool) → holds (equal key x) ≡ b → holds (equal x x) ≡ false → b ≡ false
whole_by key x false is broken = refl
whole_by key x true is broken = absurd (false≢true (sym broken ∙ ap (λ (z : Value). holds (equal z x)) (sym (equal_is key x is)) ∙ is))

-- of a key that is equal to itself, the keys that are the same are equal
equal_by : (key x : Value) (b c : Bool) → same_values (key ∷ []) (x ∷ []) ≡ b → holds (equal key x) ≡ c → holds (equal x x) ≡ true → c ≡ b
equal_by key x true true same is whole = refl
equal_by key x false false same is whole = refl
equal_by key x true false same is whole =
    let one : key ≡ x = cc (told (key ∷ []) (x ∷ []) same) in
    absurd (false≢true (sym is ∙ ap (λ (z : Value). holds (equal z x)) one ∙ whole))
equal_by key x false true same is whole =
    absurd (false≢true (sym same ∙ ap (λ (z : Value). same_values (z ∷ []) (x ∷ [])) (equal_is key x is) ∙ itself (x ∷ [])))

-- ---- one right row more

cons_by : (keep : Bool) (n m : ℕ) (kept : List ℕ) → n ∷ cond keep (kept ++ m ∷ []) kept ≡ cond keep ((n ∷ kept) ++ m ∷ []) (n ∷ kept)
cons_by true n m kept = refl
cons_by false n m kept = refl

kept_push : (n : ℕ) (kept : List Bool) (keep : Bool) → kept_from n (kept ++ keep ∷ []) ≡ cond keep (kept_from n kept ++ (n + length kept) ∷ []) (kept_from n kept)
kept_push n [] true =
    let same : n ≡ n + 0 = omega arith in
    ap (λ (m : ℕ). m ∷ []) same
kept_push n [] false = refl
kept_push n (true ∷ kept) keep =
    let same : suc n + length kept ≡ n + length (true ∷ kept) = omega arith in
    ap (λ (z : List ℕ). n ∷ z) (kept_push (suc n) kept keep) ∙ cons_by keep n (suc n + length kept) (kept_from (suc n) kept) ∙ ap (λ m. cond keep ((n ∷ kept_from (suc n) kept) ++ m ∷ []) (n ∷ kept_from (suc n) kept)) same
kept_push n (false ∷ kept) keep =
    let same : suc n + length kept ≡ n + length (false ∷ kept) = omega arith in
    kept_push (suc n) kept keep ∙ ap (λ m. cond keep (kept_from (suc n) kept ++ m ∷ []) (kept_from (suc n) kept)) same

-- the numbers of the rows whose key is equal, among one right row more
numbers_next : (key : Value) (column : ℕ) (rights : List Row) (i : ℕ) (right : Row) → i < length rights → right ≡ get_or rights i right →
    kept_from 0 (equal_to key column (take (i + 1) rights)) ≡ cond (holds (equal key (key_at column right))) (kept_from 0 (equal_to key column (take i rights)) ++ i ∷ []) (kept_from 0 (equal_to key column (take i rights)))
numbers_next key column rights i right within is =
    let test = λ (other : Row). holds (equal key (key_at column other)) in
    let long : 0 + length (equal_to key column (take i rights)) ≡ i = omega (arith, equal_long key column (take i rights), length-take i rights) in
    ap (λ (z : List Row). kept_from 0 (equal_to key column z)) (take_next rights i right within is) ∙ ap (kept_from 0) (map-append test (take i rights) (right ∷ []))
    ∙ kept_push 0 (equal_to key column (take i rights)) (test right)
    ∙ ap (λ m. cond (test right) (kept_from 0 (equal_to key column (take i rights)) ++ m ∷ []) (kept_from 0 (equal_to key column (take i rights)))) long

pub index_more : (column : ℕ) (rights : List Row) (i : ℕ) (right : Row) (values after : List Row) (numbers put : List (List ℕ)) → i < length rights → right ≡ get_or rights i right →
    holds (equal (key_at column right) (key_at column right)) ≡ true → Indexes column (take i rights) values numbers → OneMore [] (λ own. own ++ i ∷ []) values numbers (key_at column right ∷ []) after put →
    Indexes column (take (i + 1) rights) after put
index_more column rights i right values after numbers put within is whole each step key =
    let k = key_at column right in
    step.kept (key ∷ []) ∙ ap (λ (z : List ℕ). cond (same_values (key ∷ []) (k ∷ [])) (z ++ i ∷ []) z) (each key)
    ∙ ap (λ b. cond b (kept_from 0 (equal_to key column (take i rights)) ++ i ∷ []) (kept_from 0 (equal_to key column (take i rights)))) (sym (equal_by key k (same_values (key ∷ []) (k ∷ [])) (holds (equal key k)) refl refl whole))
    ∙ sym (numbers_next key column rights i right within is)

pub index_same : (column : ℕ) (rights : List Row) (i : ℕ) (right : Row) (values : List Row) (numbers : List (List ℕ)) → i < length rights → right ≡ get_or rights i right → holds (equal (key_at column right) (key_at column right)) ≡ false →
    Indexes column (take i rights) values numbers → Indexes column (take (i + 1) rights) values numbers
index_same column rights i right values numbers within is broken each key =
    each key
    ∙ ap (λ b. cond b (kept_from 0 (equal_to key column (take i rights)) ++ i ∷ []) (kept_from 0 (equal_to key column (take i rights)))) (sym (whole_by key (key_at column right) (holds (equal key (key_at column right))) refl broken))
    ∙ sym (numbers_next key column rights i right within is)

pub index_none : (column : ℕ) (rights values : List Row) (numbers : List (List ℕ)) → values ≡ [] → Indexes column (take 0 rights) values numbers
index_none column rights values numbers are key = ap (λ (z : List Row). by_class [] z numbers (key ∷ [])) are

pub index_all : (column : ℕ) (rights : List Row) (i : ℕ) (values : List Row) (numbers : List (List ℕ)) → length rights ≤ i → Indexes column (take i rights) values numbers → Indexes column rights values numbers
index_all column rights i values numbers past each key = each key ∙ ap (λ (z : List Row). kept_from 0 (equal_to key column z)) (take_all i rights past)

-- ---- the rows of the join

-- what the keys of two rows say
abbrev pub GivesEqual : ℕ → ℕ → Row → Row → Meaning Bool
GivesEqual left_key right_key left right o = o ≡ Ok (holds (equal (key_at left_key left) (key_at right_key right)))

answered_equal : (left_key right_key : ℕ) (left : Row) (rights : List Row) → Answered (GivesEqual left_key right_key) left rights (Ok (equal_to (key_at left_key left) right_key rights))
answered_equal left_key right_key left [] = tt
answered_equal left_key right_key left (right ∷ rights) = (refl, answered_equal left_key right_key left rights)

same_ok : (x y : Bool) → ◌≡◌ {A = Outcome Bool} (Ok x) (Ok y) → x ≡ y
same_ok x y is = cc

one_answer : (left_key right_key : ℕ) (left : Row) (rights : List Row) (kept : List Bool) → Answered (GivesEqual left_key right_key) left rights (Ok kept) → kept ≡ equal_to (key_at left_key left) right_key rights
one_answer left_key right_key left [] [] each = refl
one_answer left_key right_key left [] (keep ∷ kept) each = absurd each
one_answer left_key right_key left (right ∷ rights) [] each = absurd each
one_answer left_key right_key left (right ∷ rights) (keep ∷ kept) each = λ i. same_ok keep (holds (equal (key_at left_key left) (key_at right_key right))) each.0 i ∷ one_answer left_key right_key left rights kept each.1 i

all_answers : (left_key right_key : ℕ) (lefts rights : List Row) (pairs : Pairs) → AnsweredAll (GivesEqual left_key right_key) lefts rights pairs → pairs ≡ equal_pairs left_key right_key lefts rights
all_answers left_key right_key [] rights [] each = refl
all_answers left_key right_key [] rights (kept ∷ pairs) each = absurd each
all_answers left_key right_key (left ∷ lefts) rights [] each = absurd each
all_answers left_key right_key (left ∷ lefts) rights (kept ∷ pairs) each = λ i. one_answer left_key right_key left rights kept each.0 i ∷ all_answers left_key right_key lefts rights pairs each.1 i

pub equal_joined : (kind : JoinKind) (left_key right_key left_width right_width : ℕ) (lefts rights rows : List Row) → Joins (GivesEqual left_key right_key) kind left_width right_width lefts rights (Ok rows) →
    Joined kind left_width right_width lefts rights (equal_pairs left_key right_key lefts rights) rows
equal_joined kind left_key right_key left_width right_width lefts rights rows j =
    j.2 ∙ ap (joined kind left_width right_width lefts rights) (all_answers left_key right_key lefts rights j.0 j.1)

-- one left row more
pub equal_more : (kind : JoinKind) (left_key right_key right_width : ℕ) (lefts rights rows : List Row) (had : List Bool) (i : ℕ) (left : Row) (numbers : List ℕ) (own : List Row) → i < length lefts → left ≡ get_or lefts i left →
    JoinedSo (GivesEqual left_key right_key) kind right_width rights (take i lefts) rows had → length had ≡ length rights → numbers ≡ kept_from 0 (equal_to (key_at left_key left) right_key rights) →
    own ≡ map (λ n. left ++ get_or rights n []) numbers →
    JoinedSo (GivesEqual left_key right_key) kind right_width rights (take (i + 1) lefts) (rows ++ padded_right kind right_width left own) (noted_at had numbers)
equal_more kind left_key right_key right_width lefts rights rows had i left numbers own within is so long numbers_are own_is =
    let kept : List Bool = equal_to (key_at left_key left) right_key rights in
    let wide : length kept ≡ length rights = equal_long (key_at left_key left) right_key rights in
    let own_met : own ≡ met left rights kept = own_is ∙ ap (map (λ n. left ++ get_or rights n [])) numbers_are ∙ met_kept left rights kept wide in
    let had_noted : noted_at had numbers ≡ either_each had kept = ap (noted_at had) numbers_are ∙ noted_kept had kept (long ∙ sym wide) in
    subst (λ (z : List Row). JoinedSo (GivesEqual left_key right_key) kind right_width rights (take (i + 1) lefts) (rows ++ padded_right kind right_width left z) (noted_at had numbers)) (sym own_met)
    (subst (λ (z : List Bool). JoinedSo (GivesEqual left_key right_key) kind right_width rights (take (i + 1) lefts) (rows ++ padded_right kind right_width left (met left rights kept)) z) (sym had_noted)
    (joined_more (GivesEqual left_key right_key) kind right_width rights lefts rows had i left kept within is so (answered_equal left_key right_key left rights)))

-- as many right rows are noted as there are
pub had_long : (kind : JoinKind) (left_key right_key right_width : ℕ) (lefts rights rows : List Row) (had : List Bool) → JoinedSo (GivesEqual left_key right_key) kind right_width rights lefts rows had → length had ≡ length rights
had_long kind left_key right_key right_width lefts rights rows had so =
    as_many (GivesEqual left_key right_key) kind right_width rights lefts rows had [] (equal_to (key_at left_key []) right_key rights) so (answered_equal left_key right_key [] rights)
    ∙ equal_long (key_at left_key []) right_key rights

-- the same, by what each call of a turn ensures
pub equal_step : (kind : JoinKind) (left_key right_key right_width : ℕ) (lefts rights rows : List Row) (had : List Bool) (i : ℕ) (left row : Row) (key : Value) (seen : List Row) (numbers : List ℕ) (own more after : List Row) (after_had : List Bool) →
    i < length lefts → left ≡ get_or lefts i left → row ≡ left → key ≡ key_at left_key row → seen ≡ rights → numbers ≡ kept_from 0 (equal_to key right_key seen) → own ≡ map (λ n. row ++ get_or seen n []) numbers →
    more ≡ padded_right kind right_width row own → after ≡ rows ++ more → after_had ≡ noted_at had numbers → JoinedSo (GivesEqual left_key right_key) kind right_width rights (take i lefts) rows had →
    JoinedSo (GivesEqual left_key right_key) kind right_width rights (take (i + 1) lefts) after after_had
equal_step kind left_key right_key right_width lefts rights rows had i left row key seen numbers own more after after_had within is row_is key_is seen_is numbers_are own_are more_are after_are had_are so =
    let keyed : key ≡ key_at left_key left = key_is ∙ ap (key_at left_key) row_is in
    let found : numbers ≡ kept_from 0 (equal_to (key_at left_key left) right_key rights) = numbers_are ∙ ap (λ (z : Value). kept_from 0 (equal_to z right_key seen)) keyed ∙ ap (λ (z : List Row). kept_from 0 (equal_to (key_at left_key left) right_key z)) seen_is in
    let own_is : own ≡ map (λ n. left ++ get_or rights n []) numbers = own_are ∙ ap (λ (z : Row). map (λ n. z ++ get_or seen n []) numbers) row_is ∙ ap (λ (z : List Row). map (λ n. left ++ get_or z n []) numbers) seen_is in
    let more_is : more ≡ padded_right kind right_width left own = more_are ∙ ap (λ (z : Row). padded_right kind right_width z own) row_is in
    let after_is : after ≡ rows ++ padded_right kind right_width left own = after_are ∙ ap (λ (z : List Row). rows ++ z) more_is in
    subst (λ (z : List Row). JoinedSo (GivesEqual left_key right_key) kind right_width rights (take (i + 1) lefts) z after_had) (sym after_is)
    (subst (λ (z : List Bool). JoinedSo (GivesEqual left_key right_key) kind right_width rights (take (i + 1) lefts) (rows ++ padded_right kind right_width left own) z) (sym had_are)
    (equal_more kind left_key right_key right_width lefts rights rows had i left numbers own within is so (had_long kind left_key right_key right_width (take i lefts) rights rows had so) found own_is))

pub equal_all : (kind : JoinKind) (left_key right_key left_width right_width : ℕ) (lefts rights rows : List Row) (had : List Bool) (i : ℕ) (seen more after : List Row) (noted : List Bool) → length lefts ≤ i →
    seen ≡ rights → noted ≡ had → more ≡ from_unmet kind left_width seen noted → after ≡ rows ++ more → JoinedSo (GivesEqual left_key right_key) kind right_width rights (take i lefts) rows had →
    Joined kind left_width right_width lefts rights (equal_pairs left_key right_key lefts rights) after
equal_all kind left_key right_key left_width right_width lefts rights rows had i seen more after noted past seen_is noted_is more_are after_are so =
    let after_is : after ≡ rows ++ from_unmet kind left_width rights had = after_are
    ∙ ap (λ (z : List Row). rows ++ z) (more_are ∙ ap (λ (z : List Row). from_unmet kind left_width z noted) seen_is ∙ ap (from_unmet kind left_width rights) noted_is) in
    subst (λ (z : List Row). Joined kind left_width right_width lefts rights (equal_pairs left_key right_key lefts rights) z) (sym after_is)
    (equal_joined kind left_key right_key left_width right_width lefts rights (rows ++ from_unmet kind left_width rights had) (all_joined (GivesEqual left_key right_key) kind right_width rights left_width lefts rows had i past so))
