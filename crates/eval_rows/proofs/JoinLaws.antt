-- The steps of a join, left row by left row.
use Rattle.std.proofs.Common.{◌≡◌, ℕ, zero, suc, ◌+◌, ◌<◌, ◌≤◌, Bool, true, false, ◌||◌, List, [], ◌∷◌, ◌++◌, length, get_or, take, replicate, Result, Ok, Err, refl, ap, sym, ◌∙◌, subst, append_assoc, add-one, arith}
use Rattle.std.specs.Prelude.{if◌then◌else◌}
use Rattle.std.specs.List.{AllZip}
use Rattle.std.proofs.lemmas.List.{take_all, append-nil, length-replicate}
use denote.Ref.{Bor}
use Rattle.sql_types.specs.declared.fault.CallFault.{CallFault}
use Rattle.sql_types.specs.declared.fault.CallFault.TheVariants.{Fault, OutOfMemory}
use Rattle.sql_types.specs.declared.kinds.JoinKind.{JoinKind}
use Rattle.sql_types.specs.declared.kinds.JoinKind.TheVariants as join
use Rattle.sql_types.specs.declared.value.Value.{Value}
use Rattle.sql_types.specs.declared.value.Value.TheVariants.{Null}
use Rattle.sql_types.specs.Outcome.{Meaning, Answers}
use Rattle.sql_types.specs.Joined.{Row, Pairs, met, padded_right, from_left, first_kept, other_pairs, alone, from_right}
use Rattle.eval_rows.specs.Joins.{Test, TestGives, Answered, AnsweredAll, Joins}
use Rattle.eval_rows.specs.Met.{either_each, unmet, from_unmet}

-- ---- the test

-- what a call of the test answers
pub test_says : {F : Type 0} (g : Test F) (f : F) (p q : Bor (List Value)) (r : Result Bool CallFault) → g.post f (p, (q, tt)) r → Answers (TestGives g f p.now q.now) r
test_says g f p q (Ok keep) h = record { first = p; second = q; shows = (refl, refl); says = record { met = h } }
test_says g f p q (Err (Fault fault)) h = record { first = p; second = q; shows = (refl, refl); says = record { met = h } }
test_says g f p q (Err OutOfMemory) h = tt

-- ---- one more

next : {X : Type 0} (xs : List X) (i : ℕ) (x : X) → i < length xs → x ≡ get_or xs i x → take (suc i) xs ≡ take i xs ++ x ∷ []
next [] i x within is = absurd (omega arith)
next (y ∷ ys) zero x within is = ap (λ z. z ∷ []) (sym is)
next (y ∷ ys) (suc i) x within is = ap (λ z. y ∷ z) (next ys i x (omega arith) is)

pub take_next : {X : Type 0} (xs : List X) (i : ℕ) (x : X) → i < length xs → x ≡ get_or xs i x → take (i + 1) xs ≡ take i xs ++ x ∷ []
take_next xs i x within is = ap (λ n. take n xs) (add-one i) ∙ next xs i x within is

zip_push : {X V : Type 0} (P : X → V → Type 0) (xs : List X) (vs : List V) (x : X) (v : V) → AllZip P xs vs → P x v → AllZip P (xs ++ x ∷ []) (vs ++ v ∷ [])
zip_push P [] [] x v each last = (last, tt)
zip_push P [] (w ∷ vs) x v each last = absurd each
zip_push P (y ∷ xs) [] x v each last = absurd each
zip_push P (y ∷ xs) (w ∷ vs) x v each last = (each.0, zip_push P xs vs x v each.1 last)

zip_length : {X V : Type 0} (P : X → V → Type 0) (xs : List X) (vs : List V) → AllZip P xs vs → length vs ≡ length xs
zip_length P [] [] each = refl
zip_length P [] (v ∷ vs) each = absurd each
zip_length P (x ∷ xs) [] each = absurd each
zip_length P (x ∷ xs) (v ∷ vs) each = ap suc (zip_length P xs vs each.1)

module _ (gives : Row → Row → Meaning Bool) where
  -- one right row more
  pub answered_more : (left : Row) (rights : List Row) (i : ℕ) (right : Row) (kept : List Bool) (keep : Bool) → i < length rights → right ≡ get_or rights i right →
      Answered gives left (take i rights) (Ok kept) → gives left right (Ok keep) → Answered gives left (take (i + 1) rights) (Ok (kept ++ keep ∷ []))
  answered_more left rights i right kept keep within is each last =
      subst (λ (z : List Row). Answered gives left z (Ok (kept ++ keep ∷ []))) (sym (take_next rights i right within is))
      (zip_push (λ right keep. gives left right (Ok keep)) (take i rights) kept right keep each last)

  pub answered_all : (left : Row) (rights : List Row) (i : ℕ) (kept : List Bool) → length rights ≤ i → Answered gives left (take i rights) (Ok kept) → Answered gives left rights (Ok kept)
  answered_all left rights i kept past each = subst (λ (z : List Row). Answered gives left z (Ok kept)) (take_all i rights past) each

  -- a fault of one is a fault of all
  pub one_faults : (left : Row) (rights : List Row) (i : ℕ) (right : Row) (fault : CallFault) → i < length rights → right ≡ get_or rights i right → Answers (gives left right) (Err fault) → Answers (Answered gives left rights) (Err fault)
  one_faults left rights i right (Fault fault) within is given = (right, (i, within, sym is), given)
  one_faults left rights i right OutOfMemory within is given = tt

  pub left_faults : (kind : JoinKind) (left_width right_width : ℕ) (lefts rights : List Row) (i : ℕ) (left : Row) (fault : CallFault) → i < length lefts → left ≡ get_or lefts i left →
      Answers (Answered gives left rights) (Err fault) → Answers (Joins gives kind left_width right_width lefts rights) (Err fault)
  left_faults kind left_width right_width lefts rights i left (Fault fault) within is given = (left, (i, within, sym is), given)
  left_faults kind left_width right_width lefts rights i left OutOfMemory within is given = tt

-- ---- which right rows have met

pub noted : List Bool → Pairs → List Bool
noted had [] = had
noted had (kept ∷ pairs) = noted (either_each had kept) pairs

noted_push : (had : List Bool) (pairs : Pairs) (kept : List Bool) → noted had (pairs ++ kept ∷ []) ≡ either_each (noted had pairs) kept
unfolding noted
noted_push had [] kept = refl
noted_push had (first ∷ pairs) kept = noted_push (either_each had first) pairs kept

-- each list of answers has as many
Wide : ℕ → Pairs → Type 0
Wide n [] = Unit {0}
Wide n (kept ∷ pairs) = (length kept ≡ n) × Wide n pairs

wide_others : (n : ℕ) (pairs : Pairs) → Wide (suc n) pairs → Wide n (other_pairs pairs)
unfolding Wide
wide_others n [] wide = tt
wide_others n ([] ∷ pairs) wide = absurd (omega (arith, wide.0))
wide_others n ((keep ∷ kept) ∷ pairs) wide = (omega (arith, wide.0), wide_others n pairs wide.1)

or_none : (b : Bool) → b ≡ (b || false)
or_none true = refl
or_none false = refl

or_assoc : (a b c : Bool) → ((a || b) || c) ≡ (a || (b || c))
or_assoc true b c = refl
or_assoc false b c = refl

noted_first : (n : ℕ) (one : Bool) (had : List Bool) (pairs : Pairs) → Wide (suc n) pairs → noted (one ∷ had) pairs ≡ (one || first_kept pairs) ∷ noted had (other_pairs pairs)
unfolding noted Wide
noted_first n one had [] wide = ap (λ b. b ∷ had) (or_none one)
noted_first n one had ([] ∷ pairs) wide = absurd (omega (arith, wide.0))
noted_first n one had ((keep ∷ kept) ∷ pairs) wide =
    noted_first n (one || keep) (either_each had kept) pairs wide.1 ∙ ap (λ b. b ∷ noted (either_each had kept) (other_pairs pairs)) (or_assoc one keep (first_kept pairs))

unmet_by : (left_width : ℕ) (right : Row) (rights : List Row) (one : Bool) (had : List Bool) (others : List Row) → unmet left_width rights had ≡ others →
    unmet left_width (right ∷ rights) (one ∷ had) ≡ (if one then others else ((replicate left_width Null ++ right) ∷ others))
unmet_by left_width right rights true had others are = are
unmet_by left_width right rights false had others are = ap (λ rows. (replicate left_width Null ++ right) ∷ rows) are

unmet_alone : (left_width : ℕ) (rights : List Row) (pairs : Pairs) → Wide (length rights) pairs → unmet left_width rights (noted (replicate (length rights) false) pairs) ≡ alone left_width rights pairs
unmet_alone left_width [] pairs wide = refl
unmet_alone left_width (right ∷ rights) pairs wide =
    ap (unmet left_width (right ∷ rights)) (noted_first (length rights) false (replicate (length rights) false) pairs wide)
    ∙ unmet_by left_width right rights (first_kept pairs) (noted (replicate (length rights) false) (other_pairs pairs)) (alone left_width rights (other_pairs pairs))
    (unmet_alone left_width rights (other_pairs pairs) (wide_others (length rights) pairs wide))

unmet_right : (kind : JoinKind) (left_width : ℕ) (rights : List Row) (pairs : Pairs) → Wide (length rights) pairs → from_unmet kind left_width rights (noted (replicate (length rights) false) pairs) ≡ from_right kind left_width rights pairs
unmet_right join.Right left_width rights pairs wide = unmet_alone left_width rights pairs wide
unmet_right join.Full left_width rights pairs wide = unmet_alone left_width rights pairs wide
unmet_right join.Cross left_width rights pairs wide = refl
unmet_right join.Inner left_width rights pairs wide = refl
unmet_right join.Left left_width rights pairs wide = refl

pub length-either_each : (had kept : List Bool) → length (either_each had kept) ≡ length had
length-either_each [] kept = refl
length-either_each (one ∷ had) [] = refl
length-either_each (one ∷ had) (keep ∷ kept) = ap suc (length-either_each had kept)

-- ---- one left row more

module _ (gives : Row → Row → Meaning Bool) (kind : JoinKind) (right_width : ℕ) (rights : List Row) where
  from_left_push : (P : Row → List Bool → Type 0) (lefts : List Row) (pairs : Pairs) (left : Row) (kept : List Bool) → AllZip P lefts pairs →
      from_left kind right_width (lefts ++ left ∷ []) rights (pairs ++ kept ∷ []) ≡ from_left kind right_width lefts rights pairs ++ padded_right kind right_width left (met left rights kept)
  from_left_push P [] [] left kept each = append-nil (padded_right kind right_width left (met left rights kept))
  from_left_push P [] (other ∷ pairs) left kept each = absurd each
  from_left_push P (other ∷ lefts) [] left kept each = absurd each
  from_left_push P (other ∷ lefts) (these ∷ pairs) left kept each =
      ap (λ z. padded_right kind right_width other (met other rights these) ++ z) (from_left_push P lefts pairs left kept each.1)
      ∙ sym (append_assoc (padded_right kind right_width other (met other rights these)) (from_left kind right_width lefts rights pairs) (padded_right kind right_width left (met left rights kept)))

  -- the rows that come from some left rows, and which right rows have met one of them
  pub record JoinedSo (lefts rows : List Row) (had : List Bool) : Type 0 where
    pub pairs : Pairs
    pub answered : AnsweredAll gives lefts rights pairs
    pub rows_are : rows ≡ from_left kind right_width lefts rights pairs
    pub had_are : had ≡ noted (replicate (length rights) false) pairs

  wide_from : (lefts : List Row) (pairs : Pairs) → AnsweredAll gives lefts rights pairs → Wide (length rights) pairs
  unfolding Wide
  wide_from [] [] each = tt
  wide_from [] (kept ∷ pairs) each = absurd each
  wide_from (left ∷ lefts) [] each = absurd each
  wide_from (left ∷ lefts) (kept ∷ pairs) each = (zip_length (λ right keep. gives left right (Ok keep)) rights kept each.0, wide_from lefts pairs each.1)

  noted_length : (had : List Bool) (pairs : Pairs) → length (noted had pairs) ≡ length had
  unfolding noted
  noted_length had [] = refl
  noted_length had (kept ∷ pairs) = noted_length (either_each had kept) pairs ∙ length-either_each had kept

  -- as many right rows are noted as answers are given
  pub as_many : (lefts rows : List Row) (had : List Bool) (left : Row) (kept : List Bool) → JoinedSo lefts rows had → Answered gives left rights (Ok kept) → length had ≡ length kept
  as_many lefts rows had left kept so each =
      ap length so.had_are ∙ noted_length (replicate (length rights) false) so.pairs ∙ length-replicate (length rights) false ∙ sym (zip_length (λ right keep. gives left right (Ok keep)) rights kept each)

  pub none_joined : (lefts : List Row) (had : List Bool) → had ≡ replicate (length rights) false → JoinedSo (take 0 lefts) [] had
  unfolding noted
  none_joined lefts had are = record { pairs = []; answered = tt; rows_are = refl; had_are = are }

  pub joined_more : (lefts rows : List Row) (had : List Bool) (i : ℕ) (left : Row) (kept : List Bool) → i < length lefts → left ≡ get_or lefts i left → JoinedSo (take i lefts) rows had → Answered gives left rights (Ok kept) →
      JoinedSo (take (i + 1) lefts) (rows ++ padded_right kind right_width left (met left rights kept)) (either_each had kept)
  joined_more lefts rows had i left kept within is so each =
      subst (λ (z : List Row). JoinedSo z (rows ++ padded_right kind right_width left (met left rights kept)) (either_each had kept)) (sym (take_next lefts i left within is))
      (record {
        pairs = so.pairs ++ kept ∷ [];
        answered = zip_push (λ left kept. Answered gives left rights (Ok kept)) (take i lefts) so.pairs left kept so.answered each;
        rows_are = ap (λ z. z ++ padded_right kind right_width left (met left rights kept)) so.rows_are
            ∙ sym (from_left_push (λ left kept. Answered gives left rights (Ok kept)) (take i lefts) so.pairs left kept so.answered);
        had_are = ap (λ z. either_each z kept) so.had_are ∙ sym (noted_push (replicate (length rights) false) so.pairs kept);
      })

  -- the same, by what each call of a turn ensures
  pub joined_step : (lefts rows : List Row) (had : List Bool) (i : ℕ) (left asked matched padded : Row) (kept put noted_from : List Bool) (own more after : List Row) (after_had : List Bool) →
      i < length lefts → left ≡ get_or lefts i left → asked ≡ left → matched ≡ left → padded ≡ left → put ≡ kept → noted_from ≡ kept →
      own ≡ met matched rights put → more ≡ padded_right kind right_width padded own → after ≡ rows ++ more → after_had ≡ either_each had noted_from →
      JoinedSo (take i lefts) rows had → Answered gives asked rights (Ok kept) → JoinedSo (take (i + 1) lefts) after after_had
  joined_step lefts rows had i left asked matched padded kept put noted_from own more after after_had within is asked_is matched_is padded_is put_is noted_is own_are more_are after_are had_are so each =
      let own_is : own ≡ met left rights kept = own_are ∙ ap (λ (z : Row). met z rights put) matched_is ∙ ap (met left rights) put_is in
      let more_is : more ≡ padded_right kind right_width left (met left rights kept) = more_are ∙ ap (λ (z : Row). padded_right kind right_width z own) padded_is ∙ ap (padded_right kind right_width left) own_is in
      let after_is : after ≡ rows ++ padded_right kind right_width left (met left rights kept) = after_are ∙ ap (λ (z : List Row). rows ++ z) more_is in
      let had_is : after_had ≡ either_each had kept = had_are ∙ ap (either_each had) noted_is in
      subst (λ (z : List Row). JoinedSo (take (i + 1) lefts) z after_had) (sym after_is)
      (subst (λ (z : List Bool). JoinedSo (take (i + 1) lefts) (rows ++ padded_right kind right_width left (met left rights kept)) z) (sym had_is)
      (joined_more lefts rows had i left kept within is so (subst (λ (z : Row). Answered gives z rights (Ok kept)) asked_is each)))

  pub all_joined : (left_width : ℕ) (lefts rows : List Row) (had : List Bool) (i : ℕ) → length lefts ≤ i → JoinedSo (take i lefts) rows had → Joins gives kind left_width right_width lefts rights (Ok (rows ++ from_unmet kind left_width rights had))
  all_joined left_width lefts rows had i past so =
      let whole : JoinedSo lefts rows had = subst (λ (z : List Row). JoinedSo z rows had) (take_all i lefts past) so in (
        whole.pairs,
        whole.answered,
        ap (λ z. z ++ from_unmet kind left_width rights had) whole.rows_are
            ∙ ap (λ z. from_left kind right_width lefts rights whole.pairs ++ z)
            (ap (from_unmet kind left_width rights) whole.had_are ∙ unmet_right kind left_width rights whole.pairs (wide_from lefts whole.pairs whole.answered)),
      )
