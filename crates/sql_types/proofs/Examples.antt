-- Worked examples of the definitions.
use Rattle.std.proofs.Common.{◌≡◌, ℕ, pos, true, false, List, [], ◌∷◌, None, Some, Ok, Err, inl, inr, refl, arith}
use Rattle.sql_types.specs.declared.fault.FaultKind.TheVariants.{DivisionByZero}
use Rattle.sql_types.specs.declared.kinds.JoinKind.TheVariants as join
use Rattle.sql_types.specs.declared.kinds.SetKind.TheVariants as set
use Rattle.sql_types.specs.declared.value.Value.{Value}
use Rattle.sql_types.specs.declared.value.Value.TheVariants.{Null, Int, Bool as Truth}
use Rattle.sql_types.specs.Outcome.{just}
use Rattle.sql_types.specs.Same.{both_true}
use Rattle.sql_types.specs.Logic.{opposite, either_true, all_true, any_true, Decided, one_decides, one_of_faults}
use Rattle.sql_types.specs.Joined.{Pairs, Joined}
use Rattle.sql_types.specs.Parted.{Parted}
use Rattle.sql_types.specs.Combined.{Counted, counted_none, counted_same, counted_other, combined_count, Combined}
use Rattle.sql_types.specs.Arranged.{permutes_skip, permutes_swap}
use Rattle.sql_types.specs.Cut.{Cut}

-- ---- joins: of the left rows 1 and 2 and the right rows 7 and 8 the pair of 1 and 7 is kept

abbrev lefts : List (List Value)
lefts = (Int (pos 1) ∷ []) ∷ (Int (pos 2) ∷ []) ∷ []

abbrev rights : List (List Value)
rights = (Int (pos 7) ∷ []) ∷ (Int (pos 8) ∷ []) ∷ []

abbrev kept : Pairs
kept = (true ∷ false ∷ []) ∷ (false ∷ false ∷ []) ∷ []

inner : Joined join.Inner 1 1 lefts rights kept ((Int (pos 1) ∷ Int (pos 7) ∷ []) ∷ [])
inner = refl

left : Joined join.Left 1 1 lefts rights kept ((Int (pos 1) ∷ Int (pos 7) ∷ []) ∷ (Int (pos 2) ∷ Null ∷ []) ∷ [])
left = refl

right : Joined join.Right 1 1 lefts rights kept ((Int (pos 1) ∷ Int (pos 7) ∷ []) ∷ (Null ∷ Int (pos 8) ∷ []) ∷ [])
right = refl

full : Joined join.Full 1 1 lefts rights kept ((Int (pos 1) ∷ Int (pos 7) ∷ []) ∷ (Int (pos 2) ∷ Null ∷ []) ∷ (Null ∷ Int (pos 8) ∷ []) ∷ [])
full = refl

cross : Joined join.Cross 1 1 lefts rights ((true ∷ true ∷ []) ∷ (true ∷ true ∷ []) ∷ [])
    ((Int (pos 1) ∷ Int (pos 7) ∷ []) ∷ (Int (pos 1) ∷ Int (pos 8) ∷ []) ∷ (Int (pos 2) ∷ Int (pos 7) ∷ []) ∷ (Int (pos 2) ∷ Int (pos 8) ∷ []) ∷ [])
cross = refl

-- over no left rows each right row is alone
nothing_left : Joined join.Full 2 1 [] rights [] ((Null ∷ Null ∷ Int (pos 7) ∷ []) ∷ (Null ∷ Null ∷ Int (pos 8) ∷ []) ∷ [])
nothing_left = refl

-- ---- groups: the keys 1, NULL, 1, NULL

parted : Parted ((Int (pos 1) ∷ []) ∷ (Null ∷ []) ∷ (Int (pos 1) ∷ []) ∷ (Null ∷ []) ∷ [])
    (record { key = Int (pos 1) ∷ []; members = 0 ∷ 2 ∷ [] } ∷ record { key = Null ∷ []; members = 1 ∷ 3 ∷ [] } ∷ [])
parted = record {
  whole = permutes_skip permutes_swap;
  alike = ((refl, (refl, tt)), ((refl, (refl, tt)), tt));
  apart = ((λ e. cc, tt), (tt, tt));
  filled = (λ e. cc, (λ e. cc, tt));
  in_order = ((omega arith, tt), ((omega arith, tt), tt));
  by_first = (omega arith, tt);
}

-- ---- set operations: a row that stands three times in the first operand, and once and twice in the others

union_all : combined_count set.UnionAll 3 (1 ∷ 2 ∷ []) ≡ 6
union_all = refl

union_distinct : combined_count set.UnionDistinct 3 (1 ∷ 2 ∷ []) ≡ 1
union_distinct = refl

intersect_all : combined_count set.IntersectAll 3 (1 ∷ 2 ∷ []) ≡ 1
intersect_all = refl

intersect_distinct : combined_count set.IntersectDistinct 3 (1 ∷ 2 ∷ []) ≡ 1
intersect_distinct = refl

intersect_missing : combined_count set.IntersectDistinct 3 (1 ∷ 0 ∷ []) ≡ 0
intersect_missing = refl

except_all : combined_count set.ExceptAll 3 (1 ∷ []) ≡ 2
except_all = refl

-- the difference stops at 0
except_more : combined_count set.ExceptAll 3 (1 ∷ 3 ∷ []) ≡ 0
except_more = refl

-- what another operand has is gone, however often the first has it
except_distinct : combined_count set.ExceptDistinct 3 (1 ∷ []) ≡ 0
except_distinct = refl

except_distinct_kept : combined_count set.ExceptDistinct 3 (0 ∷ 0 ∷ []) ≡ 1
except_distinct_kept = refl

-- NULL is counted as NULL
counted_nulls : Counted (Null ∷ []) ((Null ∷ []) ∷ (Int (pos 1) ∷ []) ∷ (Null ∷ []) ∷ []) 2
counted_nulls = counted_same refl (counted_other (λ e. cc) (counted_same refl counted_none))

-- a row twice EXCEPT ALL the row once is the row once
once_less : (row other : List Value) (n k : ℕ) → Counted row (other ∷ other ∷ []) n → Counted row (other ∷ []) k → Counted row (other ∷ []) (combined_count set.ExceptAll n (k ∷ []))
once_less row other _ _ (counted_same e (counted_same f counted_none)) (counted_same g counted_none) = counted_same e counted_none
once_less row other _ _ (counted_other e (counted_other f counted_none)) (counted_other g counted_none) = counted_other e counted_none
once_less row other _ _ (counted_same e (counted_other f counted_none)) later = absurd (f e)
once_less row other _ _ (counted_other e (counted_same f counted_none)) later = absurd (e f)
once_less row other _ _ (counted_same e (counted_same f counted_none)) (counted_other g counted_none) = absurd (g e)
once_less row other _ _ (counted_other e (counted_other f counted_none)) (counted_same g counted_none) = absurd (e g)

except_once : (other : List Value) → Combined set.ExceptAll (other ∷ other ∷ []) ((other ∷ []) ∷ []) (other ∷ [])
except_once other row n [] first others = absurd others
except_once other row n (k ∷ []) first others = once_less row other n k first others.0
except_once other row n (k ∷ m ∷ more) first others = absurd others.1

-- ---- LIMIT 2 OFFSET 1, and past the end

cut_some : Cut {A = ℕ} (1 ∷ 2 ∷ 3 ∷ 4 ∷ []) 1 2 (2 ∷ 3 ∷ [])
cut_some = refl

cut_past : Cut {A = ℕ} (1 ∷ 2 ∷ []) 3 2 []
cut_past = refl

-- ---- AND, OR, NOT

and_table : (both_true (Some true) (Some true) ≡ Some true) × (both_true (Some true) (Some false) ≡ Some false) × (both_true (Some true) None ≡ None)
    × (both_true (Some false) (Some false) ≡ Some false) × (both_true (Some false) None ≡ Some false) × (both_true None (Some false) ≡ Some false) × (both_true None None ≡ None)
and_table = (refl, refl, refl, refl, refl, refl, refl)

or_table : (either_true (Some true) (Some true) ≡ Some true) × (either_true (Some true) (Some false) ≡ Some true) × (either_true (Some true) None ≡ Some true)
    × (either_true (Some false) (Some false) ≡ Some false) × (either_true (Some false) None ≡ None) × (either_true None (Some true) ≡ Some true) × (either_true None None ≡ None)
or_table = (refl, refl, refl, refl, refl, refl, refl)

not_table : (opposite (Some true) ≡ Some false) × (opposite (Some false) ≡ Some true) × (opposite None ≡ None)
not_table = (refl, refl, refl)

and_over : all_true (Some true ∷ None ∷ Some false ∷ []) ≡ Some false
and_over = refl

or_over : any_true (Some false ∷ None ∷ Some false ∷ []) ≡ None
or_over = refl

-- FALSE AND a division by zero is FALSE, or the fault
false_beside_fault : Decided false (just (Ok (Truth false)) ∷ just (Err DivisionByZero) ∷ []) (Ok (Truth false))
false_beside_fault = one_decides (inl refl)

fault_beside_false : Decided false (just (Ok (Truth false)) ∷ just (Err DivisionByZero) ∷ []) (Err DivisionByZero)
fault_beside_false = one_of_faults (inr (inl refl))
