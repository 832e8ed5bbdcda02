-- What a join answers, by what its test answers.
use Rattle.std.specs.Prelude.{◌≡◌, ℕ, Bool, List, length, ◌++◌, Result, Ok, Err}
use Rattle.std.specs.List.{All, AllZip, Contains}
use Rattle.std.specs.Fn.{Shared, FnReturnsAtPair}
use denote.Ref.{Bor}
use Rattle.sql_types.specs.declared.fault.CallFault.{CallFault}
use Rattle.sql_types.specs.declared.fault.CallFault.TheVariants.{Fault}
use Rattle.sql_types.specs.declared.kinds.JoinKind.{JoinKind}
use Rattle.sql_types.specs.declared.rows.Rows.{Rows}
use Rattle.sql_types.specs.declared.value.Value.{Value}
use Rattle.sql_types.specs.Outcome.{Meaning}
use Rattle.sql_types.specs.Joined.{Row, Pairs, Joined}

-- what calls a test of two rows, and what such a call may answer
abbrev pub Test : Type 0 → Type 1
Test F = Shared F (Bor (List Value) × (Bor (List Value) × Unit {0})) (Result Bool CallFault)

-- the test may be called on the two rows
abbrev pub TakesPair : {F : Type 0} → Test F → F → Row → Row → Type 0
TakesPair g f left right = (p q : Bor (List Value)) → p.now ≡ left → q.now ≡ right → g.pre f (p, (q, tt))

-- and on each pair of a left and a right row
abbrev pub TakesPairs : {F : Type 0} → Test F → F → List Row → List Row → Type 0
TakesPairs g f lefts rights = All (λ left. All (TakesPair g f left) rights) lefts

-- what the test may answer of the two rows
abbrev pub TestGives : {F : Type 0} → Test F → F → Row → Row → Meaning Bool
TestGives g f left right (Ok keep) = FnReturnsAtPair g f left right (Ok keep)
TestGives g f left right (Err fault) = FnReturnsAtPair g f left right (Err (Fault fault))

-- An answer of the test for each right row, beside one left row; or the fault of one of them.
abbrev pub Answered : (Row → Row → Meaning Bool) → Row → List Row → Meaning (List Bool)
Answered gives left rights (Ok kept) = AllZip (λ right keep. gives left right (Ok keep)) rights kept
Answered gives left rights (Err fault) = (right : Row) × Contains rights right × gives left right (Err fault)

-- An answer of the test for each pair. Those that are TRUE are kept.
abbrev pub AnsweredAll : (Row → Row → Meaning Bool) → List Row → List Row → Pairs → Type 0
AnsweredAll gives lefts rights pairs = AllZip (λ left kept. Answered gives left rights (Ok kept)) lefts pairs

-- The rows of a join are those of the pairs that the test keeps, and a fault is one that the test may answer for some pair.
abbrev pub Joins : (Row → Row → Meaning Bool) → JoinKind → (left_width right_width : ℕ) → List Row → List Row → Meaning (List Row)
Joins gives kind left_width right_width lefts rights (Ok rows) = (pairs : Pairs) × AnsweredAll gives lefts rights pairs × Joined kind left_width right_width lefts rights pairs rows
Joins gives kind left_width right_width lefts rights (Err fault) = (left : Row) × Contains lefts left × Answered gives left rights (Err fault)

-- The join of two tables has the columns of the left one and then those of the right one.
abbrev pub JoinsRows : (Row → Row → Meaning Bool) → JoinKind → Rows → Rows → Meaning Rows
JoinsRows gives kind left right (Ok joined) = (joined.columns ≡ left.columns ++ right.columns) × Joins gives kind (length left.columns) (length right.columns) left.rows right.rows (Ok joined.rows)
JoinsRows gives kind left right (Err fault) = Joins gives kind (length left.columns) (length right.columns) left.rows right.rows (Err fault)
