use Rattle.std.proofs.Common.{◌≡◌, ℕ, length, ◌+◌, ◌<◌, List, drop, get_or, ℤ, ◌+ℤ◌, FitsSigned, to_z, of_z, arith, ◌∙◌, sym, ap}
use Rattle.std.proofs.lemmas.Int.{ints, to_z-of_z}
use Rattle.std.specs.Int.{w128}
use Rattle.std.proofs.lemmas.List.{drop_more}
use Rattle.sql_types.specs.declared.value.Value.{Value}
use Rattle.sql_types.specs.Takes.{number}
use Rattle.sql_aggregates.specs.Aggregates as rows
use Rattle.sql_aggregates.proofs.counts.total.Goals as goal

-- one number more
total_more : (so_far number rest here all : ℤ) → here ≡ number +ℤ rest → so_far +ℤ here ≡ all → so_far +ℤ number +ℤ rest ≡ all
total_more so_far number rest here all is whole = omega (arith, ints)

split : (values : List Value) (i : ℕ) (x : Value) (n : ℤ) → i < length values → x ≡ get_or values i x → n ≡ number x → rows.total (drop i values) ≡ n +ℤ rows.total (drop (i + 1) values)
split values i x n within at is = ap rows.total (drop_more values i x within) ∙ ap (λ z. number z +ℤ rows.total (drop (i + 1) values)) (sym at) ∙ ap (λ z. z +ℤ rows.total (drop (i + 1) values)) (sym is)

pub overflow_add-total : goal.overflow_add-total
overflow_add-total c =
    let small : FitsSigned w128 c.number-total.result = omega (arith, ints, c.number-total.ensures.low, c.number-total.ensures.high) in
    let same : to_z w128 (of_z w128 c.number-total.result) ≡ c.number-total.result = to_z-of_z w128 _ small in
    omega (arith, ints, c.number-total.ensures.low, c.number-total.ensures.high)

pub loop-value-preserved : goal.loop-value-preserved
loop-value-preserved c =
    let small : FitsSigned w128 c.number-total.result = omega (arith, ints, c.number-total.ensures.low, c.number-total.ensures.high) in
    let same : to_z w128 (of_z w128 c.number-total.result) ≡ c.number-total.result = to_z-of_z w128 _ small in
    let sum : to_z w128 (of_z w128 (to_z w128 c.loop-value.total-bits +ℤ to_z w128 (of_z w128 c.number-total.result))) ≡ to_z w128 c.loop-value.total-bits +ℤ c.number-total.result
    = to_z-of_z w128 _ (overflow_add-total c) ∙ ap (λ z. to_z w128 c.loop-value.total-bits +ℤ z) same in
    let next : rows.total (drop c.loop-value.value-index c.args.values.now) ≡ c.number-total.result +ℤ rows.total (drop (c.loop-value.value-index + 1) c.args.values.now)
    = split c.args.values.now c.loop-value.value-index c.value-item.result c.number-total.result (omega arith) c.value-item.is c.number-total.ensures.value in
    rw sum (record {
      whole = total_more _ _ _ _ _ next c.loop-value.invariant.whole;
      above = omega (arith, ints, c.number-total.ensures.low, c.number-total.ensures.high);
      below = omega (arith, ints, c.number-total.ensures.low, c.number-total.ensures.high);
    })
