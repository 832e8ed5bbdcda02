use Rattle.std.proofs.Common.{ℕ, List, ◌≡◌, ◌<◌, ◌≤◌, [], false, length, take, replicate, get_or, refl, ap, sym, subst, ◌∙◌, arith}
use Rattle.sql_types.specs.Joined.{Row, padded_right}
use Rattle.eval_rows.specs.EqualKeys.{key_at}
use Rattle.eval_rows.specs.Met.{from_unmet}
use Rattle.eval_rows.proofs.JoinLaws.{JoinedSo, none_joined}
use Rattle.eval_rows.proofs.KeyLaws.{GivesEqual, partners_below, had_long, equal_step, equal_all}
use Rattle.eval_rows.proofs.key_joining.equal_rows.Goals as goal

pub loop-item-init : goal.loop-item-init
loop-item-init c =
    let gives = GivesEqual c.args.left_key c.args.right_key in
    let width = length c.args.right.now.columns in
    let rights = c.args.right.now.rows in
    let had = c.in_ok-had.had in
    subst (λ (rows : List Row). JoinedSo gives c.args.kind width rights [] rows had) (sym c.new-rows.ensures)
    (none_joined gives c.args.kind width rights c.args.left.now.rows had (c.in_ok-had.ensures ∙ ap (λ (z : List Row). replicate (length z) false) c.as_slice-rights.ensures))

pub met_numbers-requires : goal.met_numbers-requires
met_numbers-requires c =
    partners_below (key_at c.args.left_key c.as_slice-row.result.now) c.args.right_key (length c.as_slice-rights.result.now) c.as_slice-rights.result.now c.numbers_of-met.result.now (c.numbers_of-met.ensures ∙ c.in_ok-index.ensures (key_at c.args.left_key c.as_slice-row.result.now)) (omega arith)

pub note_numbers-had-requires : goal.note_numbers-had-requires
note_numbers-had-requires c =
    let seen = c.as_slice-rights.result.now in
    let as_many : length seen ≡ length c.args.right.now.rows = ap length c.as_slice-rights.ensures in
    let long : length c.loop-item.had ≡ length c.args.right.now.rows =
    had_long c.args.kind c.args.left_key c.args.right_key (length c.args.right.now.columns) (take c.loop-item.item-index c.args.left.now.rows) c.args.right.now.rows c.loop-item.rows c.loop-item.had c.loop-item.invariant in
    partners_below (key_at c.args.left_key c.as_slice-row.result.now) c.args.right_key (length c.loop-item.had) seen c.numbers_of-met.result.now (c.numbers_of-met.ensures ∙ c.in_ok-index.ensures (key_at c.args.left_key c.as_slice-row.result.now)) (omega (arith, as_many, long))

pub loop-item-preserved : goal.loop-item-preserved
loop-item-preserved c =
    let i = c.loop-item.item-index in
    let lefts = c.args.left.now.rows in
    let left = c.item-item.result in
    let row = c.as_slice-row.result.now in
    let own = c.in_ok-own.own in
    let within : i < length lefts = subst (λ (z : List Row). i < length z) c.as_slice-item-items.ensures c.loop-item-test.true in
    let is : left ≡ get_or lefts i left = c.item-item.is ∙ ap (λ (z : List Row). get_or z i left) c.as_slice-item-items.ensures in
    equal_step c.args.kind c.args.left_key c.args.right_key (length c.args.right.now.columns) lefts c.args.right.now.rows c.loop-item.rows c.loop-item.had i left row (key_at c.args.left_key row)
    c.as_slice-rights.result.now c.numbers_of-met.result.now own c.in_ok-padded_right.field-0 c.append.new.self c.note_numbers-had.result
    within is c.as_slice-row.ensures refl c.as_slice-rights.ensures (c.numbers_of-met.ensures ∙ c.in_ok-index.ensures (key_at c.args.left_key c.as_slice-row.result.now)) c.in_ok-own.ensures
    (c.in_ok-padded_right.ensures ∙ ap (λ (n : ℕ). padded_right c.args.kind n row own) c.len.ensures)
    c.in_ok-append.ensures c.note_numbers-had.ensures c.loop-item.invariant

pub returns : goal.returns
returns c =
    let i = c.loop-item.item-index in
    let lefts = c.args.left.now.rows in
    let seen = c.as_slice-rights.result.now in
    let noted = c.as_slice.result.now in
    let past : length lefts ≤ i = subst (λ (z : List Row). length z ≤ i) c.as_slice-item-items.ensures c.loop-item-test.false in
    equal_all c.args.kind c.args.left_key c.args.right_key (length c.args.left.now.columns) (length c.args.right.now.columns) lefts c.args.right.now.rows c.loop-item.rows c.loop-item.had i
    seen c.in_ok-rows_from_right.field-0 c.append-2.new.self noted past c.as_slice-rights.ensures c.as_slice.ensures
    (c.in_ok-rows_from_right.ensures ∙ ap (λ (n : ℕ). from_unmet c.args.kind n seen noted) c.len-2.ensures)
    c.in_ok-append-2.ensures c.loop-item.invariant
