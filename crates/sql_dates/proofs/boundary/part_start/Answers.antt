use Rattle.std.proofs.Common.{◌≡◌, ◌∙◌, refl, arith, rules, ℤ, pos, ◌-ℤ◌, ◌*ℤ◌, ◌≤ℤ◌, neg_ℤ, to_z, of_z}
use mir.Syntax.{w32, w128}
use Rattle.jiff_core.proofs.SignedLemmas.{signed_arith}
use Rattle.sql_dates.proofs.Widths.{kept}
use Rattle.sql_dates.proofs.boundary.part_start.Goals as goal

-- seven times a small week, less four
week-kept : (w : ℤ) → neg_ℤ (pos 3000000) ≤ℤ w → w ≤ℤ pos 3000000 → to_z w128 (of_z w128 (to_z w128 (of_z w128 (pos 7 *ℤ w)) -ℤ pos 4)) ≡ pos 7 *ℤ w -ℤ pos 4
week-kept w low high =
    let m = kept (pos 7 *ℤ w) (omega (arith, signed_arith)) (omega (arith, signed_arith)) in
    let k = kept (pos 7 *ℤ w -ℤ pos 4) (omega (arith, signed_arith)) (omega (arith, signed_arith)) in
    rw (m, k) refl

pub returns-in-Week : goal.returns-in-Week
returns-in-Week c =
    let w : to_z w128 (of_z w128 c.from.result) ≡ c.week_of.result = search rules in
    let k = week-kept c.week_of.result c.week_of.ensures.small.0 c.week_of.ensures.small.1 in
    let d : to_z w32 (of_z w32 c.args.day) ≡ c.args.day = search rules in
    let value = rw d at c.week_of.ensures.value in
    rw c.in-Week.is (c.within_dates.ensures ∙ (rw (w, k, value) refl))
