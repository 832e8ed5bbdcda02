use Rattle.std.proofs.Common.{◌≡◌, [], ◌∷◌, false, length, ap, sym, subst}
use Rattle.sql_types.specs.declared.sql_type.SqlType.TheVariants as ty
use Rattle.sql_aggregates.specs.declared.call.AggCall.{AggCall}
use Rattle.sql_aggregates.specs.declared.call.AggName.TheVariants as name
use Rattle.sql_aggregates.specs.Calls.{places_from}
use Rattle.sql_aggregates.proofs.TestLaws.{AllFit, none_fit, one_more_fits, two_fit, pairs_addable, array_lawful}
use Rattle.sql_aggregates.proofs.tests.pairs_in_order.Goals as goal

-- a call of ARRAY_AGG with one sort item, which goes by the second value
IsOrdered : AggCall → Type 0
IsOrdered call = (call.name ≡ name.ArrayAgg) × (call.distinct ≡ false) × (length call.order ≡ 1) × places_from 1 call.order

moved : (call other : AggCall) → other ≡ call → IsOrdered call → IsOrdered other
moved call other is ordered = subst IsOrdered (sym is) ordered

pub start-requires : goal.start-requires
start-requires g c = array_lawful c.in_ok-ordered_call.field-0 c.in_ok-ordered_call.ensures.0

pub loop-x-init : goal.loop-x-init
unfolding IsOrdered
loop-x-init g c =
    let ordered = moved c.in_ok-ordered_call.field-0 c.in_ok-accumulator.accumulator.call (ap (λ a. a.call) c.in_ok-accumulator.ensures) c.in_ok-ordered_call.ensures in
    record {
      named = ordered.0;
      plain = ordered.1;
      one = ordered.2;
      places = ordered.3;
      fit = subst (λ a. AllFit (ty.Int64 ∷ ty.Int64 ∷ []) a.added) (sym c.in_ok-accumulator.ensures) (none_fit (ty.Int64 ∷ ty.Int64 ∷ []));
    }

pub add-requires : goal.add-requires
add-requires g c =
    pairs_addable c.loop-x.accumulator.call _ c.loop-x.invariant.named c.loop-x.invariant.plain c.loop-x.invariant.one c.loop-x.invariant.places
    (one_more_fits (ty.Int64 ∷ ty.Int64 ∷ []) c.loop-x.accumulator.added (c.in_ok-x.x ∷ c.in_ok-y.y ∷ []) c.loop-x.invariant.fit (two_fit ty.Int64 ty.Int64 c.in_ok-x.x c.in_ok-y.y c.in_ok-x.ensures c.in_ok-y.ensures))

pub loop-x-preserved : goal.loop-x-preserved
unfolding IsOrdered
loop-x-preserved g c =
    let was : IsOrdered c.loop-x.accumulator.call = (c.loop-x.invariant.named, c.loop-x.invariant.plain, c.loop-x.invariant.one, c.loop-x.invariant.places) in
    let ordered = moved c.loop-x.accumulator.call c.add.new.self.call c.in_ok-add.ensures.call was in
    record {
      named = ordered.0;
      plain = ordered.1;
      one = ordered.2;
      places = ordered.3;
      fit = subst (λ lists. AllFit (ty.Int64 ∷ ty.Int64 ∷ []) lists) (sym c.in_ok-add.ensures.ok)
          (one_more_fits (ty.Int64 ∷ ty.Int64 ∷ []) c.loop-x.accumulator.added (c.in_ok-x.x ∷ c.in_ok-y.y ∷ []) c.loop-x.invariant.fit (two_fit ty.Int64 ty.Int64 c.in_ok-x.x c.in_ok-y.y c.in_ok-x.ensures c.in_ok-y.ensures));
    }
