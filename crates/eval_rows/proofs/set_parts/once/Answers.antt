use Rattle.std.proofs.Common.{List, [], ◌∷◌, ◌++◌, ◌+◌, ◌∙◌, take, ap, sym, arith}
use Rattle.std.proofs.lemmas.List.{map-append, length-map, take_all}
use denote.Ref.{Bor}
use Rattle.sql_types.specs.Combined.{at_most_one}
use Rattle.sql_types.specs.Joined.{Row}
use Rattle.key_classes.specs.Classes.{key_of}
use Rattle.eval_rows.specs.Counts.{shown, count, is_whole}
use Rattle.key_classes.specs.KeyLaws.{told}
use Rattle.eval_rows.proofs.CountLaws.{one, count_next, whole_at, fewer_pass, once_more, at_most, keep_new, keep_known}
use Rattle.eval_rows.proofs.set_parts.once.Goals as goal
use Rattle.eval_rows.proofs.set_parts.once.Goals.{then-class-len+in_ok-push, else-class-len}

pub loop-row-preserved : goal.loop-row-preserved
loop-row-preserved c =
    let list = c.args.list.now in
    let i = c.loop-row.row-index in
    let b = c.row-item.result in
    let seen = c.loop-row.seen in
    let after = c.add.new.self in
    let before = c.loop-row.kept.items in
    let key = key_of c.args.columns.now c.as_slice.result.now in
    let whole = ap (key_of c.args.columns.now) c.as_slice.ensures ∙ told _ _ (whole_at (is_whole c.args.columns.now) list i b c.requires c.loop-row-test.true c.row-item.is) in
    let long = length-map before (λ (z : Bor Row). z.now) in
    record {
      kept =
          elim c.if-class-len.branch [
            | then-class-len+in_ok-push w ↦
                keep_new seen after (shown before) (shown c.if-class-len.kept.items) key c.in_ok-class.class c.loop-row.invariant.kept c.in_ok-class.ensures.added c.in_ok-class.ensures.number
                (omega (arith, long))
                (ap (λ z. shown z.items) w.kept-is ∙ ap shown w.in_ok-push.ensures.items ∙ map-append (λ (z : Bor Row). z.now) before (b ∷ []) ∙ ap (λ (z : Row). shown before ++ z ∷ []) (sym whole))
            | else-class-len w ↦
                keep_known seen after (shown before) (shown c.if-class-len.kept.items) key c.in_ok-class.class c.loop-row.invariant.kept c.in_ok-class.ensures.added c.in_ok-class.ensures.number
                (λ last. w.if-class-len.false (omega (arith, last, long)))
                (ap (λ z. shown z.items) w.kept-is)
          ];
      counts = λ row.
          once_more seen after key row (count row (shown (take i list))) c.in_ok-class.ensures.added (c.loop-row.invariant.counts row)
          ∙ ap at_most_one (ap (λ (z : Row). count row (shown (take i list)) + one row z) whole ∙ sym (count_next row list i b c.loop-row-test.true c.row-item.is));
    }

pub returns-clause-whole : goal.returns-clause-whole
returns-clause-whole c =
    let list = c.args.list.now in
    let i = c.loop-row.row-index in
    fewer_pass (is_whole c.args.columns.now) (shown list) (shown c.loop-row.kept.items)
    (λ row. omega (arith, ap (count row) c.loop-row.invariant.kept, c.loop-row.invariant.counts row, at_most (count row (shown (take i list))), ap (λ (z : List (Bor Row)). count row (shown z)) (take_all i list c.loop-row-test.false)))
    c.requires
