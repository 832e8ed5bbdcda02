use Rattle.std.proofs.Common.{◌∙◌, ◌++◌, ap}
use Rattle.sql_strings.specs.Texts.{joined_by, pieces, replaced}
use Rattle.sql_strings.proofs.PieceLaws.{bytes-replaced}
use Rattle.sql_strings.proofs.replace.replaced_bytes.Goals as goal

pub loop-piece-preserved : goal.loop-piece-preserved
loop-piece-preserved c =
    let made = c.in_ok-extend_from_slice-2.ensures.items ∙ ap (λ t. t ++ c.args.new.now) c.in_ok-extend_from_slice.ensures.items in
    ap (λ t. t ++ joined_by c.args.new.now (pieces c.args.old.now c.in-Some.behind.now)) made
    ∙ bytes-replaced c.loop-piece.made.items c.in-Some.piece.now c.args.new.now c.args.old.now c.loop-piece.rest.now c.in-Some.behind.now
    (replaced c.args.old.now c.args.new.now c.args.content.now) c.in-Some.ensures.pieces c.loop-piece.invariant
