use Rattle.std.proofs.Common.{◌∙◌, ◌++◌, ◌∷◌, [], ap}
use Rattle.sql_strings.proofs.PieceLaws.{one-piece, last-piece}
use Rattle.sql_strings.proofs.split.pieces.Goals as goal

pub loop-piece-preserved : goal.loop-piece-preserved
loop-piece-preserved c = record {
  so_far = one-piece _ _ c.in-Some.piece.now c.args.separator.now c.loop-piece.rest.now c.in-Some.behind.now _ c.in-Some.ensures.pieces (c.in_ok-push.ensures.ok ∙ ap (λ v. c.loop-piece.made ++ v ∷ []) c.in_ok-string.ensures) c.loop-piece.invariant.so_far;
  utf8 = c.in-Some.ensures.utf8.1;
}

pub returns : goal.returns
returns c = last-piece _ _ c.args.separator.now c.loop-piece.rest.now _ c.in_default.ensures.pieces (c.in_ok-push-2.ensures.ok ∙ ap (λ v. c.loop-piece.made ++ v ∷ []) c.in_ok-string-2.ensures) c.loop-piece.invariant.so_far
