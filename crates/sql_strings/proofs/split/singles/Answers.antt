use Rattle.std.proofs.Common.{◌∙◌, ◌++◌, ◌∷◌, [], ap}
use Rattle.sql_strings.proofs.PieceLaws.{one-single, last-single}
use Rattle.sql_strings.proofs.split.singles.Goals as goal

pub loop-character-preserved : goal.loop-character-preserved
loop-character-preserved c = record {
  so_far = one-single _ _ c.in-Some.character c.loop-character.rest.now c.in-Some.behind.now _ c.in-Some.ensures.characters (c.in_ok-push.ensures.ok ∙ ap (λ v. c.loop-character.made ++ v ∷ []) c.in_ok-single.ensures) c.loop-character.invariant.so_far;
  utf8 = c.in-Some.ensures.utf8;
}

pub returns : goal.returns
returns c = last-single _ c.loop-character.rest.now _ c.in_default.ensures.characters c.loop-character.invariant.so_far
