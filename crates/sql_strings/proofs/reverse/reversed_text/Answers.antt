use Rattle.std.proofs.Common.{◌∙◌, ◌++◌, ap, reverse}
use Rattle.std.specs.Str.{chars, encode_utf8_all}
use Rattle.sql_strings.proofs.PieceLaws.{text-reversed, text-reversed-last}
use Rattle.sql_strings.proofs.reverse.reversed_text.Goals as goal

pub loop-before-preserved : goal.loop-before-preserved
loop-before-preserved c = record {
  so_far = ap (λ t. t ++ encode_utf8_all (reverse (chars c.in-Some.before.now))) c.in_ok-push.ensures.bytes
      ∙ text-reversed _ c.in-Some.last c.loop-before.rest.now c.in-Some.before.now _ c.in-Some.ensures.characters c.loop-before.invariant.so_far;
  utf8 = c.in-Some.ensures.utf8;
}

pub returns : goal.returns
returns c = c.from_string.ensures ∙ text-reversed-last _ c.loop-before.rest.now _ c.in_default.ensures.characters c.loop-before.invariant.so_far
