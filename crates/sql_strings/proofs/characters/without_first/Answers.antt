use Rattle.std.proofs.lemmas.Str.{IsUtf8-past_char}
use Rattle.sql_strings.proofs.CharLaws.{drop-past, front-past}
use Rattle.sql_strings.proofs.characters.without_first.Goals as goal

pub loop-left-preserved : goal.loop-left-preserved
loop-left-preserved c =
    let past = c.in-Some.ensures in
    let so_far = c.loop-left.invariant in
    record {
      left = drop-past c.loop-left.left c.in-Some.field-0-0 _ _ _ c.loop-left-test.true past.characters so_far.left;
      behind = front-past c.args.text.now c.loop-left.rest.now c.in-Some.behind.now c.in-Some.field-0-0 so_far.behind past.bytes;
      utf8 = IsUtf8-past_char c.loop-left.rest.now c.in-Some.behind.now c.in-Some.field-0-0 so_far.utf8 past.bytes;
    }
