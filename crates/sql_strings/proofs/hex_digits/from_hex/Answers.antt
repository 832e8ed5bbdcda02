use Rattle.std.proofs.Common.{◌≡◌, ◌%◌, ap, arith, length, eqb}
use Rattle.std.specs.Str.{chars}
use Rattle.std.proofs.lemmas.Grind.{common_steps}
use Rattle.sql_strings.specs.Hex.{from_hex}
use Rattle.sql_strings.proofs.HexLaws.{hex-start, hex-more, hex-end, hex-some}
use Rattle.sql_strings.proofs.hex_digits.from_hex.Goals as goal

pub loop-rest-init : goal.loop-rest-init
loop-rest-init c =
    let odd = ap (λ n. eqb (n % 2) 1) c.count_characters.ensures in
    record {
      so_far = hex-start _ (chars c.args.text.now) _ c.new-made.ensures odd;
      odd = hex-some c.args.text.now _ odd;
      utf8 = c.utf8.text;
    }

pub loop-rest-preserved : goal.loop-rest-preserved
loop-rest-preserved c = record {
  so_far = hex-more c.loop-rest.made _ c.loop-rest.rest.now c.in-Some.behind.now c.loop-rest.is_odd c.in-Some.byte (from_hex (chars c.args.text.now)) c.in_ok-push-in-Some.ensures.ok
      c.in-Some.ensures.bytes c.loop-rest.invariant.so_far;
  odd = λ never. cc;
  utf8 = c.in-Some.ensures.utf8;
}

pub returns : goal.returns
returns c =
    let none : length c.loop-rest.rest.now ≡ 0 = grind (arith, common_steps) in
    hex-end c.loop-rest.made c.loop-rest.rest.now c.loop-rest.is_odd (from_hex (chars c.args.text.now)) none c.loop-rest.invariant.odd c.loop-rest.invariant.so_far
