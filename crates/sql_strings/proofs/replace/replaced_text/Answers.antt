use Rattle.std.proofs.Common.{◌≡◌, ◌∙◌, ◌<◌, ◌++◌, ap, length, subst, arith, List, ℕ}
use Rattle.std.specs.Prelude.{IfOk}
use Rattle.std.specs.Str.{chars, encode_utf8_all}
use Rattle.std.proofs.lemmas.Grind.{common_steps}
use Rattle.sql_strings.specs.Texts.{joined_by, pieces}
use Rattle.sql_strings.proofs.PieceLaws.{text-replaced, text-replaced-last, text-replaced-first, text-unreplaced}
use Rattle.sql_strings.proofs.replace.replaced_text.Goals as goal

pub returns-then-is_empty : goal.returns-then-is_empty
returns-then-is_empty c =
    let none : length c.args.old.now ≡ 0 = grind (arith, common_steps) in
    let family : List ℕ → Type 0 = λ whole. IfOk c.copy_of.result (λ made. made ≡ whole) in
    subst family (text-unreplaced c.args.new.now c.args.old.now c.args.text.now c.utf8.text none) c.copy_of.ensures

pub loop-piece-init : goal.loop-piece-init
loop-piece-init c =
    let some : 0 < length c.args.old.now = grind (arith, common_steps) in
    record {
      so_far = ap (λ t. t ++ encode_utf8_all (joined_by (chars c.args.new.now) (pieces (chars c.args.old.now) (chars c.args.text.now)))) c.new-made.ensures.bytes
          ∙ text-replaced-first c.args.new.now c.args.old.now c.args.text.now c.utf8.old some;
      utf8 = c.utf8.text;
    }

pub loop-piece-preserved : goal.loop-piece-preserved
loop-piece-preserved c =
    let made = c.in_ok-push_str-2.ensures.bytes ∙ ap (λ t. t ++ c.args.new.now) c.in_ok-push_str.ensures.bytes in
    record {
      so_far = ap (λ t. t ++ encode_utf8_all (joined_by (chars c.args.new.now) (pieces (chars c.args.old.now) (chars c.in-Some.behind.now)))) made
          ∙ text-replaced _ c.in-Some.piece.now c.args.new.now c.args.old.now c.loop-piece.rest.now c.in-Some.behind.now _ c.in-Some.ensures.utf8.0 c.utf8.new
          c.in-Some.ensures.pieces c.loop-piece.invariant.so_far;
      utf8 = c.in-Some.ensures.utf8.1;
    }

pub returns : goal.returns
returns c =
    c.from_string.ensures ∙ c.in_ok-push_str-3.ensures.bytes
    ∙ text-replaced-last _ c.args.new.now c.args.old.now c.loop-piece.rest.now _ c.loop-piece.invariant.utf8 c.in_default.ensures.pieces c.loop-piece.invariant.so_far
