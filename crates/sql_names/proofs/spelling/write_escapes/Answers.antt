-- One byte more is written.
use Rattle.std.proofs.Common.{◌++◌, List, ℕ, take, get_or, sym, ◌∙◌, ap, append_assoc, arith}
use Rattle.sql_names.specs.Spelling.{escaped, escapes}
use Rattle.sql_names.proofs.SpellingLemmas.{escapes_take}
use Rattle.sql_names.proofs.spelling.write_escapes.Goals as goal

pub loop-byte-preserved : goal.loop-byte-preserved
loop-byte-preserved c =
    c.in_ok-write_escaped.ensures
    ∙ ap (λ (r : List ℕ). r ++ escaped c.args.mark (get_or c.args.text.now c.loop-byte.byte-index 0)) c.loop-byte.invariant
    ∙ append_assoc c.args.out.now.items (escapes c.args.mark (take c.loop-byte.byte-index c.args.text.now)) (escaped c.args.mark (get_or c.args.text.now c.loop-byte.byte-index 0))
    ∙ ap (λ (r : List ℕ). c.args.out.now.items ++ r) (sym (escapes_take c.args.mark c.loop-byte.byte-index c.args.text.now (omega arith)))
