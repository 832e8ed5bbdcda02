use Rattle.std.proofs.Common.{◌<◌, Ok, Err, Option, None, Some, refl, sym, ◌∙◌, ap, arith, rules}
use Rattle.std.proofs.lemmas.Grind.{common_steps}
use Rattle.std.proofs.lemmas.Result.{err_from_is_err_and}
use Rattle.fronts.specs.Readers.{taken}
use Rattle.parse_words.specs.Marked.{marked}
use Rattle.parse_words.specs.Reads.{from}
use Rattle.parse_words.proofs.Loops.{end_begin, end_on, end_by, end_end, ending_refused}
use Rattle.parse_words.proofs.repeat.until.Goals as goal

pub items-init : goal.items-init
items-init g c = record { moved = omega arith; stays = λ e. refl; going = λ reader h. end_begin c.args.tokens.now.list (marked c.args.mark) reader c.args.found c.args.at }

pub items-preserved : goal.items-preserved
items-preserved g c =
    let up : c.items.at < c.in_ok-next.behind = c.requires.moves c.items.at (Ok ((c.in_ok-next.next, c.in_ok-next.end), c.in_ok-next.behind)) c.in_ok-next.ensures in
    record {
      moved = omega arith;
      stays = λ e. absurd (omega arith);
      going = λ reader h. end_on c.args.tokens.now.list (marked c.args.mark) reader _ c.items.found c.items.at (c.items.invariant.going reader h) (sym c.sees.ensures ∙ c.items-test.true)
          c.in_ok-next.next c.in_ok-next.behind up (h c.items.at (Ok ((c.in_ok-next.next, c.in_ok-next.end), c.in_ok-next.behind)) c.in_ok-next.ensures ∙ ap (λ (o : Option _). taken (c.in_ok-next.next, o) (from c.args.tokens.now c.in_ok-next.behind)) c.in-None.is) _ c.in_ok-append.ensures;
    }

pub returns-in_err-next-clause-reads : goal.returns-in_err-next-clause-reads
returns-in_err-next-clause-reads g c = λ reader h.
    let w = ending_refused c.args.tokens.now (marked c.args.mark) reader _ c.items.found c.items.at (c.items.invariant.going reader h) (sym c.sees.ensures ∙ c.items-test.true) c.in_err-next.field-0.0
    (h c.items.at (Err c.in_err-next.field-0.0) c.in_err-next.ensures) in
    let p = err_from_is_err_and c.from_residual.result c.from_residual.ensures.1 in
    first_of (search (rules, w), grind (arith, common_steps, w))

pub returns-in-Some-clause-reads : goal.returns-in-Some-clause-reads
returns-in-Some-clause-reads g c = λ reader h. end_by c.args.tokens.now.list (marked c.args.mark) reader _ c.items.found c.items.at (c.items.invariant.going reader h) (sym c.sees.ensures ∙ c.items-test.true)
    c.in_ok-next.next c.in-Some.end c.in_ok-next.behind (h c.items.at (Ok ((c.in_ok-next.next, c.in_ok-next.end), c.in_ok-next.behind)) c.in_ok-next.ensures ∙ ap (λ (o : Option _). taken (c.in_ok-next.next, o) (from c.args.tokens.now c.in_ok-next.behind)) c.in-Some.is) _ c.in_ok-append.ensures

pub returns-clause-reads : goal.returns-clause-reads
returns-clause-reads g c = λ reader h. end_end c.args.tokens.now.list (marked c.args.mark) reader _ c.items.found c.items.at (c.items.invariant.going reader h) (sym c.sees.ensures ∙ c.items-test.false)
