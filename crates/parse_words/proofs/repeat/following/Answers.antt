use Rattle.std.proofs.Common.{◌≡◌, ◌<◌, [], ◌∷◌, ◌++◌, Ok, Err, Option, Some, None, refl, sym, ◌∙◌, ap, arith, rules}
use Rattle.std.proofs.lemmas.Grind.{common_steps}
use Rattle.std.proofs.lemmas.Result.{err_from_is_err_and}
use Rattle.parse_words.proofs.Loops.{follow_begin, follow_on, follow_end, following_refused}
use Rattle.parse_words.proofs.repeat.following.Goals as goal

pub items-init : goal.items-init
items-init g c = record { moved = omega arith; going = λ reader h. follow_begin c.args.tokens.now.list reader c.args.found c.args.next c.args.at }

pub items-preserved : goal.items-preserved
items-preserved g c =
    let up = c.requires.moves c.items.at c.in-Some.begun (Ok ((c.in_ok-part.part, c.in_ok-part.read), c.in_ok-part.behind)) c.in_ok-part.ensures in
    record {
      moved = omega (arith, up.0);
      going = λ reader h. follow_on c.args.tokens.now.list reader _ c.items.found c.items.next c.items.at (c.items.invariant.going reader h) c.in-Some.begun c.in-Some.is up.1
          c.in_ok-part.part c.in_ok-part.read c.in_ok-part.behind up.0 (h c.items.at c.in-Some.begun (Ok ((c.in_ok-part.part, c.in_ok-part.read), c.in_ok-part.behind)) c.in_ok-part.ensures) _ (c.in_ok-push.ensures.ok ∙ ap (λ (x : _). c.items.found ++ x ∷ []) c.into_inner.ensures);
    }

pub returns-in_err-part-clause-reads : goal.returns-in_err-part-clause-reads
returns-in_err-part-clause-reads g c = λ reader h.
    let w = following_refused c.args.tokens.now reader _ c.items.found c.items.next c.items.at (c.items.invariant.going reader h) c.in-Some.begun c.in-Some.is c.in_err-part.field-0.0
    (h c.items.at c.in-Some.begun (Err c.in_err-part.field-0.0) c.in_err-part.ensures) in
    let p = err_from_is_err_and c.from_residual.result c.from_residual.ensures.1 in
    first_of (search (rules, w), grind (arith, common_steps, w))

pub returns-clause-reads : goal.returns-clause-reads
returns-clause-reads g c = λ reader h. follow_end c.args.tokens.now.list reader _ c.items.found c.items.next c.items.at (c.items.invariant.going reader h) (by c.items.next (λ x e. c.in_default.not-Some x e))
  where
    by : {A : Type 0} (o : Option A) → ((x : A) → o ≡ Some x → ⊥) → o ≡ None
    by None f = refl
    by (Some x) f = absurd (f x refl)
