use Rattle.std.proofs.Common.{◌≡◌, Bool, true, false, ◌++◌, ◌∷◌, [], ap, sym, subst, ◌∙◌}
use Rattle.std.proofs.lemmas.Result.{err_from_is_err_and}
use Rattle.std.specs.List.{list_any}
use Rattle.sql_catalog.specs.Slots.{same_slot, goes_by, held, AllHeld}
use Rattle.sql_catalog.proofs.SlotLaws.{list_any-held, held-push, AllHeld-push, insert_key-new, false_from_added, true_from_refused}
use Rattle.sql_catalog.proofs.by_name.ByName.add.Goals as goal

pub returns-in_err-added-clause-answer : goal.returns-in_err-added-clause-answer
returns-in_err-added-clause-answer g c =
    let p = err_from_is_err_and c.from_residual.result c.from_residual.ensures.1 in
    let there = list_any-held _ c.self.inside.slots.keys c.self.invariant
    ∙ ap (list_any (goes_by g.T.Called.called g.T.Called.sort (g.T.Called.called c.args.entry) (g.T.Called.sort c.args.entry))) c.self.view_is in
    rw (p.1, p.2) (sym there ∙ c.in_err-added.ensures.absent)

pub returns-then-not-added-clause-answer : goal.returns-then-not-added-clause-answer
returns-then-not-added-clause-answer g c =
    let there = list_any-held _ c.self.inside.slots.keys c.self.invariant
    ∙ ap (list_any (goes_by g.T.Called.called g.T.Called.sort (g.T.Called.called c.args.entry) (g.T.Called.sort c.args.entry))) c.self.view_is in
    sym there ∙ true_from_refused _ (sym c.if-not-added.true ∙ c.in_ok-added.ensures.added)

pub invariant_of-self-2 : goal.invariant_of-self-2
invariant_of-self-2 g c =
    let absent = false_from_added _ (sym c.if-not-added.false ∙ c.in_ok-added.ensures.added) in
    subst AllHeld (sym (c.in_ok-added.ensures.keys ∙ insert_key-new (same_slot g.T.Called.called g.T.Called.sort) c.self.inside.slots.keys c.args.entry absent))
    (AllHeld-push c.self.inside.slots.keys c.args.entry c.self.invariant)

pub returns-clause-answer : goal.returns-clause-answer
returns-clause-answer g c =
    let there = list_any-held _ c.self.inside.slots.keys c.self.invariant
    ∙ ap (list_any (goes_by g.T.Called.called g.T.Called.sort (g.T.Called.called c.args.entry) (g.T.Called.sort c.args.entry))) c.self.view_is in
    sym there ∙ false_from_added _ (sym c.if-not-added.false ∙ c.in_ok-added.ensures.added)

pub returns-clause-added : goal.returns-clause-added
returns-clause-added g c =
    let absent = false_from_added _ (sym c.if-not-added.false ∙ c.in_ok-added.ensures.added) in
    ap held (c.in_ok-added.ensures.keys ∙ insert_key-new (same_slot g.T.Called.called g.T.Called.sort) c.self.inside.slots.keys c.args.entry absent)
    ∙ held-push c.self.inside.slots.keys c.args.entry
    ∙ ap (λ entries. entries ++ c.args.entry ∷ []) c.self.view_is
