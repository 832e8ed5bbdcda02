-- One number more is known already, or the list goes on with it.
use Rattle.std.proofs.Common.{ℕ, List, ap, sym, ◌∙◌}
use Rattle.std.proofs.lemmas.List.{drop_all}
use Rattle.resolved_ast.specs.Columns.{firsts}
use Rattle.resolved_ast.specs.Flaws.{same_numbers}
use Rattle.tree_check.proofs.OuterLaws.{none_listed}
use Rattle.tree_check.proofs.outers.are_firsts.Goals as goal

pub returns : goal.returns
returns c =
    let l = c.loop-number in
    c.is_empty.ensures ∙ none_listed l.rest.now
    ∙ ap (λ (ns : List ℕ). same_numbers l.rest.now (firsts l.known ns)) (sym (drop_all l.number-index c.args.numbers.now c.loop-number-test.false))
    ∙ l.invariant
