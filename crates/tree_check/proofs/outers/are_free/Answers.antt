-- The numbers that the scan makes are known, and those that it uses are gone through.
use Rattle.std.proofs.Common.{◌≡◌, ℕ, ◌||◌, List, ap, ◌∙◌, subst}
use Rattle.std.specs.Prelude.{IfOk}
use Rattle.resolved_ast.specs.Columns.{among, firsts, free, makes, uses}
use Rattle.resolved_ast.specs.Flaws.{same_numbers}
use Rattle.tree_check.proofs.GatherLevels.{numbers_used, numbers_made}
use Rattle.tree_check.proofs.OuterLaws.{firsts_same}
use Rattle.tree_check.proofs.outers.are_free.Goals as goal

pub returns : goal.returns
returns c =
    let known = c.know.new.known in
    let used = c.as_slice-used.ensures.value ∙ c.in_ok-uses.ensures ∙ numbers_used c.args.scan.now in
    let made = c.as_slice-made.ensures.value ∙ c.in_ok-makes.ensures ∙ numbers_made c.args.scan.now in
    let e : firsts known c.as_slice-used.result.now ≡ free c.args.scan.now =
    ap (firsts known) used
    ∙ firsts_same (uses c.args.scan.now) known (makes c.args.scan.now)
    (λ n. c.in_ok-know.ensures n ∙ ap (λ ns. among n ns || among n c.as_slice-made.result.now) c.new-without.ensures ∙ ap (among n) made) in
    subst (λ (ns : List ℕ). IfOk c.are_firsts.result (λ same. same ≡ same_numbers c.args.list.now ns)) e c.are_firsts.ensures
