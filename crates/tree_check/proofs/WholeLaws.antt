-- What the walk of a whole tree says of its first flaw.
use Rattle.std.proofs.Common.{◌≡◌, [], ◌∷◌, Option, None, Some, Result, Ok, Err, ap, ◌∙◌, subst}
use Rattle.resolved_ast.specs.declared.flaw.Flaw.{Flaw}
use Rattle.resolved_ast.specs.declared.scan.Tree.{Tree}
use Rattle.resolved_ast.specs.Columns.{columns}
use Rattle.resolved_ast.specs.Flaws.{Before, Order, in_order, at_node, all_outputs, ScanWalk, no_sight, tree_walk, nothing_before}
use Rattle.tree_check.specs.declared.refusal.CheckRefusal.{CheckRefusal}
use Rattle.tree_check.specs.declared.refusal.CheckRefusal.TheVariants as refusal
use Rattle.tree_check.specs.Answered.{Passes, RefusedBy}
use Rattle.tree_check.specs.Walked.{Walked, Refused}

abbrev flaw_of : Result Before Flaw → Option Flaw
flaw_of answer = elim answer [ Ok after ↦ None | Err flaw ↦ Some flaw ]

refused_by : (tree : Tree) (e : CheckRefusal) → Refused (tree_walk tree nothing_before) e → RefusedBy tree e
refused_by tree (refusal.Flaw place kind) h = ap flaw_of h
refused_by tree refusal.OutOfMemory h = tt

passes_by : {A : Type 0} (tree : Tree) (after : Before) (r : Result A CheckRefusal) → Walked (tree_walk tree nothing_before) after r → Passes tree r
passes_by tree after (Ok x) h = ap flaw_of h
passes_by tree after (Err e) h = refused_by tree e h

pub passes_whole : {A : Type 0} (tree : Tree) (order : Order) (before after : Before) (r : Result A CheckRefusal) →
    order ≡ record in_order { seen = all_outputs tree.outputs (columns tree.scan) } → before ≡ nothing_before →
    Walked (at_node order [] (ScanWalk tree.scan no_sight ∷ []) before) after r → Passes tree r
passes_whole tree order before after r e f h =
    passes_by tree after r
    (subst (λ x. Walked x after r)
    (ap (λ o. at_node o [] (ScanWalk tree.scan no_sight ∷ []) before) e ∙ ap (at_node (record in_order { seen = all_outputs tree.outputs (columns tree.scan) }) [] (ScanWalk tree.scan no_sight ∷ [])) f) h)
