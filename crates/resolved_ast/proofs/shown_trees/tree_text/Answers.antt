-- The tree is its line and its scan.
use Rattle.std.proofs.Common.{[], ◌∷◌, codes, sym, ap, ◌∙◌}
use Rattle.resolved_ast.specs.Pages.{Page, blank, written, below}
use Rattle.resolved_ast.specs.TreeText.{line, output_text, list_text, ScanText, TreeText}
use Rattle.resolved_ast.proofs.PageLaws.{wrote_node, blank_text}
use Rattle.resolved_ast.proofs.shown_trees.tree_text.Goals as goal

pub returns : goal.returns
returns c =
    let outputs = list_text output_text c.args.tree.now.outputs in
    let scan = ScanText c.args.tree.now.scan in
    c.finish.ensures
    ∙ ap (λ (p : Page). p.text)
    (c.in_ok-show_below.ensures
    ∙ ap (λ q. below q scan) (c.in_ok-output_line.ensures ∙ ap (λ (q : Page). written q (line (codes "Output") (outputs ∷ []) q.margin)) c.new-page.ensures)
    ∙ sym (wrote_node blank (codes "Output") (outputs ∷ []) (scan ∷ [])))
    ∙ blank_text (TreeText c.args.tree.now)
