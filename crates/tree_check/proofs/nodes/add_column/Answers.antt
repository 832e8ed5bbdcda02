-- One column more.
use Rattle.std.proofs.Common.{[], ◌∷◌, ap, ◌∙◌}
use Rattle.tree_check.specs.declared.sight.Source.TheVariants as source
use Rattle.tree_check.specs.Sights.{columns_of}
use Rattle.tree_check.proofs.SightLaws.{columns_append}
use Rattle.tree_check.proofs.nodes.add_column.Goals as goal

pub returns : goal.returns
returns c = ap columns_of c.in_ok-push.ensures.items ∙ columns_append c.args.columns.now.items (source.Column c.args.column ∷ [])
