use Rattle.std.proofs.Common.{ap, ◌∙◌, List}
use Rattle.sql_types.specs.declared.value.Value.{Value}
use Rattle.key_classes.specs.Classes.{number_of}
use Rattle.key_classes.specs.Keys.{values_of}
use Rattle.key_classes.proofs.IndexLaws.{number-map}
use Rattle.key_classes.proofs.classes.Classes.find.Goals as goal

pub returns : goal.returns
returns c =
    c.get_index_of.ensures.index
    ∙ number-map c.self.inside.keys.keys (values_of c.args.key.now)
    ∙ ap (λ (z : List (List Value)). number_of z (values_of c.args.key.now)) c.self.view_is
