use Rattle.std.proofs.Common.{List, map, refl, ap, ◌∙◌}
use Rattle.sql_types.specs.declared.value.Value.{Value}
use Rattle.key_classes.specs.Classes.{with_key}
use Rattle.key_classes.specs.Keys.{values_of}
use Rattle.key_classes.proofs.IndexLaws.{with_key-map, inserted_number, apart_values}
use Rattle.key_classes.proofs.classes.Classes.add.Goals as goal

pub returns-in_err-number-clause-apart : goal.returns-in_err-number-clause-apart
returns-in_err-number-clause-apart c = apart_values c.insert_full.new.self.keys c.insert_full.ensures.unique

pub returns-clause-added : goal.returns-clause-added
returns-clause-added c =
    ap (map values_of) c.in_ok-number.ensures.keys ∙ with_key-map c.self.inside.keys.keys c.args.key
    ∙ ap (λ (z : List (List Value)). with_key z (values_of c.args.key)) c.self.view_is

pub returns-clause-number : goal.returns-clause-number
returns-clause-number c =
    inserted_number c.self.inside.keys.keys c.insert_full.new.self.keys c.args.key (map values_of c.insert_full.new.self.keys) c.in_ok-number.number
    c.in_ok-number.ensures.keys c.in_ok-number.ensures.index refl

pub returns-clause-apart : goal.returns-clause-apart
returns-clause-apart c = apart_values c.insert_full.new.self.keys c.insert_full.ensures.unique
