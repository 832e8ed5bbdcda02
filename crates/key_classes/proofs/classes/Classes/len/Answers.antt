use Rattle.std.proofs.Common.{subst}
use Rattle.sql_types.specs.Parted.{Apart}
use Rattle.key_classes.proofs.IndexLaws.{apart_values}
use Rattle.key_classes.proofs.classes.Classes.len.Goals as goal

pub returns-clause-apart : goal.returns-clause-apart
returns-clause-apart c = subst Apart c.self.view_is (apart_values c.self.inside.keys.keys c.len.ensures.unique)
