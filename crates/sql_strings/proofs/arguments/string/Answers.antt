use Rattle.std.proofs.Common.{◌∙◌, ap, sym}
use Rattle.std.proofs.lemmas.Str.{encodes-chars}
use Rattle.sql_types.specs.declared.value.Value.TheVariants as value
use Rattle.sql_strings.proofs.arguments.string.Goals as goal

pub returns : goal.returns
returns c = ap value.Text (c.in_ok-copy_of.ensures ∙ sym (encodes-chars c.args.text.now c.utf8.text))
