use Rattle.sql_strings.proofs.ValueLaws.{null-bytes}
use Rattle.sql_builtins.proofs.liked.bytes_of.Goals as goal

pub returns-in_default : goal.returns-in_default
returns-in_default c = null-bytes c.args.value.now c.requires c.in_default.not-Bytes
