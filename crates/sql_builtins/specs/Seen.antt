-- A row of the code's table as the signature that it is.
use Rattle.sql_builtins.specs.declared.table.Row.{Row}
use Rattle.sql_builtins.specs.Table.{Signature}

abbrev pub seen : Row → Signature
seen row = record { sig = row.sig; name = row.name.now; takes = row.takes.now; repeats = row.repeats; needs = row.needs; gives = row.gives }
