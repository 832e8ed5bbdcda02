-- The report of an answer.
use Rattle.std.specs.Prelude.{◌≡◌, ℕ, List, [], Result, Ok, Err}
use Rattle.sql_types.specs.declared.rows.Rows.{Rows}
use Rattle.sql_ast.specs.Rows.{RowsText}
use Rattle.gsql.specs.declared.stop.Stop.{Stop}
use Rattle.gsql.specs.declared.stop.Stop.TheVariants as stop
use Rattle.gsql.specs.declared.status.Status.{Status}
use Rattle.gsql.specs.declared.status.Status.TheVariants as status
use Rattle.gsql.specs.Report.{bad_table_line, refused_line, limit_line, read_fault_line}

-- the status and the texts that tell what the stages answered
abbrev pub Tells : Result Rows Stop → Status → List ℕ → List ℕ → Type 0
Tells (Ok answer) ending out err = (ending ≡ status.Done []) × (out ≡ RowsText answer.columns answer.rows) × (err ≡ [])
Tells (Err (stop.Unread place)) ending out err = (ending ≡ status.Refused 1 place) × (out ≡ []) × (err ≡ refused_line 1 place)
Tells (Err stop.OtherForm) ending out err = (ending ≡ status.Refused 2 0) × (out ≡ []) × (err ≡ refused_line 2 0)
Tells (Err (stop.BadTable row field)) ending out err = (ending ≡ status.BadTable 0 row field) × (out ≡ []) × (err ≡ bad_table_line 0 row field)
Tells (Err (stop.Limit name)) ending out err = (ending ≡ status.Limit name) × (out ≡ []) × (err ≡ limit_line name)
Tells (Err (stop.ReadFault file)) ending out err = (ending ≡ status.ReadFault file) × (out ≡ []) × (err ≡ read_fault_line file)
Tells (Err stop.OutOfMemory) ending out err = (ending ≡ status.OutOfMemory) × (out ≡ []) × (err ≡ [])
