-- What a run may report: its status, and what it writes.
use Rattle.std.specs.Prelude.{◌≡◌, ◌⊎◌, ℕ, Bool, true, List, [], ◌∷◌, ◌++◌, codes, decimal, Option, Some, None, Result, Ok, Err}
use Rattle.std.specs.Io.KnownBytes.{Appends}
use Rattle.gsql_io.specs.Outside.{Rose}
use Rattle.gsql_io.specs.Whole.{WritesPrefix}
use Rattle.sql_types.specs.declared.rows.Rows.{Rows}
use Rattle.sql_ast.specs.Rows.{RowsText}
use Rattle.gsql.specs.declared.stop.Stop.{Stop}
use Rattle.gsql.specs.declared.stop.Stop.TheVariants as stop
use Rattle.gsql.specs.declared.status.LimitName.{LimitName}
use Rattle.gsql.specs.declared.status.Status.{Status}
use Rattle.gsql.specs.declared.status.Status.TheVariants as status
use Rattle.gsql.specs.declared.status.UsageKind.TheVariants as usage
use Rattle.gsql.specs.Words.{asked}
use Rattle.gsql.specs.Limits.{name_of}
use Rattle.gsql.specs.Stages.{CatalogStage}

-- what the inputs hold, and what became of them in this call
pub record Inside : Type 0 where
  -- the bytes of each file, where they are told
  pub content : List ℕ → Option (List ℕ)
  -- the name that was begun last, and whether that file broke
  pub begun : Option (List ℕ)
  pub broken : Bool
  -- the count of faults before and after
  pub before : ℕ
  pub after : ℕ

-- what a sink held and holds, where that is told, and its count of faults before and after
pub record Outside : Type 0 where
  pub old : Option (List ℕ)
  pub new : Option (List ℕ)
  pub before : ℕ
  pub after : ℕ

-- ---- the lines

abbrev pub refused_line : ℕ → ℕ → List ℕ
refused_line rule place = codes "REFUSED " ++ decimal rule ++ codes " " ++ decimal place ++ 10 ∷ []

abbrev pub bad_table_line : ℕ → ℕ → ℕ → List ℕ
bad_table_line table row field = codes "BADTABLE " ++ decimal table ++ codes " " ++ decimal row ++ codes " " ++ decimal field ++ 10 ∷ []

abbrev pub usage_line : List ℕ
usage_line = codes "USAGE Words" ++ 10 ∷ []

abbrev pub limit_line : LimitName → List ℕ
limit_line name = codes "LIMIT " ++ name_of name ++ 10 ∷ []

abbrev pub read_fault_line : ℕ → List ℕ
read_fault_line file = codes "READFAULT " ++ decimal file ++ 10 ∷ []

-- ---- the report

-- the words ask for a catalog and a query, and the stages answer so
abbrev pub Staged : Option (List ℕ × List ℕ) → Inside → Result Rows Stop → Type 0
Staged None inside answer = ⊥
Staged (Some (catalog, query)) inside answer = CatalogStage catalog query inside.content inside.begun answer

-- The status, with the whole texts for standard output and standard error. The first refusal in the order of words,
-- catalog, query, table and evaluation decides.
abbrev pub Report : List (List ℕ) → Inside → Status → List ℕ → List ℕ → Type 0
-- the rows of the answer
Report words inside (status.Done tree) out err =
    (answer : Rows) × Staged (asked words) inside (Ok answer) × (tree ≡ []) × (out ≡ RowsText answer.columns answer.rows) × (err ≡ []) × (inside.after ≡ inside.before)
-- a query whose text the grammar gives no tree is rule 1 at its place; another form of catalog or query is rule 2
Report words inside (status.Refused rule place) out err =
    (((rule ≡ 1) × Staged (asked words) inside (Err (stop.Unread place))) ⊎ ((rule ≡ 2) × (place ≡ 0) × Staged (asked words) inside (Err stop.OtherForm)))
    × (out ≡ []) × (err ≡ refused_line rule place) × (inside.after ≡ inside.before)
-- a faulty cell of the table, which is number 0
Report words inside (status.BadTable table row field) out err =
    (table ≡ 0) × Staged (asked words) inside (Err (stop.BadTable row field)) × (out ≡ []) × (err ≡ bad_table_line table row field) × (inside.after ≡ inside.before)
-- a file or a text above a limit
Report words inside (status.Limit name) out err =
    Staged (asked words) inside (Err (stop.Limit name)) × (out ≡ []) × (err ≡ limit_line name) × (inside.after ≡ inside.before)
-- other words
Report words inside (status.Usage usage.Words) out err = (asked words ≡ None) × (out ≡ []) × (err ≡ usage_line) × (inside.after ≡ inside.before)
-- a file that can't be read: the count of faults rose, and this file is the one that broke
Report words inside (status.ReadFault file) out err =
    Staged (asked words) inside (Err (stop.ReadFault file)) × Rose inside.before inside.after × (inside.broken ≡ true) × (out ≡ []) × (err ≡ read_fault_line file)
-- a failed write isn't reported, but ends the writing of a report
Report words inside status.WriteFault out err = ⊥
-- want of memory, and nothing is written
Report words inside status.OutOfMemory out err = (out ≡ []) × (err ≡ [])

-- a whole text was written
abbrev pub Wrote : Outside → List ℕ → Type 0
Wrote sink text = Appends sink.old sink.new text × (sink.after ≡ sink.before)

-- a write failed, and a front of the text was written
abbrev pub Failed : Outside → List ℕ → Type 0
Failed sink text = WritesPrefix sink.old sink.new text × Rose sink.before sink.after

-- The report is written, standard output before standard error. After a failed write nothing more is written, and the
-- status is WriteFault whatever it would have been.
abbrev pub Ran : List (List ℕ) → Inside → Outside → Outside → Status → Type 0
Ran words inside output error status.WriteFault =
    (would : Status) × (out : List ℕ) × (err : List ℕ) × Report words inside would out err
    × ((Failed output out × Wrote error []) ⊎ (Wrote output out × Failed error err))
Ran words inside output error answer =
    (out : List ℕ) × (err : List ℕ) × Report words inside answer out err × Wrote output out × Wrote error err
