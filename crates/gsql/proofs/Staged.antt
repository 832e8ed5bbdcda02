-- What the stages answer, and how it is told.
use Rattle.std.proofs.Common.{◌≡◌, ◌≢◌, ℕ, ◌≤◌, List, [], length, Option, None, Some, Result, Ok, Err, IfOk, ap, ◌∙◌, subst, sym, refl, inl, inr}
use Rattle.sql_types.specs.declared.sql_type.Named.{Named}
use Rattle.sql_types.specs.declared.sql_type.SqlType.{SqlType}
use Rattle.sql_types.specs.declared.rows.Rows.{Rows}
use Rattle.sql_ast.specs.declared.query.Query.{Query}
use Rattle.sql_catalog.specs.declared.entries.TableDef.{TableDef}
use Rattle.sql_rules.specs.Typing.{TypeQuery, nothing_in_sight}
use Rattle.small_run.specs.Plans.{one}
use Rattle.gsql_io.specs.Whole.{IsWholeOf}
use Rattle.gsql.specs.declared.status.LimitName.{LimitName}
use Rattle.gsql.specs.declared.stop.Stop.{Stop}
use Rattle.gsql.specs.declared.stop.Stop.TheVariants.{Unread, OtherForm, BadTable, Limit, ReadFault, OutOfMemory}
use Rattle.gsql.specs.declared.status.Status.{Status}
use Rattle.gsql.specs.declared.status.Status.TheVariants as status
use Rattle.gsql.specs.Counted.{Counted}
use Rattle.gsql.specs.Report.{Inside, Outside, Report, Staged, Wrote, Ran}
use Rattle.gsql.specs.Stages.{CatalogStage, OnTold, Stage}
use Rattle.gsql.specs.Told.{Tells}
use Rattle.gsql.specs.Words.{asked}

-- a report that was written whole
pub ran : (words : List (List ℕ)) (inside : Inside) (output error : Outside) (printed answer : Status) (out err : List ℕ) → answer ≡ printed → Report words inside printed out err → Wrote output out → Wrote error err →
    Ran words inside output error answer
ran words inside output error printed answer out err same report first second = subst (λ s. Ran words inside output error s) (sym same) (whole printed report)
  where
    whole : (s : Status) → Report words inside s out err → Ran words inside output error s
    whole (status.Done tree) r = (out, err, r, first, second)
    whole (status.Refused rule place) r = (out, err, r, first, second)
    whole (status.Usage kind) r = (out, err, r, first, second)
    whole (status.BadTable table row field) r = (out, err, r, first, second)
    whole (status.Limit name) r = (out, err, r, first, second)
    whole (status.ReadFault file) r = (out, err, r, first, second)
    whole status.WriteFault r = absurd r
    whole status.OutOfMemory r = (out, err, r, first, second)

-- an answer that is this refusal
abbrev pub refuses : (A : Type 0) {E : Type 0} → E → Result A E
refuses A e = Err e

-- a query that typing refuses has no type
pub untyped : (table : TableDef) (query : Query) (broken : ℕ × ℕ) → TypeQuery (one table) query nothing_in_sight ≡ Err broken → (columns : List (Named SqlType)) → TypeQuery (one table) query nothing_in_sight ≢ Ok columns
untyped table query broken refused columns typed = apart (sym typed ∙ refused)
  where
    apart : {columns : List (Named SqlType)} {broken : ℕ × ℕ} → Ok columns ≡ Err broken → ⊥
    apart e = cc

-- the stages answer so, and their report is told
pub reported : (words : List (List ℕ)) (inside : Inside) (catalog query : List ℕ) (answer : Result Rows Stop) → asked words ≡ Some (catalog, query) →
    CatalogStage catalog query inside.content inside.begun answer → Counted inside.before inside.after inside.broken answer →
    (ending : Status) (out err : List ℕ) → Tells answer ending out err → Report words inside ending out err
reported words inside catalog query answer asks stage counted ending out err tells =
    subst (λ e. Report words inside e out err) (sym (ending_of answer tells)) (told answer (subst (λ a. Staged a inside answer) (sym asks) stage) counted tells)
  where
    status_of : Result Rows Stop → Status
    status_of (Ok rows) = status.Done []
    status_of (Err (Unread place)) = status.Refused 1 place
    status_of (Err OtherForm) = status.Refused 2 0
    status_of (Err (BadTable row field)) = status.BadTable 0 row field
    status_of (Err (Limit name)) = status.Limit name
    status_of (Err (ReadFault file)) = status.ReadFault file
    status_of (Err OutOfMemory) = status.OutOfMemory

    ending_of : (r : Result Rows Stop) → Tells r ending out err → ending ≡ status_of r
    ending_of (Ok rows) t = t.0
    ending_of (Err (Unread place)) t = t.0
    ending_of (Err OtherForm) t = t.0
    ending_of (Err (BadTable row field)) t = t.0
    ending_of (Err (Limit name)) t = t.0
    ending_of (Err (ReadFault file)) t = t.0
    ending_of (Err OutOfMemory) t = t.0

    told : (r : Result Rows Stop) → Staged (asked words) inside r → Counted inside.before inside.after inside.broken r → Tells r ending out err → Report words inside (status_of r) out err
    told (Ok rows) s n t = (rows, s, refl, t.1, t.2, n)
    told (Err (Unread place)) s n t = (inl (refl, s), t.1, t.2, n)
    told (Err OtherForm) s n t = (inr (refl, refl, s), t.1, t.2, n)
    told (Err (BadTable row field)) s n t = (refl, s, t.1, t.2, n)
    told (Err (Limit name)) s n t = (s, t.1, t.2, n)
    told (Err (ReadFault file)) s n t = (s, n.0, n.1, t.1, t.2)
    told (Err OutOfMemory) s n t = (t.1, t.2)

pub if_ok : {A E : Type 0} {P Q : A → Type 0} (r : Result A E) → ((a : A) → P a → Q a) → IfOk r P → IfOk r Q
if_ok (Ok a) more held = more a held
if_ok (Err e) more held = held

-- what is said of these bytes is said of the file whose whole content they are
pub on_told : (content : Option (List ℕ)) (bytes : List ℕ) → IsWholeOf content bytes → (P : List ℕ → Type 0) → P bytes → OnTold content P
on_told None bytes whole P held = (bytes, held)
on_told (Some content) bytes whole P held = subst P whole held

-- a file that was read within its limit is answered by what its bytes say
pub staged : (limit : ℕ) (limited : LimitName) (file : ℕ) (name : List ℕ) (content : List ℕ → Option (List ℕ)) (begun : Option (List ℕ)) (Said : List ℕ → Result Rows Stop → Type 0)
    (bytes : List ℕ) → IsWholeOf (content name) bytes → length bytes ≤ limit → (answer : Result Rows Stop) → Said bytes answer → Stage limit limited file name content begun Said answer
staged limit limited file name content begun Said bytes whole within (Ok rows) said = on_told (content name) bytes whole (λ b. (length b ≤ limit) × Said b (Ok rows)) (within, said)
staged limit limited file name content begun Said bytes whole within (Err (Unread place)) said = on_told (content name) bytes whole (λ b. (length b ≤ limit) × Said b (Err (Unread place))) (within, said)
staged limit limited file name content begun Said bytes whole within (Err OtherForm) said = on_told (content name) bytes whole (λ b. (length b ≤ limit) × Said b (Err OtherForm)) (within, said)
staged limit limited file name content begun Said bytes whole within (Err (BadTable row field)) said = on_told (content name) bytes whole (λ b. (length b ≤ limit) × Said b (Err (BadTable row field))) (within, said)
staged limit limited file name content begun Said bytes whole within (Err (Limit exceeded)) said = inr (on_told (content name) bytes whole (λ b. (length b ≤ limit) × Said b (Err (Limit exceeded))) (within, said))
staged limit limited file name content begun Said bytes whole within (Err (ReadFault faulty)) said = inr (on_told (content name) bytes whole (λ b. (length b ≤ limit) × Said b (Err (ReadFault faulty))) (within, said))
staged limit limited file name content begun Said bytes whole within (Err OutOfMemory) said = tt
