use Rattle.std.proofs.Common.{◌≡◌, ◌∙◌, Some, refl, inr}
use Rattle.csv.specs.Reading.{strip_bom}
use Rattle.csv_tables.specs.Records.{IsReading, records_left, source}
use Rattle.csv_tables.proofs.records.open_records.Goals as goal

pub returns-clause-reading : goal.returns-clause-reading
unfolding IsReading
returns-clause-reading c =
    let made = c.from_reader.ensures in
    let known : source c.from_reader.result ≡ Some (strip_bom c.args.bytes.now) = made.source in
    let flexible = c.flexible.ensures in
    let headers = c.has_headers.ensures in (
      rw (flexible, headers) at made.trim ∙ c.new.ensures.trim,
      inr (inr (rw (flexible, headers) at made.has_headers, made.headers)),
      rw (flexible, headers) at made.config ∙ c.new.ensures.config,
      rw known refl,
    )

pub returns-clause-left : goal.returns-clause-left
unfolding records_left
returns-clause-left c =
    let known : source c.from_reader.result ≡ Some (strip_bom c.args.bytes.now) = c.from_reader.ensures.source in
    rw (known, c.from_reader.ensures.state) refl
