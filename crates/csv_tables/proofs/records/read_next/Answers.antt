use Rattle.csv.specs.Records.{fields_of}
use Rattle.csv_tables.specs.Records.{IsReading}
use Rattle.csv_tables.proofs.RecordLaws.{next-is}
use Rattle.csv_tables.proofs.records.read_next.Goals as goal

pub returns : goal.returns
unfolding IsReading
returns c =
    let reading = c.requires in
    next-is c.in-Ok.found c.args.reader.now c.read_byte_record.new.self (fields_of c.read_byte_record.new.row) reading
    (c.in-Ok.ensures.ready reading.0) (c.in-Ok.ensures.reads reading.0 reading.1)
