-- The records of a table file, and those that a reader has still to give.
use Rattle.std.specs.Prelude.{◌≡◌, ℕ, ◌+◌, Bool, true, false, List, [], ◌∷◌, length, Option, Some, None, IsSome}
use Rattle.std.specs.Borrow.{Bor}
use Rattle.csv.specs.Reading.{records, records_from, source_of, strip_bom, default_config, Ready, reader_trim, reader_config, reader_state}
use Rattle.csv.specs.declared.parser.State.{State}
use Rattle.csv.specs.declared.reader.Reader.{Reader}
use Rattle.csv.specs.declared.reader.Trim.TheVariants as trim

-- each record is its fields, and each field its bytes; a UTF-8 mark at the start is no part of the first field
abbrev pub records_of : List ℕ → List (List (List ℕ))
records_of bytes = records default_config (strip_bom bytes)

-- the bytes that a reader has still to read
abbrev pub source : Reader (Bor (List ℕ)) → Option (List ℕ)
source reader = source_of (λ (s : Bor (List ℕ)). Some s.now) reader

abbrev pub records_from_source : State → Option (List ℕ) → List (List (List ℕ))
records_from_source state None = []
records_from_source state (Some bytes) = records_from default_config (length bytes + 1) state bytes

-- the records that a reader has still to give
unfoldable pub records_left : Reader (Bor (List ℕ)) → List (List (List ℕ))
records_left reader = records_from_source (reader_state reader) (source reader)

-- a reader with the default settings, which has not failed
unfoldable pub IsReading : Reader (Bor (List ℕ)) → Type 0
IsReading reader = (reader_trim reader ≡ trim.None) × Ready reader × (reader_config reader ≡ default_config) × IsSome (source reader)

-- the next record is the first of those that were left, and the reader goes on behind it; or none was left
abbrev pub IsNext : Bool → Reader (Bor (List ℕ)) → List (List ℕ) → Reader (Bor (List ℕ)) → Type 0
IsNext true before cells after = IsReading after × (records_left before ≡ cells ∷ records_left after)
IsNext false before cells after = records_left before ≡ []
