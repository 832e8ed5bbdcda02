-- What the inputs and the sink in memory tell.
use Rattle.std.specs.Prelude.{◌≡◌, ℕ, ◌<◌, ◌≤◌, ◌⊎◌, List, length, Bool, Option, None, Contains}
use Rattle.gsql_io.specs.declared.files.NamedFile.{NamedFile}
use Rattle.gsql_io.specs.Files.{bytes_of}

-- Inputs in memory.
pub record MemoryFiles : Type 0 where
  pub files : List NamedFile
  -- The numbers of the calls that fail.
  pub fail_at : List ℕ
  -- The number of the next call, which is how many calls of `begin` and `read` there were, up to the counter's last value.
  pub calls : ℕ
  -- The name that was handed to the last `begin`.
  pub begun : Option (List ℕ)
  -- The last `begin`, or a `read` after it, failed.
  pub broken : Bool
  -- What is unread of the file that was begun last.
  pub left : List ℕ
  -- How many calls failed, up to the counter's last value.
  pub faults : ℕ

-- A sink in memory.
pub record MemoryBytes : Type 0 where
  pub written : List ℕ
  -- For how many bytes there is room, with those that are written.
  pub room : ℕ
  -- The numbers of the calls that fail.
  pub fail_at : List ℕ
  -- The number of the next call, which is how many calls of `write` there were, up to the counter's last value.
  pub calls : ℕ
  -- How many calls failed, up to the counter's last value.
  pub faults : ℕ

-- `begin` fails at the numbers that were given, and for a name that no file has.
abbrev pub BeginFails : MemoryFiles → List ℕ → Type 0
BeginFails inputs name = Contains inputs.fail_at inputs.calls ⊎ (bytes_of inputs.files name ≡ None)

-- `write` fails at the numbers that were given, and for a piece that is not empty where no room is left.
abbrev pub WriteFails : MemoryBytes → List ℕ → Type 0
WriteFails sink piece = Contains sink.fail_at sink.calls ⊎ ((0 < length piece) × (sink.room ≤ length sink.written))
