-- Files that lie in memory.
use Rattle.std.specs.Prelude.{ℕ, Bool, List, [], Option, None, Some, option_map, slice_get, find, drop, bytes_eq, string_bytes}
use Rattle.std.specs.Option.{option_map_or}
use Rattle.gsql_io.specs.declared.files.NamedFile.{NamedFile}

-- The file has this name, byte by byte.
abbrev pub has_name : List ℕ → NamedFile → Bool
has_name name file = bytes_eq (string_bytes file.name) name

-- What the first file of that name holds, if there is one.
abbrev pub bytes_of : List NamedFile → List ℕ → Option (List ℕ)
bytes_of files name = option_map (λ file. file.bytes) (find (has_name name) files)

-- What the file at an index holds.
abbrev pub bytes_at : List NamedFile → ℕ → List ℕ
bytes_at files index = option_map_or (λ file. file.bytes) (slice_get files index) []

-- What lies from a place on in the file at an index, and nothing where no file is open.
abbrev pub unread : List NamedFile → Option ℕ → ℕ → List ℕ
unread files None place = []
unread files (Some index) place = drop place (bytes_at files index)
