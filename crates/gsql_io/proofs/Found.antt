-- Files that are found by their names.
use Rattle.std.proofs.Common.{◌≡◌, ℕ, inl, inr, List, Some, None, position, MatchOption, refl}
use Rattle.std.proofs.lemmas.List.Folds.{find_at}
use Rattle.std.proofs.lemmas.Option.{slice_get_cases}
use Rattle.std.proofs.lemmas.Bool.{le-ltb, lt-ltb}
use Rattle.std.specs.List.{position_or_len}
use Rattle.gsql_io.specs.Files.{has_name, bytes_of, bytes_at}
use Rattle.gsql_io.specs.declared.files.NamedFile.{NamedFile}

-- the index of the first file of a name says what the file of that name holds
pub position-bytes_of : (name : List ℕ) (files : List NamedFile)
    → MatchOption (position (has_name name) files) (bytes_of files name ≡ None) (λ index. bytes_of files name ≡ Some (bytes_at files index))
position-bytes_of name files = rw find_at (elim (slice_get_cases files (position_or_len (has_name name) files)).1 [
  | inl here ↦ rw (lt-ltb _ _ here.1, here.2) refl
  | inr past ↦ rw (le-ltb _ _ past.0, past.1) refl
])
