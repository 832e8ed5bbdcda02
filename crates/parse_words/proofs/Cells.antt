-- The tokens at the places of a text.
use Rattle.std.proofs.Common.{◌≡◌, ℕ, ◌+◌, ◌≤◌, List, [], ◌∷◌, length, drop, Some, sym}
use Rattle.std.specs.List.{slice_get}
use Rattle.std.proofs.lemmas.Option.{slice_get_within, get_or_from_slice_get}
use Rattle.sql_ast.specs.declared.token.Token.{Token}
use Rattle.fronts.proofs.Places as places

pub cell : (ts : List Token) (at : ℕ) (t : Token) → slice_get ts at ≡ Some t → drop at ts ≡ t ∷ drop (at + 1) ts
cell ts at t e = places.cell at ts t t (slice_get_within ts at t e) (sym (get_or_from_slice_get ts at t t e))
