-- Which bytes are a text.
use Rattle.std.proofs.Common.{◌≡◌, ℕ, Bool, true, false, List, Some, None, if◌then◌else◌, refl}
use Rattle.std.proofs.lemmas.Str.{is_utf8-from_IsUtf8, IsUtf8-from_is_utf8}
use Rattle.std.specs.Str.{is_utf8, IsUtf8}
use Rattle.csv_tables.specs.Cells.{text_of, text_bytes}

pub text_of-text : (cell text : List ℕ) → text ≡ text_bytes cell → IsUtf8 text → text_of cell ≡ Some text
text_of-text cell text is utf8 =
    let test : is_utf8 (text_bytes cell) ≡ true = rw (← is) (is_utf8-from_IsUtf8 text utf8) in
    rw (test, is) refl

by-test : (bytes : List ℕ) (b : Bool) → is_utf8 bytes ≡ b → ¬ IsUtf8 bytes → (if b then Some bytes else None) ≡ None
by-test bytes true test none = absurd (none (IsUtf8-from_is_utf8 bytes test))
by-test bytes false test none = refl

pub text_of-none : (cell text : List ℕ) → text ≡ text_bytes cell → ¬ IsUtf8 text → text_of cell ≡ None
text_of-none cell text is none = by-test (text_bytes cell) (is_utf8 (text_bytes cell)) refl (rw is at none)
