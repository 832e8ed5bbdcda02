-- ASCII is UTF-8.
use Rattle.std.proofs.Common.{◌≡◌, ℕ, ◌<◌, Bool, true, List, [], ◌∷◌, subst, arith}
use Rattle.std.proofs.lemmas.Bool.{and_parts}
use Rattle.std.proofs.lemmas.Bool.Decides.{nat_tests}
use Rattle.std.proofs.lemmas.Str.{IsUtf8-append, IsUtf8-nil, IsUtf8-encode, encode_ascii}
use Rattle.std.specs.Prelude.{nat_lt, IsUtf8}
use Rattle.std.specs.Char.{IsScalar}
use Rattle.std.specs.List.{list_all}

abbrev pub is_ascii : ℕ → Bool
is_ascii b = nat_lt b 128

scalar_ascii : (b : ℕ) → b < 128 → IsScalar b
scalar_ascii b h = grind (arith, nat_tests)

low : (b : ℕ) → is_ascii b ≡ true → b < 128
low b h = grind (arith, nat_tests)

pub ascii_byte : (b : ℕ) → b < 128 → IsUtf8 (b ∷ [])
ascii_byte b h = subst IsUtf8 (encode_ascii b h) (IsUtf8-encode b (scalar_ascii b h))

pub ascii_text : (bs : List ℕ) → list_all is_ascii bs ≡ true → IsUtf8 bs
ascii_text [] h = IsUtf8-nil
ascii_text (b ∷ bs) h = let f = and_parts (is_ascii b) (list_all is_ascii bs) h in IsUtf8-append (b ∷ []) bs (ascii_byte b (low b f.0)) (ascii_text bs f.1)
