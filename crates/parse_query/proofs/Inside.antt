-- Where a token was read, one was left.
use Rattle.std.proofs.Common.{◌≡◌, ℕ, zero, suc, ◌<◌, Bool, List, [], ◌∷◌, length, drop, Result, Ok, Err, IfOk, arith}
use Rattle.fronts.specs.Readers.{taken, token}
use Rattle.sql_ast.specs.declared.token.Token.{Token}

pub some_left : (fits : Token → Bool) (ts : List Token) (n : ℕ) (t : Token) (rest : List Token) → token fits (drop n ts) ≡ taken t rest → n < length ts
unfolding token
some_left fits [] zero t rest e = absurd cc
some_left fits [] (suc n) t rest e = absurd cc
some_left fits (x ∷ ts) zero t rest e = omega arith
some_left fits (x ∷ ts) (suc n) t rest e = let h = some_left fits ts n t rest e in omega arith

pub anyway : {A E P : Type 0} (r : Result A E) → P → IfOk r (λ a. P)
anyway (Ok a) h = h
anyway (Err e) h = tt
