-- The loop that counts brackets.
use Rattle.std.proofs.Common.{◌≡◌, ℕ, zero, suc, ◌+◌, ◌≤◌, max, List, [], ◌∷◌, drop, Some, sym, ◌∙◌, ap, arith}
use Rattle.std.specs.Prelude.{slice_get}
use Rattle.sql_ast.specs.declared.token.Lexeme.{Lexeme}
use Rattle.sql_ast.specs.declared.token.Lexeme.TheVariants as lexeme
use Rattle.sql_ast.specs.declared.token.Token.{Token}
use Rattle.sql_names.specs.declared.words.Reserved.{Reserved}
use Rattle.sql_names.specs.declared.words.Reserved.TheVariants as word
use Rattle.sql_ast.specs.declared.words.Sign.{Sign}
use Rattle.sql_ast.specs.declared.words.Sign.TheVariants as sign
use Rattle.sql_ast.specs.Nest.{open_after_sign, open_after_word, open_after, nest_from}

sign_opens : (x : Sign) (n : ℕ) → open_after_sign x n ≤ n + 1
sign_opens sign.OpenRound n = omega arith
sign_opens sign.OpenSquare n = omega arith
sign_opens sign.CloseRound n = omega arith
sign_opens sign.CloseSquare n = omega arith
sign_opens _ n = omega arith

word_opens : (w : Reserved) (n : ℕ) → open_after_word w n ≤ n + 1
word_opens word.Case n = omega arith
word_opens word.End n = omega arith
word_opens _ n = omega arith

opens : (l : Lexeme) (n : ℕ) → open_after l n ≤ n + 1
opens (lexeme.Sign x) n = sign_opens x n
opens (lexeme.Reserved w) n = word_opens w n
opens _ n = omega arith

at_least : (n : ℕ) (tokens : List Token) → n ≤ nest_from n tokens
at_least n [] = omega arith
at_least n (t ∷ tokens) = omega arith

-- what was counted so far, and what is left to count
pub record Counting (tokens : List Token) (at open_now deepest : ℕ) : Type 0 where
  pub few : open_now ≤ at
  pub under : open_now ≤ deepest
  pub same : nest_from 0 tokens ≡ max deepest (nest_from open_now (drop at tokens))

pub begins : (tokens : List Token) → Counting tokens 0 0 0
begins tokens = record { few = omega arith; under = omega arith; same = omega arith }

cell : (at : ℕ) (tokens : List Token) (t : Token) → slice_get tokens at ≡ Some t → drop at tokens ≡ t ∷ drop (suc at) tokens
cell zero [] t e = absurd (cc)
cell zero (x ∷ tokens) t e = let f : x ≡ t = cc in ap (λ (y : Token). y ∷ tokens) f
cell (suc at) [] t e = absurd (cc)
cell (suc at) (x ∷ tokens) t e = cell at tokens t e

greatest : (a b n m x : ℕ) → n ≤ a → m ≤ x → b ≡ max a m → max a (max n x) ≡ max b x
greatest a b n m x h k e = omega arith

pub goes_on : (tokens : List Token) (at depth deepest : ℕ) → Counting tokens at depth deepest → (t : Token) → slice_get tokens at ≡ Some t
    → (next : ℕ) → next ≡ open_after t.lexeme depth → (most : ℕ) → most ≡ max deepest next → Counting tokens (at + 1) next most
goes_on tokens at depth deepest c t e next is most m =
    let few = c.few in
    let up = opens t.lexeme depth in
    let rest : drop at tokens ≡ t ∷ drop (at + 1) tokens = cell at tokens t e ∙ (let one : suc at ≡ at + 1 = omega arith in ap (λ n. t ∷ drop n tokens) one) in
    record {
      few = omega arith;
      under = omega arith;
      same = c.same ∙ ap (λ u. max deepest (nest_from depth u)) rest ∙ ap (λ n. max deepest (max depth (nest_from n (drop (at + 1) tokens)))) (sym is)
          ∙ greatest deepest most depth next (nest_from next (drop (at + 1) tokens)) c.under (at_least next (drop (at + 1) tokens)) m;
    }
