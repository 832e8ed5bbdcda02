-- Constants as texts: a text has one answer.
use Rattle.std.proofs.Common.{◌≡◌, ℕ, ◌<◌, ◌≤◌, Bool, true, false, cond, List, [], ◌∷◌, ◌++◌, length, drop, Option, Some, None, refl, sym, ◌∙◌, ap, subst, arith}
use Rattle.std.specs.Prelude.{nat_le, Result, Ok, Err, IfOk}
use Rattle.std.proofs.lemmas.List.{append-nil, drop_all, length-drop}
use Rattle.std.proofs.lemmas.Bool.Decides.{nat_tests}
use Rattle.fronts.specs.Readers.{Outcome, taken, stuck, deep}
use Rattle.sql_types.specs.declared.sql_type.SqlType.{SqlType}
use Rattle.sql_types.specs.declared.value.Value.{Value}
use Rattle.sql_ast.specs.declared.token.Token.{Token}
use Rattle.sql_ast.specs.Tokens.{TokensOf}
use Rattle.sql_ast.specs.Nest.{nest}
use Rattle.sql_lexer.proofs.Once.{some_answer, one_answer}
use Rattle.sql_constants.specs.Constants.{ConstantOf, ConstantText}
use Rattle.sql_constants.specs.Readers.{constant_at}
use Rattle.sql_constants.specs.Reads.{from, turns, Stuck, ConstantTokens}
use Rattle.sql_constants.specs.Values.{all_taken, tokens_value, answer_value, constant_value}
use Rattle.sql_constants.proofs.Complete.{complete}
use Rattle.sql_constants.proofs.Sound.{sound}

-- all the tokens of a constant are read
pub reads_all : (type : SqlType) (tokens : List Token) (x : Value) → ConstantOf type tokens x → constant_at (turns tokens) type tokens ≡ taken x []
reads_all type tokens x d = ap (constant_at (turns tokens) type) (sym (append-nil tokens)) ∙ complete (turns tokens) type tokens x d [] (omega arith)

-- tokens are a constant of one value
pub once : (type : SqlType) (tokens : List Token) (x y : Value) → ConstantOf type tokens x → ConstantOf type tokens y → x ≡ y
once type tokens x y d e = let f = reads_all type tokens x d in let g = reads_all type tokens y e in cc

-- what is read of all tokens is their constant
pub tokens_some : (type : SqlType) (tokens : List Token) (x : Value) (rest : List Token) → constant_at (turns tokens) type tokens ≡ taken x rest → rest ≡ [] → ConstantOf type tokens x
tokens_some type tokens x rest e none =
    let g = sound (turns tokens) type tokens x rest e in
    subst (λ (u : List Token). ConstantOf type u x) (sym (g.split ∙ ap (λ (z : List Token). g.used ++ z) none ∙ append-nil g.used)) g.constant

-- where something else is read, they are none
pub tokens_none : (type : SqlType) (tokens : List Token) (o : Outcome Token Value) → constant_at (turns tokens) type tokens ≡ o → ((x : Value) → o ≡ taken x [] → ⊥) → ConstantTokens type tokens None
tokens_none type tokens o e other = λ x le d. other x (sym e ∙ reads_all type tokens x d)

-- ---- beside code, which reads a slice of the tokens from its start

module _ (type : SqlType) (tokens slice : List Token) (same : slice ≡ tokens) where
  whole : (o : Outcome Token Value) → constant_at (turns slice) type (from slice 0) ≡ o → constant_at (turns tokens) type tokens ≡ o
  whole o e = ap (λ (ts : List Token). constant_at (turns ts) type ts) (sym same) ∙ e

  -- all tokens were read
  pub slice_read : nest tokens ≤ 200 → (x : Value) (next : ℕ) → constant_at (turns slice) type (from slice 0) ≡ taken x (from slice next) → length tokens ≤ next → ConstantTokens type tokens (Some x)
  slice_read le x next e past =
      let l : length slice ≡ length tokens = ap length same in
      (le, tokens_some type tokens x (from slice next) (whole (taken x (from slice next)) e) (drop_all next slice (omega arith)))

  some_left : (next : ℕ) → next < length tokens → from slice next ≡ [] → ⊥
  some_left next lt none =
      let l : length slice ≡ length tokens = ap length same in
      let d = length-drop next slice in
      let z : length (drop next slice) ≡ 0 = ap length none in
      absurd (omega arith)

  -- some are left
  pub slice_left : (x : Value) (next : ℕ) → constant_at (turns slice) type (from slice 0) ≡ taken x (from slice next) → next < length tokens → ConstantTokens type tokens None
  slice_left x next e lt = tokens_none type tokens (taken x (from slice next)) (whole (taken x (from slice next)) e) (λ y f. some_left next lt (let g : from slice next ≡ [] = cc in g))

  -- no constant was read
  pub slice_stuck : Stuck (constant_at (turns slice) type (from slice 0)) → ConstantTokens type tokens None
  slice_stuck h = tokens_none type tokens (stuck h.rest) (whole (stuck h.rest) h.is) (λ y f. cc)

-- ---- texts

same_tokens : (text : List ℕ) (a b : List Token) → TokensOf text (Ok a) → TokensOf text (Ok b) → a ≡ b
same_tokens text a b l m = let e = one_answer text (Ok a) (Ok b) l m in cc

pub text_constant : (type : SqlType) (text : List ℕ) (tokens : List Token) (found : Option Value) → TokensOf text (Ok tokens) → ConstantTokens type tokens found → ConstantText type text found
text_constant type text tokens (Some x) l d = (tokens, l, d.0, d.1)
text_constant type text tokens None l none = λ other x m le d.
    let e = same_tokens text other tokens m l in
    none x (subst (λ (u : List Token). nest u ≤ 200) e le) (subst (λ (u : List Token). ConstantOf type u x) e d)

-- the same of an answer, which want of memory may stand for
pub answer_constant : {E : Type 0} (type : SqlType) (text : List ℕ) (tokens : List Token) (r : Result (Option Value) E) → TokensOf text (Ok tokens) → IfOk r (λ found. ConstantTokens type tokens found)
    → IfOk r (λ found. ConstantText type text found)
answer_constant type text tokens (Ok found) l d = text_constant type text tokens found l d
answer_constant type text tokens (Err e) l d = d

pub text_fault : (type : SqlType) (text : List ℕ) (place : ℕ) → TokensOf text (Err place) → ConstantText type text None
text_fault type text place l = λ tokens x m le d. let e = one_answer text (Ok tokens) (Err place) m l in cc

-- a text has one answer
pub constant_once : (type : SqlType) (text : List ℕ) (a b : Option Value) → ConstantText type text a → ConstantText type text b → a ≡ b
constant_once type text (Some x) (Some y) (u, l, n, d) (w, m, k, e) =
    ap Some (once type u x y d (subst (λ (z : List Token). ConstantOf type z y) (same_tokens text w u m l) e))
constant_once type text (Some x) None (u, l, n, d) none = absurd (none u x l n d)
constant_once type text None (Some y) none (w, m, k, e) = absurd (none w y m k e)
constant_once type text None None a b = refl

-- ---- there is one

le_of : (n : ℕ) → nat_le n 200 ≡ true → n ≤ 200
le_of n e = grind (arith, nat_tests)

not_le : (n : ℕ) → nat_le n 200 ≡ false → n ≤ 200 → ⊥
not_le n e le = grind (arith, nat_tests)

by_outcome : (type : SqlType) (tokens : List Token) → nest tokens ≤ 200 → (o : Outcome Token Value) → constant_at (turns tokens) type tokens ≡ o → ConstantTokens type tokens (all_taken o)
by_outcome type tokens le (taken x []) e = (le, tokens_some type tokens x [] e refl)
by_outcome type tokens le (taken x (t ∷ rest)) e = tokens_none type tokens (taken x (t ∷ rest)) e (λ y f. let g : t ∷ rest ≡ [] = cc in cc)
by_outcome type tokens le (stuck rest) e = tokens_none type tokens (stuck rest) e (λ y f. cc)
by_outcome type tokens le deep e = tokens_none type tokens deep e (λ y f. cc)

by_nest : (type : SqlType) (tokens : List Token) (b : Bool) → nat_le (nest tokens) 200 ≡ b → ConstantTokens type tokens (cond b (all_taken (constant_at (turns tokens) type tokens)) None)
by_nest type tokens true h = by_outcome type tokens (le_of (nest tokens) h) (constant_at (turns tokens) type tokens) refl
by_nest type tokens false h = λ x le d. not_le (nest tokens) h le

by_answer : (type : SqlType) (text : List ℕ) (answer : Result (List Token) ℕ) → TokensOf text answer → ConstantText type text (answer_value type answer)
by_answer type text (Ok tokens) l = text_constant type text tokens (tokens_value type tokens) l (by_nest type tokens (nat_le (nest tokens) 200) refl)
by_answer type text (Err place) l = text_fault type text place l

pub value_holds : (type : SqlType) (text : List ℕ) → ConstantText type text (constant_value type text)
unfolding constant_value
value_holds type text = let a = some_answer text in by_answer type text a.0 a.1
