-- What the reader of expressions answers of the tokens up to a place says whether those from another place on are an expression.
use Rattle.std.proofs.Common.{◌≡◌, ℕ, zero, suc, ◌-◌, ◌<◌, ◌≤◌, List, [], ◌∷◌, length, take, drop, length-drop, refl, sym, ◌∙◌, ap, subst, arith}
use Rattle.fronts.specs.Readers.{taken, stuck}
use Rattle.fronts.proofs.Verdict.{on_all}
use Rattle.sql_ast.specs.declared.expr.Expr.{Expr}
use Rattle.sql_ast.specs.declared.refusal.Refusal.{Refusal}
use Rattle.sql_ast.specs.declared.refusal.Refusal.TheVariants.{Rule, OutOfMemory}
use Rattle.sql_ast.specs.declared.token.Token.{Token}
use Rattle.sql_ast.specs.Grammar.{ExprOf}
use Rattle.sql_lexer.specs.declared.tokens.Tokens.{Tokens}
use Rattle.sql_grammar.specs.Knot.{expr_at}
use Rattle.sql_grammar.proofs.Readings.{expr_reads}
use Rattle.parse_words.specs.Reads.{from, turns, Refuses}
use Rattle.parse_fronts.specs.ExprFronts.{part}
use Rattle.parse_fronts.proofs.FrontLaws.{nothing_past, deep_enough}

abbrev none : List Token
none = []

take_nothing : (n : ℕ) → take n none ≡ none
take_nothing zero = refl
take_nothing (suc n) = refl

part_is : (at end : ℕ) (ts : List Token) → at ≤ end → drop at (take end ts) ≡ take (end - at) (drop at ts)
part_is zero end ts up = ap (λ n. take n ts) (let e : end ≡ end - 0 = omega arith in e)
part_is (suc at) zero ts up = absurd (omega arith)
part_is (suc at) (suc end) [] up = sym (take_nothing (suc end - suc at))
part_is (suc at) (suc end) (t ∷ ts) up = part_is at end ts (omega arith) ∙ ap (λ n. take n (drop at ts)) (let e : end - at ≡ suc end - suc at = omega arith in e)

taken_length : (n : ℕ) (ts : List Token) → n ≤ length ts → length (take n ts) ≡ n
taken_length zero ts up = refl
taken_length (suc n) [] up = absurd (omega arith)
taken_length (suc n) (t ∷ ts) up = let e = taken_length n ts (omega arith) in omega arith

-- the tokens before an end
module _ (text front : Tokens) (at end : ℕ) (is : front.list ≡ take end text.list) (up : at ≤ end) (within : end ≤ length text.list) where
  same : from front at ≡ part text at end
  same = ap (drop at) is ∙ part_is at end text.list up

  long : length front.list ≡ end
  long = ap length is ∙ taken_length end text.list within

  read_whole : (b : Expr) → ExprOf b (part text at end) → expr_at (turns front) (from front at) ≡ taken b []
  read_whole b l = expr_reads.whole (turns front) b (from front at) (subst (ExprOf b) (sym same) l) (deep_enough front at)

  pub not_all : (a : Expr) (behind : ℕ) → expr_at (turns front) (from front at) ≡ taken a (from front behind) → behind < end → (b : Expr) → ExprOf b (part text at end) → ⊥
  not_all a behind h lt b l =
      let e = sym h ∙ read_whole b l in
      let none : from front behind ≡ [] = cc in
      let short : length (from front behind) ≡ 0 = ap length none in
      let far = length-drop behind front.list in
      let g = long in omega arith

  pub not_stuck : (rest : List Token) → expr_at (turns front) (from front at) ≡ stuck rest → (b : Expr) → ExprOf b (part text at end) → ⊥
  not_stuck rest h b l = let e = sym h ∙ read_whole b l in cc

  pub all_spelled : (a : Expr) (behind : ℕ) → expr_at (turns front) (from front at) ≡ taken a (from front behind) → end ≤ behind → ExprOf a (part text at end)
  all_spelled a behind h le =
      let none = nothing_past front.list behind (let g = long in omega arith) in
      subst (ExprOf a) same (on_all ExprOf expr_at expr_reads (from front at) (turns front) (deep_enough front at) a (h ∙ ap (taken a) none)).spells

  pub not_refused : (e : Refusal) (rule byte : ℕ) → Refuses front (expr_at (turns front) (from front at)) e → e ≡ Rule rule byte → (b : Expr) → ExprOf b (part text at end) → ⊥
  not_refused (Rule r p) rule byte h e b l = not_stuck h.rest h.is b l
  not_refused OutOfMemory rule byte h e b l = absurd cc
