-- What a reader answers of all tokens of a text is the verdict on the text.
use Rattle.std.proofs.Common.{◌≡◌, ℕ, zero, suc, ◌≤◌, ◌<◌, ◌-◌, List, [], ◌∷◌, length, drop, Err, refl, sym, ◌∙◌, ap, subst, arith}
use Rattle.fronts.specs.Fronts.{Language}
use Rattle.fronts.specs.Readers.{taken, stuck, refuse}
use Rattle.fronts.specs.Texts.{Spells}
use Rattle.fronts.proofs.Agrees.{Answer, Took, Stopped}
use Rattle.fronts.proofs.Lists.{rest_is}
use Rattle.fronts.proofs.Verdict.{on_all, on_some, on_none}
use Rattle.fronts.proofs.Verdict as verdict
use Rattle.sql_ast.specs.declared.refusal.Refusal.{Refusal}
use Rattle.sql_ast.specs.declared.refusal.Refusal.TheVariants.{Rule, OutOfMemory}
use Rattle.sql_ast.specs.declared.token.Token.{Token}
use Rattle.sql_lexer.specs.declared.tokens.Tokens.{Tokens}
use Rattle.sql_grammar.specs.Ways.{Parser}
use Rattle.parse_query.specs.QueryTexts.{NothingOf, SpelledBy}
use Rattle.parse_words.specs.Reads.{from, fault_place, turns, Refuses}

module _ {A : Type 0} (L : Language Token A) (p : ℕ → Parser A) (x : verdict.Reads L p) (text : Tokens) where
  long : length text.list < turns text
  long = omega arith

  answer : Answer (turns text) L (p (turns text)) text.list (p (turns text) text.list)
  answer = (x.exact (turns text) (turns text) (omega arith)).near.answers text.list

  -- a tree that is all of the text
  pub accepted : (a : A) (at : ℕ) → p (turns text) text.list ≡ taken a (from text at) → length text.list ≤ at → Spells L text.list a
  accepted a at is up =
      let nothing : from text at ≡ [] = past text.list at up in
      on_all L p x text.list (turns text) long a (is ∙ ap (taken a) nothing)
    where
      past : (ts : List Token) (n : ℕ) → length ts ≤ n → drop n ts ≡ []
      past [] zero up = refl
      past [] (suc n) up = refl
      past (t ∷ ts) zero up = absurd (omega arith)
      past (t ∷ ts) (suc n) up = past ts n (omega arith)

  taken_rest : (a : A) (rest : List Token) → p (turns text) text.list ≡ taken a rest → rest ≡ drop (length text.list - length rest) text.list
  taken_rest a rest is = let k : Took L (p (turns text)) text.list a rest = subst (Answer (turns text) L (p (turns text)) text.list) is answer in rest_is text.list k.text rest k.splits

  stuck_rest : (rest : List Token) → p (turns text) text.list ≡ stuck rest → rest ≡ drop (length text.list - length rest) text.list
  stuck_rest rest is = let k : Stopped L (p (turns text)) text.list rest = subst (Answer (turns text) L (p (turns text)) text.list) is answer in rest_is text.list k.text rest k.splits

  -- a token that stands behind a tree
  left_over : (a : A) (t : Token) (rest : List Token) → p (turns text) text.list ≡ taken a (t ∷ rest) → NothingOf L text.end text.list t.start
  left_over a t rest is =
      (length text.list - length (t ∷ rest), on_some L p x text.list (turns text) long a t rest is, ap (fault_place text.end) (taken_rest a (t ∷ rest) is))

  -- a token with which nothing goes on
  nothing_of : (rest : List Token) → p (turns text) text.list ≡ stuck rest → NothingOf L text.end text.list (fault_place text.end rest)
  nothing_of rest is = (length text.list - length rest, on_none L p x text.list (turns text) long rest is, ap (fault_place text.end) (stuck_rest rest is))

  -- what the reader refuses is no word
  pub refused : (e : Refusal) → Refuses text (p (turns text) text.list) e → SpelledBy L text.end text.list (Err e)
  refused (Rule rule place) h = (h.by_rule, subst (NothingOf L text.end text.list) (sym h.there) (nothing_of h.rest h.is))
  refused OutOfMemory h = tt

  -- and neither is what it leaves something of
  pub refused_behind : (a : A) (at : ℕ) → p (turns text) text.list ≡ taken a (from text at) → at < length text.list → (e : Refusal) → Refuses text (refuse {A = Unit {0}} (from text at)) e
      → SpelledBy L text.end text.list (Err e)
  refused_behind a at is lt e h = by (from text at) refl e h
    where
      some : (ts : List Token) (n : ℕ) → n < length ts → drop n ts ≡ [] → ⊥
      some [] n lt e = omega arith
      some (t ∷ ts) zero lt e = cc
      some (t ∷ ts) (suc n) lt e = some ts n (omega arith) e

      by : (ts : List Token) → from text at ≡ ts → (e : Refusal) → Refuses text (refuse {A = Unit {0}} (from text at)) e → SpelledBy L text.end text.list (Err e)
      by [] none e h = absurd (some text.list at lt none)
      by (t ∷ rest) some_left (Rule rule place) h =
          let same : from text at ≡ h.rest = let g = h.is in cc in
          let there : place ≡ t.start = h.there ∙ ap (fault_place text.end) (sym same ∙ some_left) in
          (h.by_rule, subst (NothingOf L text.end text.list) (sym there) (left_over a t rest (is ∙ ap (taken a) some_left)))
      by (t ∷ rest) some_left OutOfMemory h = tt
