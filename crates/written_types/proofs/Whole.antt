-- What the reader of types answers is the verdict on the text.
use Rattle.std.proofs.Common.{◌≡◌, ℕ, zero, suc, ◌≤◌, ◌<◌, ◌-◌, List, [], ◌∷◌, length, drop, Err, refl, sym, ◌∙◌, ap, subst, arith}
use Rattle.fronts.specs.Readers.{taken, stuck, refuse}
use Rattle.fronts.specs.Texts.{Spells}
use Rattle.fronts.proofs.Agrees.{Answer, Took, Stopped}
use Rattle.fronts.proofs.Lists.{rest_is}
use Rattle.fronts.proofs.Verdict.{on_all, on_some, on_none}
use Rattle.sql_ast.specs.declared.type_spelling.TypeSpelling.{TypeSpelling}
use Rattle.sql_ast.specs.declared.refusal.Refusal.{Refusal}
use Rattle.sql_ast.specs.declared.refusal.Refusal.TheVariants.{Rule, OutOfMemory}
use Rattle.sql_ast.specs.declared.token.Token.{Token}
use Rattle.sql_ast.specs.Parts.{TypeOf, type_levels}
use Rattle.sql_lexer.specs.declared.tokens.Tokens.{Tokens}
use Rattle.sql_grammar.specs.Knot.{written_type_at}
use Rattle.sql_grammar.proofs.Readings.{type_reads}
use Rattle.written_types.specs.TypeTexts.{NoType, SpellsType}
use Rattle.parse_words.specs.Reads.{from, fault_place, turns, Refuses}

module _ (text : Tokens) where
  long : length text.list < turns text
  long = omega arith

  answer : Answer (turns text) (TypeOf type_levels) (written_type_at (turns text)) text.list (written_type_at (turns text) text.list)
  answer = (type_reads.exact (turns text) (turns text) (omega arith)).near.answers text.list

  -- a type that is all of the text
  pub accepted : (x : TypeSpelling) (at : ℕ) → written_type_at (turns text) text.list ≡ taken x (from text at) → length text.list ≤ at → Spells (TypeOf type_levels) text.list x
  accepted x at is up =
      let nothing : from text at ≡ [] = past text.list at up in
      on_all (TypeOf type_levels) written_type_at type_reads text.list (turns text) long x (is ∙ ap (taken x) nothing)
    where
      past : (ts : List Token) (n : ℕ) → length ts ≤ n → drop n ts ≡ []
      past [] zero up = refl
      past [] (suc n) up = refl
      past (t ∷ ts) zero up = absurd (omega arith)
      past (t ∷ ts) (suc n) up = past ts n (omega arith)

  taken_rest : (x : TypeSpelling) (rest : List Token) → written_type_at (turns text) text.list ≡ taken x rest → rest ≡ drop (length text.list - length rest) text.list
  taken_rest x rest is = let k : Took (TypeOf type_levels) (written_type_at (turns text)) text.list x rest = subst (Answer (turns text) (TypeOf type_levels) (written_type_at (turns text)) text.list) is answer in rest_is text.list k.text rest k.splits

  stuck_rest : (rest : List Token) → written_type_at (turns text) text.list ≡ stuck rest → rest ≡ drop (length text.list - length rest) text.list
  stuck_rest rest is = let k : Stopped (TypeOf type_levels) (written_type_at (turns text)) text.list rest = subst (Answer (turns text) (TypeOf type_levels) (written_type_at (turns text)) text.list) is answer in rest_is text.list k.text rest k.splits

  -- a token that stands behind a type
  pub left_over : (x : TypeSpelling) (t : Token) (rest : List Token) → written_type_at (turns text) text.list ≡ taken x (t ∷ rest) → NoType text.end text.list t.start
  left_over x t rest is =
      (length text.list - length (t ∷ rest), on_some (TypeOf type_levels) written_type_at type_reads text.list (turns text) long x t rest is, ap (fault_place text.end) (taken_rest x (t ∷ rest) is))

  -- a token with which no type begins
  pub no_type : (rest : List Token) → written_type_at (turns text) text.list ≡ stuck rest → NoType text.end text.list (fault_place text.end rest)
  no_type rest is = (length text.list - length rest, on_none (TypeOf type_levels) written_type_at type_reads text.list (turns text) long rest is, ap (fault_place text.end) (stuck_rest rest is))

  -- what the reader refuses is no type
  pub refused : (e : Refusal) → Refuses text (written_type_at (turns text) text.list) e → SpellsType text.end text.list (Err e)
  refused (Rule rule place) h = (h.by_rule, subst (NoType text.end text.list) (sym h.there) (no_type h.rest h.is))
  refused OutOfMemory h = tt

  -- and neither is what it leaves something of
  pub refused_behind : (x : TypeSpelling) (at : ℕ) → written_type_at (turns text) text.list ≡ taken x (from text at) → at < length text.list → (e : Refusal) → Refuses text (refuse {A = Unit {0}} (from text at)) e
      → SpellsType text.end text.list (Err e)
  refused_behind x at is lt e h = by (from text at) refl e h
    where
      some : (ts : List Token) (n : ℕ) → n < length ts → drop n ts ≡ [] → ⊥
      some [] n lt e = omega arith
      some (t ∷ ts) zero lt e = cc
      some (t ∷ ts) (suc n) lt e = some ts n (omega arith) e

      by : (ts : List Token) → from text at ≡ ts → (e : Refusal) → Refuses text (refuse {A = Unit {0}} (from text at)) e → SpellsType text.end text.list (Err e)
      by [] none e h = absurd (some text.list at lt none)
      by (t ∷ rest) some_left (Rule rule place) h =
          let same : from text at ≡ h.rest = let g = h.is in cc in
          let there : place ≡ t.start = h.there ∙ ap (fault_place text.end) (sym same ∙ some_left) in
          (h.by_rule, subst (NoType text.end text.list) (sym there) (left_over x t rest (is ∙ ap (taken x) some_left)))
      by (t ∷ rest) some_left OutOfMemory h = tt
