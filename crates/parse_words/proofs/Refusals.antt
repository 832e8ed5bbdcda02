-- A refusal of one part is the refusal of what it is a part of.
use Rattle.std.proofs.Common.{◌≡◌, ℕ, Bool, true, false, List, [], ◌∷◌, ap, refl, sym, ◌∙◌}
use Rattle.fronts.specs.Readers.{Outcome, taken, stuck, refuse, and_then}
use Rattle.sql_ast.specs.declared.token.Token.{Token}
use Rattle.sql_ast.specs.declared.refusal.Refusal.{Refusal}
use Rattle.sql_ast.specs.declared.refusal.Refusal.TheVariants.{Rule, OutOfMemory}
use Rattle.sql_lexer.specs.declared.tokens.Tokens.{Tokens}
use Rattle.sql_grammar.specs.Ways.{Parser}
use Rattle.parse_words.specs.Reads.{Refuses, Stuck}

pub passed : {A B : Type 0} (text : Tokens) (o : Outcome Token A) (f : A → Parser B) (e : Refusal) → Refuses text o e → Refuses text (and_then o f) e
passed text o f (Rule rule place) h = record { rest = h.rest; is = ap (λ x. and_then x f) h.is; by_rule = h.by_rule; there = h.there }
passed text o f OutOfMemory h = tt

-- an outcome that is stuck wherever another is
pub refused_as : {A B : Type 0} (text : Tokens) (o : Outcome Token A) (p : Outcome Token B) (e : Refusal) → ((rest : List Token) → o ≡ stuck rest → p ≡ stuck rest) → Refuses text o e → Refuses text p e
refused_as text o p (Rule rule place) f h = record { rest = h.rest; is = f h.rest h.is; by_rule = h.by_rule; there = h.there }
refused_as text o p OutOfMemory f h = tt

pub refused_same : {A : Type 0} (text : Tokens) (o p : Outcome Token A) (e : Refusal) → p ≡ o → Refuses text o e → Refuses text p e
refused_same text o p e is h = refused_as text o p e (λ rest f. is ∙ f) h

-- the refusal of what stands here
pub refused_here : {A : Type 0} (text : Tokens) (ts : List Token) (o : Outcome Token A) (e : Refusal) → o ≡ stuck ts → Refuses text (refuse {A = Unit {0}} ts) e → Refuses text o e
refused_here text ts o e is h = refused_as text (refuse {A = Unit {0}} ts) o e (λ rest f. let g : ts ≡ rest = cc in is ∙ ap stuck g) h
