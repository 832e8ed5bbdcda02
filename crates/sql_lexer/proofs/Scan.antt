-- The loop of the machine.
use Rattle.std.proofs.Common.{◌≡◌, ℕ, ◌+◌, ◌<◌, ◌≤◌, List, [], ◌∷◌, length, drop, get_or, map, Option, Some, None, refl, sym, ◌∙◌, ap, add-one, drop-cons, arith}
use Rattle.std.proofs.lemmas.List.{drop_all}
use Rattle.fronts.specs.Machines.{walk, ahead}
use Rattle.sql_ast.specs.Classes.{class}
use Rattle.sql_lexer.specs.declared.machine.State.{State}
use Rattle.sql_lexer.specs.declared.machine.State.TheVariants as t
use Rattle.sql_lexer.specs.Machine.{step}

-- where the machine stops that goes on from a place in this state
abbrev pub from_here : List ℕ → ℕ → State → ℕ × State
from_here text at state = ahead at (walk step state (map class (drop at text)))

pub record Goes (text : List ℕ) (from at : ℕ) (state : State) : Type 0 where
  pub within : at ≤ length text
  pub same : from_here text from t.Start ≡ from_here text at state

split_here : (text : List ℕ) (at : ℕ) → at < length text → drop at text ≡ get_or text at 0 ∷ drop (at + 1) text
split_here text at lt = rw (add-one, drop-cons text at 0) refl

abbrev next_step : List ℕ → State → Option State → ℕ × State
next_step rest state o = elim o as (λ _. ℕ × State) [ None ↦ (0, state) | Some next ↦ let w = walk step next (map class rest) in (w.0 + 1, w.1) ]

walk_by : (x : ℕ) (rest : List ℕ) (state : State) (o : Option State) → step state (class x) ≡ o → walk step state (map class (x ∷ rest)) ≡ next_step rest state o
unfolding walk
walk_by x rest state o e = ap (next_step rest state) e

walk_end : (state : State) → walk step state [] ≡ (0, state)
unfolding walk
walk_end state = refl

pub goes_on : (text : List ℕ) (from at : ℕ) (state next : State) → at < length text → Goes text from at state → step state (class (get_or text at 0)) ≡ Some next → Goes text from (at + 1) next
goes_on text from at state next lt g e = record {
  within = omega arith;
  same = g.same ∙ ap (λ u. ahead at (walk step state (map class u))) (split_here text at lt) ∙ ap (ahead at) (walk_by (get_or text at 0) (drop (at + 1) text) state (Some next) e)
      ∙ ap (λ n. (n, (walk step next (map class (drop (at + 1) text))).1)) (let x = (walk step next (map class (drop (at + 1) text))).0 in omega arith);
}

pub goes_stop : (text : List ℕ) (from at : ℕ) (state : State) → at < length text → Goes text from at state → step state (class (get_or text at 0)) ≡ None → (at, state) ≡ from_here text from t.Start
goes_stop text from at state lt g e =
    let f : from_here text at state ≡ (0 + at, state) = ap (λ u. ahead at (walk step state (map class u))) (split_here text at lt) ∙ ap (ahead at) (walk_by (get_or text at 0) (drop (at + 1) text) state None e) in
    sym (g.same ∙ f ∙ ap (λ n. (n, state)) (let z : 0 + at ≡ at = omega arith in z))

pub goes_end : (text : List ℕ) (from at : ℕ) (state : State) → length text ≤ at → Goes text from at state → (at, state) ≡ from_here text from t.Start
goes_end text from at state le g =
    let f : from_here text at state ≡ (0 + at, state) = ap (λ u. ahead at (walk step state (map class u))) (drop_all at text le) ∙ ap (ahead at) (walk_end state) in
    sym (g.same ∙ f ∙ ap (λ n. (n, state)) (let z : 0 + at ≡ at = omega arith in z))
