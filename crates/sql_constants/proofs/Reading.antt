-- What follows from what a reader has taken.
use Rattle.std.proofs.Common.{◌≡◌, Bool, true, false, cond, ◌⊎◌, inl, inr, List, [], ◌∷◌, Option, Some, None, refl}
use Rattle.fronts.specs.Readers.{Outcome, taken, stuck, deep, and_then, token}
use Rattle.sql_types.specs.declared.value.Value.{Value}
use Rattle.sql_ast.specs.declared.token.Token.{Token}
use Rattle.sql_ast.specs.Marks.{Is}
use Rattle.sql_constants.specs.Readers.{Parser, valued}

-- one reader after another has taken something: so has the first
pub record Between {A B : Type 0} (o : Outcome Token A) (f : A → Parser B) (y : B) (rest : List Token) : Type 0 where
  pub first : A
  pub mid : List Token
  pub took : o ≡ taken first mid
  pub goes : f first mid ≡ taken y rest

pub then_taken : {A B : Type 0} (o : Outcome Token A) (f : A → Parser B) (y : B) (rest : List Token) → and_then o f ≡ taken y rest → Between o f y rest
then_taken (taken a mid) f y rest e = record { first = a; mid = mid; took = refl; goes = e }
then_taken (stuck ts) f y rest e = absurd cc
then_taken deep f y rest e = absurd cc

-- the same behind a token
pub record Behind {B : Type 0} (fits : Token → Bool) (ts : List Token) (f : Token → Parser B) (y : B) (rest : List Token) : Type 0 where
  pub first : Token
  pub mid : List Token
  pub split : ts ≡ first ∷ mid
  pub fit : Is fits first
  pub goes : f first mid ≡ taken y rest

by_fit : {B : Type 0} (fits : Token → Bool) (t : Token) (ts : List Token) (f : Token → Parser B) (y : B) (rest : List Token) (b : Bool) → fits t ≡ b
    → and_then (cond b (taken t ts) (stuck (t ∷ ts))) f ≡ taken y rest → Behind fits (t ∷ ts) f y rest
by_fit fits t ts f y rest true h e = record { first = t; mid = ts; split = refl; fit = record { is = h }; goes = e }
by_fit fits t ts f y rest false h e = absurd cc

pub token_taken : {B : Type 0} (fits : Token → Bool) (ts : List Token) (f : Token → Parser B) (y : B) (rest : List Token) → and_then (token fits ts) f ≡ taken y rest → Behind fits ts f y rest
unfolding token
token_taken fits [] f y rest e = absurd cc
token_taken fits (t ∷ ts) f y rest e = by_fit fits t ts f y rest (fits t) refl e

pub either_taken : {A : Type 0} (b : Bool) (o p : Outcome Token A) (y : A) (rest : List Token) → cond b o p ≡ taken y rest → (o ≡ taken y rest) ⊎ ((b ≡ false) × (p ≡ taken y rest))
either_taken true o p y rest e = inl e
either_taken false o p y rest e = inr (refl, e)

pub same_value_taken : {A : Type 0} (x y : A) (ts rest : List Token) → taken x ts ≡ taken y rest → (x ≡ y) × (ts ≡ rest)
same_value_taken x y ts rest e = (cc, cc)

pub valued_taken : (o : Option Value) (ts rest : List Token) (x : Value) → valued o ts ≡ taken x rest → (o ≡ Some x) × (ts ≡ rest)
valued_taken (Some y) ts rest x e = (cc, cc)
valued_taken None ts rest x e = absurd cc
