-- Where each part of the one permits only outcomes of the other, so does the whole.
use Rattle.std.proofs.Common.{List, [], ◌∷◌, map, inl, inr, Ok, Err, refl, sym, subst}
use Rattle.std.specs.List.{AllZip}
use Rattle.sql_types.specs.declared.fault.FaultKind.{FaultKind}
use Rattle.sql_types.specs.Outcome.{Outcome, Meaning, ◌>>=◌, goes_on, ends, EachGives, SomeFaults, Gather, all_give, one_faults, Both, both_give, left_faults, right_faults, Below, Related, Tied}

-- ---- one after another

pub then_below : {A B : Type 0} {m n : Meaning A} {k l : A → Meaning B} → Below m n → ((x : A) → Below (k x) (l x)) → Below (m >>= k) (n >>= l)
then_below first next o (goes_on given more) = goes_on (first _ given) (next _ _ more)
then_below first next o (ends fault) = ends (first _ fault)

-- ---- several at once

each_below : {A X : Type 0} (f g : X → Meaning A) (below : (x : X) → Below (f x) (g x)) (xs : List X) (values : List A) → EachGives (map f xs) values → EachGives (map g xs) values
each_below f g below [] [] each = each
each_below f g below [] (v ∷ vs) each = each
each_below f g below (x ∷ xs) [] each = each
each_below f g below (x ∷ xs) (v ∷ vs) each = (below x _ each.0, each_below f g below xs vs each.1)

faults_below : {A X : Type 0} (f g : X → Meaning A) (below : (x : X) → Below (f x) (g x)) (fault : FaultKind) (xs : List X) → SomeFaults fault (map f xs) → SomeFaults fault (map g xs)
faults_below f g below fault [] some = some
faults_below f g below fault (x ∷ xs) (inl here) = inl (below x _ here)
faults_below f g below fault (x ∷ xs) (inr later) = inr (faults_below f g below fault xs later)

pub gather_below : {A X : Type 0} (f g : X → Meaning A) → ((x : X) → Below (f x) (g x)) → (xs : List X) → Below (Gather (map f xs)) (Gather (map g xs))
gather_below f g below xs o (all_give each) = all_give (each_below f g below xs _ each)
gather_below f g below xs o (one_faults some) = one_faults (faults_below f g below _ xs some)

-- things that each give a value gather to the list of the values
pub each_gives : {A X : Type 0} (means : X → Meaning A) (value : X → A) → ((x : X) → means x (Ok (value x))) → (xs : List X) → EachGives (map means xs) (map value xs)
each_gives means value given [] = tt
each_gives means value given (x ∷ xs) = (given x, each_gives means value given xs)

pub gathers : {A X : Type 0} (means : X → Meaning A) (value : X → A) → ((x : X) → means x (Ok (value x))) → (xs : List X) → Gather (map means xs) (Ok (map value xs))
gathers means value given xs = all_give (each_gives means value given xs)

pub both_below : {A B : Type 0} {m n : Meaning A} {k l : Meaning B} → Below m n → Below k l → Below (Both m k) (Both n l)
both_below left right o (both_give x y) = both_give (left _ x) (right _ y)
both_below left right o (left_faults x) = left_faults (left _ x)
both_below left right o (right_faults y) = right_faults (right _ y)

-- ---- where each part has an outcome, so has the whole

abbrev pub HasOutcome : {A : Type 0} → Meaning A → Type 0
HasOutcome {A} m = (o : Outcome A) × m o

pub then_some : {A B : Type 0} (m : Meaning A) (k : A → Meaning B) → HasOutcome m → ((x : A) → HasOutcome (k x)) → HasOutcome (m >>= k)
then_some m k (Ok x, given) next = ((next x).0, goes_on given (next x).1)
then_some m k (Err fault, given) next = (Err fault, ends given)

add_outcome : {A : Type 0} (m : Meaning A) (ms : List (Meaning A)) → HasOutcome m → (o : Outcome (List A)) → Gather ms o → HasOutcome (Gather (m ∷ ms))
add_outcome m ms (Err fault, given) o gathered = (Err fault, one_faults (inl given))
add_outcome m ms (Ok x, given) o (all_give each) = (Ok (x ∷ _), all_give (given, each))
add_outcome m ms (Ok x, given) o (one_faults some) = (Err _, one_faults (inr some))

pub gather_some : {A X : Type 0} (f : X → Meaning A) → ((x : X) → HasOutcome (f x)) → (xs : List X) → HasOutcome (Gather (map f xs))
gather_some f each [] = (Ok [], all_give tt)
gather_some f each (x ∷ xs) = let rest = gather_some f each xs in add_outcome (f x) (map f xs) (each x) rest.0 rest.1

pub both_some : {A B : Type 0} (m : Meaning A) (n : Meaning B) → HasOutcome m → HasOutcome n → HasOutcome (Both m n)
both_some m n (Err fault, left) right = (Err fault, left_faults left)
both_some m n (Ok x, left) (Ok y, right) = (Ok (x, y), both_give left right)
both_some m n (Ok x, left) (Err fault, right) = (Err fault, right_faults right)

-- ---- values that are related stay so

then_related : {A B C D : Type 0} (R : A → B → Type 0) (S : C → D → Type 0) (n : Meaning B) (k : A → Meaning C) (l : B → Meaning D) → ((x : A) (y : B) → R x y → Tied S (k x) (l y)) →
    (x : A) (p : Outcome B) → n p → Related R (Ok x) p → (o : Outcome C) → k x o → (q : Outcome D) × (n >>= l) q × Related S o q
then_related R S n k l next x (Ok y) given related o more = let t = next x y related o more in (t.0, goes_on given t.1, t.2)
then_related R S n k l next x (Err fault) given related o more = absurd related

then_faulty : {A B C D : Type 0} (R : A → B → Type 0) (S : C → D → Type 0) (n : Meaning B) (l : B → Meaning D) (fault : FaultKind) (p : Outcome B) → n p → Related R (Err fault) p →
    (q : Outcome D) × (n >>= l) q × Related S (Err fault) q
then_faulty R S n l fault (Ok y) given related = absurd related
then_faulty R S n l fault (Err other) given related = (Err other, ends given, related)

pub then_tied : {A B C D : Type 0} (R : A → B → Type 0) (S : C → D → Type 0) (m : Meaning A) (n : Meaning B) (k : A → Meaning C) (l : B → Meaning D) →
    Tied R m n → ((x : A) (y : B) → R x y → Tied S (k x) (l y)) → Tied S (m >>= k) (n >>= l)
then_tied R S m n k l first next o (goes_on given more) = let t = first _ given in then_related R S n k l next _ t.0 t.1 t.2 o more
then_tied R S m n k l first next o (ends given) = let t = first _ given in then_faulty R S n l _ t.0 t.1 t.2

ok_tied : {A B : Type 0} (R : A → B → Type 0) (n : Meaning B) (x : A) (p : Outcome B) → n p → Related R (Ok x) p → (y : B) × n (Ok y) × R x y
ok_tied R n x (Ok y) given related = (y, given, related)
ok_tied R n x (Err fault) given related = absurd related

err_tied : {A B : Type 0} (R : A → B → Type 0) (n : Meaning B) (fault : FaultKind) (p : Outcome B) → n p → Related R (Err fault) p → n (Err fault)
err_tied R n fault (Ok y) given related = absurd related
err_tied R n fault (Err other) given related = subst (λ k. n (Err k)) (sym related) given

each_tied : {A B X : Type 0} (R : A → B → Type 0) (f : X → Meaning A) (g : X → Meaning B) → ((x : X) → Tied R (f x) (g x)) → (xs : List X) (values : List A) → EachGives (map f xs) values →
    (others : List B) × EachGives (map g xs) others × AllZip R values others
each_tied R f g tied [] [] each = ([], tt, tt)
each_tied R f g tied [] (v ∷ vs) each = absurd each
each_tied R f g tied (x ∷ xs) [] each = absurd each
each_tied R f g tied (x ∷ xs) (v ∷ vs) each =
    let t = tied x (Ok v) each.0 in
    let first = ok_tied R (g x) v t.0 t.1 t.2 in
    let rest = each_tied R f g tied xs vs each.1 in
    (first.0 ∷ rest.0, (first.1, rest.1), (first.2, rest.2))

faults_tied : {A B X : Type 0} (R : A → B → Type 0) (f : X → Meaning A) (g : X → Meaning B) → ((x : X) → Tied R (f x) (g x)) → (fault : FaultKind) (xs : List X) → SomeFaults fault (map f xs) → SomeFaults fault (map g xs)
faults_tied R f g tied fault [] some = some
faults_tied R f g tied fault (x ∷ xs) (inl here) = let t = tied x (Err fault) here in inl (err_tied R (g x) fault t.0 t.1 t.2)
faults_tied R f g tied fault (x ∷ xs) (inr later) = inr (faults_tied R f g tied fault xs later)

pub gather_tied : {A B X : Type 0} (R : A → B → Type 0) (f : X → Meaning A) (g : X → Meaning B) → ((x : X) → Tied R (f x) (g x)) → (xs : List X) → Tied (AllZip R) (Gather (map f xs)) (Gather (map g xs))
gather_tied R f g tied xs o (all_give each) = let t = each_tied R f g tied xs _ each in (Ok t.0, all_give t.1, t.2)
gather_tied R f g tied xs o (one_faults some) = (Err _, one_faults (faults_tied R f g tied _ xs some), refl)
