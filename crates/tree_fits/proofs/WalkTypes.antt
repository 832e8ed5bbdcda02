-- A walk that finds no flaw makes columns of new numbers alone. So each number has one type in a whole tree: a typing of the numbers that
-- stand before a part goes on to one of those behind it, and of what the part says each further typing may be taken.
use Rattle.std.proofs.Common.{◌≡◌, ℕ, suc, Bool, true, false, ◌&&◌, List, [], ◌∷◌, ◌++◌, Option, None, Some, Result, Ok, Err, if◌then◌else◌, refl, ap, subst, ◌∙◌, arith}
use Rattle.std.specs.Prelude.{◌==◌, not}
use Rattle.std.proofs.lemmas.Bool.Decides.{nat_tests}
use Rattle.sql_types.specs.declared.sql_type.SqlType.{SqlType}
use Rattle.sql_types.specs.Parted.{Each}
use Rattle.resolved_ast.specs.declared.column.MadeColumn.{MadeColumn}
use Rattle.resolved_ast.specs.declared.flaw.Flaw.{Flaw}
use Rattle.resolved_ast.specs.declared.flaw.FlawKind.{FlawKind}
use Rattle.resolved_ast.specs.Columns.{among, numbers}
use Rattle.resolved_ast.specs.Flaws.{Before, Order, Walk, first_kind, walk_all, are_new, at_node}
use Rattle.resolved_ast.proofs.FitLaws.{first_of, second_of}

-- the type of each number
abbrev pub Typing : Type 0
Typing = ℕ → SqlType

-- they are the same on these numbers
abbrev pub Same : List ℕ → Typing → Typing → Type 0
Same ns T U = (n : ℕ) → among n ns ≡ true → T n ≡ U n

-- each column has its number's type
abbrev pub Agrees : Typing → List MadeColumn → Type 0
Agrees T columns = Each (λ (c : MadeColumn). T c.id.0 ≡ c.ty) columns

-- what holds of every typing that keeps the types of the numbers in the second list; those of the first may be any
pub record Kept (before after : List ℕ) (P : Typing → Type 0) : Type 0 where
  pub grows : (n : ℕ) → among n before ≡ true → among n after ≡ true
  pub types : (T : Typing) → (U : Typing) × Same before U T × ((V : Typing) → Same after V U → P V)

pub kept_map : {before after : List ℕ} {P Q : Typing → Type 0} → ((T : Typing) → P T → Q T) → Kept before after P → Kept before after Q
kept_map f k = record { grows = k.grows; types = λ T. let u = k.types T in (u.0, u.1, λ V s. f V (u.2 V s)) }

kept_none : (before : List ℕ) → Kept before before (λ T. Unit {0})
kept_none before = record { grows = λ n h. h; types = λ T. (T, λ n h. refl, λ V s. tt) }

kept_then : {a b c : List ℕ} {P Q : Typing → Type 0} → Kept a b P → Kept b c Q → Kept a c (λ T. P T × Q T)
kept_then p q = record {
  grows = λ n h. q.grows n (p.grows n h);
  types = λ T. let u = p.types T in let w = q.types u.0 in
      (w.0, λ n h. w.1 n (p.grows n h) ∙ u.1 n h, λ V s. (u.2 V (λ n h. s n (q.grows n h) ∙ w.1 n h), w.2 V s));
}

kept_wider : {a b c : List ℕ} {P : Typing → Type 0} → ((n : ℕ) → among n b ≡ true → among n c ≡ true) → Kept a b P → Kept a c P
kept_wider wider k = record {
  grows = λ n h. wider n (k.grows n h);
  types = λ T. let u = k.types T in (u.0, u.1, λ V s. u.2 V (λ n h. s n (wider n h)));
}

-- ---- the columns that a node makes

pub number_same : (m n : ℕ) → (m == n) ≡ true → m ≡ n
number_same m n e = grind (arith, nat_tests, e)

pub number_is : (n : ℕ) → (n == n) ≡ true
number_is n = grind (arith, nat_tests)

-- a typing with the type of one more number
abbrev with_type : ℕ → SqlType → Typing → Typing
with_type id ty T n = if n == id then ty else T n

not_among : (b : Bool) → not b ≡ true → b ≡ true → ⊥
not_among true new old = cc
not_among false new old = cc

unchanged : (id : ℕ) (ty : SqlType) (T : Typing) (before : List ℕ) (n : ℕ) (b : Bool) → (n == id) ≡ b → not (among id before) ≡ true → among n before ≡ true → (if b then ty else T n) ≡ T n
unchanged id ty T before n true is new old = absurd (not_among (among id before) new (subst (λ m. among m before ≡ true) (number_same n id is) old))
unchanged id ty T before n false is new old = refl

one_kept : (id : ℕ) (ty : SqlType) (before : List ℕ) → not (among id before) ≡ true → Kept before (id ∷ before) (λ T. T id ≡ ty)
one_kept id ty before new = record {
  grows = λ n h. later n (n == id) h;
  types = λ T. (with_type id ty T, λ n h. unchanged id ty T before n (n == id) refl new h, λ V s. s id (here (among id before)) ∙ there (T id));
}
  where
    later : (n : ℕ) (b : Bool) → among n before ≡ true → (if b then true else among n before) ≡ true
    later n true h = refl
    later n false h = h

    here : (rest : Bool) → (if id == id then true else rest) ≡ true
    here rest = ap (λ b. if b then true else rest) (number_is id)

    there : (other : SqlType) → (if id == id then ty else other) ≡ ty
    there other = ap (λ b. if b then ty else other) (number_is id)

-- where a list goes on does not matter for what is among it
moved : (m : ℕ) (before ns : List ℕ) (n : ℕ) → among n (ns ++ m ∷ before) ≡ true → among n (m ∷ ns ++ before) ≡ true
moved m before [] n h = h
moved m before (k ∷ ns) n h = by (n == k) (n == m) (among n (ns ++ m ∷ before)) (among n (ns ++ before)) (moved m before ns n) h
  where
    by : (b c old new : Bool) → (old ≡ true → (if c then true else new) ≡ true) → (if b then true else old) ≡ true → (if c then true else if b then true else new) ≡ true
    by true true old new rest h = refl
    by true false old new rest h = refl
    by false true old new rest h = refl
    by false false old new rest h = rest h

pub made_kept : (made : List MadeColumn) (before : List ℕ) → are_new (numbers made) before ≡ true → Kept before (numbers made ++ before) (λ T. Agrees T made)
made_kept [] before new = kept_none before
made_kept (c ∷ made) before new =
    let fresh = first_of _ _ new in
    kept_wider (moved c.id.0 before (numbers made)) (kept_then (one_kept c.id.0 c.ty before (second_of _ _ fresh)) (made_kept made (c.id.0 ∷ before) (second_of _ _ new)))

-- ---- walks

-- where the walk finds no flaw, this holds of the typings
abbrev pub Claims : Walk → (Typing → Type 0) → Type 0
Claims w P = (before after : Before) → w before ≡ Ok after → Kept before.made after.made P

pub claims_map : {w : Walk} {P Q : Typing → Type 0} → ((T : Typing) → P T → Q T) → Claims w P → Claims w Q
claims_map f claims before after e = kept_map f (claims before after e)

no_err : (flaw : Flaw) (after : Before) → ◌≡◌ {A = Result Before Flaw} (Err flaw) (Ok after) → ⊥
no_err flaw after e = cc

ok_same : (before after : Before) → ◌≡◌ {A = Result Before Flaw} (Ok before) (Ok after) → before ≡ after
ok_same before after e = cc

-- no part, and one more part
pub claims_none : Claims (walk_all []) (λ T. Unit {0})
claims_none before after e = subst (λ (a : Before). Kept before.made a.made (λ T. Unit {0})) (ok_same before after e) (kept_none before.made)

more_by : (w : Walk) (ws : List Walk) (P Q : Typing → Type 0) → Claims w P → Claims (walk_all ws) Q → (before after : Before) (r : Result Before Flaw) → w before ≡ r →
    ◌≡◌ {A = Result Before Flaw} (elim r [ Ok next ↦ walk_all ws next | Err flaw ↦ Err flaw ]) (Ok after) → Kept before.made after.made (λ T. P T × Q T)
more_by w ws P Q first rest before after (Ok next) is e = kept_then (first before next is) (rest next after e)
more_by w ws P Q first rest before after (Err flaw) is e = absurd (no_err flaw after e)

pub claims_more : {w : Walk} (ws : List Walk) {P Q : Typing → Type 0} → Claims w P → Claims (walk_all ws) Q → Claims (walk_all (w ∷ ws)) (λ T. P T × Q T)
claims_more {w} ws {P} {Q} first rest before after e = more_by w ws P Q first rest before after (w before) refl e

-- what is in order at a node without a flaw
pub record InOrder (order : Order) : Type 0 where
  pub seen : order.seen ≡ true
  pub typed : order.typed ≡ true
  pub shaped : order.shaped ≡ true

in_order_by : (a b c d e : Bool) → first_kind (record { ids = a; seen = b; outers = c; typed = d; shaped = e }) ≡ None → (a ≡ true) × (b ≡ true) × (d ≡ true) × (e ≡ true)
in_order_by true true true true true h = (refl, refl, refl, refl)
in_order_by true true true true false h = cc
in_order_by true true true false e h = cc
in_order_by true true false d e h = cc
in_order_by true false c d e h = cc
in_order_by false b c d e h = cc

node_by : (order : Order) (made : List MadeColumn) (parts : List Walk) (Q R : Typing → Type 0) → ((T : Typing) → InOrder order → Agrees T made → Q T → R T) → Claims (walk_all parts) Q →
    (before after : Before) (k : Option FlawKind) → first_kind (record order { ids = order.ids && are_new (numbers made) before.made }) ≡ k →
    ◌≡◌ {A = Result Before Flaw} (elim k [ Some kind ↦ Err (record { place = before.nodes; kind = kind }) | None ↦ walk_all parts (record { nodes = suc before.nodes; made = numbers made ++ before.made }) ]) (Ok after) → Kept before.made after.made R
node_by order made parts Q R f claims before after None is e =
    let so = in_order_by (order.ids && are_new (numbers made) before.made) order.seen order.outers order.typed order.shaped is in
    kept_map (λ T both. f T (record { seen = so.1; typed = so.2; shaped = so.3 }) both.0 both.1) (kept_then (made_kept made before.made (second_of _ _ so.0)) (claims _ after e))
node_by order made parts Q R f claims before after (Some kind) is e = absurd (no_err _ after e)

-- what holds at a node, from what is in order there, from its columns and from what holds of its parts
pub claims_node : {order : Order} (made : List MadeColumn) (parts : List Walk) {Q R : Typing → Type 0} → ((T : Typing) → InOrder order → Agrees T made → Q T → R T) → Claims (walk_all parts) Q →
    Claims (at_node order made parts) R
unfolding at_node
claims_node {order} made parts {Q} {R} f claims before after e =
    node_by order made parts Q R f claims before after (first_kind (record order { ids = order.ids && are_new (numbers made) before.made })) refl e
