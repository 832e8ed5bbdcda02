-- Walks one after another, and what is answered for them.
use Rattle.std.proofs.Common.{◌≡◌, ℕ, suc, Bool, true, false, not, if◌then◌else◌, ◌&&◌, List, [], ◌∷◌, ◌++◌, Option, None, Some, Result, Ok, Err, refl, ap, sym, subst}
use Rattle.std.specs.Prelude.{OnOk}
use Rattle.resolved_ast.specs.declared.column.MadeColumn.{MadeColumn}
use Rattle.resolved_ast.specs.declared.flaw.Flaw.{Flaw}
use Rattle.resolved_ast.specs.declared.flaw.FlawKind.{FlawKind}
use Rattle.resolved_ast.specs.Columns.{numbers}
use Rattle.resolved_ast.specs.Flaws.{Before, Order, Walk, walk_all, at_node, first_kind, are_new}
use Rattle.tree_check.specs.declared.refusal.CheckRefusal.{CheckRefusal}
use Rattle.tree_check.specs.declared.refusal.CheckRefusal.TheVariants as refusal
use Rattle.tree_check.specs.Walked.{Refused, Walked}

-- ---- walks

abbrev pub onward : Result Before Flaw → Walk → Result Before Flaw
onward answer w = elim answer [ Ok after ↦ w after | Err flaw ↦ Err flaw ]

-- a walk alone
alone_by : (answer : Result Before Flaw) → elim answer [ Ok after ↦ Ok after | Err flaw ↦ Err flaw ] ≡ answer
alone_by (Ok after) = refl
alone_by (Err flaw) = refl

pub alone : (w : Walk) (before : Before) → walk_all (w ∷ []) before ≡ w before
alone w before = alone_by (w before)

node_by : (k : Option FlawKind) (before after : Before) (parts : List Walk) →
    ◌≡◌ {A = Result Before Flaw} (elim k [ Some kind ↦ Err (record { place = before.nodes; kind = kind }) | None ↦ walk_all parts after ])
    (onward (elim k [ Some kind ↦ Err (record { place = before.nodes; kind = kind }) | None ↦ walk_all [] after ]) (walk_all parts))
node_by (Some kind) before after parts = refl
node_by None before after parts = refl

-- a node, and then its parts
pub node_then : (order : Order) (made : List MadeColumn) (parts : List Walk) (before : Before) → at_node order made parts before ≡ onward (at_node order made [] before) (walk_all parts)
unfolding at_node
node_then order made parts before =
    node_by (first_kind (record order { ids = order.ids && are_new (numbers made) before.made })) before (record { nodes = suc before.nodes; made = numbers made ++ before.made }) parts

-- ---- answers

-- the walk is another one
pub answers : {A : Type 0} (old new : Result Before Flaw) (after : Before) (r : Result A CheckRefusal) → old ≡ new → Walked new after r → Walked old after r
answers old new after r e h = subst (λ x. Walked x after r) (sym e) h

pub refuses : (old new : Result Before Flaw) (e : CheckRefusal) → old ≡ new → Refused new e → Refused old e
refuses old new e is h = subst (λ x. Refused x e) (sym is) h

-- what is refused is refused whatever comes next
pub refused_then : (answer : Result Before Flaw) (w : Walk) (e : CheckRefusal) → Refused answer e → Refused (onward answer w) e
refused_then answer w (refusal.Flaw place kind) h = ap (λ x. onward x w) h
refused_then answer w refusal.OutOfMemory h = tt

-- what passes goes on
pub passed_then : {A : Type 0} (answer : Result Before Flaw) (mid after : Before) (w : Walk) (r : Result A CheckRefusal) → answer ≡ Ok mid → Walked (w mid) after r → Walked (onward answer w) after r
passed_then answer mid after w r e h = subst (λ x. Walked (onward x w) after r) (sym e) h

-- the same of a node
pub node_refused : (order : Order) (made : List MadeColumn) (parts : List Walk) (before : Before) (e : CheckRefusal) → Refused (at_node order made [] before) e → Refused (at_node order made parts before) e
node_refused order made parts before e h =
    refuses (at_node order made parts before) (onward (at_node order made [] before) (walk_all parts)) e (node_then order made parts before)
    (refused_then (at_node order made [] before) (walk_all parts) e h)

pub node_passed : {A : Type 0} (order : Order) (made : List MadeColumn) (parts : List Walk) (before mid after : Before) (r : Result A CheckRefusal) → at_node order made [] before ≡ Ok mid →
    Walked (walk_all parts mid) after r → Walked (at_node order made parts before) after r
node_passed order made parts before mid after r e h =
    answers (at_node order made parts before) (onward (at_node order made [] before) (walk_all parts)) after r (node_then order made parts before)
    (passed_then (at_node order made [] before) mid after (walk_all parts) r e h)

-- the same of the first of several parts
pub first_refused : (w : Walk) (ws : List Walk) (before : Before) (e : CheckRefusal) → Refused (w before) e → Refused (walk_all (w ∷ ws) before) e
first_refused w ws before e h = refused_then (w before) (walk_all ws) e h

pub first_passed : {A : Type 0} (w : Walk) (ws : List Walk) (before mid after : Before) (r : Result A CheckRefusal) → w before ≡ Ok mid → Walked (walk_all ws mid) after r → Walked (walk_all (w ∷ ws) before) after r
first_passed w ws before mid after r e h = passed_then (w before) mid after (walk_all ws) r e h

-- the last part
pub last_walked : {A : Type 0} (w : Walk) (before after : Before) (r : Result A CheckRefusal) → Walked (w before) after r → Walked (walk_all (w ∷ []) before) after r
last_walked w before after r h = answers (walk_all (w ∷ []) before) (w before) after r (alone w before) h

-- ---- numbers of queries

ids_by : (i s o t h : Bool) (before after : Before) → at_node (record { ids = i; seen = s; outers = o; typed = t; shaped = h }) [] [] before ≡ Ok after → i ≡ true
unfolding at_node
ids_by true s o t h before after e = refl
ids_by false s o t h before after e = cc

-- a node that passes has its own numbers
pub passed_ids : (order : Order) (before after : Before) → at_node order [] [] before ≡ Ok after → order.ids ≡ true
passed_ids order before after e = ids_by order.ids order.seen order.outers order.typed order.shaped before after e

-- what holds holds where it is asked for
pub when_ok : {A B : Type 0} {P : Type 0} (r : Result A B) → P → OnOk r P
when_ok (Ok x) p = p
when_ok (Err e) p = tt

pub added : (b : Bool) (n : ℕ) (old new : List ℕ) → not b ≡ true → new ≡ (if b then old else n ∷ old) → new ≡ n ∷ old
added true n old new e f = cc
added false n old new e f = f

-- ---- refusals behind parts that pass

pub node_later : (order : Order) (made : List MadeColumn) (parts : List Walk) (before mid : Before) (e : CheckRefusal) → at_node order made [] before ≡ Ok mid →
    Refused (walk_all parts mid) e → Refused (at_node order made parts before) e
node_later order made parts before mid e is h =
    refuses (at_node order made parts before) (onward (at_node order made [] before) (walk_all parts)) e (node_then order made parts before)
    (subst (λ x. Refused (onward x (walk_all parts)) e) (sym is) h)

pub first_later : (w : Walk) (ws : List Walk) (before mid : Before) (e : CheckRefusal) → w before ≡ Ok mid → Refused (walk_all ws mid) e → Refused (walk_all (w ∷ ws) before) e
first_later w ws before mid e is h = subst (λ x. Refused (onward x (walk_all ws)) e) (sym is) h
