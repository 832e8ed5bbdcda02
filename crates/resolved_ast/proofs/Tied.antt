-- A tied relation holds of a tree exactly where its case holds of the node, over the relation itself: once for all relations whose
-- cases are monotone.
use Rattle.std.proofs.Common.{ℕ, zero, suc, ◌≤◌, sym, subst, arith}
use Rattle.resolved_ast.specs.declared.rex.Rex.{Rex, out-Rex, map-Rex, size-Rex}
use Rattle.resolved_ast.specs.declared.rex.Rex.TheOpen.{Rex-F, Scan-F}
use Rattle.resolved_ast.specs.declared.scan.Scan.{Scan, out-Scan, map-Scan, size-Scan}
use Rattle.resolved_ast.specs.Tie.{Relation, tied_at, tied}
use Rattle.resolved_ast.proofs.Smaller.{RexBelow, ScanBelow, smaller_rex, smaller_scan, some_rex, some_scan}

module _ (A B : Type 0) (R : Relation A B → Rex-F Rex Scan → A → Type 0) (S : Relation A B → Scan-F Rex Scan → B → Type 0) where
  -- the cases are monotone, over parts under any names
  abbrev pub RexMono : Type 1
  RexMono = (X Y : Type 0) (f : X → Rex) (g : Y → Scan) (p q : Relation A B) → ((x : X) (a : A) → p.rex (f x) a → q.rex (f x) a) → ((y : Y) (b : B) → p.scan (g y) b → q.scan (g y) b)
      → (z : Rex-F X Y) (a : A) → R p (map-Rex X Y Rex Scan f g z) a → R q (map-Rex X Y Rex Scan f g z) a

  abbrev pub ScanMono : Type 1
  ScanMono = (X Y : Type 0) (f : X → Rex) (g : Y → Scan) (p q : Relation A B) → ((x : X) (a : A) → p.rex (f x) a → q.rex (f x) a) → ((y : Y) (b : B) → p.scan (g y) b → q.scan (g y) b)
      → (z : Scan-F X Y) (b : B) → S p (map-Scan X Y Rex Scan f g z) b → S q (map-Scan X Y Rex Scan f g z) b

  module _ (rm : RexMono) (sm : ScanMono) where
    abbrev L : ℕ → Relation A B
    L = tied_at A B R S

    abbrev All : Relation A B
    All = tied A B R S

    at_rex : (k : ℕ) (p q : Relation A B) (x : Rex) → size-Rex x ≤ k → ((c : RexBelow k) (a : A) → p.rex c.0 a → q.rex c.0 a) → ((c : ScanBelow k) (b : B) → p.scan c.0 b → q.scan c.0 b) → (a : A) → R p (out-Rex x) a → R q (out-Rex x) a
    at_rex k p q x le f g a h =
        let y = smaller_rex x k le in
        subst (λ z. R q z a) y.1 (rm (RexBelow k) (ScanBelow k) (λ c. c.0) (λ c. c.0) p q f g y.0 a (subst (λ z. R p z a) (sym y.1) h))

    at_scan : (k : ℕ) (p q : Relation A B) (x : Scan) → size-Scan x ≤ k → ((c : RexBelow k) (a : A) → p.rex c.0 a → q.rex c.0 a) → ((c : ScanBelow k) (b : B) → p.scan c.0 b → q.scan c.0 b) → (b : B) → S p (out-Scan x) b → S q (out-Scan x) b
    at_scan k p q x le f g b h =
        let y = smaller_scan x k le in
        subst (λ z. S q z b) y.1 (sm (RexBelow k) (ScanBelow k) (λ c. c.0) (λ c. c.0) p q f g y.0 b (subst (λ z. S p z b) (sym y.1) h))

    mutual
      unfolding tied_at

      stay_rex : (n m : ℕ) (x : Rex) → size-Rex x ≤ n → size-Rex x ≤ m → (a : A) → (L n).rex x a → (L m).rex x a
      stay_rex zero m x i j a h = absurd (omega (arith, some_rex x))
      stay_rex (suc n) zero x i j a h = absurd (omega (arith, some_rex x))
      stay_rex (suc n) (suc m) x i j a h = at_rex (size-Rex x) (L n) (L m) x (omega arith) (λ c. stay_rex n m c.0 (omega (arith, c.1)) (omega (arith, c.1))) (λ c. stay_scan n m c.0 (omega (arith, c.1)) (omega (arith, c.1))) a h

      stay_scan : (n m : ℕ) (x : Scan) → size-Scan x ≤ n → size-Scan x ≤ m → (b : B) → (L n).scan x b → (L m).scan x b
      stay_scan zero m x i j b h = absurd (omega (arith, some_scan x))
      stay_scan (suc n) zero x i j b h = absurd (omega (arith, some_scan x))
      stay_scan (suc n) (suc m) x i j b h = at_scan (size-Scan x) (L n) (L m) x (omega arith) (λ c. stay_rex n m c.0 (omega (arith, c.1)) (omega (arith, c.1))) (λ c. stay_scan n m c.0 (omega (arith, c.1)) (omega (arith, c.1))) b h

    pub opens_rex : (x : Rex) (a : A) → (tied A B R S).rex x a → R (tied A B R S) (out-Rex x) a
    unfolding tied tied_at
    opens_rex x a h =
        let k = size-Rex x in
        at_rex k (L k) All x (omega arith) (λ c. stay_rex k (size-Rex c.0) c.0 (omega (arith, c.1)) (omega arith)) (λ c. stay_scan k (size-Scan c.0) c.0 (omega (arith, c.1)) (omega arith)) a (stay_rex k (suc k) x (omega arith) (omega arith) a h)

    pub closes_rex : (x : Rex) (a : A) → R (tied A B R S) (out-Rex x) a → (tied A B R S).rex x a
    unfolding tied tied_at
    closes_rex x a h =
        let k = size-Rex x in
        stay_rex (suc k) k x (omega arith) (omega arith) a (at_rex k All (L k) x (omega arith) (λ c. stay_rex (size-Rex c.0) k c.0 (omega arith) (omega (arith, c.1))) (λ c. stay_scan (size-Scan c.0) k c.0 (omega arith) (omega (arith, c.1))) a h)

    pub opens_scan : (x : Scan) (b : B) → (tied A B R S).scan x b → S (tied A B R S) (out-Scan x) b
    unfolding tied tied_at
    opens_scan x b h =
        let k = size-Scan x in
        at_scan k (L k) All x (omega arith) (λ c. stay_rex k (size-Rex c.0) c.0 (omega (arith, c.1)) (omega arith)) (λ c. stay_scan k (size-Scan c.0) c.0 (omega (arith, c.1)) (omega arith)) b (stay_scan k (suc k) x (omega arith) (omega arith) b h)

    pub closes_scan : (x : Scan) (b : B) → S (tied A B R S) (out-Scan x) b → (tied A B R S).scan x b
    unfolding tied tied_at
    closes_scan x b h =
        let k = size-Scan x in
        stay_scan (suc k) k x (omega arith) (omega arith) b (at_scan k All (L k) x (omega arith) (λ c. stay_rex (size-Rex c.0) k c.0 (omega arith) (omega (arith, c.1))) (λ c. stay_scan (size-Scan c.0) k c.0 (omega arith) (omega (arith, c.1))) b h)
