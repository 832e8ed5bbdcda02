-- The parts of a node are smaller than it: a node is the same node over parts that carry a bound of their size.
use Rattle.std.proofs.Common.{◌≡◌, ℕ, ◌<◌, ◌≤◌, ◌∙◌, sym, arith}
use mathlib.Core.Sorted.{at, lift}
use denote.Hole.Carrier.{Values, out}
use denote.Hole.Rolled.{depth, depth_falls}
use Rattle.resolved_ast.specs.declared.rex.Rex.{Rex, out-Rex, map-Rex, map_is-Rex, size-Rex, size_is-Rex}
use Rattle.resolved_ast.specs.declared.rex.Rex.TheOpen.{Rex-F, Scan-F}
use Rattle.resolved_ast.specs.declared.rex.Rex.TheBlock.{the_members, member-Rex, member-Scan, the_sigs, the_bodies, the_carrier, the_depth}
use Rattle.resolved_ast.specs.declared.scan.Scan.{Scan, out-Scan, map-Scan, map_is-Scan, size-Scan, size_is-Scan}

-- a part below n levels, of each sort
abbrev pub RexBelow : ℕ → Type 0
RexBelow n = (c : Rex) × (size-Rex c < n)

abbrev pub ScanBelow : ℕ → Type 0
ScanBelow n = (c : Scan) × (size-Scan c < n)

pub smaller_rex : (x : Rex) (n : ℕ) → size-Rex x ≤ n → (y : Rex-F (RexBelow n) (ScanBelow n)) × (map-Rex (RexBelow n) (ScanBelow n) Rex Scan (λ e. e.0) (λ e. e.0) y ≡ out-Rex x)
unfolding out-Rex the_depth
smaller_rex x n h =
    let V = Values the_members the_sigs the_carrier in
    let P : (j : the_members) → V j → Type 0 = λ j c. depth the_members the_sigs the_carrier j c < n in
    let l = lift the_members (at the_members the_sigs the_bodies member-Rex) V P (out the_members the_sigs the_carrier member-Rex x) (depth_falls the_members the_sigs the_carrier member-Rex x n h) in
    (l.0, sym (map_is-Rex (λ j. (c : V j) × P j c) V (λ j e. e.0) l.0) ∙ l.1)

pub smaller_scan : (x : Scan) (n : ℕ) → size-Scan x ≤ n → (y : Scan-F (RexBelow n) (ScanBelow n)) × (map-Scan (RexBelow n) (ScanBelow n) Rex Scan (λ e. e.0) (λ e. e.0) y ≡ out-Scan x)
unfolding out-Scan the_depth
smaller_scan x n h =
    let V = Values the_members the_sigs the_carrier in
    let P : (j : the_members) → V j → Type 0 = λ j c. depth the_members the_sigs the_carrier j c < n in
    let l = lift the_members (at the_members the_sigs the_bodies member-Scan) V P (out the_members the_sigs the_carrier member-Scan x) (depth_falls the_members the_sigs the_carrier member-Scan x n h) in
    (l.0, sym (map_is-Scan (λ j. (c : V j) × P j c) V (λ j e. e.0) l.0) ∙ l.1)

pub some_rex : (x : Rex) → 0 < size-Rex x
some_rex x = omega (arith, size_is-Rex x)

pub some_scan : (x : Scan) → 0 < size-Scan x
some_scan x = omega (arith, size_is-Scan x)
