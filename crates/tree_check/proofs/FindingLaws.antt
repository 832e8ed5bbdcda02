-- The first column that is referred to, in the columns of scans.
use Rattle.std.proofs.Common.{◌≡◌, ℕ, ◌==◌, Bool, true, false, ◌&&◌, ◌||◌, not, if◌then◌else◌, List, [], ◌∷◌, ◌++◌, map, Option, None, Some, refl, ap, sym, ◌∙◌}
use Rattle.std.specs.Prelude.{is_some}
use Rattle.std.proofs.lemmas.Slice.Eq.{bytes_eq-Decides}
use Rattle.std.proofs.lemmas.Bool.Decides.{Decides-eqb}
use Rattle.sql_types.specs.declared.sql_type.SqlType.{SqlType}
use Rattle.sql_types.specs.SameType.{same_label}
use Rattle.resolved_ast.specs.declared.column.ColumnRef.{ColumnRef}
use Rattle.resolved_ast.specs.declared.column.MadeColumn.{MadeColumn}
use Rattle.resolved_ast.specs.declared.rex.Compute.{Compute}
use Rattle.resolved_ast.specs.declared.rex.Rex.{Rex}
use Rattle.resolved_ast.specs.declared.rex.Rex.TheOpen.{Scan-F}
use Rattle.resolved_ast.specs.declared.rex.Rex.TheOpen as t
use Rattle.resolved_ast.specs.declared.scan.Scan.{Scan, out-Scan, roll-out-Scan, map-Scan, fold-roll-Scan}
use Rattle.resolved_ast.specs.Columns.{is_named, column_of, named_by, listed, computed_columns, scan_columns, columns}
use Rattle.resolved_ast.specs.Flaws.{sees, sees_such}
use Rattle.resolved_ast.specs.Parts.{there}
use Rattle.tree_check.specs.declared.asked.Asked.TheVariants as asked
use Rattle.tree_check.specs.Named.{refers, names, first_such, or_else, where_so}
use Rattle.tree_check.specs.declared.sight.Source.{Source}
use Rattle.tree_check.specs.Sights.{source_columns, columns_of}
use Rattle.tree_check.specs.Tests.{passes}

-- ---- the columns of a scan, one level at a time

abbrev pub columns_at : Scan-F Rex Scan → List MadeColumn
columns_at t.Single = []
columns_at (t.Table name number made) = made
columns_at (t.With ctes scan) = columns scan
columns_at (t.CteRef number made) = made
columns_at (t.Unnest kind element offset scan array condition) = columns scan ++ element ∷ there offset
columns_at (t.Join kind left right condition) = columns left ++ columns right
columns_at (t.Filter scan condition) = columns scan
columns_at (t.Project refs scan computed) = listed refs (columns scan ++ computed_columns computed)

abbrev no_rex : Rex → Unit {0}
no_rex x = tt

abbrev emptied : Compute Rex → Compute (Unit {0})
emptied c = record { column = c.column; expr = no_rex c.expr }

still_computed : (cs : List (Compute Rex)) → computed_columns (map emptied cs) ≡ computed_columns cs
still_computed [] = refl
still_computed (c ∷ cs) = ap (λ xs. c.column ∷ xs) (still_computed cs)

columned : (z : Scan-F Rex Scan) → scan_columns (map-Scan Rex Scan (Unit {0}) (List MadeColumn) no_rex columns z) ≡ columns_at z
columned t.Single = refl
columned (t.Table name number made) = refl
columned (t.With ctes scan) = refl
columned (t.CteRef number made) = refl
columned (t.Unnest kind element offset scan array condition) = refl
columned (t.Join kind left right condition) = refl
columned (t.Filter scan condition) = refl
columned (t.Project refs scan computed) = ap (λ xs. listed refs (columns scan ++ xs)) (still_computed computed)

pub columns_level : (x : Scan) → columns x ≡ columns_at (out-Scan x)
unfolding columns
columns_level x =
    ap columns (sym (roll-out-Scan x)) ∙ fold-roll-Scan (Unit {0}) (List MadeColumn) (λ rex. tt) scan_columns (out-Scan x) ∙ columned (out-Scan x)

pub columns_as : (x : Scan) (z : Scan-F Rex Scan) → out-Scan x ≡ z → columns x ≡ columns_at z
columns_as x z e = columns_level x ∙ ap columns_at e

-- ---- references

same_names : (a b : Option (List ℕ)) → same_label a b ≡ true → a ≡ b
same_names None None e = refl
same_names (Some a) (Some b) e = ap Some ((bytes_eq-Decides a b).0 e)
same_names None (Some b) e = cc
same_names (Some a) None e = cc

name_itself : (a : Option (List ℕ)) → same_label a a ≡ true
name_itself None = refl
name_itself (Some a) = (bytes_eq-Decides a a).1 refl

left_true : (a b : Bool) → (a && b) ≡ true → a ≡ true
left_true true b e = refl
left_true false b e = e

right_true : (a b : Bool) → (a && b) ≡ true → b ≡ true
right_true true b e = e
right_true false b e = cc

both_true : (a b : Bool) → a ≡ true → b ≡ true → (a && b) ≡ true
both_true a b e f = ap (λ x. x && b) e ∙ f

-- a number and a name that are the same
abbrev alike : ℕ → Option (List ℕ) → ℕ → Option (List ℕ) → Bool
alike m a n b = (m == n) && same_label a b

alike_same : (m n : ℕ) (a b : Option (List ℕ)) → alike m a n b ≡ true → (m ≡ n) × (a ≡ b)
alike_same m n a b e = ((Decides-eqb m n).0 (left_true (m == n) (same_label a b) e), same_names a b (right_true (m == n) (same_label a b) e))

alike_itself : (m n : ℕ) (a b : Option (List ℕ)) → m ≡ n → a ≡ b → alike m a n b ≡ true
alike_itself m n a b e f =
    both_true (m == n) (same_label a b) ((Decides-eqb m n).1 e) (ap (λ x. same_label x b) f ∙ name_itself b)

-- a column that both name: they refer to one; and a reference to the same names the same
named_as : (r s : ColumnRef) (c : MadeColumn) (b d : Bool) → refers r s ≡ b → is_named s c ≡ d → is_named r c ≡ ((b && d) || (not b && (not d && is_named r c)))
named_as r s c true true e f =
    let p = alike_same r.id.0 s.id.0 r.name s.name e in
    let q = alike_same s.id.0 c.id.0 s.name c.name f in
    alike_itself r.id.0 c.id.0 r.name c.name (p.0 ∙ q.0) (p.1 ∙ q.1)
named_as r s c true false e f =
    let p = alike_same r.id.0 s.id.0 r.name s.name e in
    ap (λ m. alike m r.name c.id.0 c.name) p.0 ∙ ap (λ a. alike s.id.0 a c.id.0 c.name) p.1 ∙ f
named_as r s c false true e f = absent (is_named r c) refl
  where
    absent : (b : Bool) → is_named r c ≡ b → b ≡ false
    absent false g = refl
    absent true g =
        let p = alike_same r.id.0 c.id.0 r.name c.name g in
        let q = alike_same s.id.0 c.id.0 s.name c.name f in
        sym (alike_itself r.id.0 s.id.0 r.name s.name (p.0 ∙ sym q.0) (p.1 ∙ sym q.1)) ∙ e
named_as r s c false false e f = refl

-- ---- the first such column

module _ (r : ColumnRef) (test : SqlType → Bool) where
  or_step : (b : Bool) (c : MadeColumn) (x y : Option MadeColumn) → (if b then Some c else or_else x y) ≡ or_else (if b then Some c else x) y
  or_step true c x y = refl
  or_step false c x y = refl

  pub found_append : (xs ys : List MadeColumn) → first_such r test (xs ++ ys) ≡ or_else (first_such r test xs) (first_such r test ys)
  found_append [] ys = refl
  found_append (x ∷ xs) ys =
      ap (λ z. if is_named r x && test x.ty then Some x else z) (found_append xs ys)
      ∙ or_step (is_named r x && test x.ty) x (first_such r test xs) (first_such r test ys)

  -- b: both refer to one; d: the column is named by the list's reference; n: by this one; u: the test takes it
  by_step : (b d n u : Bool) (c : MadeColumn) (x y : Option MadeColumn) → n ≡ ((b && d) || (not b && (not d && n))) → x ≡ where_so b y →
      (if d then (if n && u then Some c else x) else x) ≡ where_so b (if n && u then Some c else y)
  by_step true true true u c x y e f = ap (λ z. if u then Some c else z) f
  by_step true false true u c x y e f = cc
  by_step true true false u c x y e f = cc
  by_step true false false u c x y e f = f
  by_step false true true u c x y e f = cc
  by_step false true false u c x y e f = f
  by_step false false n u c x y e f = f

  named_step : (s : ColumnRef) (c : MadeColumn) (d : Bool) (xs : List MadeColumn) →
      first_such r test (if d then c ∷ xs else xs) ≡ (if d then (if is_named r c && test c.ty then Some c else first_such r test xs) else first_such r test xs)
  named_step s c true xs = refl
  named_step s c false xs = refl

  found_by : (s : ColumnRef) (cs : List MadeColumn) → first_such r test (named_by s cs) ≡ where_so (refers r s) (first_such r test cs)
  found_by s [] = none (refers r s)
    where
      none : (b : Bool) → None ≡ where_so {A = MadeColumn} b None
      none true = refl
      none false = refl
  found_by s (c ∷ cs) =
      named_step s c (is_named s c) (named_by s cs)
      ∙ by_step (refers r s) (is_named s c) (is_named r c) (test c.ty) c (first_such r test (named_by s cs)) (first_such r test cs)
      (named_as r s c (refers r s) (is_named s c) refl refl) (found_by s cs)

  or_where : (b d : Bool) (x : Option MadeColumn) → or_else (where_so b x) (where_so d x) ≡ where_so (b || d) x
  or_where true true None = refl
  or_where true true (Some c) = refl
  or_where true false None = refl
  or_where true false (Some c) = refl
  or_where false d x = refl

  pub found_listed : (refs : List ColumnRef) (cs : List MadeColumn) → first_such r test (listed refs cs) ≡ where_so (names r refs) (first_such r test cs)
  found_listed [] cs = refl
  found_listed (s ∷ refs) cs =
      found_append (named_by s cs) (listed refs cs)
      ∙ ap (λ x. or_else x (first_such r test (listed refs cs))) (found_by s cs)
      ∙ ap (or_else (where_so (refers r s) (first_such r test cs))) (found_listed refs cs)
      ∙ or_where (refers r s) (names r refs) (first_such r test cs)

  some_step : (b : Bool) (c : MadeColumn) (x : Option MadeColumn) (y : Bool) → is_some x ≡ y → is_some (if b then Some c else x) ≡ (b || y)
  some_step true c x y e = refl
  some_step false c x y e = e

  -- there is one
  pub some_such : (cs : List MadeColumn) → is_some (first_such r test cs) ≡ sees_such r test cs
  some_such [] = refl
  some_such (c ∷ cs) = some_step (is_named r c && test c.ty) c (first_such r test cs) (sees_such r test cs) (some_such cs)

with_so : (b : Bool) → (b && true) ≡ b
with_so true = refl
with_so false = refl

-- of whatever type
pub first_named : (r : ColumnRef) (cs : List MadeColumn) → first_such r (passes asked.Anything) cs ≡ column_of r cs
first_named r [] = refl
first_named r (c ∷ cs) =
    ap (λ b. if b then Some c else first_such r (passes asked.Anything) cs) (with_so (is_named r c))
    ∙ ap (λ x. if is_named r c then Some c else x) (first_named r cs)

pub seen_such : (r : ColumnRef) (cs : List MadeColumn) → sees_such r (passes asked.Anything) cs ≡ sees r cs
seen_such r cs = sym (some_such r (passes asked.Anything) cs) ∙ ap is_some (first_named r cs)

-- ---- sources, one after another

module _ (r : ColumnRef) (test : SqlType → Bool) where
  such_step : (b c d e : Bool) → c ≡ (d || e) → (b || c) ≡ ((b || d) || e)
  such_step true c d e h = refl
  such_step false c d e h = h

  such_append : (xs ys : List MadeColumn) → sees_such r test (xs ++ ys) ≡ (sees_such r test xs || sees_such r test ys)
  such_append [] ys = refl
  such_append (x ∷ xs) ys = such_step (is_named r x && test x.ty) (sees_such r test (xs ++ ys)) (sees_such r test xs) (sees_such r test ys) (such_append xs ys)

  pub skipped : (s : Source) (ss : List Source) → sees_such r test (source_columns s) ≡ false → sees_such r test (columns_of (s ∷ ss)) ≡ sees_such r test (columns_of ss)
  skipped s ss e = such_append (source_columns s) (columns_of ss) ∙ ap (λ b. b || sees_such r test (columns_of ss)) e

  pub hit : (s : Source) (ss : List Source) → sees_such r test (source_columns s) ≡ true → sees_such r test (columns_of (s ∷ ss)) ≡ true
  hit s ss e = such_append (source_columns s) (columns_of ss) ∙ ap (λ b. b || sees_such r test (columns_of ss)) e
