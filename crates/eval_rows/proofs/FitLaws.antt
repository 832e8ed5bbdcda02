-- Rows that are made of rows which fit their columns fit theirs.
use Rattle.std.proofs.Common.{◌≡◌, ℕ, zero, suc, Bool, true, false, ◌&&◌, List, [], ◌∷◌, ◌++◌, length, take, drop, replicate, Ok, refl, ap, ◌∙◌}
use Rattle.std.specs.Prelude.{if◌then◌else◌}
use Rattle.std.specs.List.{list_all}
use Rattle.sql_types.specs.declared.kinds.JoinKind.{JoinKind}
use Rattle.sql_types.specs.declared.kinds.JoinKind.TheVariants as join
use Rattle.sql_types.specs.declared.sql_type.Named.{Named}
use Rattle.sql_types.specs.declared.sql_type.SqlType.{SqlType, map-SqlType, out-SqlType}
use Rattle.sql_types.specs.declared.value.Value.{Value}
use Rattle.sql_types.specs.declared.value.Value.TheVariants.{Null, outs-Null}
use Rattle.sql_types.specs.Cut.{cut}
use Rattle.sql_types.specs.Fits.{fits, fits_layer, fits_row}
use Rattle.sql_types.specs.Joined as joined
use Rattle.sql_types.specs.Outcome.{Meaning}
use Rattle.sql_types.proofs.Opens.{fits-opens}
use Rattle.sql_types.proofs.TestParts.{first, second}
use Rattle.eval_rows.specs.Joins.{Joins}
use Rattle.std.proofs.lemmas.Bool.{false≢true}

pub both : {a b : Bool} → a ≡ true → b ≡ true → (a && b) ≡ true
both {a} {b} e f = ap (λ x. x && b) e ∙ f

-- ---- parts of a list

take_all_pass : {A : Type 0} (p : A → Bool) (list : List A) (n : ℕ) → list_all p list ≡ true → list_all p (take n list) ≡ true
take_all_pass p list zero all = refl
take_all_pass p [] (suc n) all = refl
take_all_pass p (x ∷ xs) (suc n) all = both (first _ _ all) (take_all_pass p xs n (second _ _ all))

drop_all_pass : {A : Type 0} (p : A → Bool) (list : List A) (n : ℕ) → list_all p list ≡ true → list_all p (drop n list) ≡ true
drop_all_pass p list zero all = all
drop_all_pass p [] (suc n) all = refl
drop_all_pass p (x ∷ xs) (suc n) all = drop_all_pass p xs n (second _ _ all)

pub cut_fits : {A : Type 0} (p : A → Bool) (list kept : List A) (skip count : ℕ) → kept ≡ cut list skip count → list_all p list ≡ true → list_all p kept ≡ true
cut_fits p list kept skip count is all = ap (list_all p) is ∙ take_all_pass p (drop skip list) count (drop_all_pass p list skip all)

pub append_pass : {A : Type 0} (p : A → Bool) (xs ys : List A) → list_all p xs ≡ true → list_all p ys ≡ true → list_all p (xs ++ ys) ≡ true
append_pass p [] ys left right = right
append_pass p (x ∷ xs) ys left right = both (first _ _ left) (append_pass p xs ys (second _ _ left) right)

-- ---- joins

null_fits : (ty : SqlType) → fits ty Null ≡ true
null_fits ty = fits-opens ty Null ∙ ap (fits_layer (map-SqlType SqlType (Value → Bool) fits (out-SqlType ty))) outs-Null

nulls_fit : (columns : List (Named SqlType)) → fits_row columns (replicate (length columns) Null) ≡ true
nulls_fit [] = refl
nulls_fit (c ∷ cs) = both (null_fits c.ty) (nulls_fit cs)

pair_fits : (cs ds : List (Named SqlType)) (xs ys : List Value) → fits_row cs xs ≡ true → fits_row ds ys ≡ true → fits_row (cs ++ ds) (xs ++ ys) ≡ true
pair_fits [] ds [] ys left right = right
pair_fits [] ds (x ∷ xs) ys left right = absurd (false≢true left)
pair_fits (c ∷ cs) ds [] ys left right = absurd (false≢true left)
pair_fits (c ∷ cs) ds (x ∷ xs) ys left right = both (first _ _ left) (pair_fits cs ds xs ys (second _ _ left) right)

module _ (cs ds : List (Named SqlType)) where
  abbrev joins : List joined.Row → Bool
  joins = list_all (fits_row (cs ++ ds))

  met_fits : (left : joined.Row) (rights : List joined.Row) (kept : List Bool) → fits_row cs left ≡ true → list_all (fits_row ds) rights ≡ true → joins (joined.met left rights kept) ≡ true
  met_fits left [] kept fit all = refl
  met_fits left (right ∷ rights) [] fit all = refl
  met_fits left (right ∷ rights) (true ∷ kept) fit all = both (pair_fits cs ds left right fit (first _ _ all)) (met_fits left rights kept fit (second _ _ all))
  met_fits left (right ∷ rights) (false ∷ kept) fit all = met_fits left rights kept fit (second _ _ all)

  null_right : (left : joined.Row) → fits_row cs left ≡ true → joins ((left ++ replicate (length ds) Null) ∷ []) ≡ true
  null_right left fit = both (pair_fits cs ds left (replicate (length ds) Null) fit (nulls_fit ds)) refl

  padded_fits : (kind : JoinKind) (left : joined.Row) (rows : List joined.Row) → fits_row cs left ≡ true → joins rows ≡ true → joins (joined.padded_right kind (length ds) left rows) ≡ true
  padded_fits join.Left left [] fit all = null_right left fit
  padded_fits join.Full left [] fit all = null_right left fit
  padded_fits join.Cross left [] fit all = all
  padded_fits join.Inner left [] fit all = all
  padded_fits join.Right left [] fit all = all
  padded_fits join.Left left (row ∷ rows) fit all = all
  padded_fits join.Full left (row ∷ rows) fit all = all
  padded_fits join.Cross left (row ∷ rows) fit all = all
  padded_fits join.Inner left (row ∷ rows) fit all = all
  padded_fits join.Right left (row ∷ rows) fit all = all

  left_fits : (kind : JoinKind) (lefts rights : List joined.Row) (pairs : joined.Pairs) → list_all (fits_row cs) lefts ≡ true → list_all (fits_row ds) rights ≡ true → joins (joined.from_left kind (length ds) lefts rights pairs) ≡ true
  left_fits kind [] rights pairs all right = refl
  left_fits kind (left ∷ lefts) rights [] all right = refl
  left_fits kind (left ∷ lefts) rights (kept ∷ pairs) all right =
      append_pass (fits_row (cs ++ ds)) (joined.padded_right kind (length ds) left (joined.met left rights kept)) _
      (padded_fits kind left (joined.met left rights kept) (first _ _ all) (met_fits left rights kept (first _ _ all) right))
      (left_fits kind lefts rights pairs (second _ _ all) right)

  alone_by : (b : Bool) (right : joined.Row) (rows : List joined.Row) → fits_row ds right ≡ true → joins rows ≡ true → joins (if b then rows else ((replicate (length cs) Null ++ right) ∷ rows)) ≡ true
  alone_by true right rows fit all = all
  alone_by false right rows fit all = both (pair_fits cs ds (replicate (length cs) Null) right (nulls_fit cs) fit) all

  alone_fits : (rights : List joined.Row) (pairs : joined.Pairs) → list_all (fits_row ds) rights ≡ true → joins (joined.alone (length cs) rights pairs) ≡ true
  alone_fits [] pairs all = refl
  alone_fits (right ∷ rights) pairs all = alone_by (joined.first_kept pairs) right (joined.alone (length cs) rights (joined.other_pairs pairs)) (first _ _ all) (alone_fits rights (joined.other_pairs pairs) (second _ _ all))

  right_fits : (kind : JoinKind) (rights : List joined.Row) (pairs : joined.Pairs) → list_all (fits_row ds) rights ≡ true → joins (joined.from_right kind (length cs) rights pairs) ≡ true
  right_fits join.Right rights pairs all = alone_fits rights pairs all
  right_fits join.Full rights pairs all = alone_fits rights pairs all
  right_fits join.Cross rights pairs all = refl
  right_fits join.Inner rights pairs all = refl
  right_fits join.Left rights pairs all = refl

  pub joined_fits : (kind : JoinKind) (lefts rights : List joined.Row) (pairs : joined.Pairs) → list_all (fits_row cs) lefts ≡ true → list_all (fits_row ds) rights ≡ true → joins (joined.joined kind (length cs) (length ds) lefts rights pairs) ≡ true
  joined_fits kind lefts rights pairs left right =
      append_pass (fits_row (cs ++ ds)) (joined.from_left kind (length ds) lefts rights pairs) (joined.from_right kind (length cs) rights pairs)
      (left_fits kind lefts rights pairs left right) (right_fits kind rights pairs right)

-- the rows that a join answers fit its columns
pub joins_fit : (gives : joined.Row → joined.Row → Meaning Bool) (kind : JoinKind) (columns cs ds : List (Named SqlType)) (left_width right_width : ℕ) (lefts rights ls rs rows : List joined.Row) → columns ≡ cs ++ ds →
    left_width ≡ length cs → right_width ≡ length ds → ls ≡ lefts → rs ≡ rights → Joins gives kind left_width right_width ls rs (Ok rows) →
    list_all (fits_row cs) lefts ≡ true → list_all (fits_row ds) rights ≡ true → list_all (fits_row columns) rows ≡ true
joins_fit gives kind columns cs ds left_width right_width lefts rights ls rs rows are left_is right_is lefts_are rights_are j left right =
    let rows_are : rows ≡ joined.joined kind (length cs) (length ds) lefts rights j.0 =
    j.2 ∙ ap (λ (n : ℕ). joined.joined kind n right_width ls rs j.0) left_is ∙ ap (λ (n : ℕ). joined.joined kind (length cs) n ls rs j.0) right_is
    ∙ ap (λ (z : List joined.Row). joined.joined kind (length cs) (length ds) z rs j.0) lefts_are ∙ ap (λ (z : List joined.Row). joined.joined kind (length cs) (length ds) lefts z j.0) rights_are in
    ap (λ (z : List (Named SqlType)). list_all (fits_row z) rows) are ∙ ap (list_all (fits_row (cs ++ ds))) rows_are ∙ joined_fits cs ds kind lefts rights j.0 left right

-- and so do those of a join by pairs that are known
pub rows_fit : (kind : JoinKind) (columns cs ds : List (Named SqlType)) (lefts rights : List joined.Row) (pairs : joined.Pairs) (rows : List joined.Row) → columns ≡ cs ++ ds →
    joined.Joined kind (length cs) (length ds) lefts rights pairs rows → list_all (fits_row cs) lefts ≡ true → list_all (fits_row ds) rights ≡ true → list_all (fits_row columns) rows ≡ true
rows_fit kind columns cs ds lefts rights pairs rows are rows_are left right =
    ap (λ (z : List (Named SqlType)). list_all (fits_row z) rows) are ∙ ap (list_all (fits_row (cs ++ ds))) rows_are ∙ joined_fits cs ds kind lefts rights pairs left right
