-- Where numbers, columns and lists of them end, and which they are.
use Rattle.std.proofs.Common.{◌≡◌, ℕ, Bool, true, false, not, ◌==◌, ◌||◌, List, [], ◌∷◌, ◌++◌, map, codes, Option, None, Some, refl, ap, sym, ◌∙◌, append_assoc, arith}
use Rattle.std.specs.Char.{is_ascii_digit}
use Rattle.std.proofs.lemmas.Bool.{false≢true}
use Rattle.std.proofs.lemmas.Grind.{common_steps}
use Rattle.sql_names.specs.Commas.{joined}
use Rattle.sql_names.specs.Spelling.{is_inner, quote_name}
use Rattle.sql_types.specs.TypeText.{type_text}
use Rattle.sql_types.specs.declared.sql_type.SqlType.{SqlType}
use Rattle.sql_texts.proofs.Numbers.{first_of}
use Rattle.resolved_ast.specs.declared.column.ColumnRef.{ColumnRef}
use Rattle.resolved_ast.specs.declared.column.MadeColumn.{MadeColumn}
use Rattle.resolved_ast.specs.declared.scan.Output.{Output}
use Rattle.resolved_ast.specs.Numeral.{numeral}
use Rattle.resolved_ast.specs.TreeText.{name_text, ref_text, made_text, output_text, list_text, or_dash}
use Rattle.resolved_ast.proofs.NumeralLaws.{numeral_digits, numeral_injective}
use Rattle.tree_texts.proofs.Joins.{after, each_by, joined_once, itself}
use Rattle.tree_texts.proofs.Names.{name_once, name_first, opens_name}
use Rattle.tree_texts.proofs.Runs.{ends, run_once}
use Rattle.tree_texts.proofs.Types.{type_once}

pub numeral_once : (n m : ℕ) (r s : List ℕ) → ends is_ascii_digit r ≡ true → ends is_ascii_digit s ≡ true → numeral n ++ r ≡ numeral m ++ s → (n ≡ m) × (r ≡ s)
numeral_once n m r s stop stop' e =
    let same = run_once is_ascii_digit (numeral n) (numeral m) r s (numeral_digits n) (numeral_digits m) stop stop' e in
    (numeral_injective n m same.0, same.1)

-- ---- a name, or none, before a mark

module _ (z : ℕ) (outer : is_inner z ≡ false) (no_name : opens_name z ≡ false) where
  stops_at : (r : List ℕ) → ends is_inner (z ∷ r) ≡ true
  stops_at r = ap not outer

  label_apart : (m r s : List ℕ) → z ∷ r ≡ quote_name m ++ (z ∷ s) → true ≡ false
  label_apart m r s e = sym (name_first m (z ∷ s)) ∙ ap (λ l. opens_name (first_of l)) (sym e) ∙ no_name

  label_once : (n m : Option (List ℕ)) (r s : List ℕ) → name_text n ++ (z ∷ r) ≡ name_text m ++ (z ∷ s) → (n ≡ m) × (r ≡ s)
  label_once None None r s e = (refl, cc)
  label_once None (Some m) r s e = absurd (false≢true (sym (label_apart m r s e)))
  label_once (Some n) None r s e = absurd (false≢true (sym (label_apart n s r (sym e))))
  label_once (Some n) (Some m) r s e =
      let same = name_once n m (z ∷ r) (z ∷ s) (stops_at r) (stops_at s) e in
      let behind : z ∷ r ≡ z ∷ s = same.1 in
      (ap (λ l. Some l) same.0, cc)

-- a letter, a backquote or the mark
abbrev begins : ℕ → ℕ → Bool
begins z c = opens_name c || c == z

name_begins : (z c : ℕ) → opens_name c ≡ true → begins z c ≡ true
name_begins z c is = rw is refl

label_first : (z : ℕ) (n : Option (List ℕ)) (r : List ℕ) → begins z z ≡ true → begins z (first_of (name_text n ++ (z ∷ r))) ≡ true
label_first z None r is = is
label_first z (Some n) r is = name_begins z (first_of (quote_name n ++ (z ∷ r))) (name_first n (z ∷ r))

-- ---- columns

-- the name of a column and its number
abbrev place : Option (List ℕ) → ℕ → List ℕ
place name n = name_text name ++ codes "#" ++ numeral n

place_split : (name : Option (List ℕ)) (n : ℕ) (r : List ℕ) → place name n ++ r ≡ name_text name ++ (35 ∷ (numeral n ++ r))
place_split name n r = append_assoc (name_text name ++ codes "#") (numeral n) r ∙ append_assoc (name_text name) (codes "#") (numeral n ++ r)

place_once : (a b : Option (List ℕ)) (n m : ℕ) (r s : List ℕ) → ends is_ascii_digit r ≡ true → ends is_ascii_digit s ≡ true → place a n ++ r ≡ place b m ++ s → (a ≡ b) × ((n ≡ m) × (r ≡ s))
place_once a b n m r s stop stop' e =
    let names = label_once 35 refl refl a b (numeral n ++ r) (numeral m ++ s) (sym (place_split a n r) ∙ e ∙ place_split b m s) in
    (names.0, numeral_once n m r s stop stop' names.1)

place_first : (name : Option (List ℕ)) (n : ℕ) (r : List ℕ) → begins 35 (first_of (place name n ++ r)) ≡ true
place_first name n r = ap (λ z. begins 35 (first_of z)) (place_split name n r) ∙ label_first 35 name (numeral n ++ r) refl

pub ref_once : (c d : ColumnRef) (r s : List ℕ) → ends is_ascii_digit r ≡ true → ends is_ascii_digit s ≡ true → ref_text c ++ r ≡ ref_text d ++ s → (c ≡ d) × (r ≡ s)
ref_once c d r s stop stop' e =
    let same = place_once c.name d.name c.id.0 d.id.0 r s stop stop' e in
    (λ i. record { name = same.0 i; id = record { 0 = same.1.0 i } }, same.1.1)

-- a column and its type
typed_split : (p : List ℕ) (ty : SqlType) (r : List ℕ) → ((p ++ codes " ") ++ type_text ty) ++ r ≡ p ++ (32 ∷ (type_text ty ++ r))
typed_split p ty r = append_assoc (p ++ codes " ") (type_text ty) r ∙ append_assoc p (codes " ") (type_text ty ++ r)

behind_space : (a b : SqlType) (r s : List ℕ) → ends is_inner r ≡ true → ends is_inner s ≡ true → 32 ∷ (type_text a ++ r) ≡ 32 ∷ (type_text b ++ s) → (a ≡ b) × (r ≡ s)
behind_space a b r s stop stop' e = let behind : type_text a ++ r ≡ type_text b ++ s = cc in type_once a b r s stop stop' behind

pub made_once : (c d : MadeColumn) (r s : List ℕ) → ends is_inner r ≡ true → ends is_inner s ≡ true → made_text c ++ r ≡ made_text d ++ s → (c ≡ d) × (r ≡ s)
made_once c d r s stop stop' e =
    let same = place_once c.name d.name c.id.0 d.id.0 (32 ∷ (type_text c.ty ++ r)) (32 ∷ (type_text d.ty ++ s)) refl refl
    (sym (typed_split (place c.name c.id.0) c.ty r) ∙ e ∙ typed_split (place d.name d.id.0) d.ty s) in
    let types = behind_space c.ty d.ty r s stop stop' same.1.1 in
    (λ i. record { name = same.0 i; id = record { 0 = same.1.0 i }; ty = types.0 i }, types.1)

made_first : (c : MadeColumn) (r : List ℕ) → begins 35 (first_of (made_text c ++ r)) ≡ true
made_first c r = ap (λ z. begins 35 (first_of z)) (typed_split (place c.name c.id.0) c.ty r) ∙ place_first c.name c.id.0 (32 ∷ (type_text c.ty ++ r))

output_split : (o : Output) (r : List ℕ) → output_text o ++ r ≡ name_text o.name ++ (61 ∷ (ref_text o.column ++ (32 ∷ (type_text o.ty ++ r))))
output_split o r =
    typed_split ((name_text o.name ++ codes "=") ++ ref_text o.column) o.ty r
    ∙ append_assoc (name_text o.name ++ codes "=") (ref_text o.column) (32 ∷ (type_text o.ty ++ r))
    ∙ append_assoc (name_text o.name) (codes "=") (ref_text o.column ++ (32 ∷ (type_text o.ty ++ r)))

pub output_once : (o p : Output) (r s : List ℕ) → ends is_inner r ≡ true → ends is_inner s ≡ true → output_text o ++ r ≡ output_text p ++ s → (o ≡ p) × (r ≡ s)
output_once o p r s stop stop' e =
    let names = label_once 61 refl refl o.name p.name (ref_text o.column ++ (32 ∷ (type_text o.ty ++ r))) (ref_text p.column ++ (32 ∷ (type_text p.ty ++ s))) (sym (output_split o r) ∙ e ∙ output_split p s) in
    let columns = ref_once o.column p.column (32 ∷ (type_text o.ty ++ r)) (32 ∷ (type_text p.ty ++ s)) refl refl names.1 in
    let types = behind_space o.ty p.ty r s stop stop' columns.1 in
    (λ i. record { name = names.0 i; column = columns.0 i; ty = types.0 i }, types.1)

output_first : (o : Output) (r : List ℕ) → begins 61 (first_of (output_text o ++ r)) ≡ true
output_first o r = ap (λ z. begins 61 (first_of z)) (output_split o r) ∙ label_first 61 o.name (ref_text o.column ++ (32 ∷ (type_text o.ty ++ r))) refl

-- ---- a column that may be missing

no_dash : (c : ℕ) → begins 35 c ≡ true → (c == 45) ≡ false
no_dash c is = grind (arith, common_steps)

dash_apart : (c : MadeColumn) (r s : List ℕ) → made_text c ++ r ≡ 45 ∷ s → true ≡ false
dash_apart c r s e = ap (λ z. first_of z == 45) (sym e) ∙ no_dash (first_of (made_text c ++ r)) (made_first c r)

pub dashed_once : (c d : Option MadeColumn) (r s : List ℕ) → ends is_inner r ≡ true → ends is_inner s ≡ true → or_dash made_text c ++ r ≡ or_dash made_text d ++ s → (c ≡ d) × (r ≡ s)
dashed_once None None r s stop stop' e = (refl, cc)
dashed_once None (Some d) r s stop stop' e = absurd (false≢true (sym (dash_apart d s r (sym e))))
dashed_once (Some c) None r s stop stop' e = absurd (false≢true (sym (dash_apart c r s e)))
dashed_once (Some c) (Some d) r s stop stop' e = let same = made_once c d r s stop stop' e in (ap (λ z. Some z) same.0, same.1)

-- ---- lists in square brackets

square_digits : (r : List ℕ) → after 93 r ≡ true → ends is_ascii_digit r ≡ true
square_digits [] stop = refl
square_digits (c ∷ r) stop = grind (arith, common_steps)

square_inner : (r : List ℕ) → after 93 r ≡ true → ends is_inner r ≡ true
square_inner [] stop = refl
square_inner (c ∷ r) stop = grind (arith, common_steps)

no_hash_close : (c : ℕ) → begins 35 c ≡ true → (c == 93) ≡ false
no_hash_close c is = grind (arith, common_steps)

no_equals_close : (c : ℕ) → begins 61 c ≡ true → (c == 93) ≡ false
no_equals_close c is = grind (arith, common_steps)

module _ {A : Type 0} (text : A → List ℕ) (once : (x y : A) (r s : List ℕ) → after 93 r ≡ true → after 93 s ≡ true → text x ++ r ≡ text y ++ s → (x ≡ y) × (r ≡ s))
    (opens : (x : A) (r : List ℕ) → (first_of (text x ++ r) == 93) ≡ false) where
  abbrev Any : A → Type 0
  Any x = Unit {0}

  abbrev ListLaw : A → Type 0
  ListLaw x = (y : A) (r s : List ℕ) → Any y → after 93 r ≡ true → after 93 s ≡ true → text x ++ r ≡ text y ++ s → (x ≡ y) × (r ≡ s)

  closed : (p r : List ℕ) → ((codes "[" ++ p) ++ codes "]") ++ r ≡ 91 ∷ (p ++ 93 ∷ r)
  closed p r = ap (λ l. 91 ∷ l) (append_assoc p (codes "]") r)

  list_once : (xs ys : List A) (r s : List ℕ) → list_text text xs ++ r ≡ list_text text ys ++ s → (xs ≡ ys) × (r ≡ s)
  unfolding list_text
  list_once xs ys r s e =
      let p = joined (map text xs) in
      let q = joined (map text ys) in
      let opened : 91 ∷ (p ++ 93 ∷ r) ≡ 91 ∷ (q ++ 93 ∷ s) = sym (closed p r) ∙ e ∙ closed q s in
      let behind : p ++ 93 ∷ r ≡ q ++ 93 ∷ s = cc in
      let same = joined_once text (λ x. x) Any 93 refl (λ x r any. opens x r) xs ys r s
      (each_by ListLaw (λ x y r s any. once x y r s) xs) (each_by Any (λ x. tt) xs) (each_by Any (λ x. tt) ys) behind in
      (sym (itself xs) ∙ same.0 ∙ itself ys, same.1)

pub refs_once : (xs ys : List ColumnRef) (r s : List ℕ) → list_text ref_text xs ++ r ≡ list_text ref_text ys ++ s → (xs ≡ ys) × (r ≡ s)
refs_once = list_once ref_text (λ x y r s stop stop'. ref_once x y r s (square_digits r stop) (square_digits s stop')) (λ x r. no_hash_close (first_of (ref_text x ++ r)) (place_first x.name x.id.0 r))

pub mades_once : (xs ys : List MadeColumn) (r s : List ℕ) → list_text made_text xs ++ r ≡ list_text made_text ys ++ s → (xs ≡ ys) × (r ≡ s)
mades_once = list_once made_text (λ x y r s stop stop'. made_once x y r s (square_inner r stop) (square_inner s stop')) (λ x r. no_hash_close (first_of (made_text x ++ r)) (made_first x r))

pub outputs_once : (xs ys : List Output) (r s : List ℕ) → list_text output_text xs ++ r ≡ list_text output_text ys ++ s → (xs ≡ ys) × (r ≡ s)
outputs_once = list_once output_text (λ x y r s stop stop'. output_once x y r s (square_inner r stop) (square_inner s stop')) (λ x r. no_equals_close (first_of (output_text x ++ r)) (output_first x r))
