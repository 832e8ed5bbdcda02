-- Where the spelling of a type ends, and which type it is.
use Rattle.std.proofs.Common.{◌≡◌, ℕ, Bool, true, false, ◌==◌, if◌then◌else◌, List, [], ◌∷◌, ◌++◌, map, codes, Option, None, Some, refl, ap, sym, subst, ◌∙◌, append_assoc, arith}
use Rattle.std.specs.List.{list_all}
use Rattle.std.specs.Str.{bytes_eq}
use Rattle.std.proofs.lemmas.Bool.{false≢true}
use Rattle.std.proofs.lemmas.Grind.{common_steps}
use Rattle.sql_names.specs.Commas.{joined}
use Rattle.sql_names.specs.Spelling.{is_letter, is_inner, is_plain, quoted, quote_name}
use Rattle.sql_types.specs.TypeText.{name_front, named_text, type_layer, type_text, column_text}
use Rattle.sql_types.specs.declared.sql_type.Named.{Named}
use Rattle.sql_types.specs.declared.sql_type.SqlType.{SqlType, map-SqlType, out-SqlType, roll-SqlType, roll-out-SqlType, out-roll-SqlType, fold-SqlType, fold-roll-SqlType, ind-SqlType}
use Rattle.sql_types.specs.declared.sql_type.SqlType.TheOpen as t
use Rattle.sql_types.specs.declared.sql_type.SqlType.TheShapes as shapes
use Rattle.sql_texts.proofs.Numbers.{first_of}
use Rattle.tree_texts.proofs.Joins.{after, Each, joined_once, itself}
use Rattle.tree_texts.proofs.Names.{plain_run, name_once, name_first, opens_name}
use Rattle.tree_texts.proofs.Runs.{ends, run_once}

-- ---- a type is its word and what stands between `<` and `>`

data Inside (E : Type 0) : Type 0 where
  none : Inside E
  element : E → Inside E
  fields : List (Named E) → Inside E

abbrev word : {E : Type 0} → t.SqlType-F E → List ℕ
word t.Bool = codes "BOOL"
word t.Int32 = codes "INT32"
word t.Int64 = codes "INT64"
word t.Uint32 = codes "UINT32"
word t.Uint64 = codes "UINT64"
word t.Text = codes "STRING"
word t.Bytes = codes "BYTES"
word t.Date = codes "DATE"
word (t.Array e) = codes "ARRAY"
word (t.Struct fs) = codes "STRUCT"

abbrev inside : {E : Type 0} → t.SqlType-F E → Inside E
inside (t.Array e) = element e
inside (t.Struct fs) = fields fs
inside t.Bool = none
inside _ = none

abbrev plain : {E : Type 0} → List ℕ → t.SqlType-F E
plain w =
    if bytes_eq w (codes "BOOL") then t.Bool else if bytes_eq w (codes "INT32") then t.Int32 else if bytes_eq w (codes "INT64") then t.Int64 else
    if bytes_eq w (codes "UINT32") then t.Uint32 else if bytes_eq w (codes "UINT64") then t.Uint64 else if bytes_eq w (codes "STRING") then t.Text else
    if bytes_eq w (codes "BYTES") then t.Bytes else t.Date

abbrev build : {E : Type 0} → List ℕ → Inside E → t.SqlType-F E
build w none = plain w
build w (element e) = t.Array e
build w (fields fs) = t.Struct fs

whole : (a : t.SqlType-F SqlType) → build (word a) (inside a) ≡ a
whole t.Bool = refl
whole _ = refl

-- which of the three stands behind a word
abbrev sort : {E : Type 0} → Inside E → ℕ
sort none = 0
sort (element e) = 1
sort (fields fs) = 2

abbrev sort_of : List ℕ → ℕ
sort_of w = if bytes_eq w (codes "ARRAY") then 1 else if bytes_eq w (codes "STRUCT") then 2 else 0

sorted : (a : t.SqlType-F SqlType) → sort_of (word a) ≡ sort (inside a)
sorted t.Bool = refl
sorted _ = refl

word_run : (a : t.SqlType-F SqlType) → list_all is_inner (word a) ≡ true
word_run t.Bool = refl
word_run _ = refl

abbrev inside_text : Inside SqlType → List ℕ
inside_text none = []
inside_text (element e) = (codes "<" ++ type_text e) ++ codes ">"
inside_text (fields fs) = (codes "<" ++ joined (map column_text fs)) ++ codes ">"

abbrev text_at : t.SqlType-F SqlType → List ℕ
text_at a = word a ++ inside_text (inside a)

named : (fs : List (Named SqlType)) → map named_text (map (shapes.former-SqlType-Struct-0-at-2.map SqlType (List ℕ) type_text) fs) ≡ map column_text fs
named [] = refl
named (f ∷ fs) = ap (λ l. column_text f ∷ l) (named fs)

layer : (a : t.SqlType-F SqlType) → type_layer (map-SqlType SqlType (List ℕ) type_text a) ≡ text_at a
layer (t.Struct fs) = ap (λ l. (codes "STRUCT<" ++ joined l) ++ codes ">") (named fs)
layer t.Bool = refl
layer _ = refl

type_opens : (ty : SqlType) → type_text ty ≡ text_at (out-SqlType ty)
unfolding type_text
type_opens ty = ap (fold-SqlType (List ℕ) type_layer) (sym (roll-out-SqlType ty)) ∙ fold-roll-SqlType (List ℕ) type_layer (out-SqlType ty) ∙ layer (out-SqlType ty)

inside_ends : (i : Inside SqlType) (r : List ℕ) → ends is_inner r ≡ true → ends is_inner (inside_text i ++ r) ≡ true
inside_ends none r stop = stop
inside_ends (element e) r stop = refl
inside_ends (fields fs) r stop = refl

-- a word and what stands behind it
type_split : (ty : SqlType) (r : List ℕ) → type_text ty ++ r ≡ word (out-SqlType ty) ++ (inside_text (inside (out-SqlType ty)) ++ r)
type_split ty r = ap (λ l. l ++ r) (type_opens ty) ∙ append_assoc (word (out-SqlType ty)) (inside_text (inside (out-SqlType ty))) r

word_first : (a : t.SqlType-F SqlType) (r : List ℕ) → is_letter (first_of (word a ++ r)) ≡ true
word_first t.Bool r = refl
word_first _ r = refl

pub type_first : (ty : SqlType) (r : List ℕ) → is_letter (first_of (type_text ty ++ r)) ≡ true
type_first ty r = ap (λ z. is_letter (first_of z)) (type_split ty r) ∙ word_first (out-SqlType ty) (inside_text (inside (out-SqlType ty)) ++ r)

-- ---- the law, of a type whose parts have it

abbrev Told : SqlType → Type 0
Told ty = (other : SqlType) (r s : List ℕ) → ends is_inner r ≡ true → ends is_inner s ≡ true → type_text ty ++ r ≡ type_text other ++ s → (ty ≡ other) × (r ≡ s)

-- ---- fields

after_ends : (r : List ℕ) → after 62 r ≡ true → ends is_inner r ≡ true
after_ends [] stop = absurd (false≢true stop)
after_ends (c ∷ r) stop = grind (arith, common_steps)

space_after : (i : Inside SqlType) (r t : List ℕ) → after 62 r ≡ true → inside_text i ++ r ≡ 32 ∷ t → true ≡ false
space_after none r t stop e = sym stop ∙ ap (after 62) e
space_after (element x) r t stop e = ap (λ z. first_of z == 60) e
space_after (fields fs) r t stop e = ap (λ z. first_of z == 60) e

-- a type without a name before it isn't a name and a space
unnamed_by : (a : SqlType) (m : List ℕ) (r u : List ℕ) (p : Bool) → is_plain m ≡ p → after 62 r ≡ true → type_text a ++ r ≡ (if p then m else quoted 96 m) ++ (32 ∷ u) → true ≡ false
unnamed_by a m r u true is stop e =
    let i = inside (out-SqlType a) in
    space_after i r u stop
    (run_once is_inner (word (out-SqlType a)) m (inside_text i ++ r) (32 ∷ u) (word_run (out-SqlType a)) (plain_run m is) (inside_ends i r (after_ends r stop)) refl (sym (type_split a r) ∙ e)).1
unnamed_by a m r u false is stop e = sym (type_first a r) ∙ ap (λ z. is_letter (first_of z)) e

unnamed : (a : SqlType) (m : List ℕ) (r u : List ℕ) → after 62 r ≡ true → type_text a ++ r ≡ quote_name m ++ (32 ∷ u) → true ≡ false
unnamed a m r u = unnamed_by a m r u (is_plain m) refl

-- a name, a space and a type
name_split : (m : List ℕ) (p r : List ℕ) → ((quote_name m ++ codes " ") ++ p) ++ r ≡ quote_name m ++ (32 ∷ (p ++ r))
name_split m p r = append_assoc (quote_name m ++ codes " ") p r ∙ append_assoc (quote_name m) (codes " ") (p ++ r)

by_name : (n m : Option (List ℕ)) (a b : SqlType) (r s : List ℕ) → Told a → after 62 r ≡ true → after 62 s ≡ true
    → (name_front n ++ type_text a) ++ r ≡ (name_front m ++ type_text b) ++ s → (n ≡ m) × ((a ≡ b) × (r ≡ s))
by_name None None a b r s told stop stop' e = (refl, told b r s (after_ends r stop) (after_ends s stop') e)
by_name None (Some m) a b r s told stop stop' e = absurd (false≢true (sym (unnamed a m r (type_text b ++ s) stop (e ∙ name_split m (type_text b) s))))
by_name (Some n) None a b r s told stop stop' e = absurd (false≢true (sym (unnamed b n s (type_text a ++ r) stop' (sym e ∙ name_split n (type_text a) r))))
by_name (Some n) (Some m) a b r s told stop stop' e =
    let names = name_once n m (32 ∷ (type_text a ++ r)) (32 ∷ (type_text b ++ s)) refl refl (sym (name_split n (type_text a) r) ∙ e ∙ name_split m (type_text b) s) in
    let spaced : 32 ∷ (type_text a ++ r) ≡ 32 ∷ (type_text b ++ s) = names.1 in
    let behind : type_text a ++ r ≡ type_text b ++ s = cc in
    (ap (λ z. Some z) names.0, told b r s (after_ends r stop) (after_ends s stop') behind)

field_once : (f g : Named SqlType) (r s : List ℕ) → Told f.ty → after 62 r ≡ true → after 62 s ≡ true → column_text f ++ r ≡ column_text g ++ s → (f ≡ g) × (r ≡ s)
field_once f g r s told stop stop' e =
    let same = by_name f.name g.name f.ty g.ty r s told stop stop' e in
    (λ i. record { name = same.0 i; ty = same.1.0 i }, same.1.1)

no_close : (c : ℕ) → opens_name c ≡ true → (c == 62) ≡ false
no_close c is = grind (arith, common_steps)

letter_name : (c : ℕ) → is_letter c ≡ true → opens_name c ≡ true
letter_name c is = rw is refl

field_first : (n : Option (List ℕ)) (a : SqlType) (r : List ℕ) → opens_name (first_of ((name_front n ++ type_text a) ++ r)) ≡ true
field_first None a r = letter_name (first_of (type_text a ++ r)) (type_first a r)
field_first (Some n) a r = ap (λ z. opens_name (first_of z)) (name_split n (type_text a) r) ∙ name_first n (32 ∷ (type_text a ++ r))

abbrev With : Type 0
With = (ty : SqlType) × Told ty

abbrev bare_fields : List (Named With) → List (Named SqlType)
bare_fields = map (shapes.former-SqlType-Struct-0-at-2.map With SqlType (λ e. e.0))

abbrev Any : Named SqlType → Type 0
Any f = Unit {0}

any_fields : (fs : List (Named SqlType)) → Each Any fs
any_fields [] = tt
any_fields (f ∷ fs) = (tt, any_fields fs)

abbrev FieldLaw : Named SqlType → Type 0
FieldLaw f = (g : Named SqlType) (r s : List ℕ) → Any g → after 62 r ≡ true → after 62 s ≡ true → column_text f ++ r ≡ column_text g ++ s → (f ≡ g) × (r ≡ s)

field_laws : (fs : List (Named With)) → Each FieldLaw (bare_fields fs)
field_laws [] = tt
field_laws (f ∷ fs) = (λ g r s any. field_once (record { name = f.name; ty = f.ty.0 }) g r s f.ty.1, field_laws fs)

fields_once : (fs : List (Named With)) (gs : List (Named SqlType)) (r s : List ℕ) → joined (map column_text (bare_fields fs)) ++ 62 ∷ r ≡ joined (map column_text gs) ++ 62 ∷ s → (bare_fields fs ≡ gs) × (r ≡ s)
fields_once fs gs r s e =
    let same = joined_once column_text (λ f. f) Any 62 refl (λ f r any. no_close (first_of (column_text f ++ r)) (field_first f.name f.ty r)) (bare_fields fs) gs r s
    (field_laws fs) (any_fields (bare_fields fs)) (any_fields gs) e in
    (sym (itself (bare_fields fs)) ∙ same.0 ∙ itself gs, same.1)

-- ---- one level

abbrev bare : t.SqlType-F With → t.SqlType-F SqlType
bare = map-SqlType With SqlType (λ e. e.0)

abbrev bare_inside : Inside With → Inside SqlType
bare_inside none = none
bare_inside (element e) = element e.0
bare_inside (fields fs) = fields (bare_fields fs)

inside_bare : (parts : t.SqlType-F With) → inside (bare parts) ≡ bare_inside (inside parts)
inside_bare t.Bool = refl
inside_bare _ = refl

closed : (p r : List ℕ) → ((codes "<" ++ p) ++ codes ">") ++ r ≡ 60 ∷ (p ++ 62 ∷ r)
closed p r = ap (λ l. 60 ∷ l) (append_assoc p (codes ">") r)

between : (p q r s : List ℕ) → ((codes "<" ++ p) ++ codes ">") ++ r ≡ ((codes "<" ++ q) ++ codes ">") ++ s → p ++ 62 ∷ r ≡ q ++ 62 ∷ s
between p q r s e = let opened : 60 ∷ (p ++ 62 ∷ r) ≡ 60 ∷ (q ++ 62 ∷ s) = sym (closed p r) ∙ e ∙ closed q s in cc

inside_once : (i : Inside With) (j : Inside SqlType) (r s : List ℕ) → sort (bare_inside i) ≡ sort j → inside_text (bare_inside i) ++ r ≡ inside_text j ++ s → (bare_inside i ≡ j) × (r ≡ s)
inside_once none none r s is e = (refl, e)
inside_once (element x) (element y) r s is e =
    let same = x.1 y (62 ∷ r) (62 ∷ s) refl refl (between (type_text x.0) (type_text y) r s e) in
    let behind : 62 ∷ r ≡ 62 ∷ s = same.1 in
    (ap element same.0, cc)
inside_once (fields fs) (fields gs) r s is e =
    let same = fields_once fs gs r s (between (joined (map column_text (bare_fields fs))) (joined (map column_text gs)) r s e) in
    (ap fields same.0, same.1)
inside_once none (element y) r s is e = absurd cc
inside_once none (fields gs) r s is e = absurd cc
inside_once (element x) none r s is e = absurd cc
inside_once (element x) (fields gs) r s is e = absurd cc
inside_once (fields fs) none r s is e = absurd cc
inside_once (fields fs) (element y) r s is e = absurd cc

level_once : (parts : t.SqlType-F With) (b : t.SqlType-F SqlType) (r s : List ℕ) → ends is_inner r ≡ true → ends is_inner s ≡ true
    → word (bare parts) ++ (inside_text (inside (bare parts)) ++ r) ≡ word b ++ (inside_text (inside b) ++ s) → (bare parts ≡ b) × (r ≡ s)
level_once parts b r s stop stop' e =
    let a = bare parts in
    let words = run_once is_inner (word a) (word b) (inside_text (inside a) ++ r) (inside_text (inside b) ++ s) (word_run a) (word_run b) (inside_ends (inside a) r stop) (inside_ends (inside b) s stop') e in
    let is = inside_bare parts in
    let same = inside_once (inside parts) (inside b) r s (ap sort (sym is) ∙ sym (sorted a) ∙ ap sort_of words.0 ∙ sorted b) (ap (λ i. inside_text i ++ r) (sym is) ∙ words.1) in
    (sym (whole a) ∙ (λ i. build (words.0 i) ((is ∙ same.0) i)) ∙ whole b, same.1)

step : (parts : t.SqlType-F With) → Told (roll-SqlType (bare parts))
step parts other r s stop stop' e =
    let ty = roll-SqlType (bare parts) in
    let level = out-roll-SqlType (bare parts) in
    let same = level_once parts (out-SqlType other) r s stop stop'
    (ap (λ a. word a ++ (inside_text (inside a) ++ r)) (sym level) ∙ sym (type_split ty r) ∙ e ∙ type_split other s) in
    (ap roll-SqlType same.0 ∙ roll-out-SqlType other, same.1)

-- two types, with no letter or digit behind them
pub type_once : (ty other : SqlType) (r s : List ℕ) → ends is_inner r ≡ true → ends is_inner s ≡ true → type_text ty ++ r ≡ type_text other ++ s → (ty ≡ other) × (r ≡ s)
type_once = ind-SqlType Told (λ ty parts is. subst (λ l. Told (roll-SqlType l)) is (step parts))
