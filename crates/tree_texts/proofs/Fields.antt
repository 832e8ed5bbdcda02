-- The fields of a node's line: where each ends, and which it is. How many there are and of which sorts is known.
use Rattle.std.proofs.Common.{◌≡◌, ℕ, Bool, true, false, ◌==◌, ◌||◌, List, [], ◌∷◌, ◌++◌, map, Option, refl, ap, sym, ◌∙◌, append_assoc, arith}
use Rattle.std.specs.Char.{is_ascii_digit}
use Rattle.std.specs.List.{list_all}
use Rattle.std.proofs.lemmas.Grind.{common_steps}
use Rattle.sql_names.specs.Spelling.{is_inner, quote_name}
use Rattle.sql_types.specs.Fits.{fits}
use Rattle.sql_types.specs.TypeText.{type_text}
use Rattle.sql_types.specs.declared.sql_type.SqlType.{SqlType}
use Rattle.sql_types.specs.declared.value.Value.{Value}
use Rattle.sql_ast.specs.Literals.{LiteralText}
use Rattle.resolved_ast.specs.declared.column.ColumnRef.{ColumnRef}
use Rattle.resolved_ast.specs.declared.column.MadeColumn.{MadeColumn}
use Rattle.resolved_ast.specs.declared.scan.Output.{Output}
use Rattle.resolved_ast.specs.Numeral.{numeral}
use Rattle.resolved_ast.specs.TreeText.{ref_text, made_text, output_text, list_text, or_dash, spaced}
use Rattle.tree_texts.proofs.Columns.{numeral_once, ref_once, made_once, dashed_once, refs_once, mades_once, outputs_once}
use Rattle.tree_texts.proofs.Joins.{Each}
use Rattle.tree_texts.proofs.Literals.{literal_once}
use Rattle.tree_texts.proofs.Names.{name_once}
use Rattle.tree_texts.proofs.Runs.{ends, run_once}
use Rattle.tree_texts.proofs.Types.{type_once}

-- a value and its type stand together, since the one is read by the other
pub data Field : Type 0 where
  literal : Value → SqlType → Field
  name : List ℕ → Field
  type : SqlType → Field
  word : List ℕ → Field
  number : ℕ → Field
  column : ColumnRef → Field
  columns : List ColumnRef → Field
  made : MadeColumn → Field
  made_there : Option MadeColumn → Field
  mades : List MadeColumn → Field
  outputs : List Output → Field

abbrev pub field_text : Field → List ℕ
field_text (literal x ty) = LiteralText x ++ 32 ∷ type_text ty
field_text (name n) = quote_name n
field_text (type ty) = type_text ty
field_text (word w) = w
field_text (number n) = numeral n
field_text (column c) = ref_text c
field_text (columns cs) = list_text ref_text cs
field_text (made c) = made_text c
field_text (made_there c) = or_dash made_text c
field_text (mades cs) = list_text made_text cs
field_text (outputs os) = list_text output_text os

abbrev pub sort : Field → ℕ
sort (literal x ty) = 0
sort (name n) = 1
sort (type ty) = 2
sort (word w) = 3
sort (number n) = 4
sort (column c) = 5
sort (columns cs) = 6
sort (made c) = 7
sort (made_there c) = 8
sort (mades cs) = 9
sort (outputs os) = 10

-- a value fits its type, and a word has letters and digits alone
abbrev pub Fine : Field → Type 0
Fine (literal x ty) = fits ty x ≡ true
Fine (word w) = list_all is_inner w ≡ true
Fine (name n) = Unit {0}
Fine _ = Unit {0}

-- behind a field stands a space, or the line ends
abbrev pub breaks : List ℕ → Bool
breaks [] = false
breaks (c ∷ r) = c == 32 || c == 10

pub breaks_inner : (r : List ℕ) → breaks r ≡ true → ends is_inner r ≡ true
breaks_inner [] stop = refl
breaks_inner (c ∷ r) stop = grind (arith, common_steps)

breaks_digits : (r : List ℕ) → breaks r ≡ true → ends is_ascii_digit r ≡ true
breaks_digits [] stop = refl
breaks_digits (c ∷ r) stop = grind (arith, common_steps)

under : {A B : Type 0} {x y : A} {r s : List ℕ} (f : A → B) → (x ≡ y) × (r ≡ s) → (f x ≡ f y) × (r ≡ s)
under f same = (ap f same.0, same.1)

field_once : (f g : Field) (r s : List ℕ) → sort f ≡ sort g → Fine f → Fine g → breaks r ≡ true → breaks s ≡ true → field_text f ++ r ≡ field_text g ++ s → (f ≡ g) × (r ≡ s)
field_once (literal x a) (literal y b) r s is fine fine' stop stop' e =
    let same = literal_once x y a b r s fine fine' (breaks_inner r stop) (breaks_inner s stop') e in
    (λ i. literal (same.0 i) (same.1.0 i), same.1.1)
field_once (name n) (name m) r s is fine fine' stop stop' e = under name (name_once n m r s (breaks_inner r stop) (breaks_inner s stop') e)
field_once (type a) (type b) r s is fine fine' stop stop' e = under type (type_once a b r s (breaks_inner r stop) (breaks_inner s stop') e)
field_once (word w) (word v) r s is fine fine' stop stop' e = under word (run_once is_inner w v r s fine fine' (breaks_inner r stop) (breaks_inner s stop') e)
field_once (number n) (number m) r s is fine fine' stop stop' e = under number (numeral_once n m r s (breaks_digits r stop) (breaks_digits s stop') e)
field_once (column c) (column d) r s is fine fine' stop stop' e = under column (ref_once c d r s (breaks_digits r stop) (breaks_digits s stop') e)
field_once (columns cs) (columns ds) r s is fine fine' stop stop' e = under columns (refs_once cs ds r s e)
field_once (made c) (made d) r s is fine fine' stop stop' e = under made (made_once c d r s (breaks_inner r stop) (breaks_inner s stop') e)
field_once (made_there c) (made_there d) r s is fine fine' stop stop' e = under made_there (dashed_once c d r s (breaks_inner r stop) (breaks_inner s stop') e)
field_once (mades cs) (mades ds) r s is fine fine' stop stop' e = under mades (mades_once cs ds r s e)
field_once (outputs os) (outputs ps) r s is fine fine' stop stop' e = under outputs (outputs_once os ps r s e)
field_once _ _ r s is fine fine' stop stop' e = absurd cc

pub rest_breaks : (fs : List Field) (r : List ℕ) → breaks (spaced (map field_text fs) ++ 10 ∷ r) ≡ true
rest_breaks [] r = refl
rest_breaks (f ∷ fs) r = refl

-- the fields of a line, before its end
pub fields_once : (fs gs : List Field) (r s : List ℕ) → map sort fs ≡ map sort gs → Each Fine fs → Each Fine gs → spaced (map field_text fs) ++ 10 ∷ r ≡ spaced (map field_text gs) ++ 10 ∷ s → (fs ≡ gs) × (r ≡ s)
fields_once [] [] r s is fine fine' e = (refl, cc)
fields_once [] (g ∷ gs) r s is fine fine' e = absurd cc
fields_once (f ∷ fs) [] r s is fine fine' e = absurd cc
fields_once (f ∷ fs) (g ∷ gs) r s is fine fine' e =
    let p = spaced (map field_text fs) in
    let q = spaced (map field_text gs) in
    let opened : 32 ∷ ((field_text f ++ p) ++ 10 ∷ r) ≡ 32 ∷ ((field_text g ++ q) ++ 10 ∷ s) = e in
    let behind : (field_text f ++ p) ++ 10 ∷ r ≡ (field_text g ++ q) ++ 10 ∷ s = cc in
    let first : sort f ≡ sort g = cc in
    let others : map sort fs ≡ map sort gs = cc in
    let same = field_once f g (p ++ 10 ∷ r) (q ++ 10 ∷ s) first fine.0 fine'.0 (rest_breaks fs r) (rest_breaks gs s) (sym (append_assoc (field_text f) p (10 ∷ r)) ∙ behind ∙ append_assoc (field_text g) q (10 ∷ s)) in
    let rest = fields_once fs gs r s others fine.1 fine'.1 same.1 in
    (λ i. same.0 i ∷ rest.0 i, rest.1)
