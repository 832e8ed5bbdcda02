-- Plain values that have one literal are the same.
use Rattle.std.proofs.Common.{◌≡◌, ℕ, suc, ◌<◌, ◌^◌, ℤ, pos, negsuc, Bool, true, false, ◌==◌, List, [], ◌∷◌, ◌++◌, decimal, Some, refl, ap, sym, ◌∙◌, append_assoc}
use Rattle.std.proofs.lemmas.Bool.{false≢true}
use Rattle.std.specs.Char.{is_ascii_digit}
use Rattle.std.specs.Fmt.{signed_decimal}
use Rattle.sql_names.specs.Spelling.{escapes, quote_text}
use Rattle.sql_types.specs.Calendar.{date_text, read_date}
use Rattle.sql_types.specs.Fits.{is_day}
use Rattle.sql_types.proofs.DateTextLaws.{read-date_text}
use Rattle.sql_ast.specs.Literals.{bytes_text, quote_bytes, quote_date, truth_text}
use Rattle.sql_texts.proofs.Marked.{text_once, bytes_once}
use Rattle.sql_texts.proofs.Numbers.{stops, first_of, decimal_digits, decimal_once}
use Rattle.sql_texts.proofs.Openings.{IsSmall}

signs_apart : (n m : ℕ) (r s : List ℕ) → n < 2 ^ 64 → decimal n ++ r ≡ 45 ∷ (decimal m ++ s) → true ≡ false
signs_apart n m r s small e = sym ((decimal_digits n small).1 r) ∙ ap (λ z. is_ascii_digit (first_of z)) e

pub signed_once : (n m : ℤ) (r s : List ℕ) → IsSmall n → IsSmall m → stops r ≡ true → stops s ≡ true → signed_decimal n ++ r ≡ signed_decimal m ++ s → (n ≡ m) × (r ≡ s)
signed_once (pos n) (pos m) r s small small' stop stop' e = let same = decimal_once n m r s small small' stop stop' e in (ap pos same.0, same.1)
signed_once (pos n) (negsuc m) r s small small' stop stop' e = absurd (false≢true (sym (signs_apart n (suc m) r s small e)))
signed_once (negsuc n) (pos m) r s small small' stop stop' e = absurd (false≢true (sym (signs_apart m (suc n) s r small' (sym e))))
signed_once (negsuc n) (negsuc m) r s small small' stop stop' e =
    let behind : decimal (suc n) ++ r ≡ decimal (suc m) ++ s = cc in
    let same = decimal_once (suc n) (suc m) r s small small' stop stop' behind in
    let next : suc n ≡ suc m = same.0 in
    let number : n ≡ m = cc in
    (ap negsuc number, same.1)

pub truth_once : (a b : Bool) (r s : List ℕ) → truth_text a ++ r ≡ truth_text b ++ s → (a ≡ b) × (r ≡ s)
truth_once true true r s e = (refl, cc)
truth_once false false r s e = (refl, cc)
truth_once true false r s e = absurd (false≢true (sym (ap (λ z. first_of z == 84) e)))
truth_once false true r s e = absurd (false≢true (ap (λ z. first_of z == 84) e))

pub quoted_once : (t u r s : List ℕ) → quote_text t ++ r ≡ quote_text u ++ s → (t ≡ u) × (r ≡ s)
quoted_once t u r s e =
    let behind : (escapes 34 t ++ 34 ∷ []) ++ r ≡ (escapes 34 u ++ 34 ∷ []) ++ s = cc in
    text_once t u r s (sym (append_assoc (escapes 34 t) (34 ∷ []) r) ∙ behind ∙ append_assoc (escapes 34 u) (34 ∷ []) s)

pub bytes_quoted_once : (t u r s : List ℕ) → quote_bytes t ++ r ≡ quote_bytes u ++ s → (t ≡ u) × (r ≡ s)
bytes_quoted_once t u r s e =
    let behind : (bytes_text t ++ 34 ∷ []) ++ r ≡ (bytes_text u ++ 34 ∷ []) ++ s = cc in
    bytes_once t u r s (sym (append_assoc (bytes_text t) (34 ∷ []) r) ∙ behind ∙ append_assoc (bytes_text u) (34 ∷ []) s)

written_once : (d e : ℤ) (r s : List ℕ) → date_text d ++ r ≡ date_text e ++ s → (date_text d ≡ date_text e) × (r ≡ s)
unfolding date_text
written_once d e r s same = (cc, cc)

pub day_once : (d e : ℤ) (r s : List ℕ) → is_day d ≡ true → is_day e ≡ true → quote_date d ++ r ≡ quote_date e ++ s → (d ≡ e) × (r ≡ s)
day_once d e r s fit fit' same =
    let behind : (date_text d ++ 34 ∷ []) ++ r ≡ (date_text e ++ 34 ∷ []) ++ s = cc in
    let texts = written_once d e (34 ∷ r) (34 ∷ s) (sym (append_assoc (date_text d) (34 ∷ []) r) ∙ behind ∙ append_assoc (date_text e) (34 ∷ []) s) in
    let closed : 34 ∷ r ≡ 34 ∷ s = texts.1 in
    let days : Some d ≡ Some e = sym (read-date_text d fit) ∙ ap read_date texts.0 ∙ read-date_text e fit' in
    (cc, cc)
