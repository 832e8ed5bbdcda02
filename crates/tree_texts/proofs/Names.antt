-- Where a name ends, and which name it is.
use Rattle.std.proofs.Common.{◌≡◌, ℕ, Bool, true, false, ◌==◌, ◌||◌, is_none, if◌then◌else◌, List, [], ◌∷◌, ◌++◌, refl, ap, sym, ◌∙◌, append_assoc}
use Rattle.std.specs.List.{list_all}
use Rattle.std.proofs.lemmas.Bool.{false≢true, and_parts}
use Rattle.sql_names.specs.Spelling.{is_letter, is_inner, is_identifier, is_plain, escapes, quoted, quote_name}
use Rattle.sql_names.specs.Words.{reserved_of}
use Rattle.sql_texts.proofs.Marked.{IsMark, escapes_once}
use Rattle.sql_texts.proofs.Numbers.{first_of}
use Rattle.tree_texts.proofs.Runs.{ends, run_once}

-- ---- plain names

letter_inner : (b : ℕ) → is_letter b ≡ true → is_inner b ≡ true
letter_inner b is = rw is refl

identifier_run : (name : List ℕ) → is_identifier name ≡ true → list_all is_inner name ≡ true
identifier_run [] is = absurd (false≢true is)
identifier_run (b ∷ bs) is = let both = and_parts (is_letter b) (list_all is_inner bs) is in rw (letter_inner b both.0) both.1

identifier_first : (name r : List ℕ) → is_identifier name ≡ true → is_letter (first_of (name ++ r)) ≡ true
identifier_first [] r is = absurd (false≢true is)
identifier_first (b ∷ bs) r is = (and_parts (is_letter b) (list_all is_inner bs) is).0

plain_identifier : (name : List ℕ) → is_plain name ≡ true → is_identifier name ≡ true
unfolding is_plain
plain_identifier name is = (and_parts (is_identifier name) (is_none (reserved_of name)) is).0

pub plain_run : (name : List ℕ) → is_plain name ≡ true → list_all is_inner name ≡ true
plain_run name is = identifier_run name (plain_identifier name is)

pub plain_first : (name r : List ℕ) → is_plain name ≡ true → is_letter (first_of (name ++ r)) ≡ true
plain_first name r is = identifier_first name r (plain_identifier name is)

-- ---- names in backquotes

backquote : IsMark 96
backquote = record { apart = refl; x = refl; n = refl; r = refl; t = refl }

pub quoted_once : (a b r s : List ℕ) → quoted 96 a ++ r ≡ quoted 96 b ++ s → (a ≡ b) × (r ≡ s)
quoted_once a b r s e =
    let behind : (escapes 96 a ++ 96 ∷ []) ++ r ≡ (escapes 96 b ++ 96 ∷ []) ++ s = cc in
    escapes_once 96 backquote a b r s (sym (append_assoc (escapes 96 a) (96 ∷ []) r) ∙ behind ∙ append_assoc (escapes 96 b) (96 ∷ []) s)

-- a plain name doesn't begin with a backquote
pub plain_apart : (a b r s : List ℕ) → is_plain a ≡ true → a ++ r ≡ quoted 96 b ++ s → true ≡ false
plain_apart a b r s plain e = sym (plain_first a r plain) ∙ ap (λ z. is_letter (first_of z)) e

-- ---- any names

by_sort : (a b r s : List ℕ) (p q : Bool) → is_plain a ≡ p → is_plain b ≡ q → ends is_inner r ≡ true → ends is_inner s ≡ true
    → (if p then a else quoted 96 a) ++ r ≡ (if q then b else quoted 96 b) ++ s → (a ≡ b) × (r ≡ s)
by_sort a b r s true true is is' stop stop' e = run_once is_inner a b r s (plain_run a is) (plain_run b is') stop stop' e
by_sort a b r s true false is is' stop stop' e = absurd (false≢true (sym (plain_apart a b r s is e)))
by_sort a b r s false true is is' stop stop' e = absurd (false≢true (sym (plain_apart b a s r is' (sym e))))
by_sort a b r s false false is is' stop stop' e = quoted_once a b r s e

-- two names, with no letter or digit behind them
pub name_once : (a b r s : List ℕ) → ends is_inner r ≡ true → ends is_inner s ≡ true → quote_name a ++ r ≡ quote_name b ++ s → (a ≡ b) × (r ≡ s)
name_once a b r s stop stop' e = by_sort a b r s (is_plain a) (is_plain b) refl refl stop stop' e

-- a letter or a backquote
abbrev pub opens_name : ℕ → Bool
opens_name c = is_letter c || c == 96

letter_opens : (c : ℕ) → is_letter c ≡ true → opens_name c ≡ true
letter_opens c is = rw is refl

first_by : (a r : List ℕ) (p : Bool) → is_plain a ≡ p → opens_name (first_of ((if p then a else quoted 96 a) ++ r)) ≡ true
first_by a r true is = letter_opens (first_of (a ++ r)) (plain_first a r is)
first_by a r false is = refl

pub name_first : (a r : List ℕ) → opens_name (first_of (quote_name a ++ r)) ≡ true
name_first a r = first_by a r (is_plain a) refl
