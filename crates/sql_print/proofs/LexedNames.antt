-- A plain name is read back as itself, also behind `@`.
use Rattle.std.proofs.Common.{◌≡◌, inl, inr, ℕ, Bool, true, false, cond, ◌==◌, ◌&&◌, ◌||◌, if◌then◌else◌, nat_le, List, [], ◌∷◌, map, Option, Some, None, refl, sym, ◌∙◌, ap, arith}
use Rattle.std.proofs.lemmas.Bool.{and_parts, or_cases}
use Rattle.std.proofs.lemmas.Bool.Decides.{nat_tests}
use Rattle.std.specs.Prelude.{is_none, option_map}
use Rattle.std.specs.List.{list_all}
use Rattle.sql_names.specs.declared.words.Reserved.{Reserved}
use Rattle.sql_names.specs.Spelling as spelling
use Rattle.sql_names.specs.Spelling.{is_plain, is_identifier, quote_name, quoted}
use Rattle.sql_names.specs.Words.{reserved_of}
use Rattle.sql_ast.specs.declared.words.Word.{Word}
use Rattle.sql_ast.specs.declared.pieces.Class.{Class}
use Rattle.sql_ast.specs.declared.pieces.Class.TheVariants as c
use Rattle.sql_ast.specs.declared.pieces.Shape.TheVariants as s
use Rattle.sql_ast.specs.declared.pieces.Piece.TheVariants as piece
use Rattle.sql_ast.specs.declared.token.Lexeme.TheVariants as l
use Rattle.sql_ast.specs.Classes.{class, is_letter, is_inner, is_after_less}
use Rattle.sql_ast.specs.Pieces.{lexeme_text, word_if_plain}
use Rattle.sql_ast.specs.Values.{read, meaning, word, is_name, plain_name, reserved_or_name}
use Rattle.sql_ast.specs.Words.{word_of}
use Rattle.sql_lexer.specs.declared.machine.State.{State}
use Rattle.sql_lexer.specs.declared.machine.State.TheVariants as t
use Rattle.sql_lexer.specs.Machine.{step, whole}
use Rattle.sql_print.proofs.Flows.{IsName}
use Rattle.sql_print.proofs.LexedWalks.{run, run_step}
use Rattle.sql_print.proofs.LexedSigns.{is_calm, is_angle, head_class, some_class, Lexing, read_is}

never : {A : Type 0} → false ≡ true → A
never h = absurd (let g : true ≡ false = sym h in cc)

if_class : (P : Class → Type 0) (b : Bool) (x y : Class) → (b ≡ true → P x) → (b ≡ false → P y) → P (if b then x else y)
if_class P true x y f g = f refl
if_class P false x y f g = g refl

-- ---- letters

no_letter : (b : ℕ) → spelling.is_letter b ≡ true → ((nat_le 97 b && nat_le b 122) || (nat_le 65 b && nat_le b 90) || b == 95) ≡ false → ⊥
no_letter b h g = grind (arith, nat_tests)

class_letter : (b : ℕ) → spelling.is_letter b ≡ true → is_letter (class b) ≡ true
unfolding class
class_letter b h =
    let P : Class → Type 0 = λ x. is_letter x ≡ true in
    if_class P (b == 114 || b == 82) _ _ (λ _. refl) (λ _.
    if_class P (b == 98 || b == 66) _ _ (λ _. refl) (λ _.
    if_class P ((nat_le 97 b && nat_le b 122) || (nat_le 65 b && nat_le b 90) || b == 95) _ _ (λ _. refl) (λ g. absurd (no_letter b h g))))

no_inner : (b : ℕ) → (nat_le 48 b && nat_le b 57) ≡ true → (nat_le 48 b && nat_le b 57) ≡ false → ⊥
no_inner b h g = let f : true ≡ false = sym h ∙ g in cc

class_digit : (b : ℕ) → (nat_le 48 b && nat_le b 57) ≡ true → is_inner (class b) ≡ true
unfolding class
class_digit b h =
    let P : Class → Type 0 = λ x. is_inner x ≡ true in
    if_class P (b == 114 || b == 82) _ _ (λ _. refl) (λ _.
    if_class P (b == 98 || b == 66) _ _ (λ _. refl) (λ _.
    if_class P ((nat_le 97 b && nat_le b 122) || (nat_le 65 b && nat_le b 90) || b == 95) _ _ (λ _. refl) (λ _.
    if_class P (nat_le 48 b && nat_le b 57) _ _ (λ _. refl) (λ g. absurd (no_inner b h g)))))

letter_inner : (x : Class) → is_letter x ≡ true → is_inner x ≡ true
letter_inner c.Digit h = refl
letter_inner c.LetterR h = refl
letter_inner c.LetterB h = refl
letter_inner c.Letter h = refl
letter_inner _ h = never h

pub class_inner : (b : ℕ) → spelling.is_inner b ≡ true → is_inner (class b) ≡ true
class_inner b h = elim (or_cases (spelling.is_letter b) (nat_le 48 b && nat_le b 57) h) [ inl g ↦ letter_inner (class b) (class_letter b g) | inr g ↦ class_digit b g ]

-- ---- the states of a word

abbrev wordish : State → Bool
wordish t.Word = true
wordish t.LetterR = true
wordish t.LetterB = true
wordish t.BothLetters = true
wordish _ = false

record Goes (at : State) (x : Class) : Type 0 where
  next : State
  is : step at x ≡ Some next
  word : wordish next ≡ true

inner_letter_r : (x : Class) → is_inner x ≡ true → Goes t.LetterR x
unfolding step
inner_letter_r c.Digit h = record { next = t.Word; is = refl; word = refl }
inner_letter_r c.LetterR h = record { next = t.Word; is = refl; word = refl }
inner_letter_r c.LetterB h = record { next = t.BothLetters; is = refl; word = refl }
inner_letter_r c.Letter h = record { next = t.Word; is = refl; word = refl }
inner_letter_r _ h = never h

inner_letter_b : (x : Class) → is_inner x ≡ true → Goes t.LetterB x
unfolding step
inner_letter_b c.Digit h = record { next = t.Word; is = refl; word = refl }
inner_letter_b c.LetterR h = record { next = t.BothLetters; is = refl; word = refl }
inner_letter_b c.LetterB h = record { next = t.Word; is = refl; word = refl }
inner_letter_b c.Letter h = record { next = t.Word; is = refl; word = refl }
inner_letter_b _ h = never h

inner_both : (x : Class) → is_inner x ≡ true → Goes t.BothLetters x
unfolding step
inner_both c.Digit h = record { next = t.Word; is = refl; word = refl }
inner_both c.LetterR h = record { next = t.Word; is = refl; word = refl }
inner_both c.LetterB h = record { next = t.Word; is = refl; word = refl }
inner_both c.Letter h = record { next = t.Word; is = refl; word = refl }
inner_both _ h = never h

inner_word : (x : Class) → is_inner x ≡ true → Goes t.Word x
unfolding step
inner_word c.Digit h = record { next = t.Word; is = refl; word = refl }
inner_word c.LetterR h = record { next = t.Word; is = refl; word = refl }
inner_word c.LetterB h = record { next = t.Word; is = refl; word = refl }
inner_word c.Letter h = record { next = t.Word; is = refl; word = refl }
inner_word _ h = never h

goes_on : (at : State) (x : Class) → wordish at ≡ true → is_inner x ≡ true → Goes at x
goes_on t.Word x w h = inner_word x h
goes_on t.LetterR x w h = inner_letter_r x h
goes_on t.LetterB x w h = inner_letter_b x h
goes_on t.BothLetters x w h = inner_both x h
goes_on _ x w h = never w

letter_starts : (x : Class) → is_letter x ≡ true → Goes t.Start x
unfolding step
letter_starts c.LetterR h = record { next = t.LetterR; is = refl; word = refl }
letter_starts c.LetterB h = record { next = t.LetterB; is = refl; word = refl }
letter_starts c.Letter h = record { next = t.Word; is = refl; word = refl }
letter_starts _ h = never h

record Ends (at : State) (u : List ℕ) : Type 0 where
  end : State
  runs : run at (map class u) ≡ Some end
  word : wordish end ≡ true

inner_ends : (u : List ℕ) → list_all spelling.is_inner u ≡ true → (at : State) → wordish at ≡ true → Ends at u
inner_ends [] h at w = record { end = at; runs = refl; word = w }
inner_ends (b ∷ u) h at w =
    let f = and_parts (spelling.is_inner b) (list_all spelling.is_inner u) h in
    let g = goes_on at (class b) w (class_inner b f.0) in
    let k = inner_ends u f.1 g.next g.word in
    record { end = k.end; runs = run_step at g.next (class b) (map class u) g.is ∙ k.runs; word = k.word }

name_ends : (n : List ℕ) → is_identifier n ≡ true → Ends t.Start n
name_ends [] h = never h
name_ends (b ∷ u) h =
    let f = and_parts (spelling.is_letter b) (list_all spelling.is_inner u) h in
    let g = letter_starts (class b) (class_letter b f.0) in
    let k = inner_ends u f.1 g.next g.word in
    record { end = k.end; runs = run_step t.Start g.next (class b) (map class u) g.is ∙ k.runs; word = k.word }

word_whole : (at : State) → wordish at ≡ true → whole at ≡ Some s.Word
unfolding whole
word_whole t.Word h = refl
word_whole t.LetterR h = refl
word_whole t.LetterB h = refl
word_whole t.BothLetters h = refl
word_whole _ h = never h

word_calm : (at : State) → wordish at ≡ true → (y : Class) → is_calm y ≡ true → step at y ≡ None
unfolding step
word_calm t.Word w c.Space h = refl
word_calm t.LetterR w c.Space h = refl
word_calm t.LetterB w c.Space h = refl
word_calm t.BothLetters w c.Space h = refl
word_calm t.Word w c.Sign h = refl
word_calm t.LetterR w c.Sign h = refl
word_calm t.LetterB w c.Sign h = refl
word_calm t.BothLetters w c.Sign h = refl
word_calm _ w c.Space h = never w
word_calm _ w c.Sign h = never w
word_calm _ w _ h = never h

word_angle : (at : State) → wordish at ≡ true → (y : Class) → is_angle y ≡ true → step at y ≡ None
unfolding step
word_angle t.Word w c.Less h = refl
word_angle t.LetterR w c.Less h = refl
word_angle t.LetterB w c.Less h = refl
word_angle t.BothLetters w c.Less h = refl
word_angle t.Word w c.Greater h = refl
word_angle t.LetterR w c.Greater h = refl
word_angle t.LetterB w c.Greater h = refl
word_angle t.BothLetters w c.Greater h = refl
word_angle _ w c.Less h = never w
word_angle _ w c.Greater h = never w
word_angle _ w _ h = never h

letter_after : (x : Class) → is_letter x ≡ true → is_after_less x ≡ false
letter_after c.LetterR h = refl
letter_after c.LetterB h = refl
letter_after c.Letter h = refl
letter_after _ h = never h

first_letter : (n : List ℕ) → is_identifier n ≡ true → is_after_less (head_class (map class n)) ≡ false
first_letter [] h = never h
first_letter (b ∷ u) h = letter_after (class b) (class_letter b (and_parts (spelling.is_letter b) (list_all spelling.is_inner u) h).0)

some_letter : (n : List ℕ) → is_identifier n ≡ true → some_class (map class n) ≡ true
some_letter [] h = never h
some_letter (b ∷ u) h = refl

-- ---- plain names

plain_parts : (n : List ℕ) → is_plain n ≡ true → (is_identifier n ≡ true) × (is_none (reserved_of n) ≡ true)
unfolding is_plain
plain_parts n h = and_parts (is_identifier n) (is_none (reserved_of n)) h

pub plain_text : (n : List ℕ) → is_plain n ≡ true → quote_name n ≡ n
plain_text n h = ap (λ (b : Bool). if b then n else quoted 96 n) h

none_is : (o : Option Reserved) → is_none o ≡ true → o ≡ None
none_is None h = refl
none_is (Some x) h = never h

named_plain : (n : List ℕ) → is_name n ≡ true → plain_name n ≡ Some (l.Name n (word_of n))
named_plain n h = ap (λ (b : Bool). if b then Some (l.Name n (word_of n)) else None) h

word_plain : (dot : Bool) (n : List ℕ) → is_name n ≡ true → reserved_of n ≡ None → word dot n ≡ Some (l.Name n (word_of n))
unfolding word
word_plain true n h e = named_plain n h
word_plain false n h e = ap (reserved_or_name n) e ∙ named_plain n h

worded_plain : (n : List ℕ) → is_plain n ≡ true → word_if_plain n ≡ word_of n
worded_plain n h = ap (λ (b : Bool). if b then word_of n else None) h

name_means : (dot : Bool) (n : List ℕ) → is_name n ≡ true → is_plain n ≡ true → meaning dot s.Word n ≡ Some (piece.Token (l.Name n (word_if_plain n)))
unfolding meaning
name_means dot n h p =
    ap (option_map piece.Token) (word_plain dot n h (none_is (reserved_of n) (plain_parts n p).1)) ∙ ap (λ (o : Option Word). Some (piece.Token (l.Name n o))) (sym (worded_plain n p))

pub plain_lexing : (n : List ℕ) → IsName n → is_plain n ≡ true → Lexing (l.Name n (word_if_plain n))
unfolding lexeme_text
plain_lexing n g p =
    let same = plain_text n p in
    let is = (plain_parts n p).0 in
    let f = name_ends n is in
    record {
      end = f.end;
      shape = s.Word;
      runs = ap (λ (u : List ℕ). run t.Start (map class u)) same ∙ f.runs;
      whole_is = word_whole f.end f.word;
      reads = λ dot h. ap (read dot s.Word) same ∙ read_is dot s.Word n (Some (piece.Token (l.Name n (word_if_plain n)))) g.1 (name_means dot n g.0 p);
      calm = word_calm f.end f.word;
      closed = λ h y. never h;
      angle = λ h. word_angle f.end f.word;
      less = λ h y k. never h;
      greater = λ h. never h;
      some = ap (λ (u : List ℕ). some_class (map class u)) same ∙ some_letter n is;
      first_calm = λ h. never h;
      first_less = λ h. never h;
      first_greater = λ h. never h;
      first_letter = λ h. ap (λ (u : List ℕ). is_after_less (head_class (map class u))) same ∙ first_letter n is;
    }

-- ---- the name of a parameter

parameter_goes : (x : Class) → is_inner x ≡ true → step t.Parameter x ≡ Some t.Parameter
unfolding step
parameter_goes x h = ap (λ (b : Bool). cond b (Some t.Parameter) None) h

parameter_runs : (u : List ℕ) → list_all spelling.is_inner u ≡ true → run t.Parameter (map class u) ≡ Some t.Parameter
parameter_runs [] h = refl
parameter_runs (b ∷ u) h =
    let f = and_parts (spelling.is_inner b) (list_all spelling.is_inner u) h in
    run_step t.Parameter t.Parameter (class b) (map class u) (parameter_goes (class b) (class_inner b f.0)) ∙ parameter_runs u f.1

at_letter : (x : Class) → is_letter x ≡ true → step t.At x ≡ Some t.Parameter
unfolding step
at_letter c.LetterR h = refl
at_letter c.LetterB h = refl
at_letter c.Letter h = refl
at_letter _ h = never h

at_name : (n : List ℕ) → is_identifier n ≡ true → run t.At (map class n) ≡ Some t.Parameter
at_name [] h = never h
at_name (b ∷ u) h =
    let f = and_parts (spelling.is_letter b) (list_all spelling.is_inner u) h in
    run_step t.At t.Parameter (class b) (map class u) (at_letter (class b) (class_letter b f.0)) ∙ parameter_runs u f.1

pub plain_parameter : (n : List ℕ) → is_plain n ≡ true → run t.Start (map class (64 ∷ n)) ≡ Some t.Parameter
unfolding class step
plain_parameter n p = at_name n (plain_parts n p).0
