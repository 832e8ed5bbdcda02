-- Names in backquotes, literals and parameters are read back as themselves.
use Rattle.std.proofs.Common.{◌≡◌, ℕ, suc, ◌+◌, ◌-◌, ◌/◌, ◌%◌, ◌<◌, ◌≤◌, Bool, true, false, ◌==◌, ◌||◌, if◌then◌else◌, nat_lt, List, [], ◌∷◌, ◌++◌, length, take, get_or, map, Option, Some, None, refl, sym, ◌∙◌, ap, subst, append-nil, arith}
use Rattle.std.proofs.lemmas.Bool.{and_parts}
use Rattle.std.proofs.lemmas.Bool.Decides.{nat_tests}
use Rattle.std.proofs.lemmas.List.{length-append}
use Rattle.std.proofs.lemmas.Str.{IsUtf8-append, IsUtf8-nil, IsUtf8-encode, encode_ascii, inside_one}
use Rattle.std.specs.Prelude.{IsUtf8, encode_utf8, encode_utf8_all, option_map, option_and_then}
use Rattle.std.specs.Char.{IsScalar}
use Rattle.std.specs.List.{list_all}
use Rattle.std.specs.Str.{all_scalars}
use Rattle.sql_names.specs.Spelling.{hex_digit, escaped, escapes, is_plain, quote_name, quoted}
use Rattle.sql_ast.specs.declared.pieces.Class.{Class}
use Rattle.sql_ast.specs.declared.pieces.Class.TheVariants as c
use Rattle.sql_ast.specs.declared.pieces.Content.TheVariants as content
use Rattle.sql_ast.specs.declared.pieces.Mark.TheVariants as mark
use Rattle.sql_ast.specs.declared.pieces.Shape.{Shape}
use Rattle.sql_ast.specs.declared.pieces.Shape.TheVariants as s
use Rattle.sql_ast.specs.declared.pieces.Piece.TheVariants as piece
use Rattle.sql_ast.specs.declared.token.Lexeme.TheVariants as l
use Rattle.sql_ast.specs.declared.words.Word.{Word}
use Rattle.sql_ast.specs.Classes.{class, is_after_less}
use Rattle.sql_ast.specs.Pieces.{lexeme_text, word_if_plain}
use Rattle.sql_ast.specs.Values.{read, meaning, inside, unescape, is_name, quoted_name}
use Rattle.sql_ast.specs.Words.{word_of}
use Rattle.sql_lexer.specs.declared.machine.State.TheVariants as t
use Rattle.sql_lexer.specs.Machine.{step, whole}
use Rattle.sql_print.proofs.AsciiTexts.{is_ascii, ascii_byte, ascii_text}
use Rattle.sql_print.proofs.Flows.{IsName}
use Rattle.sql_print.proofs.LexedWalks.{run, run_more, classes_append, take_front}
use Rattle.sql_print.proofs.LexedSigns.{Lexing, read_is, head_class, some_class}
use Rattle.sql_print.proofs.LexedNames.{plain_lexing}
use Rattle.sql_print.proofs.LexedMarks.{run_name}
use Rattle.sql_print.proofs.LexedEscapes.{name_says}

never : {A : Type 0} → false ≡ true → A
never h = absurd (let g : true ≡ false = sym h in cc)

-- ---- escapes of UTF-8 are UTF-8

pub branch : (P : List ℕ → Type 0) (b : Bool) (x y : List ℕ) → (b ≡ true → P x) → (b ≡ false → P y) → P (if b then x else y)
branch P true x y f g = f refl
branch P false x y f g = g refl

hex_ascii : (k : ℕ) → k < 16 → is_ascii (hex_digit k) ≡ true
hex_ascii k h = grind (arith, nat_tests)

two_ascii : (b : ℕ) → b < 128 → list_all is_ascii (92 ∷ b ∷ []) ≡ true
two_ascii b h = let f : is_ascii b ≡ true = grind (arith, nat_tests) in rw f refl

pub one_ascii : (b : ℕ) → b < 128 → list_all is_ascii (b ∷ []) ≡ true
one_ascii b h = let f : is_ascii b ≡ true = grind (arith, nat_tests) in rw f refl

pub hex_all : (b : ℕ) → b < 256 → list_all is_ascii (92 ∷ 120 ∷ hex_digit (b / 16) ∷ hex_digit (b % 16) ∷ []) ≡ true
hex_all b h = let f = hex_ascii (b / 16) (omega arith) in let g = hex_ascii (b % 16) (omega arith) in rw (f, g) refl

escaped_ascii : (m b : ℕ) → b < 128 → list_all is_ascii (escaped m b) ≡ true
unfolding escaped
escaped_ascii m b h =
    let P : List ℕ → Type 0 = λ u. list_all is_ascii u ≡ true in
    branch P (b == 92 || b == m) _ _ (λ _. two_ascii b h) (λ _.
    branch P (b == 10) _ _ (λ _. refl) (λ _.
    branch P (b == 13) _ _ (λ _. refl) (λ _.
    branch P (b == 9) _ _ (λ _. refl) (λ _.
    branch P (nat_lt b 32 || b == 127) _ _ (λ _. hex_all b (omega arith)) (λ _. one_ascii b h)))))

high_tests : (m b : ℕ) → m < 128 → 128 ≤ b → ((b == 92 || b == m) ≡ false) × (((b == 10) ≡ false) × (((b == 13) ≡ false) × (((b == 9) ≡ false) × ((nat_lt b 32 || b == 127) ≡ false))))
high_tests m b h k = (grind (arith, nat_tests), (grind (arith, nat_tests), (grind (arith, nat_tests), (grind (arith, nat_tests), grind (arith, nat_tests)))))

-- a byte above ASCII is its own escape
high_escaped : (m b : ℕ) → m < 128 → 128 ≤ b → escaped m b ≡ b ∷ []
unfolding escaped
high_escaped m b h k = let f = high_tests m b h k in rw (f.0, f.1.0, f.1.1.0, f.1.1.1.0, f.1.1.1.1) refl

high_run : (m : ℕ) → m < 128 → (w r : List ℕ) → ((k : ℕ) → k < length w → 128 ≤ get_or w k 0) → escapes m (w ++ r) ≡ w ++ escapes m r
high_run m h [] r f = refl
high_run m h (b ∷ w) r f = ap (λ (u : List ℕ). u ++ escapes m (w ++ r)) (high_escaped m b h (f 0 (omega arith))) ∙ ap (λ (u : List ℕ). b ∷ u) (high_run m h w r (λ k lt. f (suc k) (omega arith)))

high_char : (c : ℕ) → 128 ≤ c → (k : ℕ) → k < length (encode_utf8 c) → (b : Bool) → nat_lt (get_or (encode_utf8 c) k 0) 128 ≡ b → 128 ≤ get_or (encode_utf8 c) k 0
high_char c h k lt true e = let low : get_or (encode_utf8 c) k 0 < 128 = grind (arith, nat_tests) in let same = inside_one c [] (encode_utf8 c) k (sym (append-nil (encode_utf8 c))) lt low in absurd (omega arith)
high_char c h k lt false e = grind (arith, nat_tests)

chars_escaped : (m : ℕ) → m < 128 → (cs : List ℕ) → all_scalars cs ≡ true → IsUtf8 (escapes m (encode_utf8_all cs))
chars_escaped m h [] s = IsUtf8-nil
chars_escaped m h (c ∷ cs) s = by_char (nat_lt c 128) refl (and_parts _ _ s) (chars_escaped m h cs (and_parts _ _ s).1)
  where
    by_char : (b : Bool) → nat_lt c 128 ≡ b → (IsScalar c) × (all_scalars cs ≡ true) → IsUtf8 (escapes m (encode_utf8_all cs)) → IsUtf8 (escapes m (encode_utf8 c ++ encode_utf8_all cs))
    by_char true e f x =
        let low : c < 128 = grind (arith, nat_tests) in
        subst (λ (w : List ℕ). IsUtf8 (escapes m (w ++ encode_utf8_all cs))) (sym (encode_ascii c low)) (IsUtf8-append (escaped m c) (escapes m (encode_utf8_all cs)) (ascii_text (escaped m c) (escaped_ascii m c low)) x)
    by_char false e f x =
        let high : 128 ≤ c = grind (arith, nat_tests) in
        subst IsUtf8 (sym (high_run m h (encode_utf8 c) (encode_utf8_all cs) (λ k lt. high_char c high k lt (nat_lt (get_or (encode_utf8 c) k 0) 128) refl))) (IsUtf8-append (encode_utf8 c) (escapes m (encode_utf8_all cs)) (IsUtf8-encode c f.0) x)

escapes_utf8 : (m : ℕ) → m < 128 → (u : List ℕ) → IsUtf8 u → IsUtf8 (escapes m u)
escapes_utf8 m h u (cs, (s, e)) = subst (λ (w : List ℕ). IsUtf8 (escapes m w)) e (chars_escaped m h cs s)

pub quoted_utf8 : (m : ℕ) → m < 128 → (u : List ℕ) → IsUtf8 u → IsUtf8 (quoted m u)
quoted_utf8 m h u x = IsUtf8-append (m ∷ []) (escapes m u ++ (m ∷ [])) (ascii_byte m h) (IsUtf8-append (escapes m u) (m ∷ []) (escapes_utf8 m h u x) (ascii_byte m h))

-- ---- what stands between marks

counts : (n : ℕ) → n + 1 ≡ suc n
counts n = omega arith

pub between_marks : (a b : ℕ) (u : List ℕ) → inside 1 1 (a ∷ (u ++ (b ∷ []))) ≡ u
between_marks a b u =
    let k : length (a ∷ (u ++ (b ∷ []))) - 1 - 1 ≡ length u = (let e = length-append u (b ∷ []) in omega arith) in
    ap (λ (n : ℕ). take n (u ++ (b ∷ []))) k ∙ take_front u (b ∷ [])

pub behind_prefix : (a b d : ℕ) (u : List ℕ) → inside 2 1 (a ∷ b ∷ (u ++ (d ∷ []))) ≡ u
behind_prefix a b d u =
    let k : length (a ∷ b ∷ (u ++ (d ∷ []))) - 2 - 1 ≡ length u = (let e = length-append u (d ∷ []) in omega arith) in
    ap (λ (n : ℕ). take n (u ++ (d ∷ []))) k ∙ take_front u (d ∷ [])

-- ---- names in backquotes

pub closed_none : (shape : Shape) (y : Class) → step (t.Closed shape) y ≡ None
unfolding step
closed_none shape y = refl

pub closed_whole : (shape : Shape) → whole (t.Closed shape) ≡ Some shape
unfolding whole
closed_whole shape = refl

pub name_runs : (shape : Shape) (n : List ℕ) → run (t.Within mark.Backquote shape) (map class (escapes 96 n ++ (96 ∷ []))) ≡ Some (t.Closed shape)
unfolding class step
name_runs shape n = ap (run (t.Within mark.Backquote shape)) (classes_append (escapes 96 n) (96 ∷ [])) ∙ run_more (t.Within mark.Backquote shape) (map class (escapes 96 n)) (map class (96 ∷ [])) (t.Within mark.Backquote shape) (run_name shape n)

back_starts : (u : List ℕ) → run t.Start (map class (96 ∷ u)) ≡ run (t.Within mark.Backquote s.QuotedName) (map class u)
unfolding class step
back_starts u = refl

quoted_is : (n : List ℕ) → is_name n ≡ true → quoted_name n ≡ Some (l.Name n None)
quoted_is n h = ap (λ (b : Bool). if b then Some (l.Name n None) else None) h

no_word : (n : List ℕ) → is_plain n ≡ false → word_if_plain n ≡ None
no_word n h = ap (λ (b : Bool). if b then word_of n else None) h

pub quoted_text : (n : List ℕ) → is_plain n ≡ false → quote_name n ≡ quoted 96 n
quoted_text n h = ap (λ (b : Bool). if b then n else quoted 96 n) h

name_means : (dot : Bool) (n : List ℕ) → is_name n ≡ true → is_plain n ≡ false → meaning dot s.QuotedName (quoted 96 n) ≡ Some (piece.Token (l.Name n (word_if_plain n)))
unfolding meaning
name_means dot n h p =
    ap (λ (u : List ℕ). option_map piece.Token (option_and_then quoted_name (unescape content.Text u))) (between_marks 96 96 (escapes 96 n)) ∙ ap (λ (o : Option (List ℕ)). option_map piece.Token (option_and_then quoted_name o)) (name_says n)
    ∙ ap (option_map piece.Token) (quoted_is n h) ∙ ap (λ (o : Option Word). Some (piece.Token (l.Name n o))) (sym (no_word n p))

back_head : (u : List ℕ) → head_class (map class (96 ∷ u)) ≡ c.Mark mark.Backquote
unfolding class
back_head u = refl

quoted_lexing : (n : List ℕ) → IsName n → is_plain n ≡ false → Lexing (l.Name n (word_if_plain n))
unfolding lexeme_text
quoted_lexing n g p =
    let same = quoted_text n p in record {
      end = t.Closed s.QuotedName;
      shape = s.QuotedName;
      runs = ap (λ (u : List ℕ). run t.Start (map class u)) same ∙ back_starts (escapes 96 n ++ (96 ∷ [])) ∙ name_runs s.QuotedName n;
      whole_is = closed_whole s.QuotedName;
      reads = λ dot h. ap (read dot s.QuotedName) same ∙ read_is dot s.QuotedName (quoted 96 n) (Some (piece.Token (l.Name n (word_if_plain n)))) (quoted_utf8 96 (omega arith) n g.1) (name_means dot n g.0 p);
      calm = λ y h. closed_none s.QuotedName y;
      closed = λ h y. never h;
      angle = λ h y k. closed_none s.QuotedName y;
      less = λ h y k. never h;
      greater = λ h. never h;
      some = ap (λ (u : List ℕ). some_class (map class u)) same;
      first_calm = λ h. never h;
      first_less = λ h. never h;
      first_greater = λ h. never h;
      first_letter = λ h. ap (λ (u : List ℕ). is_after_less (head_class (map class u))) same ∙ ap is_after_less (back_head (escapes 96 n ++ (96 ∷ [])));
    }

pub name_lexing : (n : List ℕ) → IsName n → (b : Bool) → is_plain n ≡ b → Lexing (l.Name n (word_if_plain n))
name_lexing n g true p = plain_lexing n g p
name_lexing n g false p = quoted_lexing n g p
