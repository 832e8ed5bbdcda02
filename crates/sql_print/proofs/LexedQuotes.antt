-- Literals of STRING and BYTES are read back as themselves.
use Rattle.std.proofs.Common.{◌≡◌, ℕ, ◌/◌, ◌%◌, ◌<◌, Bool, true, false, ◌==◌, ◌&&◌, ◌||◌, nat_le, nat_lt, List, [], ◌∷◌, ◌++◌, map, Option, Some, None, refl, sym, ◌∙◌, ap, arith}
use Rattle.std.proofs.lemmas.Bool.{and_parts}
use Rattle.std.proofs.lemmas.Bool.Decides.{nat_tests}
use Rattle.std.proofs.lemmas.Str.{IsUtf8-append, IsUtf8-nil}
use Rattle.std.specs.Prelude.{IsUtf8, option_map}
use Rattle.std.specs.List.{list_all}
use Rattle.sql_names.specs.Spelling.{hex_digit, escaped, escapes, quote_text}
use Rattle.sql_ast.specs.declared.pieces.Class.{Class}
use Rattle.sql_ast.specs.declared.pieces.Class.TheVariants as c
use Rattle.sql_ast.specs.declared.pieces.Content.TheVariants as content
use Rattle.sql_ast.specs.declared.pieces.LiteralPrefix.{LiteralPrefix}
use Rattle.sql_ast.specs.declared.pieces.LiteralPrefix.TheVariants as prefix
use Rattle.sql_ast.specs.declared.pieces.Mark.TheVariants as mark
use Rattle.sql_ast.specs.declared.pieces.Quote.TheVariants as quote
use Rattle.sql_ast.specs.declared.pieces.Quotes.TheVariants as quotes
use Rattle.sql_ast.specs.declared.pieces.Shape.TheVariants as s
use Rattle.sql_ast.specs.declared.pieces.Piece.TheVariants as piece
use Rattle.sql_ast.specs.declared.token.Lexeme.TheVariants as l
use Rattle.sql_ast.specs.Classes.{class, closes}
use Rattle.sql_ast.specs.Literals.{byte_text, bytes_text, quote_bytes}
use Rattle.sql_ast.specs.Pieces.{lexeme_text}
use Rattle.sql_ast.specs.Values.{meaning, unescape}
use Rattle.sql_lexer.specs.declared.machine.State.{State}
use Rattle.sql_lexer.specs.declared.machine.State.TheVariants as t
use Rattle.sql_lexer.specs.Machine.{step, whole}
use Rattle.sql_print.proofs.AsciiTexts.{ascii_byte, ascii_text}
use Rattle.sql_print.proofs.LexedWalks.{run, run_more, classes_append}
use Rattle.sql_print.proofs.LexedSigns.{Lexing, read_is, is_calm}
use Rattle.sql_print.proofs.LexedMarks.{head_byte, run_text, run_bytes, text_first, byte_first}
use Rattle.sql_print.proofs.LexedEscapes.{text_says, bytes_say}
use Rattle.sql_print.proofs.LexedTexts.{quoted_utf8, between_marks, behind_prefix, closed_none, closed_whole, branch, hex_all}

never : {A : Type 0} → false ≡ true → A
never h = absurd (let g : true ≡ false = sym h in cc)

-- ---- behind the first quote

record Closing (p : LiteralPrefix) (u : List ℕ) : Type 0 where
  end : State
  runs : run (t.Opened quote.Double p) (map class u) ≡ Some end
  whole_is : whole end ≡ Some (s.Literal p quotes.One)
  calm : (y : Class) → is_calm y ≡ true → step end y ≡ None

calm_twice : (p : LiteralPrefix) (y : Class) → is_calm y ≡ true → step (t.Twice quote.Double p) y ≡ None
unfolding step
calm_twice p c.Space h = refl
calm_twice p c.Sign h = refl
calm_twice p _ h = never h

closing_empty : (p : LiteralPrefix) → Closing p (34 ∷ [])
unfolding class step whole
closing_empty p = record { end = t.Twice quote.Double p; runs = refl; whole_is = refl; calm = calm_twice p }

opened_step : (p : LiteralPrefix) (x : Class) → closes (mark.Quote quote.Double) x ≡ false → step (t.Opened quote.Double p) x ≡ step (t.Within (mark.Quote quote.Double) (s.Literal p quotes.One)) x
unfolding step
opened_step p x h = rw h refl

opened_run : (p : LiteralPrefix) (x : Class) (more : List Class) → closes (mark.Quote quote.Double) x ≡ false → run (t.Opened quote.Double p) (x ∷ more) ≡ run (t.Within (mark.Quote quote.Double) (s.Literal p quotes.One)) (x ∷ more)
opened_run p x more h = ap (λ (o : Option State). elim o as (λ _. Option State) [ None ↦ None | Some next ↦ run next more ]) (opened_step p x h)

close_step : (p : LiteralPrefix) → run (t.Within (mark.Quote quote.Double) (s.Literal p quotes.One)) (map class (34 ∷ [])) ≡ Some (t.Closed (s.Literal p quotes.One))
unfolding class step
close_step p = refl

abbrev pub some_byte : List ℕ → Bool
some_byte [] = false
some_byte (b ∷ u) = true

closing_more : (p : LiteralPrefix) (v : List ℕ) → some_byte v ≡ true → closes (mark.Quote quote.Double) (class (head_byte v)) ≡ false → run (t.Within (mark.Quote quote.Double) (s.Literal p quotes.One)) (map class v) ≡ Some (t.Within (mark.Quote quote.Double) (s.Literal p quotes.One))
    → Closing p (v ++ (34 ∷ []))
closing_more p [] h g e = never h
closing_more p (b ∷ v) h g e =
    let W = t.Within (mark.Quote quote.Double) (s.Literal p quotes.One) in
    record {
      end = t.Closed (s.Literal p quotes.One);
      runs = opened_run p (class b) (map class (v ++ (34 ∷ []))) g ∙ ap (run W) (classes_append (b ∷ v) (34 ∷ [])) ∙ run_more W (map class (b ∷ v)) (map class (34 ∷ [])) W e ∙ close_step p;
      whole_is = closed_whole (s.Literal p quotes.One);
      calm = λ y _. closed_none (s.Literal p quotes.One) y;
    }

-- ---- STRING

escaped_some : (b : ℕ) (r : List ℕ) → some_byte (escaped 34 b ++ r) ≡ true
unfolding escaped
escaped_some b r =
    let P : List ℕ → Type 0 = λ u. some_byte (u ++ r) ≡ true in
    branch P (b == 92 || b == 34) _ _ (λ _. refl) (λ _.
    branch P (b == 10) _ _ (λ _. refl) (λ _.
    branch P (b == 13) _ _ (λ _. refl) (λ _.
    branch P (b == 9) _ _ (λ _. refl) (λ _.
    branch P (nat_lt b 32 || b == 127) _ _ (λ _. refl) (λ _. refl)))))

text_closing : (x : List ℕ) → Closing prefix.Plain (escapes 34 x ++ (34 ∷ []))
text_closing [] = closing_empty prefix.Plain
text_closing (b ∷ u) = closing_more prefix.Plain (escapes 34 (b ∷ u)) (escaped_some b (escapes 34 u)) (text_first b (escapes 34 u)) (run_text (s.Literal prefix.Plain quotes.One) (b ∷ u))

quote_starts : (u : List ℕ) → run t.Start (map class (34 ∷ u)) ≡ run (t.Opened quote.Double prefix.Plain) (map class u)
unfolding class step
quote_starts u = refl

text_means : (dot : Bool) (x : List ℕ) → meaning dot (s.Literal prefix.Plain quotes.One) (quote_text x) ≡ Some (piece.Token (l.Text x))
unfolding meaning
text_means dot x = ap (λ (u : List ℕ). option_map piece.Token (option_map l.Text (unescape content.Text u))) (between_marks 34 34 (escapes 34 x)) ∙ ap (λ (o : Option (List ℕ)). option_map piece.Token (option_map l.Text o)) (text_says x)

pub text_lexing : (x : List ℕ) → IsUtf8 x → Lexing (l.Text x)
unfolding lexeme_text
text_lexing x g =
    let f = text_closing x in record {
      end = f.end;
      shape = s.Literal prefix.Plain quotes.One;
      runs = quote_starts (escapes 34 x ++ (34 ∷ [])) ∙ f.runs;
      whole_is = f.whole_is;
      reads = λ dot h. read_is dot (s.Literal prefix.Plain quotes.One) (quote_text x) (Some (piece.Token (l.Text x))) (quoted_utf8 34 (omega arith) x g) (text_means dot x);
      calm = f.calm;
      closed = λ h y. never h;
      angle = λ h y k. never h;
      less = λ h y k. never h;
      greater = λ h. never h;
      some = refl;
      first_calm = λ h. never h;
      first_less = λ h. never h;
      first_greater = λ h. never h;
      first_letter = λ h. never h;
    }

-- ---- BYTES

byte_some : (b : ℕ) (r : List ℕ) → some_byte (byte_text b ++ r) ≡ true
unfolding byte_text
byte_some b r =
    let P : List ℕ → Type 0 = λ u. some_byte (u ++ r) ≡ true in
    branch P (b == 92 || b == 34) _ _ (λ _. refl) (λ _. branch P (nat_le 32 b && nat_le b 126) _ _ (λ _. refl) (λ _. refl))

bytes_closing : (x : List ℕ) → list_all (λ b. nat_lt b 256) x ≡ true → Closing prefix.Bytes (bytes_text x ++ (34 ∷ []))
bytes_closing [] h = closing_empty prefix.Bytes
bytes_closing (b ∷ u) h = closing_more prefix.Bytes (bytes_text (b ∷ u)) (byte_some b (bytes_text u)) (byte_first b (bytes_text u)) (run_bytes (s.Literal prefix.Bytes quotes.One) (b ∷ u) h)

small_byte : (b : ℕ) → nat_lt b 256 ≡ true → b < 256
small_byte b h = grind (arith, nat_tests)

own_ascii : (b : ℕ) → (b == 92 || b == 34) ≡ true → b < 128
own_ascii b h = grind (arith, nat_tests)

shown_ascii : (b : ℕ) → (nat_le 32 b && nat_le b 126) ≡ true → b < 128
shown_ascii b h = grind (arith, nat_tests)

byte_utf8 : (b : ℕ) → b < 256 → IsUtf8 (byte_text b)
unfolding byte_text
byte_utf8 b lt =
    branch IsUtf8 (b == 92 || b == 34) _ _ (λ h. IsUtf8-append (92 ∷ []) (b ∷ []) (ascii_byte 92 (omega arith)) (ascii_byte b (own_ascii b h))) (λ _.
    branch IsUtf8 (nat_le 32 b && nat_le b 126) _ _ (λ h. ascii_byte b (shown_ascii b h)) (λ _. ascii_text (92 ∷ 120 ∷ hex_digit (b / 16) ∷ hex_digit (b % 16) ∷ []) (hex_all b lt)))

bytes_utf8 : (x : List ℕ) → list_all (λ b. nat_lt b 256) x ≡ true → IsUtf8 (bytes_text x)
bytes_utf8 [] h = IsUtf8-nil
bytes_utf8 (b ∷ u) h = let f = and_parts (nat_lt b 256) (list_all (λ b. nat_lt b 256) u) h in IsUtf8-append (byte_text b) (bytes_text u) (byte_utf8 b (small_byte b f.0)) (bytes_utf8 u f.1)

all_utf8 : (x : List ℕ) → list_all (λ b. nat_lt b 256) x ≡ true → IsUtf8 (quote_bytes x)
all_utf8 x h = IsUtf8-append (98 ∷ 34 ∷ []) (bytes_text x ++ (34 ∷ [])) (ascii_text (98 ∷ 34 ∷ []) refl) (IsUtf8-append (bytes_text x) (34 ∷ []) (bytes_utf8 x h) (ascii_byte 34 (omega arith)))

prefix_starts : (u : List ℕ) → run t.Start (map class (98 ∷ 34 ∷ u)) ≡ run (t.Opened quote.Double prefix.Bytes) (map class u)
unfolding class step
prefix_starts u = refl

bytes_mean : (dot : Bool) (x : List ℕ) → list_all (λ b. nat_lt b 256) x ≡ true → meaning dot (s.Literal prefix.Bytes quotes.One) (quote_bytes x) ≡ Some (piece.Token (l.Bytes x))
unfolding meaning
bytes_mean dot x h = ap (λ (u : List ℕ). option_map piece.Token (option_map l.Bytes (unescape content.Bytes u))) (behind_prefix 98 34 34 (bytes_text x)) ∙ ap (λ (o : Option (List ℕ)). option_map piece.Token (option_map l.Bytes o)) (bytes_say x h)

pub bytes_lexing : (x : List ℕ) → list_all (λ b. nat_lt b 256) x ≡ true → Lexing (l.Bytes x)
unfolding lexeme_text
bytes_lexing x g =
    let f = bytes_closing x g in record {
      end = f.end;
      shape = s.Literal prefix.Bytes quotes.One;
      runs = prefix_starts (bytes_text x ++ (34 ∷ [])) ∙ f.runs;
      whole_is = f.whole_is;
      reads = λ dot h. read_is dot (s.Literal prefix.Bytes quotes.One) (quote_bytes x) (Some (piece.Token (l.Bytes x))) (all_utf8 x g) (bytes_mean dot x g);
      calm = f.calm;
      closed = λ h y. never h;
      angle = λ h y k. never h;
      less = λ h y k. never h;
      greater = λ h. never h;
      some = refl;
      first_calm = λ h. never h;
      first_less = λ h. never h;
      first_greater = λ h. never h;
      first_letter = λ h. never h;
    }
