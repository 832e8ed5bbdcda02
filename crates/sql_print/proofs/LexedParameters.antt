-- Parameters are read back as themselves.
use Rattle.std.proofs.Common.{◌≡◌, ℕ, Bool, true, false, if◌then◌else◌, List, [], ◌∷◌, ◌++◌, map, Option, Some, None, refl, sym, ◌∙◌, ap, arith}
use Rattle.std.proofs.lemmas.Str.{IsUtf8-append}
use Rattle.std.specs.Prelude.{IsUtf8, option_map, option_and_then}
use Rattle.sql_names.specs.Spelling.{escapes, is_plain, quote_name, quoted}
use Rattle.sql_ast.specs.declared.pieces.Class.{Class}
use Rattle.sql_ast.specs.declared.pieces.Class.TheVariants as c
use Rattle.sql_ast.specs.declared.pieces.Content.TheVariants as content
use Rattle.sql_ast.specs.declared.pieces.Mark.TheVariants as mark
use Rattle.sql_ast.specs.declared.pieces.Shape.TheVariants as s
use Rattle.sql_ast.specs.declared.pieces.Piece.TheVariants as piece
use Rattle.sql_ast.specs.declared.token.Lexeme.TheVariants as l
use Rattle.sql_ast.specs.Classes.{class}
use Rattle.sql_ast.specs.Pieces.{lexeme_text}
use Rattle.sql_ast.specs.Values.{read, meaning, unescape, is_name, parameter}
use Rattle.sql_lexer.specs.declared.machine.State.TheVariants as t
use Rattle.sql_lexer.specs.Machine.{step, whole}
use Rattle.sql_print.proofs.AsciiTexts.{ascii_byte}
use Rattle.sql_print.proofs.Flows.{IsName}
use Rattle.sql_print.proofs.LexedWalks.{run}
use Rattle.sql_print.proofs.LexedSigns.{Lexing, read_is, is_calm}
use Rattle.sql_print.proofs.LexedNames.{plain_text, plain_parameter}
use Rattle.sql_print.proofs.LexedEscapes.{name_says}
use Rattle.sql_print.proofs.LexedTexts.{quoted_utf8, behind_prefix, closed_none, closed_whole, name_runs, quoted_text}

never : {A : Type 0} → false ≡ true → A
never h = absurd (let g : true ≡ false = sym h in cc)

parameter_is : (n : List ℕ) → is_name n ≡ true → parameter n ≡ Some (l.Parameter n)
parameter_is n h = ap (λ (b : Bool). if b then Some (l.Parameter n) else None) h

plain_means : (dot : Bool) (n : List ℕ) → is_name n ≡ true → meaning dot s.Parameter (64 ∷ n) ≡ Some (piece.Token (l.Parameter n))
unfolding meaning
plain_means dot n h = ap (option_map piece.Token) (parameter_is n h)

parameter_calm : (y : Class) → is_calm y ≡ true → step t.Parameter y ≡ None
unfolding step
parameter_calm c.Space h = refl
parameter_calm c.Sign h = refl
parameter_calm _ h = never h

parameter_whole : whole t.Parameter ≡ Some s.Parameter
unfolding whole
parameter_whole = refl

at_utf8 : (n : List ℕ) → IsUtf8 n → IsUtf8 (64 ∷ n)
at_utf8 n h = IsUtf8-append (64 ∷ []) n (ascii_byte 64 (omega arith)) h

plain_lexing : (n : List ℕ) → IsName n → is_plain n ≡ true → Lexing (l.Parameter n)
unfolding lexeme_text
plain_lexing n g p =
    let same : 64 ∷ quote_name n ≡ 64 ∷ n = ap (λ (u : List ℕ). 64 ∷ u) (plain_text n p) in record {
      end = t.Parameter;
      shape = s.Parameter;
      runs = ap (λ (u : List ℕ). run t.Start (map class u)) same ∙ plain_parameter n p;
      whole_is = parameter_whole;
      reads = λ dot h. ap (read dot s.Parameter) same ∙ read_is dot s.Parameter (64 ∷ n) (Some (piece.Token (l.Parameter n))) (at_utf8 n g.1) (plain_means dot n g.0);
      calm = parameter_calm;
      closed = λ h y. never h;
      angle = λ h y k. never h;
      less = λ h y k. never h;
      greater = λ h. never h;
      some = refl;
      first_calm = λ h. never h;
      first_less = λ h. never h;
      first_greater = λ h. never h;
      first_letter = λ h. never h;
    }

quoted_means : (dot : Bool) (n : List ℕ) → is_name n ≡ true → meaning dot s.QuotedParameter (64 ∷ quoted 96 n) ≡ Some (piece.Token (l.Parameter n))
unfolding meaning
quoted_means dot n h =
    ap (λ (u : List ℕ). option_map piece.Token (option_and_then parameter (unescape content.Text u))) (behind_prefix 64 96 96 (escapes 96 n)) ∙ ap (λ (o : Option (List ℕ)). option_map piece.Token (option_and_then parameter o)) (name_says n) ∙ ap (option_map piece.Token) (parameter_is n h)

at_starts : (u : List ℕ) → run t.Start (map class (64 ∷ 96 ∷ u)) ≡ run (t.Within mark.Backquote s.QuotedParameter) (map class u)
unfolding class step
at_starts u = refl

quoted_lexing : (n : List ℕ) → IsName n → is_plain n ≡ false → Lexing (l.Parameter n)
unfolding lexeme_text
quoted_lexing n g p =
    let same : 64 ∷ quote_name n ≡ 64 ∷ quoted 96 n = ap (λ (u : List ℕ). 64 ∷ u) (quoted_text n p) in record {
      end = t.Closed s.QuotedParameter;
      shape = s.QuotedParameter;
      runs = ap (λ (u : List ℕ). run t.Start (map class u)) same ∙ at_starts (escapes 96 n ++ (96 ∷ [])) ∙ name_runs s.QuotedParameter n;
      whole_is = closed_whole s.QuotedParameter;
      reads = λ dot h. ap (read dot s.QuotedParameter) same ∙ read_is dot s.QuotedParameter (64 ∷ quoted 96 n) (Some (piece.Token (l.Parameter n))) (at_utf8 (quoted 96 n) (quoted_utf8 96 (omega arith) n g.1)) (quoted_means dot n g.0);
      calm = λ y h. closed_none s.QuotedParameter y;
      closed = λ h y. never h;
      angle = λ h y k. never h;
      less = λ h y k. never h;
      greater = λ h. never h;
      some = refl;
      first_calm = λ h. never h;
      first_less = λ h. never h;
      first_greater = λ h. never h;
      first_letter = λ h. never h;
    }

pub parameter_lexing : (n : List ℕ) → IsName n → (b : Bool) → is_plain n ≡ b → Lexing (l.Parameter n)
parameter_lexing n g true p = plain_lexing n g p
parameter_lexing n g false p = quoted_lexing n g p
