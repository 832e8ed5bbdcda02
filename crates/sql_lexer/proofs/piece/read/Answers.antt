use Rattle.std.proofs.Common.{◌≡◌, ℕ, Bool, true, false, cond, List, Option, None, refl, sym, ◌∙◌, ap, subst}
use Rattle.std.proofs.lemmas.Str.{is_utf8-from_IsUtf8, IsUtf8-from_is_utf8}
use Rattle.std.specs.Prelude.{IfOk}
use Rattle.std.specs.Str.{is_utf8}
use Rattle.sql_ast.specs.declared.pieces.Shape.{Shape}
use Rattle.sql_ast.specs.declared.pieces.Piece.{Piece}
use Rattle.sql_ast.specs.Values.{meaning, read}
use Rattle.sql_lexer.proofs.piece.read.Goals as goal

read_text : (dot : Bool) (shape : Shape) (bytes : List ℕ) (b : Bool) → is_utf8 bytes ≡ b → cond b (meaning dot shape bytes) None ≡ read dot shape bytes
unfolding read
read_text dot shape bytes b e = ap (λ b. cond b (meaning dot shape bytes) None) (sym e)

not_text : (b : Bool) → (b ≡ true → ⊥) → b ≡ false
not_text true h = absurd (h refl)
not_text false h = refl

pub returns-in-Ok : goal.returns-in-Ok
returns-in-Ok c =
    let h = c.in-Ok.ensures.cases in
    subst (λ (o : Option Piece). IfOk c.meaning.result (λ p. p ≡ o))
    (ap (meaning c.args.dot c.args.shape) h.0 ∙ read_text c.args.dot c.args.shape c.args.bytes.now true (is_utf8-from_IsUtf8 c.args.bytes.now h.1)) c.meaning.ensures

pub returns-in-Err : goal.returns-in-Err
returns-in-Err c =
    let h = c.in-Err.ensures.cases in
    read_text c.args.dot c.args.shape c.args.bytes.now false (not_text (is_utf8 c.args.bytes.now) (λ e. h.0 (IsUtf8-from_is_utf8 c.args.bytes.now e)))
