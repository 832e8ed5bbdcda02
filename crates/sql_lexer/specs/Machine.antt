-- The machine that tells the shapes of pieces: which state comes behind a state at a byte, and what is whole there.
use Rattle.std.specs.Prelude.{Bool, true, false, cond, Option, Some, None}
use Rattle.sql_ast.specs.declared.pieces.Quote.{Quote}
use Rattle.sql_ast.specs.declared.pieces.Mark.{Mark}
use Rattle.sql_ast.specs.declared.pieces.Mark.TheVariants as mark
use Rattle.sql_ast.specs.declared.pieces.Class.{Class}
use Rattle.sql_ast.specs.declared.pieces.Class.TheVariants as c
use Rattle.sql_ast.specs.declared.pieces.LiteralPrefix.{LiteralPrefix}
use Rattle.sql_ast.specs.declared.pieces.LiteralPrefix.TheVariants as prefix
use Rattle.sql_ast.specs.declared.pieces.Quotes.TheVariants as quotes
use Rattle.sql_ast.specs.declared.pieces.Shape.{Shape}
use Rattle.sql_ast.specs.declared.pieces.Shape.TheVariants as s
use Rattle.sql_ast.specs.Classes.{is_letter, is_inner, closes, is_backslash, is_line_break, is_star, is_slash, is_equal, is_greater, is_bar, is_after_less}
use Rattle.sql_lexer.specs.declared.machine.State.{State}
use Rattle.sql_lexer.specs.declared.machine.State.TheVariants as t

-- the first byte of a piece
abbrev pub start : Class → Option State
start c.LetterR = Some t.LetterR
start c.LetterB = Some t.LetterB
start c.Letter = Some t.Word
start c.Digit = Some t.Integer
start c.LineBreak = Some (t.Closed s.Gap)
start c.Space = Some (t.Closed s.Gap)
start (c.Mark (mark.Quote q)) = Some (t.Opened q prefix.Plain)
start (c.Mark mark.Backquote) = Some (t.Within mark.Backquote s.QuotedName)
start c.Backslash = None
start c.Star = Some (t.Closed s.Sign)
start c.Slash = Some t.Slash
start c.Hash = Some t.Line
start c.Minus = Some t.Minus
start c.Less = Some t.Less
start c.Equal = Some (t.Closed s.Sign)
start c.Greater = Some t.Greater
start c.Bar = Some t.Bar
start c.Bang = Some t.Bang
start c.At = Some t.At
start c.Sign = Some (t.Closed s.Sign)
start c.Other = None

abbrev pub is_letter_r : Class → Bool
is_letter_r c.LetterR = true
is_letter_r _ = false

abbrev pub is_letter_b : Class → Bool
is_letter_b c.LetterB = true
is_letter_b _ = false

abbrev pub is_minus : Class → Bool
is_minus c.Minus = true
is_minus _ = false

-- a quote opens a literal
abbrev pub opened : LiteralPrefix → Class → Option State
opened p (c.Mark (mark.Quote q)) = Some (t.Opened q p)
opened p _ = None

-- within marks: the mark leads to this state
abbrev pub within : Mark → Shape → State → Class → Option State
within m shape closed x =
    cond (closes m x) (Some closed) (cond (is_backslash x) (Some (t.Escape m shape)) (cond (is_line_break x) None (Some (t.Within m shape))))

-- within three quotes: a quote leads to this state
abbrev pub thrice : Quote → LiteralPrefix → State → Class → Option State
thrice q p closed x = cond (closes (mark.Quote q) x) (Some closed) (cond (is_backslash x) (Some (t.TripleEscape q p)) (Some (t.Triple q p)))

abbrev pub in_block : Class → Option State
in_block x = cond (is_star x) (Some t.BlockStar) (Some t.Block)

unfoldable pub step : State → Class → Option State
step t.Start x = start x
step t.Word x = cond (is_inner x) (Some t.Word) None
step t.Integer x = cond (is_inner x) (Some t.Integer) None
step t.LetterR x = cond (is_inner x) (cond (is_letter_b x) (Some t.BothLetters) (Some t.Word)) (opened prefix.Raw x)
step t.LetterB x = cond (is_inner x) (cond (is_letter_r x) (Some t.BothLetters) (Some t.Word)) (opened prefix.Bytes x)
step t.BothLetters x = cond (is_inner x) (Some t.Word) (opened prefix.RawBytes x)
step (t.Opened q p) x = within (mark.Quote q) (s.Literal p quotes.One) (t.Twice q p) x
step (t.Twice q p) x = cond (closes (mark.Quote q) x) (Some (t.Triple q p)) None
step (t.Within m shape) x = within m shape (t.Closed shape) x
step (t.Escape m shape) x = cond (is_line_break x) None (Some (t.Within m shape))
step (t.Triple q p) x = thrice q p (t.TripleOne q p) x
step (t.TripleOne q p) x = thrice q p (t.TripleTwo q p) x
step (t.TripleTwo q p) x = thrice q p (t.Closed (s.Literal p quotes.Three)) x
step (t.TripleEscape q p) x = Some (t.Triple q p)
step t.At x = cond (is_letter x) (Some t.Parameter) (cond (closes mark.Backquote x) (Some (t.Within mark.Backquote s.QuotedParameter)) None)
step t.Parameter x = cond (is_inner x) (Some t.Parameter) None
step t.Minus x = cond (is_minus x) (Some t.Line) (cond (is_greater x) (Some (t.Closed s.Sign)) None)
step t.Less x = cond (is_after_less x) (Some (t.Closed s.Sign)) None
step t.Greater x = cond (is_equal x) (Some (t.Closed s.Sign)) None
step t.Bar x = cond (is_bar x) (Some (t.Closed s.Sign)) None
step t.Bang x = cond (is_equal x) (Some (t.Closed s.Sign)) None
step t.Line x = cond (is_line_break x) None (Some t.Line)
step t.Slash x = cond (is_star x) (Some t.Block) None
step t.Block x = in_block x
step t.BlockStar x = cond (is_slash x) (Some (t.Closed s.Gap)) (in_block x)
step (t.Closed shape) x = None

-- the shape that is whole at a state
unfoldable pub whole : State → Option Shape
whole t.Start = None
whole t.Word = Some s.Word
whole t.Integer = Some s.Integer
whole t.LetterR = Some s.Word
whole t.LetterB = Some s.Word
whole t.BothLetters = Some s.Word
whole (t.Opened q p) = None
whole (t.Twice q p) = Some (s.Literal p quotes.One)
whole (t.Within m shape) = None
whole (t.Escape m shape) = None
whole (t.Triple q p) = None
whole (t.TripleOne q p) = None
whole (t.TripleTwo q p) = None
whole (t.TripleEscape q p) = None
whole t.At = None
whole t.Parameter = Some s.Parameter
whole t.Minus = Some s.Sign
whole t.Less = Some s.Sign
whole t.Greater = Some s.Sign
whole t.Bar = Some s.Sign
whole t.Bang = None
whole t.Line = Some s.Gap
whole t.Slash = None
whole t.Block = None
whole t.BlockStar = None
whole (t.Closed shape) = Some shape
