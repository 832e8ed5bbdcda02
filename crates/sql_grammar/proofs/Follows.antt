-- That a reader reads each word of its language, whatever follows that doesn't go on with it: how tokens bind, and the
-- steps of such a proof.
use Rattle.std.proofs.Common.{◌≡◌, ℕ, ◌<◌, ◌≤◌, true, List, [], ◌∷◌, Option, Some, None, refl, sym, ap}
use denote.Enum.Bare.{same_true}
use Rattle.sql_names.specs.contracts.words.Reserved as reserved_contract
use Rattle.sql_ast.specs.contracts.words.Word as word_contract
use Rattle.sql_ast.specs.contracts.words.Sign as sign_contract
use Rattle.sql_names.specs.declared.words.Reserved.{Reserved}
use Rattle.sql_names.specs.declared.words.Reserved.TheVariants as r
use Rattle.sql_ast.specs.declared.words.Sign.{Sign}
use Rattle.sql_ast.specs.declared.words.Sign.TheVariants as s
use Rattle.sql_ast.specs.declared.words.Word.{Word}
use Rattle.sql_ast.specs.declared.token.Token.{Token}
use Rattle.sql_ast.specs.declared.token.Lexeme.{Lexeme}
use Rattle.sql_ast.specs.declared.token.Lexeme.TheVariants as l
use Rattle.sql_ast.specs.Marks.{Tokens, Is, same_reserved, same_word, same_sign, reserved_lexeme, sign_lexeme, word_lexeme, name_lexeme, reserved, sign, word, named}

-- ---- how weakly a token goes on with what stands before it

abbrev pub word_level : Reserved → ℕ
word_level r.True = 0
word_level r.False = 0
word_level r.Null = 0
word_level r.If = 0
word_level r.Case = 0
word_level r.Cast = 0
word_level r.Extract = 0
word_level r.Grouping = 0
word_level r.Exists = 0
word_level r.Array = 0
word_level r.Struct = 0
word_level r.Interval = 0
word_level r.Like = 8
word_level r.Between = 8
word_level r.In = 8
word_level r.Is = 8
word_level r.Not = 8
word_level r.And = 9
word_level r.Or = 10
word_level r.As = 11
word_level r.With = 12
word_level r.On = 13
word_level r.Using = 13
word_level r.Asc = 13
word_level r.Desc = 13
word_level r.Nulls = 14
word_level r.Cross = 15
word_level r.Inner = 15
word_level r.Join = 15
word_level r.Left = 15
word_level r.Right = 15
word_level r.Full = 15
word_level r.From = 16
word_level r.Where = 17
word_level r.Group = 18
word_level r.Ignore = 18
word_level r.Respect = 18
word_level r.Having = 19
word_level r.Union = 20
word_level r.Intersect = 20
word_level r.Except = 20
word_level r.Order = 21
word_level r.Limit = 22
word_level _ = 100

abbrev pub sign_level : Sign → ℕ
sign_level s.OpenRound = 0
sign_level s.Tilde = 0
sign_level s.OpenSquare = 1
sign_level s.Dot = 1
sign_level s.Star = 2
sign_level s.BarBar = 2
sign_level s.Plus = 3
sign_level s.Minus = 3
sign_level s.LessLess = 4
sign_level s.Greater = 4
sign_level s.Ampersand = 5
sign_level s.Caret = 6
sign_level s.Bar = 7
sign_level s.Equal = 8
sign_level s.BangEqual = 8
sign_level s.LessGreater = 8
sign_level s.Less = 8
sign_level s.LessEqual = 8
sign_level s.GreaterEqual = 8
sign_level s.Arrow = 11
sign_level s.Comma = 15
sign_level _ = 100

-- the level of literals is that of tokens that go on with nothing, and are nowhere behind a whole word
abbrev pub level : Lexeme → ℕ
level (l.Reserved x) = word_level x
level (l.Sign x) = sign_level x
level (l.Name n o) = 11
level _ = 0

abbrev pub level_of : Tokens → ℕ
level_of [] = 100
level_of (t ∷ ts) = level t.lexeme

-- the next token is weaker than this level; the end of the text is the weakest
pub record Over (k : ℕ) (ts : Tokens) : Type 0 where
  pub over : k < level_of ts

-- ---- which part a token may begin

abbrev pub word_rank : Reserved → ℕ
word_rank r.True = 1
word_rank r.False = 1
word_rank r.Null = 1
word_rank r.If = 1
word_rank r.Case = 1
word_rank r.Cast = 1
word_rank r.Extract = 1
word_rank r.Grouping = 1
word_rank r.Exists = 1
word_rank r.Array = 1
word_rank r.Struct = 1
word_rank r.With = 1
word_rank r.Not = 3
word_rank _ = 4

abbrev pub sign_rank : Sign → ℕ
sign_rank s.OpenRound = 1
sign_rank s.OpenSquare = 1
sign_rank s.Plus = 2
sign_rank s.Minus = 2
sign_rank s.Tilde = 2
sign_rank _ = 4

-- 1 begins a basic expression, 2 a prefix, 3 is NOT, 4 begins no expression
abbrev pub rank : Lexeme → ℕ
rank (l.Reserved x) = word_rank x
rank (l.Sign x) = sign_rank x
rank _ = 1

abbrev pub rank_of : Tokens → ℕ
rank_of [] = 4
rank_of (t ∷ ts) = rank t.lexeme

pub record Starts (k : ℕ) (ts : Tokens) : Type 0 where
  pub starts : rank_of ts ≤ k

-- ---- what a token is whose test is known

reserved_by : (x : Reserved) (y : Lexeme) → reserved_lexeme x y ≡ true → y ≡ l.Reserved x
unfolding same_reserved
reserved_by x (l.Reserved z) h = ap l.Reserved (sym (same_true reserved_contract.the_type tt x z h))
reserved_by x _ h = absurd cc

pub is_reserved : {x : Reserved} {t : Token} → Is (reserved x) t → t.lexeme ≡ l.Reserved x
is_reserved {x} {t} i = reserved_by x t.lexeme i.is

sign_by : (x : Sign) (y : Lexeme) → sign_lexeme x y ≡ true → y ≡ l.Sign x
unfolding same_sign
sign_by x (l.Sign z) h = ap l.Sign (sym (same_true sign_contract.the_type tt x z h))
sign_by x _ h = absurd cc

pub is_sign : {x : Sign} {t : Token} → Is (sign x) t → t.lexeme ≡ l.Sign x
is_sign {x} {t} i = sign_by x t.lexeme i.is

-- a name, and the word that it spells
pub record NameLexeme (x : Lexeme) : Type 0 where
  pub letters : List ℕ
  pub spells : Option Word
  pub is : x ≡ l.Name letters spells

name_by : (y : Lexeme) → name_lexeme y ≡ true → NameLexeme y
name_by (l.Name n o) h = record { letters = n; spells = o; is = refl }
name_by (l.Reserved z) h = absurd cc
name_by _ h = absurd cc

pub is_named : {t : Token} → Is named t → NameLexeme t.lexeme
is_named {t} i = name_by t.lexeme i.is

pub record WordLexeme (w : Word) (x : Lexeme) : Type 0 where
  pub letters : List ℕ
  pub is : x ≡ l.Name letters (Some w)

word_by : (x : Word) (y : Lexeme) → word_lexeme x y ≡ true → WordLexeme x y
unfolding same_word
word_by x (l.Name n (Some z)) h = record { letters = n; is = ap (λ (v : Word). l.Name n (Some v)) (sym (same_true word_contract.the_type tt x z h)) }
word_by x (l.Name n None) h = absurd cc
word_by x (l.Reserved z) h = absurd cc
word_by x _ h = absurd cc

pub is_word : {x : Word} {t : Token} → Is (word x) t → WordLexeme x t.lexeme
is_word {x} {t} i = word_by x t.lexeme i.is
