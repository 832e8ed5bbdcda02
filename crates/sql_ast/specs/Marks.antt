-- What the grammar sees of a token: which word, sign, name or literal it is.
use Rattle.std.specs.Prelude.{◌≡◌, ℕ, ◌==◌, Bool, true, false, ◌&&◌, List, [], ◌∷◌, Option, Some, None}
use denote.Enum.Bare.{sameb}
use Rattle.sql_names.specs.contracts.words.Reserved as reserved_contract
use Rattle.sql_ast.specs.contracts.words.Word as word_contract
use Rattle.sql_ast.specs.contracts.words.Sign as sign_contract
use Rattle.sql_names.specs.declared.words.Reserved.{Reserved}
use Rattle.sql_ast.specs.declared.words.Word.{Word}
use Rattle.sql_ast.specs.declared.words.Sign.{Sign}
use Rattle.sql_ast.specs.declared.words.Sign.TheVariants as s
use Rattle.sql_ast.specs.declared.token.Token.{Token}
use Rattle.sql_ast.specs.declared.token.Lexeme.{Lexeme}
use Rattle.sql_ast.specs.declared.token.Lexeme.TheVariants as l

abbrev pub Tokens : Type 0
Tokens = List Token

-- a token of the class that a test takes
pub record Is (fits : Token → Bool) (t : Token) : Type 0 where
  pub is : fits t ≡ true

-- a token that isn't of it
pub record IsNot (fits : Token → Bool) (t : Token) : Type 0 where
  pub is : fits t ≡ false

-- a token that says one of several things
pub record Says {A : Type 0} (what : Token → Option A) (t : Token) (a : A) : Type 0 where
  pub is : what t ≡ Some a

unfoldable pub same_reserved : Reserved → Reserved → Bool
same_reserved = sameb reserved_contract.the_type

unfoldable pub same_word : Word → Word → Bool
same_word = sameb word_contract.the_type

unfoldable pub same_sign : Sign → Sign → Bool
same_sign = sameb sign_contract.the_type

-- this reserved word
abbrev pub reserved_lexeme : Reserved → Lexeme → Bool
reserved_lexeme w (l.Reserved v) = same_reserved w v
reserved_lexeme w _ = false

abbrev pub reserved : Reserved → Token → Bool
reserved w t = reserved_lexeme w t.lexeme

-- this operator or mark
abbrev pub sign_lexeme : Sign → Lexeme → Bool
sign_lexeme w (l.Sign v) = same_sign w v
sign_lexeme w _ = false

abbrev pub sign : Sign → Token → Bool
sign w t = sign_lexeme w t.lexeme

-- an identifier that spells this word of the grammar, outside of backquotes
abbrev pub spells_word : Word → Option Word → Bool
spells_word w None = false
spells_word w (Some v) = same_word w v

abbrev pub word_lexeme : Word → Lexeme → Bool
word_lexeme w (l.Name n o) = spells_word w o
word_lexeme w _ = false

abbrev pub word : Word → Token → Bool
word w t = word_lexeme w t.lexeme

-- a name: any identifier. Reserved words are never names, and directly after `.` each word is one.
abbrev pub name_lexeme : Lexeme → Bool
name_lexeme (l.Name n o) = true
name_lexeme _ = false

abbrev pub named : Token → Bool
named t = name_lexeme t.lexeme

abbrev pub spelled_lexeme : Lexeme → List ℕ
spelled_lexeme (l.Name n o) = n
spelled_lexeme _ = []

abbrev pub spelled : Token → List ℕ
spelled t = spelled_lexeme t.lexeme

-- literals and parameters
abbrev pub integer_lexeme : Lexeme → Bool
integer_lexeme (l.Integer n) = true
integer_lexeme _ = false

abbrev pub integer : Token → Bool
integer t = integer_lexeme t.lexeme

abbrev pub number_lexeme : Lexeme → ℕ
number_lexeme (l.Integer n) = n
number_lexeme _ = 0

abbrev pub number : Token → ℕ
number t = number_lexeme t.lexeme

abbrev pub text_lexeme : Lexeme → Bool
text_lexeme (l.Text x) = true
text_lexeme _ = false

abbrev pub text : Token → Bool
text t = text_lexeme t.lexeme

abbrev pub bytes_lexeme : Lexeme → Bool
bytes_lexeme (l.Bytes x) = true
bytes_lexeme _ = false

abbrev pub bytes : Token → Bool
bytes t = bytes_lexeme t.lexeme

abbrev pub parameter_lexeme : Lexeme → Bool
parameter_lexeme (l.Parameter x) = true
parameter_lexeme _ = false

abbrev pub parameter : Token → Bool
parameter t = parameter_lexeme t.lexeme

-- what a STRING or BYTES literal says, or the name of a parameter
abbrev pub content_lexeme : Lexeme → List ℕ
content_lexeme (l.Text x) = x
content_lexeme (l.Bytes x) = x
content_lexeme (l.Parameter x) = x
content_lexeme _ = []

abbrev pub content : Token → List ℕ
content t = content_lexeme t.lexeme

-- the operator `>>` is two tokens `>` with nothing between
abbrev pub closes_shift : Token → Token → Bool
closes_shift first second = sign s.Greater second && (first.end == second.start)

-- the place where tokens begin
abbrev pub start_of : Tokens → ℕ
start_of [] = 0
start_of (t ∷ ts) = t.start
