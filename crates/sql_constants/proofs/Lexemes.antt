-- What a token says, where it fits.
use Rattle.std.proofs.Common.{◌≡◌, ℕ, true, List, Some, refl, ap, sym}
use denote.Enum.Bare.{same_true}
use Rattle.sql_names.specs.contracts.words.Reserved as reserved_contract
use Rattle.sql_ast.specs.contracts.words.Word as word_contract
use Rattle.sql_ast.specs.contracts.words.Sign as sign_contract
use Rattle.sql_names.specs.declared.words.Reserved.{Reserved}
use Rattle.sql_ast.specs.declared.words.Word.{Word}
use Rattle.sql_ast.specs.declared.words.Sign.{Sign}
use Rattle.sql_ast.specs.declared.token.Token.{Token}
use Rattle.sql_ast.specs.declared.token.Lexeme.{Lexeme}
use Rattle.sql_ast.specs.declared.token.Lexeme.TheVariants as l
use Rattle.sql_ast.specs.Marks.{Is, same_reserved, same_sign, same_word, reserved, reserved_lexeme, sign, sign_lexeme, word, word_lexeme, integer, integer_lexeme, number, number_lexeme, text, text_lexeme, bytes, bytes_lexeme, content, content_lexeme}

reserved_by : (x : Reserved) (y : Lexeme) → reserved_lexeme x y ≡ true → y ≡ l.Reserved x
unfolding same_reserved
reserved_by x (l.Reserved z) h = ap l.Reserved (sym (same_true reserved_contract.the_type tt x z h))
reserved_by x _ h = absurd cc

pub is_reserved : (x : Reserved) (t : Token) → Is (reserved x) t → t.lexeme ≡ l.Reserved x
is_reserved x t i = reserved_by x t.lexeme i.is

sign_by : (x : Sign) (y : Lexeme) → sign_lexeme x y ≡ true → y ≡ l.Sign x
unfolding same_sign
sign_by x (l.Sign z) h = ap l.Sign (sym (same_true sign_contract.the_type tt x z h))
sign_by x _ h = absurd cc

pub is_sign : (x : Sign) (t : Token) → Is (sign x) t → t.lexeme ≡ l.Sign x
is_sign x t i = sign_by x t.lexeme i.is

-- a name that spells a word
pub record WordLexeme (x : Word) (y : Lexeme) : Type 0 where
  pub letters : List ℕ
  pub is : y ≡ l.Name letters (Some x)

word_by : (x : Word) (y : Lexeme) → word_lexeme x y ≡ true → WordLexeme x y
unfolding same_word
word_by x (l.Name n (Some z)) h = record { letters = n; is = ap (λ w. l.Name n (Some w)) (sym (same_true word_contract.the_type tt x z h)) }
word_by x _ h = absurd cc

pub is_word : (x : Word) (t : Token) → Is (word x) t → WordLexeme x t.lexeme
is_word x t i = word_by x t.lexeme i.is

integer_by : (y : Lexeme) → integer_lexeme y ≡ true → y ≡ l.Integer (number_lexeme y)
integer_by (l.Integer n) h = refl
integer_by _ h = absurd cc

pub is_integer : (t : Token) → Is integer t → t.lexeme ≡ l.Integer (number t)
is_integer t i = integer_by t.lexeme i.is

text_by : (y : Lexeme) → text_lexeme y ≡ true → y ≡ l.Text (content_lexeme y)
text_by (l.Text x) h = refl
text_by _ h = absurd cc

pub is_text : (t : Token) → Is text t → t.lexeme ≡ l.Text (content t)
is_text t i = text_by t.lexeme i.is

bytes_by : (y : Lexeme) → bytes_lexeme y ≡ true → y ≡ l.Bytes (content_lexeme y)
bytes_by (l.Bytes x) h = refl
bytes_by _ h = absurd cc

pub is_bytes : (t : Token) → Is bytes t → t.lexeme ≡ l.Bytes (content t)
is_bytes t i = bytes_by t.lexeme i.is
