-- Tokens that carry the pieces of a print, one token a piece, wherever they stand; and what such tokens spell.
use Rattle.std.proofs.Common.{◌≡◌, ℕ, false, ◌&&◌, List, [], ◌∷◌, ◌++◌, Option, Some, refl, ◌∙◌, ap, subst}
use Rattle.std.proofs.lemmas.List.{append_assoc}
use denote.Enum.Bare.{true_same}
use Rattle.sql_names.specs.contracts.words.Reserved as reserved_contract
use Rattle.sql_ast.specs.contracts.words.Word as word_contract
use Rattle.sql_ast.specs.contracts.words.Sign as sign_contract
use Rattle.sql_names.specs.declared.words.Reserved.{Reserved}
use Rattle.sql_ast.specs.declared.words.Word.{Word}
use Rattle.sql_ast.specs.declared.words.Sign.{Sign}
use Rattle.sql_ast.specs.declared.token.Token.{Token}
use Rattle.sql_ast.specs.declared.token.Lexeme.{Lexeme}
use Rattle.sql_ast.specs.declared.token.Lexeme.TheVariants as l
use Rattle.sql_ast.specs.Marks.{Tokens, Is, Says, same_reserved, same_word, same_sign, reserved, reserved_lexeme, sign, sign_lexeme, word, word_lexeme, named, name_lexeme}
use Rattle.sql_ast.specs.Pieces.{Piece}

-- where no space stands behind a piece, the next token begins where its token ends
abbrev pub Touching : Piece → Token → List Piece → Tokens → Type 0
Touching p t [] ts = Unit {0}
Touching p t (q ∷ qs) [] = Unit {0}
Touching p t (q ∷ qs) (x ∷ xs) = (p.behind && q.before) ≡ false → t.end ≡ x.start

pub data Carries : List Piece → Tokens → Type 0 where
  carries_none : Carries [] []
  carries_more : {p : Piece} {t : Token} {ps : List Piece} {ts : Tokens} → t.lexeme ≡ p.lexeme → Touching p t ps ts → Carries ps ts → Carries (p ∷ ps) (t ∷ ts)

-- ---- the tokens of two runs of pieces are those of the first, and then those of the second

pub data Parted (ps qs : List Piece) : Tokens → Type 0 where
  parted : {u v : Tokens} → Carries ps u → Carries qs v → Parted ps qs (u ++ v)

touching_front : (p : Piece) (t : Token) (ps qs : List Piece) (u v : Tokens) → Carries ps u → Touching p t (ps ++ qs) (u ++ v) → Touching p t ps u
touching_front p t _ qs _ v carries_none h = tt
touching_front p t _ qs _ v (carries_more e touch c) h = h

parted_more : (p : Piece) (t : Token) (ps qs : List Piece) (ts : Tokens) → t.lexeme ≡ p.lexeme → Touching p t (ps ++ qs) ts → Parted ps qs ts → Parted (p ∷ ps) qs (t ∷ ts)
parted_more p t ps qs _ e touch (parted {u = u} {v = v} c d) = parted (carries_more e (touching_front p t ps qs u v c touch) c) d

pub in_parts : (ps qs : List Piece) (ts : Tokens) → Carries (ps ++ qs) ts → Parted ps qs ts
in_parts [] qs ts c = parted carries_none c
in_parts (p ∷ ps) qs _ (carries_more {t = t} {ts = ts} e touch c) = parted_more p t ps qs ts e touch (in_parts ps qs ts c)

-- what holds of all tokens of each of two runs holds of their tokens
pub split : {ps qs : List Piece} (G : Tokens → Type 0) (ts : Tokens) → Carries (ps ++ qs) ts → ((u v : Tokens) → Carries ps u → Carries qs v → G (u ++ v)) → G ts
split {ps} {qs} G ts c k = by ts (in_parts ps qs ts c)
  where
    by : (ts : Tokens) → Parted ps qs ts → G ts
    by _ (parted {u = u} {v = v} c d) = k u v c d

pub one : {p : Piece} {ps : List Piece} (G : Tokens → Type 0) (ts : Tokens) → Carries (p ∷ ps) ts → ((t : Token) (v : Tokens) → t.lexeme ≡ p.lexeme → Carries ps v → G (t ∷ v)) → G ts
one G _ (carries_more {t = t} {ts = v} e touch c) k = k t v e c

pub nothing : (G : Tokens → Type 0) (ts : Tokens) → Carries [] ts → G [] → G ts
nothing G _ carries_none g = g

-- the same pieces, otherwise grouped
pub carry : {ps qs : List Piece} → ps ≡ qs → (ts : Tokens) → Carries ps ts → Carries qs ts
carry e ts c = subst (λ (ps : List Piece). Carries ps ts) e c

pub in_three : (a b c : List Piece) → (a ++ b) ++ c ≡ a ++ (b ++ c)
in_three a b c = append_assoc a b c

pub in_four : (a b c d : List Piece) → ((a ++ b) ++ c) ++ d ≡ a ++ (b ++ (c ++ d))
in_four a b c d = append_assoc (a ++ b) c d ∙ append_assoc a b (c ++ d)

pub in_five : (a b c d f : List Piece) → (((a ++ b) ++ c) ++ d) ++ f ≡ a ++ (b ++ (c ++ (d ++ f)))
in_five a b c d f = append_assoc ((a ++ b) ++ c) d f ∙ in_four a b c (d ++ f)

-- ---- which token carries which piece

pub is_reserved : (w : Reserved) (t : Token) → t.lexeme ≡ l.Reserved w → Is (reserved w) t
unfolding same_reserved
is_reserved w t e = record { is = ap (reserved_lexeme w) e ∙ true_same reserved_contract.the_type w w refl }

pub is_sign : (x : Sign) (t : Token) → t.lexeme ≡ l.Sign x → Is (sign x) t
unfolding same_sign
is_sign x t e = record { is = ap (sign_lexeme x) e ∙ true_same sign_contract.the_type x x refl }

pub is_word : (w : Word) (n : List ℕ) (t : Token) → t.lexeme ≡ l.Name n (Some w) → Is (word w) t
unfolding same_word
is_word w n t e = record { is = ap (word_lexeme w) e ∙ true_same word_contract.the_type w w refl }

pub is_named : (n : List ℕ) (o : Option Word) (t : Token) → t.lexeme ≡ l.Name n o → Is named t
is_named n o t e = record { is = ap name_lexeme e }

pub says : {A : Type 0} (what : Lexeme → Option A) (t : Token) (x : Lexeme) (a : A) → t.lexeme ≡ x → what x ≡ Some a → Says (λ t. what t.lexeme) t a
says what t x a e f = record { is = ap what e ∙ f }

-- ---- what is spelled

-- the tokens spell a tree that is the same, places aside
pub record Found {A : Type 0} (L : A → Tokens → Type 0) (bare : A → A) (a : A) (ts : Tokens) : Type 0 where
  pub tree : A
  pub spells : L tree ts
  pub same : bare tree ≡ bare a

-- all tokens that carry the pieces do
pub record Back {A : Type 0} (L : A → Tokens → Type 0) (bare : A → A) (ps : List Piece) (a : A) : Type 0 where
  pub back : (ts : Tokens) → Carries ps ts → Found L bare a ts
