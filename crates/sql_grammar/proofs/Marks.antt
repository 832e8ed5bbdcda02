-- Tokens that fit, and readers of one token.
use Rattle.std.proofs.Common.{◌==◌, ◌≡◌, ℕ, suc, ◌≤◌, Bool, true, false, [], ◌∷◌, ◌++◌, length, Option, Some, None, refl, ap, arith}
use Rattle.std.proofs.lemmas.Bool.{and_from}
use Rattle.std.proofs.Math.Dec.{eqb_refl, T}
use denote.Enum.Bare.{true_same}
use Rattle.fronts.specs.Fronts.{Language}
use Rattle.fronts.specs.Readers.{◌>>=◌, token, if_comes}
use Rattle.fronts.proofs.Firm.{Opens, Any}
use Rattle.fronts.proofs.Exact as E
use Rattle.fronts.proofs.Exact.{Exact, less, opens_tok}
use Rattle.sql_names.specs.contracts.words.Reserved as reserved_contract
use Rattle.sql_ast.specs.contracts.words.Word as word_contract
use Rattle.sql_ast.specs.contracts.words.Sign as sign_contract
use Rattle.sql_names.specs.declared.words.Reserved.{Reserved}
use Rattle.sql_ast.specs.declared.words.Word.{Word}
use Rattle.sql_ast.specs.declared.words.Sign.{Sign}
use Rattle.sql_ast.specs.declared.token.Token.{Token}
use Rattle.sql_ast.specs.declared.token.Lexeme.{Lexeme}
use Rattle.sql_ast.specs.declared.token.Lexeme.TheVariants as l
use Rattle.sql_ast.specs.Marks.{closes_shift, Tokens, Is, Says, same_reserved, same_word, same_sign, reserved, sign, word, named, text, bytes, integer, parameter}
use Rattle.sql_ast.specs.Parts.{from_alias, counts}
use Rattle.sql_ast.specs.Trees.{function_of, prefix_of, product_of, sum_of, comparison_of, quantifier_of, test_of, form_of, cube_of}
use Rattle.sql_names.specs.declared.words.Reserved.TheVariants as r
use Rattle.sql_ast.specs.declared.words.Sign.TheVariants as s
use Rattle.sql_ast.specs.declared.words.Word.TheVariants as w
use Rattle.sql_grammar.specs.Classes.{set_word_of}
use Rattle.sql_grammar.specs.Ways.{Parser}
use Rattle.sql_grammar.specs.Exprs.{tells, told}

-- a token that fits
abbrev pub Example : (Token → Bool) → Type 0
Example fits = (t : Token) × (fits t ≡ true)

pub a_token : Lexeme → Token
a_token x = record { lexeme = x; start = 0; end = 0 }

pub the_reserved : (w : Reserved) → Example (reserved w)
unfolding a_token same_reserved
the_reserved w = (a_token (l.Reserved w), true_same reserved_contract.the_type w w refl)

pub the_sign : (w : Sign) → Example (sign w)
unfolding a_token same_sign
the_sign w = (a_token (l.Sign w), true_same sign_contract.the_type w w refl)

pub the_word : (w : Word) → Example (word w)
unfolding a_token same_word
the_word w = (a_token (l.Name [] (Some w)), true_same word_contract.the_type w w refl)

pub some_name : Example named
unfolding a_token
some_name = (a_token (l.Name [] None), refl)

pub some_integer : Example integer
unfolding a_token
some_integer = (a_token (l.Integer 0), refl)

pub some_text : Example text
unfolding a_token
some_text = (a_token (l.Text []), refl)

pub some_bytes : Example bytes
unfolding a_token
some_bytes = (a_token (l.Bytes []), refl)

pub some_parameter : Example parameter
unfolding a_token
some_parameter = (a_token (l.Parameter []), refl)

pub some_from_alias : Example from_alias
unfolding a_token
some_from_alias = (a_token (l.Name [] None), refl)

pub a_count : Example counts
unfolding a_token
a_count = (a_token (l.Integer 0), refl)

pub a_function : Example (tells function_of)
unfolding a_token
a_function = (a_token (l.Name [] None), refl)

pub a_prefix : Example (tells prefix_of)
unfolding a_token
a_prefix = (a_token (l.Sign s.Plus), refl)

pub a_product : Example (tells product_of)
unfolding a_token
a_product = (a_token (l.Sign s.Star), refl)

pub a_sum : Example (tells sum_of)
unfolding a_token
a_sum = (a_token (l.Sign s.Plus), refl)

pub a_comparison : Example (tells comparison_of)
unfolding a_token
a_comparison = (a_token (l.Sign s.Equal), refl)

pub a_quantifier : Example (tells quantifier_of)
unfolding a_token
a_quantifier = (a_token (l.Reserved r.Any), refl)

pub a_test : Example (tells test_of)
unfolding a_token
a_test = (a_token (l.Reserved r.Null), refl)

pub a_form : Example (tells form_of)
unfolding a_token
a_form = (a_token (l.Name [] (Some w.Offset)), refl)

pub a_cube : Example (tells cube_of)
unfolding a_token
a_cube = (a_token (l.Reserved r.Cube), refl)

pub a_set_word : Example (tells set_word_of)
unfolding a_token
a_set_word = (a_token (l.Reserved r.Union), refl)

from_test : (b : Bool) → T b → b ≡ true
from_test true h = refl
from_test false h = absurd h

same_number : (n : ℕ) → (n == n) ≡ true
same_number n = from_test (n == n) (eqb_refl n)

pub a_closing : (t : Token) → Example (closes_shift t)
unfolding same_sign
a_closing t = (record { lexeme = l.Sign s.Greater; start = t.end; end = 0 }, and_from (sign s.Greater (record { lexeme = l.Sign s.Greater; start = t.end; end = 0 })) (t.end == t.end) (true_same sign_contract.the_type s.Greater s.Greater refl) (same_number t.end))

-- an example as a token of the grammar
pub is_example : {fits : Token → Bool} → (x : Example fits) → Is fits x.0
is_example x = record { is = x.1 }

-- ---- one token

pub tok : {B : Type 0} {n : ℕ} {M : Language Token B} {fits : Token → Bool} {q q' : Token → Parser B} → Example fits
    → ((t : Token) → Is fits t → Exact n (λ b v. M b (t ∷ v)) (q t) (q' t)) → Exact (suc n) M (token fits >>= q) (token fits >>= q')
tok {B} {n} {M} {fits} x then = E.tok fits x.0 x.1 (λ t h. then t (record { is = h }))

pub also : {B : Type 0} {n : ℕ} {M : Language Token B} {fits : Token → Bool} {q q' : Token → Parser B} → Example fits
    → ((t : Token) → Is fits t → Exact n (λ b v. M b (t ∷ v)) (q t) (q' t)) → Exact n M (token fits >>= q) (token fits >>= q')
also x then = less (tok x then)

-- where it comes next, and else another reader
pub opt : {A : Type 0} {n : ℕ} {M : Language Token A} {fits : Token → Bool} {q q' : Token → Parser A} {r r' : Parser A} → Example fits
    → ((t : Token) → Is fits t → Exact n (λ b v. M b (t ∷ v)) (q t) (q' t)) → Exact (suc n) M r r' → Exact (suc n) M (if_comes fits (token fits >>= q) r) (if_comes fits (token fits >>= q') r')
opt {A} {n} {M} {fits} x then y = E.either_tok fits x.0 x.1 (λ t h. then t (record { is = h })) y

pub opt_also : {A : Type 0} {n : ℕ} {M : Language Token A} {fits : Token → Bool} {q q' : Token → Parser A} {r r' : Parser A} → Example fits
    → ((t : Token) → Is fits t → Exact n (λ b v. M b (t ∷ v)) (q t) (q' t)) → Exact n M r r' → Exact n M (if_comes fits (token fits >>= q) r) (if_comes fits (token fits >>= q') r')
opt_also {A} {n} {M} {fits} x then y = E.either_also fits x.0 x.1 (λ t h. then t (record { is = h })) y

pub tok_opens : {B : Type 0} {n : ℕ} {fits : Token → Bool} {q q' : Token → Parser B} {t : Token}
    → fits t ≡ true → ((s : Token) → Is fits s → Exact n Any (q s) (q' s)) → Opens t (token fits >>= q')
tok_opens h then = opens_tok h (λ s i. then s (record { is = i }))

-- a reader that is exact, and takes each token that fits
pub record Taker {A : Type 0} (n : ℕ) (fits : Token → Bool) (L : Language Token A) (p p' : Parser A) : Type 0 where
  pub exact : Exact n L p p'
  pub takes : (t : Token) → fits t ≡ true → Opens t p'

-- one that begins with such a token
pub taker : {A : Type 0} {n : ℕ} {M : Language Token A} {fits : Token → Bool} {q q' : Token → Parser A} → Example fits
    → ((t : Token) → Is fits t → Exact n (λ b v. M b (t ∷ v)) (q t) (q' t)) → Taker (suc n) fits M (token fits >>= q) (token fits >>= q')
taker x then = record { exact = tok x then; takes = λ t h. tok_opens h (λ s i. E.into (then s i) (λ b v l. tt)) }

-- ---- what tokens say

module _ {A : Type 0} (other : A) (what : Token → Option A) where
  says_by : (t : Token) (o : Option A) → what t ≡ o → (elim o [ None ↦ false | Some a ↦ true ]) ≡ true → what t ≡ Some (elim o [ None ↦ other | Some a ↦ a ])
  says_by t None e h = absurd cc
  says_by t (Some a) e h = e

  pub says : (t : Token) → Is (tells what) t → Says what t (told other what t)
  says t h = record { is = says_by t (what t) refl h.is }

  pub told_is : (t : Token) (a : A) → Says what t a → told other what t ≡ a
  told_is t a h = ap (λ (o : Option A). elim o [ None ↦ other | Some b ↦ b ]) h.is

  pub tells_is : (t : Token) (a : A) → Says what t a → tells what t ≡ true
  tells_is t a h = ap (λ (o : Option A). elim o [ None ↦ false | Some b ↦ true ]) h.is

-- ---- items behind a token

pub data AfterOf {A : Type 0} (fits : Token → Bool) (L : Language Token A) : A → Tokens → Type 0 where
  after_of : {t : Token} {a : A} {u : Tokens} → Is fits t → L a u → AfterOf fits L a (t ∷ u)

pub after_solid : {A : Type 0} (fits : Token → Bool) (L : Language Token A) (a : A) (u : Tokens) → AfterOf fits L a u → 1 ≤ length u
after_solid fits L _ _ (after_of i j) = omega arith

module _ {A : Type 0} {n : ℕ} {L : Language Token A} {fits : Token → Bool} {p p' : Parser A} (x : Example fits) (y : Exact n L p p') where
  pub after_exact : Exact (suc n) (AfterOf fits L) (token fits >>= (λ _. p)) (token fits >>= (λ _. p'))
  after_exact = tok x (λ t it. E.into y (λ a u l. after_of it l))

  pub after_opens : (t : Token) → fits t ≡ true → Opens t (token fits >>= (λ _. p'))
  after_opens t h = tok_opens h (λ s i. E.into y (λ a u l. tt))

pub split_empty : (u v : Tokens) → u ++ v ≡ [] → u ≡ []
split_empty [] v e = refl
split_empty (t ∷ u) v e = absurd cc

pub not_nil : (u : Tokens) → 1 ≤ length u → u ≡ [] → ⊥
not_nil u h e = let f : length u ≡ 0 = ap length e in omega arith
