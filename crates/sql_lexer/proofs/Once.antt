-- A text has one list of tokens, or one first fault.
use Rattle.std.proofs.Common.{◌≡◌, ◌⊎◌, inl, inr, ℕ, zero, suc, ◌+◌, ◌<◌, ◌≤◌, Bool, false, List, [], ◌∷◌, length, take, drop, map, Option, Some, None, refl, sym, ap, subst, length-drop, arith}
use Rattle.std.specs.Prelude.{Result, Ok, Err}
use Rattle.fronts.specs.Fronts.{Front, OneReading}
use Rattle.fronts.specs.Machines.{walk}
use Rattle.fronts.proofs.Walks.{walks, one_reading}
use Rattle.fronts.proofs.Once.{same_front}
use Rattle.sql_ast.specs.declared.pieces.Shape.{Shape}
use Rattle.sql_ast.specs.declared.pieces.Piece.TheVariants as piece
use Rattle.sql_ast.specs.declared.token.Lexeme.{Lexeme}
use Rattle.sql_ast.specs.declared.token.Token.{Token}
use Rattle.sql_ast.specs.Classes.{class}
use Rattle.sql_ast.specs.Forms.{Form}
use Rattle.sql_ast.specs.Values.{read, is_dot}
use Rattle.sql_ast.specs.Tokens.{Next, NoPiece, Lexes, lexes_end, lexes_gap, lexes_token, Faulty, faulty_shape, faulty_value, faulty_after_gap, faulty_after_token, TokensOf}
use Rattle.sql_lexer.specs.declared.machine.State.TheVariants as t
use Rattle.sql_lexer.specs.Machine.{step, whole}
use Rattle.sql_lexer.proofs.Left.{Left}
use Rattle.sql_lexer.proofs.States.{machine}
use Rattle.sql_lexer.proofs.Pieces.{no_empty}

one_shape : OneReading Form
one_shape = one_reading step whole Left machine t.Start

module _ (text : List ℕ) where
  same : (n m : ℕ) (o p : Option Shape) → Front Form (map class text) n o → Front Form (map class text) m p → (n ≡ m) × (o ≡ p)
  same n m o p f g = same_front Form (map class text) one_shape n m o p f g

  same_size : (a b : Shape) (n m : ℕ) → Next text a n → Next text b m → n ≡ m
  same_size a b n m f g = (same n m (Some a) (Some b) f g).0

  same_read : (dot : Bool) (a b : Shape) (n m : ℕ) → Next text a n → Next text b m → read dot a (take n text) ≡ read dot b (take m text)
  same_read dot a b n m f g = let e = same n m (Some a) (Some b) f g in let h = e.0 in let k = e.1 in cc

  piece_or_none : (a : Shape) (n m : ℕ) → Next text a n → NoPiece text m → ⊥
  piece_or_none a n m f g = let e = (same n m (Some a) None f g).1 in cc

no_next : (a : Shape) (n : ℕ) → Next [] a n → ⊥
no_next a n f = no_empty a (subst (Form a) (empty_front n f.within) f.spells)
  where
    empty_front : (n : ℕ) → n ≤ 0 → take n (map class []) ≡ []
    empty_front n le = let e : n ≡ 0 = omega arith in rw e refl

-- two readings of a text whose first piece is the same
module _ (dot : Bool) (text : List ℕ) (a b : Shape) (n m : ℕ) (f : Next text a n) (g : Next text b m) where
  gap_token : (l : Lexeme) → read dot a (take n text) ≡ Some piece.Gap → read dot b (take m text) ≡ Some (piece.Token l) → ⊥
  gap_token l e d = let h = same_read text dot a b n m f g in cc

  gap_none : read dot a (take n text) ≡ Some piece.Gap → read dot b (take m text) ≡ None → ⊥
  gap_none e d = let h = same_read text dot a b n m f g in cc

  token_none : (l : Lexeme) → read dot a (take n text) ≡ Some (piece.Token l) → read dot b (take m text) ≡ None → ⊥
  token_none l e d = let h = same_read text dot a b n m f g in cc

  same_lexeme : (l k : Lexeme) → read dot a (take n text) ≡ Some (piece.Token l) → read dot b (take m text) ≡ Some (piece.Token k) → l ≡ k
  same_lexeme l k e d = let h = same_read text dot a b n m f g in cc

  lexes_same : (at : ℕ) (next : Bool) (tokens : List Token) → Lexes (at + m) next (drop m text) tokens → Lexes (at + n) next (drop n text) tokens
  lexes_same at next tokens l = subst (λ k. Lexes (at + k) next (drop k text) tokens) (sym (same_size text a b n m f g)) l

  faulty_same : (at : ℕ) (next : Bool) (place : ℕ) → Faulty (at + m) next (drop m text) place → Faulty (at + n) next (drop n text) place
  faulty_same at next place l = subst (λ k. Faulty (at + k) next (drop k text) place) (sym (same_size text a b n m f g)) l

lexes_once : (at : ℕ) (dot : Bool) (text : List ℕ) (a b : List Token) → Lexes at dot text a → Lexes at dot text b → a ≡ b
lexes_once at dot _ _ _ lexes_end lexes_end = refl
lexes_once at dot _ _ _ lexes_end (lexes_gap s n f e l) = absurd (no_next s n f)
lexes_once at dot _ _ _ lexes_end (lexes_token s n y f e l) = absurd (no_next s n f)
lexes_once at dot _ _ _ (lexes_gap s n f e l) lexes_end = absurd (no_next s n f)
lexes_once at dot _ _ _ (lexes_token s n y f e l) lexes_end = absurd (no_next s n f)
lexes_once at dot text a b (lexes_gap s n f e l) (lexes_gap s' m g e' l') = lexes_once (at + n) dot (drop n text) a b l (lexes_same dot text s s' n m f g at dot b l')
lexes_once at dot text a _ (lexes_gap s n f e l) (lexes_token s' m y g e' l') = absurd (gap_token dot text s s' n m f g y e e')
lexes_once at dot text _ b (lexes_token s n y f e l) (lexes_gap s' m g e' l') = absurd (gap_token dot text s' s m n g f y e' e)
lexes_once at dot text _ _ (lexes_token {tokens = a} s n y f e l) (lexes_token {tokens = b} s' m z g e' l') =
    let k = same_size text s s' n m f g in
    let yz = same_lexeme dot text s s' n m f g y z e e' in
    let rest = lexes_once (at + n) (is_dot y) (drop n text) a b l (subst (λ w. Lexes (at + n) (is_dot w) (drop n text) b) (sym yz) (lexes_same dot text s s' n m f g at (is_dot z) b l')) in
    cc

faulty_once : (at : ℕ) (dot : Bool) (text : List ℕ) (j k : ℕ) → Faulty at dot text j → Faulty at dot text k → j ≡ k
faulty_once at dot text _ _ (faulty_shape n h f) (faulty_shape m h' g) = refl
faulty_once at dot text _ _ (faulty_shape n h f) (faulty_value s m g e) = refl
faulty_once at dot text _ _ (faulty_shape n h f) (faulty_after_gap s m g e l) = absurd (piece_or_none text s m n g f)
faulty_once at dot text _ _ (faulty_shape n h f) (faulty_after_token s m y g e l) = absurd (piece_or_none text s m n g f)
faulty_once at dot text _ _ (faulty_value s n f e) (faulty_shape m h g) = refl
faulty_once at dot text _ _ (faulty_value s n f e) (faulty_value s' m g e') = refl
faulty_once at dot text _ _ (faulty_value s n f e) (faulty_after_gap s' m g e' l) = absurd (gap_none dot text s' s m n g f e' e)
faulty_once at dot text _ _ (faulty_value s n f e) (faulty_after_token s' m y g e' l) = absurd (token_none dot text s' s m n g f y e' e)
faulty_once at dot text _ _ (faulty_after_gap s n f e l) (faulty_shape m h g) = absurd (piece_or_none text s n m f g)
faulty_once at dot text _ _ (faulty_after_gap s n f e l) (faulty_value s' m g e') = absurd (gap_none dot text s s' n m f g e e')
faulty_once at dot text j k (faulty_after_gap s n f e l) (faulty_after_gap s' m g e' l') = faulty_once (at + n) dot (drop n text) j k l (faulty_same dot text s s' n m f g at dot k l')
faulty_once at dot text _ _ (faulty_after_gap s n f e l) (faulty_after_token s' m y g e' l') = absurd (gap_token dot text s s' n m f g y e e')
faulty_once at dot text _ _ (faulty_after_token s n y f e l) (faulty_shape m h g) = absurd (piece_or_none text s n m f g)
faulty_once at dot text _ _ (faulty_after_token s n y f e l) (faulty_value s' m g e') = absurd (token_none dot text s s' n m f g y e e')
faulty_once at dot text _ _ (faulty_after_token s n y f e l) (faulty_after_gap s' m g e' l') = absurd (gap_token dot text s' s m n g f y e' e)
faulty_once at dot text j k (faulty_after_token s n y f e l) (faulty_after_token s' m z g e' l') =
    faulty_once (at + n) (is_dot y) (drop n text) j k l
    (subst (λ v. Faulty (at + n) (is_dot v) (drop n text) k) (sym (same_lexeme dot text s s' n m f g y z e e')) (faulty_same dot text s s' n m f g at (is_dot z) k l'))

not_both : (at : ℕ) (dot : Bool) (text : List ℕ) (a : List Token) (k : ℕ) → Lexes at dot text a → Faulty at dot text k → ⊥
not_both at dot _ _ _ lexes_end (faulty_shape m h g) = absurd (omega arith)
not_both at dot _ _ _ lexes_end (faulty_value s m g e) = no_next s m g
not_both at dot _ _ _ lexes_end (faulty_after_gap s m g e l) = no_next s m g
not_both at dot _ _ _ lexes_end (faulty_after_token s m y g e l) = no_next s m g
not_both at dot text _ _ (lexes_gap s n f e l) (faulty_shape m h g) = piece_or_none text s n m f g
not_both at dot text _ _ (lexes_gap s n f e l) (faulty_value s' m g e') = gap_none dot text s s' n m f g e e'
not_both at dot text a k (lexes_gap s n f e l) (faulty_after_gap s' m g e' l') = not_both (at + n) dot (drop n text) a k l (faulty_same dot text s s' n m f g at dot k l')
not_both at dot text _ _ (lexes_gap s n f e l) (faulty_after_token s' m y g e' l') = gap_token dot text s s' n m f g y e e'
not_both at dot text _ _ (lexes_token s n y f e l) (faulty_shape m h g) = piece_or_none text s n m f g
not_both at dot text _ _ (lexes_token s n y f e l) (faulty_value s' m g e') = token_none dot text s s' n m f g y e e'
not_both at dot text _ _ (lexes_token s n y f e l) (faulty_after_gap s' m g e' l') = gap_token dot text s' s m n g f y e' e
not_both at dot text _ k (lexes_token {tokens = a} s n y f e l) (faulty_after_token s' m z g e' l') =
    not_both (at + n) (is_dot y) (drop n text) a k l
    (subst (λ v. Faulty (at + n) (is_dot v) (drop n text) k) (sym (same_lexeme dot text s s' n m f g y z e e')) (faulty_same dot text s s' n m f g at (is_dot z) k l'))

pub one_answer : (text : List ℕ) (left right : Result (List Token) ℕ) → TokensOf text left → TokensOf text right → left ≡ right
one_answer text (Ok a) (Ok b) l m = ap Ok (lexes_once 0 false text a b l m)
one_answer text (Ok a) (Err k) l m = absurd (not_both 0 false text a k l m)
one_answer text (Err j) (Ok b) l m = absurd (not_both 0 false text b j m l)
one_answer text (Err j) (Err k) l m = ap Err (faulty_once 0 false text j k l m)

-- ---- each text has an answer

abbrev Answer : ℕ → Bool → List ℕ → Type 0
Answer at dot text = ((tokens : List Token) × Lexes at dot text tokens) ⊎ ((place : ℕ) × Faulty at dot text place)

pub some_size : (a : Shape) (n : ℕ) (text : List ℕ) → Next text a n → 0 < n
some_size a zero text f = absurd (no_empty a f.spells)
some_size a (suc n) text f = omega arith

answer_by : (at : ℕ) (dot : Bool) (text : List ℕ) → 0 < length text → (n : ℕ) (o : Option Shape) → Front Form (map class text) n o
    → ((next : Bool) → 0 < n → Answer (at + n) next (drop n text)) → Answer at dot text
answer_by at dot text some n None f rest = inr (at, faulty_shape n some f)
answer_by at dot text some n (Some a) f rest = elim (read dot a (take n text)) as (λ o. read dot a (take n text) ≡ o → Answer at dot text) [
  | None ↦ λ e. inr (at, faulty_value a n f e)
  | Some piece.Gap ↦ λ e. elim (rest dot (some_size a n text f)) [ inl x ↦ inl (x.0, lexes_gap a n f e x.1) | inr x ↦ inr (x.0, faulty_after_gap a n f e x.1) ]
  | Some (piece.Token l) ↦ λ e. elim (rest (is_dot l) (some_size a n text f)) [
    | inl x ↦ inl (record { lexeme = l; start = at; «end» = at + n } ∷ x.0, lexes_token a n l f e x.1)
    | inr x ↦ inr (x.0, faulty_after_token a n l f e x.1)
  ]
] refl

answer : (fuel at : ℕ) (dot : Bool) (text : List ℕ) → length text ≤ fuel → Answer at dot text
answer fuel at dot [] le = inl ([], lexes_end)
answer zero at dot (b ∷ text) le = absurd (omega arith)
answer (suc fuel) at dot (b ∷ text) le =
    let w = walk step t.Start (map class (b ∷ text)) in
    answer_by at dot (b ∷ text) (omega arith) w.0 (whole w.1) (walks step whole Left machine t.Start (map class (b ∷ text)))
    (λ next some. answer fuel (at + w.0) next (drop w.0 (b ∷ text)) (let l = length-drop w.0 (b ∷ text) in omega arith))

pub some_answer : (text : List ℕ) → (answer : Result (List Token) ℕ) × TokensOf text answer
some_answer text = elim (answer (length text) 0 false text (omega arith)) [ inl x ↦ (Ok x.0, x.1) | inr x ↦ (Err x.0, x.1) ]
