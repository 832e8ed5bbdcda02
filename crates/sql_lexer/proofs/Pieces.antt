-- The loop over the pieces of a text.
use Rattle.std.proofs.Common.{◌≡◌, ℕ, ◌+◌, ◌-◌, ◌<◌, ◌≤◌, Bool, false, List, [], ◌∷◌, ◌++◌, length, take, drop, map, Option, Some, None, sym, ◌∙◌, ap, subst, append_assoc, append-nil, length-drop, arith}
use Rattle.std.proofs.lemmas.List.{drop_all, drop-drop, length-map, take-map}
use Rattle.std.specs.Prelude.{IfSome}
use Rattle.fronts.specs.Fronts.{Front}
use Rattle.fronts.specs.Machines.{walk, ahead}
use Rattle.fronts.proofs.Walks.{walks}
use Rattle.fronts.proofs.Once.{front_within}
use Rattle.sql_ast.specs.declared.pieces.Class.{Class}
use Rattle.sql_ast.specs.declared.pieces.Shape.{Shape}
use Rattle.sql_ast.specs.declared.pieces.Piece.TheVariants as piece
use Rattle.sql_ast.specs.declared.token.Lexeme.{Lexeme}
use Rattle.sql_ast.specs.declared.token.Token.{Token}
use Rattle.sql_ast.specs.Classes.{class}
use Rattle.sql_ast.specs.Forms.{Form, form_plain}
use Rattle.sql_ast.specs.Values.{read, is_dot}
use Rattle.sql_ast.specs.Tokens.{Lexes, lexes_end, lexes_gap, lexes_token, Faulty, faulty_shape, faulty_value, faulty_after_gap, faulty_after_token}
use Rattle.sql_lexer.specs.declared.machine.State.{State}
use Rattle.sql_lexer.specs.declared.machine.State.TheVariants as t
use Rattle.sql_lexer.specs.Machine.{step, whole}
use Rattle.sql_lexer.specs.Lexed.{Stood}
use Rattle.sql_lexer.proofs.Left.{Left}
use Rattle.sql_lexer.proofs.States.{machine}

-- ---- one piece

-- where the machine stops is where the longest front stops
pub stood : (text : List ℕ) (at : ℕ) (r : ℕ × State) → r ≡ ahead at (walk step t.Start (map class (drop at text))) → Stood text at r.0 (whole r.1)
stood text at r e =
    subst (λ (x : ℕ × State). Stood text at x.0 (whole x.1)) (sym e) (record {
      from = let n = (walk step t.Start (map class (drop at text))).0 in omega arith;
      front = subst (λ n. Front Form (map class (drop at text)) n (whole (walk step t.Start (map class (drop at text))).1))
          (let n = (walk step t.Start (map class (drop at text))).0 in let z : n ≡ (n + at) - at = omega arith in z)
          (walks step whole Left machine t.Start (map class (drop at text)));
    })

pub within : (text : List ℕ) (at stop : ℕ) (o : Option Shape) → at ≤ length text → Stood text at stop o → stop ≤ length text
within text at stop o le s =
    let k = front_within Form (map class (drop at text)) (stop - at) o s.front in
    let e = length-map (drop at text) class in
    let f = length-drop at text in
    let z = s.from in
    omega arith

pub no_empty : (a : Shape) → Form a [] → ⊥
no_empty _ (form_plain l) = elim l [ ]

-- a piece has a byte
some_read : (text : List Class) (a : Shape) (n : ℕ) → n ≡ 0 → Form a (take n text) → ⊥
some_read text a n e f = no_empty a (subst (λ k. Form a (take k text)) e f)

further : (a b : ℕ) → a ≤ b → (b ≡ a → ⊥) → a < b
further a b le h = omega (arith, h)

pub moved : (text : List ℕ) (at stop : ℕ) (o : Option Shape) → Stood text at stop o → IfSome o (λ _. at < stop)
moved text at stop None s = tt
moved text at stop (Some shape) s = let le = s.from in further at stop le (λ e. some_read (map class (drop at text)) shape (stop - at) (omega arith) s.front.spells)

-- the bytes of a piece have its shape
pub shaped : (text : List ℕ) (at stop : ℕ) (shape : Shape) → Stood text at stop (Some shape) → Form shape (map class (take (stop - at) (drop at text)))
shaped text at stop shape s = subst (Form shape) (take-map class (stop - at) (drop at text)) s.front.spells

-- ---- all pieces

-- what was found so far, and what is left to say of the rest
pub record Reached (text : List ℕ) (at : ℕ) (dot : Bool) (found : List Token) : Type 0 where
  pub within : at ≤ length text
  pub goes : (more : List Token) → Lexes at dot (drop at text) more → Lexes 0 false text (found ++ more)
  pub fails : (place : ℕ) → Faulty at dot (drop at text) place → Faulty 0 false text place

pub starts : (text : List ℕ) → Reached text 0 false []
starts text = record { within = omega arith; goes = λ more l. l; fails = λ place l. l }

module _ (text : List ℕ) (at stop : ℕ) (dot : Bool) (found : List Token) (shape : Shape) (r : Reached text at dot found) (s : Stood text at stop (Some shape)) where
  there : at + (stop - at) ≡ stop
  there = let le = s.from in omega arith

  rest : drop (stop - at) (drop at text) ≡ drop stop text
  rest = drop-drop (stop - at) at text ∙ ap (λ n. drop n text) there

  lexes_rest : (next : Bool) (more : List Token) → Lexes stop next (drop stop text) more → Lexes (at + (stop - at)) next (drop (stop - at) (drop at text)) more
  lexes_rest next more l = subst (λ n. Lexes n next (drop (stop - at) (drop at text)) more) (sym there) (subst (λ u. Lexes stop next u more) (sym rest) l)

  faulty_rest : (next : Bool) (place : ℕ) → Faulty stop next (drop stop text) place → Faulty (at + (stop - at)) next (drop (stop - at) (drop at text)) place
  faulty_rest next place l = subst (λ n. Faulty n next (drop (stop - at) (drop at text)) place) (sym there) (subst (λ u. Faulty stop next u place) (sym rest) l)

  pub gap : read dot shape (take (stop - at) (drop at text)) ≡ Some piece.Gap → Reached text stop dot found
  gap e = record {
    within = within text at stop (Some shape) r.within s;
    goes = λ more l. r.goes more (lexes_gap shape (stop - at) s.front e (lexes_rest dot more l));
    fails = λ place l. r.fails place (faulty_after_gap shape (stop - at) s.front e (faulty_rest dot place l));
  }

  -- the token that stands here
  abbrev here : Lexeme → Token
  here lexeme = record { lexeme = lexeme; start = at; «end» = stop }

  token_here : (lexeme : Lexeme) → read dot shape (take (stop - at) (drop at text)) ≡ Some (piece.Token lexeme) → Reached text stop (is_dot lexeme) (found ++ (here lexeme ∷ []))
  token_here lexeme e = record {
    within = within text at stop (Some shape) r.within s;
    goes = λ more l. subst (Lexes 0 false text) (sym (append_assoc found (here lexeme ∷ []) more))
        (r.goes (here lexeme ∷ more)
        (subst (λ n. Lexes at dot (drop at text) (record { lexeme = lexeme; start = at; «end» = n } ∷ more)) there
        (lexes_token shape (stop - at) lexeme s.front e (lexes_rest (is_dot lexeme) more l))));
    fails = λ place l. r.fails place (faulty_after_token shape (stop - at) lexeme s.front e (faulty_rest (is_dot lexeme) place l));
  }

  pub token : (lexeme : Lexeme) (next : Bool) (more : List Token) → read dot shape (take (stop - at) (drop at text)) ≡ Some (piece.Token lexeme) → next ≡ is_dot lexeme
      → more ≡ found ++ (here lexeme ∷ []) → Reached text stop next more
  token lexeme next more e d is = subst (λ (x : List Token). Reached text stop next x) (sym is) (subst (λ b. Reached text stop b (found ++ (here lexeme ∷ []))) (sym d) (token_here lexeme e))

  pub no_value : read dot shape (take (stop - at) (drop at text)) ≡ None → Faulty 0 false text at
  no_value e = r.fails at (faulty_value shape (stop - at) s.front e)

pub no_shape : (text : List ℕ) (at stop : ℕ) (dot : Bool) (found : List Token) → Reached text at dot found → Stood text at stop None → at < length text → Faulty 0 false text at
no_shape text at stop dot found r s lt = r.fails at (faulty_shape (stop - at) (let f = length-drop at text in omega arith) s.front)

pub all_read : (text : List ℕ) (at : ℕ) (dot : Bool) (found : List Token) → Reached text at dot found → length text ≤ at → Lexes 0 false text found
all_read text at dot found r le = subst (Lexes 0 false text) (append-nil found) (r.goes [] (subst (λ u. Lexes at dot u []) (sym (drop_all at text le)) lexes_end))
