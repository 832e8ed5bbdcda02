-- The text of a run of tokens that may stand beside each other is read as tokens that carry them, if each is read back alone.
use Rattle.std.proofs.Common.{◌≡◌, inl, inr, ℕ, ◌+◌, Bool, true, false, not, ◌&&◌, ◌||◌, if◌then◌else◌, List, [], ◌∷◌, ◌++◌, length, map, codes, None, refl, sym, ◌∙◌, ap, subst}
use Rattle.std.proofs.lemmas.Bool.{and_parts, or_cases}
use Rattle.sql_ast.specs.declared.pieces.Class.{Class}
use Rattle.sql_ast.specs.declared.pieces.Class.TheVariants as c
use Rattle.sql_ast.specs.declared.token.Token.{Token}
use Rattle.sql_ast.specs.declared.token.Lexeme.{Lexeme}
use Rattle.sql_ast.specs.Classes.{class}
use Rattle.sql_ast.specs.Marks.{Tokens}
use Rattle.sql_ast.specs.Pieces.{Piece, lexeme_text, text_behind, text_of}
use Rattle.sql_ast.specs.Tokens.{Lexes, lexes_end}
use Rattle.sql_ast.specs.Values.{is_dot}
use Rattle.sql_lexer.specs.declared.machine.State.{State}
use Rattle.sql_lexer.specs.Machine.{step}
use Rattle.sql_print.proofs.Carried.{Carries, carries_none, carries_more}
use Rattle.sql_print.proofs.Flows.{Fine, quiet, lettered, is_less, is_greater, is_reserved, fits, meets, ends_well, Runs, runs_last, runs_more, Flow, flow_none, flow_some}
use Rattle.sql_print.proofs.LexedWalks.{Stopped, classes_append, lexes_one, lexes_space}
use Rattle.sql_print.proofs.LexedSigns.{Lexing, head_class, some_class, is_angle}

never : {A : Type 0} → false ≡ true → A
never h = absurd (let g : true ≡ false = sym h in cc)

-- ---- where a lexeme stops

stopped_head : (end : State) (u r : List Class) → some_class u ≡ true → step end (head_class u) ≡ None → Stopped end (u ++ r)
stopped_head end [] r h e = never h
stopped_head end (x ∷ u) r h e = e

module _ (p q : Lexeme) (a : Lexing p) (b : Lexing q) where
  abbrev Stops : Type 0
  Stops = step a.end (head_class (map class (lexeme_text q))) ≡ None

  before_less : lettered p ≡ true → is_less q ≡ true → Stops
  before_less h g = a.angle h (head_class (map class (lexeme_text q))) (ap is_angle (b.first_less g))

  before_greater : lettered p ≡ true → is_greater q ≡ true → Stops
  before_greater h g = a.angle h (head_class (map class (lexeme_text q))) (ap is_angle (b.first_greater g))

  both_greater : is_greater p ≡ true → is_greater q ≡ true → Stops
  both_greater h g = ap (step a.end) (b.first_greater g) ∙ a.greater h

  by_fit : fits p q ≡ true → Stops
  by_fit h = elim (or_cases (quiet q) _ h) [
    | inl g ↦ a.calm (head_class (map class (lexeme_text q))) (b.first_calm g)
    | inr h ↦ elim (or_cases (quiet p) _ h) [
      | inl g ↦ a.closed g (head_class (map class (lexeme_text q)))
      | inr h ↦ elim (or_cases (lettered p && (is_less q || is_greater q)) _ h) [
        | inl g ↦ let k = and_parts (lettered p) (is_less q || is_greater q) g in elim (or_cases (is_less q) (is_greater q) k.1) [ inl j ↦ before_less k.0 j | inr j ↦ before_greater k.0 j ]
        | inr h ↦ elim (or_cases (is_less p && lettered q) (is_greater p && is_greater q) h) [
          | inl g ↦ let k = and_parts (is_less p) (lettered q) g in a.less k.0 (head_class (map class (lexeme_text q))) (b.first_letter k.1)
          | inr g ↦ let k = and_parts (is_greater p) (is_greater q) g in both_greater k.0 k.1
        ]
      ]
    ]
  ]

  stops_beside : fits p q ≡ true → (r : List ℕ) → Stopped a.end (map class (lexeme_text q ++ r))
  stops_beside h r = subst (Stopped a.end) (sym (classes_append (lexeme_text q) r)) (stopped_head a.end (map class (lexeme_text q)) (map class r) b.some (by_fit h))

stops_space : (p : Lexeme) (a : Lexing p) (r : List ℕ) → Stopped a.end (map class (32 ∷ r))
unfolding class
stops_space p a r = a.calm c.Space refl

-- ---- runs

-- the text from a token on is read as tokens that carry it and those behind it
record Read (at : ℕ) (dot : Bool) (p : Piece) (ps : List Piece) : Type 0 where
  token : Token
  tokens : Tokens
  lexes : Lexes at dot (lexeme_text p.lexeme ++ text_behind p ps) (token ∷ tokens)
  carries : Carries (p ∷ ps) (token ∷ tokens)
  starts : token.start ≡ at

or_right_part : (b c : Bool) → (b || c) ≡ true → b ≡ false → c ≡ true
or_right_part true c h k = absurd (cc)
or_right_part false c h k = h

no_dot : (b : Bool) → not b ≡ true → b ≡ false
no_dot true h = never h
no_dot false h = refl

module _ (each : (x : Lexeme) → Fine x → Lexing x) where
  abbrev token_of : (at : ℕ) (p : Piece) → Token
  token_of at p = record { lexeme = p.lexeme; start = at; «end» = at + length (lexeme_text p.lexeme) }

  read_last : (at : ℕ) (dot : Bool) (p : Piece) → Fine p.lexeme → (dot && is_reserved p.lexeme) ≡ false → Read at dot p []
  read_last at dot p f h =
      let a = each p.lexeme f in record {
        token = token_of at p;
        tokens = [];
        lexes = lexes_one at dot (lexeme_text p.lexeme) [] p.lexeme a.end a.shape [] a.runs a.whole_is tt (a.reads dot h) lexes_end;
        carries = carries_more refl tt carries_none;
        starts = refl;
      }

  read_spaced : (at : ℕ) (dot : Bool) (p q : Piece) (ps : List Piece) → Fine p.lexeme → (dot && is_reserved p.lexeme) ≡ false → (p.behind && q.before) ≡ true → Read ((at + length (lexeme_text p.lexeme)) + 1) (is_dot p.lexeme) q ps → Read at dot p (q ∷ ps)
  read_spaced at dot p q ps f h gap x =
      let a = each p.lexeme f in
      let is : text_behind p (q ∷ ps) ≡ 32 ∷ (lexeme_text q.lexeme ++ text_behind q ps) = ap (λ (b : Bool). ((if b then codes " " else []) ++ lexeme_text q.lexeme) ++ text_behind q ps) gap in
      let rest = lexes_space (at + length (lexeme_text p.lexeme)) (is_dot p.lexeme) (lexeme_text q.lexeme ++ text_behind q ps) (x.token ∷ x.tokens) x.lexes in
      record {
        token = token_of at p;
        tokens = x.token ∷ x.tokens;
        lexes = subst (λ (u : List ℕ). Lexes at dot (lexeme_text p.lexeme ++ u) (token_of at p ∷ x.token ∷ x.tokens)) (sym is)
            (lexes_one at dot (lexeme_text p.lexeme) (32 ∷ (lexeme_text q.lexeme ++ text_behind q ps)) p.lexeme a.end a.shape (x.token ∷ x.tokens) a.runs a.whole_is (stops_space p.lexeme a (lexeme_text q.lexeme ++ text_behind q ps)) (a.reads dot h) rest);
        carries = carries_more refl (λ k. absurd (let g : true ≡ false = sym gap ∙ k in cc)) x.carries;
        starts = refl;
      }

  read_beside : (at : ℕ) (dot : Bool) (p q : Piece) (ps : List Piece) → Fine p.lexeme → Fine q.lexeme → (dot && is_reserved p.lexeme) ≡ false → (p.behind && q.before) ≡ false → fits p.lexeme q.lexeme ≡ true → Read (at + length (lexeme_text p.lexeme)) (is_dot p.lexeme) q ps
      → Read at dot p (q ∷ ps)
  read_beside at dot p q ps f k h gap fit x =
      let a = each p.lexeme f in
      let is : text_behind p (q ∷ ps) ≡ lexeme_text q.lexeme ++ text_behind q ps = ap (λ (b : Bool). ((if b then codes " " else []) ++ lexeme_text q.lexeme) ++ text_behind q ps) gap in
      record {
        token = token_of at p;
        tokens = x.token ∷ x.tokens;
        lexes = subst (λ (u : List ℕ). Lexes at dot (lexeme_text p.lexeme ++ u) (token_of at p ∷ x.token ∷ x.tokens)) (sym is)
            (lexes_one at dot (lexeme_text p.lexeme) (lexeme_text q.lexeme ++ text_behind q ps) p.lexeme a.end a.shape (x.token ∷ x.tokens) a.runs a.whole_is (stops_beside p.lexeme q.lexeme a (each q.lexeme k) fit (text_behind q ps)) (a.reads dot h) x.lexes);
        carries = carries_more refl (λ _. sym x.starts) x.carries;
        starts = refl;
      }

  first_fine : (E : Piece → Bool) (p : Piece) (ps : List Piece) → Runs E p ps → Fine p.lexeme
  first_fine E p _ (runs_last f h) = f
  first_fine E p _ (runs_more f m x) = f

  by_gap : (at : ℕ) (dot : Bool) (p q : Piece) (ps : List Piece) → Fine p.lexeme → Fine q.lexeme → (dot && is_reserved p.lexeme) ≡ false → meets p q ≡ true → ((at : ℕ) → Read at (is_dot p.lexeme) q ps) → (b : Bool) → (p.behind && q.before) ≡ b → Read at dot p (q ∷ ps)
  by_gap at dot p q ps f k h m again true gap = read_spaced at dot p q ps f h gap (again ((at + length (lexeme_text p.lexeme)) + 1))
  by_gap at dot p q ps f k h m again false gap =
      read_beside at dot p q ps f k h gap (or_right_part (p.behind && q.before) (fits p.lexeme q.lexeme) (and_parts ((p.behind && q.before) || fits p.lexeme q.lexeme) (not (is_dot p.lexeme && is_reserved q.lexeme)) m).0 gap) (again (at + length (lexeme_text p.lexeme)))

  read_run : (E : Piece → Bool) (p : Piece) (ps : List Piece) → Runs E p ps → (at : ℕ) (dot : Bool) → (dot && is_reserved p.lexeme) ≡ false → Read at dot p ps
  read_run E p _ (runs_last f h) at dot k = read_last at dot p f k
  read_run E p _ (runs_more {q = q} {ps = ps} f m x) at dot k =
      let parts = and_parts ((p.behind && q.before) || fits p.lexeme q.lexeme) (not (is_dot p.lexeme && is_reserved q.lexeme)) m in
      by_gap at dot p q ps f (first_fine E q ps x) k m (λ at. read_run E q ps x at (is_dot p.lexeme) (no_dot (is_dot p.lexeme && is_reserved q.lexeme) parts.1)) (p.behind && q.before) refl

  -- the tokens of a text that carry its pieces
  pub flow_lexed : (ps : List Piece) → Flow ps → (ts : Tokens) × (Lexes 0 false (text_of ps) ts × Carries ps ts)
  flow_lexed _ flow_none = ([], (lexes_end, carries_none))
  flow_lexed _ (flow_some {p = p} {ps = ps} o x) = let y = read_run ends_well p ps x 0 false refl in (y.token ∷ y.tokens, (y.lexes, y.carries))
