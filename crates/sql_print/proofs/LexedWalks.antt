-- A token stands at the front of a text where the lexer's machine goes over it, and stops behind it.
use Rattle.std.proofs.Common.{◌≡◌, ℕ, suc, ◌+◌, Bool, cond, List, [], ◌∷◌, ◌++◌, length, take, drop, map, Option, Some, None, refl, sym, ◌∙◌, ap, subst, arith}
use Rattle.std.proofs.lemmas.List.{length-map}
use Rattle.std.proofs.lemmas.Str.{is_utf8-from_IsUtf8}
use Rattle.fronts.specs.Fronts.{Front}
use Rattle.fronts.specs.Machines.{walk}
use Rattle.fronts.proofs.Walks.{walks}
use Rattle.sql_ast.specs.declared.pieces.Class.{Class}
use Rattle.sql_ast.specs.declared.pieces.Shape.{Shape}
use Rattle.sql_ast.specs.declared.pieces.Shape.TheVariants as s
use Rattle.sql_ast.specs.declared.pieces.Piece.TheVariants as piece
use Rattle.sql_ast.specs.declared.token.Token.{Token}
use Rattle.sql_ast.specs.declared.token.Lexeme.{Lexeme}
use Rattle.sql_ast.specs.Classes.{class}
use Rattle.sql_ast.specs.Forms.{Form}
use Rattle.sql_ast.specs.Values.{read, meaning, is_dot}
use Rattle.sql_ast.specs.Tokens.{Next, Lexes, lexes_gap, lexes_token}
use Rattle.sql_lexer.specs.declared.machine.State.{State}
use Rattle.sql_lexer.specs.declared.machine.State.TheVariants as t
use Rattle.sql_lexer.specs.Machine.{step, whole}
use Rattle.sql_lexer.proofs.Left.{Left}
use Rattle.sql_lexer.proofs.States.{machine}
use Rattle.sql_print.proofs.AsciiTexts.{ascii_byte}

-- the state behind all of these bytes, if each has a step
abbrev pub run : State → List Class → Option State
run at [] = Some at
run at (x ∷ more) = elim (step at x) [ None ↦ None | Some next ↦ run next more ]

-- there is no step at what comes next
abbrev pub Stopped : State → List Class → Type 0
Stopped at [] = Unit {0}
Stopped at (x ∷ more) = step at x ≡ None

-- the first of the steps, and the others
pub record Stepped (at : State) (x : Class) (u : List Class) (end : State) : Type 0 where
  pub next : State
  pub is : step at x ≡ Some next
  pub goes : run next u ≡ Some end

stepped_by : (at : State) (x : Class) (u : List Class) (end : State) (o : Option State) → step at x ≡ o → elim o [ None ↦ None | Some next ↦ run next u ] ≡ Some end → Stepped at x u end
stepped_by at x u end None f g = absurd (cc)
stepped_by at x u end (Some next) f g = record { next = next; is = f; goes = g }

pub stepped : (at : State) (x : Class) (u : List Class) (end : State) → run at (x ∷ u) ≡ Some end → Stepped at x u end
stepped at x u end e = stepped_by at x u end (step at x) refl e

pub run_step : (at next : State) (x : Class) (u : List Class) → step at x ≡ Some next → run at (x ∷ u) ≡ run next u
run_step at next x u e = ap (λ (o : Option State). elim o [ None ↦ None | Some next ↦ run next u ]) e

same_state : (at end : State) → Some at ≡ Some end → at ≡ end
same_state at end e = cc

-- the states behind one part and then behind another
pub run_more : (at : State) (u v : List Class) (middle : State) → run at u ≡ Some middle → run at (u ++ v) ≡ run middle v
run_more at [] v middle e = ap (λ (y : State). run y v) (same_state at middle e)
run_more at (x ∷ u) v middle e = let f = stepped at x u middle e in run_step at f.next x (u ++ v) f.is ∙ run_more f.next u v middle f.goes

walk_none : (at : State) (x : Class) (more : List Class) → step at x ≡ None → walk step at (x ∷ more) ≡ (0, at)
unfolding walk
walk_none at x more e = ap (λ (o : Option State). elim o as (λ _. ℕ × State) [ None ↦ (0, at) | Some next ↦ let w = walk step next more in (w.0 + 1, w.1) ]) e

walk_some : (at next : State) (x : Class) (more : List Class) → step at x ≡ Some next → walk step at (x ∷ more) ≡ ((walk step next more).0 + 1, (walk step next more).1)
unfolding walk
walk_some at next x more e = ap (λ (o : Option State). elim o as (λ _. ℕ × State) [ None ↦ (0, at) | Some next ↦ let w = walk step next more in (w.0 + 1, w.1) ]) e

walk_stops : (at : State) (rest : List Class) → Stopped at rest → walk step at rest ≡ (0, at)
unfolding walk
walk_stops at [] h = refl
walk_stops at (x ∷ more) h = walk_none at x more h

abbrev stands : ℕ → State → ℕ × State
stands k end = (k, end)

one_more : (k : ℕ) (end : State) → stands (k + 1) end ≡ stands (suc k) end
one_more k end = ap (λ (n : ℕ). stands n end) (let e : k + 1 ≡ suc k = omega arith in e)

walk_runs : (at end : State) (u rest : List Class) → run at u ≡ Some end → Stopped end rest → walk step at (u ++ rest) ≡ (length u, end)
walk_runs at end [] rest e h = subst (λ (y : State). walk step y rest ≡ (0, end)) (sym (same_state at end e)) (walk_stops end rest h)
walk_runs at end (x ∷ u) rest e h =
    let f = stepped at x u end e in
    walk_some at f.next x (u ++ rest) f.is ∙ ap (λ (w : ℕ × State). (w.0 + 1, w.1)) (walk_runs f.next end u rest f.goes h) ∙ one_more (length u) end

map_append : (u v : List ℕ) → map class (u ++ v) ≡ map class u ++ map class v
map_append [] v = refl
map_append (b ∷ u) v = ap (λ (w : List Class). class b ∷ w) (map_append u v)

pub classes_append : (u v : List ℕ) → map class (u ++ v) ≡ map class u ++ map class v
classes_append = map_append

-- the longest front that begins a piece
pub next_is : (u rest : List ℕ) (end : State) (shape : Shape) → run t.Start (map class u) ≡ Some end → whole end ≡ Some shape → Stopped end (map class rest) → Next (u ++ rest) shape (length u)
next_is u rest end shape e w h =
    let is : walk step t.Start (map class (u ++ rest)) ≡ (length u, end) = ap (walk step t.Start) (map_append u rest) ∙ walk_runs t.Start end (map class u) (map class rest) e h ∙ ap (λ (k : ℕ). stands k end) (length-map u class) in
    subst (λ (o : Option Shape). Front Form (map class (u ++ rest)) (length u) o) w
    (subst (λ (y : ℕ × State). Front Form (map class (u ++ rest)) y.0 (whole y.1)) is (walks step whole Left machine t.Start (map class (u ++ rest))))

pub take_front : (u rest : List ℕ) → take (length u) (u ++ rest) ≡ u
take_front [] rest = refl
take_front (b ∷ u) rest = ap (λ (w : List ℕ). b ∷ w) (take_front u rest)

pub drop_front : (u rest : List ℕ) → drop (length u) (u ++ rest) ≡ rest
drop_front [] rest = refl
drop_front (b ∷ u) rest = drop_front u rest

-- a token, and the tokens of what is behind it
pub lexes_one : (at : ℕ) (dot : Bool) (u rest : List ℕ) (l : Lexeme) (end : State) (shape : Shape) (tokens : List Token) → run t.Start (map class u) ≡ Some end → whole end ≡ Some shape → Stopped end (map class rest)
    → read dot shape u ≡ Some (piece.Token l) → Lexes (at + length u) (is_dot l) rest tokens → Lexes at dot (u ++ rest) (record { lexeme = l; start = at; «end» = at + length u } ∷ tokens)
lexes_one at dot u rest l end shape tokens e w h r more =
    lexes_token shape (length u) l (next_is u rest end shape e w h) (ap (read dot shape) (take_front u rest) ∙ r) (subst (λ (v : List ℕ). Lexes (at + length u) (is_dot l) v tokens) (sym (drop_front u rest)) more)

closed_stops : (rest : List Class) → Stopped (t.Closed s.Gap) rest
unfolding step
closed_stops [] = tt
closed_stops (x ∷ rest) = refl

-- a space, and the tokens of what is behind it
pub lexes_space : (at : ℕ) (dot : Bool) (rest : List ℕ) (tokens : List Token) → Lexes (at + 1) dot rest tokens → Lexes at dot (32 ∷ rest) tokens
unfolding step whole class read meaning
lexes_space at dot rest tokens more = lexes_gap {dot = dot} {text = 32 ∷ rest} s.Gap 1 (next_is (32 ∷ []) rest (t.Closed s.Gap) s.Gap refl refl (closed_stops (map class rest))) (ap (λ (b : Bool). cond b (Some piece.Gap) None) (is_utf8-from_IsUtf8 (32 ∷ []) (ascii_byte 32 (omega arith)))) more
