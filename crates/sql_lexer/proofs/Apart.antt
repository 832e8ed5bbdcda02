-- The spans of tokens are in order, with white space and comments alone between them.
use Rattle.std.proofs.Common.{◌≡◌, ℕ, ◌+◌, ◌-◌, ◌≤◌, Bool, true, false, cond, List, [], ◌++◌, length, take, drop, map, Option, Some, None, refl, sym, ◌∙◌, ap, subst, append_assoc, append-nil, length-drop, arith}
use Rattle.std.proofs.lemmas.List.{drop-drop, length-map, take_all, take-map}
use Rattle.std.proofs.Math.Seq.{take-add}
use Rattle.std.specs.Prelude.{option_map}
use Rattle.std.specs.Str.{is_utf8}
use Rattle.sql_ast.specs.declared.pieces.Shape.{Shape}
use Rattle.sql_ast.specs.declared.pieces.Shape.TheVariants as s
use Rattle.sql_ast.specs.declared.pieces.Piece.{Piece}
use Rattle.sql_ast.specs.declared.pieces.Piece.TheVariants as piece
use Rattle.sql_ast.specs.declared.token.Lexeme.{Lexeme}
use Rattle.sql_ast.specs.declared.token.Token.{Token}
use Rattle.sql_ast.specs.Classes.{class}
use Rattle.sql_ast.specs.Forms.{Form}
use Rattle.sql_ast.specs.Values.{read, meaning, is_dot}
use Rattle.sql_ast.specs.Tokens.{Next, Lexes, lexes_end, lexes_gap, lexes_token}
use Rattle.sql_lexer.specs.Spans.{Gaps, gaps_none, gaps_more, Apart}
use Rattle.sql_lexer.proofs.Once.{some_size}

gaps-append : (u v : List ℕ) → Gaps u → Gaps v → Gaps (u ++ v)
gaps-append _ v gaps_none h = h
gaps-append _ v (gaps_more u w f g) h = subst Gaps (sym (append_assoc u w v)) (gaps_more u (w ++ v) f (gaps-append w v g h))

one_gap : (u : List ℕ) → Form s.Gap (map class u) → Gaps u
one_gap u f = subst Gaps (append-nil u) (gaps_more u [] f gaps_none)

-- ---- only gaps say nothing

no_token : (o : Option Lexeme) → option_map piece.Token o ≡ Some piece.Gap → ⊥
no_token None e = cc
no_token (Some l) e = cc

is_gap : (dot : Bool) (a : Shape) (u : List ℕ) → meaning dot a u ≡ Some piece.Gap → a ≡ s.Gap
unfolding meaning
is_gap dot s.Gap u e = refl
is_gap dot s.Word u e = absurd (no_token _ e)
is_gap dot s.QuotedName u e = absurd (no_token _ e)
is_gap dot s.Integer u e = absurd (no_token _ e)
is_gap dot (s.Literal p n) u e = absurd (no_token _ e)
is_gap dot s.Parameter u e = absurd (no_token _ e)
is_gap dot s.QuotedParameter u e = absurd (no_token _ e)
is_gap dot s.Sign u e = absurd (no_token _ e)

if_utf8 : (b : Bool) (o : Option Piece) → cond b o None ≡ Some piece.Gap → o ≡ Some piece.Gap
if_utf8 true o e = e
if_utf8 false o e = absurd (cc)

reads_gap : (dot : Bool) (a : Shape) (u : List ℕ) → read dot a u ≡ Some piece.Gap → a ≡ s.Gap
unfolding read
reads_gap dot a u e = is_gap dot a u (if_utf8 (is_utf8 u) (meaning dot a u) e)

-- ---- the tokens

module _ (text : List ℕ) where
  -- the bytes from one place to another
  abbrev between : ℕ → ℕ → List ℕ
  between from to = take (to - from) (drop from text)

  further : (from at n : ℕ) → from ≤ at → between from (at + n) ≡ between from at ++ take n (drop at text)
  further from at n le =
      (let e : (at + n) - from ≡ (at - from) + n = omega arith in ap (λ k. take k (drop from text)) e)
      ∙ take-add (at - from) n (drop from text)
      ∙ ap (λ u. between from at ++ take n u) (drop-drop (at - from) from text ∙ (let e : from + (at - from) ≡ at = omega arith in ap (λ k. drop k text) e))

  fits : (at : ℕ) (a : Shape) (n : ℕ) → at ≤ length text → Next (drop at text) a n → at + n ≤ length text
  fits at a n le f = let w = f.within in let l = length-map (drop at text) class in let d = length-drop at text in omega arith

  all_behind : (from at : ℕ) → from ≤ at → length text ≤ at → between from at ≡ drop from text
  all_behind from at le end_ = take_all (at - from) (drop from text) (let l = length-drop from text in omega arith)

  ended : (at : ℕ) → [] ≡ drop at text → length text ≤ at
  ended at e = let l = length-drop at text in let m = ap length e in omega arith

  apart : (from at : ℕ) (dot : Bool) (rest : List ℕ) (tokens : List Token) → rest ≡ drop at text → from ≤ at → at ≤ length text → Gaps (between from at) → Lexes at dot rest tokens → Apart text from tokens
  apart from at dot _ _ is le fit g lexes_end = subst Gaps (all_behind from at le (ended at is)) g
  apart from at dot rest tokens is le fit g (lexes_gap a n f e l) =
      let here : Next (drop at text) a n = subst (λ u. Next u a n) is f in
      let gap : Form s.Gap (map class (take n (drop at text))) =
      subst (λ x. Form x (map class (take n (drop at text)))) (reads_gap dot a (take n rest) e) (subst (Form a) (take-map class n (drop at text)) here.spells) in
      apart from (at + n) dot (drop n rest) tokens (ap (drop n) is ∙ drop-drop n at text) (omega arith) (fits at a n fit here)
      (subst Gaps (sym (further from at n le)) (gaps-append (between from at) (take n (drop at text)) g (one_gap (take n (drop at text)) gap))) l
  apart from at dot rest _ is le fit g (lexes_token {tokens = more} a n lexeme f e l) =
      let here : Next (drop at text) a n = subst (λ u. Next u a n) is f in
      let some = some_size a n (drop at text) here in
      let end_fits = fits at a n fit here in (
        le,
        omega arith,
        end_fits,
        g,
        apart (at + n) (at + n) (is_dot lexeme) (drop n rest) more (ap (drop n) is ∙ drop-drop n at text) (omega arith) end_fits
            (subst Gaps (let z : 0 ≡ (at + n) - (at + n) = omega arith in ap (λ k. take k (drop (at + n) text)) z) gaps_none) l,
      )

pub spans_apart : (text : List ℕ) (tokens : List Token) → Lexes 0 false text tokens → Apart text 0 tokens
spans_apart text tokens l = apart text 0 0 false text tokens refl (omega arith) (omega arith) gaps_none l
