-- The marks at both ends of a piece are ASCII, so that what they enclose is text.
use Rattle.std.proofs.Common.{◌≡◌, ℕ, zero, suc, ◌+◌, ◌-◌, ◌<◌, ◌≤◌, Bool, true, false, List, [], ◌∷◌, length, get_or, map, refl, sym, ◌∙◌, ap, subst, arith}
use Rattle.std.proofs.lemmas.List.{length-map}
use Rattle.std.proofs.lemmas.Bool.Decides.{nat_tests}
use Rattle.std.proofs.lemmas.Str.{IsCharBoundary-after_ascii, IsCharBoundary-before_ascii}
use Rattle.std.specs.Prelude.{IsUtf8, IsCharBoundary}
use Rattle.sql_ast.specs.declared.pieces.Quote.{Quote}
use Rattle.sql_ast.specs.declared.pieces.Mark.{Mark}
use Rattle.sql_ast.specs.declared.pieces.Mark.TheVariants as mark
use Rattle.sql_ast.specs.declared.pieces.Class.{Class}
use Rattle.sql_ast.specs.declared.pieces.Class.TheVariants as c
use Rattle.sql_ast.specs.declared.pieces.LiteralPrefix.{LiteralPrefix}
use Rattle.sql_ast.specs.declared.pieces.Quotes.{Quotes}
use Rattle.sql_ast.specs.declared.pieces.Quotes.TheVariants as quotes
use Rattle.sql_ast.specs.declared.pieces.Shape.TheVariants as s
use Rattle.sql_ast.specs.Classes.{closes}
use Rattle.sql_ast.specs.Forms.{Rest, rest_end, rest_escape, rest_more, Tripled, tripled_end, tripled_escape, tripled_more, tripled_one, tripled_two, Quoted, quoted_once, quoted_thrice, Form, form_quoted_name, form_plain, form_raw, form_bytes, form_raw_bytes, form_bytes_raw, form_parameter, form_quoted_parameter}
use Rattle.sql_ast.specs.Classes.{class}
use Rattle.sql_ast.specs.Values.{prefix_size, quotes_size}
use Rattle.sql_lexer.specs.Marked.{Marked}

-- ---- classes of ASCII bytes

-- a byte that has a class of its own is ASCII
abbrev low : Class → Bool
low c.Other = false
low _ = true

wide : (b : ℕ) → 128 ≤ b → class b ≡ c.Other
unfolding class
wide b h = grind (arith, nat_tests)

class_ascii : (b : ℕ) → low (class b) ≡ true → b < 128
class_ascii b e = let f = wide b in grind (arith, nat_tests)

-- the byte at a place, by its class there
at_ascii : (text : List ℕ) (k : ℕ) → low (get_or (map class text) k c.Other) ≡ true → (k < length text) × (get_or text k 0 < 128)
at_ascii [] k e = absurd (cc)
at_ascii (b ∷ text) zero e = (omega arith, class_ascii b e)
at_ascii (b ∷ text) (suc k) e = let h = at_ascii text k e in (let f = h.0 in omega arith, h.1)

closes_low : (m : Mark) (x : Class) → closes m x ≡ true → low x ≡ true
closes_low m (c.Mark y) h = refl
closes_low m c.Other h = absurd (cc)
closes_low m _ h = absurd (cc)

-- ---- marks at both ends

-- so many bytes from the end stands one that is ASCII
record Ends (back : ℕ) (u : List Class) : Type 0 where
  room : back ≤ length u
  last : low (get_or u (length u - back) c.Other) ≡ true

ends_more : (back : ℕ) (x : Class) (u : List Class) → Ends back u → Ends back (x ∷ u)
ends_more back x u e =
    let r = e.room in
    let f : length (x ∷ u) - back ≡ suc (length u - back) = omega arith in
    record { room = omega arith; last = ap (λ k. low (get_or (x ∷ u) k c.Other)) f ∙ e.last }

rest_ends : (m : Mark) (u : List Class) → Rest m u → Ends 1 u
rest_ends m _ (rest_end {x = x} h) = record { room = omega arith; last = closes_low m x h }
rest_ends m _ (rest_escape {x = x} {u = u} h r) = ends_more 1 c.Backslash (x ∷ u) (ends_more 1 x u (rest_ends m u r))
rest_ends m _ (rest_more {x = x} {u = u} h k l r) = ends_more 1 x u (rest_ends m u r)

tripled_ends : (q : Quote) (u : List Class) → Tripled q u → Ends 3 u
tripled_ends q _ (tripled_end {x = x} h k l) = record { room = omega arith; last = closes_low (mark.Quote q) x h }
tripled_ends q _ (tripled_escape {x = x} {u = u} r) = ends_more 3 c.Backslash (x ∷ u) (ends_more 3 x u (tripled_ends q u r))
tripled_ends q _ (tripled_more {x = x} {u = u} h k r) = ends_more 3 x u (tripled_ends q u r)
tripled_ends q _ (tripled_one {x = x} {y = y} {u = u} h k r) = ends_more 3 x (y ∷ u) (tripled_ends q (y ∷ u) r)
tripled_ends q _ (tripled_two {x = x} {y = y} {z = z} {u = u} h k l r) = ends_more 3 x (y ∷ z ∷ u) (ends_more 3 y (z ∷ u) (tripled_ends q (z ∷ u) r))

record Enclosed (front back : ℕ) (u : List Class) : Type 0 where
  room : front + back ≤ length u
  first : low (get_or u (front - 1) c.Other) ≡ true
  last : low (get_or u (length u - back) c.Other) ≡ true

-- behind one mark
opened : (back : ℕ) (x : Class) (u : List Class) → low x ≡ true → Ends back u → Enclosed 1 back (x ∷ u)
opened back x u h e = let r = e.room in let f = ends_more back x u e in record { room = omega arith; first = h; last = f.last }

-- behind one byte more
further : (front back : ℕ) (x : Class) (u : List Class) → 0 < front → Enclosed front back u → Enclosed (1 + front) back (x ∷ u)
further front back x u some e =
    let r = e.room in
    let f = ends_more back x u (record { room = omega arith; last = e.last }) in
    let g : (1 + front) - 1 ≡ suc (front - 1) = omega arith in
    record { room = omega arith; first = ap (λ k. low (get_or (x ∷ u) k c.Other)) g ∙ e.first; last = f.last }

quoted_encloses : (n : Quotes) (u : List Class) → Quoted n u → Enclosed (quotes_size n) (quotes_size n) u
quoted_encloses _ _ (quoted_once {q = q} {u = u} r) = opened 1 (c.Mark (mark.Quote q)) u refl (rest_ends (mark.Quote q) u r)
quoted_encloses _ _ (quoted_thrice {q = q} {u = u} r) =
    let x = c.Mark (mark.Quote q) in
    further 2 3 x (x ∷ x ∷ u) (omega arith) (further 1 3 x (x ∷ u) (omega arith) (opened 3 x u refl (tripled_ends q u r)))

some_quotes : (n : Quotes) → 0 < quotes_size n
some_quotes quotes.One = omega arith
some_quotes quotes.Three = omega arith

two : (n : Quotes) (x y : Class) (u : List Class) → Enclosed (quotes_size n) (quotes_size n) u → Enclosed (2 + quotes_size n) (quotes_size n) (x ∷ y ∷ u)
two n x y u e =
    let k = some_quotes n in
    subst (λ k. Enclosed k (quotes_size n) (x ∷ y ∷ u)) (let z : 1 + (1 + quotes_size n) ≡ 2 + quotes_size n = omega arith in z)
    (further (1 + quotes_size n) (quotes_size n) x (y ∷ u) (omega arith) (further (quotes_size n) (quotes_size n) y u k e))

literal_encloses : (p : LiteralPrefix) (n : Quotes) (u : List Class) → Form (s.Literal p n) u → Enclosed (prefix_size p + quotes_size n) (quotes_size n) u
literal_encloses _ n u (form_plain l) = subst (λ k. Enclosed k (quotes_size n) u) (let z : quotes_size n ≡ 0 + quotes_size n = omega arith in z) (quoted_encloses n u l)
literal_encloses _ n _ (form_raw {u = u} l) = further (quotes_size n) (quotes_size n) c.LetterR u (some_quotes n) (quoted_encloses n u l)
literal_encloses _ n _ (form_bytes {u = u} l) = further (quotes_size n) (quotes_size n) c.LetterB u (some_quotes n) (quoted_encloses n u l)
literal_encloses _ n _ (form_raw_bytes {u = u} l) = two n c.LetterR c.LetterB u (quoted_encloses n u l)
literal_encloses _ n _ (form_bytes_raw {u = u} l) = two n c.LetterB c.LetterR u (quoted_encloses n u l)

name_encloses : (u : List Class) → Form s.QuotedName u → Enclosed 1 1 u
name_encloses _ (form_quoted_name {u = u} r) = opened 1 (c.Mark mark.Backquote) u refl (rest_ends mark.Backquote u r)

quoted_parameter_encloses : (u : List Class) → Form s.QuotedParameter u → Enclosed 2 1 u
quoted_parameter_encloses _ (form_quoted_parameter {u = u} r) =
    further 1 1 c.At (c.Mark mark.Backquote ∷ u) (omega arith) (opened 1 (c.Mark mark.Backquote) u refl (rest_ends mark.Backquote u r))

parameter_first : (u : List Class) → Form s.Parameter u → low (get_or u 0 c.Other) ≡ true
parameter_first _ (form_parameter h i) = refl

-- ---- in a text

enclosed_marked : (text : List ℕ) (front back : ℕ) → IsUtf8 text → 0 < front → 0 < back → Enclosed front back (map class text) → Marked text front back
enclosed_marked text front back h f b e =
    let r = e.room in
    let l = length-map text class in
    let x = at_ascii text (front - 1) e.first in
    let y = at_ascii text (length text - back) (ap (λ n. low (get_or (map class text) (n - back) c.Other)) (sym l) ∙ e.last) in
    let one : (front - 1) + 1 ≡ front = omega arith in
    record {
      room = omega arith;
      starts = subst (IsCharBoundary text) one (IsCharBoundary-after_ascii text (front - 1) h x.0 x.1);
      stops = IsCharBoundary-before_ascii text (length text - back) y.0 y.1;
    }

module _ (text : List ℕ) (utf8 : IsUtf8 text) where
  pub literal_marked : (p : LiteralPrefix) (n : Quotes) → Form (s.Literal p n) (map class text) → Marked text (prefix_size p + quotes_size n) (quotes_size n)
  literal_marked p n f = let k = some_quotes n in enclosed_marked text (prefix_size p + quotes_size n) (quotes_size n) utf8 (omega arith) k (literal_encloses p n (map class text) f)

  pub name_marked : Form s.QuotedName (map class text) → Marked text 1 1
  name_marked f = enclosed_marked text 1 1 utf8 (omega arith) (omega arith) (name_encloses (map class text) f)

  pub quoted_parameter_marked : Form s.QuotedParameter (map class text) → Marked text 2 1
  quoted_parameter_marked f = enclosed_marked text 2 1 utf8 (omega arith) (omega arith) (quoted_parameter_encloses (map class text) f)

  pub parameter_starts : Form s.Parameter (map class text) → IsCharBoundary text 1
  parameter_starts f = let x = at_ascii text 0 (parameter_first (map class text) f) in IsCharBoundary-after_ascii text 0 utf8 x.0 x.1
