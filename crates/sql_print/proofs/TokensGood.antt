-- What the tokens of a text hold: names of 1 to 128 bytes, texts in UTF-8, bytes below 256, and numbers below 2 ^ 64.
use Rattle.std.proofs.Common.{◌≡◌, ℕ, zero, suc, ◌+◌, ◌-◌, ◌/◌, ◌%◌, ◌^◌, ◌<◌, Bool, true, false, cond, ◌==◌, ◌&&◌, ◌||◌, if◌then◌else◌, nat_le, nat_lt, List, [], ◌∷◌, ◌++◌, length, take, drop, map, Option, Some, None, refl, sym, ◌∙◌, ap, subst, arith}
use Rattle.std.proofs.lemmas.Bool.{and_parts}
use Rattle.std.proofs.lemmas.Bool.Decides.{nat_tests}
use Rattle.std.proofs.lemmas.List.{take-map}
use Rattle.std.proofs.lemmas.List.Folds.{list_all-append}
use Rattle.std.proofs.lemmas.Str.{IsUtf8-from_is_utf8, IsUtf8-between, IsUtf8-drop}
use Rattle.std.specs.Prelude.{IsUtf8, option_map, option_and_then, encode_utf8_all}
use Rattle.std.specs.Str.{is_utf8, all_scalars}
use Rattle.std.specs.List.{list_all}
use lib.Utf8.{scalar, encode}
use Rattle.sql_names.specs.declared.words.Reserved.{Reserved}
use Rattle.sql_names.specs.Words.{reserved_of}
use Rattle.sql_ast.specs.declared.words.Sign.{Sign}
use Rattle.sql_ast.specs.Words.{sign_of}
use Rattle.sql_ast.specs.declared.pieces.Content.TheVariants as content
use Rattle.sql_ast.specs.declared.pieces.LiteralPrefix.{LiteralPrefix}
use Rattle.sql_ast.specs.declared.pieces.LiteralPrefix.TheVariants as prefix
use Rattle.sql_ast.specs.declared.pieces.Quotes.{Quotes}
use Rattle.sql_ast.specs.declared.pieces.Quotes.TheVariants as quotes
use Rattle.sql_ast.specs.declared.pieces.Shape.{Shape}
use Rattle.sql_ast.specs.declared.pieces.Shape.TheVariants as s
use Rattle.sql_ast.specs.declared.pieces.Piece.{Piece}
use Rattle.sql_ast.specs.declared.pieces.Piece.TheVariants as piece
use Rattle.sql_ast.specs.declared.token.Token.{Token}
use Rattle.sql_ast.specs.declared.token.Lexeme.{Lexeme}
use Rattle.sql_ast.specs.declared.token.Lexeme.TheVariants as l
use Rattle.sql_ast.specs.Classes.{class}
use Rattle.sql_ast.specs.Forms.{Form}
use Rattle.sql_ast.specs.Values.{read, meaning, word, plain_name, quoted_name, reserved_or_name, is_name, parameter, integer, number, are_digits, number_of, Escape, escape, after, unescape_from, unescape, one, numbered, number_at_start, inside, enclosed, literal, literal_of, prefix_size, quotes_size, is_dot}
use Rattle.sql_ast.specs.Tokens.{Lexes, lexes_end, lexes_gap, lexes_token}
use Rattle.sql_lexer.specs.Marked.{Marked}
use Rattle.sql_lexer.proofs.Marks.{literal_marked, name_marked, quoted_parameter_marked, parameter_starts}
use Rattle.sql_lexer.proofs.Utf8Values.{unescape_utf8, lines_utf8}
use Rattle.sql_print.proofs.Flows.{Good, Goods, goods_none, goods_more}

-- ---- bytes below 256

abbrev low : ℕ → Bool
low b = nat_lt b 256

branch : (P : List ℕ → Type 0) (b : Bool) (x y : List ℕ) → (b ≡ true → P x) → (b ≡ false → P y) → P (cond b x y)
branch P true x y f g = f refl
branch P false x y f g = g refl

next_low : (b : ℕ) → low (128 + b % 64) ≡ true
next_low b = grind (arith, nat_tests)

first_one : (c : ℕ) → nat_lt c 128 ≡ true → low c ≡ true
first_one c h = grind (arith, nat_tests)

first_two : (c : ℕ) → nat_lt c 2048 ≡ true → low (192 + c / 64) ≡ true
first_two c h = grind (arith, nat_tests)

first_three : (c : ℕ) → nat_lt c 65536 ≡ true → low (224 + c / 4096) ≡ true
first_three c h = grind (arith, nat_tests)

first_four : (c : ℕ) → scalar c ≡ true → low (240 + c / 262144) ≡ true
first_four c h = grind (arith, nat_tests)

encode_low : (c : ℕ) → scalar c ≡ true → list_all low (encode c) ≡ true
unfolding encode
encode_low c h =
    let P : List ℕ → Type 0 = λ u. list_all low u ≡ true in
    branch P (nat_lt c 128) _ _ (λ g. rw (first_one c g) refl) (λ _.
    branch P (nat_lt c 2048) _ _ (λ g. rw (first_two c g, next_low c) refl) (λ _.
    branch P (nat_lt c 65536) _ _ (λ g. rw (first_three c g, next_low (c / 64), next_low c) refl) (λ _. rw (first_four c h, next_low (c / 4096), next_low (c / 64), next_low c) refl)))

and_true : (a b : Bool) → a ≡ true → b ≡ true → (a && b) ≡ true
and_true a b h g = rw (h, g) refl

both_low : (u v : List ℕ) → list_all low u ≡ true → list_all low v ≡ true → list_all low (u ++ v) ≡ true
both_low u v h g = list_all-append low u v ∙ and_true (list_all low u) (list_all low v) h g

chars_low : (cs : List ℕ) → all_scalars cs ≡ true → list_all low (encode_utf8_all cs) ≡ true
chars_low [] h = refl
chars_low (c ∷ cs) h = let f = and_parts (scalar c) (all_scalars cs) h in both_low (encode c) (encode_utf8_all cs) (encode_low c f.0) (chars_low cs f.1)

utf8_low : (u : List ℕ) → IsUtf8 u → list_all low u ≡ true
utf8_low u (cs, (h, e)) = subst (λ (w : List ℕ). list_all low w ≡ true) e (chars_low cs h)

-- ---- escapes of BYTES

abbrev Each : Option Escape → Type 0
Each o = (e : Escape) → o ≡ Some e → list_all low e.bytes ≡ true

by_test : (b : Bool) (x y : Option Escape) → (b ≡ true → Each x) → (b ≡ false → Each y) → Each (cond b x y)
by_test true x y f g = f refl
by_test false x y f g = g refl

none_low : Each None
none_low e is = absurd (cc)

one_low : (v : ℕ) → v < 256 → Each (one v)
one_low v h e is =
    let f : e ≡ record { bytes = v ∷ []; size = 1 } = cc in
    subst (λ (e : Escape). list_all low e.bytes ≡ true) (sym f) (let g : low v ≡ true = grind (arith, nat_tests) in rw g refl)

numbered_low : (size n : ℕ) → Each (numbered content.Bytes size n)
numbered_low size n = by (nat_le n 255) refl
  where
    by : (b : Bool) → nat_le n 255 ≡ b → Each (option_map (λ (w : List ℕ). record { bytes = w; size = size }) (if b then Some (n ∷ []) else None))
    by true h e is = let f : e ≡ record { bytes = n ∷ []; size = size } = cc in subst (λ (e : Escape). list_all low e.bytes ≡ true) (sym f) (let g : low n ≡ true = grind (arith, nat_tests) in rw g refl)
    by false h e is = absurd (cc)

by_number : (o : Option ℕ) (f : ℕ → Option Escape) → ((n : ℕ) → Each (f n)) → Each (option_and_then f o)
by_number None f g = none_low
by_number (Some n) f g = g n

itself_small : (b : ℕ) → (b == 92 || b == 63 || b == 34 || b == 39 || b == 96) ≡ true → b < 256
itself_small b e = grind (arith, nat_tests)

escape_low : (u : List ℕ) → Each (escape content.Bytes u)
unfolding escape
escape_low [] = none_low
escape_low (b ∷ more) =
    by_test (b == 97) _ _ (λ _. one_low 7 (omega arith)) (λ _. by_test (b == 98) _ _ (λ _. one_low 8 (omega arith)) (λ _. by_test (b == 116) _ _ (λ _. one_low 9 (omega arith)) (λ _.
    by_test (b == 110) _ _ (λ _. one_low 10 (omega arith)) (λ _. by_test (b == 118) _ _ (λ _. one_low 11 (omega arith)) (λ _. by_test (b == 102) _ _ (λ _. one_low 12 (omega arith)) (λ _.
    by_test (b == 114) _ _ (λ _. one_low 13 (omega arith)) (λ _. by_test (b == 92 || b == 63 || b == 34 || b == 39 || b == 96) _ _ (λ h. one_low b (itself_small b h)) (λ _.
    by_test (b == 120 || b == 88) _ _ (λ _. by_number (number_at_start 16 2 more) (numbered content.Bytes 3) (numbered_low 3)) (λ _. by_test (b == 117) _ _ (λ _. none_low) (λ _. by_test (b == 85) _ _ (λ _. none_low) (λ _.
    by_number (number_at_start 8 3 (b ∷ more)) (λ n. cond (nat_le n 255) (numbered content.Bytes 3 n) None) (λ n. by_test (nat_le n 255) (numbered content.Bytes 3 n) None (λ _. numbered_low 3 n) (λ _. none_low)))))))))))))

-- a front and what follows it, where something does
after_some : (a v : List ℕ) (o : Option (List ℕ)) → after a o ≡ Some v → (w : List ℕ) × ((o ≡ Some w) × (v ≡ a ++ w))
after_some a v None e = absurd (cc)
after_some a v (Some w) e = (w, (refl, cc))

escaped_low : (more v : List ℕ) (o : Option Escape) → Each o → ((k : ℕ) (w : List ℕ) → unescape_from content.Bytes k more ≡ Some w → list_all low w ≡ true) → option_and_then (λ (e : Escape). after e.bytes (unescape_from content.Bytes e.size more)) o ≡ Some v → list_all low v ≡ true
escaped_low more v None each again e = absurd (cc)
escaped_low more v (Some x) each again e =
    let f = after_some x.bytes v (unescape_from content.Bytes x.size more) e in
    subst (λ (w : List ℕ). list_all low w ≡ true) (sym f.1.1) (both_low x.bytes f.0 (each x refl) (again x.size f.0 f.1.0))

plain_low : (b : ℕ) (more v : List ℕ) → low b ≡ true → ((k : ℕ) (w : List ℕ) → unescape_from content.Bytes k more ≡ Some w → list_all low w ≡ true) → after (b ∷ []) (unescape_from content.Bytes 0 more) ≡ Some v → list_all low v ≡ true
plain_low b more v h again e =
    let f = after_some (b ∷ []) v (unescape_from content.Bytes 0 more) e in
    subst (λ (w : List ℕ). list_all low w ≡ true) (sym f.1.1) (both_low (b ∷ []) f.0 (rw h refl) (again 0 f.0 f.1.0))

by_slope : (b : ℕ) (more v : List ℕ) → low b ≡ true → ((k : ℕ) (w : List ℕ) → unescape_from content.Bytes k more ≡ Some w → list_all low w ≡ true)
    → (t : Bool) → cond t (option_and_then (λ (e : Escape). after e.bytes (unescape_from content.Bytes e.size more)) (escape content.Bytes more)) (after (b ∷ []) (unescape_from content.Bytes 0 more)) ≡ Some v → list_all low v ≡ true
by_slope b more v h again true e = escaped_low more v (escape content.Bytes more) (escape_low more) again e
by_slope b more v h again false e = plain_low b more v h again e

unescaped_low : (u : List ℕ) → list_all low u ≡ true → (k : ℕ) (v : List ℕ) → unescape_from content.Bytes k u ≡ Some v → list_all low v ≡ true
unescaped_low [] h k v e = subst (λ (w : List ℕ). list_all low w ≡ true) (let f : [] ≡ v = cc in f) refl
unescaped_low (b ∷ more) h (suc k) v e = unescaped_low more (and_parts (low b) (list_all low more) h).1 k v e
unescaped_low (b ∷ more) h zero v e = let f = and_parts (low b) (list_all low more) h in by_slope b more v f.0 (unescaped_low more f.1) (b == 92) e

-- ---- what a piece says

same_token : (x y : Lexeme) → Some (piece.Token x) ≡ Some (piece.Token y) → x ≡ y
same_token x y e = cc

token_some : (o : Option Lexeme) (y : Lexeme) → option_map piece.Token o ≡ Some (piece.Token y) → o ≡ Some y
token_some None y e = absurd (cc)
token_some (Some x) y e = ap Some (same_token x y e)

good_as : (x y : Lexeme) → Some x ≡ Some y → Good x → Good y
good_as x y e g = subst Good (let f : x ≡ y = cc in f) g

if_good : (b : Bool) (x y : Lexeme) → (b ≡ true → Good x) → cond b (Some x) None ≡ Some y → Good y
if_good true x y g e = good_as x y e (g refl)
if_good false x y g e = absurd (cc)

plain_good : (u : List ℕ) (y : Lexeme) → IsUtf8 u → plain_name u ≡ Some y → Good y
plain_good u y h e = if_good (is_name u) _ y (λ k. (k, h)) e

quoted_good : (u : List ℕ) (y : Lexeme) → IsUtf8 u → quoted_name u ≡ Some y → Good y
quoted_good u y h e = if_good (is_name u) _ y (λ k. (k, h)) e

parameter_good : (u : List ℕ) (y : Lexeme) → IsUtf8 u → parameter u ≡ Some y → Good y
parameter_good u y h e = if_good (is_name u) _ y (λ k. (k, h)) e

reserved_good : (u : List ℕ) (y : Lexeme) (o : Option Reserved) → IsUtf8 u → reserved_or_name u o ≡ Some y → Good y
reserved_good u y None h e = plain_good u y h e
reserved_good u y (Some w) h e = good_as (l.Reserved w) y e tt

word_good : (dot : Bool) (u : List ℕ) (y : Lexeme) → IsUtf8 u → word dot u ≡ Some y → Good y
unfolding word
word_good true u y h e = plain_good u y h e
word_good false u y h e = reserved_good u y (reserved_of u) h e

-- what is made of a text that escapes say
unescaped : (o : Option (List ℕ)) (f : List ℕ → Option Lexeme) (y : Lexeme) → ((v : List ℕ) → o ≡ Some v → f v ≡ Some y → Good y) → option_and_then f o ≡ Some y → Good y
unescaped None f y g e = absurd (cc)
unescaped (Some v) f y g e = g v refl e

mapped : (o : Option (List ℕ)) (f : List ℕ → Lexeme) (y : Lexeme) → ((v : List ℕ) → o ≡ Some v → Good (f v)) → option_map f o ≡ Some y → Good y
mapped None f y g e = absurd (cc)
mapped (Some v) f y g e = good_as (f v) y e (g v refl)

inside_utf8 : (u : List ℕ) (front back : ℕ) → IsUtf8 u → Marked u front back → IsUtf8 (inside front back u)
inside_utf8 u front back h m =
    let r = m.room in
    let k : (length u - back) - front ≡ length u - front - back = omega arith in
    subst (λ (n : ℕ). IsUtf8 (take n (drop front u))) k (IsUtf8-between u front (length u - back) h (omega arith) m.starts m.stops)

enclosed_utf8 : (q : Quotes) (u : List ℕ) → IsUtf8 u → IsUtf8 (enclosed q u)
enclosed_utf8 quotes.One u h = h
enclosed_utf8 quotes.Three u h = lines_utf8 u h

literal_good : (p : LiteralPrefix) (u : List ℕ) (y : Lexeme) → IsUtf8 u → literal_of p u ≡ Some y → Good y
unfolding unescape
literal_good prefix.Plain u y h e = mapped (unescape content.Text u) l.Text y (λ v k. unescape_utf8 u v h k) e
literal_good prefix.Raw u y h e = good_as (l.Text u) y e h
literal_good prefix.Bytes u y h e = mapped (unescape content.Bytes u) l.Bytes y (λ v k. unescaped_low u (utf8_low u h) 0 v k) e
literal_good prefix.RawBytes u y h e = good_as (l.Bytes u) y e (utf8_low u h)

number_small : (b : Bool) (v n : ℕ) → (b && nat_lt v (2 ^ 64)) ≡ true → v ≡ n → n < 2 ^ 64
number_small b v n h e = let f = (and_parts b (nat_lt v (2 ^ 64)) h).1 in let g : nat_lt n (2 ^ 64) ≡ true = sym (ap (λ (k : ℕ). nat_lt k (2 ^ 64)) e) ∙ f in grind (arith, nat_tests)

number_by : (b : Bool) (v n : ℕ) (t : Bool) → (b && nat_lt v (2 ^ 64)) ≡ t → cond t (Some v) None ≡ Some n → n < 2 ^ 64
number_by b v n true h e = number_small b v n h (let f : v ≡ n = cc in f)
number_by b v n false h e = absurd (cc)

number_good : (base : ℕ) (u : List ℕ) (n : ℕ) → number base u ≡ Some n → n < 2 ^ 64
number_good base u n e = number_by (are_digits base u) (number_of base u) n (are_digits base u && nat_lt (number_of base u) (2 ^ 64)) refl e

integer_by : (b : Bool) (x y : Option ℕ) (n : ℕ) → (x ≡ Some n → n < 2 ^ 64) → (y ≡ Some n → n < 2 ^ 64) → cond b x y ≡ Some n → n < 2 ^ 64
integer_by true x y n f g e = f e
integer_by false x y n f g e = g e

integer_small : (u : List ℕ) (n : ℕ) → integer u ≡ Some n → n < 2 ^ 64
unfolding integer
integer_small u n e = integer_by _ (number 16 (drop 2 u)) (number 10 u) n (number_good 16 (drop 2 u) n) (number_good 10 u n) e

integer_good : (o : Option ℕ) (y : Lexeme) → ((n : ℕ) → o ≡ Some n → n < 2 ^ 64) → option_map l.Integer o ≡ Some y → Good y
integer_good None y g e = absurd (cc)
integer_good (Some n) y g e = good_as (l.Integer n) y e (g n refl)

sign_good : (o : Option Sign) (y : Lexeme) → option_map l.Sign o ≡ Some y → Good y
sign_good None y e = absurd (cc)
sign_good (Some x) y e = good_as (l.Sign x) y e tt

no_token : (y : Lexeme) → Some piece.Gap ≡ Some (piece.Token y) → Good y
no_token y e = absurd (cc)

meaning_good : (dot : Bool) (a : Shape) (u : List ℕ) (y : Lexeme) → IsUtf8 u → Form a (map class u) → meaning dot a u ≡ Some (piece.Token y) → Good y
unfolding meaning
meaning_good dot s.Gap u y h f e = no_token y e
meaning_good dot s.Word u y h f e = word_good dot u y h (token_some (word dot u) y e)
meaning_good dot s.QuotedName u y h f e = unescaped (unescape content.Text (inside 1 1 u)) quoted_name y (λ v k g. quoted_good v y (unescape_utf8 (inside 1 1 u) v (inside_utf8 u 1 1 h (name_marked u h f)) k) g) (token_some (option_and_then quoted_name (unescape content.Text (inside 1 1 u))) y e)
meaning_good dot s.Integer u y h f e = integer_good (integer u) y (integer_small u) (token_some (option_map l.Integer (integer u)) y e)
meaning_good dot (s.Literal p q) u y h f e =
    literal_good p (enclosed q (inside (prefix_size p + quotes_size q) (quotes_size q) u)) y (enclosed_utf8 q (inside (prefix_size p + quotes_size q) (quotes_size q) u) (inside_utf8 u (prefix_size p + quotes_size q) (quotes_size q) h (literal_marked u h p q f)))
    (token_some (literal p q u) y e)
meaning_good dot s.Parameter u y h f e = parameter_good (drop 1 u) y (IsUtf8-drop u 1 h (parameter_starts u h f)) (token_some (parameter (drop 1 u)) y e)
meaning_good dot s.QuotedParameter u y h f e =
    unescaped (unescape content.Text (inside 2 1 u)) parameter y (λ v k g. parameter_good v y (unescape_utf8 (inside 2 1 u) v (inside_utf8 u 2 1 h (quoted_parameter_marked u h f)) k) g) (token_some (option_and_then parameter (unescape content.Text (inside 2 1 u))) y e)
meaning_good dot s.Sign u y h f e = sign_good (sign_of u) y (token_some (option_map l.Sign (sign_of u)) y e)

if_utf8 : (b : Bool) (o : Option Piece) (y : Lexeme) → cond b o None ≡ Some (piece.Token y) → (b ≡ true) × (o ≡ Some (piece.Token y))
if_utf8 true o y e = (refl, e)
if_utf8 false o y e = absurd (cc)

read_good : (dot : Bool) (a : Shape) (u : List ℕ) (y : Lexeme) → Form a (map class u) → read dot a u ≡ Some (piece.Token y) → Good y
unfolding read
read_good dot a u y f e = let g = if_utf8 (is_utf8 u) (meaning dot a u) y e in meaning_good dot a u y (IsUtf8-from_is_utf8 u g.0) f g.1

-- the tokens of a text
pub lexes_good : (at : ℕ) (dot : Bool) (text : List ℕ) (ts : List Token) → Lexes at dot text ts → Goods ts
lexes_good at dot _ _ lexes_end = goods_none
lexes_good at dot text ts (lexes_gap a n f e x) = lexes_good (at + n) dot (drop n text) ts x
lexes_good at dot text _ (lexes_token {tokens = ts} a n y f e x) =
    goods_more (read_good dot a (take n text) y (subst (Form a) (take-map class n text) f.spells) e) (lexes_good (at + n) (is_dot y) (drop n text) ts x)
