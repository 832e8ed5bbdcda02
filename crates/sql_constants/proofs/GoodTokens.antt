-- What the literals of a text say: a STRING is UTF-8, and each byte of BYTES is below 256.
use Rattle.std.proofs.Common.{◌≡◌, ℕ, zero, suc, ◌+◌, ◌-◌, Bool, true, false, cond, ◌||◌, List, [], ◌∷◌, ◌++◌, length, take, drop, map, Option, Some, None, refl, sym, subst, arith}
use Rattle.std.proofs.lemmas.List.{take-map}
use Rattle.std.proofs.lemmas.Bool.{and_parts}
use Rattle.std.proofs.lemmas.Bool.Decides.{nat_tests}
use Rattle.std.proofs.lemmas.Str.{is_utf8-from_IsUtf8, IsUtf8-from_is_utf8, IsUtf8-between}
use Rattle.std.specs.List.{list_all}
use Rattle.std.specs.Prelude.{◌==◌, nat_lt, nat_le, IsUtf8, option_map, option_and_then}
use Rattle.std.specs.Str.{is_utf8}
use Rattle.sql_coerce.proofs.ByteLaws.{utf8_bytes}
use Rattle.sql_ast.specs.declared.pieces.Content.TheVariants as content
use Rattle.sql_ast.specs.declared.pieces.LiteralPrefix.{LiteralPrefix}
use Rattle.sql_ast.specs.declared.pieces.LiteralPrefix.TheVariants as prefix
use Rattle.sql_ast.specs.declared.pieces.Quotes.{Quotes}
use Rattle.sql_ast.specs.declared.pieces.Quotes.TheVariants as quotes
use Rattle.sql_ast.specs.declared.pieces.Shape.{Shape}
use Rattle.sql_ast.specs.declared.pieces.Shape.TheVariants as s
use Rattle.sql_ast.specs.declared.pieces.Piece.{Piece}
use Rattle.sql_ast.specs.declared.pieces.Piece.TheVariants as piece
use Rattle.sql_ast.specs.declared.token.Lexeme.{Lexeme}
use Rattle.sql_ast.specs.declared.token.Lexeme.TheVariants as l
use Rattle.sql_ast.specs.declared.token.Token.{Token}
use Rattle.sql_ast.specs.Classes.{class}
use Rattle.sql_ast.specs.Forms.{Form}
use Rattle.sql_ast.specs.Tokens.{Lexes, lexes_end, lexes_gap, lexes_token}
use Rattle.sql_ast.specs.Values.{Escape, escape, one, numbered, hexadecimal, octal, number_at_start, after, unescape_from, unescape, prefix_size, quotes_size, inside, enclosed, literal_of, literal, read, meaning, word, is_name, quoted_name, reserved_or_name, parameter, integer, is_dot}
use Rattle.sql_ast.specs.Words.{word_of, sign_of}
use Rattle.sql_names.specs.Words.{reserved_of}
use Rattle.sql_names.specs.declared.words.Reserved.{Reserved}
use Rattle.sql_lexer.proofs.Marks.{literal_marked}
use Rattle.sql_lexer.proofs.Utf8Values.{unescape_utf8, lines_utf8}

abbrev pub all_bytes : List ℕ → Bool
all_bytes = list_all (λ b. nat_lt b 256)

-- ---- the escapes of BYTES

abbrev Each : Option Escape → Type 0
Each o = (e : Escape) → o ≡ Some e → all_bytes e.bytes ≡ true

none_small : Each None
none_small e is = cc

some_small : (x : Escape) → all_bytes x.bytes ≡ true → Each (Some x)
some_small x h e is = let f : x ≡ e = cc in subst (λ (y : Escape). all_bytes y.bytes ≡ true) f h

by_test : (b : Bool) (x y : Option Escape) → (b ≡ true → Each x) → (b ≡ false → Each y) → Each (cond b x y)
by_test true x y f g = f refl
by_test false x y f g = g refl

one_small : (b : ℕ) → nat_lt b 256 ≡ true → Each (one b)
one_small b h = some_small (record { bytes = b ∷ []; size = 1 }) (rw h refl)

numbered_small : (size n : ℕ) → Each (numbered content.Bytes size n)
numbered_small size n = by_size (nat_le n 255) refl
  where
    by_size : (b : Bool) → nat_le n 255 ≡ b → Each (option_map (λ (w : List ℕ). record { bytes = w; size = size }) (cond b (Some (n ∷ [])) None))
    by_size true h = some_small (record { bytes = n ∷ []; size = size }) (let small : nat_lt n 256 ≡ true = grind (arith, nat_tests) in rw small refl)
    by_size false h = none_small

by_number : (o : Option ℕ) (f : ℕ → Option Escape) → ((n : ℕ) → Each (f n)) → Each (option_and_then f o)
by_number None f h = none_small
by_number (Some n) f h = h n

octal_small : (bytes : List ℕ) → Each (octal content.Bytes bytes)
octal_small bytes = by_number (number_at_start 8 3 bytes) (λ n. cond (nat_le n 255) (numbered content.Bytes 3 n) None) (λ n. by_test (nat_le n 255) (numbered content.Bytes 3 n) None (λ _. numbered_small 3 n) (λ _. none_small))

itself : (b : ℕ) → (b == 92 || b == 63 || b == 34 || b == 39 || b == 96) ≡ true → nat_lt b 256 ≡ true
itself b e = grind (arith, nat_tests)

escape_small : (bytes : List ℕ) → Each (escape content.Bytes bytes)
unfolding escape
escape_small [] = none_small
escape_small (b ∷ more) =
    by_test (b == 97) (one 7) _ (λ _. one_small 7 refl) (λ _.
    by_test (b == 98) (one 8) _ (λ _. one_small 8 refl) (λ _.
    by_test (b == 116) (one 9) _ (λ _. one_small 9 refl) (λ _.
    by_test (b == 110) (one 10) _ (λ _. one_small 10 refl) (λ _.
    by_test (b == 118) (one 11) _ (λ _. one_small 11 refl) (λ _.
    by_test (b == 102) (one 12) _ (λ _. one_small 12 refl) (λ _.
    by_test (b == 114) (one 13) _ (λ _. one_small 13 refl) (λ _.
    by_test (b == 92 || b == 63 || b == 34 || b == 39 || b == 96) (one b) _ (λ e. one_small b (itself b e)) (λ _.
    by_test (b == 120 || b == 88) (hexadecimal content.Bytes more) _ (λ _. by_number (number_at_start 16 2 more) (numbered content.Bytes 3) (λ n. numbered_small 3 n)) (λ _.
    by_test (b == 117) None _ (λ _. none_small) (λ _.
    by_test (b == 85) None _ (λ _. none_small) (λ _. octal_small (b ∷ more))))))))))))

append_small : (xs ys : List ℕ) → all_bytes xs ≡ true → all_bytes ys ≡ true → all_bytes (xs ++ ys) ≡ true
append_small [] ys p q = q
append_small (x ∷ xs) ys p q = let parts = and_parts (nat_lt x 256) (all_bytes xs) p in rw (parts.0, append_small xs ys parts.1 q) refl

-- what stands behind a front is small, and so is the front
after_small : (front : List ℕ) (o : Option (List ℕ)) (v : List ℕ) → all_bytes front ≡ true → ((w : List ℕ) → o ≡ Some w → all_bytes w ≡ true) → after front o ≡ Some v → all_bytes v ≡ true
after_small front None v p q e = cc
after_small front (Some w) v p q e = let f : front ++ w ≡ v = cc in subst (λ (u : List ℕ). all_bytes u ≡ true) f (append_small front w p (q w refl))

escaped_small : (o : Option Escape) (rest : ℕ → Option (List ℕ)) (v : List ℕ) → Each o → ((n : ℕ) (w : List ℕ) → rest n ≡ Some w → all_bytes w ≡ true)
    → option_and_then (λ e. after e.bytes (rest e.size)) o ≡ Some v → all_bytes v ≡ true
escaped_small None rest v p q e = cc
escaped_small (Some x) rest v p q e = after_small x.bytes (rest x.size) v (p x refl) (q x.size) e

byte_small : (t : Bool) (b : ℕ) (o : Option Escape) (rest : ℕ → Option (List ℕ)) (v : List ℕ) → nat_lt b 256 ≡ true → Each o → ((n : ℕ) (w : List ℕ) → rest n ≡ Some w → all_bytes w ≡ true)
    → cond t (option_and_then (λ e. after e.bytes (rest e.size)) o) (after (b ∷ []) (rest 0)) ≡ Some v → all_bytes v ≡ true
byte_small true b o rest v h p q e = escaped_small o rest v p q e
byte_small false b o rest v h p q e = after_small (b ∷ []) (rest 0) v (rw h refl) (q 0) e

unescape_small : (bytes : List ℕ) (k : ℕ) (v : List ℕ) → all_bytes bytes ≡ true → unescape_from content.Bytes k bytes ≡ Some v → all_bytes v ≡ true
unescape_small [] zero v h e = let f : [] ≡ v = cc in subst (λ (u : List ℕ). all_bytes u ≡ true) f refl
unescape_small [] (suc k) v h e = let f : [] ≡ v = cc in subst (λ (u : List ℕ). all_bytes u ≡ true) f refl
unescape_small (b ∷ more) (suc k) v h e = unescape_small more k v (and_parts (nat_lt b 256) (all_bytes more) h).1 e
unescape_small (b ∷ more) zero v h e =
    let parts = and_parts (nat_lt b 256) (all_bytes more) h in
    byte_small (b == 92) b (escape content.Bytes more) (λ n. unescape_from content.Bytes n more) v parts.0 (escape_small more) (λ n w f. unescape_small more n w parts.1 f) e

-- ---- literals

-- what a token says is good
abbrev pub good_lexeme : Lexeme → Bool
good_lexeme (l.Text x) = is_utf8 x
good_lexeme (l.Bytes x) = all_bytes x
good_lexeme _ = true

abbrev Good : Option Lexeme → Type 0
Good o = (x : Lexeme) → o ≡ Some x → good_lexeme x ≡ true

good_none : Good None
good_none x e = cc

good_some : (y : Lexeme) → good_lexeme y ≡ true → Good (Some y)
good_some y h x e = let f : y ≡ x = cc in subst (λ (z : Lexeme). good_lexeme z ≡ true) f h

good_map : {A : Type 0} (f : A → Lexeme) (o : Option A) → ((a : A) → o ≡ Some a → good_lexeme (f a) ≡ true) → Good (option_map f o)
good_map f None h = good_none
good_map f (Some a) h = good_some (f a) (h a refl)

good_then : {A : Type 0} (f : A → Option Lexeme) (o : Option A) → ((a : A) → Good (f a)) → Good (option_and_then f o)
good_then f None h = good_none
good_then f (Some a) h = h a

good_if : (b : Bool) (x : Lexeme) → good_lexeme x ≡ true → Good (cond b (Some x) None)
good_if true x h = good_some x h
good_if false x h = good_none

utf8_small : (bytes : List ℕ) → IsUtf8 bytes → all_bytes bytes ≡ true
utf8_small bytes h = utf8_bytes bytes (is_utf8-from_IsUtf8 bytes h)

good_of : (p : LiteralPrefix) (bytes : List ℕ) → IsUtf8 bytes → Good (literal_of p bytes)
unfolding unescape
good_of prefix.Plain bytes h = good_map l.Text (unescape content.Text bytes) (λ v e. is_utf8-from_IsUtf8 v (unescape_utf8 bytes v h e))
good_of prefix.Raw bytes h = good_some (l.Text bytes) (is_utf8-from_IsUtf8 bytes h)
good_of prefix.Bytes bytes h = good_map l.Bytes (unescape content.Bytes bytes) (λ v e. unescape_small bytes 0 v (utf8_small bytes h) e)
good_of prefix.RawBytes bytes h = good_some (l.Bytes bytes) (utf8_small bytes h)

enclosed_utf8 : (n : Quotes) (bytes : List ℕ) → IsUtf8 bytes → IsUtf8 (enclosed n bytes)
enclosed_utf8 quotes.One bytes h = h
enclosed_utf8 quotes.Three bytes h = lines_utf8 bytes h

inside_utf8 : (text : List ℕ) → IsUtf8 text → (p : LiteralPrefix) (n : Quotes) → Form (s.Literal p n) (map class text) → IsUtf8 (inside (prefix_size p + quotes_size n) (quotes_size n) text)
inside_utf8 text h p n f =
    let m = literal_marked text h p n f in
    let front = prefix_size p + quotes_size n in
    let back = quotes_size n in
    let room = m.room in
    let e : length text - front - back ≡ (length text - back) - front = omega arith in
    subst (λ k. IsUtf8 (take k (drop front text))) (sym e) (IsUtf8-between text front (length text - back) h (omega arith) m.starts m.stops)

good_reserved : (letters : List ℕ) (o : Option Reserved) → Good (reserved_or_name letters o)
good_reserved letters (Some w) = good_some (l.Reserved w) refl
good_reserved letters None = good_if (is_name letters) (l.Name letters (word_of letters)) refl

good_word : (dot : Bool) (letters : List ℕ) → Good (word dot letters)
unfolding word
good_word true letters = good_if (is_name letters) (l.Name letters (word_of letters)) refl
good_word false letters = good_reserved letters (reserved_of letters)

token_of : (o : Option Lexeme) (x : Lexeme) → option_map piece.Token o ≡ Some (piece.Token x) → o ≡ Some x
token_of None x e = absurd cc
token_of (Some y) x e = cc

good_meaning : (dot : Bool) (shape : Shape) (bytes : List ℕ) (x : Lexeme) → IsUtf8 bytes → Form shape (map class bytes) → meaning dot shape bytes ≡ Some (piece.Token x) → good_lexeme x ≡ true
unfolding meaning
good_meaning dot s.Gap bytes x h f e = absurd cc
good_meaning dot s.Word bytes x h f e = good_word dot bytes x (token_of (word dot bytes) x e)
good_meaning dot s.QuotedName bytes x h f e =
    good_then quoted_name (unescape content.Text (inside 1 1 bytes)) (λ a. good_if (is_name a) (l.Name a None) refl) x (token_of (option_and_then quoted_name (unescape content.Text (inside 1 1 bytes))) x e)
good_meaning dot s.Integer bytes x h f e = good_map l.Integer (integer bytes) (λ a g. refl) x (token_of (option_map l.Integer (integer bytes)) x e)
good_meaning dot (s.Literal p n) bytes x h f e =
    good_of p (enclosed n (inside (prefix_size p + quotes_size n) (quotes_size n) bytes)) (enclosed_utf8 n (inside (prefix_size p + quotes_size n) (quotes_size n) bytes) (inside_utf8 bytes h p n f)) x
    (token_of (literal p n bytes) x e)
good_meaning dot s.Parameter bytes x h f e = good_if (is_name (drop 1 bytes)) (l.Parameter (drop 1 bytes)) refl x (token_of (parameter (drop 1 bytes)) x e)
good_meaning dot s.QuotedParameter bytes x h f e =
    good_then parameter (unescape content.Text (inside 2 1 bytes)) (λ a. good_if (is_name a) (l.Parameter a) refl) x (token_of (option_and_then parameter (unescape content.Text (inside 2 1 bytes))) x e)
good_meaning dot s.Sign bytes x h f e = good_map l.Sign (sign_of bytes) (λ a g. refl) x (token_of (option_map l.Sign (sign_of bytes)) x e)

by_utf8 : (b : Bool) (o : Option Piece) (x : Piece) → cond b o None ≡ Some x → (b ≡ true) × (o ≡ Some x)
by_utf8 true o x e = (refl, e)
by_utf8 false o x e = absurd cc

good_read : (dot : Bool) (shape : Shape) (bytes : List ℕ) (x : Lexeme) → Form shape (map class bytes) → read dot shape bytes ≡ Some (piece.Token x) → good_lexeme x ≡ true
unfolding read
good_read dot shape bytes x f e =
    let h = by_utf8 (is_utf8 bytes) (meaning dot shape bytes) (piece.Token x) e in
    good_meaning dot shape bytes x (IsUtf8-from_is_utf8 bytes h.0) f h.1

-- what the tokens of a text say is good
abbrev pub all_good : List Token → Bool
all_good = list_all (λ (t : Token). good_lexeme t.lexeme)

pub lexes_good : (at : ℕ) (dot : Bool) (text : List ℕ) (tokens : List Token) → Lexes at dot text tokens → all_good tokens ≡ true
lexes_good at dot _ _ lexes_end = refl
lexes_good at dot text tokens (lexes_gap shape n f e d) = lexes_good (at + n) dot (drop n text) tokens d
lexes_good at dot text _ (lexes_token {tokens = tokens} shape n x f e d) =
    let form : Form shape (map class (take n text)) = subst (Form shape) (take-map class n text) f.spells in
    let first = good_read dot shape (take n text) x form e in
    let rest = lexes_good (at + n) (is_dot x) (drop n text) tokens d in
    rw (first, rest) refl
