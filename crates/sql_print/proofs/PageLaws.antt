-- What is written on a page is the text of its tokens.
use Rattle.std.proofs.Common.{◌≡◌, ℕ, ◌+◌, ◌-◌, ◌<◌, ◌≤◌, List, [], ◌∷◌, ◌++◌, length, map, drop, take, get_or, refl, sym, ◌∙◌, ap, append_assoc, arith}
use Rattle.std.proofs.lemmas.List.{drop_more, take_all, length-drop}
use Rattle.sql_ast.specs.Pieces.{Piece, lexeme_text, space, text_behind, text_of, with_commas, after_commas}
use Rattle.sql_print.specs.Pages.{Page, blank, after, written}

pub written_append : (page : Page) (xs ys : List Piece) → written page (xs ++ ys) ≡ written (written page xs) ys
written_append page [] ys = refl
written_append page (x ∷ xs) ys = written_append (after page x) xs ys

append_nil : (xs : List ℕ) → xs ++ [] ≡ xs
append_nil [] = refl
append_nil (x ∷ xs) = ap (λ r. x ∷ r) (append_nil xs)

behind_text : (text : List ℕ) (last : Piece) (xs : List Piece) → (written (record { text = text; behind = last.behind }) xs).text ≡ text ++ text_behind last xs
unfolding after
behind_text text last [] = sym (append_nil text)
behind_text text last (x ∷ xs) =
    behind_text ((text ++ space last x) ++ lexeme_text x.lexeme) x xs
    ∙ ap (λ r. r ++ text_behind x xs) (append_assoc text (space last x) (lexeme_text x.lexeme))
    ∙ append_assoc text (space last x ++ lexeme_text x.lexeme) (text_behind x xs)

pub whole_text : (xs : List Piece) → (written blank xs).text ≡ text_of xs
unfolding after
whole_text [] = refl
whole_text (x ∷ xs) = behind_text (lexeme_text x.lexeme) x xs

-- what is written of a list and what is left of it are the whole, also with one element more written
pub wrote_one : {A : Type 0} (text : List A → List Piece) (piece : A → List Piece) → ((y : A) (ys : List A) → text (y ∷ ys) ≡ piece y ++ text ys) → (xs : List A) (i : ℕ) (x : A) → i < length xs → x ≡ get_or xs i x →
    (page next whole : Page) → next ≡ written page (piece x) → written page (text (drop i xs)) ≡ whole → written next (text (drop (i + 1) xs)) ≡ whole
wrote_one text piece opens xs i x within at page next whole wrote was =
    ap (λ p. written p (text (drop (i + 1) xs))) wrote
    ∙ sym (written_append page (piece x) (text (drop (i + 1) xs)))
    ∙ ap (λ y. written page (piece y ++ text (drop (i + 1) xs))) at
    ∙ sym (ap (written page) (opens (get_or xs i x) (drop (i + 1) xs)))
    ∙ sym (ap (λ l. written page (text l)) (drop_more xs i x within))
    ∙ was

-- a list with commas is its first part, and the others behind commas
commas_behind : {A : Type 0} (says : A → List Piece) (xs : List A) (x : A) → 0 < length xs → x ≡ get_or xs 0 x → (page : Page) →
    written page (with_commas (map says xs)) ≡ written (written page (says x)) (after_commas (map says (drop 1 xs)))
commas_behind says [] x within at page = absurd (omega (arith, within))
commas_behind says (y ∷ ys) x within at page =
    written_append page (says y) (after_commas (map says ys)) ∙ ap (λ z. written (written page (says z)) (after_commas (map says ys))) (sym at)

no_more : (m n : ℕ) → m ≡ n → m ≤ n
no_more m n same = omega (arith, same)

pub commas_first : {A : Type 0} (says : A → List Piece) (xs : List A) (x : A) → 0 < length xs → x ≡ get_or xs 0 x → (page : Page) →
    written page (with_commas (map says xs)) ≡ written (written page (says x)) (after_commas (map says (take (length xs - 1) (drop 1 xs))))
commas_first says xs x within at page =
    commas_behind says xs x within at page
    ∙ ap (λ l. written (written page (says x)) (after_commas (map says l))) (sym (take_all (length xs - 1) (drop 1 xs) (no_more (length (drop 1 xs)) (length xs - 1) (length-drop 1 xs))))
