-- The loop that reads escapes.
use Rattle.std.proofs.Common.{◌≡◌, ℕ, zero, suc, ◌+◌, ◌<◌, ◌≤◌, true, false, cond, List, [], ◌∷◌, ◌++◌, length, drop, get_or, Option, Some, None, refl, sym, ◌∙◌, ap, add-one, drop-cons, append_assoc, append-nil, length-drop, arith}
use Rattle.std.proofs.lemmas.List.{drop_all, drop-drop}
use Rattle.std.proofs.lemmas.Bool.Decides.{nat_tests}
use Rattle.std.specs.Prelude.{◌==◌, option_and_then}
use Rattle.sql_ast.specs.declared.pieces.Content.{Content}
use Rattle.sql_ast.specs.Values.{Escape, escape, after, unescape_from}

pub record Unescaping (kind : Content) (bytes : List ℕ) (at : ℕ) (read : List ℕ) : Type 0 where
  pub within : at ≤ length bytes
  pub same : after read (unescape_from kind 0 (drop at bytes)) ≡ unescape_from kind 0 bytes

after_nil : (o : Option (List ℕ)) → after [] o ≡ o
after_nil None = refl
after_nil (Some u) = refl

after_after : (a b : List ℕ) (o : Option (List ℕ)) → after a (after b o) ≡ after (a ++ b) o
after_after a b None = refl
after_after a b (Some u) = ap Some (sym (append_assoc a b u))

-- the bytes of an escape are passed over
pub passed : (kind : Content) (n : ℕ) (bytes : List ℕ) → unescape_from kind n bytes ≡ unescape_from kind 0 (drop n bytes)
passed kind zero bytes = refl
passed kind (suc n) [] = refl
passed kind (suc n) (b ∷ bytes) = passed kind n bytes

-- what an escape leaves
abbrev pub behind : Content → List ℕ → Option Escape → Option (List ℕ)
behind kind more o = option_and_then (λ e. after e.bytes (unescape_from kind e.size more)) o

pub backslash : (kind : Content) (b : ℕ) (more : List ℕ) → (b == 92) ≡ true → unescape_from kind 0 (b ∷ more) ≡ behind kind more (escape kind more)
backslash kind b more e = ap (λ t. cond t (behind kind more (escape kind more)) (after (b ∷ []) (unescape_from kind 0 more))) e

pub plain : (kind : Content) (b : ℕ) (more : List ℕ) → (b == 92) ≡ false → unescape_from kind 0 (b ∷ more) ≡ after (b ∷ []) (unescape_from kind 0 more)
plain kind b more e = ap (λ t. cond t (behind kind more (escape kind more)) (after (b ∷ []) (unescape_from kind 0 more))) e

split_here : (bytes : List ℕ) (at : ℕ) → at < length bytes → drop at bytes ≡ get_or bytes at 0 ∷ drop (at + 1) bytes
split_here bytes at lt = rw (add-one, drop-cons bytes at 0) refl

pub begins : (kind : Content) (bytes : List ℕ) → Unescaping kind bytes 0 []
begins kind bytes = record { within = omega arith; same = after_nil (unescape_from kind 0 bytes) }

module _ (kind : Content) (bytes : List ℕ) (at : ℕ) (read : List ℕ) (g : Unescaping kind bytes at read) where
  module _ (lt : at < length bytes) where
    pub goes_plain : (get_or bytes at 0 == 92) ≡ false → (more : List ℕ) → more ≡ read ++ get_or bytes at 0 ∷ [] → Unescaping kind bytes (at + 1) more
    goes_plain e more is = record {
      within = omega arith;
      same = ap (λ u. after u (unescape_from kind 0 (drop (at + 1) bytes))) is
          ∙ sym (after_after read (get_or bytes at 0 ∷ []) (unescape_from kind 0 (drop (at + 1) bytes)))
          ∙ ap (after read) (sym (plain kind (get_or bytes at 0) (drop (at + 1) bytes) e))
          ∙ ap (λ u. after read (unescape_from kind 0 u)) (sym (split_here bytes at lt))
          ∙ g.same;
    }

    here : (get_or bytes at 0 == 92) ≡ true → (o : Option Escape) → escape kind (drop (at + 1) bytes) ≡ o → unescape_from kind 0 (drop at bytes) ≡ behind kind (drop (at + 1) bytes) o
    here e o is = ap (unescape_from kind 0) (split_here bytes at lt) ∙ backslash kind (get_or bytes at 0) (drop (at + 1) bytes) e ∙ ap (behind kind (drop (at + 1) bytes)) is

    pub no_escape : (get_or bytes at 0 == 92) ≡ true → escape kind (drop (at + 1) bytes) ≡ None → None ≡ unescape_from kind 0 bytes
    no_escape e is = sym (ap (after read) (here e None is)) ∙ g.same

    pub goes_escape : (get_or bytes at 0 == 92) ≡ true → (f : Escape) → escape kind (drop (at + 1) bytes) ≡ Some f → f.size ≤ length (drop (at + 1) bytes)
        → (next : ℕ) → next ≡ at + (1 + f.size) → (more : List ℕ) → more ≡ read ++ f.bytes → Unescaping kind bytes next more
    goes_escape e f is fits next there more put =
        let l = length-drop (at + 1) bytes in
        let far : drop f.size (drop (at + 1) bytes) ≡ drop next bytes = drop-drop f.size (at + 1) bytes ∙ ap (λ n. drop n bytes) (let z : (at + 1) + f.size ≡ next = omega arith in z) in
        record {
          within = omega arith;
          same = ap (λ u. after u (unescape_from kind 0 (drop next bytes))) put
              ∙ sym (after_after read f.bytes (unescape_from kind 0 (drop next bytes)))
              ∙ ap (λ u. after read (after f.bytes (unescape_from kind 0 u))) (sym far)
              ∙ ap (λ o. after read (after f.bytes o)) (sym (passed kind f.size (drop (at + 1) bytes)))
              ∙ ap (after read) (sym (here e (Some f) is))
              ∙ g.same;
        }

  pub ends : length bytes ≤ at → Some read ≡ unescape_from kind 0 bytes
  ends le = sym (ap Some (append-nil read)) ∙ ap (λ u. after read (unescape_from kind 0 u)) (sym (drop_all at bytes le)) ∙ g.same

pub is_backslash : (b : ℕ) → b ≡ 92 → (b == 92) ≡ true
is_backslash b e = grind (arith, nat_tests)
