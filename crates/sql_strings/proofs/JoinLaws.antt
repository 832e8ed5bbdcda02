-- Texts joined one after another.
use Rattle.std.proofs.Common.{◌≡◌, ℕ, ◌+◌, ◌<◌, ◌≤◌, Bool, true, false, ◌&&◌, not, List, [], ◌∷◌, ◌++◌, length, map, drop, get_or, Some, None, if◌then◌else◌, refl, ap, sym, ◌∙◌, append_assoc}
use Rattle.std.specs.List.{list_all}
use Rattle.std.specs.Str.{IsUtf8, chars, encode_utf8_all}
use Rattle.std.proofs.lemmas.Str.{encodes-append, encodes-chars}
use Rattle.std.proofs.lemmas.List.{append-nil, drop_more, drop_all}
use Rattle.sql_types.specs.declared.sql_type.SqlType.{SqlType}
use Rattle.sql_types.specs.declared.value.Value.{Value, out-Value}
use Rattle.sql_types.specs.Before.{is_null}
use Rattle.sql_types.specs.Fits.{fits}
use Rattle.sql_types.specs.Takes.{all_fit, content}
use Rattle.sql_strings.specs.Texts.{all_joined, joined_by, continued_by}
use Rattle.sql_strings.specs.Rows.{characters, element_texts}

and-right : (a b : Bool) → (a && b) ≡ true → b ≡ true
and-right true b h = h
and-right false b h = cc

-- what all values fit, those behind one do
pub fit-later : (ty : SqlType) (values : List Value) (i : ℕ) (x : Value) → i < length values → all_fit ty (drop i values) ≡ true → all_fit ty (drop (i + 1) values) ≡ true
fit-later ty values i x some fit = and-right (fits ty (get_or values i x)) (all_fit ty (drop (i + 1) values)) (ap (all_fit ty) (sym (drop_more values i x some)) ∙ fit)

split-at : (values : List Value) (i : ℕ) (x : Value) → i < length values → x ≡ get_or values i x → drop i values ≡ x ∷ drop (i + 1) values
split-at values i x some at = drop_more values i x some ∙ ap (λ v. v ∷ drop (i + 1) values) (sym at)

-- ---- `||` and CONCAT

pub joined-text : (made now text : List ℕ) (values : List Value) (i : ℕ) (x : Value) (whole : List ℕ) → i < length values → x ≡ get_or values i x → IsUtf8 text → text ≡ content x → now ≡ made ++ text
    → made ++ encode_utf8_all (all_joined (map characters (drop i values))) ≡ whole → now ++ encode_utf8_all (all_joined (map characters (drop (i + 1) values))) ≡ whole
joined-text made now text values i x whole some at ut is push so_far =
    let more = all_joined (map characters (drop (i + 1) values)) in
    ap (λ t. t ++ encode_utf8_all more) push ∙ append_assoc made text (encode_utf8_all more)
    ∙ ap (λ t. made ++ t) (ap (λ t. t ++ encode_utf8_all more) (sym (encodes-chars text ut) ∙ ap (λ t. encode_utf8_all (chars t)) is) ∙ sym (encodes-append (characters x) more)
    ∙ ap (λ t. encode_utf8_all (all_joined (map characters t))) (sym (split-at values i x some at)))
    ∙ so_far

-- ---- ARRAY_TO_STRING

-- what comes of texts, where the first of all is among them or not
abbrev pub Rest : Bool → List ℕ → List (List ℕ) → List ℕ
Rest is_first separator texts = if is_first then joined_by separator texts else continued_by separator texts
