-- The readers of types read each type, whatever follows; of fields each list that `>` closes.
use Rattle.std.proofs.Common.{◌≡◌, ℕ, zero, suc, ◌<◌, Bool, true, false, List, [], ◌∷◌, ◌++◌, length, None, refl, sym, subst}
use Rattle.std.proofs.lemmas.List.{append_assoc}
use Rattle.fronts.specs.Readers.{taken, comes, many}
use Rattle.fronts.proofs.Agrees.{Many, many_none, many_more, Found}
use Rattle.sql_names.specs.declared.words.Reserved.TheVariants as r
use Rattle.sql_ast.specs.declared.words.Sign.TheVariants as s
use Rattle.sql_ast.specs.declared.token.Token.{Token}
use Rattle.sql_ast.specs.declared.type_spelling.TypeSpelling.{TypeSpelling}
use Rattle.sql_ast.specs.declared.type_spelling.TypeField.{TypeField}
use Rattle.sql_ast.specs.Marks.{Tokens, Is, same_sign, sign, sign_lexeme, name_lexeme}
use Rattle.sql_ast.specs.Parts.{TypeOf, type_name as is_type_name, type_array, type_struct, fields_are, FieldCommasOf, fields_none, fields_more, FieldOf, field_unnamed, field_named}
use Rattle.sql_grammar.specs.Ways.{Parser}
use Rattle.sql_grammar.specs.Classes.{class_of, no_type, type_lexeme, begins_type}
use Rattle.sql_grammar.specs.Words.{type_name, field, comma_field, fields_closed, array_type, struct_type, type_by, starts_type, type_at, whole_type, levels_below}
use Rattle.sql_grammar.proofs.Marks.{AfterOf, after_of}
use Rattle.sql_grammar.proofs.Words.{ClosedOf, closed_fields}
use Rattle.sql_grammar.proofs.CompleteSteps.{Read, Free, Not, Comes, less, tok, also, part, last, then_on, else_on, peeked, done, r_test, s_test, n_test, after_read, after_begins, many_read}

-- a type begins with a token that the test of its level takes
type_begins : (k : ℕ) (x : TypeSpelling) (u rest : Tokens) → TypeOf (suc k) x u → comes (starts_type k) (u ++ rest) ≡ true
type_begins zero _ _ rest (is_type_name i) = i.is
type_begins (suc k) _ _ rest (is_type_name i) = n_test (λ x. begins_type (type_lexeme x)) i (λ n o. refl)
type_begins (suc k) _ _ rest (type_array i io y ic) = r_test r.Array (λ x. begins_type (type_lexeme x)) i refl
type_begins (suc k) _ _ rest (type_struct i io y ic) = r_test r.Struct (λ x. begins_type (type_lexeme x)) i refl

comma_not_type : (k : ℕ) (t : Token) → sign s.Comma t ≡ true → starts_type k t ≡ false
comma_not_type zero t h = s_test {t = t} s.Comma name_lexeme (record { is = h }) refl
comma_not_type (suc k) t h = s_test {t = t} s.Comma (λ x. begins_type (type_lexeme x)) (record { is = h }) refl

greater_not_type : (k : ℕ) (ts : Tokens) → Comes (sign s.Greater) ts → comes (starts_type k) ts ≡ false
greater_not_type k [] h = refl
greater_not_type zero (t ∷ ts) h = s_test {t = t} s.Greater name_lexeme (record { is = h.is }) refl
greater_not_type (suc k) (t ∷ ts) h = s_test {t = t} s.Greater (λ x. begins_type (type_lexeme x)) (record { is = h.is }) refl

greater_not_comma : (ts : Tokens) → Comes (sign s.Greater) ts → comes (sign s.Comma) ts ≡ false
unfolding same_sign
greater_not_comma [] h = refl
greater_not_comma (t ∷ ts) h = s_test {t = t} s.Greater (sign_lexeme s.Comma) (record { is = h.is }) refl

field_commas : (k : ℕ) (fs : List (TypeField TypeSpelling)) (v : Tokens) → FieldCommasOf k fs v → Many (AfterOf (sign s.Comma) (FieldOf k)) fs v
field_commas k _ _ fields_none = many_none
field_commas k _ _ (fields_more {fs = fs} {v = v} i l z) = many_more (after_of i l) (field_commas k fs v z)

type_name_read : (n : ℕ) → Read n Free (TypeOf (suc zero)) type_name
unfolding type_name
type_name_read n = record { reads = by }
  where
    by : {a : TypeSpelling} {u : Tokens} → TypeOf (suc zero) a u → (rest : Tokens) → Unit {0} → length (u ++ rest) < n → type_name (u ++ rest) ≡ taken a rest
    by (is_type_name i) rest f = also i _ done

-- a field without a name
unnamed : (n k : ℕ) (starts : Token → Bool) (inner : Parser TypeSpelling) → Read n Free (TypeOf k) inner → (y : TypeSpelling) (u : Tokens) → TypeOf k y u → (rest : Tokens) → Not starts rest → length (u ++ rest) < n
    → field n starts inner (u ++ rest) ≡ taken (record { name = None; ty = y }) rest
unfolding field
unnamed n _ starts inner x _ _ (is_type_name i) rest f = then_on i.is _ _ (also i _ (else_on f.is _ _ done))
unnamed n _ starts inner x _ _ (type_array i io y ic) rest f = else_on (r_test r.Array name_lexeme i refl) _ _ (last x (type_array i io y ic) _ tt done)
unnamed n _ starts inner x _ _ (type_struct i io y ic) rest f = else_on (r_test r.Struct name_lexeme i refl) _ _ (last x (type_struct i io y ic) _ tt done)

module _ (n k : ℕ) (inner : Parser TypeSpelling) (x : Read n Free (TypeOf (suc k)) inner) where
  field_read : Read n (Not (starts_type k)) (FieldOf (suc k)) (field n (starts_type k) inner)
  unfolding field
  field_read = record { reads = by }
    where
      by : {a : TypeField TypeSpelling} {u : Tokens} → FieldOf (suc k) a u → (rest : Tokens) → Not (starts_type k) rest → length (u ++ rest) < n → field n (starts_type k) inner (u ++ rest) ≡ taken a rest
      by (field_unnamed {x = y} {u = u} l) rest f = unnamed n (suc k) (starts_type k) inner x y u l rest f
      by (field_named {u = u} i y) rest f = then_on i.is _ _ (also i _ (then_on (type_begins k _ u rest y) _ _ (last x y _ tt done)))

  comma_field_read : Read (suc n) (Not (starts_type k)) (AfterOf (sign s.Comma) (FieldOf (suc k))) (comma_field n (starts_type k) inner)
  unfolding comma_field
  comma_field_read = after_read field_read

  fields_closed_read : Read n Free (ClosedOf (suc k)) (fields_closed n (starts_type k) inner)
  unfolding fields_closed
  fields_closed_read = record { reads = by }
    where
      fields : (found : List (TypeField TypeSpelling)) → Read (suc n) (Comes (sign s.Greater)) (Found (FieldCommasOf (suc k)) found) (many (sign s.Comma) (comma_field n (starts_type k) inner) n found)
      fields found = many_read (Comes (sign s.Greater)) (Not (starts_type k)) n (AfterOf (sign s.Comma) (FieldOf (suc k))) (sign s.Comma) (comma_field n (starts_type k) inner) greater_not_comma
          (λ t ts h. record { is = comma_not_type k t h }) (λ ts h. record { is = greater_not_type k ts h }) (after_begins (sign s.Comma) (FieldOf (suc k))) comma_field_read found (field_commas (suc k))

      ended : (fs : List (TypeField TypeSpelling)) (v : Tokens) (c : Token) (rest : Tokens) → FieldCommasOf (suc k) fs v → Is (sign s.Greater) c → Not (starts_type k) (v ++ (c ∷ rest))
      ended _ _ c rest fields_none ic = record { is = greater_not_type k (c ∷ rest) (record { is = ic.is }) }
      ended _ _ c rest (fields_more {t = t} i l z) ic = record { is = comma_not_type k t i.is }

      ended_at : (fs : List (TypeField TypeSpelling)) (v : Tokens) (c : Token) (rest : Tokens) → FieldCommasOf (suc k) fs v → Is (sign s.Greater) c → Not (starts_type k) ((v ++ (c ∷ [])) ++ rest)
      ended_at fs v c rest z ic = subst (Not (starts_type k)) (sym (append_assoc v (c ∷ []) rest)) (ended fs v c rest z ic)

      by : {a : List (TypeField TypeSpelling)} {u : Tokens} → ClosedOf (suc k) a u → (rest : Tokens) → Unit {0} → length (u ++ rest) < n → fields_closed n (starts_type k) inner (u ++ rest) ≡ taken a rest
      by (closed_fields {c = c} (fields_are {f = d} {fs = fs} {u = u} {v = v} l z) ic) rest f =
          subst (λ (w : Tokens). length (w ++ rest) < n → fields_closed n (starts_type k) inner (w ++ rest) ≡ taken (d ∷ fs) rest) (sym (append_assoc u v (c ∷ [])))
          (part field_read l _ _ _ (ended_at fs v c rest z ic) (part (less (fields (d ∷ []))) (fs, z, refl) _ _ _ (record { is = ic.is }) (also ic _ done)))

type_more : (n k : ℕ) → Read n Free (TypeOf (suc k)) (type_at n k) → Read (suc n) Free (TypeOf (suc (suc k))) (type_at n (suc k))
unfolding type_at type_name array_type struct_type
type_more n k x = record { reads = by }
  where
    by : {a : TypeSpelling} {u : Tokens} → TypeOf (suc (suc k)) a u → (rest : Tokens) → Unit {0} → length (u ++ rest) < suc n → type_at n (suc k) (u ++ rest) ≡ taken a rest
    by (is_type_name i) rest f = peeked (class_of no_type type_lexeme) (type_by n (starts_type k) (type_at n k)) (n_test type_lexeme i (λ n o. refl)) (also i _ done)
    by (type_array i io y ic) rest f = peeked (class_of no_type type_lexeme) (type_by n (starts_type k) (type_at n k)) (r_test r.Array type_lexeme i refl) (tok i _ (also io _ (part x y _ _ _ tt (also ic _ done))))
    by (type_struct i io y ic) rest f = peeked (class_of no_type type_lexeme) (type_by n (starts_type k) (type_at n k)) (r_test r.Struct type_lexeme i refl)
        (tok i _ (also io _ (last (fields_closed_read n k (type_at n k) x) (closed_fields y ic) _ tt done)))

pub type_read : (n k : ℕ) → Read (suc n) Free (TypeOf (suc k)) (type_at n k)
unfolding type_at
type_read n zero = type_name_read (suc n)
type_read n (suc k) = type_more n k (less (type_read n k))

pub whole_type_read : (n : ℕ) → Read (suc n) Free (TypeOf (suc levels_below)) (whole_type n)
unfolding whole_type
whole_type_read n = type_read n levels_below

-- the fields of a typed STRUCT
pub struct_fields_read : (n k : ℕ) → Read n Free (ClosedOf (suc k)) (fields_closed n (starts_type k) (type_at n k))
struct_fields_read n k = fields_closed_read n k (type_at n k) (less (type_read n k))
