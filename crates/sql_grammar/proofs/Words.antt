-- The readers of what holds no expression are exact.
use Rattle.std.proofs.Common.{◌≡◌, ℕ, zero, suc, ◌≤◌, Bool, true, List, [], ◌∷◌, ◌++◌, Option, Some, None, refl, sym, subst, arith}
use Rattle.std.proofs.lemmas.List.{append_assoc}
use Rattle.fronts.specs.Fronts.{Language}
use Rattle.fronts.proofs.Agrees.{Found}
use Rattle.fronts.proofs.Firm.{Opens, hungry, opens}
use Rattle.fronts.proofs.Exact.{Exact, bind, either, last, done, less, exact_many, exact_peek, exact_refuse, hungry_refuse, opens_bind}
use Rattle.sql_names.specs.declared.words.Reserved.TheVariants as r
use Rattle.sql_ast.specs.declared.words.Sign.TheVariants as s
use Rattle.sql_ast.specs.declared.words.Word.TheVariants as w
use Rattle.sql_ast.specs.declared.token.Token.{Token}
use Rattle.sql_ast.specs.declared.token.Lexeme.{Lexeme}
use Rattle.sql_ast.specs.declared.token.Lexeme.TheVariants as l
use Rattle.sql_ast.specs.declared.clauses.Name.{Name}
use Rattle.sql_ast.specs.declared.type_spelling.TypeSpelling.{TypeSpelling}
use Rattle.sql_ast.specs.declared.type_spelling.TypeSpelling.TheVariants as spelling
use Rattle.sql_ast.specs.declared.type_spelling.TypeField.{TypeField}
use Rattle.sql_ast.specs.Marks.{Tokens, Is, same_reserved, reserved_lexeme, name_lexeme, reserved, sign, named}
use Rattle.sql_ast.specs.Trees.{name_at}
use Rattle.sql_ast.specs.Parts.{type_levels, AliasOf, alias_none, alias_name, alias_as, FromAliasOf, from_alias_none, from_alias_name, from_alias_as, from_alias, TypeOf, type_name as is_type_name, type_array, type_struct, FieldsOf, fields_are, FieldCommasOf, fields_none, fields_more, FieldOf, field_unnamed, field_named, DistinctOf, distinct_none, distinct_is, DirectionOf, direction_none, direction_asc, direction_desc, NullsPlaceOf, nulls_none, nulls_first, nulls_last, NullsPartOf, nulls_part_none, nulls_ignore, nulls_respect, CallLimitOf, call_limit_none, call_limit_is}
use Rattle.sql_grammar.specs.Ways.{Parser}
use Rattle.sql_grammar.specs.Classes.{class_of, TypeStart, a_type_name, an_array_type, a_struct_type, no_type, type_lexeme, begins_type}
use Rattle.sql_grammar.specs.Words.{whole_type, levels_below, after_as, alias_of, type_name, field, comma_field, fields_closed, array_type, struct_type, type_by, starts_type, type_at, distinct, direction, nulls_place, nulls_part, call_limit}
use Rattle.sql_grammar.proofs.Marks.{some_from_alias, Example, the_reserved, the_sign, the_word, some_name, some_integer, tok, also, opt, opt_also, tok_opens, AfterOf, after_of, after_solid, after_exact, after_opens, is_example}

-- ---- aliases

module _ (bare : Token → Bool) (one : Example bare) (M : Language Token (Option Name)) (nil : M None []) (plain : (n : Token) → Is bare n → M (Some (name_at n)) (n ∷ []))
    (by_as : (t n : Token) → Is (reserved r.As) t → Is named n → M (Some (name_at n)) (t ∷ n ∷ [])) where
  alias_by : (n : ℕ) → Exact (suc n) M (alias_of bare) (alias_of bare)
  unfolding alias_of after_as
  alias_by n = opt (the_reserved r.As) (λ t it. also some_name (λ m im. done (by_as t m it im))) (opt one (λ m im. done (plain m im)) (done nil))

pub alias_exact : (n : ℕ) → Exact (suc n) AliasOf (alias_of named) (alias_of named)
alias_exact n = alias_by named some_name AliasOf alias_none (λ n i. alias_name i) (λ t n i j. alias_as i j) n

pub from_alias_exact : (n : ℕ) → Exact (suc n) FromAliasOf (alias_of from_alias) (alias_of from_alias)
from_alias_exact n = alias_by from_alias some_from_alias FromAliasOf from_alias_none (λ n i. from_alias_name i) (λ t n i j. from_alias_as i j) n

-- one name
pub data NameIs : Name → Tokens → Type 0 where
  name_is : {n : Token} → Is named n → NameIs (name_at n) (n ∷ [])

-- ---- words that may stand

pub distinct_exact : (n : ℕ) → Exact (suc n) DistinctOf distinct distinct
unfolding distinct
distinct_exact n = opt (the_reserved r.Distinct) (λ t it. done (distinct_is it)) (done distinct_none)

pub direction_exact : (n : ℕ) → Exact (suc n) DirectionOf direction direction
unfolding direction
direction_exact n = opt (the_reserved r.Asc) (λ t it. done (direction_asc it)) (opt (the_reserved r.Desc) (λ t it. done (direction_desc it)) (done direction_none))

pub nulls_place_exact : (n : ℕ) → Exact (suc n) NullsPlaceOf nulls_place nulls_place
unfolding nulls_place
nulls_place_exact n = opt (the_reserved r.Nulls) (λ t it. opt_also (the_word w.First) (λ x ix. done (nulls_first it ix)) (also (the_word w.Last) (λ x ix. done (nulls_last it ix)))) (done nulls_none)

pub nulls_part_exact : (n : ℕ) → Exact (suc n) NullsPartOf nulls_part nulls_part
unfolding nulls_part
nulls_part_exact n = opt (the_reserved r.Ignore) (λ t it. also (the_reserved r.Nulls) (λ x ix. done (nulls_ignore it ix)))
    (opt (the_reserved r.Respect) (λ t it. also (the_reserved r.Nulls) (λ x ix. done (nulls_respect it ix))) (done nulls_part_none))

pub call_limit_exact : (n : ℕ) → Exact (suc n) CallLimitOf call_limit call_limit
unfolding call_limit
call_limit_exact n = opt (the_reserved r.Limit) (λ t it. also some_integer (λ x ix. done (call_limit_is it ix))) (done call_limit_none)

-- ---- types

fits_name : (x : Lexeme) → type_lexeme x ≡ a_type_name → name_lexeme x ≡ true
fits_name (l.Name n o) h = refl
fits_name (l.Reserved r.Array) h = absurd cc
fits_name (l.Reserved r.Struct) h = absurd cc
fits_name (l.Reserved _) h = absurd cc
fits_name _ h = absurd cc

fits_array : (x : Lexeme) → type_lexeme x ≡ an_array_type → reserved_lexeme r.Array x ≡ true
unfolding same_reserved
fits_array (l.Reserved r.Array) h = refl
fits_array (l.Reserved r.Struct) h = absurd cc
fits_array (l.Reserved _) h = absurd cc
fits_array _ h = absurd cc

fits_struct : (x : Lexeme) → type_lexeme x ≡ a_struct_type → reserved_lexeme r.Struct x ≡ true
unfolding same_reserved
fits_struct (l.Reserved r.Struct) h = refl
fits_struct (l.Reserved r.Array) h = absurd cc
fits_struct (l.Reserved _) h = absurd cc
fits_struct _ h = absurd cc

no_type_is : (k : ℕ) (x : TypeSpelling) (u : Tokens) → TypeOf k x u → u ≡ [] → ⊥
no_type_is _ _ _ (is_type_name i) e = cc
no_type_is _ _ _ (type_array i j y g) e = cc
no_type_is _ _ _ (type_struct i j y g) e = cc

-- fields and the sign that closes them
pub data ClosedOf (k : ℕ) : List (TypeField TypeSpelling) → Tokens → Type 0 where
  closed_fields : {fs : List (TypeField TypeSpelling)} {u : Tokens} {c : Token} → FieldsOf k fs u → Is (sign s.Greater) c → ClosedOf k fs (u ++ (c ∷ []))

field_commas_at : (k : ℕ) (a : TypeField TypeSpelling) (u : Tokens) (xs : List (TypeField TypeSpelling)) (v : Tokens) → AfterOf (sign s.Comma) (FieldOf k) a u → FieldCommasOf k xs v → FieldCommasOf k (a ∷ xs) (u ++ v)
field_commas_at k _ _ xs v (after_of i j) z = fields_more i j z

module _ (n m : ℕ) (up : n ≤ m) (k : ℕ) (starts : Token → Bool) (inner inner' : Parser TypeSpelling) (x : Exact (suc n) (TypeOf (suc k)) inner inner')
    (goes : (t : Token) → starts t ≡ true → Opens t inner') where
  field_exact : Exact (suc n) (FieldOf (suc k)) (field n starts inner) (field m starts inner')
  unfolding field
  field_exact = opt some_name (λ t it. either starts (λ z h. opens (opens_bind (goes z h) x (λ a u l. done {n = 0} tt))) (last _ (less x) (λ a u l. field_named it l)) (done (field_unnamed (is_type_name it))))
      (last _ x (λ a u l. field_unnamed l))

  comma_field_exact : Exact (suc (suc n)) (AfterOf (sign s.Comma) (FieldOf (suc k))) (comma_field n starts inner) (comma_field m starts inner')
  unfolding comma_field
  comma_field_exact = after_exact (the_sign s.Comma) field_exact

  comma_field_opens : (t : Token) → sign s.Comma t ≡ true → Opens t (comma_field m starts inner')
  unfolding comma_field
  comma_field_opens t h = after_opens (the_sign s.Comma) field_exact t h

  closed_found : (a : TypeField TypeSpelling) (u : Tokens) → FieldOf (suc k) a u → (b : List (TypeField TypeSpelling)) (v : Tokens) → Found (FieldCommasOf (suc k)) (a ∷ []) b v → FieldsOf (suc k) b (u ++ v)
  closed_found a u l b v (ls, z, e) = subst (λ (y : List (TypeField TypeSpelling)). FieldsOf (suc k) y (u ++ v)) (sym e) (fields_are l z)

  closed_exact : Exact (suc n) (ClosedOf (suc k)) (fields_closed n starts inner) (fields_closed m starts inner')
  unfolding fields_closed
  closed_exact = bind field_exact (λ a u l. bind (exact_many (AfterOf (sign s.Comma) (FieldOf (suc k))) (FieldCommasOf (suc k)) (sign s.Comma) (comma_field n starts inner) (comma_field m starts inner') fields_none (field_commas_at (suc k)) (after_solid (sign s.Comma) (FieldOf (suc k))) comma_field_opens n m (suc n) up (omega arith) (less comma_field_exact) (a ∷ []))
      (λ b v f. also (the_sign s.Greater) (λ c ic. done (subst (ClosedOf (suc k) b) (append_assoc u v (c ∷ [])) (closed_fields (closed_found a u l b v f) ic)))))

  struct_from : (t o : Token) → Is (reserved r.Struct) t → Is (sign s.Less) o → (fs : List (TypeField TypeSpelling)) (u : Tokens) → ClosedOf (suc k) fs u → TypeOf (suc (suc k)) (spelling.Struct fs t.start) (t ∷ o ∷ u)
  struct_from t o it io _ _ (closed_fields l ic) = type_struct it io l ic

  type_kinds : (c : TypeStart) → Exact (suc n) (TypeOf (suc (suc k))) (type_by n starts inner c) (type_by m starts inner' c)
  unfolding type_name array_type struct_type
  type_kinds a_type_name = tok some_name (λ t it. done (is_type_name it))
  type_kinds an_array_type = tok (the_reserved r.Array) (λ t it. also (the_sign s.Less) (λ o io. bind (less x) (λ a u l. also (the_sign s.Greater) (λ c ic. done (type_array it io l ic)))))
  type_kinds a_struct_type = tok (the_reserved r.Struct) (λ t it. also (the_sign s.Less) (λ o io. last _ (less closed_exact) (struct_from t o it io)))
  type_kinds no_type = exact_refuse (suc n) _ _ _ (is_type_name (is_example some_name))

  type_opens_by : (t : Token) (c : TypeStart) → type_lexeme t.lexeme ≡ c → begins_type c ≡ true → Opens t (type_by m starts inner' c)
  unfolding type_name array_type struct_type
  type_opens_by t a_type_name e h = tok_opens {n = 0} (fits_name t.lexeme e) (λ t it. done tt)
  type_opens_by t an_array_type e h = tok_opens (fits_array t.lexeme e) (λ t it. also (the_sign s.Less) (λ o io. bind x (λ a u l. also (the_sign s.Greater) (λ c ic. done tt))))
  type_opens_by t a_struct_type e h = tok_opens (fits_struct t.lexeme e) (λ t it. also (the_sign s.Less) (λ o io. last _ closed_exact (λ a u l. tt)))
  type_opens_by t no_type e h = absurd cc

mutual
  unfolding type_at type_name

  pub types_exact : (k n m : ℕ) → n ≤ m → Exact (suc n) (TypeOf (suc k)) (type_at n k) (type_at m k)
  types_exact zero n m up = tok some_name (λ t it. done (is_type_name it))
  types_exact (suc k) n m up = exact_peek (suc n) (TypeOf (suc (suc k))) (class_of no_type type_lexeme) (type_by n (starts_type k) (type_at n k)) (type_by m (starts_type k) (type_at m k)) (λ t c h. hungry hungry_refuse)
      (type_kinds n m up k (starts_type k) (type_at n k) (type_at m k) (types_exact k n m up) (λ t h. type_opens k m t h))

  pub type_opens : (k m : ℕ) (t : Token) → starts_type k t ≡ true → Opens t (type_at m k)
  type_opens zero m t h = tok_opens {n = 0} h (λ z iz. done tt)
  type_opens (suc k) m t h =
      let by : Opens t (type_by m (starts_type k) (type_at m k) (type_lexeme t.lexeme)) =
      type_opens_by m m (omega arith) k (starts_type k) (type_at m k) (type_at m k) (types_exact k m m (omega arith)) (λ z g. type_opens k m z g) t (type_lexeme t.lexeme) refl h in
      record { goes = λ rest e. by.goes rest e; moves = λ rest a e. by.moves rest a e }

pub whole_type_exact : (n m : ℕ) → n ≤ m → Exact (suc n) (TypeOf type_levels) (whole_type n) (whole_type m)
unfolding whole_type
whole_type_exact n m up = types_exact levels_below n m up

pub typed_fields_exact : (n m : ℕ) → n ≤ m → Exact (suc n) (ClosedOf type_levels) (fields_closed n (starts_type levels_below) (type_at n levels_below)) (fields_closed m (starts_type levels_below) (type_at m levels_below))
typed_fields_exact n m up = closed_exact n m up levels_below (starts_type levels_below) (type_at n levels_below) (type_at m levels_below) (types_exact levels_below n m up) (λ t h. type_opens levels_below m t h)
