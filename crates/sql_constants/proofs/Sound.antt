-- What is read as a constant is one.
use Rattle.std.proofs.Common.{◌≡◌, ℕ, zero, suc, ℤ, pos, true, false, inl, inr, List, [], ◌∷◌, ◌++◌, Option, Some, None, refl, sym, ◌∙◌, ap, subst, append_assoc}
use Rattle.std.proofs.lemmas.List.{append-nil}
use Rattle.std.specs.Prelude.{neg_ℤ, option_map}
use Rattle.fronts.specs.Readers.{taken, and_then, comes, token, many}
use Rattle.sql_types.specs.Calendar.{read_date}
use Rattle.sql_types.specs.declared.sql_type.Named.{Named}
use Rattle.sql_types.specs.declared.sql_type.SqlType.{SqlType, out-SqlType, roll-SqlType, out-roll-SqlType, roll-out-SqlType}
use Rattle.sql_types.specs.declared.sql_type.SqlType.TheOpen as t
use Rattle.sql_types.specs.declared.sql_type.SqlType.TheVariants as ty
use Rattle.sql_types.specs.declared.value.Value.{Value}
use Rattle.sql_types.specs.declared.value.Value.TheVariants as v
use Rattle.sql_names.specs.declared.words.Reserved.TheVariants as r
use Rattle.sql_ast.specs.declared.words.Sign.TheVariants as s
use Rattle.sql_ast.specs.declared.words.Word.TheVariants as w
use Rattle.sql_ast.specs.declared.token.Token.{Token}
use Rattle.sql_ast.specs.Marks.{Tokens, Is, reserved, sign, word, text, bytes, integer, number, content}
use Rattle.sql_coerce.specs.Casts.{integer_value}
use Rattle.sql_coerce.proofs.FitLaws.{With, bare, bare_fields, by_parts}
use Rattle.sql_constants.specs.Constants.{ConstantOf, constant_null, constant_true, constant_false, constant_integer, constant_minus, constant_text, constant_bytes, constant_day, constant_date, constant_empty, constant_array, constant_struct, ElementsOf, elements_one, elements_more, FieldsOf, fields_one, fields_more}
use Rattle.sql_constants.specs.Readers.{Parser, truth, signed, a_text, some_bytes, day_text, day, comma_element, comma_behind, elements, array, more_fields, in_brackets, structure, null, or_null, constant_at, fields_at}
use Rattle.sql_constants.proofs.Complete.{each}
use Rattle.sql_constants.proofs.Levels.{typed_at, constant_by}
use Rattle.sql_constants.proofs.Reading.{then_taken, token_taken, either_taken, same_value_taken, valued_taken}

-- the tokens that were read are a constant of the type
pub record Got (type : SqlType) (ts : Tokens) (x : Value) (rest : Tokens) : Type 0 where
  pub used : Tokens
  pub split : ts ≡ used ++ rest
  pub constant : ConstantOf type used x

abbrev Gets : SqlType → Parser Value → Type 0
Gets type p = (ts : Tokens) (x : Value) (rest : Tokens) → p ts ≡ taken x rest → Got type ts x rest

-- one token, and two
got_one : (type : SqlType) (a : Token) (ts mid rest : Tokens) (x y : Value) → ts ≡ a ∷ mid → ConstantOf type (a ∷ []) y → taken y mid ≡ taken x rest → Got type ts x rest
got_one type a ts mid rest x y e c g =
    let h = same_value_taken y x mid rest g in
    record { used = a ∷ []; split = e ∙ ap (λ (m : Tokens). a ∷ m) h.1; constant = subst (λ z. ConstantOf type (a ∷ []) z) h.0 c }

-- ---- types without parts

null_or : (type : SqlType) (other : Parser Value) → Gets type other → Gets type (or_null other)
unfolding null
null_or type other gets ts x rest e = elim (either_taken (comes (reserved r.Null) ts) _ _ x rest e) [
  | inl h ↦ let b = token_taken (reserved r.Null) ts _ x rest h in got_one type b.first ts b.mid rest x v.Null b.split (constant_null b.fit) b.goes
  | inr h ↦ gets ts x rest h.1
]

gets_truth : Gets ty.Bool truth
unfolding truth
gets_truth ts x rest e = elim (either_taken (comes (reserved r.True) ts) _ _ x rest e) [
  | inl h ↦ let b = token_taken (reserved r.True) ts _ x rest h in got_one ty.Bool b.first ts b.mid rest x (v.Bool true) b.split (constant_true b.fit) b.goes
  | inr h ↦ let b = token_taken (reserved r.False) ts _ x rest h.1 in got_one ty.Bool b.first ts b.mid rest x (v.Bool false) b.split (constant_false b.fit) b.goes
]

gets_signed : (type : SqlType) → Gets type (signed (integer_value (out-SqlType type)))
unfolding signed
gets_signed type ts x rest e = elim (either_taken (comes (sign s.Minus) ts) _ _ x rest e) [
  | inl h ↦
      let m = token_taken (sign s.Minus) ts _ x rest h in
      let b = token_taken integer m.mid _ x rest m.goes in
      let g = valued_taken (integer_value (out-SqlType type) (neg_ℤ (pos (number b.first)))) b.mid rest x b.goes in
      record { used = m.first ∷ b.first ∷ []; split = m.split ∙ ap (λ (u : Tokens). m.first ∷ u) (b.split ∙ ap (λ (u : Tokens). b.first ∷ u) g.1); constant = constant_minus m.fit b.fit g.0 }
  | inr h ↦
      let b = token_taken integer ts _ x rest h.1 in
      let g = valued_taken (integer_value (out-SqlType type) (pos (number b.first))) b.mid rest x b.goes in
      record { used = b.first ∷ []; split = b.split ∙ ap (λ (u : Tokens). b.first ∷ u) g.1; constant = constant_integer b.fit g.0 }
]

gets_text : Gets ty.Text a_text
unfolding a_text
gets_text ts x rest e = let b = token_taken text ts _ x rest e in got_one ty.Text b.first ts b.mid rest x (v.Text (content b.first)) b.split (constant_text b.fit) b.goes

gets_bytes : Gets ty.Bytes some_bytes
unfolding some_bytes
gets_bytes ts x rest e = let b = token_taken bytes ts _ x rest e in got_one ty.Bytes b.first ts b.mid rest x (v.Bytes (content b.first)) b.split (constant_bytes b.fit) b.goes

-- a text that is read as a date
record Dated (ts : Tokens) (x : Value) (rest : Tokens) : Type 0 where
  first : Token
  number_of_day : ℤ
  split : ts ≡ first ∷ rest
  fit : Is text first
  reads : read_date (content first) ≡ Some number_of_day
  is : v.Date number_of_day ≡ x

dated_by : (first : Token) (ts rest : Tokens) (x : Value) → ts ≡ first ∷ rest → Is text first → (o : Option ℤ) → read_date (content first) ≡ o → option_map v.Date o ≡ Some x → Dated ts x rest
dated_by first ts rest x e i (Some d) h g = record { first = first; number_of_day = d; split = e; fit = i; reads = h; is = cc }
dated_by first ts rest x e i None h g = absurd cc

dated : (ts : Tokens) (x : Value) (rest : Tokens) → day_text ts ≡ taken x rest → Dated ts x rest
unfolding day_text
dated ts x rest e =
    let b = token_taken text ts _ x rest e in
    let g = valued_taken (option_map v.Date (read_date (content b.first))) b.mid rest x b.goes in
    dated_by b.first ts rest x (b.split ∙ ap (λ (u : Tokens). b.first ∷ u) g.1) b.fit (read_date (content b.first)) refl g.0

gets_day : Gets ty.Date day
unfolding day
gets_day ts x rest e = elim (either_taken (comes (word w.Date) ts) _ _ x rest e) [
  | inl h ↦
      let z = token_taken (word w.Date) ts _ x rest h in
      let d = dated z.mid x rest z.goes in
      record { used = z.first ∷ d.first ∷ []; split = z.split ∙ ap (λ (u : Tokens). z.first ∷ u) d.split; constant = subst (λ y. ConstantOf ty.Date (z.first ∷ d.first ∷ []) y) d.is (constant_date z.fit d.fit d.reads) }
  | inr h ↦
      let d = dated ts x rest h.1 in
      record { used = d.first ∷ []; split = d.split; constant = subst (λ y. ConstantOf ty.Date (d.first ∷ []) y) d.is (constant_day d.fit d.reads) }
]

-- ---- elements

-- the elements that were read begin with this one
record Chain (type : SqlType) (found : List Value) (x : Value) (u ts : Tokens) (xs : List Value) (rest : Tokens) : Type 0 where
  more : List Value
  used : Tokens
  is : xs ≡ found ++ (x ∷ more)
  split : ts ≡ used ++ rest
  elements : ElementsOf type (u ++ used) (x ∷ more)

chain_end : (type : SqlType) (found : List Value) (x : Value) (u ts rest : Tokens) (xs : List Value) → ConstantOf type u x → taken (found ++ x ∷ []) ts ≡ taken xs rest → Chain type found x u ts xs rest
chain_end type found x u ts rest xs d e =
    let h = same_value_taken (found ++ x ∷ []) xs ts rest e in
    record { more = []; used = []; is = sym h.0; split = h.1; elements = subst (λ (z : Tokens). ElementsOf type z (x ∷ [])) (sym (append-nil u)) (elements_one d) }

chain : (type : SqlType) (element : Parser Value) → Gets type element → (n : ℕ) (found : List Value) (x : Value) (u ts rest : Tokens) (xs : List Value) → ConstantOf type u x
    → many (sign s.Comma) (comma_element element) n (found ++ x ∷ []) ts ≡ taken xs rest → Chain type found x u ts xs rest
unfolding many comma_element
chain type element gets zero found x u ts rest xs d e = elim (either_taken (comes (sign s.Comma) ts) _ _ xs rest e) [
  | inl h ↦ absurd cc
  | inr h ↦ chain_end type found x u ts rest xs d h.1
]
chain type element gets (suc n) found x u ts rest xs d e = elim (either_taken (comes (sign s.Comma) ts) _ _ xs rest e) [
  | inl h ↦
      let b = then_taken (comma_element element ts) (λ y. many (sign s.Comma) (comma_element element) n ((found ++ x ∷ []) ++ y ∷ [])) xs rest h in
      let c = token_taken (sign s.Comma) ts (λ _. element) b.first b.mid b.took in
      let g = gets c.mid b.first b.mid c.goes in
      let k = chain type element gets n (found ++ x ∷ []) b.first g.used b.mid rest xs g.constant b.goes in
      record {
        more = b.first ∷ k.more;
        used = c.first ∷ (g.used ++ k.used);
        is = k.is ∙ append_assoc found (x ∷ []) (b.first ∷ k.more);
        split = c.split ∙ ap (λ (z : Tokens). c.first ∷ z) (g.split ∙ ap (λ (z : Tokens). g.used ++ z) k.split ∙ sym (append_assoc g.used k.used rest));
        elements = elements_more d c.fit k.elements;
      }
  | inr h ↦ chain_end type found x u ts rest xs d h.1
]

gets_array : (turns : ℕ) (type : SqlType) (element : Parser Value) → Gets type element → Gets (ty.Array type) (array turns element)
unfolding array elements
gets_array turns type element gets ts x rest e =
    let o = token_taken (sign s.OpenSquare) ts _ x rest e in
    elim (either_taken (comes (sign s.CloseSquare) o.mid) _ _ x rest o.goes) [
      | inl h ↦
          let c = token_taken (sign s.CloseSquare) o.mid _ x rest h in
          let g = same_value_taken (v.Array []) x c.mid rest c.goes in
          record {
            used = o.first ∷ c.first ∷ [];
            split = o.split ∙ ap (λ (z : Tokens). o.first ∷ z) (c.split ∙ ap (λ (z : Tokens). c.first ∷ z) g.1);
            constant = subst (λ y. ConstantOf (ty.Array type) (o.first ∷ c.first ∷ []) y) g.0 (constant_empty type o.fit c.fit);
          }
      | inr h ↦
          let es = then_taken (elements turns element o.mid) _ x rest h.1 in
          let f = then_taken (element o.mid) (λ y. many (sign s.Comma) (comma_element element) turns (y ∷ [])) es.first es.mid es.took in
          let a = gets o.mid f.first f.mid f.took in
          let k = chain type element gets turns [] f.first a.used f.mid es.mid es.first a.constant f.goes in
          let c = token_taken (sign s.CloseSquare) es.mid _ x rest es.goes in
          let g = same_value_taken (v.Array es.first) x c.mid rest c.goes in
          record {
            used = o.first ∷ ((a.used ++ k.used) ++ (c.first ∷ []));
            split = o.split ∙ ap (λ (z : Tokens). o.first ∷ z) (
                a.split ∙ ap (λ (z : Tokens). a.used ++ z) (k.split ∙ ap (λ (z : Tokens). k.used ++ z) (c.split ∙ ap (λ (z : Tokens). c.first ∷ z) g.1))
                ∙ sym (append_assoc a.used k.used (c.first ∷ rest)) ∙ sym (append_assoc (a.used ++ k.used) (c.first ∷ []) rest));
            constant = subst (λ y. ConstantOf (ty.Array type) (o.first ∷ ((a.used ++ k.used) ++ (c.first ∷ []))) y) (ap v.Array (sym k.is) ∙ g.0) (constant_array type o.fit k.elements c.fit);
          }
    ]

-- ---- fields

-- behind a value stands a comma
behind_some : (found : List Value) (x : Value) (next : Parser (List Value)) (ts : Tokens) → comma_behind (found ++ x ∷ []) next ts ≡ and_then (token (sign s.Comma) ts) (λ a. next)
behind_some [] x next ts = refl
behind_some (y ∷ found) x next ts = refl

-- a field whose constants are read
abbrev pub Gettable : ℕ → SqlType → Type 0
Gettable turns type = Gets type (constant_at turns type)

module _ (turns : ℕ) where
  record Filled (field : Named SqlType) (fields : List (Named SqlType)) (found : List Value) (x : Value) (u ts : Tokens) (xs : List Value) (rest : Tokens) : Type 0 where
    more : List Value
    used : Tokens
    is : xs ≡ found ++ (x ∷ more)
    split : ts ≡ used ++ rest
    filled : FieldsOf (field ∷ fields) (u ++ used) (x ∷ more)

  filling : (field : Named SqlType) (fields : List (Named (With (Gettable turns)))) (found : List Value) (x : Value) (u ts rest : Tokens) (xs : List Value) → ConstantOf field.ty u x
      → more_fields (fields_at turns (bare_fields (Gettable turns) fields)) (found ++ x ∷ []) ts ≡ taken xs rest → Filled field (bare_fields (Gettable turns) fields) found x u ts xs rest
  unfolding more_fields
  filling field [] found x u ts rest xs d e =
      let h = same_value_taken (found ++ x ∷ []) xs ts rest e in
      record { more = []; used = []; is = sym h.0; split = h.1; filled = subst (λ (z : Tokens). FieldsOf (field ∷ []) z (x ∷ [])) (sym (append-nil u)) (fields_one d) }
  filling field (next ∷ fields) found x u ts rest xs d e =
      let c = token_taken (sign s.Comma) ts (λ a. each (constant_at turns next.ty.0) (fields_at turns (bare_fields (Gettable turns) fields)) (found ++ x ∷ [])) xs rest (sym (behind_some found x _ ts) ∙ e) in
      let b = then_taken (constant_at turns next.ty.0 c.mid) (λ y. more_fields (fields_at turns (bare_fields (Gettable turns) fields)) ((found ++ x ∷ []) ++ y ∷ [])) xs rest c.goes in
      let g = next.ty.1 c.mid b.first b.mid b.took in
      let k = filling (record { name = next.name; ty = next.ty.0 }) fields (found ++ x ∷ []) b.first g.used b.mid rest xs g.constant b.goes in
      record {
        more = b.first ∷ k.more;
        used = c.first ∷ (g.used ++ k.used);
        is = k.is ∙ append_assoc found (x ∷ []) (b.first ∷ k.more);
        split = c.split ∙ ap (λ (z : Tokens). c.first ∷ z) (g.split ∙ ap (λ (z : Tokens). g.used ++ z) k.split ∙ sym (append_assoc g.used k.used rest));
        filled = fields_more d c.fit k.filled;
      }

  gets_brackets : (field : Named (With (Gettable turns))) (fields : List (Named (With (Gettable turns))))
      → Gets (ty.Struct (bare_fields (Gettable turns) (field ∷ fields))) (in_brackets (fields_at turns (bare_fields (Gettable turns) (field ∷ fields))))
  unfolding in_brackets more_fields
  gets_brackets field fields ts x rest e =
      let a = token_taken (reserved r.Struct) ts _ x rest e in
      let o = token_taken (sign s.OpenRound) a.mid _ x rest a.goes in
      let all = then_taken (more_fields (fields_at turns (bare_fields (Gettable turns) (field ∷ fields))) [] o.mid) _ x rest o.goes in
      let b = then_taken (constant_at turns field.ty.0 o.mid) (λ y. more_fields (fields_at turns (bare_fields (Gettable turns) fields)) (y ∷ [])) all.first all.mid all.took in
      let g = field.ty.1 o.mid b.first b.mid b.took in
      let k = filling (record { name = field.name; ty = field.ty.0 }) fields [] b.first g.used b.mid all.mid all.first g.constant b.goes in
      let c = token_taken (sign s.CloseRound) all.mid _ x rest all.goes in
      let h = same_value_taken (v.Struct all.first) x c.mid rest c.goes in
      record {
        used = a.first ∷ o.first ∷ ((g.used ++ k.used) ++ (c.first ∷ []));
        split = a.split ∙ ap (λ (z : Tokens). a.first ∷ z) (o.split ∙ ap (λ (z : Tokens). o.first ∷ z) (
            g.split ∙ ap (λ (z : Tokens). g.used ++ z) (k.split ∙ ap (λ (z : Tokens). k.used ++ z) (c.split ∙ ap (λ (z : Tokens). c.first ∷ z) h.1))
            ∙ sym (append_assoc g.used k.used (c.first ∷ rest)) ∙ sym (append_assoc (g.used ++ k.used) (c.first ∷ []) rest)));
        constant = subst (λ y. ConstantOf (ty.Struct (bare_fields (Gettable turns) (field ∷ fields))) (a.first ∷ o.first ∷ ((g.used ++ k.used) ++ (c.first ∷ []))) y) (ap v.Struct (sym k.is) ∙ h.0)
            (constant_struct (bare_fields (Gettable turns) (field ∷ fields)) a.fit o.fit k.filled c.fit);
      }

  gets_structure : (fields : List (Named (With (Gettable turns)))) → Gets (ty.Struct (bare_fields (Gettable turns) fields)) (structure (fields_at turns (bare_fields (Gettable turns) fields)))
  unfolding structure
  gets_structure [] ts x rest e = absurd cc
  gets_structure (field ∷ fields) ts x rest e = gets_brackets field fields ts x rest e

  -- ---- all types

  -- a type of this form
  of_form : (type other : SqlType) (form : t.SqlType-F SqlType) → out-SqlType type ≡ form → out-SqlType other ≡ form → other ≡ type
  of_form type other form e f = sym (roll-out-SqlType other) ∙ ap roll-SqlType (f ∙ sym e) ∙ roll-out-SqlType type

  moved : (type other : SqlType) (form : t.SqlType-F SqlType) (p : Parser Value) → out-SqlType type ≡ form → out-SqlType other ≡ form → Gets other p → Gets type p
  moved type other form p e f gets = subst (λ z. Gets z p) (of_form type other form e f) gets

  signed_moved : (type : SqlType) (form : t.SqlType-F SqlType) → out-SqlType type ≡ form → Gets type (signed (integer_value form))
  signed_moved type form e = subst (λ (f : t.SqlType-F SqlType). Gets type (signed (integer_value f))) e (gets_signed type)

  typed_gets : (type : SqlType) (parts : t.SqlType-F (With (Gettable turns))) → out-SqlType type ≡ bare (Gettable turns) parts → Gets type (typed_at turns (bare (Gettable turns) parts))
  typed_gets type t.Bool e = moved type ty.Bool t.Bool truth e ty.outs-Bool gets_truth
  typed_gets type t.Int32 e = signed_moved type t.Int32 e
  typed_gets type t.Int64 e = signed_moved type t.Int64 e
  typed_gets type t.Uint32 e = signed_moved type t.Uint32 e
  typed_gets type t.Uint64 e = signed_moved type t.Uint64 e
  typed_gets type t.Text e = moved type ty.Text t.Text a_text e ty.outs-Text gets_text
  typed_gets type t.Bytes e = moved type ty.Bytes t.Bytes some_bytes e ty.outs-Bytes gets_bytes
  typed_gets type t.Date e = moved type ty.Date t.Date day e ty.outs-Date gets_day
  typed_gets type (t.Array element) e = moved type (ty.Array element.0) (t.Array element.0) (array turns (constant_at turns element.0)) e (ty.outs-Array element.0) (gets_array turns element.0 (constant_at turns element.0) element.1)
  typed_gets type (t.Struct fields) e =
      moved type (ty.Struct (bare_fields (Gettable turns) fields)) (t.Struct (bare_fields (Gettable turns) fields)) (structure (fields_at turns (bare_fields (Gettable turns) fields))) e
      (ty.outs-Struct (bare_fields (Gettable turns) fields)) (gets_structure fields)

  gets_level : (parts : t.SqlType-F (With (Gettable turns))) → Gettable turns (roll-SqlType (bare (Gettable turns) parts))
  gets_level parts ts x rest e =
      let type = roll-SqlType (bare (Gettable turns) parts) in
      let form = out-roll-SqlType (bare (Gettable turns) parts) in
      null_or type (typed_at turns (bare (Gettable turns) parts)) (typed_gets type parts form) ts x rest (sym (constant_by turns type (bare (Gettable turns) parts) form ts) ∙ e)

  pub sound : (type : SqlType) → Gettable turns type
  sound = by_parts (Gettable turns) gets_level
