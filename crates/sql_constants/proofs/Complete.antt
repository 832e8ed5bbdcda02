-- Each constant is read, whatever follows it.
use Rattle.std.proofs.Common.{◌≡◌, ℕ, zero, suc, ◌-◌, ◌<◌, ◌≤◌, ℤ, pos, true, false, List, [], ◌∷◌, ◌++◌, length, Option, Some, refl, sym, ◌∙◌, ap, subst, append_assoc, length-append, arith}
use Rattle.std.specs.Prelude.{neg_ℤ}
use Rattle.fronts.specs.Readers.{Outcome, taken, and_then, comes, token, many}
use Rattle.sql_types.specs.Calendar.{read_date}
use Rattle.sql_types.specs.declared.sql_type.Named.{Named}
use Rattle.sql_types.specs.declared.sql_type.SqlType.{SqlType, out-SqlType}
use Rattle.sql_types.specs.declared.sql_type.SqlType.TheOpen as t
use Rattle.sql_types.specs.declared.sql_type.SqlType.TheVariants as ty
use Rattle.sql_types.specs.declared.value.Value.{Value}
use Rattle.sql_types.specs.declared.value.Value.TheVariants as v
use Rattle.sql_names.specs.declared.words.Reserved.TheVariants as r
use Rattle.sql_ast.specs.declared.words.Sign.TheVariants as s
use Rattle.sql_ast.specs.declared.words.Word.TheVariants as w
use Rattle.sql_ast.specs.declared.token.Token.{Token}
use Rattle.sql_ast.specs.declared.token.Lexeme.TheVariants as l
use Rattle.sql_ast.specs.Marks.{Tokens, same_reserved, same_sign, same_word, sign, number, content}
use Rattle.sql_coerce.specs.Casts.{integer_value}
use Rattle.sql_constants.specs.Constants.{ConstantOf, constant_null, constant_true, constant_false, constant_integer, constant_minus, constant_text, constant_bytes, constant_day, constant_date, constant_empty, constant_array, constant_struct, ElementsOf, elements_one, elements_more, FieldsOf, fields_one, fields_more}
use Rattle.sql_constants.specs.Readers.{Parser, truth, signed, a_text, some_bytes, day_text, day, comma_element, elements, array, more_fields, in_brackets, structure, null, or_null, constant_at, fields_at}
use Rattle.sql_constants.proofs.Lexemes.{is_reserved, is_sign, is_word, is_integer, is_text, is_bytes}
use Rattle.sql_constants.proofs.Levels.{typed_at, constant_by}

-- ---- types without parts

read_null : (other : Parser Value) (x : Token) (ts : Tokens) → x.lexeme ≡ l.Reserved r.Null → or_null other (x ∷ ts) ≡ taken v.Null ts
unfolding token same_reserved null
read_null other x ts e = rw e refl

read_true : (x : Token) (ts : Tokens) → x.lexeme ≡ l.Reserved r.True → or_null truth (x ∷ ts) ≡ taken (v.Bool true) ts
unfolding token same_reserved truth
read_true x ts e = rw e refl

read_false : (x : Token) (ts : Tokens) → x.lexeme ≡ l.Reserved r.False → or_null truth (x ∷ ts) ≡ taken (v.Bool false) ts
unfolding token same_reserved truth
read_false x ts e = rw e refl

read_integer : (value : ℤ → Option Value) (x : Token) (ts : Tokens) (n : ℕ) (y : Value) → x.lexeme ≡ l.Integer n → value (pos n) ≡ Some y → or_null (signed value) (x ∷ ts) ≡ taken y ts
unfolding token same_reserved same_sign signed
read_integer value x ts n y e f = rw (e, f) refl

read_minus : (value : ℤ → Option Value) (m x : Token) (ts : Tokens) (n : ℕ) (y : Value) → m.lexeme ≡ l.Sign s.Minus → x.lexeme ≡ l.Integer n → value (neg_ℤ (pos n)) ≡ Some y
    → or_null (signed value) (m ∷ x ∷ ts) ≡ taken y ts
unfolding token same_reserved same_sign signed
read_minus value m x ts n y d e f = rw (d, e, f) refl

read_text : (x : Token) (ts : Tokens) (c : List ℕ) → x.lexeme ≡ l.Text c → or_null a_text (x ∷ ts) ≡ taken (v.Text c) ts
unfolding token same_reserved a_text
read_text x ts c e = rw e refl

read_bytes : (x : Token) (ts : Tokens) (c : List ℕ) → x.lexeme ≡ l.Bytes c → or_null some_bytes (x ∷ ts) ≡ taken (v.Bytes c) ts
unfolding token same_reserved some_bytes
read_bytes x ts c e = rw e refl

read_day : (x : Token) (ts : Tokens) (c : List ℕ) (d : ℤ) → x.lexeme ≡ l.Text c → read_date c ≡ Some d → or_null day (x ∷ ts) ≡ taken (v.Date d) ts
unfolding token same_reserved same_word day day_text
read_day x ts c d e f = rw (e, f) refl

read_dated : (z x : Token) (ts : Tokens) (n c : List ℕ) (d : ℤ) → z.lexeme ≡ l.Name n (Some w.Date) → x.lexeme ≡ l.Text c → read_date c ≡ Some d → or_null day (z ∷ x ∷ ts) ≡ taken (v.Date d) ts
unfolding token same_reserved same_word day day_text
read_dated z x ts n c d g e f = rw (g, e, f) refl

-- a type that has an integer is one of the integer types
integer_form : (turns : ℕ) (form : t.SqlType-F SqlType) (n : ℤ) (x : Value) → integer_value form n ≡ Some x → typed_at turns form ≡ signed (integer_value form)
integer_form turns t.Int32 n x e = refl
integer_form turns t.Int64 n x e = refl
integer_form turns t.Uint32 n x e = refl
integer_form turns t.Uint64 n x e = refl
integer_form turns t.Bool n x e = absurd cc
integer_form turns _ n x e = absurd cc

integer_at : (turns : ℕ) (type : SqlType) (n : ℤ) (x : Value) → integer_value (out-SqlType type) n ≡ Some x → (ts : Tokens) → constant_at turns type ts ≡ or_null (signed (integer_value (out-SqlType type))) ts
integer_at turns type n x e ts = constant_by turns type (out-SqlType type) refl ts ∙ ap (λ (p : Parser Value). or_null p ts) (integer_form turns (out-SqlType type) n x e)

-- ---- types with parts

-- no constant begins with `]`
abbrev Inner : Tokens → Type 0
Inner ts = comes (sign s.CloseSquare) ts ≡ false

inner_reserved : (x : Token) (ts : Tokens) (k : _) → x.lexeme ≡ l.Reserved k → Inner (x ∷ ts)
inner_reserved x ts k e = rw e refl

inner_constant : (type : SqlType) (u : Tokens) (x : Value) → ConstantOf type u x → (rest : Tokens) → Inner (u ++ rest)
unfolding same_sign
inner_constant type _ _ (constant_null {t = a} i) rest = rw (is_reserved r.Null a i) refl
inner_constant type _ _ (constant_true {t = a} i) rest = rw (is_reserved r.True a i) refl
inner_constant type _ _ (constant_false {t = a} i) rest = rw (is_reserved r.False a i) refl
inner_constant type _ _ (constant_integer {t = a} i e) rest = rw (is_integer a i) refl
inner_constant type _ _ (constant_minus {m = m} im i e) rest = rw (is_sign s.Minus m im) refl
inner_constant type _ _ (constant_text {t = a} i) rest = rw (is_text a i) refl
inner_constant type _ _ (constant_bytes {t = a} i) rest = rw (is_bytes a i) refl
inner_constant type _ _ (constant_day {t = a} i e) rest = rw (is_text a i) refl
inner_constant type _ _ (constant_date {d = d} id i e) rest = rw (is_word w.Date d id).is refl
inner_constant type _ _ (constant_empty element {o = o} io ic) rest = rw (is_sign s.OpenSquare o io) refl
inner_constant type _ _ (constant_array element {o = o} io es ic) rest = rw (is_sign s.OpenSquare o io) refl
inner_constant type _ _ (constant_struct fields {t = a} it io fs ic) rest = rw (is_reserved r.Struct a it) refl

inner_elements : (type : SqlType) (u : Tokens) (xs : List Value) → ElementsOf type u xs → (rest : Tokens) → Inner (u ++ rest)
inner_elements type u _ (elements_one {x = x} d) rest = inner_constant type u x d rest
inner_elements type _ _ (elements_more {x = x} {t = a} {u = u} {w = z} d ic es) rest =
    subst Inner (sym (append_assoc u (a ∷ z) rest)) (inner_constant type u x d ((a ∷ z) ++ rest))

read_empty : (turns : ℕ) (element : Parser Value) (o c : Token) (ts : Tokens) → o.lexeme ≡ l.Sign s.OpenSquare → c.lexeme ≡ l.Sign s.CloseSquare → or_null (array turns element) (o ∷ c ∷ ts) ≡ taken (v.Array []) ts
unfolding token same_reserved same_sign array
read_empty turns element o c ts d e = rw (d, e) refl

read_array : (turns : ℕ) (element : Parser Value) (o c : Token) (ts rest : Tokens) (xs : List Value) → o.lexeme ≡ l.Sign s.OpenSquare → Inner ts → elements turns element ts ≡ taken xs (c ∷ rest)
    → c.lexeme ≡ l.Sign s.CloseSquare → or_null (array turns element) (o ∷ ts) ≡ taken (v.Array xs) rest
unfolding token same_reserved same_sign array
read_array turns element o c ts rest xs d i e f = rw (d, i, e, f) refl

read_struct : (fields : List (Parser Value)) (x o c : Token) (ts rest : Tokens) (xs : List Value) → x.lexeme ≡ l.Reserved r.Struct → o.lexeme ≡ l.Sign s.OpenRound → more_fields fields [] ts ≡ taken xs (c ∷ rest)
    → c.lexeme ≡ l.Sign s.CloseRound → or_null (in_brackets fields) (x ∷ o ∷ ts) ≡ taken (v.Struct xs) rest
unfolding token same_reserved same_sign in_brackets
read_struct fields x o c ts rest xs d g e f = rw (d, g, e, f) refl

no_comma : (k : _) (c : Token) (ts : Tokens) → c.lexeme ≡ l.Sign k → same_sign s.Comma k ≡ false → comes (sign s.Comma) (c ∷ ts) ≡ false
no_comma k c ts e f = rw e f

not_square : same_sign s.Comma s.CloseSquare ≡ false
unfolding same_sign
not_square = refl

-- the repetition ends where no comma comes
many_end : (item : Parser Value) (n : ℕ) (found : List Value) (ts : Tokens) → comes (sign s.Comma) ts ≡ false → many (sign s.Comma) item n found ts ≡ taken found ts
unfolding many
many_end item zero found ts e = rw e refl
many_end item (suc n) found ts e = rw e refl

-- and goes on where one does
many_on : (element : Parser Value) (n : ℕ) (found : List Value) (x : Token) (ts : Tokens) → x.lexeme ≡ l.Sign s.Comma
    → many (sign s.Comma) (comma_element element) (suc n) found (x ∷ ts) ≡ and_then (element ts) (λ y. many (sign s.Comma) (comma_element element) n (found ++ y ∷ []))
unfolding many comma_element token same_sign
many_on element n found x ts e = rw e refl

fields_end : (found : List Value) (ts : Tokens) → more_fields [] found ts ≡ taken found ts
unfolding more_fields
fields_end found ts = refl

-- a field, and the fields behind it, where so many were found
abbrev pub each : Parser Value → List (Parser Value) → List Value → Parser (List Value)
each field fields found ts = and_then (field ts) (λ y. more_fields fields (found ++ y ∷ []))

first_field : (field : Parser Value) (fields : List (Parser Value)) (ts : Tokens) → more_fields (field ∷ fields) [] ts ≡ each field fields [] ts
unfolding more_fields
first_field field fields ts = refl

read_comma : (next : Parser (List Value)) (x : Token) (ts : Tokens) → x.lexeme ≡ l.Sign s.Comma → and_then (token (sign s.Comma) (x ∷ ts)) (λ a. next) ≡ next ts
unfolding token same_sign
read_comma next x ts e = rw e refl

next_field : (field : Parser Value) (fields : List (Parser Value)) (found : List Value) (y : Value) (x : Token) (ts : Tokens) → x.lexeme ≡ l.Sign s.Comma
    → more_fields (field ∷ fields) (found ++ y ∷ []) (x ∷ ts) ≡ each field fields (found ++ y ∷ []) ts
unfolding more_fields
next_field field fields [] y x ts e = read_comma (each field fields (y ∷ [])) x ts e
next_field field fields (z ∷ found) y x ts e = read_comma (each field fields ((z ∷ found) ++ y ∷ [])) x ts e

-- a STRUCT has a field
some_structure : (turns : ℕ) (fields : List (Named SqlType)) (u : Tokens) (xs : List Value) → FieldsOf fields u xs → structure (fields_at turns fields) ≡ in_brackets (fields_at turns fields)
unfolding structure
some_structure turns _ u _ (fields_one d) = refl
some_structure turns _ _ _ (fields_more d ic ds) = refl

-- what the elements are read by
elements_are : (turns : ℕ) (element : Parser Value) (ts : Tokens) → elements turns element ts ≡ and_then (element ts) (λ y. many (sign s.Comma) (comma_element element) turns (y ∷ []))
unfolding elements
elements_are turns element ts = refl

-- whatever the brackets hold is read before the last of them
closed : {A : Type 0} (p : Parser A) (u : Tokens) (c : Token) (rest : Tokens) (o : Outcome Token A) → p (u ++ (c ∷ rest)) ≡ o → p ((u ++ (c ∷ [])) ++ rest) ≡ o
closed p u c rest o e = ap p (append_assoc u (c ∷ []) rest) ∙ e

shorter : (turns : ℕ) (u v : Tokens) → length (u ++ v) < turns → length u < turns
shorter turns u v lt = let e = length-append u v in omega arith

later : (turns : ℕ) (u v : Tokens) (a : Token) → length (u ++ (a ∷ v)) < turns → length v < turns
later turns u v a lt = let e = length-append u (a ∷ v) in omega arith

inside : (turns : ℕ) (o c : Token) (u : Tokens) → length (o ∷ (u ++ (c ∷ []))) < turns → length u < turns
inside turns o c u lt = let e = length-append u (c ∷ []) in omega arith

within : (turns : ℕ) (x o c : Token) (u : Tokens) → length (x ∷ o ∷ (u ++ (c ∷ []))) < turns → length u < turns
within turns x o c u lt = let e = length-append u (c ∷ []) in omega arith

turn_left : (n : ℕ) (u v : Tokens) (a : Token) → length (u ++ (a ∷ v)) ≤ n → (n ≡ suc (n - 1)) × (length v ≤ n - 1)
turn_left n u v a le = let e = length-append u (a ∷ v) in (omega arith, omega arith)

module _ (turns : ℕ) where
  mutual
    pub complete : (type : SqlType) (u : Tokens) (x : Value) → ConstantOf type u x → (rest : Tokens) → length u < turns → constant_at turns type (u ++ rest) ≡ taken x rest
    complete type _ _ (constant_null {t = a} i) rest lt = constant_by turns type (out-SqlType type) refl (a ∷ rest) ∙ read_null (typed_at turns (out-SqlType type)) a rest (is_reserved r.Null a i)
    complete _ _ _ (constant_true {t = a} i) rest lt = constant_by turns ty.Bool t.Bool ty.outs-Bool (a ∷ rest) ∙ read_true a rest (is_reserved r.True a i)
    complete _ _ _ (constant_false {t = a} i) rest lt = constant_by turns ty.Bool t.Bool ty.outs-Bool (a ∷ rest) ∙ read_false a rest (is_reserved r.False a i)
    complete type _ x (constant_integer {t = a} i e) rest lt =
        integer_at turns type (pos (number a)) x e (a ∷ rest) ∙ read_integer (integer_value (out-SqlType type)) a rest (number a) x (is_integer a i) e
    complete type _ x (constant_minus {m = m} {t = a} im i e) rest lt =
        integer_at turns type (neg_ℤ (pos (number a))) x e (m ∷ a ∷ rest) ∙ read_minus (integer_value (out-SqlType type)) m a rest (number a) x (is_sign s.Minus m im) (is_integer a i) e
    complete _ _ _ (constant_text {t = a} i) rest lt = constant_by turns ty.Text t.Text ty.outs-Text (a ∷ rest) ∙ read_text a rest (content a) (is_text a i)
    complete _ _ _ (constant_bytes {t = a} i) rest lt = constant_by turns ty.Bytes t.Bytes ty.outs-Bytes (a ∷ rest) ∙ read_bytes a rest (content a) (is_bytes a i)
    complete _ _ _ (constant_day {t = a} {day = number_of_day} i e) rest lt =
        constant_by turns ty.Date t.Date ty.outs-Date (a ∷ rest) ∙ read_day a rest (content a) number_of_day (is_text a i) e
    complete _ _ _ (constant_date {d = d} {t = a} {day = number_of_day} id i e) rest lt =
        let name = is_word w.Date d id in
        constant_by turns ty.Date t.Date ty.outs-Date (d ∷ a ∷ rest) ∙ read_dated d a rest name.letters (content a) number_of_day name.is (is_text a i) e
    complete _ _ _ (constant_empty element {o = o} {c = c} io ic) rest lt =
        constant_by turns (ty.Array element) (t.Array element) (ty.outs-Array element) (o ∷ c ∷ rest)
        ∙ read_empty turns (constant_at turns element) o c rest (is_sign s.OpenSquare o io) (is_sign s.CloseSquare c ic)
    complete _ _ _ (constant_array element {xs = xs} {o = o} {c = c} {u = u} io es ic) rest lt =
        constant_by turns (ty.Array element) (t.Array element) (ty.outs-Array element) (o ∷ ((u ++ (c ∷ [])) ++ rest))
        ∙ read_array turns (constant_at turns element) o c ((u ++ (c ∷ [])) ++ rest) rest xs (is_sign s.OpenSquare o io)
        (subst Inner (sym (append_assoc u (c ∷ []) rest)) (inner_elements element u xs es (c ∷ rest)))
        (closed (elements turns (constant_at turns element)) u c rest (taken xs (c ∷ rest))
        (elements_are turns (constant_at turns element) (u ++ (c ∷ rest))
        ∙ complete_elements element u xs es turns [] (c ∷ rest) (let lt' = inside turns o c u lt in omega arith) (inside turns o c u lt) (no_comma s.CloseSquare c rest (is_sign s.CloseSquare c ic) not_square)))
        (is_sign s.CloseSquare c ic)
    complete _ _ _ (constant_struct fields {xs = xs} {t = a} {o = o} {c = c} {u = u} it io fs ic) rest lt =
        constant_by turns (ty.Struct fields) (t.Struct fields) (ty.outs-Struct fields) (a ∷ o ∷ ((u ++ (c ∷ [])) ++ rest))
        ∙ ap (λ (p : Parser Value). or_null p (a ∷ o ∷ ((u ++ (c ∷ [])) ++ rest))) (some_structure turns fields u xs fs)
        ∙ read_struct (fields_at turns fields) a o c ((u ++ (c ∷ [])) ++ rest) rest xs (is_reserved r.Struct a it) (is_sign s.OpenRound o io)
        (closed (more_fields (fields_at turns fields) []) u c rest (taken xs (c ∷ rest)) (complete_all fields u xs fs (c ∷ rest) (within turns a o c u lt)))
        (is_sign s.CloseRound c ic)

    complete_elements : (type : SqlType) (u : Tokens) (xs : List Value) → ElementsOf type u xs → (n : ℕ) (found : List Value) (rest : Tokens) → length u ≤ n → length u < turns → comes (sign s.Comma) rest ≡ false
        → and_then (constant_at turns type (u ++ rest)) (λ y. many (sign s.Comma) (comma_element (constant_at turns type)) n (found ++ y ∷ [])) ≡ taken (found ++ xs) rest
    complete_elements type u _ (elements_one {x = x} d) n found rest le lt free =
        ap (λ (o : Outcome Token Value). and_then o (λ y. many (sign s.Comma) (comma_element (constant_at turns type)) n (found ++ y ∷ []))) (complete type u x d rest lt)
        ∙ many_end (comma_element (constant_at turns type)) n (found ++ x ∷ []) rest free
    complete_elements type _ _ (elements_more {x = x} {xs = xs} {t = a} {u = u} {w = z} d ic es) n found rest le lt free =
        ap (λ (ts : Tokens). and_then (constant_at turns type ts) (λ y. many (sign s.Comma) (comma_element (constant_at turns type)) n (found ++ y ∷ []))) (append_assoc u (a ∷ z) rest)
        ∙ ap (λ (o : Outcome Token Value). and_then o (λ y. many (sign s.Comma) (comma_element (constant_at turns type)) n (found ++ y ∷ []))) (complete type u x d (a ∷ (z ++ rest)) (shorter turns u (a ∷ z) lt))
        ∙ ap (λ k. many (sign s.Comma) (comma_element (constant_at turns type)) k (found ++ x ∷ []) (a ∷ (z ++ rest))) (turn_left n u z a le).0
        ∙ many_on (constant_at turns type) (n - 1) (found ++ x ∷ []) a (z ++ rest) (is_sign s.Comma a ic)
        ∙ complete_elements type z xs es (n - 1) (found ++ x ∷ []) rest (turn_left n u z a le).1 (later turns u z a lt) free
        ∙ ap (λ (ys : List Value). taken ys rest) (append_assoc found (x ∷ []) xs)

    complete_all : (fields : List (Named SqlType)) (u : Tokens) (xs : List Value) → FieldsOf fields u xs → (rest : Tokens) → length u < turns → more_fields (fields_at turns fields) [] (u ++ rest) ≡ taken xs rest
    complete_all _ u _ (fields_one {field = field} {x = x} d) rest lt =
        first_field (constant_at turns field.ty) [] (u ++ rest)
        ∙ ap (λ (o : Outcome Token Value). and_then o (λ y. more_fields [] (y ∷ []))) (complete field.ty u x d rest lt) ∙ fields_end (x ∷ []) rest
    complete_all _ _ _ (fields_more {field = field} {fields = fields} {x = x} {xs = xs} {t = a} {u = u} {w = z} d ic ds) rest lt =
        first_field (constant_at turns field.ty) (fields_at turns fields) ((u ++ (a ∷ z)) ++ rest)
        ∙ ap (each (constant_at turns field.ty) (fields_at turns fields) []) (append_assoc u (a ∷ z) rest)
        ∙ ap (λ (o : Outcome Token Value). and_then o (λ y. more_fields (fields_at turns fields) (y ∷ []))) (complete field.ty u x d (a ∷ (z ++ rest)) (shorter turns u (a ∷ z) lt))
        ∙ complete_fields fields z xs ds [] x a rest (is_sign s.Comma a ic) (later turns u z a lt)

    complete_fields : (fields : List (Named SqlType)) (u : Tokens) (xs : List Value) → FieldsOf fields u xs → (found : List Value) (before : Value) (comma : Token) (rest : Tokens) → comma.lexeme ≡ l.Sign s.Comma → length u < turns
        → more_fields (fields_at turns fields) (found ++ before ∷ []) (comma ∷ (u ++ rest)) ≡ taken (found ++ (before ∷ xs)) rest
    complete_fields _ u _ (fields_one {field = field} {x = x} d) found before comma rest e lt =
        next_field (constant_at turns field.ty) [] found before comma (u ++ rest) e
        ∙ ap (λ (o : Outcome Token Value). and_then o (λ y. more_fields [] ((found ++ before ∷ []) ++ y ∷ []))) (complete field.ty u x d rest lt)
        ∙ fields_end ((found ++ before ∷ []) ++ x ∷ []) rest
        ∙ ap (λ (ys : List Value). taken ys rest) (append_assoc found (before ∷ []) (x ∷ []))
    complete_fields _ _ _ (fields_more {field = field} {fields = fields} {x = x} {xs = xs} {t = a} {u = u} {w = z} d ic ds) found before comma rest e lt =
        next_field (constant_at turns field.ty) (fields_at turns fields) found before comma ((u ++ (a ∷ z)) ++ rest) e
        ∙ ap (each (constant_at turns field.ty) (fields_at turns fields) (found ++ before ∷ [])) (append_assoc u (a ∷ z) rest)
        ∙ ap (λ (o : Outcome Token Value). and_then o (λ y. more_fields (fields_at turns fields) ((found ++ before ∷ []) ++ y ∷ []))) (complete field.ty u x d (a ∷ (z ++ rest)) (shorter turns u (a ∷ z) lt))
        ∙ complete_fields fields z xs ds (found ++ before ∷ []) x a rest (is_sign s.Comma a ic) (later turns u z a lt)
        ∙ ap (λ (ys : List Value). taken ys rest) (append_assoc found (before ∷ []) (x ∷ xs))
