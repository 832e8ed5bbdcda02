-- Basic expressions with the parts that are read with them, and postfix expressions, are read; also one before `.*`.
use Rattle.std.proofs.Common.{◌≡◌, ◌⊎◌, inl, inr, ℕ, suc, ◌<◌, ◌≤◌, ◌||◌, Bool, true, false, List, [], ◌∷◌, ◌++◌, length, Some, None, refl, sym, ◌∙◌, ap, subst, arith}
use Rattle.fronts.specs.Readers.{Outcome, taken, and_then, comes, next}
use Rattle.fronts.proofs.Agrees.{Many, many_none, many_more}
use Rattle.sql_ast.specs.declared.clauses.Call.{Call}
use Rattle.sql_ast.specs.declared.expr.Expr.{Expr}
use Rattle.sql_ast.specs.declared.expr.Expr.TheVariants as e
use Rattle.sql_ast.specs.declared.expr.Part.{Part}
use Rattle.sql_ast.specs.declared.expr.Part.TheVariants as part_kind
use Rattle.sql_names.specs.declared.words.Reserved.TheVariants as r
use Rattle.sql_ast.specs.declared.words.Sign.TheVariants as s
use Rattle.sql_ast.specs.declared.words.Word.TheVariants as w
use Rattle.sql_ast.specs.declared.token.Token.{Token}
use Rattle.sql_ast.specs.declared.token.Lexeme.{Lexeme}
use Rattle.sql_ast.specs.declared.token.Lexeme.TheVariants as l
use Rattle.sql_ast.specs.Marks.{Tokens, Is, sign, named, spelled, content, text, integer_lexeme, text_lexeme, bytes_lexeme, parameter_lexeme, same_reserved, same_word, same_sign, reserved_lexeme, sign_lexeme, name_lexeme}
use Rattle.sql_ast.specs.Trees.{name_at, function_lexeme}
use Rattle.sql_ast.specs.Grammar.{PartsOf, parts_none, parts_more, PartOf, part_field, part_index, BasicOf, basic_integer, basic_string, basic_bytes, basic_true, basic_false, basic_null, basic_date, basic_parameter, basic_name, basic_call, basic_safe_call, basic_group, basic_query, basic_tuple, basic_case, basic_cast, basic_safe_cast, basic_extract, basic_grouping, basic_exists, basic_array_query, basic_array, basic_array_word, basic_array_typed, basic_struct, basic_typed_struct, basic_with, ArrayItemsOf, array_empty, array_items, CallOf, call_is}
use Rattle.sql_grammar.specs.Ways.{Ended}
use Rattle.sql_grammar.specs.Classes.{class_of, basic_lexeme, name_class, BasicStart, NameWord, an_integer, a_string, a_bytes, a_true, a_false, a_null, a_parameter, an_if, a_bracket, a_case, a_cast, an_extract, a_grouping, an_exists, an_array, a_square, a_struct, a_with, no_basic, the_date, the_safe, plain_name}
use Rattle.sql_grammar.specs.Exprs.{starred, part_next, Below, called, safe_part, name_by, name_opened, basic_by, opened_by, opened}
use Rattle.sql_grammar.proofs.Exprs.{named_word}
use Rattle.sql_grammar.proofs.Follows.{Over, level}
use Rattle.sql_grammar.proofs.CompleteSteps.{also, then_on, else_on, peeked, done, over_not_s, r_test, s_test, n_test, w_test}
use Rattle.sql_grammar.proofs.CompleteStarts.{parts_ahead}
use Rattle.sql_grammar.proofs.CompleteParts.{Reading}
use Rattle.sql_grammar.proofs.CompleteTails.{call_behind, called_read, safe_cast_read, call_function}
use Rattle.sql_grammar.proofs.CompleteBasics.{case_read, cast_read, extract_read, grouping_read, exists_read, array_from_read, array_query_read, array_word_read, array_typed_read, struct_read, typed_struct_read, with_read_by}
use Rattle.sql_grammar.proofs.CompleteHeld.{group_read, scalar_read, tuple_read}

-- ---- classes

integer_class : (x : Lexeme) → integer_lexeme x ≡ true → basic_lexeme x ≡ an_integer
integer_class (l.Integer n) h = refl
integer_class _ h = absurd cc

text_class : (x : Lexeme) → text_lexeme x ≡ true → basic_lexeme x ≡ a_string
text_class (l.Text n) h = refl
text_class _ h = absurd cc

bytes_class : (x : Lexeme) → bytes_lexeme x ≡ true → basic_lexeme x ≡ a_bytes
bytes_class (l.Bytes n) h = refl
bytes_class _ h = absurd cc

parameter_class : (x : Lexeme) → parameter_lexeme x ≡ true → basic_lexeme x ≡ a_parameter
parameter_class (l.Parameter n) h = refl
parameter_class _ h = absurd cc

square_class : (ms : List Expr) (d : Token) (u ts : Tokens) → ArrayItemsOf ms d u → class_of no_basic basic_lexeme (next (u ++ ts)) ≡ a_square
square_class _ _ _ ts (array_empty i j) = s_test s.OpenSquare basic_lexeme i refl
square_class _ _ _ ts (array_items i l j) = s_test s.OpenSquare basic_lexeme i refl

-- the function of a call is IF or a name
function_kind : (x : Lexeme) → (elim (function_lexeme x) [ None ↦ false | Some a ↦ true ]) ≡ true → (reserved_lexeme r.If x ≡ true) ⊎ (name_lexeme x ≡ true)
unfolding same_reserved
function_kind (l.Reserved r.If) h = inl refl
function_kind (l.Reserved _) h = absurd cc
function_kind (l.Name n o) h = inr refl
function_kind _ h = absurd cc

call_open : (k : Call Expr) (t : Token) (u ts : Tokens) → CallOf k (t ∷ u) → comes (sign s.OpenRound) (u ++ ts) ≡ true
call_open _ _ _ ts (call_is i io a b m p q ic) = io.is

text_level : (x : Lexeme) → 0 < level x → text_lexeme x ≡ false
text_level (l.Text n) h = absurd (omega arith)
text_level _ h = refl

no_text : (ts : Tokens) → Over 0 ts → comes text ts ≡ false
no_text [] h = refl
no_text (t ∷ ts) h = text_level t.lexeme h.over

text_not_open : (x : Lexeme) → text_lexeme x ≡ true → sign_lexeme s.OpenRound x ≡ false
text_not_open (l.Text n) h = refl
text_not_open (l.Sign y) h = absurd cc
text_not_open _ h = refl

part_next_level : (x : Lexeme) → 1 < level x → (sign_lexeme s.Dot x || sign_lexeme s.OpenSquare x) ≡ false
unfolding same_sign
part_next_level (l.Sign s.Dot) h = absurd (omega arith)
part_next_level (l.Sign s.OpenSquare) h = absurd (omega arith)
part_next_level (l.Sign _) h = refl
part_next_level _ h = refl

pub no_part : (ts : Tokens) → Over 1 ts → comes part_next ts ≡ false
no_part [] h = refl
no_part (t ∷ ts) h = part_next_level t.lexeme h.over

pub part_begins : (p : Part Expr) (u rest : Tokens) → PartOf p u → comes part_next (u ++ rest) ≡ true
unfolding same_sign
part_begins _ _ rest (part_field {t = t} i j) = ap (λ c. c || sign s.OpenSquare t) i.is
part_begins _ _ rest (part_index {b = t} i j io l ic id) = ap (λ c. c || sign s.OpenSquare t) (s_test s.OpenSquare (sign_lexeme s.Dot) i refl) ∙ i.is

pub many_parts : (ps : List (Part Expr)) (v : Tokens) → PartsOf ps v → Many PartOf ps v
many_parts _ _ parts_none = many_none
many_parts _ _ (parts_more {ps = ps} {v = v} l z) = many_more l (many_parts ps v z)

pub not_starred : (star : Bool) {t : Token} → Is named t → starred star t ≡ false
not_starred true i = n_test (sign_lexeme s.Star) i (λ n o. refl)
not_starred false i = refl

-- ---- what a basic expression is read with

-- some of the parts are read with it, and the others left
pub record Opens (o : Outcome Token (Expr × Ended (Part Expr) Token)) (a : Expr) (ps : List (Part Expr)) (v rest : Tokens) : Type 0 where
  pub with_it : List (Part Expr)
  pub more : List (Part Expr)
  pub left : Tokens
  pub parts : PartsOf more left
  pub all : ps ≡ with_it ++ more
  pub room : length (left ++ rest) ≤ length (v ++ rest)
  pub is : o ≡ taken (a, (with_it, None)) (left ++ rest)

-- or something else E comes of it, where the whole is a name before the rest
abbrev pub Result : (Outcome Token (Expr × Ended (Part Expr) Token) → Expr → List (Part Expr) → Type 0) → Outcome Token (Expr × Ended (Part Expr) Token) → Expr → List (Part Expr) → Tokens → Tokens → Type 0
Result E o a ps v rest = Opens o a ps v rest ⊎ E o a ps

module _ (n : ℕ) (b : Below) (x : Reading n b) (star : Bool) (E : Outcome Token (Expr × Ended (Part Expr) Token) → Expr → List (Part Expr) → Type 0) where
  all_left : (o : Outcome Token (Expr × Ended (Part Expr) Token)) (a : Expr) (ps : List (Part Expr)) (v rest : Tokens) → PartsOf ps v
      → o ≡ taken (a, ([], None)) (v ++ rest) → Result E o a ps v rest
  all_left o a ps v rest z h = inl (record { with_it = []; more = ps; left = v; parts = z; all = refl; room = omega arith; is = h })

  as_result : (o p : Outcome Token (Expr × Ended (Part Expr) Token)) (a : Expr) (ps : List (Part Expr)) (v rest : Tokens) → o ≡ p → Result E p a ps v rest → Result E o a ps v rest
  as_result o p a ps v rest h x = subst (λ (q : Outcome Token (Expr × Ended (Part Expr) Token)). Result E q a ps v rest) (sym h) x

  plainly : (k : BasicStart) {a : Expr} {u : Tokens} → BasicOf a u → (ps : List (Part Expr)) (v : Tokens) → PartsOf ps v → (rest : Tokens) → ((ts : Tokens) → class_of no_basic basic_lexeme (next (u ++ ts)) ≡ k)
      → ((ts : Tokens) → opened_by n b star k ts ≡ and_then (basic_by n b k ts) (λ a. λ ts. taken (a, ([], None)) ts)) → ((ts : Tokens) → length (u ++ ts) < suc n → basic_by n b k (u ++ ts) ≡ taken a ts)
      → length (u ++ (v ++ rest)) < suc n → Result E (opened n b star (u ++ (v ++ rest))) a ps v rest
  unfolding opened
  plainly k {a} {u} m ps v z rest c same h lt = all_left _ a ps v rest z
      (peeked (class_of no_basic basic_lexeme) (opened_by n b star) (c (v ++ rest)) (λ lt. same (u ++ (v ++ rest)) ∙ ap (λ o. and_then o (λ a. λ ts. taken (a, ([], None)) ts)) (h (v ++ rest) lt)) lt)

  -- behind a name that no bracket follows
  module _ (t : Token) (rest : Tokens) (f : Over 0 rest) where
    parts_over : (ps : List (Part Expr)) (v : Tokens) → PartsOf ps v → Over 0 (v ++ rest)
    parts_over ps v z = (parts_ahead ps v z).ahead 0 rest (omega arith) f

    safe_by : (ps : List (Part Expr)) (v : Tokens) → PartsOf ps v → Result E (name_by n b star t the_safe rest) (e.Name (spelled t) t.start) [] [] rest → Result E (name_by n b star t the_safe (v ++ rest)) (e.Name (spelled t) t.start) ps v rest
    unfolding safe_part same_sign
    safe_by _ _ parts_none g = g
    safe_by _ _ (parts_more {ps = ps} {v = v} (part_index {b = d} {x = y} {o = o} {c = c} {d = k} {v = u} i j io l ic ik) z) g =
        all_left _ (e.Name (spelled t) t.start) _ ((d ∷ y ∷ o ∷ (u ++ (c ∷ k ∷ []))) ++ v) rest (parts_more (part_index i j io l ic ik) z) (else_on {N = Unit {0}} (s_test s.OpenSquare (sign_lexeme s.Dot) i refl) _ _ done tt)
    safe_by _ _ (parts_more {ps = ps} {v = v} (part_field {t = d} {n = k} i j) z) g = inl (record {
      with_it = part_kind.Field (name_at k) ∷ [];
      more = ps;
      left = v;
      parts = z;
      all = refl;
      room = omega arith;
      is = then_on {N = length (d ∷ k ∷ (v ++ rest)) < suc (length (d ∷ k ∷ (v ++ rest)))} i.is _ _ (also i _ (else_on (not_starred star j) _ _ (also j _ (else_on (over_not_s (parts_over ps v z) s.OpenRound (omega arith)) _ _ done)))) (omega arith);
    })

    name_by_kind : (k : NameWord) (ps : List (Part Expr)) (v : Tokens) → PartsOf ps v → Result E (name_by n b star t the_safe rest) (e.Name (spelled t) t.start) [] [] rest → Result E (name_by n b star t k (v ++ rest)) (e.Name (spelled t) t.start) ps v rest
    name_by_kind the_date ps v z g = all_left _ (e.Name (spelled t) t.start) ps v rest z (else_on {N = Unit {0}} (no_text (v ++ rest) (parts_over ps v z)) _ _ done tt)
    name_by_kind the_safe ps v z g = safe_by ps v z g
    name_by_kind plain_name ps v z g = all_left _ (e.Name (spelled t) t.start) ps v rest z refl

  -- a name, by what follows it
  name_opens : (t : Token) (ts : Tokens) → Is named t → opened n b star (t ∷ ts) ≡ name_opened n b star (t ∷ ts)
  unfolding opened
  name_opens t ts i = peeked {N = Unit {0}} (class_of no_basic basic_lexeme) (opened_by n b star) (n_test basic_lexeme i (λ n o. refl)) done tt

  called_opens : (t : Token) (ts : Tokens) → Is named t → comes (sign s.OpenRound) ts ≡ true → (a : Expr) (rest : Tokens) → called n b t ts ≡ taken a rest → opened n b star (t ∷ ts) ≡ taken (a, ([], None)) rest
  unfolding name_opened
  called_opens t ts i h a rest e = name_opens t ts i ∙ also {n = suc (length (t ∷ ts))} i _ (then_on h _ _ (λ _. ap (λ o. and_then o (λ a. λ ts. taken (a, ([], None)) ts)) e)) (omega arith)

  by_name : (t : Token) (ts : Tokens) → Is named t → comes (sign s.OpenRound) ts ≡ false → opened n b star (t ∷ ts) ≡ name_by n b star t (name_class t.lexeme) ts
  unfolding name_opened
  by_name t ts i h = name_opens t ts i ∙ also {n = suc (length (t ∷ ts))} i _ (else_on h _ _ done) (omega arith)

  call_opens : (t : Token) (k : Call Expr) (u : Tokens) → CallOf k (t ∷ u) → (ps : List (Part Expr)) (v : Tokens) → PartsOf ps v → (rest : Tokens) → length ((t ∷ u) ++ (v ++ rest)) < suc n
      → (reserved_lexeme r.If t.lexeme ≡ true) ⊎ (name_lexeme t.lexeme ≡ true) → Result E (opened n b star ((t ∷ u) ++ (v ++ rest))) (e.Call k t.start) ps v rest
  call_opens t k u l ps v z rest lt (inl h) = plainly an_if (basic_call l) ps v z rest (λ ts. r_test {t = t} r.If basic_lexeme (record { is = h }) refl) (λ ts. refl)
      (λ ts. also (record { is = h }) _ (λ lt. ap (λ o. and_then o (λ k. λ ts. taken (e.Call k t.start) ts)) (call_behind n b x t k u l ts (omega arith)))) lt
  call_opens t k u l ps v z rest lt (inr h) = all_left _ (e.Call k t.start) ps v rest z (called_opens t (u ++ (v ++ rest)) (record { is = h }) (call_open k t u (v ++ rest) l) (e.Call k t.start) (v ++ rest) (called_read n b x t k u l (v ++ rest) (omega arith)))

  pub opened_basic : (a : Expr) (u : Tokens) → BasicOf a u → (ps : List (Part Expr)) (v : Tokens) → PartsOf ps v → (rest : Tokens) → Over 0 rest
      → ((t : Token) → Result E (name_by n b star t the_safe rest) (e.Name (spelled t) t.start) [] [] rest) → length (u ++ (v ++ rest)) < suc n → Result E (opened n b star (u ++ (v ++ rest))) a ps v rest
  unfolding same_word same_sign safe_part
  opened_basic _ _ (basic_integer {t = t} i) qs qv qz rest qf qg lt = plainly an_integer (basic_integer i) qs qv qz rest (λ ts. (integer_class t.lexeme i.is)) (λ ts. refl) (λ ts. also i _ done) lt
  opened_basic _ _ (basic_string {t = t} i) qs qv qz rest qf qg lt = plainly a_string (basic_string i) qs qv qz rest (λ ts. (text_class t.lexeme i.is)) (λ ts. refl) (λ ts. also i _ done) lt
  opened_basic _ _ (basic_bytes {t = t} i) qs qv qz rest qf qg lt = plainly a_bytes (basic_bytes i) qs qv qz rest (λ ts. (bytes_class t.lexeme i.is)) (λ ts. refl) (λ ts. also i _ done) lt
  opened_basic _ _ (basic_true i) qs qv qz rest qf qg lt = plainly a_true (basic_true i) qs qv qz rest (λ ts. (r_test r.True basic_lexeme i refl)) (λ ts. refl) (λ ts. also i _ done) lt
  opened_basic _ _ (basic_false i) qs qv qz rest qf qg lt = plainly a_false (basic_false i) qs qv qz rest (λ ts. (r_test r.False basic_lexeme i refl)) (λ ts. refl) (λ ts. also i _ done) lt
  opened_basic _ _ (basic_null i) qs qv qz rest qf qg lt = plainly a_null (basic_null i) qs qv qz rest (λ ts. (r_test r.Null basic_lexeme i refl)) (λ ts. refl) (λ ts. also i _ done) lt
  opened_basic _ _ (basic_parameter {t = t} i) qs qv qz rest qf qg lt = plainly a_parameter (basic_parameter i) qs qv qz rest (λ ts. (parameter_class t.lexeme i.is)) (λ ts. refl) (λ ts. also i _ done) lt
  opened_basic _ _ (basic_group {o = o} {c = c} {a = a} {v = v} i l h ic) qs qv qz rest qf qg lt = plainly a_bracket (basic_group i l h ic) qs qv qz rest (λ ts. (s_test s.OpenRound basic_lexeme i refl)) (λ ts. refl) (λ ts. group_read n b x o c a v i l h ic ts) lt
  opened_basic _ _ (basic_query {o = o} {c = c} {q = q} {v = v} i l ic) qs qv qz rest qf qg lt = plainly a_bracket (basic_query i l ic) qs qv qz rest (λ ts. (s_test s.OpenRound basic_lexeme i refl)) (λ ts. refl) (λ ts. scalar_read n b x o c q v i l ic ts) lt
  opened_basic _ _ (basic_tuple {o = o} {c = c} {a = a} {b = d} {bs = bs} {v = v} i l ic) qs qv qz rest qf qg lt = plainly a_bracket (basic_tuple i l ic) qs qv qz rest (λ ts. (s_test s.OpenRound basic_lexeme i refl)) (λ ts. refl) (λ ts. tuple_read n b x o c a d bs v i l ic ts) lt
  opened_basic _ _ (basic_case {t = t} {d = d} {a = a} {o = o} {b = c} {bs = bs} {u = u} {v = v} {x = y} {y = z} i l m k g j) qs qv qz rest qf qg lt = plainly a_case (basic_case i l m k g j) qs qv qz rest (λ ts. (r_test r.Case basic_lexeme i refl)) (λ ts. refl) (λ ts. case_read n b x t d a o c bs u v y z i l m k g j ts) lt
  opened_basic _ _ (basic_cast {t = t} {o = o} {x = y} {c = c} {a = a} {y = z} {u = u} {v = v} i io l iy lz ic) qs qv qz rest qf qg lt = plainly a_cast (basic_cast i io l iy lz ic) qs qv qz rest (λ ts. (r_test r.Cast basic_lexeme i refl)) (λ ts. refl) (λ ts. cast_read n b x t o y c a z u v i io l iy lz ic ts) lt
  opened_basic _ _ (basic_extract {t = t} {o = o} {n = k} {x = y} {c = c} {a = a} {u = u} i io ik iy l ic) qs qv qz rest qf qg lt = plainly an_extract (basic_extract i io ik iy l ic) qs qv qz rest (λ ts. (r_test r.Extract basic_lexeme i refl)) (λ ts. refl) (λ ts. extract_read n b x t o k y c a u i io ik iy l ic ts) lt
  opened_basic _ _ (basic_grouping {t = t} {o = o} {c = c} {a = a} {u = u} i io l ic) qs qv qz rest qf qg lt = plainly a_grouping (basic_grouping i io l ic) qs qv qz rest (λ ts. (r_test r.Grouping basic_lexeme i refl)) (λ ts. refl) (λ ts. grouping_read n b x t o c a u i io l ic ts) lt
  opened_basic _ _ (basic_exists {t = t} {o = o} {c = c} {q = q} {u = u} i io l ic) qs qv qz rest qf qg lt = plainly an_exists (basic_exists i io l ic) qs qv qz rest (λ ts. (r_test r.Exists basic_lexeme i refl)) (λ ts. refl) (λ ts. exists_read n b x t o c q u i io l ic ts) lt
  opened_basic _ _ (basic_array_query {t = t} {o = o} {c = c} {q = q} {u = u} i io l ic) qs qv qz rest qf qg lt = plainly an_array (basic_array_query i io l ic) qs qv qz rest (λ ts. (r_test r.Array basic_lexeme i refl)) (λ ts. refl) (λ ts. array_query_read n b x t o c q u i io l ic ts) lt
  opened_basic _ _ (basic_array {b = d} {ms = ms} {u = u} l) qs qv qz rest qf qg lt = plainly a_square (basic_array l) qs qv qz rest (λ ts. (square_class ms d u ts l)) (λ ts. refl) (λ ts. array_from_read n b x None None ms d u l ts) lt
  opened_basic _ _ (basic_array_word {t = t} {b = d} {ms = ms} {u = u} i l) qs qv qz rest qf qg lt = plainly an_array (basic_array_word i l) qs qv qz rest (λ ts. (r_test r.Array basic_lexeme i refl)) (λ ts. refl) (λ ts. array_word_read n b x t d ms u i l ts) lt
  opened_basic _ _ (basic_array_typed {t = t} {o = o} {c = c} {b = d} {y = y} {ms = ms} {u = u} {v = v} i io ly ic l) qs qv qz rest qf qg lt = plainly an_array (basic_array_typed i io ly ic l) qs qv qz rest (λ ts. (r_test r.Array basic_lexeme i refl)) (λ ts. refl) (λ ts. array_typed_read n b x t o c d y ms u v i io ly ic l ts) lt
  opened_basic _ _ (basic_struct {t = t} {o = o} {c = c} {a = a} {ms = ms} {u = u} {v = v} i io l z ic) qs qv qz rest qf qg lt = plainly a_struct (basic_struct i io l z ic) qs qv qz rest (λ ts. (r_test r.Struct basic_lexeme i refl)) (λ ts. refl) (λ ts. struct_read n b x t o c a ms u v i io l z ic ts) lt
  opened_basic _ _ (basic_typed_struct {t = t} {l = k} {g = g} {o = o} {c = c} {fs = fs} {ms = ms} {u = u} {v = v} i ik lf ig io l ic) qs qv qz rest qf qg lt = plainly a_struct (basic_typed_struct i ik lf ig io l ic) qs qv qz rest (λ ts. (r_test r.Struct basic_lexeme i refl)) (λ ts. refl) (λ ts. typed_struct_read n b x t k g o c fs ms u v i ik lf ig io l ic ts) lt
  opened_basic _ _ (basic_with {t = t} {o = o} {k = k} {c = c} {b = d} {bs = bs} {a = a} {u = u} {v = v} {x = y} i io l z ik g ic) qs qv qz rest qf qg lt = plainly a_with (basic_with i io l z ik g ic) qs qv qz rest (λ ts. (r_test r.With basic_lexeme i refl)) (λ ts. refl) (λ ts. with_read_by n b x t o k c d bs a u v y i io l z ik g ic ts) lt
  opened_basic _ _ (basic_call {t = t} {k = k} {u = u} l) ps v z rest f g lt = call_opens t k u l ps v z rest lt (function_kind t.lexeme (call_function t k u l).is)
  opened_basic _ _ (basic_safe_cast {t = t} {o = o} {x = y} {c = c} {a = a} {y = k} {u = u} {v = d} i io l iy lz ic) ps v z rest f g lt = all_left _ (e.Cast true a k t.start) ps v rest z
      (called_opens t ((o ∷ (u ++ (y ∷ (d ++ (c ∷ []))))) ++ (v ++ rest)) (named_word w.SafeCast t i) io.is (e.Cast true a k t.start) (v ++ rest) (safe_cast_read n b x t o y c a k u d i io l iy lz ic (v ++ rest) (omega arith)))
  opened_basic _ _ (basic_name {t = t} i) ps v z rest f g lt =
      as_result _ (name_by n b star t (name_class t.lexeme) (v ++ rest)) (e.Name (spelled t) t.start) ps v rest (by_name t (v ++ rest) i (over_not_s (parts_over t rest f ps v z) s.OpenRound (omega arith))) (name_by_kind t rest f (name_class t.lexeme) ps v z (g t))
  opened_basic _ _ (basic_date {t = t} {x = y} i j) ps v z rest f g lt = all_left _ (e.Date (content y) t.start) ps v rest z
      (by_name t (y ∷ (v ++ rest)) (named_word w.Date t i) (text_not_open y.lexeme j.is) ∙ ap (λ k. name_by n b star t k (y ∷ (v ++ rest))) (w_test w.Date name_class i (λ n. refl)) ∙ then_on {N = length (y ∷ (v ++ rest)) < suc n} j.is _ _ (also j _ done) (omega arith))
  opened_basic _ _ (basic_safe_call {t = t} {d = d} {n = m} {k = k} {u = u} i id im l) ps v z rest f g lt = all_left _ (e.SafeCall k t.start) ps v rest z
      (by_name t (d ∷ m ∷ (u ++ (v ++ rest))) (named_word w.Safe t i) (s_test s.Dot (sign_lexeme s.OpenRound) id refl) ∙ ap (λ k. name_by n b star t k (d ∷ m ∷ (u ++ (v ++ rest)))) (w_test w.Safe name_class i (λ n. refl))
      ∙ then_on {N = length (d ∷ m ∷ (u ++ (v ++ rest))) < suc n} id.is _ _ (also id _ (else_on (not_starred star im) _ _ (also im _ (then_on (call_open k m u (v ++ rest) l) _ _ (λ lt. ap (λ o. and_then o (λ k. λ ts. taken (e.SafeCall k t.start, ([], None)) ts)) (call_behind n b x m k u l (v ++ rest) (omega arith))))))) (omega arith))
