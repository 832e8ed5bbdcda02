-- Joins and FROM are read.
use Rattle.std.proofs.Common.{◌≡◌, ℕ, suc, ◌<◌, ◌≤◌, ◌||◌, Bool, true, false, List, [], ◌∷◌, ◌++◌, length, Option, Some, None, refl, sym, ◌∙◌, ap, subst, arith}
use Rattle.std.proofs.lemmas.List.{append_assoc}
use Rattle.fronts.specs.Readers.{taken, ◌>>=◌, and_then, pure, refuse, comes, many}
use Rattle.fronts.proofs.Agrees.{Many, many_none, many_more, Found}
use Rattle.sql_ast.specs.declared.clauses.On.{On}
use Rattle.sql_ast.specs.declared.expr.Expr.{Expr}
use Rattle.sql_ast.specs.declared.query.FromItem.{FromItem, roll-FromItem}
use Rattle.sql_ast.specs.declared.query.JoinWord.{JoinWord}
use Rattle.sql_ast.specs.declared.query.JoinWord.TheVariants as word_kind
use Rattle.sql_ast.specs.declared.query.Joined.{Joined}
use Rattle.sql_ast.specs.declared.query.Primary.{Primary}
use Rattle.sql_names.specs.declared.words.Reserved.TheVariants as r
use Rattle.sql_ast.specs.declared.words.Sign.TheVariants as s
use Rattle.sql_ast.specs.declared.token.Token.{Token}
use Rattle.sql_ast.specs.declared.token.Lexeme.{Lexeme}
use Rattle.sql_ast.specs.declared.token.Lexeme.TheVariants as l
use Rattle.sql_ast.specs.Marks.{Tokens, Is, reserved, sign, same_reserved, same_sign, reserved_lexeme, sign_lexeme, start_of}
use Rattle.sql_ast.specs.Parts.{OptionalOf, optional_none, optional_is}
use Rattle.sql_ast.specs.Grammar.{PrimaryOf, primary_table, primary_query, primary_path, primary_unnest, OnOf, on_expr as is_on_expr, on_using as is_on_using, OnPartOf, on_is, on_missing, JoinOf, join_cross, join_inner, join_plain, join_left, join_right, join_full, JoinsOf, joins_none, joins_comma, joins_join, from_are, FromPartOf, from_none, from_is}
use Rattle.sql_grammar.specs.Ways.{Parser}
use Rattle.sql_grammar.specs.Classes.{class_of, JoinStart, by_cross, by_inner, by_join, by_left, no_join, join_class, is_join, joins, goes_after_comma, comma_or_join}
use Rattle.sql_grammar.specs.Exprs.{Below}
use Rattle.sql_grammar.specs.Queries.{joined_of, on_next, primary_item, on_expr, on_using, condition, on_part, joined_freely, join_freely, join_on, outer_freely, outer_on, cross_behind, join_by, later_by, join_item, comma_behind, comma_join, later_join, from_item, from_part}
use Rattle.sql_grammar.proofs.Froms.{LaterOf, later_comma, later_is}
use Rattle.sql_grammar.proofs.Follows.{Over, level}
use Rattle.sql_grammar.proofs.CompleteSteps.{Read, Not, less, tok, also, part, last, only, then_on, else_on, peeked, done, weak, over_not_r, r_test, s_test, many_read, Ahead, nothing_ahead, r_ahead, to}
use Rattle.sql_grammar.proofs.CompleteRepeats.{begun}
use Rattle.sql_grammar.proofs.CompleteWords.{names_read, optional_read, Stood, stood_not, stood_is}
use Rattle.sql_grammar.proofs.CompleteParts.{Reading}
use Rattle.sql_grammar.proofs.CompletePrimaries.{primary_read}

solid_primary : (a : Primary) (u : Tokens) → PrimaryOf a u → 1 ≤ length u
solid_primary _ _ (primary_table i a y) = omega arith
solid_primary _ _ (primary_query i l j a y) = omega arith
solid_primary _ _ (primary_path i j g d a y) = omega arith
solid_primary _ _ (primary_unnest i j l g a y) = omega arith

on_part_ahead : (a : Primary) (o : Option (On Expr)) (u : Tokens) → OnPartOf a o u → Ahead 13 u
on_part_ahead a _ _ (on_is (is_on_expr i l)) = r_ahead r.On i
on_part_ahead a _ _ (on_is (is_on_using i l)) = r_ahead r.Using i
on_part_ahead a _ _ (on_missing h) = nothing_ahead

on_next_by : (x : Lexeme) → 13 < level x → (reserved_lexeme r.On x || reserved_lexeme r.Using x) ≡ false
unfolding same_reserved
on_next_by (l.Reserved r.On) h = absurd (omega arith)
on_next_by (l.Reserved r.Using) h = absurd (omega arith)
on_next_by (l.Reserved _) h = refl
on_next_by _ h = refl

no_on : (ts : Tokens) → Over 13 ts → comes on_next ts ≡ false
no_on [] h = refl
no_on (t ∷ ts) h = on_next_by t.lexeme h.over

on_comes : (o : On Expr) (u rest : Tokens) → OnOf o u → comes on_next (u ++ rest) ≡ true
unfolding same_reserved
on_comes _ _ rest (is_on_expr {t = t} i l) = ap (λ c. c || reserved r.Using t) i.is
on_comes _ _ rest (is_on_using {t = t} i l) = ap (λ c. c || reserved r.Using t) (r_test r.Using (reserved_lexeme r.On) i refl) ∙ i.is

-- whether OUTER stands
stood_by : (x : Tokens) → OptionalOf r.Outer x → Bool
stood_by _ optional_none = false
stood_by _ (optional_is i) = true

stood_of : (x : Tokens) (l : OptionalOf r.Outer x) → Stood r.Outer (stood_by x l) x
unfolding stood_by
stood_of _ optional_none = stood_not
stood_of _ (optional_is i) = stood_is i

-- ---- joins before a comma, and what comes from the first comma on

record JoinsSplit (ms : List Joined) (v : Tokens) : Type 0 where
  before : List Joined
  text : Tokens
  joins_before : Many (JoinOf false) before text
  later : List Joined
  more : Tokens
  joins_later : Many LaterOf later more
  all : ms ≡ before ++ later
  whole : v ≡ text ++ more
  -- they begin with a comma, if there are any
  ends : (rest : Tokens) → Over 15 rest → comes joins (more ++ rest) ≡ false

many_later : (ms : List Joined) (v : Tokens) → JoinsOf true ms v → Many LaterOf ms v
many_later _ _ joins_none = many_none
many_later _ _ (joins_comma {ms = ms} {v = v} i l z) = many_more (later_comma i l) (many_later ms v z)
many_later _ _ (joins_join {ms = ms} {v = v} l z) = many_more (later_is l) (many_later ms v z)

no_join_by : (x : Lexeme) → 15 < level x → is_join (join_class x) ≡ false
no_join_by (l.Reserved r.Cross) h = absurd (omega arith)
no_join_by (l.Reserved r.Inner) h = absurd (omega arith)
no_join_by (l.Reserved r.Join) h = absurd (omega arith)
no_join_by (l.Reserved r.Left) h = absurd (omega arith)
no_join_by (l.Reserved r.Right) h = absurd (omega arith)
no_join_by (l.Reserved r.Full) h = absurd (omega arith)
no_join_by (l.Reserved _) h = refl
no_join_by _ h = refl

no_later_by : (x : Lexeme) → 15 < level x → (sign_lexeme s.Comma x || goes_after_comma (join_class x)) ≡ false
unfolding same_sign
no_later_by (l.Sign s.Comma) h = absurd (omega arith)
no_later_by (l.Sign _) h = refl
no_later_by (l.Reserved r.Cross) h = absurd (omega arith)
no_later_by (l.Reserved r.Inner) h = absurd (omega arith)
no_later_by (l.Reserved r.Join) h = absurd (omega arith)
no_later_by (l.Reserved r.Left) h = absurd (omega arith)
no_later_by (l.Reserved r.Right) h = absurd (omega arith)
no_later_by (l.Reserved r.Full) h = absurd (omega arith)
no_later_by (l.Reserved _) h = refl
no_later_by _ h = refl

no_joins : (ts : Tokens) → Over 15 ts → comes joins ts ≡ false
no_joins [] h = refl
no_joins (t ∷ ts) h = no_join_by t.lexeme h.over

no_later : (ts : Tokens) → Over 15 ts → comes comma_or_join ts ≡ false
no_later [] h = refl
no_later (t ∷ ts) h = no_later_by t.lexeme h.over

later_level : (x : Lexeme) → (sign_lexeme s.Comma x || goes_after_comma (join_class x)) ≡ true → level x ≡ 15
unfolding same_sign
later_level (l.Sign s.Comma) h = refl
later_level (l.Sign _) h = absurd cc
later_level (l.Reserved r.Cross) h = refl
later_level (l.Reserved r.Inner) h = refl
later_level (l.Reserved r.Join) h = refl
later_level (l.Reserved r.Left) h = refl
later_level (l.Reserved r.Right) h = absurd cc
later_level (l.Reserved r.Full) h = absurd cc
later_level (l.Reserved _) h = absurd cc
later_level _ h = absurd cc

joins_level : (x : Lexeme) → is_join (join_class x) ≡ true → level x ≡ 15
joins_level (l.Reserved r.Cross) h = refl
joins_level (l.Reserved r.Inner) h = refl
joins_level (l.Reserved r.Join) h = refl
joins_level (l.Reserved r.Left) h = refl
joins_level (l.Reserved r.Right) h = refl
joins_level (l.Reserved r.Full) h = refl
joins_level (l.Reserved _) h = absurd cc
joins_level _ h = absurd cc

split_joins : (ms : List Joined) (v : Tokens) → JoinsOf false ms v → JoinsSplit ms v
split_joins _ _ joins_none = record { before = []; text = []; joins_before = many_none; later = []; more = []; joins_later = many_none; all = refl; whole = refl; ends = λ rest h. no_joins rest h }
split_joins _ _ (joins_comma {t = t} {ms = ms} {u = u} {v = v} i l z) = record {
  before = [];
  text = [];
  joins_before = many_none;
  later = _;
  more = t ∷ (u ++ v);
  joins_later = many_more (later_comma i l) (many_later ms v z);
  all = refl;
  whole = refl;
  ends = λ rest h. s_test s.Comma (λ x. is_join (join_class x)) i refl;
}
split_joins _ _ (joins_join {a = a} {ms = ms} {u = u} {v = v} l z) =
    let g = split_joins ms v z in
    record {
      before = a ∷ g.before;
      text = u ++ g.text;
      joins_before = many_more l g.joins_before;
      later = g.later;
      more = g.more;
      joins_later = g.joins_later;
      all = ap (λ (q : List Joined). a ∷ q) g.all;
      whole = ap (λ (q : Tokens). u ++ q) g.whole ∙ sym (append_assoc u g.text g.more);
      ends = g.ends;
    }

join_begins : (a : Joined) (u rest : Tokens) → JoinOf false a u → comes joins (u ++ rest) ≡ true
join_begins _ _ rest (join_cross i j l) = r_test r.Cross (λ x. is_join (join_class x)) i refl
join_begins _ _ rest (join_inner i j l o) = r_test r.Inner (λ x. is_join (join_class x)) i refl
join_begins _ _ rest (join_plain j l o) = r_test r.Join (λ x. is_join (join_class x)) j refl
join_begins _ _ rest (join_left i k j l o) = r_test r.Left (λ x. is_join (join_class x)) i refl
join_begins _ _ rest (join_right i k j l o) = r_test r.Right (λ x. is_join (join_class x)) i refl
join_begins _ _ rest (join_full i k j l o) = r_test r.Full (λ x. is_join (join_class x)) i refl

later_begins : (a : Joined) (u rest : Tokens) → LaterOf a u → comes comma_or_join (u ++ rest) ≡ true
unfolding same_sign
later_begins _ _ rest (later_comma i l) = s_test s.Comma (λ x. sign_lexeme s.Comma x || goes_after_comma (join_class x)) i refl
later_begins _ _ rest (later_is (join_cross i j l)) = r_test r.Cross (λ x. sign_lexeme s.Comma x || goes_after_comma (join_class x)) i refl
later_begins _ _ rest (later_is (join_inner i j l o)) = r_test r.Inner (λ x. sign_lexeme s.Comma x || goes_after_comma (join_class x)) i refl
later_begins _ _ rest (later_is (join_plain j l o)) = r_test r.Join (λ x. sign_lexeme s.Comma x || goes_after_comma (join_class x)) j refl
later_begins _ _ rest (later_is (join_left i k j l o)) = r_test r.Left (λ x. sign_lexeme s.Comma x || goes_after_comma (join_class x)) i refl

module _ (n : ℕ) (b : Below) (x : Reading n b) where
  condition_read : Read (suc n) (Over 10) OnOf (condition n b)
  unfolding condition on_expr on_using same_reserved
  condition_read = record { reads = by }
    where
      by : {a : On Expr} {u : Tokens} → OnOf a u → (rest : Tokens) → Over 10 rest → length (u ++ rest) < suc n → condition n b (u ++ rest) ≡ taken a rest
      by (is_on_expr i l) rest f = else_on (r_test r.On (reserved_lexeme r.Using) i refl) _ _ (tok i _ (last x.inner l _ f done))
      by (is_on_using i l) rest f = then_on i.is _ _ (tok i _ (last (less (names_read n)) l _ tt done))

  abbrev missing : Bool → Parser (Option (On Expr))
  missing c = elim c [ true ↦ pure None | false ↦ refuse ]

  on_part_read : (a : Primary) → Read (suc n) (Over 13) (OnPartOf a) (on_part n b a)
  unfolding on_part
  on_part_read a = record { reads = by }
    where
      by : {o : Option (On Expr)} {u : Tokens} → OnPartOf a o u → (rest : Tokens) → Over 13 rest → length (u ++ rest) < suc n → on_part n b a (u ++ rest) ≡ taken o rest
      by (on_is {o = o} {u = u} l) rest f = then_on (on_comes o u rest l) _ _ (last condition_read l _ (weak (omega arith) f) done)
      by (on_missing h) rest f = else_on (no_on rest f) _ _ (λ _. ap (λ c. missing c rest) h)

  -- primary [on]
  data FreelyOf (k : JoinWord) (p : ℕ) : Joined → Tokens → Type 0 where
    freely_is : {a : Primary} {o : Option (On Expr)} {u v : Tokens} → PrimaryOf a u → OnPartOf a o v → FreelyOf k p (joined_of k p a o) (u ++ v)

  joined_freely_read : (k : JoinWord) (p : ℕ) → Read (suc n) (Over 13) (FreelyOf k p) (joined_freely n b k p)
  unfolding joined_freely
  joined_freely_read k p = record { reads = by }
    where
      by : {a : Joined} {u : Tokens} → FreelyOf k p a u → (rest : Tokens) → Over 13 rest → length (u ++ rest) < suc n → joined_freely n b k p (u ++ rest) ≡ taken a rest
      by (freely_is {a = a} {o = o} {v = v} l m) rest f = part (primary_read n b x) l v rest _ (to (on_part_ahead a o v m) (omega arith) (weak (omega arith) f)) (last (on_part_read a) m _ f done)

  -- JOIN primary [on]
  freely_by : (k : JoinWord) (p : ℕ) (j : Token) (a : Primary) (o : Option (On Expr)) (u v : Tokens) → Is (reserved r.Join) j → PrimaryOf a u → OnPartOf a o v → (rest : Tokens) → Over 13 rest → length ((j ∷ (u ++ v)) ++ rest) < suc n
      → join_freely n b k p ((j ∷ (u ++ v)) ++ rest) ≡ taken (joined_of k p a o) rest
  unfolding join_freely
  freely_by k p j a o u v ij l m rest f = tok ij _ (only (less (joined_freely_read k p)) (freely_is l m) f)

  -- JOIN primary on
  on_by : (k : JoinWord) (p : ℕ) (j : Token) (a : Primary) (o : On Expr) (u v : Tokens) → Is (reserved r.Join) j → PrimaryOf a u → OnOf o v → (rest : Tokens) → Over 13 rest → length ((j ∷ (u ++ v)) ++ rest) < suc n
      → join_on n b k p ((j ∷ (u ++ v)) ++ rest) ≡ taken (joined_of k p a (Some o)) rest
  unfolding join_on
  on_by k p j a o u v ij l m rest f = tok ij _ (part (less (primary_read n b x)) l v rest _ (to (on_part_ahead a (Some o) v (on_is m)) (omega arith) (weak (omega arith) f)) (last (less condition_read) m _ (weak (omega arith) f) done))

  -- [OUTER] before JOIN
  outer_not : (j : Token) (w rest : Tokens) → Is (reserved r.Join) j → Not (reserved r.Outer) ((j ∷ w) ++ rest)
  unfolding same_reserved
  outer_not j w rest i = record { is = r_test r.Join (reserved_lexeme r.Outer) i refl }

  join_read_by : {c : Bool} (a : Joined) (u : Tokens) → JoinOf c a u → (rest : Tokens) → Over 13 rest → length (u ++ rest) < suc n → join_item n b (u ++ rest) ≡ taken a rest
  unfolding join_item cross_behind outer_freely outer_on
  join_read_by _ _ (join_cross i j l) rest f = peeked (class_of no_join join_class) (join_by n b) (r_test r.Cross join_class i refl) (tok i _ (also j _ (last (less (primary_read n b x)) l _ (weak (omega arith) f) done)))
  join_read_by _ _ (join_inner {t = t} {j = k} {a = a} {o = o} {u = u} {v = v} i j l m) rest f = peeked (class_of no_join join_class) (join_by n b) (r_test r.Inner join_class i refl)
      (tok i _ (λ lt. freely_by word_kind.Inner t.start k a o u v j l m rest f (omega arith)))
  join_read_by _ _ (join_plain {j = k} j l m) rest f = peeked (class_of no_join join_class) (join_by n b) (r_test r.Join join_class j refl) (tok j _ (only (less (joined_freely_read word_kind.Inner k.start)) (freely_is l m) f))
  join_read_by _ _ (join_left {t = t} {j = k} {a = a} {o = o} {u = u} {v = v} {x = y} i z j l m) rest f = peeked (class_of no_join join_class) (join_by n b) (r_test r.Left join_class i refl)
      (tok i _ (part (optional_read r.Outer n) (stood_of y z) (k ∷ (u ++ v)) rest _ (outer_not k (u ++ v) rest j) (λ lt. freely_by word_kind.Left t.start k a o u v j l m rest f (omega arith))))
  join_read_by _ _ (join_right {t = t} {j = k} {a = a} {o = o} {u = u} {v = v} {x = y} i z j l m) rest f = peeked (class_of no_join join_class) (join_by n b) (r_test r.Right join_class i refl)
      (tok i _ (part (optional_read r.Outer n) (stood_of y z) (k ∷ (u ++ v)) rest _ (outer_not k (u ++ v) rest j) (λ lt. on_by word_kind.Right t.start k a o u v j l m rest f (omega arith))))
  join_read_by _ _ (join_full {t = t} {j = k} {a = a} {o = o} {u = u} {v = v} {x = y} i z j l m) rest f = peeked (class_of no_join join_class) (join_by n b) (r_test r.Full join_class i refl)
      (tok i _ (part (optional_read r.Outer n) (stood_of y z) (k ∷ (u ++ v)) rest _ (outer_not k (u ++ v) rest j) (λ lt. on_by word_kind.Full t.start k a o u v j l m rest f (omega arith))))

  join_read : Read (suc n) (Over 13) (JoinOf false) (join_item n b)
  join_read = record { reads = λ {a = a} {u = u} l rest f lt. join_read_by a u l rest f lt }

  -- behind a comma RIGHT and FULL don't come, and the others are read as before it
  same_later : (t : Token) (ts : Tokens) (k : JoinStart) → join_class t.lexeme ≡ k → sign s.Comma t ≡ false → ((ts : Tokens) → later_by n b k ts ≡ join_by n b k ts) → later_join n b (t ∷ ts) ≡ join_item n b (t ∷ ts)
  unfolding later_join join_item
  same_later t ts k q h same = else_on {N = Unit {0}} h _ _ (λ _. peeked {N = Unit {0}} (class_of no_join join_class) (later_by n b) {ts = t ∷ ts} q (λ _. same (t ∷ ts) ∙ sym (peeked {N = Unit {0}} (class_of no_join join_class) (join_by n b) {ts = t ∷ ts} q done tt)) tt) tt

  later_same : (a : Joined) (u rest : Tokens) → JoinOf true a u → later_join n b (u ++ rest) ≡ join_item n b (u ++ rest)
  unfolding same_sign
  later_same _ _ rest (join_cross {t = t} i j l) = same_later t _ by_cross (r_test r.Cross join_class i refl) (r_test r.Cross (sign_lexeme s.Comma) i refl) (λ ts. refl)
  later_same _ _ rest (join_inner {t = t} i j l o) = same_later t _ by_inner (r_test r.Inner join_class i refl) (r_test r.Inner (sign_lexeme s.Comma) i refl) (λ ts. refl)
  later_same _ _ rest (join_plain {j = t} j l o) = same_later t _ by_join (r_test r.Join join_class j refl) (r_test r.Join (sign_lexeme s.Comma) j refl) (λ ts. refl)
  later_same _ _ rest (join_left {t = t} i k j l o) = same_later t _ by_left (r_test r.Left join_class i refl) (r_test r.Left (sign_lexeme s.Comma) i refl) (λ ts. refl)

  later_read : Read (suc n) (Over 13) LaterOf (later_join n b)
  unfolding later_join comma_join comma_behind
  later_read = record { reads = by }
    where
      by : {a : Joined} {u : Tokens} → LaterOf a u → (rest : Tokens) → Over 13 rest → length (u ++ rest) < suc n → later_join n b (u ++ rest) ≡ taken a rest
      by (later_comma i l) rest f = then_on i.is _ _ (tok i _ (last (less (primary_read n b x)) l _ (weak (omega arith) f) done))
      by (later_is {a = a} {u = u} l) rest f = λ lt. later_same a u rest l ∙ join_read_by a u l rest f lt

  -- ---- FROM

  record JoinsEnd (ts : Tokens) : Type 0 where
    over : Over 13 ts
    no_join : comes joins ts ≡ false

  over_join : (t : Token) (ts : Tokens) → joins t ≡ true → Over 13 (t ∷ ts)
  over_join t ts h = record { over = let g = joins_level t.lexeme h in omega arith }

  over_later : (t : Token) (ts : Tokens) → comma_or_join t ≡ true → Over 13 (t ∷ ts)
  over_later t ts h = record { over = let g = later_level t.lexeme h in omega arith }

  joins_read : Read (suc n) JoinsEnd (Found (Many (JoinOf false)) []) (many joins (join_item n b) n [])
  joins_read = many_read JoinsEnd (Over 13) n (JoinOf false) joins (join_item n b) (λ ts h. h.no_join) over_join (λ ts h. h.over) join_begins join_read [] (λ ls v z. z)

  laters_read : (found : List Joined) → Read (suc n) (Over 15) (Found (Many LaterOf) found) (many comma_or_join (later_join n b) n found)
  laters_read found = many_read (Over 15) (Over 13) n LaterOf comma_or_join (later_join n b) no_later over_later (λ ts h. weak (omega arith) h) later_begins later_read found (λ ls v z. z)

  laters_over : (ms : List Joined) (v rest : Tokens) → Many LaterOf ms v → Over 15 rest → Over 13 (v ++ rest)
  laters_over _ _ rest many_none h = weak (omega arith) h
  laters_over _ _ rest (many_more {a = a} {u = u} {v = v} l z) h = subst (Over 13) (sym (append_assoc u v rest)) (front (u ++ (v ++ rest)) (later_begins a u (v ++ rest) l))
    where
      front : (ts : Tokens) → comes comma_or_join ts ≡ true → Over 13 ts
      front [] e = absurd cc
      front (t ∷ ts) e = over_later t ts e

  joins_over : (ms : List Joined) (v w rest : Tokens) → Many (JoinOf false) ms v → Over 13 (w ++ rest) → Over 13 ((v ++ w) ++ rest)
  joins_over _ _ w rest many_none h = h
  joins_over _ _ w rest (many_more {a = a} {u = u} {v = v} l z) h = subst (Over 13) (sym (ap (λ (q : Tokens). q ++ rest) (append_assoc u v w) ∙ append_assoc u (v ++ w) rest)) (front (u ++ ((v ++ w) ++ rest)) (join_begins a u ((v ++ w) ++ rest) l))
    where
      front : (ts : Tokens) → comes joins ts ≡ true → Over 13 ts
      front [] e = absurd cc
      front (t ∷ ts) e = over_join t ts e

  from_by : (a : Primary) (u : Tokens) → PrimaryOf a u → (ms : List Joined) (v : Tokens) → JoinsSplit ms v → (rest : Tokens) → Over 15 rest → length ((u ++ v) ++ rest) < suc n
      → from_item n b ((u ++ v) ++ rest) ≡ taken (roll-FromItem (record { first = a; rest = ms; place = start_of u })) rest
  unfolding from_item
  from_by a u l ms v g rest f =
      subst (λ (w : Tokens). length ((u ++ w) ++ rest) < suc n → from_item n b ((u ++ w) ++ rest) ≡ taken (roll-FromItem (record { first = a; rest = ms; place = start_of u })) rest) (sym g.whole)
      (begun (λ p. primary_item n b >>= (λ a. many joins (join_item n b) n [] >>= (λ xs. many comma_or_join (later_join n b) n xs >>= (λ ys. λ ts. taken (roll-FromItem (record { first = a; rest = ys; place = p })) ts)))) u (g.text ++ g.more) rest (solid_primary a u l)
      (part (primary_read n b x) l (g.text ++ g.more) rest _ (weak (omega arith) (joins_over g.before g.text g.more rest g.joins_before (laters_over g.later g.more rest g.joins_later f)))
      (part joins_read (g.before, g.joins_before, refl) g.more rest _ (record { over = laters_over g.later g.more rest g.joins_later f; no_join = g.ends rest f })
      (last (laters_read g.before) (g.later, g.joins_later, refl) _ f (λ _. ap (λ (q : List Joined). taken (roll-FromItem (record { first = a; rest = q; place = start_of u })) rest) (sym g.all))))))

  pub from_part_read : Read (suc n) (Over 16) FromPartOf (from_part n b)
  unfolding from_part
  from_part_read = record { reads = by }
    where
      by : {a : Option FromItem} {u : Tokens} → FromPartOf a u → (rest : Tokens) → Over 16 rest → length (u ++ rest) < suc n → from_part n b (u ++ rest) ≡ taken a rest
      by from_none rest f = else_on (over_not_r f r.From (omega arith)) _ _ done
      by (from_is i (from_are {a = a} {ms = ms} {u = u} {v = v} l z)) rest f = then_on i.is _ _ (tok i _ (λ lt. ap (λ o. and_then o (λ f. λ ts. taken (Some f) ts)) (from_by a u l ms v (split_joins ms v z) rest (weak (omega arith) f) (omega arith))))

pub from_part_ahead : (a : Option FromItem) (u : Tokens) → FromPartOf a u → Ahead 16 u
from_part_ahead _ _ from_none = nothing_ahead
from_part_ahead _ _ (from_is i l) = r_ahead r.From i
