-- The readers of a select list are exact.
use Rattle.std.proofs.Common.{◌≡◌, ℕ, suc, ◌≤◌, true, List, [], ◌∷◌, ◌++◌, length, Option, Some, None, refl, sym, ◌∙◌, ap, subst, arith}
use Rattle.std.proofs.lemmas.List.{append_assoc, append-nil}
use Rattle.fronts.specs.Fronts.{Language}
use Rattle.fronts.proofs.Agrees.{Found}
use Rattle.fronts.proofs.Firm.{Opens, hungry, opens}
use Rattle.fronts.proofs.Exact.{Exact, bind, either, last, into, done, less, exact_many, exact_peek, exact_refuse, hungry_refuse, opens_bind}
use Rattle.sql_ast.specs.declared.clauses.Edit.{Edit}
use Rattle.sql_ast.specs.declared.clauses.Item.{Item}
use Rattle.sql_ast.specs.declared.clauses.Name.{Name}
use Rattle.sql_ast.specs.declared.clauses.Replacement.{Replacement}
use Rattle.sql_ast.specs.declared.expr.Expr.{Expr}
use Rattle.sql_ast.specs.declared.token.Token.{Token}
use Rattle.sql_ast.specs.declared.clauses.Item.TheVariants as item_kind
use Rattle.sql_names.specs.declared.words.Reserved.TheVariants as r
use Rattle.sql_ast.specs.declared.words.Sign.TheVariants as s
use Rattle.sql_ast.specs.declared.words.Word.TheVariants as w
use Rattle.sql_ast.specs.Marks.{Tokens, Is, reserved, sign, word, start_of}
use Rattle.sql_ast.specs.Grammar.{EditOf, ExprOf, ItemOf, ItemsOf, PostfixOf, ReplaceOf, ReplacementOf, ReplacementsOf, edit_is, except_is, except_none, item_expr, item_qualified, item_star, items_comma, items_more, items_none, replace_is, replace_none, replacement_is, replacements_more, replacements_none}
use Rattle.sql_ast.specs.Parts.{NamesOf, name_commas_none, names_are}
use Rattle.sql_grammar.specs.Ways.{Ended}
use Rattle.sql_grammar.specs.Classes.{class_of, item_class, starts_item, is_item, ItemStart, item_by_star, item_by_prefix, item_by_basic, no_item}
use Rattle.sql_grammar.specs.Exprs.{Below}
use Rattle.sql_grammar.specs.Queries.{except_end, replacement, comma_replacement, replaces, except_or_end, edited, aliased, item_after, item_by as read_item_by, item_or_except, items_after, items_from, items, ItemsEnd, at_comma, at_except}
use Rattle.sql_grammar.proofs.Ways.{exact_until, Begun, start_front, exact_starting}
use Rattle.sql_grammar.proofs.Marks.{the_reserved, the_sign, the_word, some_name, is_example, tok, also, opt, opt_also, tok_opens, AfterOf, after_of, after_solid, after_exact, after_opens}
use Rattle.sql_grammar.proofs.Words.{alias_exact}
use Rattle.sql_grammar.proofs.Solid.{solid_front, solid_postfix, solid_expr}
use Rattle.sql_grammar.proofs.Starts.{star_begins, prefix_begins, basic_begins}
use Rattle.sql_grammar.proofs.Levels.{begun_as, begun_on, no_word}
use Rattle.sql_grammar.proofs.Calls.{Under}
use Rattle.sql_grammar.proofs.Exprs.{no_star, postfix_or_star_exact, postfix_or_star_opens}
use Rattle.sql_grammar.proofs.Comparisons.{expr_from_exact}
use Rattle.sql_grammar.proofs.Froms.{names_exact, names_opens}
use Rattle.sql_grammar.proofs.Basics.{StarOf, star_none, star_is}

-- ---- a word EXCEPT that was read behind a `*`: with a bracket it goes on with the word before it, else it is a set operation's

-- a longer word, with this token behind the first
abbrev pub Longer : {A : Type 0} → Language Token A → Tokens → Token → Type 0
Longer {A} L u t = (a : A) × (v : Tokens) × L a (u ++ (t ∷ v))

pub data Excepted {A : Type 0} (L : Language Token A) : A × Option Token → Tokens → Type 0 where
  plainly : {a : A} {u : Tokens} → L a u → Excepted L (a, None) u
  excepted : {a : A} {t : Token} {u : Tokens} → L a u → Is (reserved r.Except) t → Longer L u t → Excepted L (a, Some t) (u ++ (t ∷ []))

pub excepted_solid : {A : Type 0} (L : Language Token A) → ((a : A) (u : Tokens) → L a u → 1 ≤ length u) → (a : A × Option Token) (u : Tokens) → Excepted L a u → 1 ≤ length u
excepted_solid L solid _ _ (plainly {a = a} {u = u} l) = solid a u l
excepted_solid L solid _ _ (excepted {a = a} {t = t} {u = u} l i g) = solid_front u (t ∷ []) (solid a u l)

solid_item : (a : Item Expr) (u : Tokens) → ItemOf a u → 1 ≤ length u
solid_item _ _ (item_star i l) = omega arith
solid_item _ _ (item_qualified {u = u} l i j d) = solid_front u _ (solid_postfix _ u l)
solid_item _ _ (item_expr {u = u} {v = v} l d) = solid_front u v (solid_expr _ u l)

replacements_at : (a : Replacement Expr) (u : Tokens) (ls : List (Replacement Expr)) (v : Tokens) → AfterOf (sign s.Comma) ReplacementOf a u → ReplacementsOf ls v → ReplacementsOf (a ∷ ls) (u ++ v)
replacements_at _ _ ls v (after_of i l) z = replacements_more i l z

replaces_found : (t o : Token) → Is (word w.Replace) t → Is (sign s.OpenRound) o → (a : Replacement Expr) (u : Tokens) → ReplacementOf a u → (xs : List (Replacement Expr)) (v : Tokens) → Found ReplacementsOf (a ∷ []) xs v → (c : Token) → Is (sign s.CloseRound) c
    → ReplaceOf xs (t ∷ o ∷ (u ++ (v ++ (c ∷ []))))
replaces_found t o it io a u l xs v (ls, z, f) c ic = subst (λ (q : List (Replacement Expr)). ReplaceOf q (t ∷ o ∷ (u ++ (v ++ (c ∷ []))))) (sym f) (replace_is it io l z ic)

some_names : (ns : List Name) × (u : Tokens) × NamesOf ns u
some_names = (_, _, names_are (is_example (the_sign s.OpenRound)) (is_example some_name) name_commas_none (is_example (the_sign s.CloseRound)))

some_item : (a : Item Expr) × (u : Tokens) × ItemOf a u
some_item = (_, _, item_star (is_example (the_sign s.Star)) (edit_is except_none replace_none))

no_edit : Edit Expr
no_edit = record { except = []; replace = [] }

-- ---- the items of a list

-- {"," item} without a comma behind it
pub data PlainItems : List (Item Expr) → Tokens → Type 0 where
  plain_none : PlainItems [] []
  plain_more : {t : Token} {i : Item Expr} {ms : List (Item Expr)} {u v : Tokens} → Is (sign s.Comma) t → ItemOf i u → PlainItems ms v → PlainItems (i ∷ ms) (t ∷ (u ++ v))

pub data ItemTo : Ended (Item Expr) ItemsEnd → Tokens → Type 0 where
  item_to : {t : Token} {i : Item Expr} {u : Tokens} → Is (sign s.Comma) t → ItemOf i u → ItemTo (i ∷ [], None) (t ∷ u)
  item_to_comma : {t : Token} → Is (sign s.Comma) t → ItemTo ([], Some at_comma) (t ∷ [])
  item_to_except : {t x : Token} {i : Item Expr} {u : Tokens} → Is (sign s.Comma) t → ItemOf i u → Is (reserved r.Except) x → Longer ItemOf u x → ItemTo (i ∷ [], Some (at_except x)) (t ∷ (u ++ (x ∷ [])))

pub data ItemsTo : Ended (Item Expr) ItemsEnd → Tokens → Type 0 where
  items_to : {ms : List (Item Expr)} {u : Tokens} → PlainItems ms u → ItemsTo (ms, None) u
  items_to_comma : {t : Token} {ms : List (Item Expr)} {u : Tokens} → PlainItems ms u → Is (sign s.Comma) t → ItemsTo (ms, Some at_comma) (u ++ (t ∷ []))
  items_to_except : {t x : Token} {ms : List (Item Expr)} {i : Item Expr} {u v : Tokens} → PlainItems ms u → Is (sign s.Comma) t → ItemOf i v → Is (reserved r.Except) x → Longer ItemOf v x
      → ItemsTo (ms ++ i ∷ [], Some (at_except x)) (u ++ (t ∷ (v ++ (x ∷ []))))

item_to_solid : (a : Ended (Item Expr) ItemsEnd) (u : Tokens) → ItemTo a u → 1 ≤ length u
item_to_solid _ _ (item_to i l) = omega arith
item_to_solid _ _ (item_to_comma i) = omega arith
item_to_solid _ _ (item_to_except i l j g) = omega arith

items_more_to : (xs : List (Item Expr)) (u : Tokens) (ls : List (Item Expr)) (o : Option ItemsEnd) (v : Tokens) → ItemTo (xs, None) u → ItemsTo (ls, o) v → ItemsTo (xs ++ ls, o) (u ++ v)
items_more_to _ _ _ _ _ (item_to i l) (items_to z) = items_to (plain_more i l z)
items_more_to _ _ _ _ _ (item_to {t = t} {i = y} {u = u} i l) (items_to_comma {t = k} {ms = ms} {u = v} z j) = subst (ItemsTo (y ∷ ms, Some at_comma)) (append_assoc (t ∷ u) v (k ∷ [])) (items_to_comma (plain_more i l z) j)
items_more_to _ _ _ _ _ (item_to {t = t} {i = y} {u = u} i l) (items_to_except {t = k} {x = x} {ms = ms} {i = c} {u = v} {v = w} z j m g h) =
    subst (ItemsTo (y ∷ (ms ++ c ∷ []), Some (at_except x))) (append_assoc (t ∷ u) v (k ∷ (w ++ (x ∷ [])))) (items_to_except (plain_more i l z) j m g h)

items_end_to : (xs : List (Item Expr)) (e : ItemsEnd) (u : Tokens) → ItemTo (xs, Some e) u → ItemsTo (xs, Some e) u
items_end_to _ _ _ (item_to_comma i) = items_to_comma plain_none i
items_end_to _ _ _ (item_to_except i l j g) = items_to_except plain_none i l j g

plain_items : (ms : List (Item Expr)) (u : Tokens) → PlainItems ms u → ItemsOf ms u
plain_items _ _ plain_none = items_none
plain_items _ _ (plain_more {ms = ms} {v = v} i l z) = items_more i l (plain_items ms v z)

comma_items : (ms : List (Item Expr)) (u : Tokens) (t : Token) → PlainItems ms u → Is (sign s.Comma) t → ItemsOf ms (u ++ (t ∷ []))
comma_items _ _ t plain_none i = items_comma i
comma_items _ _ t (plain_more {t = k} {i = y} {ms = ms} {u = u} {v = v} j l z) i = subst (ItemsOf (y ∷ ms)) (ap (λ (w : Tokens). k ∷ w) (sym (append_assoc u v (t ∷ [])))) (items_more j l (comma_items ms v t z i))

one_more : (ms : List (Item Expr)) (u : Tokens) → PlainItems ms u → (t : Token) → Is (sign s.Comma) t → (i : Item Expr) (v : Tokens) → ItemOf i v → ItemsOf (ms ++ i ∷ []) (u ++ (t ∷ v))
one_more _ _ plain_none t it i v l = subst (λ (w : Tokens). ItemsOf (i ∷ []) (t ∷ w)) (append-nil v) (items_more it l items_none)
one_more _ _ (plain_more {t = k} {i = y} {ms = ms} {u = u} {v = w} j m z) t it i v l = subst (ItemsOf (y ∷ (ms ++ i ∷ []))) (ap (λ (q : Tokens). k ∷ q) (sym (append_assoc u w (t ∷ v)))) (items_more j m (one_more ms w z t it i v l))

-- an item and those behind it
pub data ListedItems : List (Item Expr) → Tokens → Type 0 where
  listed_items : {i : Item Expr} {ms : List (Item Expr)} {u v : Tokens} → ItemOf i u → ItemsOf ms v → ListedItems (i ∷ ms) (u ++ v)

pub data AllItems : Ended (Item Expr) ItemsEnd → Tokens → Type 0 where
  all_plain : {ms : List (Item Expr)} {u : Tokens} → ListedItems ms u → AllItems (ms, None) u
  all_comma : {ms : List (Item Expr)} {u : Tokens} → ListedItems ms u → AllItems (ms, Some at_comma) u
  all_except : {ms : List (Item Expr)} {x : Token} {u : Tokens} → ListedItems ms u → Is (reserved r.Except) x → Longer ListedItems u x → AllItems (ms, Some (at_except x)) (u ++ (x ∷ []))

all_from : (i : Item Expr) (u : Tokens) → ItemOf i u → (ls : List (Item Expr)) (o : Option ItemsEnd) (v : Tokens) → ItemsTo (ls, o) v → AllItems (i ∷ ls, o) (u ++ v)
all_from i u l _ _ _ (items_to {ms = ms} {u = v} z) = all_plain (listed_items l (plain_items ms v z))
all_from i u l _ _ _ (items_to_comma {t = t} {ms = ms} {u = v} z j) = all_comma (listed_items l (comma_items ms v t z j))
all_from i u l _ _ _ (items_to_except {t = t} {x = x} {ms = ms} {i = c} {u = v} {v = w} z j m g h) =
    subst (AllItems (i ∷ (ms ++ c ∷ []), Some (at_except x))) (append_assoc u (v ++ (t ∷ w)) (x ∷ []) ∙ ap (λ (q : Tokens). u ++ q) (append_assoc v (t ∷ w) (x ∷ [])))
    (all_except (listed_items l (one_more ms v z t j c w m)) g
    (_, h.1, subst (ListedItems _) (sym (append_assoc u (v ++ (t ∷ w)) (x ∷ h.1)) ∙ ap (λ (q : Tokens). q) refl) (listed_items l (subst (ItemsOf _) (sym (append_assoc v (t ∷ w) (x ∷ h.1))) (one_more ms v z t j h.0 (w ++ (x ∷ h.1)) h.2)))))

all_first : (i : Item Expr) (x : Token) (u : Tokens) → Excepted ItemOf (i, Some x) u → AllItems (i ∷ [], Some (at_except x)) u
all_first _ _ _ (excepted {a = i} {t = x} {u = u} l j g) =
    subst (λ (w : Tokens). AllItems (i ∷ [], Some (at_except x)) (w ++ (x ∷ []))) (append-nil u)
    (all_except (listed_items l items_none) j (_, g.1, subst (ListedItems (g.0 ∷ [])) (append-nil (u ++ (x ∷ g.1)) ∙ ap (λ (w : Tokens). w ++ (x ∷ g.1)) (sym (append-nil u))) (listed_items g.2 items_none)))

item_plain : (i : Item Expr) (u : Tokens) → Excepted ItemOf (i, None) u → ItemOf i u
item_plain _ _ (plainly l) = l

item_to_from : (t : Token) → Is (sign s.Comma) t → (y : Item Expr × Option Token) (u : Tokens) → Excepted ItemOf y u → ItemTo (y.0 ∷ [], except_end y.1) (t ∷ u)
item_to_from t it _ _ (plainly l) = item_to it l
item_to_from t it _ _ (excepted l i g) = item_to_except it l i g

module _ (n m : ℕ) (up : n ≤ m) (b b' : Below) (x : Under n b b') where
  replacement_exact : Exact n ReplacementOf (replacement n b) (replacement m b')
  unfolding replacement
  replacement_exact = bind x.inner (λ a u l. also (the_reserved r.As) (λ t it. also some_name (λ z iz. done (replacement_is l it iz))))

  comma_replacement_exact : Exact (suc n) (AfterOf (sign s.Comma) ReplacementOf) (comma_replacement n b) (comma_replacement m b')
  unfolding comma_replacement
  comma_replacement_exact = after_exact (the_sign s.Comma) replacement_exact

  comma_replacement_opens : (t : Token) → sign s.Comma t ≡ true → Opens t (comma_replacement m b')
  unfolding comma_replacement
  comma_replacement_opens t h = after_opens (the_sign s.Comma) replacement_exact t h

  replaces_exact : Exact (suc n) ReplaceOf (replaces n b) (replaces m b')
  unfolding replaces
  replaces_exact = opt (the_word w.Replace) (λ t it. also (the_sign s.OpenRound) (λ o io. bind replacement_exact (λ a u l.
      bind (exact_many (AfterOf (sign s.Comma) ReplacementOf) ReplacementsOf (sign s.Comma) (comma_replacement n b) (comma_replacement m b') replacements_none replacements_at (after_solid (sign s.Comma) ReplacementOf) comma_replacement_opens n m n up (omega arith) (less comma_replacement_exact) (a ∷ []))
      (λ xs v f. also (the_sign s.CloseRound) (λ c ic. done (replaces_found t o it io a u l xs v f c ic)))))) (done replace_none)

  -- the edit of an item, behind tokens p
  module _ (M : Language Token (Item Expr × Option Token)) (make : Edit Expr → Item Expr) (p : Tokens)
      (whole : (d : Edit Expr) (v : Tokens) → EditOf d v → M (make d, None) (p ++ v)) (pend : (k : Token) → Is (reserved r.Except) k → M (make (record { except = []; replace = [] }), Some k) (p ++ (k ∷ []))) where
    except_or_end_exact : (k : Token) → Is (reserved r.Except) k → Exact n (λ y v. M y (p ++ (k ∷ v))) (except_or_end n b make k) (except_or_end m b' make k)
    unfolding except_or_end
    except_or_end_exact k ik = either (sign s.OpenRound) (λ t h. opens (opens_bind (names_opens m t h) (names_exact n m up) (λ ns u l. last (λ rs. (make (record { except = ns; replace = rs }), None)) replaces_exact (λ rs v lr. tt))))
        (bind (less (names_exact n m up)) (λ ns u l. last (λ rs. (make (record { except = ns; replace = rs }), None)) (less replaces_exact) (λ rs v lr. whole (record { except = ns; replace = rs }) (k ∷ (u ++ v)) (edit_is (except_is ik l) lr))))
        (done (pend k ik))

    edited_exact : Exact n (λ y v. M y (p ++ v)) (edited n b make) (edited m b' make)
    unfolding edited
    edited_exact = opt_also (the_reserved r.Except) except_or_end_exact (last (λ rs. (make (record { except = []; replace = rs }), None)) (less replaces_exact) (λ rs v lr. whole (record { except = []; replace = rs }) v (edit_is except_none lr)))

  edit_longer : (make : Edit Expr → Item Expr) (p : Tokens) → ((d : Edit Expr) (v : Tokens) → EditOf d v → ItemOf (make d) (p ++ v)) → (k : Token) → Is (reserved r.Except) k → Excepted ItemOf (make (record { except = []; replace = [] }), Some k) (p ++ (k ∷ []))
  edit_longer make p whole k ik = excepted (subst (ItemOf (make (record { except = []; replace = [] }))) (append-nil p) (whole (record { except = []; replace = [] }) [] (edit_is except_none replace_none))) ik
      (make (record { except = some_names.0; replace = [] }), some_names.1 ++ [], whole (record { except = some_names.0; replace = [] }) (k ∷ (some_names.1 ++ [])) (edit_is (except_is ik some_names.2) replace_none))

  aliased_exact : (k : ℕ) (a : Expr) (u : Tokens) → Begun ExprOf k a u → Exact n (λ y v. Begun (Excepted ItemOf) k y (u ++ v)) (aliased n b k a) (aliased m b' k a)
  unfolding aliased
  aliased_exact k a u g = last (λ z. (item_kind.Expr a z k, None)) (less (alias_exact n)) (λ z v lz. record { solid = solid_front u v g.solid; spells = begun_on ExprOf k a u v g (λ j. Excepted ItemOf (item_kind.Expr a z j, None) (u ++ v)) (λ l. plainly (item_expr l lz)) })

  qualified : (k : ℕ) (a : Expr) (t : Token) (u : Tokens) → StarOf true (a, Some t) u → (d : Edit Expr) (v : Tokens) → EditOf d v → ItemOf (item_kind.QualifiedStar a d (start_of u)) (u ++ v)
  qualified k _ _ _ (star_is {a = a} {d = y} {t = t} {u = u} h l i j) d v ld =
      subst (λ (q : ℕ). ItemOf (item_kind.QualifiedStar a d q) ((u ++ (y ∷ t ∷ [])) ++ v)) (sym (start_front u (y ∷ t ∷ []) (solid_postfix a u l)))
      (subst (ItemOf (item_kind.QualifiedStar a d (start_of u))) (sym (append_assoc u (y ∷ t ∷ []) v)) (item_qualified l i j ld))

  star_postfix : (a : Expr) (u : Tokens) → StarOf true (a, None) u → PostfixOf a u
  star_postfix _ _ (star_none l) = l

  item_after_exact : (k : ℕ) (y : Expr × Option Token) (u : Tokens) → StarOf true y u → Exact n (λ c v. Begun (Excepted ItemOf) k c (u ++ v)) (item_after n b k y.0 y.1) (item_after m b' k y.0 y.1)
  item_after_exact k (a, None) u l = bind (less (expr_from_exact n m up b b' x k a u (begun_as PostfixOf solid_postfix k a u (star_postfix a u l)))) (λ c v g. into (aliased_exact k c (u ++ v) g) (λ y w q. subst (Begun (Excepted ItemOf) k y) (append_assoc u v w) q))
  item_after_exact k (a, Some t) u l = edited_exact (Begun (Excepted ItemOf) k) (λ d. item_kind.QualifiedStar a d k) u
      (λ d v ld. record { solid = solid_front u v (no_star true (a, Some t) u l); spells = λ h. subst (λ (j : ℕ). Excepted ItemOf (item_kind.QualifiedStar a d j, None) (u ++ v)) (sym (h ∙ start_front u v (no_star true (a, Some t) u l))) (plainly (qualified k a t u l d v ld)) })
      (λ e ie. record {
        solid = solid_front u (e ∷ []) (no_star true (a, Some t) u l);
        spells = λ h. subst (λ (j : ℕ). Excepted ItemOf (item_kind.QualifiedStar a (record { except = []; replace = [] }) j, Some e) (u ++ (e ∷ []))) (sym (h ∙ start_front u (e ∷ []) (no_star true (a, Some t) u l)))
            (edit_longer (λ d. item_kind.QualifiedStar a d (start_of u)) u (qualified k a t u l) e ie);
      })

  star_exact : (k : ℕ) (t : Token) → Is (sign s.Star) t → Exact n (λ y v. Begun (Excepted ItemOf) k y (t ∷ v)) (edited n b (λ d. item_kind.Star d t.start)) (edited m b' (λ d. item_kind.Star d t.start))
  star_exact k t it = edited_exact (Begun (Excepted ItemOf) k) (λ d. item_kind.Star d t.start) (t ∷ [])
      (λ d v ld. record { solid = omega arith; spells = λ h. plainly (item_star it ld) }) (λ e ie. record { solid = omega arith; spells = λ h. edit_longer (λ d. item_kind.Star d t.start) (t ∷ []) (λ d v ld. item_star it ld) e ie })

  item_kinds : (k : ℕ) (y : ItemStart) → Exact n (Begun (Excepted ItemOf) k) (read_item_by n b k y) (read_item_by m b' k y)
  item_kinds k item_by_star = also (the_sign s.Star) (star_exact k)
  item_kinds k item_by_prefix = bind x.inner (λ a u l. aliased_exact k a u (begun_as ExprOf solid_expr k a u l))
  item_kinds k item_by_basic = bind (less (postfix_or_star_exact n m up b b' x true)) (λ y u l. item_after_exact k y u l)
  item_kinds k no_item = exact_refuse n _ (some_item.0, None) some_item.1 (begun_as (Excepted ItemOf) (excepted_solid ItemOf solid_item) k (some_item.0, None) some_item.1 (plainly some_item.2))

  pub item_exact : Exact n (Excepted ItemOf) (item_or_except n b) (item_or_except m b')
  unfolding item_or_except
  item_exact = exact_starting (Excepted ItemOf) ((some_item.0, None), some_item.1, plainly some_item.2) (no_word (Excepted ItemOf) (excepted_solid ItemOf solid_item)) _ _ n
      (λ k. exact_peek n _ (class_of no_item item_class) (read_item_by n b k) (read_item_by m b' k) (λ t y h. hungry hungry_refuse) (item_kinds k))

  -- the tokens that begin an item are taken
  item_by_opens : (k : ℕ) (t : Token) (y : ItemStart) → item_class t.lexeme ≡ y → is_item y ≡ true → Opens t (read_item_by m b' k y)
  item_by_opens k t item_by_star h g = tok_opens (star_begins t.lexeme h) (λ z iz. into (star_exact k z iz) (λ a v q. tt))
  item_by_opens k t item_by_prefix h g = opens_bind (x.prefixed t (prefix_begins t.lexeme h)) x.inner (λ a u l. into (aliased_exact k a u (begun_as ExprOf solid_expr k a u l)) (λ c v q. tt))
  item_by_opens k t item_by_basic h g = opens_bind (postfix_or_star_opens n m up b b' x true t (basic_begins t.lexeme h)) (postfix_or_star_exact n m up b b' x true) (λ y u l. into (item_after_exact k y u l) (λ c v q. tt))
  item_by_opens k t no_item h g = absurd cc

  item_opens : (t : Token) → starts_item t ≡ true → Opens t (item_or_except m b')
  unfolding item_or_except
  item_opens t h = let g = item_by_opens t.start t (item_class t.lexeme) refl h in record { goes = λ rest e. g.goes rest e; moves = λ rest a e. g.moves rest a e }

  items_after_exact : Exact (suc n) ItemTo (items_after n b) (items_after m b')
  unfolding items_after
  items_after_exact = tok (the_sign s.Comma) (λ t it. either starts_item (λ z h. opens (opens_bind (item_opens z h) item_exact (λ y u l. done {n = 0} tt)))
      (last (λ (y : Item Expr × Option Token). (y.0 ∷ [], except_end y.1)) item_exact (λ y u l. item_to_from t it y u l)) (done (item_to_comma it)))

  items_after_opens : (t : Token) → sign s.Comma t ≡ true → Opens t (items_after m b')
  unfolding items_after
  items_after_opens t h = tok_opens h (λ z iz. either starts_item (λ z h. opens (opens_bind (item_opens z h) item_exact (λ y u l. done {n = 0} tt)))
      (last (λ (y : Item Expr × Option Token). (y.0 ∷ [], except_end y.1)) item_exact (λ y u l. tt)) (done tt))

  items_from_exact : (y : Item Expr × Option Token) (u : Tokens) → Excepted ItemOf y u → Exact n (λ c v. AllItems c (u ++ v)) (items_from n b y.0 y.1) (items_from m b' y.0 y.1)
  items_from_exact (i, None) u l = into (exact_until ItemTo ItemsTo (sign s.Comma) (items_after n b) (items_after m b') (items_to plain_none) items_more_to items_end_to item_to_solid items_after_opens n m n up (omega arith) (less items_after_exact) (i ∷ []))
      (λ c v f. subst (λ (q : List (Item Expr)). AllItems (q, c.1) (u ++ v)) (sym f.2) (all_from i u (item_plain i u l) f.0 c.1 v f.1))
  items_from_exact (i, Some t) u l = done (subst (AllItems (i ∷ [], Some (at_except t))) (sym (append-nil u)) (all_first i t u l))

  pub items_exact : Exact n AllItems (items n b) (items m b')
  unfolding items
  items_exact = bind item_exact (λ y u l. items_from_exact y u l)
