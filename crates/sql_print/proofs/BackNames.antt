-- Names and the words of clauses are spelled by the tokens of their prints.
use Rattle.std.proofs.Common.{◌≡◌, ℕ, Bool, true, false, List, [], ◌∷◌, ◌++◌, map, Option, Some, None, option_map, refl, ap}
use Rattle.sql_names.specs.declared.words.Reserved.TheVariants as r
use Rattle.sql_ast.specs.declared.words.Sign.TheVariants as s
use Rattle.sql_ast.specs.declared.words.Word.{Word}
use Rattle.sql_ast.specs.declared.words.Word.TheVariants as w
use Rattle.sql_ast.specs.declared.token.Token.{Token}
use Rattle.sql_ast.specs.declared.token.Lexeme.TheVariants as l
use Rattle.sql_ast.specs.declared.clauses.Name.{Name}
use Rattle.sql_ast.specs.declared.clauses.NullsPart.{NullsPart}
use Rattle.sql_ast.specs.declared.clauses.NullsPart.TheVariants as nulls_part
use Rattle.sql_ast.specs.declared.clauses.NullsPlace.{NullsPlace}
use Rattle.sql_ast.specs.declared.clauses.NullsPlace.TheVariants as nulls_place
use Rattle.sql_ast.specs.declared.clauses.UnpivotColumn.{UnpivotColumn}
use Rattle.sql_ast.specs.declared.clauses.WithOffset.{WithOffset}
use Rattle.sql_ast.specs.Marks.{Tokens, spelled_lexeme, text_lexeme, integer_lexeme, number_lexeme, content_lexeme}
use Rattle.sql_ast.specs.Trees.{name_at}
use Rattle.sql_ast.specs.Parts.{AliasOf, alias_none, alias_as, FromAliasOf, from_alias_none, from_alias_as, NamesOf, names_are, NameCommasOf, name_commas_none, name_commas_more, NameDotsOf, name_dots_none, name_dots_more, PlaceOf, place_none, place_is, UnpivotColumnOf, column_plain, column_as, UnpivotCommasOf, unpivot_none, unpivot_more, IncludeOf, include_none, include_nulls, DistinctOf, distinct_none, distinct_is, SelectDistinctOf, select_none, select_distinct, AsStructOf, as_struct_none, as_struct_is, DirectionOf, direction_none, direction_desc, NullsPlaceOf, nulls_none, nulls_first, nulls_last, NullsPartOf, nulls_part_none, nulls_ignore, nulls_respect, CallLimitOf, call_limit_none, call_limit_is}
use Rattle.sql_ast.specs.Pieces.{word, name, read_word, spaced, sign, after_commas, bracketed, if_there, if_so, word_if_plain, spelled_word}
use Rattle.sql_ast.specs.Canon.{name_pieces, names_list, alias_pieces, dots, offset_pieces, unpivot_column_pieces, nulls_place_pieces, nulls_part_pieces, call_limit}
use Rattle.sql_same.specs.Bare.{as_is, bare_name, bare_names, bare_alias, bare_offset, bare_column}
use Rattle.sql_print.proofs.Carried.{Carries, carries_none, carries_more, Found, Back, split, one, nothing, is_reserved, is_sign, is_word, is_named}

-- ---- names

-- the name that a token is which carries its print
pub name_same : (n : List ℕ) (o : Option Word) (t : Token) (p : ℕ) → t.lexeme ≡ l.Name n o → bare_name as_is (name_at t) ≡ bare_name as_is (record { text = n; place = p })
unfolding name_at
name_same n o t p e = ap (λ (x : List ℕ). record { text = x; place = 0 }) (ap spelled_lexeme e)

pub back_alias : (a : Option Name) → Back AliasOf (bare_alias as_is) (alias_pieces a) a
back_alias None = record { back = λ ts c. nothing (Found AliasOf (bare_alias as_is) None) ts c (record { tree = None; spells = alias_none; same = refl }) }
back_alias (Some n) = record { back = by }
  where
    by : (ts : Tokens) → Carries (word r.As ∷ name n.text ∷ []) ts → Found AliasOf (bare_alias as_is) (Some n) ts
    by _ (carries_more {t = t} e _ (carries_more {t = x} f _ carries_none)) =
        record { tree = Some (name_at x); spells = alias_as (is_reserved r.As t e) (is_named n.text (word_if_plain n.text) x f); same = ap Some (name_same n.text (word_if_plain n.text) x n.place f) }

pub back_from_alias : (a : Option Name) → Back FromAliasOf (bare_alias as_is) (alias_pieces a) a
back_from_alias None = record { back = λ ts c. nothing (Found FromAliasOf (bare_alias as_is) None) ts c (record { tree = None; spells = from_alias_none; same = refl }) }
back_from_alias (Some n) = record { back = by }
  where
    by : (ts : Tokens) → Carries (word r.As ∷ name n.text ∷ []) ts → Found FromAliasOf (bare_alias as_is) (Some n) ts
    by _ (carries_more {t = t} e _ (carries_more {t = x} f _ carries_none)) =
        record { tree = Some (name_at x); spells = from_alias_as (is_reserved r.As t e) (is_named n.text (word_if_plain n.text) x f); same = ap Some (name_same n.text (word_if_plain n.text) x n.place f) }

-- {"." name}
back_dots_by : (ns : List Name) (ts : Tokens) → Carries (dots ns) ts → Found NameDotsOf (bare_names as_is) ns ts
back_dots_by [] _ carries_none = record { tree = []; spells = name_dots_none; same = refl }
back_dots_by (n ∷ ns) _ (carries_more {t = t} e _ (carries_more {t = x} {ts = v} f _ c)) =
    let rest = back_dots_by ns v c in
    record {
      tree = name_at x ∷ rest.tree;
      spells = name_dots_more (is_sign s.Dot t e) (is_named n.text (word_if_plain n.text) x f) rest.spells;
      same = rw (name_same n.text (word_if_plain n.text) x n.place f) (ap (λ (r : List Name). bare_name as_is n ∷ r) rest.same);
    }

pub back_dots : (ns : List Name) → Back NameDotsOf (bare_names as_is) (dots ns) ns
back_dots ns = record { back = back_dots_by ns }

-- {"," name}
back_commas_by : (ns : List Name) (ts : Tokens) → Carries (after_commas (map name_pieces ns)) ts → Found NameCommasOf (bare_names as_is) ns ts
back_commas_by [] _ carries_none = record { tree = []; spells = name_commas_none; same = refl }
back_commas_by (n ∷ ns) _ (carries_more {t = t} e _ (carries_more {t = x} {ts = v} f _ c)) =
    let rest = back_commas_by ns v c in
    record {
      tree = name_at x ∷ rest.tree;
      spells = name_commas_more (is_sign s.Comma t e) (is_named n.text (word_if_plain n.text) x f) rest.spells;
      same = rw (name_same n.text (word_if_plain n.text) x n.place f) (ap (λ (r : List Name). bare_name as_is n ∷ r) rest.same);
    }

-- "(" name {"," name} ")"
pub back_names : (n : Name) (ns : List Name) → Back NamesOf (bare_names as_is) (bracketed (names_list (n ∷ ns))) (n ∷ ns)
back_names n ns = record { back = by }
  where
    behind : (o x : Token) (v : Tokens) → o.lexeme ≡ l.Sign s.OpenRound → x.lexeme ≡ l.Name n.text (word_if_plain n.text) → Carries (after_commas (map name_pieces ns) ++ sign s.CloseRound ∷ []) v → Found NamesOf (bare_names as_is) (n ∷ ns) (o ∷ x ∷ v)
    behind o x v e f c = split (λ v. Found NamesOf (bare_names as_is) (n ∷ ns) (o ∷ x ∷ v)) v c (λ y z cy cz.
        one (λ z. Found NamesOf (bare_names as_is) (n ∷ ns) (o ∷ x ∷ (y ++ z))) z cz (λ t z g cz.
        nothing (λ z. Found NamesOf (bare_names as_is) (n ∷ ns) (o ∷ x ∷ (y ++ (t ∷ z)))) z cz (
        let rest = back_commas_by ns y cy in
        record {
          tree = name_at x ∷ rest.tree;
          spells = names_are (is_sign s.OpenRound o e) (is_named n.text (word_if_plain n.text) x f) rest.spells (is_sign s.CloseRound t g);
          same = rw (name_same n.text (word_if_plain n.text) x n.place f) (ap (λ (r : List Name). bare_name as_is n ∷ r) rest.same);
        })))

    by : (ts : Tokens) → Carries (bracketed (names_list (n ∷ ns))) ts → Found NamesOf (bare_names as_is) (n ∷ ns) ts
    by _ (carries_more {t = o} e _ (carries_more {t = x} {ts = v} f _ c)) = behind o x v e f c

-- ---- WITH OFFSET

pub back_place : (o : Option WithOffset) → Back PlaceOf (option_map (bare_offset as_is)) (if_there offset_pieces o) o
back_place None = record { back = λ ts c. nothing (Found PlaceOf (option_map (bare_offset as_is)) None) ts c (record { tree = None; spells = place_none; same = refl }) }
back_place (Some o) = record { back = by }
  where
    by : (ts : Tokens) → Carries (offset_pieces o) ts → Found PlaceOf (option_map (bare_offset as_is)) (Some o) ts
    by _ (carries_more {t = t} e _ (carries_more {t = x} {ts = v} f _ c)) =
        let rest = (back_from_alias o.alias).back v c in
        record {
          tree = Some (record { alias = rest.tree; place = t.start });
          spells = place_is (is_reserved r.With t e) (is_word w.Offset (spelled_word w.Offset) x f) rest.spells;
          same = ap (λ a. Some (record { alias = a; place = 0 })) rest.same;
        }

-- ---- words that may stand

itself : {A : Type 0} (L : A → Tokens → Type 0) (a : A) (ts : Tokens) → L a ts → Found L as_is a ts
itself L a ts z = record { tree = a; spells = z; same = refl }

pub back_distinct : (d : Bool) → Back DistinctOf as_is (if_so d (word r.Distinct ∷ [])) d
back_distinct d = record { back = by d }
  where
    by : (d : Bool) (ts : Tokens) → Carries (if_so d (word r.Distinct ∷ [])) ts → Found DistinctOf as_is d ts
    by true _ (carries_more {t = t} e _ carries_none) = itself DistinctOf true _ (distinct_is (is_reserved r.Distinct t e))
    by false _ carries_none = itself DistinctOf false _ distinct_none

pub back_select_distinct : (d : Bool) → Back SelectDistinctOf as_is (if_so d (word r.Distinct ∷ [])) d
back_select_distinct d = record { back = by d }
  where
    by : (d : Bool) (ts : Tokens) → Carries (if_so d (word r.Distinct ∷ [])) ts → Found SelectDistinctOf as_is d ts
    by true _ (carries_more {t = t} e _ carries_none) = itself SelectDistinctOf true _ (select_distinct (is_reserved r.Distinct t e))
    by false _ carries_none = itself SelectDistinctOf false _ select_none

pub back_as_struct : (d : Bool) → Back AsStructOf as_is (if_so d (word r.As ∷ word r.Struct ∷ [])) d
back_as_struct d = record { back = by d }
  where
    by : (d : Bool) (ts : Tokens) → Carries (if_so d (word r.As ∷ word r.Struct ∷ [])) ts → Found AsStructOf as_is d ts
    by true _ (carries_more {t = t} e _ (carries_more {t = x} f _ carries_none)) = itself AsStructOf true _ (as_struct_is (is_reserved r.As t e) (is_reserved r.Struct x f))
    by false _ carries_none = itself AsStructOf false _ as_struct_none

pub back_direction : (d : Bool) → Back DirectionOf as_is (if_so d (word r.Desc ∷ [])) d
back_direction d = record { back = by d }
  where
    by : (d : Bool) (ts : Tokens) → Carries (if_so d (word r.Desc ∷ [])) ts → Found DirectionOf as_is d ts
    by true _ (carries_more {t = t} e _ carries_none) = itself DirectionOf true _ (direction_desc (is_reserved r.Desc t e))
    by false _ carries_none = itself DirectionOf false _ direction_none

pub back_include : (d : Bool) → Back IncludeOf as_is (if_so d (read_word w.Include ∷ word r.Nulls ∷ [])) d
back_include d = record { back = by d }
  where
    by : (d : Bool) (ts : Tokens) → Carries (if_so d (read_word w.Include ∷ word r.Nulls ∷ [])) ts → Found IncludeOf as_is d ts
    by true _ (carries_more {t = t} e _ (carries_more {t = x} f _ carries_none)) = itself IncludeOf true _ (include_nulls (is_word w.Include (spelled_word w.Include) t e) (is_reserved r.Nulls x f))
    by false _ carries_none = itself IncludeOf false _ include_none

pub back_nulls_place : (n : Option NullsPlace) → Back NullsPlaceOf as_is (if_there nulls_place_pieces n) n
back_nulls_place n = record { back = by n }
  where
    by : (n : Option NullsPlace) (ts : Tokens) → Carries (if_there nulls_place_pieces n) ts → Found NullsPlaceOf as_is n ts
    by None _ carries_none = itself NullsPlaceOf None _ nulls_none
    by (Some nulls_place.First) _ (carries_more {t = t} e _ (carries_more {t = x} f _ carries_none)) = itself NullsPlaceOf _ _ (nulls_first (is_reserved r.Nulls t e) (is_word w.First (spelled_word w.First) x f))
    by (Some nulls_place.Last) _ (carries_more {t = t} e _ (carries_more {t = x} f _ carries_none)) = itself NullsPlaceOf _ _ (nulls_last (is_reserved r.Nulls t e) (is_word w.Last (spelled_word w.Last) x f))

pub back_nulls_part : (n : Option NullsPart) → Back NullsPartOf as_is (if_there nulls_part_pieces n) n
back_nulls_part n = record { back = by n }
  where
    by : (n : Option NullsPart) (ts : Tokens) → Carries (if_there nulls_part_pieces n) ts → Found NullsPartOf as_is n ts
    by None _ carries_none = itself NullsPartOf None _ nulls_part_none
    by (Some nulls_part.Ignore) _ (carries_more {t = t} e _ (carries_more {t = x} f _ carries_none)) = itself NullsPartOf _ _ (nulls_ignore (is_reserved r.Ignore t e) (is_reserved r.Nulls x f))
    by (Some nulls_part.Respect) _ (carries_more {t = t} e _ (carries_more {t = x} f _ carries_none)) = itself NullsPartOf _ _ (nulls_respect (is_reserved r.Respect t e) (is_reserved r.Nulls x f))

pub back_call_limit : (k : Option ℕ) → Back CallLimitOf as_is (call_limit k) k
back_call_limit k = record { back = by k }
  where
    by : (k : Option ℕ) (ts : Tokens) → Carries (call_limit k) ts → Found CallLimitOf as_is k ts
    by None _ carries_none = itself CallLimitOf None _ call_limit_none
    by (Some n) _ (carries_more {t = t} e _ (carries_more {t = x} f _ carries_none)) =
        record { tree = Some (number_lexeme x.lexeme); spells = call_limit_is (is_reserved r.Limit t e) (record { is = ap integer_lexeme f }); same = ap Some (ap number_lexeme f) }

-- ---- UNPIVOT's columns

back_column_by : (c : UnpivotColumn) (label : Option (List ℕ)) (ts : Tokens) → Carries (name c.name.text ∷ if_there (λ text. word r.As ∷ spaced (l.Text text) ∷ []) label) ts
    → Found UnpivotColumnOf (bare_column as_is) (record { name = c.name; label = label }) ts
back_column_by c None _ (carries_more {t = x} e _ carries_none) =
    record {
      tree = record { name = name_at x; label = None };
      spells = column_plain (is_named c.name.text (word_if_plain c.name.text) x e);
      same = ap (λ (n : Name). record { name = n; label = None }) (name_same c.name.text (word_if_plain c.name.text) x c.name.place e);
    }
back_column_by c (Some label) _ (carries_more {t = x} e _ (carries_more {t = t} f _ (carries_more {t = y} g _ carries_none))) =
    record {
      tree = record { name = name_at x; label = Some (content_lexeme y.lexeme) };
      spells = column_as (is_named c.name.text (word_if_plain c.name.text) x e) (is_reserved r.As t f) (record { is = ap text_lexeme g });
      same = rw (name_same c.name.text (word_if_plain c.name.text) x c.name.place e) (ap (λ (y : List ℕ). record { name = bare_name as_is c.name; label = Some y }) (ap content_lexeme g));
    }

pub back_column : (c : UnpivotColumn) → Back UnpivotColumnOf (bare_column as_is) (unpivot_column_pieces c) c
back_column c = record { back = λ ts h. back_column_by c c.label ts h }

back_columns_by : (cs : List UnpivotColumn) (ts : Tokens) → Carries (after_commas (map unpivot_column_pieces cs)) ts → Found UnpivotCommasOf (map (bare_column as_is)) cs ts
back_columns_by [] _ carries_none = record { tree = []; spells = unpivot_none; same = refl }
back_columns_by (c ∷ cs) ts h =
    one (Found UnpivotCommasOf (map (bare_column as_is)) (c ∷ cs)) ts h (λ t u e h. split (λ u. Found UnpivotCommasOf (map (bare_column as_is)) (c ∷ cs) (t ∷ u)) u h (λ u v cu cv.
    let first = (back_column c).back u cu in
    let rest = back_columns_by cs v cv in
    record {
      tree = first.tree ∷ rest.tree;
      spells = unpivot_more (is_sign s.Comma t e) first.spells rest.spells;
      same = rw first.same (ap (λ (r : List UnpivotColumn). bare_column as_is c ∷ r) rest.same);
    }))

pub back_columns : (cs : List UnpivotColumn) → Back UnpivotCommasOf (map (bare_column as_is)) (after_commas (map unpivot_column_pieces cs)) cs
back_columns cs = record { back = back_columns_by cs }
