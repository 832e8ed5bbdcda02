-- The readers of what holds no expression read each word: names, aliases, types, and words that may stand.
use Rattle.std.proofs.Common.{◌≡◌, ℕ, suc, ◌<◌, Bool, true, false, ◌||◌, List, [], ◌∷◌, ◌++◌, length, Option, refl, sym, ◌∙◌, ap, arith}
use Rattle.fronts.specs.Readers.{taken, comes}
use Rattle.fronts.proofs.Agrees.{Many, many_none, many_more, Found}
use Rattle.sql_names.specs.declared.words.Reserved.{Reserved}
use Rattle.sql_names.specs.declared.words.Reserved.TheVariants as r
use Rattle.sql_ast.specs.declared.words.Sign.TheVariants as s
use Rattle.sql_ast.specs.declared.words.Word.TheVariants as w
use Rattle.sql_ast.specs.declared.token.Token.{Token}
use Rattle.sql_ast.specs.declared.clauses.LimitPart.{LimitPart}
use Rattle.sql_ast.specs.declared.clauses.Name.{Name}
use Rattle.sql_ast.specs.declared.clauses.NullsPart.{NullsPart}
use Rattle.sql_ast.specs.declared.clauses.NullsPlace.{NullsPlace}
use Rattle.sql_ast.specs.declared.clauses.UnpivotColumn.{UnpivotColumn}
use Rattle.sql_ast.specs.declared.clauses.WithOffset.{WithOffset}
use Rattle.sql_ast.specs.declared.expr.Expr.{Expr}
use Rattle.sql_ast.specs.Marks.{Tokens, Is, same_reserved, same_word, same_sign, reserved, sign, word, named, reserved_lexeme, sign_lexeme, word_lexeme}
use Rattle.sql_ast.specs.Trees.{name_at}
use Rattle.sql_ast.specs.Parts.{from_alias, AliasOf, alias_none, alias_name, alias_as, FromAliasOf, from_alias_none, from_alias_name, from_alias_as, NameCommasOf, name_commas_none, name_commas_more, NamesOf, names_are, NameDotsOf, name_dots_none, name_dots_more, PlaceOf, place_none, place_is, UnpivotColumnOf, column_plain, column_as, UnpivotCommasOf, unpivot_none, unpivot_more, IncludeOf, include_none, include_nulls, exclude_nulls, DistinctOf, distinct_none, distinct_is, SelectDistinctOf, select_none, select_all, select_distinct as is_select_distinct, AsStructOf, as_struct_none, as_struct_is, DirectionOf, direction_none, direction_asc, direction_desc, NullsPlaceOf, nulls_none, nulls_first, nulls_last, NullsPartOf, nulls_part_none, nulls_ignore, nulls_respect, OffsetOf, offset_none, offset_is, LimitOf, limit_none, limit_is, CallLimitOf, call_limit_none, call_limit_is}
use Rattle.sql_grammar.specs.Words.{name, after_as, alias_of, comma_name, dot_name, names, dotted, offset_column, unpivot_column, comma_column, include, distinct, select_distinct, as_struct, direction, nulls_place, nulls_part, optional, offset, limit, call_limit}
use Rattle.sql_grammar.proofs.Marks.{AfterOf, after_of}
use Rattle.sql_grammar.proofs.Words.{NameIs, name_is}
use Rattle.sql_grammar.proofs.Follows.{Over, level, is_named}
use Rattle.sql_grammar.proofs.CompleteSteps.{Read, Free, Not, Comes, less, tok, also, part, last, then_on, else_on, done, refute, over_not_r, over_not_n, over_not_w, weak, r_test, s_test, n_test, w_test, after_read, after_begins, free_many, Ahead, nothing_ahead, r_ahead, level_ahead}

-- ---- aliases

-- no alias comes next: neither AS, nor a name that may stand without it
pub record NoAlias (bare : Token → Bool) (ts : Tokens) : Type 0 where
  pub no_as : comes (reserved r.As) ts ≡ false
  pub no_name : comes bare ts ≡ false

named_not_r : {t : Token} (x : Reserved) → Is named t → reserved x t ≡ false
named_not_r x i = n_test (reserved_lexeme x) i (λ n o. refl)

alias_of_named : (t : Token) (b : Bool) → (elim b [ true ↦ false | false ↦ named t ]) ≡ true → named t ≡ true
alias_of_named t true h = absurd cc
alias_of_named t false h = h

pub from_alias_is_named : {t : Token} → Is from_alias t → Is named t
from_alias_is_named {t} i = record { is = alias_of_named t (word w.Pivot t || word w.Unpivot t) i.is }

pub over_no_alias : {ts : Tokens} → Over 11 ts → NoAlias named ts
over_no_alias h = record { no_as = over_not_r h r.As (omega arith); no_name = over_not_n h (omega arith) }

over_not_from : (ts : Tokens) → Over 11 ts → comes from_alias ts ≡ false
over_not_from [] h = refl
over_not_from (t ∷ ts) h = refute (from_alias t) (λ e. let f : named t ≡ false = over_not_n h (omega arith) in let g = (from_alias_is_named {t = t} (record { is = e })).is in let i = sym f ∙ g in cc)

pub over_no_from : {ts : Tokens} → Over 11 ts → NoAlias from_alias ts
over_no_from {ts} h = record { no_as = over_not_r h r.As (omega arith); no_name = over_not_from ts h }

pub alias_read : (n : ℕ) → Read n (NoAlias named) AliasOf (alias_of named)
unfolding alias_of after_as
alias_read n = record { reads = by }
  where
    by : {a : Option Name} {u : Tokens} → AliasOf a u → (rest : Tokens) → NoAlias named rest → length (u ++ rest) < n → alias_of named (u ++ rest) ≡ taken a rest
    by alias_none rest f = else_on f.no_as _ _ (else_on f.no_name _ _ done)
    by (alias_name i) rest f = else_on (named_not_r r.As i) _ _ (then_on i.is _ _ (also i _ done))
    by (alias_as i j) rest f = then_on i.is _ _ (also i _ (also j _ done))

pub from_alias_read : (n : ℕ) → Read n (NoAlias from_alias) FromAliasOf (alias_of from_alias)
unfolding alias_of after_as
from_alias_read n = record { reads = by }
  where
    by : {a : Option Name} {u : Tokens} → FromAliasOf a u → (rest : Tokens) → NoAlias from_alias rest → length (u ++ rest) < n → alias_of from_alias (u ++ rest) ≡ taken a rest
    by from_alias_none rest f = else_on f.no_as _ _ (else_on f.no_name _ _ done)
    by (from_alias_name i) rest f = else_on (named_not_r r.As (from_alias_is_named i)) _ _ (then_on i.is _ _ (also i _ done))
    by (from_alias_as i j) rest f = then_on i.is _ _ (also i _ (also j _ done))

pub alias_ahead : (a : Option Name) (u : Tokens) → AliasOf a u → Ahead 11 u
alias_ahead _ _ alias_none = nothing_ahead
alias_ahead _ _ (alias_name i) = level_ahead (ap level (is_named i).is)
alias_ahead _ _ (alias_as i j) = r_ahead r.As i

pub from_alias_ahead : (a : Option Name) (u : Tokens) → FromAliasOf a u → Ahead 11 u
from_alias_ahead _ _ from_alias_none = nothing_ahead
from_alias_ahead _ _ (from_alias_name i) = level_ahead (ap level (is_named (from_alias_is_named i)).is)
from_alias_ahead _ _ (from_alias_as i j) = r_ahead r.As i

-- ---- names

pub name_read : (n : ℕ) → Read n Free NameIs name
unfolding name
name_read n = record { reads = by }
  where
    by : {a : Name} {u : Tokens} → NameIs a u → (rest : Tokens) → Unit {0} → length (u ++ rest) < n → name (u ++ rest) ≡ taken a rest
    by (name_is i) rest f = also i _ done

comma_name_read : (n : ℕ) → Read (suc n) Free (AfterOf (sign s.Comma) NameIs) comma_name
unfolding comma_name
comma_name_read n = after_read (name_read n)

dot_name_read : (n : ℕ) → Read (suc n) Free (AfterOf (sign s.Dot) NameIs) dot_name
unfolding dot_name
dot_name_read n = after_read (name_read n)

name_commas : (ns : List Name) (v : Tokens) → NameCommasOf ns v → Many (AfterOf (sign s.Comma) NameIs) ns v
name_commas _ _ name_commas_none = many_none
name_commas _ _ (name_commas_more {ns = ns} {v = v} i j z) = many_more (after_of i (name_is j)) (name_commas ns v z)

name_dots : (ns : List Name) (v : Tokens) → NameDotsOf ns v → Many (AfterOf (sign s.Dot) NameIs) ns v
name_dots _ _ name_dots_none = many_none
name_dots _ _ (name_dots_more {ns = ns} {v = v} i j z) = many_more (after_of i (name_is j)) (name_dots ns v z)

pub names_read : (n : ℕ) → Read (suc n) Free NamesOf (names n)
unfolding names same_sign
names_read n = record { reads = by }
  where
    by : {a : List Name} {u : Tokens} → NamesOf a u → (rest : Tokens) → Unit {0} → length (u ++ rest) < suc n → names n (u ++ rest) ≡ taken a rest
    by (names_are {n = m} {ns = ns} io i z ic) rest f = tok io _ (last (name_read n) (name_is i) _ tt
        (part (less (free_many (after_begins (sign s.Comma) NameIs) (comma_name_read n) (name_at m ∷ []) name_commas)) (ns, z, refl) _ _ _ (record { is = s_test s.CloseRound (sign_lexeme s.Comma) ic refl }) (also ic _ done)))

pub dotted_read : (n : ℕ) (found : List Name) → Read (suc n) (Not (sign s.Dot)) (Found NameDotsOf found) (dotted n found)
unfolding dotted
dotted_read n found = free_many (after_begins (sign s.Dot) NameIs) (dot_name_read n) found name_dots

-- ---- words that may stand

pub offset_column_read : (n : ℕ) → Read n (Over 12) PlaceOf offset_column
unfolding offset_column
offset_column_read n = record { reads = by }
  where
    by : {a : Option WithOffset} {u : Tokens} → PlaceOf a u → (rest : Tokens) → Over 12 rest → length (u ++ rest) < n → offset_column (u ++ rest) ≡ taken a rest
    by place_none rest f = else_on (over_not_r f r.With (omega arith)) _ _ done
    by (place_is i j l) rest f = then_on i.is _ _ (also i _ (also j _ (last (from_alias_read n) l _ (over_no_from (weak (omega arith) f)) done)))

pub place_ahead : (a : Option WithOffset) (u : Tokens) → PlaceOf a u → Ahead 12 u
place_ahead _ _ place_none = nothing_ahead
place_ahead _ _ (place_is i j l) = r_ahead r.With i

pub unpivot_column_read : (n : ℕ) → Read n (Not (reserved r.As)) UnpivotColumnOf unpivot_column
unfolding unpivot_column
unpivot_column_read n = record { reads = by }
  where
    by : {a : UnpivotColumn} {u : Tokens} → UnpivotColumnOf a u → (rest : Tokens) → Not (reserved r.As) rest → length (u ++ rest) < n → unpivot_column (u ++ rest) ≡ taken a rest
    by (column_plain i) rest f = also i _ (else_on f.is _ _ done)
    by (column_as i j k) rest f = also i _ (then_on j.is _ _ (also j _ (also k _ done)))

pub comma_column_read : (n : ℕ) → Read (suc n) (Not (reserved r.As)) (AfterOf (sign s.Comma) UnpivotColumnOf) comma_column
unfolding comma_column
comma_column_read n = after_read (unpivot_column_read n)

pub unpivot_commas : (cs : List UnpivotColumn) (v : Tokens) → UnpivotCommasOf cs v → Many (AfterOf (sign s.Comma) UnpivotColumnOf) cs v
unpivot_commas _ _ unpivot_none = many_none
unpivot_commas _ _ (unpivot_more {cs = cs} {v = v} i l z) = many_more (after_of i l) (unpivot_commas cs v z)

bracket_not : (ts : Tokens) → Comes (sign s.OpenRound) ts → (comes (word w.Include) ts ≡ false) × (comes (reserved r.Exclude) ts ≡ false)
bracket_not [] h = (refl, refl)
bracket_not (t ∷ ts) h = (s_test {t = t} s.OpenRound (word_lexeme w.Include) (record { is = h.is }) refl, s_test {t = t} s.OpenRound (reserved_lexeme r.Exclude) (record { is = h.is }) refl)

pub include_read : (n : ℕ) → Read n (Comes (sign s.OpenRound)) IncludeOf include
unfolding include same_reserved
include_read n = record { reads = by }
  where
    by : {a : Bool} {u : Tokens} → IncludeOf a u → (rest : Tokens) → Comes (sign s.OpenRound) rest → length (u ++ rest) < n → include (u ++ rest) ≡ taken a rest
    by include_none rest f = let g = bracket_not rest f in else_on g.0 _ _ (else_on g.1 _ _ done)
    by (include_nulls i j) rest f = then_on i.is _ _ (also i _ (also j _ done))
    by (exclude_nulls i j) rest f = else_on (r_test r.Exclude (word_lexeme w.Include) i refl) _ _ (then_on i.is _ _ (also i _ (also j _ done)))

pub distinct_read : (n : ℕ) → Read n (Not (reserved r.Distinct)) DistinctOf distinct
unfolding distinct
distinct_read n = record { reads = by }
  where
    by : {a : Bool} {u : Tokens} → DistinctOf a u → (rest : Tokens) → Not (reserved r.Distinct) rest → length (u ++ rest) < n → distinct (u ++ rest) ≡ taken a rest
    by distinct_none rest f = else_on f.is _ _ done
    by (distinct_is i) rest f = then_on i.is _ _ (also i _ done)

-- neither of two words comes next
pub record Neither (x y : Reserved) (ts : Tokens) : Type 0 where
  pub first : comes (reserved x) ts ≡ false
  pub second : comes (reserved y) ts ≡ false

pub select_distinct_read : (n : ℕ) → Read n (Neither r.All r.Distinct) SelectDistinctOf select_distinct
unfolding select_distinct distinct same_reserved
select_distinct_read n = record { reads = by }
  where
    by : {a : Bool} {u : Tokens} → SelectDistinctOf a u → (rest : Tokens) → Neither r.All r.Distinct rest → length (u ++ rest) < n → select_distinct (u ++ rest) ≡ taken a rest
    by select_none rest f = else_on f.first _ _ (else_on f.second _ _ done)
    by (select_all i) rest f = then_on i.is _ _ (also i _ done)
    by (is_select_distinct i) rest f = else_on (r_test r.Distinct (reserved_lexeme r.All) i refl) _ _ (then_on i.is _ _ (also i _ done))

pub as_struct_read : (n : ℕ) → Read n (Not (reserved r.As)) AsStructOf as_struct
unfolding as_struct
as_struct_read n = record { reads = by }
  where
    by : {a : Bool} {u : Tokens} → AsStructOf a u → (rest : Tokens) → Not (reserved r.As) rest → length (u ++ rest) < n → as_struct (u ++ rest) ≡ taken a rest
    by as_struct_none rest f = else_on f.is _ _ done
    by (as_struct_is i j) rest f = then_on i.is _ _ (also i _ (also j _ done))

pub direction_read : (n : ℕ) → Read n (Over 13) DirectionOf direction
unfolding direction same_reserved
direction_read n = record { reads = by }
  where
    by : {a : Bool} {u : Tokens} → DirectionOf a u → (rest : Tokens) → Over 13 rest → length (u ++ rest) < n → direction (u ++ rest) ≡ taken a rest
    by direction_none rest f = else_on (over_not_r f r.Asc (omega arith)) _ _ (else_on (over_not_r f r.Desc (omega arith)) _ _ done)
    by (direction_asc i) rest f = then_on i.is _ _ (also i _ done)
    by (direction_desc i) rest f = else_on (r_test r.Desc (reserved_lexeme r.Asc) i refl) _ _ (then_on i.is _ _ (also i _ done))

pub direction_ahead : (a : Bool) (u : Tokens) → DirectionOf a u → Ahead 13 u
direction_ahead _ _ direction_none = nothing_ahead
direction_ahead _ _ (direction_asc i) = r_ahead r.Asc i
direction_ahead _ _ (direction_desc i) = r_ahead r.Desc i

pub nulls_place_read : (n : ℕ) → Read n (Over 14) NullsPlaceOf nulls_place
unfolding nulls_place same_word
nulls_place_read n = record { reads = by }
  where
    by : {a : Option NullsPlace} {u : Tokens} → NullsPlaceOf a u → (rest : Tokens) → Over 14 rest → length (u ++ rest) < n → nulls_place (u ++ rest) ≡ taken a rest
    by nulls_none rest f = else_on (over_not_r f r.Nulls (omega arith)) _ _ done
    by (nulls_first i j) rest f = then_on i.is _ _ (also i _ (then_on j.is _ _ (also j _ done)))
    by (nulls_last i j) rest f = then_on i.is _ _ (also i _ (else_on (w_test w.Last (word_lexeme w.First) j (λ n. refl)) _ _ (also j _ done)))

pub nulls_place_ahead : (a : Option NullsPlace) (u : Tokens) → NullsPlaceOf a u → Ahead 14 u
nulls_place_ahead _ _ nulls_none = nothing_ahead
nulls_place_ahead _ _ (nulls_first i j) = r_ahead r.Nulls i
nulls_place_ahead _ _ (nulls_last i j) = r_ahead r.Nulls i

pub nulls_part_read : (n : ℕ) → Read n (Over 18) NullsPartOf nulls_part
unfolding nulls_part same_reserved
nulls_part_read n = record { reads = by }
  where
    by : {a : Option NullsPart} {u : Tokens} → NullsPartOf a u → (rest : Tokens) → Over 18 rest → length (u ++ rest) < n → nulls_part (u ++ rest) ≡ taken a rest
    by nulls_part_none rest f = else_on (over_not_r f r.Ignore (omega arith)) _ _ (else_on (over_not_r f r.Respect (omega arith)) _ _ done)
    by (nulls_ignore i j) rest f = then_on i.is _ _ (also i _ (also j _ done))
    by (nulls_respect i j) rest f = else_on (r_test r.Respect (reserved_lexeme r.Ignore) i refl) _ _ (then_on i.is _ _ (also i _ (also j _ done)))

-- [OUTER]: what it leaves says only whether it stood
pub data Stood (x : Reserved) : Bool → Tokens → Type 0 where
  stood_not : Stood x false []
  stood_is : {t : Token} → Is (reserved x) t → Stood x true (t ∷ [])

pub optional_read : (x : Reserved) (n : ℕ) → Read n (Not (reserved x)) (Stood x) (optional x)
unfolding optional
optional_read x n = record { reads = by }
  where
    by : {a : Bool} {u : Tokens} → Stood x a u → (rest : Tokens) → Not (reserved x) rest → length (u ++ rest) < n → optional x (u ++ rest) ≡ taken a rest
    by stood_not rest f = else_on f.is _ _ done
    by (stood_is i) rest f = then_on i.is _ _ (also i _ done)

pub offset_read : (n : ℕ) → Read n (Over 11) OffsetOf offset
unfolding offset
offset_read n = record { reads = by }
  where
    by : {a : Option Expr} {u : Tokens} → OffsetOf a u → (rest : Tokens) → Over 11 rest → length (u ++ rest) < n → offset (u ++ rest) ≡ taken a rest
    by offset_none rest f = else_on (over_not_w f w.Offset (omega arith)) _ _ done
    by (offset_is i j) rest f = then_on i.is _ _ (also i _ (also j _ done))

pub limit_read : (n : ℕ) → Read n (Over 22) LimitOf limit
unfolding limit
limit_read n = record { reads = by }
  where
    by : {a : Option (LimitPart Expr)} {u : Tokens} → LimitOf a u → (rest : Tokens) → Over 22 rest → length (u ++ rest) < n → limit (u ++ rest) ≡ taken a rest
    by limit_none rest f = else_on (over_not_r f r.Limit (omega arith)) _ _ done
    by (limit_is i j l) rest f = then_on i.is _ _ (also i _ (also j _ (last (offset_read n) l _ (weak (omega arith) f) done)))

pub limit_ahead : (a : Option (LimitPart Expr)) (u : Tokens) → LimitOf a u → Ahead 22 u
limit_ahead _ _ limit_none = nothing_ahead
limit_ahead _ _ (limit_is i j l) = r_ahead r.Limit i

pub call_limit_read : (n : ℕ) → Read n (Over 22) CallLimitOf call_limit
unfolding call_limit
call_limit_read n = record { reads = by }
  where
    by : {a : Option ℕ} {u : Tokens} → CallLimitOf a u → (rest : Tokens) → Over 22 rest → length (u ++ rest) < n → call_limit (u ++ rest) ≡ taken a rest
    by call_limit_none rest f = else_on (over_not_r f r.Limit (omega arith)) _ _ done
    by (call_limit_is i j) rest f = then_on i.is _ _ (also i _ (also j _ done))

pub call_limit_ahead : (a : Option ℕ) (u : Tokens) → CallLimitOf a u → Ahead 22 u
call_limit_ahead _ _ call_limit_none = nothing_ahead
call_limit_ahead _ _ (call_limit_is i j) = r_ahead r.Limit i
