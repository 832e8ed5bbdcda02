-- The steps of the choice are the choice.
use Rattle.std.proofs.Common.{◌≡◌, ℕ, suc, ◌+◌, Bool, true, false, cond, List, [], ◌∷◌, Option, Some, None, refl, ap, sym, ◌∙◌, arith}
use Rattle.std.specs.Prelude.{◌&&◌}
use Rattle.std.specs.List.{filter_map, cons_option}
use Rattle.std.specs.Str.{str_eq_ignore_ascii_case}
use Rattle.sql_types.specs.declared.sql_type.SqlType.{SqlType}
use Rattle.sql_types.specs.SameType.{same_type}
use Rattle.sql_coerce.specs.declared.arg.Arg.{Arg}
use Rattle.sql_coerce.specs.declared.arg.Kind.{Kind}
use Rattle.sql_coerce.specs.declared.arg.Kind.TheVariants as kind
use Rattle.sql_coerce.specs.Coercions.{coerces}
use Rattle.sql_builtins.specs.declared.coercion.Coercion.{Coercion}
use Rattle.sql_builtins.specs.declared.coercion.Coercion.TheVariants.{Free, OfLiteral, OfOther}
use Rattle.sql_builtins.specs.declared.table.Slot.{Slot}
use Rattle.sql_builtins.specs.Table.{Signature}
use Rattle.sql_builtins.specs.Choices.{Cost, Applied, own_type, slot_type, target_types, coerces_by, all_coerce, with_argument, cost_of, more_others, more_literals, cheaper, cheapest_from, rows_of, applied}
use Rattle.sql_builtins.specs.Steps.{charged, coercion_by, coercion_at, with_coercion, behind_coercion, cost_at, with_more, better_than, best_after, cheapest_behind}

-- ---- costs

charged-literal : (same : Bool) (cost : Cost) → with_coercion (cond same Free OfLiteral) cost ≡ cond same cost (more_literals cost)
charged-literal true cost = refl
charged-literal false cost = refl

charged-other : (same : Bool) (cost : Cost) → with_coercion (cond same Free OfOther) cost ≡ cond same cost (more_others cost)
charged-other true cost = refl
charged-other false cost = refl

charged-counts : (from : SqlType) (k : Kind) (to : SqlType) (cost : Cost) → with_coercion (charged from k to) cost ≡ with_argument (Some from) k to cost
charged-counts from (kind.Literal value) to cost = charged-literal (same_type from to) cost
charged-counts from kind.Parameter to cost = charged-other (same_type from to) cost
charged-counts from kind.Untyped to cost = refl
charged-counts from kind.Other to cost = charged-other (same_type from to) cost

behind-tests : (b all : Bool) (c : Coercion) (cost with : Cost) → with_coercion c cost ≡ with → behind_coercion (cond b (Some c) None) (cond all (Some cost) None) ≡ cond (b && all) (Some with) None
behind-tests true true c cost with is = ap Some is
behind-tests true false c cost with is = refl
behind-tests false all c cost with is = refl

behind-free : (all : Bool) (cost : Cost) → behind_coercion (Some Free) (cond all (Some cost) None) ≡ cond all (Some cost) None
behind-free true cost = refl
behind-free false cost = refl

behind-argument : (own : Option SqlType) (k : Kind) (to : SqlType) (all : Bool) (cost : Cost) → behind_coercion (coercion_by own k to) (cond all (Some cost) None) ≡ cond (coerces_by own k to && all) (Some (with_argument own k to cost)) None
behind-argument None k to all cost = behind-free all cost
behind-argument (Some from) k to all cost =
    behind-tests (coerces from k to) all (charged from k to) cost (with_argument (Some from) k to cost) (charged-counts from k to cost)

-- the cost of all arguments, where all coerce
abbrev whole_cost : List Arg → List SqlType → Option Cost
whole_cost arguments targets = cond (all_coerce arguments targets) (Some (cost_of arguments targets)) None

pub cost_at-whole : (common element : SqlType) (slots : List Slot) (arguments : List Arg) → cost_at common element slots arguments ≡ cond (all_coerce arguments (target_types common element slots arguments)) (Some (cost_of arguments (target_types common element slots arguments))) None
cost_at-whole common element [] [] = refl
cost_at-whole common element [] (a ∷ arguments) = refl
cost_at-whole common element (s ∷ slots) [] = refl
cost_at-whole common element (s ∷ slots) (a ∷ arguments) =
    ap (behind_coercion (coercion_at common element s a)) (cost_at-whole common element slots arguments)
    ∙ behind-argument a.ty a.kind (slot_type common element (own_type a.ty) s) (all_coerce arguments (target_types common element slots arguments)) (cost_of arguments (target_types common element slots arguments))

-- ---- counts so far

abbrev cost : ℕ → ℕ → Cost
cost others literals = record { others = others; literals = literals }

pub more-free : (others literals : ℕ) (rest : Option Cost) → with_more others literals (behind_coercion (Some Free) rest) ≡ with_more others literals rest
more-free others literals None = refl
more-free others literals (Some c) = refl

pub more-literal : (others literals : ℕ) (rest : Option Cost) → with_more others literals (behind_coercion (Some OfLiteral) rest) ≡ with_more others (literals + 1) rest
more-literal others literals None = refl
more-literal others literals (Some c) = let e : literals + suc c.literals ≡ (literals + 1) + c.literals = omega arith in ap (λ n. Some (cost (others + c.others) n)) e

pub more-other : (others literals : ℕ) (rest : Option Cost) → with_more others literals (behind_coercion (Some OfOther) rest) ≡ with_more (others + 1) literals rest
more-other others literals None = refl
more-other others literals (Some c) = let e : others + suc c.others ≡ (others + 1) + c.others = omega arith in ap (λ n. Some (cost n (literals + c.literals))) e

pub more-none : (others literals : ℕ) (rest : Option Cost) → with_more others literals (behind_coercion None rest) ≡ None
more-none others literals rest = refl

pub more-end : (common element : SqlType) (others literals : ℕ) (slots : List Slot) → with_more others literals (cost_at common element slots []) ≡ Some (cost others literals)
more-end common element others literals [] =
    let e : others + 0 ≡ others = omega arith in
    let f : literals + 0 ≡ literals = omega arith in
    ap (λ n. Some (cost n (literals + 0))) e ∙ ap (λ n. Some (cost others n)) f
more-end common element others literals (s ∷ slots) =
    let e : others + 0 ≡ others = omega arith in
    let f : literals + 0 ≡ literals = omega arith in
    ap (λ n. Some (cost n (literals + 0))) e ∙ ap (λ n. Some (cost others n)) f

pub more-short : (common element : SqlType) (others literals : ℕ) (arguments : List Arg) → with_more others literals (cost_at common element [] arguments) ≡ Some (cost others literals)
more-short common element others literals arguments =
    let e : others + 0 ≡ others = omega arith in
    let f : literals + 0 ≡ literals = omega arith in
    ap (λ n. Some (cost n (literals + 0))) e ∙ ap (λ n. Some (cost others n)) f

-- ---- the best so far

taken : (b : Bool) (best a : Applied) (others : List Applied) → cheapest_behind (best_after (Some best) (cond b (Some a) None)) others ≡ Some (cond b (cheapest_from a others) (cheapest_from best others))
taken true best a others = refl
taken false best a others = refl

-- one more row behind the best so far
pub behind-row : (best better o : Option Applied) (others : List Applied) → better ≡ better_than best o → cheapest_behind (best_after best better) others ≡ cheapest_behind best (cons_option o others)
behind-row best better None others is = ap (λ b. cheapest_behind (best_after best b) others) is
behind-row None better (Some a) others is = ap (λ b. cheapest_behind (best_after None b) others) is
behind-row (Some best) better (Some a) others is = ap (λ b. cheapest_behind (best_after (Some best) b) others) is ∙ taken (cheaper a.cost best.cost) best a others

abbrev rows_left : List ℕ → List Arg → List Signature → List Applied
rows_left name arguments rows = filter_map (applied arguments) (rows_of name rows)

by_name : (b : Bool) (arguments : List Arg) (row : Signature) (rows : List Signature) → b ≡ true → filter_map (applied arguments) (cond b (row ∷ rows) rows) ≡ cons_option (applied arguments row) (filter_map (applied arguments) rows)
by_name true arguments row rows is = refl
by_name false arguments row rows is = cc

by_other : (b : Bool) (row : Signature) (rows : List Signature) → b ≡ false → cond b (row ∷ rows) rows ≡ rows
by_other true row rows is = cc
by_other false row rows is = refl

-- a row of the name
pub row-named : (best better : Option Applied) (name : List ℕ) (arguments : List Arg) (row : Signature) (rows : List Signature) → str_eq_ignore_ascii_case row.name name ≡ true → better ≡ better_than best (applied arguments row) → cheapest_behind (best_after best better) (filter_map (applied arguments) (rows_of name rows)) ≡ cheapest_behind best (filter_map (applied arguments) (rows_of name (row ∷ rows)))
row-named best better name arguments row rows named is =
    behind-row best better (applied arguments row) (rows_left name arguments rows) is
    ∙ ap (cheapest_behind best) (sym (by_name (str_eq_ignore_ascii_case row.name name) arguments row (rows_of name rows) named))

-- a row of another name
pub row-other : (best : Option Applied) (name : List ℕ) (arguments : List Arg) (row : Signature) (rows : List Signature) → str_eq_ignore_ascii_case row.name name ≡ false → cheapest_behind best (filter_map (applied arguments) (rows_of name rows)) ≡ cheapest_behind best (filter_map (applied arguments) (rows_of name (row ∷ rows)))
row-other best name arguments row rows named = ap (λ more. cheapest_behind best (filter_map (applied arguments) more)) (sym (by_other (str_eq_ignore_ascii_case row.name name) row (rows_of name rows) named))
