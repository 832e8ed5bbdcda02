-- The choice among rows, step by step, in the words of the choice.
use Rattle.std.specs.Prelude.{ℕ, ◌+◌, Bool, true, ◌&&◌, if◌then◌else◌, List, [], ◌∷◌, Option, None, Some}
use Rattle.std.specs.List.{list_all}
use Rattle.sql_types.specs.declared.sql_type.SqlType.{SqlType}
use Rattle.sql_types.specs.declared.sql_type.SqlType.TheOpen as t
use Rattle.sql_types.specs.SameType.{same_type}
use Rattle.sql_coerce.specs.declared.arg.Arg.{Arg}
use Rattle.sql_coerce.specs.declared.arg.Kind.{Kind}
use Rattle.sql_coerce.specs.declared.arg.Kind.TheVariants as kind
use Rattle.sql_coerce.specs.Coercions.{coerces}
use Rattle.sql_builtins.specs.declared.coercion.Coercion.{Coercion}
use Rattle.sql_builtins.specs.declared.coercion.Coercion.TheVariants.{Free, OfLiteral, OfOther}
use Rattle.sql_builtins.specs.declared.table.Slot.{Slot}
use Rattle.sql_builtins.specs.Choices.{Cost, Applied, own_type, slot_type, more_others, more_literals, cheaper, cheapest, cheapest_from, is_common, is_element}

-- ---- coercions

-- no coercion where the argument has the type already
abbrev pub unless_same : SqlType → SqlType → Coercion → Coercion
unless_same from to c = if same_type from to then Free else c

-- how the coercion of an argument that has a type counts
abbrev pub charged : SqlType → Kind → SqlType → Coercion
charged from kind.Untyped to = Free
charged from (kind.Literal value) to = unless_same from to OfLiteral
charged from kind.Parameter to = unless_same from to OfOther
charged from kind.Other to = unless_same from to OfOther

abbrev pub coercion_by : Option SqlType → Kind → SqlType → Option Coercion
coercion_by None kind to = Some Free
coercion_by (Some from) kind to = if coerces from kind to then Some (charged from kind to) else None

-- the coercion of an argument to a type, where there is one
abbrev pub coercion_to : Arg → SqlType → Option Coercion
coercion_to a to = coercion_by a.ty a.kind to

-- that of a typed argument that isn't untyped to an ARRAY: an ARRAY has one to its own type alone
abbrev pub array_coercion : t.SqlType-F SqlType → SqlType → Option Coercion
array_coercion (t.Array own) element = if same_type own element then Some Free else None
array_coercion _ element = None

-- the coercion of an argument to the type of its place
abbrev pub coercion_at : SqlType → SqlType → Slot → Arg → Option Coercion
coercion_at common element s a = coercion_to a (slot_type common element (own_type a.ty) s)

abbrev pub with_coercion : Coercion → Cost → Cost
with_coercion Free cost = cost
with_coercion OfLiteral cost = more_literals cost
with_coercion OfOther cost = more_others cost

abbrev pub behind_coercion : Option Coercion → Option Cost → Option Cost
behind_coercion None rest = None
behind_coercion (Some c) None = None
behind_coercion (Some c) (Some cost) = Some (with_coercion c cost)

-- what the coercions of all arguments cost, where each has one
abbrev pub cost_at : SqlType → SqlType → List Slot → List Arg → Option Cost
cost_at common element [] arguments = Some (record { others = 0; literals = 0 })
cost_at common element (s ∷ slots) [] = Some (record { others = 0; literals = 0 })
cost_at common element (s ∷ slots) (a ∷ arguments) = behind_coercion (coercion_at common element s a) (cost_at common element slots arguments)

-- so many coercions more
abbrev pub with_more : ℕ → ℕ → Option Cost → Option Cost
with_more others literals None = None
with_more others literals (Some cost) = Some (record { others = others + cost.others; literals = literals + cost.literals })

-- ---- the best row so far

-- whether a row of this cost is better than the best so far
abbrev pub improves : Option Applied → Cost → Bool
improves None cost = true
improves (Some best) cost = cheaper cost best.cost

-- a row that applies, where it is better than the best so far
abbrev pub better_than : Option Applied → Option Applied → Option Applied
better_than best None = None
better_than best (Some a) = if improves best a.cost then Some a else None

-- the best so far, or a better one
abbrev pub best_after : Option Applied → Option Applied → Option Applied
best_after best None = best
best_after best (Some a) = Some a

-- the best so far and those behind it
abbrev pub cheapest_behind : Option Applied → List Applied → Option Applied
cheapest_behind None others = cheapest others
cheapest_behind (Some best) others = Some (cheapest_from best others)

-- ---- rows as the code reads them

-- places of this sort stand at the end alone
abbrev pub at_end : (Slot → Bool) → List Slot → Bool
at_end is [] = true
at_end is (s ∷ slots) = if is s then list_all is slots else at_end is slots

-- the places of the common type stand at the end alone, and so do those of the element type
abbrev pub ends_open : List Slot → Bool
ends_open slots = at_end is_common slots && at_end is_element slots
