-- The choice among the rows of the signature table.
use Rattle.std.specs.Prelude.{ℕ, suc, ◌-◌, ◌==◌, nat_lt, nat_le, Bool, true, false, ◌&&◌, ◌||◌, if◌then◌else◌, List, [], ◌∷◌, ◌++◌, length, take, replicate, Option, None, Some, option_map, option_and_then, is_none}
use Rattle.std.specs.List.{last_or, filter_map}
use Rattle.std.specs.Str.{str_eq_ignore_ascii_case}
use Rattle.sql_types.specs.declared.sql_type.SqlType.{SqlType, out-SqlType}
use Rattle.sql_types.specs.declared.sql_type.SqlType.TheVariants as ty
use Rattle.sql_types.specs.declared.sql_type.SqlType.TheOpen as t
use Rattle.sql_types.specs.Comparable.{comparable, orderable}
use Rattle.sql_coerce.specs.declared.arg.Arg.{Arg}
use Rattle.sql_coerce.specs.declared.arg.Kind.{Kind}
use Rattle.sql_coerce.specs.declared.arg.Kind.TheVariants as kind
use Rattle.sql_types.specs.SameType.{same_type}
use Rattle.sql_coerce.specs.Coercions.{coerces}
use Rattle.sql_coerce.specs.Supertypes.{supertype}
use Rattle.sql_builtins.specs.declared.choice.Choice.{Choice}
use Rattle.sql_builtins.specs.declared.table.Slot.{Slot}
use Rattle.sql_builtins.specs.declared.table.Slot.TheVariants as slot
use Rattle.sql_builtins.specs.declared.table.Repeats.{Repeats}
use Rattle.sql_builtins.specs.declared.table.Repeats.TheVariants as repeats
use Rattle.sql_builtins.specs.declared.table.Needs.{Needs}
use Rattle.sql_builtins.specs.declared.table.Needs.TheVariants as needs
use Rattle.sql_builtins.specs.Table.{Signature, signatures}

-- ---- places

-- The places of so many arguments, where a row takes so many: all of its places, or all but the last, or the last again and
-- again.
abbrev pub places : Repeats → List Slot → ℕ → Option (List Slot)
places repeats.Exactly slots n = if length slots == n then Some slots else None
places repeats.LastOptional slots n = if length slots == n then Some slots else if length slots == suc n then Some (take n slots) else None
places repeats.LastRepeats slots n =
    if nat_le (length slots) n then option_map (λ last. slots ++ replicate (n - length slots) last) (last_or None slots) else None

abbrev pub is_common : Slot → Bool
is_common slot.Common = true
is_common _ = false

abbrev pub is_element : Slot → Bool
is_element slot.Element = true
is_element _ = false

abbrev pub is_array_of_element : Slot → Bool
is_array_of_element slot.ArrayOfElement = true
is_array_of_element _ = false

-- the arguments at the places that a test takes
abbrev pub standing : (Slot → Bool) → List Slot → List Arg → List Arg
standing is [] arguments = []
standing is (s ∷ slots) [] = []
standing is (s ∷ slots) (a ∷ arguments) = if is s then a ∷ standing is slots arguments else standing is slots arguments

-- ---- the types that a row leaves open

abbrev pub element_layer : t.SqlType-F SqlType → Option SqlType
element_layer (t.Array element) = Some element
element_layer _ = None

-- the element type of an argument that is an array and isn't untyped
abbrev pub element_by : Option SqlType → Kind → Option SqlType
element_by None kind = None
element_by (Some ty) kind.Untyped = None
element_by (Some ty) kind = element_layer (out-SqlType ty)

abbrev pub first_element : List Arg → Option SqlType
first_element [] = None
first_element (a ∷ arguments) = elim (element_by a.ty a.kind) [ Some element ↦ Some element | None ↦ first_element arguments ]

-- The element type of the row's arrays: a typed array decides it. With untyped arrays alone the other arguments of that type
-- decide, by their supertype, which is INT64 where there are none.
abbrev pub element_type : List Slot → List Arg → Option SqlType
element_type slots arguments = elim (first_element (standing is_array_of_element slots arguments)) [
  | Some element ↦ Some element
  | None ↦ supertype (standing is_element slots arguments)
]

-- the common type: the supertype of the arguments at such places, which is INT64 where there are none
abbrev pub common_type : List Slot → List Arg → Option SqlType
common_type slots arguments = supertype (standing is_common slots arguments)

-- ---- one row

-- an argument's own type; an untyped NULL that nothing else decides is INT64
abbrev pub own_type : Option SqlType → SqlType
own_type None = ty.Int64
own_type (Some ty) = ty

-- the type of a place, by the common type, the element type and the argument's own
abbrev pub slot_type : SqlType → SqlType → SqlType → Slot → SqlType
slot_type common element own slot.Bool = ty.Bool
slot_type common element own slot.Int64 = ty.Int64
slot_type common element own slot.Uint64 = ty.Uint64
slot_type common element own slot.String = ty.Text
slot_type common element own slot.Bytes = ty.Bytes
slot_type common element own slot.Date = ty.Date
slot_type common element own slot.Texts = ty.Array ty.Text
slot_type common element own slot.Numbers = ty.Array ty.Int64
slot_type common element own slot.Common = common
slot_type common element own slot.Element = element
slot_type common element own slot.ArrayOfElement = ty.Array element
slot_type common element own slot.Any = own

abbrev pub target_types : SqlType → SqlType → List Slot → List Arg → List SqlType
target_types common element [] arguments = []
target_types common element (s ∷ slots) [] = []
target_types common element (s ∷ slots) (a ∷ arguments) = slot_type common element (own_type a.ty) s ∷ target_types common element slots arguments

-- an argument coerces to a type; an untyped NULL to every type
abbrev pub coerces_by : Option SqlType → Kind → SqlType → Bool
coerces_by None kind to = true
coerces_by (Some from) kind to = coerces from kind to

abbrev pub all_coerce : List Arg → List SqlType → Bool
all_coerce [] targets = true
all_coerce (a ∷ arguments) [] = true
all_coerce (a ∷ arguments) (to ∷ targets) = coerces_by a.ty a.kind to && all_coerce arguments targets

-- what the row needs of its common type and of its element type; INT64, which stands where a row has none, is both
abbrev pub meets : Needs → SqlType → Bool
meets needs.Nothing ty = true
meets needs.Comparable ty = comparable ty
meets needs.Orderable ty = orderable ty
meets needs.NoArray ty = is_none (element_layer (out-SqlType ty))

-- ---- what a choice costs

-- the coercions of arguments that aren't literals, and those of literals
pub record Cost : Type 0 where
  pub others : ℕ
  pub literals : ℕ

abbrev pub more_others : Cost → Cost
more_others cost = record cost { others = suc cost.others }

abbrev pub more_literals : Cost → Cost
more_literals cost = record cost { literals = suc cost.literals }

-- an argument of its target's own type isn't coerced, and an untyped one costs nothing
abbrev pub with_argument : Option SqlType → Kind → SqlType → Cost → Cost
with_argument None kind to cost = cost
with_argument (Some from) kind.Untyped to cost = cost
with_argument (Some from) (kind.Literal value) to cost = if same_type from to then cost else more_literals cost
with_argument (Some from) kind to cost = if same_type from to then cost else more_others cost

abbrev pub cost_of : List Arg → List SqlType → Cost
cost_of [] targets = record { others = 0; literals = 0 }
cost_of (a ∷ arguments) [] = record { others = 0; literals = 0 }
cost_of (a ∷ arguments) (to ∷ targets) = with_argument a.ty a.kind to (cost_of arguments targets)

abbrev pub cheaper : Cost → Cost → Bool
cheaper a b = nat_lt a.others b.others || (a.others == b.others && nat_lt a.literals b.literals)

-- ---- rows that apply

-- a choice and its cost
pub record Applied : Type 0 where
  pub choice : Choice
  pub cost : Cost

-- by the places and the types that the row leaves open
abbrev pub applied_by : Signature → List Arg → List Slot → SqlType → SqlType → Option Applied
applied_by row arguments slots common element =
    let targets = target_types common element slots arguments in
    if (meets row.needs common && meets row.needs element) && all_coerce arguments targets
    then Some (record {
      choice = record { sig = row.sig; targets = targets; gives = slot_type common element ty.Int64 row.gives };
      cost = cost_of arguments targets;
    })
    else None

abbrev pub applied_at : Signature → List Arg → List Slot → Option Applied
applied_at row arguments slots =
    option_and_then (λ common. option_and_then (λ element. applied_by row arguments slots common element) (element_type slots arguments)) (common_type slots arguments)

-- the row as it applies to the arguments: their number fits, and each coerces to the type of its place
abbrev pub applied : List Arg → Signature → Option Applied
applied arguments row = option_and_then (applied_at row arguments) (places row.repeats row.takes (length arguments))

-- ---- the choice

-- the first of the cheapest
abbrev pub cheapest_from : Applied → List Applied → Applied
cheapest_from best [] = best
cheapest_from best (other ∷ others) = if cheaper other.cost best.cost then cheapest_from other others else cheapest_from best others

abbrev pub cheapest : List Applied → Option Applied
cheapest [] = None
cheapest (a ∷ others) = Some (cheapest_from a others)

-- the rows of a name, in any case
abbrev pub rows_of : List ℕ → List Signature → List Signature
rows_of name [] = []
rows_of name (row ∷ rows) = if str_eq_ignore_ascii_case row.name name then row ∷ rows_of name rows else rows_of name rows

-- Among the rows of this name in a table that apply, the one with the fewest coercions of arguments that aren't literals, then
-- with the fewest of literals, then the first; or none.
unfoldable pub chosen_of : List Signature → List ℕ → List Arg → Option Choice
chosen_of rows name arguments = option_map (λ a. a.choice) (cheapest (filter_map (applied arguments) (rows_of name rows)))

-- the choice among the rows of the signature table
unfoldable pub chosen : List ℕ → List Arg → Option Choice
chosen name arguments = chosen_of signatures name arguments
