-- Worked examples of the choice among the rows of the signature table, which the other examples cite.
use Rattle.std.proofs.Common.{◌≡◌, ℕ, ℤ, pos, Bool, true, List, [], ◌∷◌, codes, Option, None, Some}
use Rattle.sql_types.specs.declared.sql_type.SqlType.{SqlType}
use Rattle.sql_types.specs.declared.sql_type.SqlType.TheVariants as ty
use Rattle.sql_types.specs.declared.value.Value.TheVariants as v
use Rattle.sql_coerce.specs.declared.arg.Arg.{Arg}
use Rattle.sql_coerce.specs.declared.arg.Kind.TheVariants as kind
use Rattle.sql_builtins.specs.declared.choice.Choice.{Choice}
use Rattle.sql_builtins.specs.declared.sig.SigId.{SigId}
use Rattle.sql_builtins.specs.declared.sig.SigId.TheVariants as sig
use Rattle.sql_builtins.specs.Choices.{chosen, chosen_of}
use Rattle.sql_semantics.specs.TypeForms.{other_arg}
use Rattle.sql_semantics.proofs.Computing.{types, values, opens}

abbrev pub number : ℤ → Arg
number n = record { ty = Some ty.Int64; kind = kind.Literal (v.Int n) }

abbrev pub word : List ℕ → Arg
word text = record { ty = Some ty.Text; kind = kind.Literal (v.Text text) }

abbrev pub truth : Bool → Arg
truth b = record { ty = Some ty.Bool; kind = kind.Literal (v.Bool b) }

abbrev pub no_type : Arg
no_type = record { ty = None; kind = kind.Untyped }

abbrev pub row : SigId → List SqlType → SqlType → Option Choice
row sig targets gives = Some (record { sig = sig; targets = targets; gives = gives })

-- `column = 2`
pub equal_column : (n : ℤ) → chosen (codes "=") (other_arg ty.Int64 ∷ number n ∷ []) ≡ row sig.Equal (ty.Int64 ∷ ty.Int64 ∷ []) ty.Bool
unfolding chosen chosen_of
equal_column n = simp (opens, types, values)

-- `column = column`
pub equal_columns : chosen (codes "=") (other_arg ty.Int64 ∷ other_arg ty.Int64 ∷ []) ≡ row sig.Equal (ty.Int64 ∷ ty.Int64 ∷ []) ty.Bool
unfolding chosen chosen_of
equal_columns = simp (opens, types, values)

pub equal_truths : chosen (codes "=") (other_arg ty.Bool ∷ other_arg ty.Bool ∷ []) ≡ row sig.Equal (ty.Bool ∷ ty.Bool ∷ []) ty.Bool
unfolding chosen chosen_of
equal_truths = simp (opens, types, values)

-- `ERROR('x') = 1`: an untyped argument costs nothing
pub equal_untyped : (n : ℤ) → chosen (codes "=") (no_type ∷ number n ∷ []) ≡ row sig.Equal (ty.Int64 ∷ ty.Int64 ∷ []) ty.Bool
unfolding chosen chosen_of
equal_untyped n = simp (opens, types, values)

pub error_of : (text : List ℕ) → chosen (codes "ERROR") (word text ∷ []) ≡ row sig.Error (ty.Text ∷ []) ty.Int64
unfolding chosen chosen_of
error_of text = simp (opens, types, values)

pub and_of : (b : Bool) → chosen (codes "AND") (truth b ∷ other_arg ty.Bool ∷ []) ≡ row sig.And (ty.Bool ∷ ty.Bool ∷ []) ty.Bool
unfolding chosen chosen_of
and_of b = simp (opens, types, values)

-- a number isn't BOOL: `1 AND TRUE`
pub and_number : chosen (codes "AND") (number (pos 1) ∷ truth true ∷ []) ≡ None
unfolding chosen chosen_of
and_number = simp (opens, types, values)

pub not_number : chosen (codes "NOT") (number (pos 1) ∷ []) ≡ None
unfolding chosen chosen_of
not_number = simp (opens, types, values)

pub not_truth : (b : Bool) → chosen (codes "NOT") (truth b ∷ []) ≡ row sig.Not (ty.Bool ∷ []) ty.Bool
unfolding chosen chosen_of
not_truth b = simp (opens, types, values)

-- two literals: INT64 costs nothing, and UINT64 two coercions
pub plus_numbers : chosen (codes "+") (number (pos 9223372036854775807) ∷ number (pos 1) ∷ []) ≡ row sig.AddInt64 (ty.Int64 ∷ ty.Int64 ∷ []) ty.Int64
unfolding chosen chosen_of
plus_numbers = simp (opens, types, values)

pub plus_column : chosen (codes "+") (other_arg ty.Int64 ∷ number (pos 1) ∷ []) ≡ row sig.AddInt64 (ty.Int64 ∷ ty.Int64 ∷ []) ty.Int64
unfolding chosen chosen_of
plus_column = simp (opens, types, values)

-- `CAST(1 AS UINT64) + -1`: a negative number is no literal
pub plus_unsigned : chosen (codes "+") (other_arg ty.Uint64 ∷ other_arg ty.Int64 ∷ []) ≡ None
unfolding chosen chosen_of
plus_unsigned = simp (opens, types, values)

-- the same with the literal 1
pub plus_unsigned_literal : chosen (codes "+") (other_arg ty.Uint64 ∷ number (pos 1) ∷ []) ≡ row sig.AddUint64 (ty.Uint64 ∷ ty.Uint64 ∷ []) ty.Uint64
unfolding chosen chosen_of
plus_unsigned_literal = simp (opens, types, values)

pub times_columns : chosen (codes "*") (other_arg ty.Int64 ∷ other_arg ty.Int64 ∷ []) ≡ row sig.MultiplyInt64 (ty.Int64 ∷ ty.Int64 ∷ []) ty.Int64
unfolding chosen chosen_of
times_columns = simp (opens, types, values)

pub minus_number : (n : ℤ) → chosen (codes "-") (number n ∷ []) ≡ row sig.Negate (ty.Int64 ∷ []) ty.Int64
unfolding chosen chosen_of
minus_number n = simp (opens, types, values)

pub div_numbers : chosen (codes "DIV") (number (pos 1) ∷ number (pos 0) ∷ []) ≡ row sig.DivInt64 (ty.Int64 ∷ ty.Int64 ∷ []) ty.Int64
unfolding chosen chosen_of
div_numbers = simp (opens, types, values)

pub iferror_number : (n : ℤ) → chosen (codes "IFERROR") (other_arg ty.Int64 ∷ number n ∷ []) ≡ row sig.IfError (ty.Int64 ∷ ty.Int64 ∷ []) ty.Int64
unfolding chosen chosen_of
iferror_number n = simp (opens, types, values)

pub iserror_truth : chosen (codes "ISERROR") (other_arg ty.Bool ∷ []) ≡ row sig.IsError (ty.Bool ∷ []) ty.Bool
unfolding chosen chosen_of
iserror_truth = simp (opens, types, values)

pub substr_of : (text : List ℕ) (n : ℤ) → chosen (codes "SUBSTR") (word text ∷ number n ∷ other_arg ty.Int64 ∷ []) ≡ row sig.SubstrString (ty.Text ∷ ty.Int64 ∷ ty.Int64 ∷ []) ty.Text
unfolding chosen chosen_of
substr_of text n = simp (opens, types, values)

pub plus_columns : chosen (codes "+") (other_arg ty.Int64 ∷ other_arg ty.Int64 ∷ []) ≡ row sig.AddInt64 (ty.Int64 ∷ ty.Int64 ∷ []) ty.Int64
unfolding chosen chosen_of
plus_columns = simp (opens, types)

-- EXTRACT takes any part, and its parts are looked at behind the choice
pub extract_week : (day : ℤ) → chosen (codes "EXTRACT") (word (codes "WEEK") ∷ record { ty = Some ty.Date; kind = kind.Literal (v.Date day) } ∷ []) ≡ row sig.Extract (ty.Text ∷ ty.Date ∷ []) ty.Int64
unfolding chosen chosen_of
extract_week day = simp (opens, types, values)

pub plus_text : chosen (codes "+") (other_arg ty.Text ∷ number (pos 1) ∷ []) ≡ None
unfolding chosen chosen_of
plus_text = simp (opens, types, values)
