use Rattle.std.proofs.Common.{rules, to_z, of_z, w32, w64, ◌≡◌, ◌∙◌, ap, sym, ℤ}
use Rattle.std.specs.Int.{w128}
use Rattle.sql_types.specs.declared.sql_type.SqlType.{out-SqlType}
use Rattle.sql_types.specs.declared.value.Value.{out-Value}
use Rattle.sql_types.specs.declared.value.Value.TheVariants as value
use Rattle.sql_coerce.specs.Casts.{plain_cast, cast_date, cast_integer}
use Rattle.sql_coerce.proofs.ByValue.{answers_along}
use Rattle.sql_coerce.proofs.casts.cast_plain.Goals as goal

pub returns-in-Date : goal.returns-in-Date
returns-in-Date c =
    let day : to_z w32 (of_z w32 c.in-Date.day) ≡ c.in-Date.day = search rules in
    let value = ap out-Value c.in-Date.is ∙ value.outs-Date c.in-Date.day in
    let cast = λ (n : ℤ). cast_date n (out-SqlType c.args.to.now) in
    answers_along _ _ c.cast_date.result (ap (λ x. plain_cast x (out-SqlType c.args.to.now)) value ∙ ap cast (sym day)) c.cast_date.ensures

pub returns-in-Int : goal.returns-in-Int
returns-in-Int c =
    let read : to_z w64 (of_z w64 c.in-Int.number) ≡ c.in-Int.number = search rules in
    let wide : to_z w128 (of_z w128 c.from.result) ≡ c.from.result = search rules in
    let value = ap out-Value c.in-Int.is ∙ value.outs-Int c.in-Int.number in
    let cast = λ (n : ℤ). cast_integer n (out-SqlType c.args.to.now) in
    answers_along _ _ c.cast_integer.result (ap (λ x. plain_cast x (out-SqlType c.args.to.now)) value ∙ ap cast (sym (wide ∙ c.from.ensures ∙ read))) c.cast_integer.ensures

pub returns-in-Uint : goal.returns-in-Uint
returns-in-Uint c =
    let wide : to_z w128 (of_z w128 c.from-in-Uint.result) ≡ c.from-in-Uint.result = search rules in
    let value = ap out-Value c.in-Uint.is ∙ value.outs-Uint c.in-Uint.number in
    let cast = λ (n : ℤ). cast_integer n (out-SqlType c.args.to.now) in
    answers_along _ _ c.cast_integer-in-Uint.result (ap (λ x. plain_cast x (out-SqlType c.args.to.now)) value ∙ ap cast (sym (wide ∙ c.from-in-Uint.ensures))) c.cast_integer-in-Uint.ensures
