-- A spelling names what its level says over its parts.
use Rattle.std.proofs.Common.{◌≡◌, Ok, Err, ap, sym, ◌∙◌}
use Rattle.std.proofs.lemmas.Result.{err_from_is_err_and}
use Rattle.sql_types.specs.declared.sql_type.SqlType.TheVariants as ty
use Rattle.sql_ast.specs.declared.type_spelling.TypeSpelling.{TypeSpelling, out-TypeSpelling}
use Rattle.sql_ast.specs.declared.type_spelling.TypeSpelling.TheOpen as layer
use Rattle.sql_ast.specs.declared.type_spelling.TypeSpelling.TheVariants as spelling
use Rattle.written_types.specs.Checks.{◌>>=◌}
use Rattle.written_types.specs.TypeNames.{array_type, written_type}
use Rattle.written_types.specs.Written.{written_fields}
use Rattle.written_types.proofs.WrittenLaws.{written_at, written_opens, refused_then, answered_as}
use Rattle.written_types.proofs.spellings.+types.Goals as goal

by_parts : (x : TypeSpelling) (a : layer.TypeSpelling-F TypeSpelling) → out-TypeSpelling x ≡ a → written_type x ≡ written_at a
by_parts x a e = written_opens x ∙ ap written_at e

pub type_of-returns-in-Name : goal.type_of-returns-in-Name
type_of-returns-in-Name t c =
    let is = by_parts c.args.spelling.now (layer.Name c.in-Name.name) (ap out-TypeSpelling c.in-Name.is ∙ spelling.outs-Name c.in-Name.name) in
    answered_as (written_type c.args.spelling.now) _ c.named_type.result is c.named_type.ensures

pub type_of-returns-in_ok-element-in-Array : goal.type_of-returns-in_ok-element-in-Array
type_of-returns-in_ok-element-in-Array t c =
    let is = by_parts c.args.spelling.now (layer.Array c.in-Array.element c.in-Array.place) (ap out-TypeSpelling c.in-Array.is ∙ spelling.outs-Array c.in-Array.element c.in-Array.place) in
    let element = ap written_type (sym c.get.ensures) ∙ c.in_ok-element-in-Array.ensures in
    answered_as (written_type c.args.spelling.now) _ c.array_type.result (is ∙ ap (λ m. m >>= array_type c.in-Array.place) element) c.array_type.ensures

pub type_of-returns-in_err-element-in-Array : goal.type_of-returns-in_err-element-in-Array
type_of-returns-in_err-element-in-Array t c =
    let is = by_parts c.args.spelling.now (layer.Array c.in-Array.element c.in-Array.place) (ap out-TypeSpelling c.in-Array.is ∙ spelling.outs-Array c.in-Array.element c.in-Array.place) in
    let same = is ∙ ap (λ e. written_type e >>= array_type c.in-Array.place) (sym c.get.ensures) in
    let e = c.in_err-element-in-Array.field-0.0 in
    let p = err_from_is_err_and c.from_residual.result c.from_residual.ensures.1 in
    rw (p.1, p.2) (answered_as (written_type c.args.spelling.now) _ (Err e) same (refused_then (written_type c.get.result.now) (array_type c.in-Array.place) e c.in_err-element-in-Array.ensures))

pub type_of-returns-in_ok-field_types-in-Struct : goal.type_of-returns-in_ok-field_types-in-Struct
type_of-returns-in_ok-field_types-in-Struct t c =
    let is = by_parts c.args.spelling.now (layer.Struct c.in-Struct.fields c.in-Struct.place) (ap out-TypeSpelling c.in-Struct.is ∙ spelling.outs-Struct c.in-Struct.fields c.in-Struct.place) in
    is ∙ ap (λ m. m >>= (λ types. Ok (ty.Struct types))) c.in_ok-field_types-in-Struct.ensures

pub type_of-returns-in_err-field_types-in-Struct : goal.type_of-returns-in_err-field_types-in-Struct
type_of-returns-in_err-field_types-in-Struct t c =
    let is = by_parts c.args.spelling.now (layer.Struct c.in-Struct.fields c.in-Struct.place) (ap out-TypeSpelling c.in-Struct.is ∙ spelling.outs-Struct c.in-Struct.fields c.in-Struct.place) in
    let e = c.in_err-field_types-in-Struct.field-0.0 in
    let p = err_from_is_err_and c.from_residual-in_err-field_types-in-Struct.result c.from_residual-in_err-field_types-in-Struct.ensures.1 in
    rw (p.1, p.2) (answered_as (written_type c.args.spelling.now) _ (Err e) is (refused_then (written_fields c.in-Struct.fields) (λ types. Ok (ty.Struct types)) e c.in_err-field_types-in-Struct.ensures))
