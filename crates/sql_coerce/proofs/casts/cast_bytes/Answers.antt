use Rattle.std.proofs.Common.{◌∙◌, sym, ap, subst, List, ℕ}
use Rattle.std.specs.Prelude.{Ok}
use Rattle.std.specs.Str.{IsUtf8}
use Rattle.sql_types.specs.Outcome.{Outcome}
use Rattle.sql_types.specs.declared.value.Value.{Value}
use Rattle.sql_types.specs.declared.value.Value.TheVariants as value
use Rattle.sql_coerce.proofs.CastLaws.{bytes_text, bytes_fault}
use Rattle.sql_coerce.proofs.casts.cast_bytes.Goals as goal

pub returns-in_ok-copy_of-in-Ok : goal.returns-in_ok-copy_of-in-Ok
returns-in_ok-copy_of-in-Ok c =
    let read = c.in-Ok.ensures.cases in
    let whole = c.as_slice-in-Text.ensures in
    let text = λ (bytes : List ℕ). let ok : Outcome Value = Ok (value.Text bytes) in ok in
    ap text (c.in_ok-copy_of-in-Ok.ensures ∙ read.0 ∙ whole)
    ∙ sym (bytes_text c.args.to.now c.args.bytes.now c.in-Text.is (subst (λ (bytes : List ℕ). IsUtf8 bytes) whole read.1))

pub returns-in-Err : goal.returns-in-Err
returns-in-Err c =
    let whole = c.as_slice-in-Text.ensures in
    sym (bytes_fault c.args.to.now c.args.bytes.now c.in-Text.is (subst (λ (bytes : List ℕ). ¬ IsUtf8 bytes) whole c.in-Err.ensures.cases.0))
