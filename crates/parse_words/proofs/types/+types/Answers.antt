use Rattle.std.proofs.Common.{◌≡◌, suc, ◌-◌, sym, ◌∙◌, refl, arith, rules}
use Rattle.std.proofs.lemmas.Grind.{common_steps}
use Rattle.std.proofs.lemmas.Result.{err_from_is_err_and}
use Rattle.fronts.proofs.Places.{begin, go_on}
use Rattle.sql_ast.specs.declared.words.Sign.TheVariants as sign
use Rattle.sql_ast.specs.Marks as spec
use Rattle.sql_grammar.specs.Classes.{a_type_name, an_array_type, a_struct_type, no_type}
use Rattle.sql_grammar.specs.Words as words
use Rattle.sql_grammar.specs.Words.{struct_type}
use Rattle.parse_words.specs.Reads.{from, turns}
use Rattle.parse_words.proofs.Loops.{item_refused}
use Rattle.parse_words.proofs.Refusals.{refused_here}
use Rattle.parse_words.proofs.TypeLevels.{type_levels}
use Rattle.parse_words.proofs.types.+types.Goals as goal

pub comma_fields-fields-init : goal.comma_fields-fields-init
comma_fields-fields-init t c = record {
  moved = omega arith;
  going = begin c.args.tokens.now.list (spec.sign sign.Comma) (words.comma_field (turns c.args.tokens.now) (words.starts_type c.args.levels) (words.type_at (turns c.args.tokens.now) c.args.levels)) c.args.found c.args.at;
}

pub comma_fields-fields-preserved : goal.comma_fields-fields-preserved
comma_fields-fields-preserved t c = let up = c.in_ok-next.ensures.moves in record {
  moved = omega arith;
  going = go_on c.args.tokens.now.list (spec.sign sign.Comma) (words.comma_field (turns c.args.tokens.now) (words.starts_type c.args.levels) (words.type_at (turns c.args.tokens.now) c.args.levels)) _ c.fields.found c.fields.at c.fields.invariant.going
      (sym c.sees.ensures ∙ c.fields-test.true) c.in_ok-next.next c.in_ok-next.behind c.in_ok-next.ensures.moves c.in_ok-next.ensures.reads _ c.in_ok-push.ensures.ok;
}

pub comma_fields-returns-in_err-next-clause-reads : goal.comma_fields-returns-in_err-next-clause-reads
comma_fields-returns-in_err-next-clause-reads t c =
    let w = item_refused c.args.tokens.now (spec.sign sign.Comma) (words.comma_field (turns c.args.tokens.now) (words.starts_type c.args.levels) (words.type_at (turns c.args.tokens.now) c.args.levels)) _ c.fields.found c.fields.at c.fields.invariant.going
    (sym c.sees.ensures ∙ c.fields-test.true) c.in_err-next.field-0.0 c.in_err-next.ensures.reads in
    let p = err_from_is_err_and c.from_residual.result c.from_residual.ensures.1 in
    first_of (search (rules, w), grind (arith, common_steps, w))

pub struct_type-returns-clause-reads : goal.struct_type-returns-clause-reads
unfolding struct_type
struct_type-returns-clause-reads t c = rw (c.in_ok-word.ensures.reads, c.in_ok-at.ensures.reads, c.in_ok-fields.ensures.reads) refl

pub type_at-returns-in-Name-clause-reads : goal.type_at-returns-in-Name-clause-reads
type_at-returns-in-Name-clause-reads t c =
    let up : c.args.levels ≡ suc (c.args.levels - 1) = omega arith in
    let e = type_levels (turns c.args.tokens.now) c.args.levels (c.args.levels - 1) up (from c.args.tokens.now c.args.at) a_type_name c.in-Name.ensures in
    rw e c.type_name-in-Name.ensures.reads

pub type_at-returns-in-Array-clause-reads : goal.type_at-returns-in-Array-clause-reads
type_at-returns-in-Array-clause-reads t c =
    let up : c.args.levels ≡ suc (c.args.levels - 1) = omega arith in
    let e = type_levels (turns c.args.tokens.now) c.args.levels (c.args.levels - 1) up (from c.args.tokens.now c.args.at) an_array_type c.in-Array.ensures in
    rw e c.array_type.ensures.reads

pub type_at-returns-in-Struct-clause-reads : goal.type_at-returns-in-Struct-clause-reads
type_at-returns-in-Struct-clause-reads t c =
    let up : c.args.levels ≡ suc (c.args.levels - 1) = omega arith in
    let e = type_levels (turns c.args.tokens.now) c.args.levels (c.args.levels - 1) up (from c.args.tokens.now c.args.at) a_struct_type c.in-Struct.ensures in
    rw e c.struct_type.ensures.reads

pub type_at-returns-in-Other-clause-reads : goal.type_at-returns-in-Other-clause-reads
type_at-returns-in-Other-clause-reads t c =
    let up : c.args.levels ≡ suc (c.args.levels - 1) = omega arith in
    let e = type_levels (turns c.args.tokens.now) c.args.levels (c.args.levels - 1) up (from c.args.tokens.now c.args.at) no_type c.in-Other.ensures in
    refused_here c.args.tokens.now (from c.args.tokens.now c.args.at) _ c.refusal_at.result e c.refusal_at.ensures
