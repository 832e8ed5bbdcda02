-- STRUCT, whose reader's name no attribute can name.
use Rattle.std.proofs.Common.{refl, sym, ◌∙◌, arith, rules}
use Rattle.std.proofs.lemmas.Grind.{common_steps}
use Rattle.std.proofs.lemmas.Result.{err_from_is_err_and}
use Rattle.sql_names.specs.declared.words.Reserved.TheVariants as r
use Rattle.fronts.specs.Readers.{token}
use Rattle.sql_ast.specs.Marks as spec
use Rattle.sql_grammar.specs.Exprs.{struct}
use Rattle.parse_words.specs.Reads.{from, nested, turns}
use Rattle.parse_words.proofs.Refusals.{refused_as}
use Rattle.parse_expr.proofs.reader.Reader.structure.Goals as goal

pub returns-in_err-word-clause-reads : goal.returns-in_err-word-clause-reads
unfolding struct
returns-in_err-word-clause-reads g c =
    let text = c.args.self.now.tokens.now in
    let w = refused_as text (token (spec.reserved r.Struct) (from text c.args.at)) (struct (turns text) (nested text) (from text c.args.at)) c.in_err-word.field-0.0 (λ rest is. rw is refl) c.in_err-word.ensures.reads in
    let p = err_from_is_err_and c.from_residual.result c.from_residual.ensures.1 in
    first_of (search (rules, w), grind (arith, common_steps, w))

pub returns-then-sees-clause-reads : goal.returns-then-sees-clause-reads
unfolding struct
returns-then-sees-clause-reads g c = rw (c.in_ok-word.ensures.reads, sym c.sees.ensures ∙ c.if-sees.true) c.typed_struct.ensures.reads

pub returns-clause-reads : goal.returns-clause-reads
unfolding struct
returns-clause-reads g c = rw (c.in_ok-word.ensures.reads, sym c.sees.ensures ∙ c.if-sees.false) c.plain_struct.ensures.reads
