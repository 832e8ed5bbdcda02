-- The list alone, where nothing goes on behind it, and a longer expression else.
use Rattle.std.proofs.Common.{◌≡◌, subst, arith}
use Rattle.fronts.specs.Readers.{taken}
use Rattle.sql_ast.specs.declared.expr.Expr.{Expr}
use Rattle.sql_grammar.specs.Exprs.{expr_after}
use Rattle.parse_words.specs.Reads.{from, nested, turns}
use Rattle.parse_groups.proofs.ItemLaws.{at_the_end, goes_on}
use Rattle.parse_groups.proofs.groupings.list_item.Goals as goal

pub returns-then-at-len-clause-reads : goal.returns-then-at-len-clause-reads
returns-then-at-len-clause-reads g c = rw (c.in_ok-item.ensures) (at_the_end c.args.reader.now.tokens.now c.args.place c.args.list c.args.at (omega arith))

pub returns-then-at-end-clause-reads : goal.returns-then-at-end-clause-reads
returns-then-at-end-clause-reads g c =
    let text = c.args.reader.now.tokens.now in
    let is = subst (λ (a : Expr). expr_after (turns text) (nested text) c.args.place a (from text c.args.at) ≡ taken c.in_ok-expr.expr (from text c.in_ok-expr.end)) c.in_ok-first.ensures c.in_ok-expr.ensures.reads in
    rw (c.in_ok-item-2.ensures) (goes_on text c.args.place c.args.list c.args.at c.in_ok-expr.end c.in_ok-expr.expr is (omega arith) (omega arith))
