use Rattle.std.proofs.Common.{◌+◌, refl, sym, ◌∙◌, ap}
use Rattle.std.proofs.lemmas.List.{take_rest}
use Rattle.std.specs.Prelude.{option_map}
use Rattle.sql_ast.specs.Values.{escape}
use Rattle.sql_lexer.specs.Escapes.{escape_of}
use Rattle.sql_lexer.proofs.Unescape.{is_backslash, goes_escape}
use Rattle.sql_lexer.proofs.escape.unescape.Goals as goal

pub bytes-preserved : goal.bytes-preserved
bytes-preserved c =
    let rest = take_rest c.args.bytes.now (c.bytes.at + 1) in
    goes_escape c.args.kind c.args.bytes.now c.bytes.at c.bytes.read.items c.bytes.invariant c.bytes-test.true (is_backslash _ (c.if-bytes-at-ne92.false))
    (escape_of c.in-Some.escape) (ap (escape c.args.kind) (sym rest) ∙ sym (c.escape_at_start.ensures.value) ∙ ap (option_map escape_of) (c.in-Some.is))
    (rw rest at (c.in-Some.ensures.within)) (c.bytes.at + (1 + c.in-Some.escape.size)) refl c.put.new.bytes.items (c.in_ok-put-in-Some.ensures)
