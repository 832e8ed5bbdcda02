use Rattle.std.proofs.lemmas.List.{take_rest}
use Rattle.sql_strings.proofs.SearchLaws.{bytes-cut, bytes-uncut}
use Rattle.sql_strings.proofs.search.cut_bytes.Goals as goal

pub returns-in_err-before-clause-pieces : goal.returns-in_err-before-clause-pieces
returns-in_err-before-clause-pieces c = rw c.from_residual.ensures (bytes-uncut c.args.separator.now c.args.content.now c.in_err-before.ensures)

pub returns-clause-pieces : goal.returns-clause-pieces
returns-clause-pieces c =
    rw take_rest (bytes-cut c.args.separator.now c.args.content.now c.in_ok-before.before c.requires c.in_ok-before.ensures)
