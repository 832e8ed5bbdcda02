-- A number of 64 bits is printed with all its digits.
use Rattle.std.proofs.Common.{rules, arith}
use Rattle.resolved_ast.proofs.NumeralLaws.{decimal_numeral}
use Rattle.resolved_ast.proofs.spelled.write_number.Goals as goal

pub returns : goal.returns
returns c = search (rules, decimal_numeral c.args.number (omega arith))
