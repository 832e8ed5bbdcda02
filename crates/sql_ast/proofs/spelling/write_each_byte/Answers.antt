-- One byte more is written.
use Rattle.std.proofs.Common.{get_or, refl, arith}
use Rattle.std.proofs.lemmas.List.{get_or_default}
use Rattle.sql_names.proofs.Written.{InPieces, wrote_more}
use Rattle.sql_ast.specs.Literals.{byte_text, bytes_text}
use Rattle.sql_ast.proofs.spelling.write_each_byte.Goals as goal

bytes_in_pieces : InPieces bytes_text byte_text
bytes_in_pieces = record { none = refl; more = λ x xs. refl }

pub loop-byte-preserved : goal.loop-byte-preserved
loop-byte-preserved c =
    wrote_more bytes_in_pieces c.args.bytes.now c.loop-byte.byte-index (get_or c.args.bytes.now c.loop-byte.byte-index 0) (omega arith) (get_or_default c.args.bytes.now c.loop-byte.byte-index 0 _ (omega arith)) c.args.out.now.items c.loop-byte.out.items
    c.write_byte.new.out.items c.in_ok-write_byte.ensures c.loop-byte.invariant
