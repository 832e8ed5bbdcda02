use Rattle.std.proofs.Common.{◌≡◌, sym, subst, IsUtf8, rules}
use Rattle.sql_types.specs.Calendar.{date_text}
use Rattle.sql_types.proofs.DateTextLaws.{utf8-date_text}
use Rattle.sql_types.proofs.date_texts.date_text.Goals as goal

pub unreachable-requires : goal.unreachable-requires
unreachable-requires c =
    let text : c.write_date.new.out.items ≡ date_text c.args.days = search rules in
    let utf8 : IsUtf8 c.write_date.new.out.items = subst IsUtf8 (sym text) (utf8-date_text c.args.days c.requires) in
    let ok = c.in-Err.ensures.succeeds utf8 in
    cc
