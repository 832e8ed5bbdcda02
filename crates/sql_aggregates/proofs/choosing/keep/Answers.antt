use Rattle.std.proofs.Common.{rules, ◌≡◌, ◌∙◌, true, not, sym, ap}
use Rattle.std.specs.List.{filter}
use Rattle.std.proofs.lemmas.Fn.{filter_same}
use Rattle.sql_aggregates.specs.Lists.{null_argument, kept}
use Rattle.sql_aggregates.proofs.ChoosingLaws.{nulls_left_out}
use Rattle.sql_aggregates.proofs.choosing.keep.Goals as goal

pub returns : goal.returns
returns c =
    let skips : c.args.skips ≡ true = search rules in
    let left : c.retain.new.self.items ≡ filter (λ list. not (null_argument list)) c.args.lists.items
    = filter_same _ _ _ (λ x b f k. (search rules, search rules)) _ _ c.retain.ensures.filtered in
    left ∙ nulls_left_out c.args.lists.items ∙ sym (ap (λ b. kept b c.args.lists.items) skips)
