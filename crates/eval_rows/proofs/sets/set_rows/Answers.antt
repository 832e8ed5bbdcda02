use Rattle.std.proofs.Common.{◌∙◌, ap}
use Rattle.std.specs.List.{flat_map, list_all}
use Rattle.eval_rows.specs.Counts.{shown, rows_of, is_whole}
use Rattle.eval_rows.proofs.SetLaws.{set_combines, set_fits, behind_first, first_whole, others_whole}
use Rattle.eval_rows.proofs.sets.set_rows.Goals as goal

pub combined-requires : goal.combined-requires
combined-requires c =
    let operands = c.args.operands.now in
    let first = c.first-item.result in
    let keys = c.in_ok-keys-in-len1-up.keys.items in
    record {
      first = ap (λ z. list_all (is_whole z) first.rows) c.as_slice.ensures.value ∙ first_whole first keys c.len.result c.len.ensures c.in_ok-keys-in-len1-up.ensures;
      others = ap (λ z. list_all (is_whole z) (flat_map rows_of (behind_first operands))) c.as_slice.ensures.value
          ∙ others_whole operands first keys c.len.result c.requires.some c.first-item.is c.len.ensures c.requires.alike c.in_ok-keys-in-len1-up.ensures;
    }

pub invariant_of-result : goal.invariant_of-result
invariant_of-result c = record {
  fitting =
      set_fits c.args.kind c.args.operands.now c.first-item.result c.in_ok-columns-in-len1-up.columns c.in_ok-rows-in-len1-up.rows (shown c.in_ok-list-in-len1-up.list.items) c.requires.some c.first-item.is
      c.requires.alike c.in_ok-columns-in-len1-up.ensures (c.in_ok-rows-in-len1-up.ensures ∙ ap shown c.as_slice-in-len1-up.ensures.value) c.in_ok-list-in-len1-up.ensures;
}

pub returns-clause-rows : goal.returns-clause-rows
returns-clause-rows c =
    set_combines c.args.kind c.args.operands.now c.first-item.result _ (shown c.in_ok-list-in-len1-up.list.items) c.requires.some c.first-item.is c.in_ok-list-in-len1-up.ensures
    (c.in_ok-rows-in-len1-up.ensures ∙ ap shown c.as_slice-in-len1-up.ensures.value)
