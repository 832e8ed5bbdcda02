use Rattle.std.proofs.Common.{sym, ap, ◌∙◌}
use Rattle.std.specs.Prelude.{option_map}
use Rattle.sql_builtins.specs.Steps.{ends_open}
use Rattle.sql_builtins.proofs.PlaceLaws.{places-ends_open}
use Rattle.sql_builtins.proofs.candidates.better_row.Goals as goal

pub better_at-requires-clause-ends : goal.better_at-requires-clause-ends
better_at-requires-clause-ends c =
    ap ends_open c.as_slice.ensures.value
    ∙ places-ends_open c.args.row.now.repeats c.args.row.now.takes.now _ c.in-Some.slots.items (sym c.in_ok-slots.ensures ∙ ap (option_map (λ s. s.items)) c.in-Some.is) c.requires
