use Rattle.std.proofs.Common.{◌-◌, ◌+◌, ◌≡◌, ◌≤◌, false, vec_len}
use Rattle.std.specs.Io.KnownBytes.{Consumes}
use Rattle.gsql_io.proofs.whole.read_rest.Given as goal

abbrev pub invariant-loop-buf : goal.invariant-loop-buf
invariant-loop-buf g l =
    record {
      within : vec_len l.bytes ≤ l.limit + 1;
      consumed : Consumes (g.I.Inputs.left l.fn.inputs) (g.I.Inputs.left l.inputs) l.bytes.items;
      same_begun : g.I.Inputs.begun l.inputs ≡ g.I.Inputs.begun l.fn.inputs;
      same_content : g.I.Inputs.content l.inputs ≡ g.I.Inputs.content l.fn.inputs;
      whole : g.I.Inputs.broken l.inputs ≡ false;
      stays : g.I.Inputs.faults l.inputs ≡ g.I.Inputs.faults l.fn.inputs;
    }

abbrev pub decreases-loop-buf : goal.decreases-loop-buf
decreases-loop-buf g l = l.limit + 1 - vec_len l.bytes
