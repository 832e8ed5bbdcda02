-- What the files of the host tell.
use Rattle.std.specs.Prelude.{ℕ, List, [], Bool, Option, None, Some}

-- Files of the host. Nothing is told of what they hold.
pub record HostState : Type 0 where
  -- The name that was handed to the last `begin`.
  pub begun : Option (List ℕ)
  -- The last `begin`, or a `read` after it, failed.
  pub broken : Bool
  -- What is unread of the file that was begun last: nothing where none is open, and else not told.
  pub left : Option (List ℕ)
  -- How many calls failed, up to the counter's last value.
  pub faults : ℕ

-- Nothing is left where no file is open, and what is left of an open file is not told.
abbrev pub left_of : {F : Type 0} → Option F → Option (List ℕ)
left_of None = Some []
left_of (Some file) = None

-- Bytes that are not told.
abbrev pub untold : Option (List ℕ)
untold = None
