-- The lists are alike exactly where what is left of them is.
use Rattle.std.proofs.Common.{◌≡◌, ◌↔◌, map, drop}
use Rattle.sql_same.proofs.alike.ItemsAlike.alike.Given as goal

abbrev pub invariant-loop-part : goal.invariant-loop-part
invariant-loop-part g l = (map g.P.Alike.bare (drop l.part-index l.self) ≡ map g.P.Alike.bare l.rest) ↔ (map g.P.Alike.bare l.self ≡ map g.P.Alike.bare l.other)
