-- The copies so far are the first of the tokens.
use Rattle.std.proofs.Common.{◌≡◌, take}
use Rattle.parse_fronts.proofs.copies.first_tokens.Given as goal

abbrev pub invariant-loop-token : goal.invariant-loop-token
invariant-loop-token l = l.front.list ≡ take l.token-index l.token-items
