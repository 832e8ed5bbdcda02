use Rattle.std.proofs.Common.{ℕ, ◌≡◌, ◌≤◌, ◌-◌, Option, length}
use Rattle.sql_grammar.specs.Ways.{Parser, following}
use Rattle.parse_words.specs.Reads.{from, turns, Reads}
use Rattle.parse_words.proofs.Loops.{Followed}
use Rattle.parse_words.proofs.repeat.following.Given as goal

abbrev pub invariant-items : goal.invariant-items
invariant-items g l = record {
  moved : l.fn.at ≤ l.at;
  going : (reader : _ → Parser (_ × Option _)) → ((place : ℕ) (x : _) (r : _) → goal.F-post g l.item place x r → Reads l.tokens (reader x (from l.tokens place)) r)
      → Followed l.tokens.list reader (following reader (turns l.tokens) l.fn.found l.fn.next (from l.tokens l.fn.at)) l.found l.next l.at;
}

abbrev pub decreases-items : goal.decreases-items
decreases-items g l = length l.tokens.list - l.at
