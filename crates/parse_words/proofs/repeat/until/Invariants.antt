use Rattle.std.proofs.Common.{ℕ, ◌≡◌, ◌≤◌, ◌-◌, length}
use Rattle.sql_grammar.specs.Ways.{Ended, Parser, until}
use Rattle.parse_words.specs.Marked.{marked}
use Rattle.parse_words.specs.Reads.{from, turns, Reads}
use Rattle.parse_words.proofs.Loops.{Ending}
use Rattle.parse_words.proofs.repeat.until.Given as goal

abbrev pub invariant-items : goal.invariant-items
invariant-items g l = record {
  moved : l.fn.at ≤ l.at;
  stays : l.at ≡ l.fn.at → l.found ≡ l.fn.found;
  going : (reader : Parser (Ended _ _)) → ((place : ℕ) (r : _) → goal.F-post g l.item place r → Reads l.tokens (reader (from l.tokens place)) r)
      → Ending l.tokens.list (marked l.mark) reader (until (marked l.mark) reader (turns l.tokens) l.fn.found (from l.tokens l.fn.at)) l.found l.at;
}

abbrev pub decreases-items : goal.decreases-items
decreases-items g l = length l.tokens.list - l.at
