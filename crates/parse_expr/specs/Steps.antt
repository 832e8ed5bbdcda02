-- One reader and then another.
use Rattle.fronts.specs.Readers.{and_then}
use Rattle.sql_grammar.specs.Ways.{Parser}

-- a reader, and then the one that what was read leads to
abbrev pub followed : {A B : Type 0} → Parser A → (A → Parser B) → Parser B
followed p f = λ ts. and_then (p ts) f
