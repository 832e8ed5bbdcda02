-- A token that was found, or none.
use Rattle.std.specs.Prelude.{◌≡◌, Option, Some, None}
use denote.Ref.{Bor}
use Rattle.sql_ast.specs.declared.token.Token.{Token}

-- the token that is borrowed is this one, or there is none
abbrev pub IsSingle : Option Token → Option (Bor Token) → Type 0
IsSingle found None = found ≡ None
IsSingle found (Some t) = found ≡ Some t.now
