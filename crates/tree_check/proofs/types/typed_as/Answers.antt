-- With no part left, nothing more is asked.
use Rattle.std.proofs.Common.{◌≡◌, true, List, [], ◌∷◌, map, refl, sym, ap, ◌∙◌}
use Rattle.std.proofs.lemmas.List.{drop_all}
use Rattle.sql_types.specs.declared.sql_type.SqlType.{SqlType}
use Rattle.resolved_ast.specs.Signatures.{typed_as}
use Rattle.tree_check.proofs.types.typed_as.Goals as goal

none_left : (types : List SqlType) → true ≡ typed_as types []
none_left [] = refl
none_left (t ∷ types) = refl

pub returns : goal.returns
returns g c =
    let l = c.loop-part in
    let none = drop_all l.part-index c.args.parts.now c.loop-part-test.false in
    none_left (map g.T.Typed.type_of l.rest.now) ∙ ap (λ xs. typed_as (map g.T.Typed.type_of l.rest.now) (map g.P.Typed.type_of xs)) (sym none) ∙ l.invariant
