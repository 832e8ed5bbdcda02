-- Two written types are alike as their law says.
use Rattle.std.proofs.Common.{ap, ◌∙◌, arith}
use Rattle.std.proofs.lemmas.Grind.{common_steps}
use Rattle.sql_ast.specs.declared.type_spelling.TypeSpelling.{out-TypeSpelling}
use Rattle.sql_ast.specs.declared.type_spelling.TypeSpelling.TheVariants as v
use Rattle.sql_same.proofs.TypeLaws.{type_by, type_only_Name, type_only_Array, type_only_Struct}
use Rattle.sql_same.proofs.alike_names.TypeSpellingAlike.+alike.Goals as goal

pub returns-in-Name-other : goal.returns-in-Name-other
returns-in-Name-other t c = type_by _ _ _ _ _ (ap out-TypeSpelling c.in-Name.is ∙ v.outs-Name _) (ap out-TypeSpelling c.in-Name-other.is ∙ v.outs-Name _) (grind (arith, common_steps))

pub returns-in-Array-other : goal.returns-in-Array-other
returns-in-Array-other t c = type_by _ _ _ _ _ (ap out-TypeSpelling c.in-Array.is ∙ v.outs-Array _ _) (ap out-TypeSpelling c.in-Array-other.is ∙ v.outs-Array _ _) (grind (arith, common_steps))

pub returns-in-Struct-other : goal.returns-in-Struct-other
returns-in-Struct-other t c = type_by _ _ _ _ _ (ap out-TypeSpelling c.in-Struct.is ∙ v.outs-Struct _ _) (ap out-TypeSpelling c.in-Struct-other.is ∙ v.outs-Struct _ _) (grind (arith, common_steps))

pub returns-in_default : goal.returns-in_default
returns-in_default t c = type_only_Name _ _ _ c.in-Name.is c.in_default.not-Name

pub returns-in_default-other : goal.returns-in_default-other
returns-in_default-other t c = type_only_Array _ _ _ _ c.in-Array.is c.in_default-other.not-Array

pub returns-in_default-other-2 : goal.returns-in_default-other-2
returns-in_default-other-2 t c = type_only_Struct _ _ _ _ c.in-Struct.is c.in_default-other-2.not-Struct
