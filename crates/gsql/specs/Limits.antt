-- The limits: their names, and their numbers.
use Rattle.std.specs.Prelude.{ℕ, List, codes}
use Rattle.gsql.specs.declared.status.LimitName.{LimitName}
use Rattle.gsql.specs.declared.status.LimitName.TheVariants as limit

abbrev pub name_of : LimitName → List ℕ
name_of limit.QueryBytes = codes "QueryBytes"
name_of limit.CatalogBytes = codes "CatalogBytes"
name_of limit.TableBytes = codes "TableBytes"
name_of limit.Nest = codes "Nest"
name_of limit.Depth = codes "Depth"
name_of limit.Weight = codes "Weight"
name_of limit.Sets = codes "Sets"
name_of limit.Printed = codes "Printed"

-- bytes of a catalog
abbrev pub catalog_bytes : ℕ
catalog_bytes = 16777216

-- bytes of a query
abbrev pub query_bytes : ℕ
query_bytes = 1048576

-- bytes of a table file
abbrev pub table_bytes : ℕ
table_bytes = 67108864

-- the depth of a query, and its weight
abbrev pub deep : ℕ
deep = 400

abbrev pub heavy : ℕ
heavy = 200000

-- brackets that are open at one token
abbrev pub nested : ℕ
nested = 200
