-- The names that items of FROM bring.
use Rattle.std.specs.Prelude.{ℕ, suc, ◌+◌, Bool, not, ◌==◌, if◌then◌else◌, List, [], ◌∷◌, ◌++◌, map, length, slice_get, codes, Option, None, Some, option_and_then, Ok}
use Rattle.std.specs.List.{filter, list_any}
use Rattle.sql_types.specs.declared.sql_type.Named.{Named}
use Rattle.sql_types.specs.declared.sql_type.SqlType.{SqlType, out-SqlType}
use Rattle.sql_types.specs.declared.sql_type.SqlType.TheVariants as ty
use Rattle.sql_types.specs.declared.sql_type.SqlType.TheOpen as t
use Rattle.sql_names.specs.Words.{same_name}
use Rattle.sql_ast.specs.declared.clauses.Name.{Name}
use Rattle.sql_ast.specs.declared.clauses.WithOffset.{WithOffset}
use Rattle.sql_rules.specs.declared.scope.Entry.{Entry}
use Rattle.sql_rules.specs.declared.scope.Member.{Member}
use Rattle.sql_rules.specs.declared.scope.What.{What}
use Rattle.sql_rules.specs.declared.scope.What.TheVariants as what
use Rattle.sql_rules.specs.Scopes.{is_range, columns}
use Rattle.sql_rules.specs.Tables.{column_entries, members_from}
use Rattle.written_types.specs.Checks.{Checked, ◌>>=◌, broken}
use Rattle.sql_semantics.specs.TypeForms.{other_arg, compared_type}

-- The names of an item of FROM, or of several: a scope, and the places of its columns in the order of `*`.
pub record FromScope : Type 0 where
  pub scope : List Entry
  pub star : List ℕ

abbrev pub no_from : FromScope
no_from = record { scope = []; star = [] }

-- so many numbers from a number on
abbrev pub numbers : {A : Type 0} → ℕ → List A → List ℕ
numbers at [] = []
numbers at (x ∷ xs) = at ∷ numbers (suc at) xs

abbrev pub column_entry : Option (List ℕ) → SqlType → Entry
column_entry name type = record { name = name; what = what.Column; ty = Some type }

abbrev pub range_entry : Option (List ℕ) → List Member → List Entry
range_entry None members = []
range_entry (Some range) members = record { name = Some range; what = what.Range members; ty = None } ∷ []

-- a table, a view, a CTE or a subquery: its columns, and the range variable that reaches them, where there is one
abbrev pub columns_scope : Option (List ℕ) → List (Named SqlType) → FromScope
columns_scope range columns = record { scope = column_entries columns ++ range_entry range (members_from 0 columns); star = numbers 0 columns }

-- ---- UNNEST and paths

abbrev pub fields_layer : t.SqlType-F SqlType → Option (List (Named SqlType))
fields_layer (t.Struct fields) = Some fields
fields_layer _ = None

-- the column of the offset, by its alias or `offset`
abbrev pub offset_name : Option Name → List ℕ
offset_name None = codes "offset"
offset_name (Some name) = name.text

abbrev pub offset_entries : Option WithOffset → List Entry
offset_entries None = []
offset_entries (Some offset) = column_entry (Some (offset_name offset.alias)) ty.Int64 ∷ []

-- The alias names the element, and the fields of a STRUCT are columns too. In `*` stand these fields, or for another element
-- the element, and then the offset.
abbrev pub element_scope : Option (List ℕ) → SqlType → Option (List (Named SqlType)) → Option WithOffset → FromScope
element_scope alias element (Some fields) offset = record {
  scope = column_entry alias element ∷ (column_entries fields ++ offset_entries offset);
  star = numbers 1 fields ++ numbers (suc (length fields)) (offset_entries offset);
}
element_scope alias element None offset = record {
  scope = column_entry alias element ∷ offset_entries offset;
  star = 0 ∷ numbers 1 (offset_entries offset);
}

abbrev pub unnest_scope : Option (List ℕ) → SqlType → Option WithOffset → FromScope
unnest_scope alias element offset = element_scope alias element (fields_layer (out-SqlType element)) offset

-- ---- joins

-- the places in a scope, when it stands behind so many entries
abbrev pub shifted_member : ℕ → Member → Member
shifted_member n m = record { name = m.name; slot = n + m.slot }

abbrev pub shifted_what : ℕ → What → What
shifted_what n (what.Range members) = what.Range (map (shifted_member n) members)
shifted_what n w = w

abbrev pub shifted : ℕ → Entry → Entry
shifted n e = record { name = e.name; what = shifted_what n e.what; ty = e.ty }

-- the items to the left and the item to the right
abbrev pub beside : FromScope → FromScope → FromScope
beside left right = record {
  scope = left.scope ++ map (shifted (length left.scope)) right.scope;
  star = left.star ++ map (λ slot. length left.scope + slot) right.star;
}

-- the names of the range variables
abbrev pub range_names : List Entry → List (List ℕ)
range_names [] = []
range_names (e ∷ es) = if is_range e.what then elim e.name [ None ↦ range_names es | Some name ↦ name ∷ range_names es ] else range_names es

-- two range variables of one name in one FROM (rule 8 at the later item)
abbrev pub repeats_range : List Entry → List Entry → Bool
repeats_range left right = list_any (λ name. list_any (same_name name) (range_names left)) (range_names right)

-- ---- USING

-- a USING name on one side: where it lacks (rule 29), and where it is twice (rule 4)
abbrev pub one_slot : ℕ → List ℕ → Checked ℕ
one_slot place [] = broken 29 place
one_slot place (slot ∷ []) = Ok slot
one_slot place (slot ∷ another ∷ more) = broken 4 place

-- A name of USING: the columns of both sides, by their places there, and the type of the column that stands for both.
pub record UsingColumn : Type 0 where
  pub name : List ℕ
  pub left : ℕ
  pub right : ℕ
  pub ty : SqlType

abbrev pub entry_type : List Entry → ℕ → SqlType
entry_type scope slot = elim (option_and_then (λ e. e.ty) (slice_get scope slot)) [ None ↦ ty.Int64 | Some type ↦ type ]

-- a name that a side lacks comes before one that a side has twice
abbrev pub lacks : ℕ → List ℕ → Checked (Unit {0})
lacks place [] = broken 29 place
lacks place (slot ∷ more) = Ok tt

abbrev pub using_column : List Entry → List Entry → Name → Checked UsingColumn
using_column left right name =
    lacks name.place (columns name.text left) >>= (λ _.
    lacks name.place (columns name.text right) >>= (λ _.
    one_slot name.place (columns name.text left) >>= (λ l.
    one_slot name.place (columns name.text right) >>= (λ r.
    compared_type name.place (other_arg (entry_type left l) ∷ other_arg (entry_type right r) ∷ []) >>= (λ type.
    Ok (record { name = name.text; left = l; right = r; ty = type }))))))

abbrev pub using_columns : List Entry → List Entry → List Name → Checked (List UsingColumn)
using_columns left right [] = Ok []
using_columns left right (name ∷ names) = using_column left right name >>= (λ c. using_columns left right names >>= (λ cs. Ok (c ∷ cs)))

abbrev pub stands_in : List ℕ → ℕ → Bool
stands_in slots slot = list_any (λ other. other == slot) slots

-- the entries at these places lose their names: only their range variable reaches them
abbrev pub unnamed_at : List ℕ → ℕ → List Entry → List Entry
unnamed_at slots at [] = []
unnamed_at slots at (e ∷ es) = (if stands_in slots at then record e { name = None } else e) ∷ unnamed_at slots (suc at) es

abbrev pub without : List ℕ → List ℕ → List ℕ
without slots places = filter (λ place. not (stands_in slots place)) places

-- One column stands for both, spelled as in USING. In `*` these come first, then the others of the left and of the right.
abbrev pub using_scope : FromScope → FromScope → List UsingColumn → FromScope
using_scope left right using = record {
  scope = unnamed_at (map (λ c. c.left) using) 0 left.scope
      ++ map (shifted (length left.scope)) (unnamed_at (map (λ c. c.right) using) 0 right.scope)
      ++ map (λ c. column_entry (Some c.name) c.ty) using;
  star = numbers (length left.scope + length right.scope) using
      ++ without (map (λ c. c.left) using) left.star
      ++ map (λ slot. length left.scope + slot) (without (map (λ c. c.right) using) right.star);
}
