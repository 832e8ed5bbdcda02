-- What each stage of a run answers: the catalog, then the query with its tokens, then the table and its evaluation.
use Rattle.std.specs.Prelude.{◌≡◌, ◌≢◌, ◌⊎◌, ℕ, ◌<◌, ◌≤◌, List, [], ◌∷◌, length, Option, Some, None, Result, Ok, Err}
use Rattle.fronts.specs.Texts.{Spells}
use Rattle.sql_types.specs.declared.sql_type.Named.{Named}
use Rattle.sql_types.specs.declared.sql_type.SqlType.{SqlType}
use Rattle.sql_types.specs.declared.value.Value.{Value}
use Rattle.sql_types.specs.declared.rows.Rows.{Rows}
use Rattle.sql_ast.specs.declared.query.Query.{Query}
use Rattle.sql_catalog.specs.declared.entries.TableDef.{TableDef}
use Rattle.sql_rules.specs.Typing.{TypeQuery, nothing_in_sight}
use Rattle.sql_rules.specs.Meaning.{Permits}
use Rattle.small_catalog.specs.Catalogs.{catalog_of}
use Rattle.sql_ast.specs.declared.token.Token.{Token}
use Rattle.sql_ast.specs.Depths.{Depth}
use Rattle.sql_ast.specs.Grammar.{TextOf}
use Rattle.sql_ast.specs.Nest.{nest}
use Rattle.sql_ast.specs.Tokens.{TokensOf}
use Rattle.sql_ast.specs.Weights.{Weight}
use Rattle.csv_tables.specs.Tables.{TableOf}
use Rattle.parse_query.specs.QueryTexts.{NothingOf}
use Rattle.small_run.specs.Plans.{one}
use Rattle.gsql.specs.declared.stop.Stop.{Stop}
use Rattle.gsql.specs.declared.stop.Stop.TheVariants.{BadTable, Unread, OtherForm, Limit, ReadFault, OutOfMemory}
use Rattle.gsql.specs.declared.status.LimitName.{LimitName}
use Rattle.gsql.specs.declared.status.LimitName.TheVariants as limit
use Rattle.gsql.specs.Limits.{catalog_bytes, deep, heavy, query_bytes, table_bytes, nested}

-- What is said of a file's bytes. Where they aren't told, it is said of some bytes.
abbrev pub OnTold : Option (List ℕ) → (List ℕ → Type 0) → Type 0
OnTold None P = (bytes : List ℕ) × P bytes
OnTold (Some bytes) P = P bytes

-- A file is read within its limit, and what its bytes say decides the answer. A file above its limit is answered by the
-- limit's name. Where a call of the inputs fails, the answer names the file of this number, which is the one that was begun
-- last.
abbrev pub Stage : ℕ → LimitName → ℕ → List ℕ → (List ℕ → Option (List ℕ)) → Option (List ℕ) → (List ℕ → Result Rows Stop → Type 0) → Result Rows Stop → Type 0
Stage limit limited file name content begun Said (Ok answer) = OnTold (content name) (λ bytes. (length bytes ≤ limit) × Said bytes (Ok answer))
Stage limit limited file name content begun Said (Err (Unread place)) = OnTold (content name) (λ bytes. (length bytes ≤ limit) × Said bytes (Err (Unread place)))
Stage limit limited file name content begun Said (Err OtherForm) = OnTold (content name) (λ bytes. (length bytes ≤ limit) × Said bytes (Err OtherForm))
Stage limit limited file name content begun Said (Err (BadTable row field)) = OnTold (content name) (λ bytes. (length bytes ≤ limit) × Said bytes (Err (BadTable row field)))
Stage limit limited file name content begun Said (Err (Limit exceeded)) =
    ((exceeded ≡ limited) × OnTold (content name) (λ bytes. limit < length bytes))
    ⊎ OnTold (content name) (λ bytes. (length bytes ≤ limit) × Said bytes (Err (Limit exceeded)))
Stage limit limited file name content begun Said (Err (ReadFault faulty)) =
    ((faulty ≡ file) × (begun ≡ Some name)) ⊎ OnTold (content name) (λ bytes. (length bytes ≤ limit) × Said bytes (Err (ReadFault faulty)))
Stage limit limited file name content begun Said (Err OutOfMemory) = Unit {0}

-- ---- the table

-- the text has these columns, and permits these rows over the table's
abbrev pub Answers : TableDef → Query → List (List Value) → Rows → Type 0
Answers table query rows answer =
    (TypeQuery (one table) query nothing_in_sight ≡ Ok answer.columns) × Permits (one table) (rows ∷ []) query (Ok answer.rows)

-- what the bytes of a table file say: its rows, over which the query is evaluated, or the first faulty cell
abbrev pub TableSaid : TableDef → Query → List ℕ → Result Rows Stop → Type 0
TableSaid table query bytes (Ok answer) = (rows : List (List Value)) × (TableOf table.columns bytes ≡ Ok rows) × Answers table query rows answer
TableSaid table query bytes (Err (BadTable row field)) = TableOf table.columns bytes ≡ Err (row, field)
TableSaid table query bytes (Err OutOfMemory) = Unit {0}
TableSaid table query bytes (Err _) = ⊥

-- the table file is number 2, and has at most 67,108,864 bytes
abbrev pub TableStage : TableDef → Query → (List ℕ → Option (List ℕ)) → Option (List ℕ) → Result Rows Stop → Type 0
TableStage table query content begun answer = Stage table_bytes limit.TableBytes 2 table.file content begun (TableSaid table query) answer

-- ---- the query

-- the query is within the limits of depth and weight
abbrev pub Within : Query → Type 0
Within query = (Depth query ≤ deep) × (Weight query ≤ heavy)

-- it is above the limit of this name, and not above that of one before
abbrev pub Exceeds : LimitName → Query → Type 0
Exceeds limit.Depth query = deep < Depth query
Exceeds limit.Weight query = (Depth query ≤ deep) × (heavy < Weight query)
Exceeds _ query = ⊥

-- the tokens are a query and no other, within the limits, which has a type over the table
abbrev pub IsQuery : TableDef → List Token → Query → Type 0
IsQuery table tokens query = Spells TextOf tokens query × Within query × ((columns : List (Named SqlType)) × (TypeQuery (one table) query nothing_in_sight ≡ Ok columns))

-- they are a query and no other, within the limits, which has no type over the table
abbrev pub IsUntyped : TableDef → List Token → Query → Type 0
IsUntyped table tokens query = Spells TextOf tokens query × Within query × ((columns : List (Named SqlType)) → TypeQuery (one table) query nothing_in_sight ≢ Ok columns)

-- What the tokens of a query say, whose text ends at this byte: a query, and then the table's stage answers; a query above a
-- limit; a query that has no type; or no query, with the place of the first token that no query can have there.
abbrev pub TokensSaid : TableDef → (List ℕ → Option (List ℕ)) → Option (List ℕ) → ℕ → List Token → Result Rows Stop → Type 0
TokensSaid table content begun end tokens (Ok answer) = (query : Query) × IsQuery table tokens query × TableStage table query content begun (Ok answer)
TokensSaid table content begun end tokens (Err OtherForm) = (query : Query) × IsUntyped table tokens query
TokensSaid table content begun end tokens (Err (BadTable row field)) = (query : Query) × IsQuery table tokens query × TableStage table query content begun (Err (BadTable row field))
TokensSaid table content begun end tokens (Err (Limit exceeded)) =
    ((query : Query) × Spells TextOf tokens query × Exceeds exceeded query)
    ⊎ ((query : Query) × IsQuery table tokens query × TableStage table query content begun (Err (Limit exceeded)))
TokensSaid table content begun end tokens (Err (ReadFault file)) = (query : Query) × IsQuery table tokens query × TableStage table query content begun (Err (ReadFault file))
TokensSaid table content begun end tokens (Err (Unread place)) = NothingOf TextOf end tokens place
TokensSaid table content begun end tokens (Err OutOfMemory) = Unit {0}

-- the text has tokens, whose brackets nest within the limit, and this is said of them
abbrev pub OnTokens : List ℕ → (List Token → Type 0) → Type 0
OnTokens bytes P = (tokens : List Token) × TokensOf bytes (Ok tokens) × (nest tokens ≤ nested) × P tokens

-- the text has tokens, whose brackets nest above the limit
abbrev pub NestsAbove : List ℕ → Type 0
NestsAbove bytes = (tokens : List Token) × TokensOf bytes (Ok tokens) × (nested < nest tokens)

-- what the bytes of a query say: where they have no tokens, the place of the fault; brackets above the limit; or what the
-- tokens say
abbrev pub QuerySaid : TableDef → (List ℕ → Option (List ℕ)) → Option (List ℕ) → List ℕ → Result Rows Stop → Type 0
QuerySaid table content begun bytes (Ok answer) = OnTokens bytes (λ tokens. TokensSaid table content begun (length bytes) tokens (Ok answer))
QuerySaid table content begun bytes (Err (Unread place)) = TokensOf bytes (Err place) ⊎ OnTokens bytes (λ tokens. TokensSaid table content begun (length bytes) tokens (Err (Unread place)))
QuerySaid table content begun bytes (Err OtherForm) = OnTokens bytes (λ tokens. TokensSaid table content begun (length bytes) tokens (Err OtherForm))
QuerySaid table content begun bytes (Err (BadTable row field)) = OnTokens bytes (λ tokens. TokensSaid table content begun (length bytes) tokens (Err (BadTable row field)))
QuerySaid table content begun bytes (Err (Limit exceeded)) =
    ((exceeded ≡ limit.Nest) × NestsAbove bytes) ⊎ OnTokens bytes (λ tokens. TokensSaid table content begun (length bytes) tokens (Err (Limit exceeded)))
QuerySaid table content begun bytes (Err (ReadFault file)) = OnTokens bytes (λ tokens. TokensSaid table content begun (length bytes) tokens (Err (ReadFault file)))
QuerySaid table content begun bytes (Err OutOfMemory) = Unit {0}

-- the query file is number 1, and has at most 1,048,576 bytes
abbrev pub QueryStage : TableDef → List ℕ → (List ℕ → Option (List ℕ)) → Option (List ℕ) → Result Rows Stop → Type 0
QueryStage table name content begun answer = Stage query_bytes limit.QueryBytes 1 name content begun (QuerySaid table content begun) answer

-- ---- the catalog

-- what the bytes of a catalog say: a table, and then the query's stage answers; or no catalog of the form that is taken
abbrev pub CatalogSaid : List ℕ → (List ℕ → Option (List ℕ)) → Option (List ℕ) → List ℕ → Result Rows Stop → Type 0
CatalogSaid query content begun bytes (Err OtherForm) =
    (catalog_of bytes ≡ None) ⊎ ((table : TableDef) × (catalog_of bytes ≡ Some table) × QueryStage table query content begun (Err OtherForm))
CatalogSaid query content begun bytes (Err OutOfMemory) = Unit {0}
CatalogSaid query content begun bytes (Ok answer) = (table : TableDef) × (catalog_of bytes ≡ Some table) × QueryStage table query content begun (Ok answer)
CatalogSaid query content begun bytes (Err stop) = (table : TableDef) × (catalog_of bytes ≡ Some table) × QueryStage table query content begun (Err stop)

-- the catalog is file number 0, and has at most 16,777,216 bytes
abbrev pub CatalogStage : List ℕ → List ℕ → (List ℕ → Option (List ℕ)) → Option (List ℕ) → Result Rows Stop → Type 0
CatalogStage catalog query content begun answer = Stage catalog_bytes limit.CatalogBytes 0 catalog content begun (CatalogSaid query content begun) answer
