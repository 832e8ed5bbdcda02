-- The canonical print of a query spells the query, places aside, and no other.
use Rattle.std.proofs.Common.{◌≡◌, ℕ, false, List, sym, ◌∙◌, ap, subst}
use Rattle.std.specs.Prelude.{Result, Ok}
use Rattle.sql_ast.specs.declared.token.Token.{Token}
use Rattle.sql_ast.specs.declared.query.Query.{Query}
use Rattle.sql_ast.specs.Canon.{Canon, canon_pieces}
use Rattle.sql_ast.specs.Grammar.{QueryOf, TextOf, text_is, text_semicolon}
use Rattle.sql_ast.specs.Marks.{Tokens}
use Rattle.sql_ast.specs.Pieces.{text_of}
use Rattle.sql_same.specs.Bare.{as_is, SamePlacesAside, BareQuery}
use Rattle.sql_lexer.proofs.Once.{one_answer}
use Rattle.sql_grammar.proofs.CompleteQueries.{text_once}
use Rattle.sql_print.specs.ReadBack.{TextSpells, SpellsAside}
use Rattle.sql_print.proofs.BackGroups.{queries_back}
use Rattle.sql_print.proofs.CanonAside.{canon_aside}
use Rattle.sql_print.proofs.Flows.{Goods, fr}
use Rattle.sql_print.proofs.FlowQueries.{flow_query}
use Rattle.sql_print.proofs.LexedLiterals.{lexing}
use Rattle.sql_print.proofs.LexedRuns.{flow_lexed}
use Rattle.sql_print.proofs.TokensGood.{lexes_good}

canon_by : (q : Query) (u : Tokens) → QueryOf q u → Goods u → SpellsAside (Canon q) q
canon_by q u z g =
    let y = flow_lexed lexing (canon_pieces q) (flow_query q u z g) in
    let f = (queries_back q u z).back y.0 y.1.1 in
    record { read = f.tree; spells = record { tokens = y.0; lexed = y.1.0; spelled = text_is f.spells }; same = f.same }

canon_of : (q : Query) (ts : Tokens) → TextOf q ts → Goods ts → SpellsAside (Canon q) q
canon_of _ _ (text_is {q = q} {u = u} z) g = canon_by q u z g
canon_of _ _ (text_semicolon {q = q} {u = u} z i) g = canon_by q u z (fr _ g)

-- a query that a text spells is spelled by its print, places aside
pub canon_spells : (text : List ℕ) (query : Query) → TextSpells text query → SpellsAside (Canon query) query
canon_spells text query x = canon_of query x.tokens x.spelled (lexes_good 0 false text x.tokens x.lexed)

abbrev answer : List Token → Result (List Token) ℕ
answer ts = Ok ts

same_tokens : (a b : List Token) → answer a ≡ answer b → a ≡ b
same_tokens a b e = cc

-- a text spells one query
pub spelled_once : (text : List ℕ) (a b : Query) → TextSpells text a → TextSpells text b → a ≡ b
spelled_once text a b x y =
    text_once a b y.tokens (subst (TextOf a) (same_tokens x.tokens y.tokens (one_answer text (Ok x.tokens) (Ok y.tokens) x.lexed y.lexed)) x.spelled) y.spelled

-- so two queries that it spells, places aside, are the same
pub aside_once : (text : List ℕ) (a b : Query) → SpellsAside text a → SpellsAside text b → SamePlacesAside a b
aside_once text a b x y = sym x.same ∙ ap (BareQuery as_is) (spelled_once text x.read y.read x.spells y.spells) ∙ y.same

-- ---- the law

pub read_back : (text : List ℕ) (query : Query) → SpellsAside text query → SpellsAside (Canon query) query
read_back text query x =
    let is : Canon query ≡ Canon x.read = ap text_of (canon_aside query x.read (sym x.same)) in
    let y = canon_spells text x.read x.spells in
    record { read = y.read; spells = subst (λ (u : List ℕ). TextSpells u y.read) (sym is) y.spells; same = y.same ∙ x.same }

pub read_alone : (text : List ℕ) (query other : Query) → SpellsAside text query → SpellsAside (Canon query) other → SamePlacesAside other query
read_alone text query other x y = aside_once (Canon query) other query y (read_back text query x)
