-- The readers of expressions. What stands in parentheses is read by readers of less depth.
use Rattle.std.specs.Prelude.{ℕ, Bool, true, false, ◌||◌, ◌&&◌, List, [], ◌∷◌, Option, Some, None}
use Rattle.fronts.specs.Readers.{◌>>=◌, ◌>>◌, pure, refuse, peek, token, if_comes, many, noting}
use Rattle.sql_names.specs.declared.words.Reserved.TheVariants as r
use Rattle.sql_ast.specs.declared.words.Sign.{Sign}
use Rattle.sql_ast.specs.declared.words.Sign.TheVariants as s
use Rattle.sql_ast.specs.declared.words.Word.TheVariants as w
use Rattle.sql_ast.specs.declared.token.Token.{Token}
use Rattle.sql_ast.specs.declared.clauses.Name.{Name}
use Rattle.sql_ast.specs.declared.clauses.Aliased.{Aliased}
use Rattle.sql_ast.specs.declared.clauses.Arg.{Arg}
use Rattle.sql_ast.specs.declared.clauses.Arg.TheVariants as arg
use Rattle.sql_ast.specs.declared.clauses.Binding.{Binding}
use Rattle.sql_ast.specs.declared.clauses.Call.{Call}
use Rattle.sql_ast.specs.declared.clauses.Function.TheVariants as function
use Rattle.sql_ast.specs.declared.clauses.Sort.{Sort}
use Rattle.sql_ast.specs.declared.clauses.When.{When}
use Rattle.sql_ast.specs.declared.expr.Comparison.TheVariants as compare
use Rattle.sql_ast.specs.declared.expr.Expr.{Expr, out-Expr}
use Rattle.sql_ast.specs.declared.expr.Expr.TheVariants as e
use Rattle.sql_ast.specs.declared.expr.Expr.TheOpen.{Expr-F}
use Rattle.sql_ast.specs.declared.expr.IndexForm.TheVariants as form
use Rattle.sql_ast.specs.declared.expr.IsTest.TheVariants as test
use Rattle.sql_ast.specs.declared.expr.Link.{Link}
use Rattle.sql_ast.specs.declared.expr.Operator.{Operator}
use Rattle.sql_ast.specs.declared.expr.Operator.TheVariants as operator
use Rattle.sql_ast.specs.declared.expr.Part.{Part}
use Rattle.sql_ast.specs.declared.expr.Part.TheVariants as part
use Rattle.sql_ast.specs.declared.expr.Prefix.{Prefix}
use Rattle.sql_ast.specs.declared.expr.Quantifier.TheVariants as quantifier
use Rattle.sql_ast.specs.declared.expr.Signed.TheVariants as signed
use Rattle.sql_ast.specs.declared.query.Query.{Query}
use Rattle.sql_ast.specs.declared.query.Term.{Term}
use Rattle.sql_ast.specs.declared.query.Term.TheVariants as term
use Rattle.sql_ast.specs.declared.type_spelling.TypeSpelling.{TypeSpelling}
use Rattle.sql_ast.specs.Marks.{Tokens, reserved, sign, word, named, spelled, text, bytes, integer, parameter, number, content, closes_shift, start_of}
use Rattle.sql_ast.specs.Trees.{name_at, function_of, prefix_of, product_of, sum_of, comparison_of, quantifier_of, test_of, form_of, link, chain, nots, prefixes, path}
use Rattle.sql_grammar.specs.Ways.{Parser, Ended, until, starting}
use Rattle.sql_grammar.specs.Classes.{class_of, BasicStart, an_integer, a_string, a_bytes, a_true, a_false, a_null, a_parameter, a_name, an_if, a_bracket, a_case, a_cast, an_extract, a_grouping, an_exists, an_array, a_square, a_struct, a_with, no_basic, basic_lexeme, NameWord, the_date, the_safe, plain_name, name_class, Content, by_select, by_with, by_expr, content_class, ArgumentsStart, by_star, by_nothing, by_arg, arguments_lexeme, ComparisonStart, by_sign, by_like, by_between, by_in, by_is, by_not, no_comparison, comparison_class}
use Rattle.sql_grammar.specs.Words.{whole_type, starts_type, type_at, levels_below, fields_closed, distinct, direction, nulls_place, nulls_part, call_limit}

-- a token that says something, and what it says
abbrev pub tells : {A : Type 0} → (Token → Option A) → Token → Bool
tells what t = elim (what t) [ None ↦ false | Some a ↦ true ]

abbrev pub told : {A : Type 0} → A → (Token → Option A) → Token → A
told other what t = elim (what t) [ None ↦ other | Some a ↦ a ]

-- what a query begins with, where it was read before it was known to be one: the word WITH, or a query in brackets
pub data Opening : Type 0 where
  with_read : Token → Opening
  term_read : Term → ℕ → Opening

-- what parentheses hold
pub data Held : Type 0 where
  held_query : Query → Held
  held_exprs : List Expr → Held

-- an expression, and the token `>` behind it that begins no `>>`, if it was read
abbrev pub Pending : Type 0
Pending = Expr × Option Token

-- The readers of less depth: of an expression and a query, of a query behind its opening, and of an expression that goes on
-- behind a basic expression which begins at this place.
pub record Below : Type 0 where
  pub inner : Parser Expr
  pub query : Parser Query
  pub more : Opening → Parser Query
  pub rest : ℕ → Expr → Parser Expr

-- ---- what was read tells

-- a name alone
abbrev pub single_name : Tokens → Option Token
single_name (n ∷ []) = elim (named n) [ true ↦ Some n | false ↦ None ]
single_name _ = None

-- "(" name "," name ")" alone
abbrev pub two_named : Token → Token → Token → Token → Token → Bool
two_named o n k m c = sign s.OpenRound o && (named n && (sign s.Comma k && (named m && sign s.CloseRound c)))

-- the variables of a lambda, where the tokens before `->` are such
abbrev pub variables_of : Tokens → Option (List Name)
variables_of (n ∷ []) = elim (named n) [ true ↦ Some (name_at n ∷ []) | false ↦ None ]
variables_of (o ∷ n ∷ k ∷ m ∷ c ∷ []) = elim (two_named o n k m c) [ true ↦ Some (name_at n ∷ name_at m ∷ []) | false ↦ None ]
variables_of _ = None

-- the query that an expression is, as a first term
abbrev pub opening_layer : {E P T F J S : Type 0} → Expr-F E P T F J Query S → Option Opening
opening_layer (Expr-F.Scalar q p) = Some (term_read (term.Query q p) p)
opening_layer _ = None

unfoldable pub opening_of : Expr → Option Opening
opening_of a = opening_layer (out-Expr a)

-- the expression of brackets that begin here
abbrev pub grouped_exprs : ℕ → List Expr → Expr
grouped_exprs place (a ∷ []) = a
grouped_exprs place xs = e.Tuple xs place

abbrev pub grouped : ℕ → Held → Expr
grouped place (held_query q) = e.Scalar q place
grouped place (held_exprs xs) = grouped_exprs place xs

-- ---- single tokens

unfoldable pub prefix : Parser Prefix
prefix = do
  t ← token (tells prefix_of)
  pure (record { operator = told signed.Plus prefix_of t; place = t.start })

unfoldable pub not_place : Parser ℕ
not_place = do
  t ← token (reserved r.Not)
  pure t.start

-- an operator of a chain, and its operand
unfoldable pub linked : (Token → Bool) → (Token → Operator) → Parser Expr → Parser (Link Expr)
linked fits o operand = do
  t ← token fits
  a ← operand
  pure (link (o t) t a)

-- the same, where the operand may end in a `>`
unfoldable pub linked_pending : (Token → Bool) → Operator → Parser Pending → Parser (Ended (Link Expr) Token)
linked_pending fits o operand = do
  t ← token fits
  a ← operand
  pure (link o t a.0 ∷ [], a.1)

-- no `>` was read behind it
abbrev pub settled : Pending → Parser Expr
settled (a, None) = pure a
settled (a, Some t) = refuse

-- `*` behind a `.`, where an item permits it
abbrev pub starred : Bool → Token → Bool
starred star t = star && sign s.Star t

abbrev pub part_next : Token → Bool
part_next t = sign s.Dot t || sign s.OpenSquare t

abbrev pub shift_next : Token → Bool
shift_next t = sign s.LessLess t || sign s.Greater t

-- the turns of a repetition, and the readers of less depth
module _ (turns : ℕ) (below : Below) where
  unfoldable pub after : (Token → Bool) → Parser Expr
  after fits = token fits >> below.inner

  abbrev pub comma_expr : Parser Expr
  comma_expr = after (sign s.Comma)

  -- "(" expr ")"
  unfoldable pub bracketed : Parser Expr
  bracketed = do
    token (sign s.OpenRound)
    a ← below.inner
    token (sign s.CloseRound)
    pure a

  -- "(" query ")", with the place of the bracket
  unfoldable pub bracketed_query : Parser (Query × ℕ)
  bracketed_query = do
    o ← token (sign s.OpenRound)
    q ← below.query
    token (sign s.CloseRound)
    pure (q, o.start)

  -- {"," expr} behind those that were found, and the bracket that closes them
  unfoldable pub list_closed : Sign → List Expr → Parser (List Expr)
  list_closed close found = do
    xs ← many (sign s.Comma) comma_expr turns found
    token (sign close)
    pure xs

  -- "(" expr {"," expr} ")"
  unfoldable pub list : Parser (List Expr)
  list = do
    token (sign s.OpenRound)
    a ← below.inner
    list_closed s.CloseRound (a ∷ [])

  -- ---- calls

  unfoldable pub sort : Parser (Sort Expr)
  sort = starting (λ p. do a ← below.inner; d ← direction; n ← nulls_place; pure (record { expr = a; descending = d; nulls = n; place = p }))

  unfoldable pub comma_sort : Parser (Sort Expr)
  comma_sort = token (sign s.Comma) >> sort

  -- [ORDER BY sort {"," sort}]
  unfoldable pub order : Parser (List (Sort Expr))
  order = if_comes (reserved r.Order) (do token (reserved r.Order); token (reserved r.By); a ← sort; many (sign s.Comma) comma_sort turns (a ∷ [])) (pure [])

  -- what follows an expression that was read from these tokens, as an argument: at `->` they are the variables of a lambda
  unfoldable pub arg_after : Tokens → Expr → Parser (Arg Expr)
  arg_after u a = elim (variables_of u) [
    | None ↦ pure (arg.Expr a)
    | Some ns ↦ if_comes (sign s.Arrow) (do token (sign s.Arrow); b ← below.inner; pure (arg.Lambda ns b (start_of u))) (pure (arg.Expr a))
  ]

  unfoldable pub interval : Parser (Arg Expr)
  interval = do
    t ← token (reserved r.Interval)
    a ← below.inner
    n ← token named
    pure (arg.Interval a (name_at n) t.start)

  unfoldable pub argument : Parser (Arg Expr)
  argument = if_comes (reserved r.Interval) interval (noting below.inner >>= (λ x. arg_after x.0 x.1))

  unfoldable pub comma_argument : Parser (Arg Expr)
  comma_argument = token (sign s.Comma) >> argument

  -- {"," arg} behind the first
  unfoldable pub arguments_from : Arg Expr → Parser (List (Arg Expr))
  arguments_from a = many (sign s.Comma) comma_argument turns (a ∷ [])

  abbrev pub arguments_by : ArgumentsStart → Parser (Bool × List (Arg Expr))
  arguments_by by_star = do token (sign s.Star); pure (true, [])
  arguments_by by_nothing = pure (false, [])
  arguments_by by_arg = do a ← argument; xs ← arguments_from a; pure (false, xs)

  -- ["*" | arg {"," arg}]
  unfoldable pub arguments : Parser (Bool × List (Arg Expr))
  arguments = peek (class_of by_arg arguments_lexeme) >>= arguments_by

  -- the rest of a call of this function behind its arguments, and the closing bracket
  unfoldable pub call_tail : Token → Bool → Bool → List (Arg Expr) → Parser (Call Expr)
  call_tail t d star xs = do
    n ← nulls_part
    ss ← order
    k ← call_limit
    token (sign s.CloseRound)
    pure (record { function = told function.If function_of t; distinct = d; star = star; arguments = xs; nulls = n; order = ss; limit = k; place = t.start })

  -- the rest of a call of this function behind its opening bracket
  unfoldable pub call_body : Token → Parser (Call Expr)
  call_body t = do
    d ← distinct
    x ← arguments
    call_tail t d x.0 x.1

  -- the same from that bracket on
  unfoldable pub call_of : Token → Parser (Call Expr)
  call_of t = token (sign s.OpenRound) >> call_body t

  -- a whole call
  unfoldable pub call : Parser (Call Expr)
  call = token (tells function_of) >>= call_of

  -- AS type ")"
  unfoldable pub cast_end : Bool → ℕ → Expr → Parser Expr
  cast_end safe place a = do
    token (reserved r.As)
    y ← whole_type turns
    token (sign s.CloseRound)
    pure (e.Cast safe a y place)

  -- the rest of a call behind its first argument
  unfoldable pub call_from : Token → Arg Expr → Parser Expr
  call_from t a = do
    xs ← arguments_from a
    k ← call_tail t false false xs
    pure (e.Call k t.start)

  -- SAFE_CAST behind its first argument: AS makes it a cast
  abbrev pub cast_or_call : Token → Arg Expr → Parser Expr
  cast_or_call t x = elim x [
    | arg.Expr a ↦ if_comes (reserved r.As) (cast_end true t.start a) (call_from t (arg.Expr a))
    | arg.Lambda ns b p ↦ call_from t (arg.Lambda ns b p)
    | arg.Interval a n p ↦ call_from t (arg.Interval a n p)
  ]

  abbrev pub safe_cast_by : Token → ArgumentsStart → Parser Expr
  safe_cast_by t by_arg = argument >>= cast_or_call t
  safe_cast_by t _ = do k ← call_body t; pure (e.Call k t.start)

  -- SAFE_CAST behind its bracket
  unfoldable pub safe_cast : Token → Parser Expr
  safe_cast t = if_comes (reserved r.Distinct) (do k ← call_body t; pure (e.Call k t.start)) (peek (class_of by_arg arguments_lexeme) >>= safe_cast_by t)

  -- a name before a bracket
  unfoldable pub called : Token → Parser Expr
  called t = do
    token (sign s.OpenRound)
    elim (word w.SafeCast t) [ true ↦ safe_cast t | false ↦ (do k ← call_body t; pure (e.Call k t.start)) ]

  -- ---- basic expressions of one word

  unfoldable pub when : Parser (When Expr)
  when = do
    a ← after (reserved r.When)
    b ← after (reserved r.Then)
    pure (record { test = a; result = b })

  unfoldable pub otherwise : Parser (Option Expr)
  otherwise = if_comes (reserved r.Else) (do a ← after (reserved r.Else); pure (Some a)) (pure None)

  unfoldable pub subject : Parser (Option Expr)
  subject = if_comes (reserved r.When) (pure None) (do a ← below.inner; pure (Some a))

  unfoldable pub case : Parser Expr
  case = do
    t ← token (reserved r.Case)
    a ← subject
    b ← when
    bs ← many (reserved r.When) when turns (b ∷ [])
    o ← otherwise
    token (reserved r.End)
    pure (e.Case a bs o t.start)

  unfoldable pub cast : Parser Expr
  cast = do
    t ← token (reserved r.Cast)
    token (sign s.OpenRound)
    a ← below.inner
    cast_end false t.start a

  unfoldable pub extract : Parser Expr
  extract = do
    t ← token (reserved r.Extract)
    token (sign s.OpenRound)
    n ← token named
    token (reserved r.From)
    a ← below.inner
    token (sign s.CloseRound)
    pure (e.Extract (name_at n) a t.start)

  unfoldable pub grouping : Parser Expr
  grouping = do
    t ← token (reserved r.Grouping)
    a ← bracketed
    pure (e.Grouping a t.start)

  unfoldable pub exists : Parser Expr
  exists = do
    t ← token (reserved r.Exists)
    q ← bracketed_query
    pure (e.Exists q.0 t.start)

  -- "[" [expr {"," expr}] "]" of an array that begins here
  unfoldable pub array_from : Option TypeSpelling → Option ℕ → Parser Expr
  array_from element from = do
    b ← token (sign s.OpenSquare)
    xs ← if_comes (sign s.CloseSquare) (do token (sign s.CloseSquare); pure []) (do a ← below.inner; list_closed s.CloseSquare (a ∷ []))
    pure (e.Array element xs b.start (elim from [ None ↦ b.start | Some p ↦ p ]))

  unfoldable pub array : Parser Expr
  array = do
    t ← token (reserved r.Array)
    if_comes (sign s.OpenRound) (do q ← bracketed_query; pure (e.ArrayQuery q.0 q.1 t.start))
        (if_comes (sign s.Less) (do token (sign s.Less); y ← whole_type turns; token (sign s.Greater); array_from (Some y) (Some t.start)) (array_from None (Some t.start)))

  -- expr [AS name]
  unfoldable pub member : Parser (Aliased Expr)
  member = do
    a ← below.inner
    if_comes (reserved r.As) (do token (reserved r.As); n ← token named; pure (record { expr = a; alias = Some (name_at n) })) (pure (record { expr = a; alias = None }))

  unfoldable pub comma_member : Parser (Aliased Expr)
  comma_member = token (sign s.Comma) >> member

  unfoldable pub struct : Parser Expr
  struct = do
    t ← token (reserved r.Struct)
    if_comes (sign s.Less)
        (do token (sign s.Less); fs ← fields_closed turns (starts_type levels_below) (type_at turns levels_below); o ← token (sign s.OpenRound); a ← below.inner; xs ← list_closed s.CloseRound (a ∷ []); pure (e.TypedStruct fs xs o.start t.start))
        (do token (sign s.OpenRound); a ← member; xs ← many (sign s.Comma) comma_member turns (a ∷ []); token (sign s.CloseRound); pure (e.Struct xs t.start))

  unfoldable pub bound : Token → Parser (Binding Expr)
  bound n = do
    token (reserved r.As)
    a ← below.inner
    pure (record { name = name_at n; expr = a })

  -- behind the comma of a WITH expression: one more variable, or the result, which ends it
  abbrev pub with_after : Tokens → Expr → Parser (Ended (Binding Expr) Expr)
  with_after u a = elim (single_name u) [
    | None ↦ pure ([], Some a)
    | Some n ↦ if_comes (reserved r.As) (do b ← bound n; pure (b ∷ [], None)) (pure ([], Some a))
  ]

  unfoldable pub with_item : Parser (Ended (Binding Expr) Expr)
  with_item = do
    token (sign s.Comma)
    x ← noting below.inner
    with_after x.0 x.1

  abbrev pub with_end : ℕ → List (Binding Expr) → Option Expr → Parser Expr
  with_end place bs None = refuse
  with_end place bs (Some a) = do token (sign s.CloseRound); pure (e.With bs a place)

  -- WITH behind its word
  unfoldable pub with_body : ℕ → Parser Expr
  with_body place = do
    token (sign s.OpenRound)
    n ← token named
    b ← bound n
    x ← until (sign s.Comma) with_item turns (b ∷ [])
    with_end place x.0 x.1

  unfoldable pub with_expr : Parser Expr
  with_expr = do
    t ← token (reserved r.With)
    with_body t.start

  -- ---- postfix

  -- behind SAFE and `.`
  unfoldable pub safe_part : Bool → Token → Parser (Expr × Ended (Part Expr) Token)
  safe_part star t = if_comes (starred star) (do x ← token (starred star); pure (e.Name (spelled t) t.start, ([], Some x)))
      (do n ← token named; if_comes (sign s.OpenRound) (do k ← call_of n; pure (e.SafeCall k t.start, ([], None))) (pure (e.Name (spelled t) t.start, (part.Field (name_at n) ∷ [], None))))

  abbrev pub name_by : Bool → Token → NameWord → Parser (Expr × Ended (Part Expr) Token)
  name_by star t the_date = if_comes text (do x ← token text; pure (e.Date (content x) t.start, ([], None))) (pure (e.Name (spelled t) t.start, ([], None)))
  name_by star t the_safe = if_comes (sign s.Dot) (token (sign s.Dot) >> safe_part star t) (pure (e.Name (spelled t) t.start, ([], None)))
  name_by star t plain_name = pure (e.Name (spelled t) t.start, ([], None))

  unfoldable pub name_opened : Bool → Parser (Expr × Ended (Part Expr) Token)
  name_opened star = do
    t ← token named
    if_comes (sign s.OpenRound) (do a ← called t; pure (a, ([], None))) (name_by star t (name_class t.lexeme))

  -- a part of a postfix
  unfoldable pub index : Parser (Ended (Part Expr) Token)
  index = do
    b ← token (sign s.OpenSquare)
    x ← token (tells form_of)
    a ← bracketed
    token (sign s.CloseSquare)
    pure (part.Index (told form.Offset form_of x) a b.start ∷ [], None)

  unfoldable pub field_or_star : Bool → Parser (Ended (Part Expr) Token)
  field_or_star star = if_comes (starred star) (do x ← token (starred star); pure ([], Some x)) (do n ← token named; pure (part.Field (name_at n) ∷ [], None))

  unfoldable pub part_or_star : Bool → Parser (Ended (Part Expr) Token)
  part_or_star star = if_comes (sign s.Dot) (token (sign s.Dot) >> field_or_star star) index

  -- the parts behind a first expression that begins here, and those that were read with it
  abbrev pub parts_from : Bool → ℕ → Expr → List (Part Expr) → Option Token → Parser (Expr × Option Token)
  parts_from star place a ps None = do x ← until part_next (part_or_star star) turns ps; pure (path a x.0 place, x.1)
  parts_from star place a ps (Some t) = pure (path a ps place, Some t)

  -- the same, where no `*` is permitted
  unfoldable pub postfix_from : ℕ → Expr → Parser Expr
  postfix_from place a = do
    x ← parts_from false place a [] None
    pure x.0

  -- ---- chains, each with the place where it begins

  -- the rest of a chain whose operands are read so
  unfoldable pub chain_from : (Token → Bool) → (Token → Operator) → Parser Expr → (Expr → List (Link Expr) → ℕ → Expr) → ℕ → Expr → Parser Expr
  chain_from fits o operand make place a = do
    ls ← many fits (linked fits o operand) turns []
    pure (chain make a ls place)

  -- the same where an operand may end in a `>`, which ends the chain
  abbrev pub pending_from : (Token → Bool) → Operator → Parser Pending → (Expr → List (Link Expr) → ℕ → Expr) → ℕ → Pending → Parser Pending
  pending_from fits o operand make place (a, Some t) = pure (a, Some t)
  pending_from fits o operand make place (a, None) = do x ← until fits (linked_pending fits o operand) turns []; pure (chain make a x.0 place, x.1)

  -- ---- what parentheses hold, up to the bracket that closes them

  abbrev pub listed : List Expr → Parser Held
  listed found = do xs ← list_closed s.CloseRound found; pure (held_exprs xs)

  unfoldable pub two_listed : Expr → Parser Held
  two_listed a = do
    b ← comma_expr
    listed (a ∷ b ∷ [])

  unfoldable pub query_closed : Parser Query → Parser Held
  query_closed query = do
    q ← query
    token (sign s.CloseRound)
    pure (held_query q)

  -- behind an expression with which they begin: a query in brackets is the first term of a query, if no comma follows
  unfoldable pub held_from : Expr → Parser Held
  held_from a = elim (opening_of a) [ None ↦ listed (a ∷ []) | Some o ↦ if_comes (sign s.Comma) (two_listed a) (query_closed (below.more o)) ]

  unfoldable pub held_with : Token → Parser Held
  held_with t = if_comes (sign s.OpenRound) (do a ← with_body t.start; b ← below.rest t.start a; held_from b) (query_closed (below.more (with_read t)))

  abbrev pub enclosed_by : Content → Parser Held
  enclosed_by by_select = query_closed below.query
  enclosed_by by_with = token (reserved r.With) >>= held_with
  enclosed_by by_expr = below.inner >>= held_from

  unfoldable pub enclosed : Parser Held
  enclosed = peek (class_of by_expr content_class) >>= enclosed_by

  unfoldable pub group : Parser Expr
  group = do
    o ← token (sign s.OpenRound)
    h ← enclosed
    pure (grouped o.start h)

  -- ---- basic expressions

  abbrev pub basic_by : BasicStart → Parser Expr
  basic_by an_integer = do t ← token integer; pure (e.Integer (number t) t.start)
  basic_by a_string = do t ← token text; pure (e.Text (content t) t.start)
  basic_by a_bytes = do t ← token bytes; pure (e.Bytes (content t) t.start)
  basic_by a_true = do t ← token (reserved r.True); pure (e.Bool true t.start)
  basic_by a_false = do t ← token (reserved r.False); pure (e.Bool false t.start)
  basic_by a_null = do t ← token (reserved r.Null); pure (e.Null t.start)
  basic_by a_parameter = do t ← token parameter; pure (e.Parameter (content t) t.start)
  basic_by a_name = refuse
  basic_by an_if = do t ← token (reserved r.If); k ← call_of t; pure (e.Call k t.start)
  basic_by a_bracket = group
  basic_by a_case = case
  basic_by a_cast = cast
  basic_by an_extract = extract
  basic_by a_grouping = grouping
  basic_by an_exists = exists
  basic_by an_array = array
  basic_by a_square = array_from None None
  basic_by a_struct = struct
  basic_by a_with = with_expr
  basic_by no_basic = refuse

  -- a basic expression, and the parts that were read with it
  abbrev pub opened_by : Bool → BasicStart → Parser (Expr × Ended (Part Expr) Token)
  opened_by star a_name = name_opened star
  opened_by star k = do a ← basic_by k; pure (a, ([], None))

  unfoldable pub opened : Bool → Parser (Expr × Ended (Part Expr) Token)
  opened star = peek (class_of no_basic basic_lexeme) >>= opened_by star

  -- a postfix, and the `*` behind it, where one is permitted
  unfoldable pub postfix_or_star : Bool → Parser (Expr × Option Token)
  postfix_or_star star = starting (λ p. do x ← opened star; parts_from star p x.0 x.1.0 x.1.1)

  unfoldable pub postfix : Parser Expr
  postfix = do
    x ← postfix_or_star false
    pure x.0

  unfoldable pub unary : Parser Expr
  unary = do
    ps ← many (tells prefix_of) prefix turns []
    a ← postfix
    pure (prefixes ps a)

  -- ---- products and sums

  unfoldable pub product_from : ℕ → Expr → Parser Expr
  product_from = chain_from (tells product_of) (told operator.Multiply product_of) unary e.Product

  unfoldable pub product : Parser Expr
  product = starting (λ p. unary >>= product_from p)

  unfoldable pub sum_from : ℕ → Expr → Parser Expr
  sum_from = chain_from (tells sum_of) (told operator.Add sum_of) product e.Sum

  unfoldable pub sum : Parser Expr
  sum = starting (λ p. product >>= sum_from p)

  -- ---- shifts and bits: a `>` that begins no `>>` ends them, and is kept

  -- behind a `>`
  unfoldable pub greater_or_shift : Token → Parser (Ended (Link Expr) Token)
  greater_or_shift t = if_comes (closes_shift t) (do token (closes_shift t); a ← sum; pure (link operator.ShiftRight t a ∷ [], None)) (pure ([], Some t))

  unfoldable pub shift_item : Parser (Ended (Link Expr) Token)
  shift_item = if_comes (sign s.LessLess) (do t ← token (sign s.LessLess); a ← sum; pure (link operator.ShiftLeft t a ∷ [], None)) (token (sign s.Greater) >>= greater_or_shift)

  unfoldable pub shift_from : ℕ → Expr → Parser Pending
  shift_from place a = do
    x ← until shift_next shift_item turns []
    pure (chain e.Shift a x.0 place, x.1)

  unfoldable pub shift : Parser Pending
  shift = starting (λ p. sum >>= shift_from p)

  unfoldable pub band_from : ℕ → Pending → Parser Pending
  band_from = pending_from (sign s.Ampersand) operator.BitAnd shift e.BitAnd

  unfoldable pub band : Parser Pending
  band = starting (λ p. shift >>= band_from p)

  unfoldable pub bxor_from : ℕ → Pending → Parser Pending
  bxor_from = pending_from (sign s.Caret) operator.BitXor band e.BitXor

  unfoldable pub bxor : Parser Pending
  bxor = starting (λ p. band >>= bxor_from p)

  unfoldable pub bor_from : ℕ → Pending → Parser Pending
  bor_from = pending_from (sign s.Bar) operator.BitOr bxor e.BitOr

  unfoldable pub bor_pending : Parser Pending
  bor_pending = starting (λ p. bxor >>= bor_from p)

  unfoldable pub bor : Parser Expr
  bor = bor_pending >>= settled

  -- ---- comparisons: behind their left side, which begins at this place

  -- a comparison sign behind it
  unfoldable pub sign_after : ℕ → Expr → Parser Expr
  sign_after place a = do
    t ← token (tells comparison_of)
    b ← bor
    pure (e.Compare a (told compare.Equal comparison_of t) t.start b place)

  -- UNNEST "(" expr ")"
  unfoldable pub unnested : Parser Expr
  unnested = token (reserved r.Unnest) >> bracketed

  unfoldable pub quantified : ℕ → Expr → ℕ → Token → Parser Expr
  quantified place a at x = if_comes (reserved r.Unnest)
      (do b ← unnested; pure (e.LikeUnnest a (told quantifier.Any quantifier_of x) at b place))
      (do bs ← list; pure (e.LikeList a (told quantifier.Any quantifier_of x) at bs place))

  unfoldable pub like_bor : ℕ → Expr → Bool → ℕ → Parser Expr
  like_bor place a negated at = do
    b ← bor
    pure (e.Like a negated at b place)

  unfoldable pub like_after : ℕ → Expr → Parser Expr
  like_after place a = do
    t ← token (reserved r.Like)
    if_comes (tells quantifier_of) (token (tells quantifier_of) >>= quantified place a t.start) (like_bor place a false t.start)

  -- behind BETWEEN
  unfoldable pub between_after : ℕ → Expr → Bool → ℕ → Parser Expr
  between_after place a negated at = do
    b ← bor
    token (reserved r.And)
    c ← bor
    pure (e.Between a negated at b c place)

  abbrev pub in_held : ℕ → Expr → Bool → ℕ → ℕ → Held → Expr
  in_held place a negated at bracket (held_query q) = e.InQuery a negated at q bracket place
  in_held place a negated at bracket (held_exprs bs) = e.InList a negated at bs place

  -- behind IN
  unfoldable pub in_after : ℕ → Expr → Bool → ℕ → Parser Expr
  in_after place a negated at = if_comes (reserved r.Unnest)
      (do b ← unnested; pure (e.InUnnest a negated at b place))
      (do o ← token (sign s.OpenRound); h ← enclosed; pure (in_held place a negated at o.start h))

  -- behind IS [NOT]
  unfoldable pub is_test : ℕ → Expr → Bool → ℕ → Parser Expr
  is_test place a negated at = if_comes (reserved r.Distinct)
      (do token (reserved r.Distinct); token (reserved r.From); b ← bor; pure (e.Distinct a negated at b place))
      (do t ← token (tells test_of); pure (e.Is a negated (told test.Null test_of t) at place))

  unfoldable pub is_after : ℕ → Expr → Parser Expr
  is_after place a = do
    t ← token (reserved r.Is)
    if_comes (reserved r.Not) (token (reserved r.Not) >> is_test place a true t.start) (is_test place a false t.start)

  -- behind NOT
  abbrev pub negated_by : ℕ → Expr → ℕ → ComparisonStart → Parser Expr
  negated_by place a at by_like = token (reserved r.Like) >> like_bor place a true at
  negated_by place a at by_between = token (reserved r.Between) >> between_after place a true at
  negated_by place a at by_in = token (reserved r.In) >> in_after place a true at
  negated_by place a at _ = refuse

  unfoldable pub not_after : ℕ → Expr → Parser Expr
  not_after place a = do
    t ← token (reserved r.Not)
    k ← peek (class_of no_comparison comparison_class)
    negated_by place a t.start k

  abbrev pub compared_by : ℕ → Expr → ComparisonStart → Parser Expr
  compared_by place a by_sign = sign_after place a
  compared_by place a by_like = like_after place a
  compared_by place a by_between = do t ← token (reserved r.Between); between_after place a false t.start
  compared_by place a by_in = do t ← token (reserved r.In); in_after place a false t.start
  compared_by place a by_is = is_after place a
  compared_by place a by_not = not_after place a
  compared_by place a no_comparison = pure a

  -- a `>` that was kept is the comparison
  abbrev pub compared : ℕ → Pending → Parser Expr
  compared place (a, Some t) = do b ← bor; pure (e.Compare a compare.Greater t.start b place)
  compared place (a, None) = peek (class_of no_comparison comparison_class) >>= compared_by place a

  unfoldable pub comparison : Parser Expr
  comparison = starting (λ p. bor_pending >>= compared p)

  -- ---- NOT, AND, OR

  unfoldable pub negation : Parser Expr
  negation = do
    ps ← many (reserved r.Not) not_place turns []
    a ← comparison
    pure (nots ps a)

  unfoldable pub conjunction_from : ℕ → Expr → Parser Expr
  conjunction_from = chain_from (reserved r.And) (λ t. operator.And) negation e.And

  unfoldable pub conjunction : Parser Expr
  conjunction = starting (λ p. negation >>= conjunction_from p)

  unfoldable pub disjunction_from : ℕ → Expr → Parser Expr
  disjunction_from = chain_from (reserved r.Or) (λ t. operator.Or) conjunction e.Or

  -- expr
  unfoldable pub disjunction : Parser Expr
  disjunction = starting (λ p. conjunction >>= disjunction_from p)

  -- an expression that goes on behind a postfix which begins at this place
  unfoldable pub expr_from : ℕ → Expr → Parser Expr
  expr_from p a = do
    b ← product_from p a
    c ← sum_from p b
    d ← shift_from p c
    f ← band_from p d
    g ← bxor_from p f
    h ← bor_from p g
    i ← compared p h
    j ← conjunction_from p i
    disjunction_from p j

  -- the same behind a basic expression
  unfoldable pub expr_after : ℕ → Expr → Parser Expr
  expr_after p a = do
    b ← postfix_from p a
    expr_from p b
