-- The readers of queries, SELECT, FROM and GROUP BY.
use Rattle.std.specs.Prelude.{ℕ, Bool, true, false, ◌||◌, List, [], ◌∷◌, Option, Some, None}
use Rattle.fronts.specs.Readers.{◌>>=◌, ◌>>◌, pure, refuse, peek, token, if_comes, many, noting}
use Rattle.sql_types.specs.declared.kinds.SetKind.{SetKind}
use Rattle.sql_names.specs.declared.words.Reserved.TheVariants as r
use Rattle.sql_ast.specs.declared.words.Sign.TheVariants as s
use Rattle.sql_ast.specs.declared.words.Word.TheVariants as w
use Rattle.sql_ast.specs.declared.token.Token.{Token}
use Rattle.sql_ast.specs.declared.clauses.Aliased.{Aliased}
use Rattle.sql_ast.specs.declared.clauses.Edit.{Edit}
use Rattle.sql_ast.specs.declared.clauses.FilterPart.{FilterPart}
use Rattle.sql_ast.specs.declared.clauses.Item.{Item}
use Rattle.sql_ast.specs.declared.clauses.Item.TheVariants as item
use Rattle.sql_ast.specs.declared.clauses.On.{On}
use Rattle.sql_ast.specs.declared.clauses.On.TheVariants as on
use Rattle.sql_ast.specs.declared.clauses.PivotCall.{PivotCall}
use Rattle.sql_ast.specs.declared.clauses.Replacement.{Replacement}
use Rattle.sql_ast.specs.declared.clauses.Turn.{Turn}
use Rattle.sql_ast.specs.declared.clauses.Turn.TheVariants as turn
use Rattle.sql_ast.specs.declared.clauses.Turned.{Turned}
use Rattle.sql_ast.specs.declared.expr.Expr.{Expr}
use Rattle.sql_ast.specs.declared.expr.Expr.TheVariants as e
use Rattle.sql_ast.specs.declared.grouping.Cube.{Cube}
use Rattle.sql_ast.specs.declared.grouping.CubeKind.TheVariants as cube_kind
use Rattle.sql_ast.specs.declared.grouping.GroupItem.{GroupItem}
use Rattle.sql_ast.specs.declared.grouping.GroupItem.TheVariants as group_item
use Rattle.sql_ast.specs.declared.grouping.GroupSet.{GroupSet}
use Rattle.sql_ast.specs.declared.grouping.GroupSet.TheVariants as gset
use Rattle.sql_ast.specs.declared.grouping.Groups.{Groups}
use Rattle.sql_ast.specs.declared.grouping.Groups.TheVariants as groups
use Rattle.sql_ast.specs.declared.query.Cte.{Cte}
use Rattle.sql_ast.specs.declared.query.FromItem.{FromItem, roll-FromItem}
use Rattle.sql_ast.specs.declared.query.JoinWord.{JoinWord}
use Rattle.sql_ast.specs.declared.query.JoinWord.TheVariants as join
use Rattle.sql_ast.specs.declared.query.Joined.{Joined, roll-Joined}
use Rattle.sql_ast.specs.declared.query.Primary.{Primary}
use Rattle.sql_ast.specs.declared.query.Primary.TheVariants as primary
use Rattle.sql_ast.specs.declared.query.Query.{Query, roll-Query}
use Rattle.sql_ast.specs.declared.query.Select.{Select, roll-Select}
use Rattle.sql_ast.specs.declared.query.SetTerm.{SetTerm}
use Rattle.sql_ast.specs.declared.query.Term.{Term}
use Rattle.sql_ast.specs.declared.query.Term.TheVariants as term
use Rattle.sql_ast.specs.Marks.{reserved, sign, word, named}
use Rattle.sql_ast.specs.Trees.{name_at, cube_of, set_word, set_quantifier, joins_freely}
use Rattle.sql_grammar.specs.Ways.{Parser, Ended, until, following, starting}
use Rattle.sql_grammar.specs.Classes.{class_of, ItemStart, item_by_star, item_by_prefix, item_by_basic, no_item, item_class, starts_item, a_union, set_word_of, set_kind_by, JoinStart, by_cross, by_inner, by_join, by_left, by_right, by_full, no_join, join_class, joins, comma_or_join, PrimaryStart, primary_name, primary_bracket, primary_by_unnest, no_primary, primary_class, GroupsStart, groups_bracket, groups_grouping, groups_by_cube, groups_expr, groups_class}
use Rattle.sql_grammar.specs.Words.{name, alias, alias_in_from, names, dotted, offset_column, unpivot_column, comma_column, include, select_distinct, as_struct, limit, optional}
use Rattle.sql_grammar.specs.Exprs.{tells, told, Opening, with_read, term_read, Held, held_query, held_exprs, Below, grouped, after, order, call, bracketed, postfix_or_star, expr_from, expr_after, enclosed}

-- how the items of a select list end: by a comma behind them, or by the word EXCEPT behind a `*`, which was read
pub data ItemsEnd : Type 0 where
  at_comma : ItemsEnd
  at_except : Token → ItemsEnd

-- the end of the items, where the last was a `*` and EXCEPT was read
abbrev pub except_end : Option Token → Option ItemsEnd
except_end None = None
except_end (Some t) = Some (at_except t)

-- what its clauses make of a SELECT
abbrev pub select_of : Token → Bool → Bool → List (Item Expr) → Option FromItem → Option Expr → Option (Groups Expr) → Option (FilterPart Expr) → Select
select_of t d b is f c g h = roll-Select (record { distinct = d; as_struct = b; items = is; from = f; filter = c; grouping = g; having = h; place = t.start })

abbrev pub joined_of : JoinWord → ℕ → Primary → Option (On Expr) → Joined
joined_of x place a o = roll-Joined (record { word = x; primary = a; on = o; place = place })

abbrev pub on_next : Token → Bool
on_next t = reserved r.On t || reserved r.Using t

module _ (turns : ℕ) (below : Below) where
  -- ---- items

  -- "(" expr AS name {"," expr AS name} ")"
  unfoldable pub replacement : Parser (Replacement Expr)
  replacement = do
    a ← below.inner
    token (reserved r.As)
    n ← token named
    pure (record { expr = a; name = name_at n })

  unfoldable pub comma_replacement : Parser (Replacement Expr)
  comma_replacement = token (sign s.Comma) >> replacement

  unfoldable pub replaces : Parser (List (Replacement Expr))
  replaces = if_comes (word w.Replace)
      (do token (word w.Replace); token (sign s.OpenRound); a ← replacement; xs ← many (sign s.Comma) comma_replacement turns (a ∷ []); token (sign s.CloseRound); pure xs)
      (pure [])

  -- [edit] of an item: EXCEPT before no bracket is the word of a set operation, which was read
  unfoldable pub except_or_end : (Edit Expr → Item Expr) → Token → Parser (Item Expr × Option Token)
  except_or_end make x = if_comes (sign s.OpenRound)
      (do ns ← names turns; rs ← replaces; pure (make (record { except = ns; replace = rs }), None))
      (pure (make (record { except = []; replace = [] }), Some x))

  unfoldable pub edited : (Edit Expr → Item Expr) → Parser (Item Expr × Option Token)
  edited make = if_comes (reserved r.Except) (token (reserved r.Except) >>= except_or_end make) (do rs ← replaces; pure (make (record { except = []; replace = rs }), None))

  unfoldable pub aliased : ℕ → Expr → Parser (Item Expr × Option Token)
  aliased place a = do
    n ← alias
    pure (item.Expr a n place, None)

  -- behind a postfix with which an item begins
  abbrev pub item_after : ℕ → Expr → Option Token → Parser (Item Expr × Option Token)
  item_after place a None = expr_from turns below place a >>= aliased place
  item_after place a (Some x) = edited (λ d. item.QualifiedStar a d place)

  abbrev pub item_by : ℕ → ItemStart → Parser (Item Expr × Option Token)
  item_by place item_by_star = do t ← token (sign s.Star); edited (λ d. item.Star d t.start)
  item_by place item_by_prefix = below.inner >>= aliased place
  item_by place item_by_basic = do x ← postfix_or_star turns below true; item_after place x.0 x.1
  item_by place no_item = refuse

  -- an item, and the word EXCEPT behind it, if it was read
  unfoldable pub item_or_except : Parser (Item Expr × Option Token)
  item_or_except = starting (λ p. peek (class_of no_item item_class) >>= item_by p)

  unfoldable pub items_after : Parser (Ended (Item Expr) ItemsEnd)
  items_after = do
    token (sign s.Comma)
    if_comes starts_item (do x ← item_or_except; pure (x.0 ∷ [], except_end x.1)) (pure ([], Some at_comma))

  -- {"," item} [","] behind the first
  abbrev pub items_from : Item Expr → Option Token → Parser (Ended (Item Expr) ItemsEnd)
  items_from i (Some x) = pure (i ∷ [], Some (at_except x))
  items_from i None = until (sign s.Comma) items_after turns (i ∷ [])

  unfoldable pub items : Parser (Ended (Item Expr) ItemsEnd)
  items = do
    x ← item_or_except
    items_from x.0 x.1

  -- ---- FROM

  unfoldable pub pivot_call : Parser (PivotCall Expr)
  pivot_call = do
    k ← call turns below
    a ← alias
    pure (record { call = k; alias = a })

  unfoldable pub comma_pivot_call : Parser (PivotCall Expr)
  comma_pivot_call = token (sign s.Comma) >> pivot_call

  unfoldable pub pivot_value : Parser (Aliased Expr)
  pivot_value = do
    x ← below.inner
    a ← alias
    pure (record { expr = x; alias = a })

  unfoldable pub comma_pivot_value : Parser (Aliased Expr)
  comma_pivot_value = token (sign s.Comma) >> pivot_value

  -- behind the word PIVOT
  unfoldable pub pivot_behind : Token → Parser (Turn Expr)
  pivot_behind t = do
    token (sign s.OpenRound)
    k ← pivot_call
    ks ← many (sign s.Comma) comma_pivot_call turns (k ∷ [])
    token (reserved r.For)
    n ← name
    ns ← dotted turns (n ∷ [])
    token (reserved r.In)
    token (sign s.OpenRound)
    x ← pivot_value
    xs ← many (sign s.Comma) comma_pivot_value turns (x ∷ [])
    token (sign s.CloseRound)
    token (sign s.CloseRound)
    pure (turn.Pivot ks ns xs t.start)

  unfoldable pub pivot : Parser (Turn Expr)
  pivot = token (word w.Pivot) >>= pivot_behind

  -- behind the word UNPIVOT
  unfoldable pub unpivot_behind : Token → Parser (Turn Expr)
  unpivot_behind t = do
    k ← include
    token (sign s.OpenRound)
    n ← name
    token (reserved r.For)
    m ← name
    token (reserved r.In)
    token (sign s.OpenRound)
    x ← unpivot_column
    xs ← many (sign s.Comma) comma_column turns (x ∷ [])
    token (sign s.CloseRound)
    token (sign s.CloseRound)
    pure (turn.Unpivot k n m xs t.start)

  unfoldable pub unpivot : Parser (Turn Expr)
  unpivot = token (word w.Unpivot) >>= unpivot_behind

  unfoldable pub turned_by : Parser (Turn Expr) → Parser (Option (Turned Expr))
  turned_by turning = do
    x ← turning
    a ← alias_in_from
    pure (Some (record { turn = x; alias = a }))

  -- [turn [alias]]
  unfoldable pub turned : Parser (Option (Turned Expr))
  turned = if_comes (word w.Pivot) (turned_by pivot) (if_comes (word w.Unpivot) (turned_by unpivot) (pure None))

  -- a table, or a path, whose first name this is
  unfoldable pub table_or_path : Token → Parser Primary
  table_or_path t = if_comes (sign s.Dot)
      (do token (sign s.Dot); m ← name; ns ← dotted turns (name_at t ∷ m ∷ []); a ← alias_in_from; d ← offset_column; pure (primary.Path ns a d t.start))
      (do a ← alias_in_from; x ← turned; pure (primary.Table (name_at t) a x t.start))

  unfoldable pub primary_query : Parser Primary
  primary_query = do
    o ← token (sign s.OpenRound)
    q ← below.query
    token (sign s.CloseRound)
    a ← alias_in_from
    x ← turned
    pure (primary.Query q a x o.start)

  unfoldable pub primary_unnest : Parser Primary
  primary_unnest = do
    t ← token (reserved r.Unnest)
    x ← bracketed turns below
    a ← alias_in_from
    d ← offset_column
    pure (primary.Unnest x a d t.start)

  abbrev pub primary_by : PrimaryStart → Parser Primary
  primary_by primary_name = token named >>= table_or_path
  primary_by primary_bracket = primary_query
  primary_by primary_by_unnest = primary_unnest
  primary_by no_primary = refuse

  unfoldable pub primary_item : Parser Primary
  primary_item = peek (class_of no_primary primary_class) >>= primary_by

  unfoldable pub on_expr : Parser (On Expr)
  on_expr = do
    t ← token (reserved r.On)
    a ← below.inner
    pure (on.On a t.start)

  unfoldable pub on_using : Parser (On Expr)
  on_using = do
    t ← token (reserved r.Using)
    ns ← names turns
    pure (on.Using ns t.start)

  unfoldable pub condition : Parser (On Expr)
  condition = if_comes (reserved r.Using) on_using on_expr

  -- [on], which may be missing only behind a path or UNNEST
  unfoldable pub on_part : Primary → Parser (Option (On Expr))
  on_part a = if_comes on_next (do o ← condition; pure (Some o)) (elim (joins_freely a) [ true ↦ pure None | false ↦ refuse ])

  -- primary [on], behind JOIN
  unfoldable pub joined_freely : JoinWord → ℕ → Parser Joined
  joined_freely x place = do
    a ← primary_item
    o ← on_part a
    pure (joined_of x place a o)

  unfoldable pub join_freely : JoinWord → ℕ → Parser Joined
  join_freely x place = token (reserved r.Join) >> joined_freely x place

  -- JOIN primary on
  unfoldable pub join_on : JoinWord → ℕ → Parser Joined
  join_on x place = do
    token (reserved r.Join)
    a ← primary_item
    o ← condition
    pure (joined_of x place a (Some o))

  -- [OUTER] JOIN primary [on], and with a condition that must stand
  unfoldable pub outer_freely : JoinWord → ℕ → Parser Joined
  outer_freely x place = optional r.Outer >> join_freely x place

  unfoldable pub outer_on : JoinWord → ℕ → Parser Joined
  outer_on x place = optional r.Outer >> join_on x place

  -- JOIN primary, behind CROSS
  unfoldable pub cross_behind : ℕ → Parser Joined
  cross_behind place = do
    token (reserved r.Join)
    a ← primary_item
    pure (joined_of join.Cross place a None)

  abbrev pub join_by : JoinStart → Parser Joined
  join_by by_cross = do t ← token (reserved r.Cross); cross_behind t.start
  join_by by_inner = do t ← token (reserved r.Inner); join_freely join.Inner t.start
  join_by by_join = do t ← token (reserved r.Join); joined_freely join.Inner t.start
  join_by by_left = do t ← token (reserved r.Left); outer_freely join.Left t.start
  join_by by_right = do t ← token (reserved r.Right); outer_on join.Right t.start
  join_by by_full = do t ← token (reserved r.Full); outer_on join.Full t.start
  join_by no_join = refuse

  -- behind a comma
  abbrev pub later_by : JoinStart → Parser Joined
  later_by by_right = refuse
  later_by by_full = refuse
  later_by k = join_by k

  unfoldable pub join_item : Parser Joined
  join_item = peek (class_of no_join join_class) >>= join_by

  unfoldable pub comma_behind : ℕ → Parser Joined
  comma_behind place = do
    a ← primary_item
    pure (joined_of join.Comma place a None)

  unfoldable pub comma_join : Parser Joined
  comma_join = do
    t ← token (sign s.Comma)
    comma_behind t.start

  -- once a comma stands, or before it
  unfoldable pub later_join : Parser Joined
  later_join = if_comes (sign s.Comma) comma_join (peek (class_of no_join join_class) >>= later_by)

  unfoldable pub from_item : Parser FromItem
  from_item = starting (λ p. do
    a ← primary_item
    xs ← many joins join_item turns []
    ys ← many comma_or_join later_join turns xs
    pure (roll-FromItem (record { first = a; rest = ys; place = p })))

  unfoldable pub from_part : Parser (Option FromItem)
  from_part = if_comes (reserved r.From) (do token (reserved r.From); f ← from_item; pure (Some f)) (pure None)

  -- ---- GROUP BY

  -- a grouping item behind what its brackets hold: the list, or a longer expression
  abbrev pub gitem_after : ℕ → Held → Parser (GroupItem Expr)
  gitem_after place (held_query q) = do a ← expr_after turns below place (e.Scalar q place); pure (group_item.Expr a)
  gitem_after place (held_exprs xs) = do
    x ← noting (expr_after turns below place (grouped place (held_exprs xs)))
    pure (elim x.0 [ [] ↦ group_item.List xs place | t ∷ ts ↦ group_item.Expr x.1 ])

  unfoldable pub gitem : Parser (GroupItem Expr)
  gitem = if_comes (sign s.OpenRound)
      (do o ← token (sign s.OpenRound); if_comes (sign s.CloseRound) (do token (sign s.CloseRound); pure (group_item.List [] o.start)) (enclosed turns below >>= gitem_after o.start))
      (do a ← below.inner; pure (group_item.Expr a))

  unfoldable pub comma_gitem : Parser (GroupItem Expr)
  comma_gitem = token (sign s.Comma) >> gitem

  -- behind ROLLUP or CUBE
  unfoldable pub cube_behind : Token → Parser (Cube Expr)
  cube_behind t = do
    token (sign s.OpenRound)
    a ← gitem
    xs ← many (sign s.Comma) comma_gitem turns (a ∷ [])
    token (sign s.CloseRound)
    pure (record { kind = told cube_kind.Rollup cube_of t; items = xs; place = t.start })

  unfoldable pub cube : Parser (Cube Expr)
  cube = token (tells cube_of) >>= cube_behind

  unfoldable pub group_set : Parser (GroupSet Expr)
  group_set = if_comes (tells cube_of) (do a ← cube; pure (gset.Cube a)) (do a ← gitem; pure (gset.Item a))

  unfoldable pub comma_group_set : Parser (GroupSet Expr)
  comma_group_set = token (sign s.Comma) >> group_set

  unfoldable pub keys : ℕ → Expr → Parser (Groups Expr)
  keys place a = do
    xs ← many (sign s.Comma) (after turns below (sign s.Comma)) turns (a ∷ [])
    pure (groups.Keys xs place)

  -- keys whose first begins with brackets
  unfoldable pub keys_after : ℕ → Held → Parser (Groups Expr)
  keys_after place h = do
    a ← expr_after turns below place (grouped place h)
    keys place a

  unfoldable pub grouping_sets : Token → Parser (Groups Expr)
  grouping_sets t = do
    token (word w.Sets)
    token (sign s.OpenRound)
    a ← group_set
    xs ← many (sign s.Comma) comma_group_set turns (a ∷ [])
    token (sign s.CloseRound)
    pure (groups.Sets xs t.start)

  -- keys whose first begins with the call of GROUPING
  unfoldable pub keys_grouping : Token → Parser (Groups Expr)
  keys_grouping t = do
    a ← bracketed turns below
    b ← expr_after turns below t.start (e.Grouping a t.start)
    keys t.start b

  abbrev pub groups_by : ℕ → GroupsStart → Parser (Groups Expr)
  groups_by place groups_bracket = do o ← token (sign s.OpenRound); if_comes (sign s.CloseRound) (do token (sign s.CloseRound); pure (groups.Empty o.start)) (enclosed turns below >>= keys_after o.start)
  groups_by place groups_grouping = do t ← token (reserved r.Grouping); if_comes (word w.Sets) (grouping_sets t) (keys_grouping t)
  groups_by place groups_by_cube = do a ← cube; pure (groups.Cube a place)
  groups_by place groups_expr = below.inner >>= keys place

  unfoldable pub grouped_by : Parser (Groups Expr)
  grouped_by = starting (λ p. peek (class_of groups_expr groups_class) >>= groups_by p)

  unfoldable pub group_by : Parser (Option (Groups Expr))
  group_by = if_comes (reserved r.Group) (do token (reserved r.Group); token (reserved r.By); g ← grouped_by; pure (Some g)) (pure None)

  -- ---- SELECT

  unfoldable pub where_part : Parser (Option Expr)
  where_part = if_comes (reserved r.Where) (do a ← after turns below (reserved r.Where); pure (Some a)) (pure None)

  unfoldable pub having_part : Parser (Option (FilterPart Expr))
  having_part = if_comes (reserved r.Having) (do t ← token (reserved r.Having); a ← below.inner; pure (Some (record { test = a; place = t.start }))) (pure None)

  unfoldable pub clauses : Token → Bool → Bool → List (Item Expr) → Parser (Select × Option Token)
  clauses t d b is = do
    f ← from_part
    c ← where_part
    g ← group_by
    h ← having_part
    pure (select_of t d b is f c g h, None)

  abbrev pub select_end : Token → Bool → Bool → List (Item Expr) → Option ItemsEnd → Parser (Select × Option Token)
  select_end t d b is None = clauses t d b is
  select_end t d b is (Some at_comma) = clauses t d b is
  select_end t d b is (Some (at_except x)) = pure (select_of t d b is None None None None, Some x)

  -- a SELECT, and the word EXCEPT behind it, if it was read
  unfoldable pub select_or_except : Parser (Select × Option Token)
  select_or_except = do
    t ← token (reserved r.Select)
    d ← select_distinct
    b ← as_struct
    x ← items
    select_end t d b x.0 x.1

  -- ---- queries

  unfoldable pub term_or_except : Parser (Term × Option Token)
  term_or_except = if_comes (sign s.OpenRound)
      (do o ← token (sign s.OpenRound); q ← below.query; token (sign s.CloseRound); pure (term.Query q o.start, None))
      (do x ← select_or_except; pure (term.Select x.0, x.1))

  -- the word of the next set operation of this kind, if it comes; EXCEPT that was read must be it
  abbrev pub set_next : SetKind → Option Token → Parser (Option Token)
  set_next k None = if_comes (reserved (set_word k)) (do t ← token (reserved (set_word k)); pure (Some t)) (pure None)
  set_next k (Some t) = elim (reserved (set_word k) t) [ true ↦ pure (Some t) | false ↦ refuse ]

  -- a term behind both words of its set operation, and the word of the next
  unfoldable pub set_term : SetKind → Token → Parser (SetTerm Term × Option Token)
  set_term k t = do
    a ← term_or_except
    x ← set_next k a.1
    pure (record { kind = k; term = a.0; place = t.start }, x)

  -- the same behind the first word
  unfoldable pub set_item : SetKind → Token → Parser (SetTerm Term × Option Token)
  set_item k t = token (reserved (set_quantifier k)) >> set_term k t

  -- all set operations, of this kind, behind both words of the first
  unfoldable pub set_terms : SetKind → Token → Parser (List (SetTerm Term))
  set_terms k t = do
    x ← set_term k t
    following (set_item k) turns (x.0 ∷ []) x.1

  -- behind the first word of the first
  unfoldable pub set_first : Token → Parser (List (SetTerm Term))
  set_first t = if_comes (reserved r.All)
      (do token (reserved r.All); set_terms (set_kind_by (told a_union set_word_of t) false) t)
      (do token (reserved r.Distinct); set_terms (set_kind_by (told a_union set_word_of t) true) t)

  -- the set operations behind the first term
  abbrev pub sets_from : Option Token → Parser (List (SetTerm Term))
  sets_from None = if_comes (tells set_word_of) (token (tells set_word_of) >>= set_first) (pure [])
  sets_from (Some t) = set_first t

  -- the rest of a query behind the first term of its body: the place of the query, its CTEs, the place of the term
  unfoldable pub query_end : ℕ → List (Cte Query) → ℕ → Term → Option Token → Parser Query
  query_end place cs from a x = do
    xs ← sets_from x
    ss ← order turns below
    k ← limit
    pure (roll-Query (record { ctes = cs; body = record { first = a; rest = xs; place = from }; order = ss; limit = k; place = place }))

  unfoldable pub cte : Parser (Cte Query)
  cte = do
    n ← token named
    token (reserved r.As)
    token (sign s.OpenRound)
    q ← below.query
    token (sign s.CloseRound)
    pure (record { name = name_at n; query = q })

  unfoldable pub comma_cte : Parser (Cte Query)
  comma_cte = token (sign s.Comma) >> cte

  -- a query's body and what follows it
  unfoldable pub query_body : ℕ → List (Cte Query) → Parser Query
  query_body place cs = starting (λ p. do x ← term_or_except; query_end place cs p x.0 x.1)

  -- a query behind its word WITH
  unfoldable pub query_with : Token → Parser Query
  query_with t = do
    c ← cte
    cs ← many (sign s.Comma) comma_cte turns (c ∷ [])
    query_body t.start cs

  unfoldable pub query_whole : Parser Query
  query_whole = if_comes (reserved r.With) (token (reserved r.With) >>= query_with) (starting (λ p. query_body p []))

  -- a query behind what was read of it
  abbrev pub query_more : Opening → Parser Query
  query_more (with_read t) = query_with t
  query_more (term_read a p) = query_end p [] p a None
