-- The grammar: which tokens spell which tree, a case for each production, on its own and apart from any parser. `{..}` of
-- a production is a family of its own. A node's place is where its first token begins.
use Rattle.std.specs.Prelude.{◌≡◌, ℕ, Bool, true, false, List, [], ◌∷◌, ◌++◌, Option, Some, None}
use Rattle.sql_types.specs.declared.kinds.SetKind.{SetKind}
use Rattle.sql_names.specs.declared.words.Reserved.TheVariants as r
use Rattle.sql_ast.specs.declared.words.Sign.TheVariants as s
use Rattle.sql_ast.specs.declared.words.Word.TheVariants as w
use Rattle.sql_ast.specs.declared.token.Token.{Token}
use Rattle.sql_ast.specs.declared.clauses.Name.{Name}
use Rattle.sql_ast.specs.declared.clauses.Aliased.{Aliased}
use Rattle.sql_ast.specs.declared.clauses.Arg.{Arg}
use Rattle.sql_ast.specs.declared.clauses.Arg.TheVariants as arg
use Rattle.sql_ast.specs.declared.clauses.Binding.{Binding}
use Rattle.sql_ast.specs.declared.clauses.Call.{Call}
use Rattle.sql_ast.specs.declared.clauses.Edit.{Edit}
use Rattle.sql_ast.specs.declared.clauses.FilterPart.{FilterPart}
use Rattle.sql_ast.specs.declared.clauses.Function.{Function}
use Rattle.sql_ast.specs.declared.clauses.Item.{Item}
use Rattle.sql_ast.specs.declared.clauses.Item.TheVariants as item
use Rattle.sql_ast.specs.declared.clauses.LimitPart.{LimitPart}
use Rattle.sql_ast.specs.declared.clauses.NullsPart.{NullsPart}
use Rattle.sql_ast.specs.declared.clauses.NullsPlace.{NullsPlace}
use Rattle.sql_ast.specs.declared.clauses.On.{On}
use Rattle.sql_ast.specs.declared.clauses.On.TheVariants as on
use Rattle.sql_ast.specs.declared.clauses.PivotCall.{PivotCall}
use Rattle.sql_ast.specs.declared.clauses.Replacement.{Replacement}
use Rattle.sql_ast.specs.declared.clauses.Sort.{Sort}
use Rattle.sql_ast.specs.declared.clauses.Turn.{Turn}
use Rattle.sql_ast.specs.declared.clauses.Turn.TheVariants as turn
use Rattle.sql_ast.specs.declared.clauses.Turned.{Turned}
use Rattle.sql_ast.specs.declared.clauses.UnpivotColumn.{UnpivotColumn}
use Rattle.sql_ast.specs.declared.clauses.When.{When}
use Rattle.sql_ast.specs.declared.clauses.WithOffset.{WithOffset}
use Rattle.sql_ast.specs.declared.expr.Comparison.{Comparison}
use Rattle.sql_ast.specs.declared.expr.Expr.{Expr}
use Rattle.sql_ast.specs.declared.expr.Expr.TheVariants as e
use Rattle.sql_ast.specs.declared.expr.IndexForm.{IndexForm}
use Rattle.sql_ast.specs.declared.expr.IsTest.{IsTest}
use Rattle.sql_ast.specs.declared.expr.Link.{Link}
use Rattle.sql_ast.specs.declared.expr.Operator.{Operator}
use Rattle.sql_ast.specs.declared.expr.Operator.TheVariants as operator
use Rattle.sql_ast.specs.declared.expr.Part.{Part}
use Rattle.sql_ast.specs.declared.expr.Part.TheVariants as part
use Rattle.sql_ast.specs.declared.expr.Prefix.{Prefix}
use Rattle.sql_ast.specs.declared.expr.Quantifier.{Quantifier}
use Rattle.sql_ast.specs.declared.grouping.Cube.{Cube}
use Rattle.sql_ast.specs.declared.grouping.CubeKind.{CubeKind}
use Rattle.sql_ast.specs.declared.grouping.GroupItem.{GroupItem}
use Rattle.sql_ast.specs.declared.grouping.GroupItem.TheVariants as group_item
use Rattle.sql_ast.specs.declared.grouping.GroupSet.{GroupSet}
use Rattle.sql_ast.specs.declared.grouping.GroupSet.TheVariants as group_set
use Rattle.sql_ast.specs.declared.grouping.Groups.{Groups}
use Rattle.sql_ast.specs.declared.grouping.Groups.TheVariants as groups
use Rattle.sql_ast.specs.declared.query.Body.{Body}
use Rattle.sql_ast.specs.declared.query.Cte.{Cte}
use Rattle.sql_ast.specs.declared.query.FromItem.{FromItem, roll-FromItem}
use Rattle.sql_ast.specs.declared.query.JoinWord.TheVariants as join
use Rattle.sql_ast.specs.declared.query.Joined.{Joined, roll-Joined}
use Rattle.sql_ast.specs.declared.query.Primary.{Primary}
use Rattle.sql_ast.specs.declared.query.Primary.TheVariants as primary
use Rattle.sql_ast.specs.declared.query.Query.{Query, roll-Query}
use Rattle.sql_ast.specs.declared.query.Select.{Select, roll-Select}
use Rattle.sql_ast.specs.declared.query.SetTerm.{SetTerm}
use Rattle.sql_ast.specs.declared.query.Term.{Term}
use Rattle.sql_ast.specs.declared.query.Term.TheVariants as term
use Rattle.sql_ast.specs.declared.type_spelling.TypeSpelling.{TypeSpelling}
use Rattle.sql_ast.specs.declared.type_spelling.TypeField.{TypeField}
use Rattle.sql_ast.specs.Marks.{Tokens, Is, Says, IsNot, reserved, sign, word, named, text, bytes, integer, parameter, number, content, closes_shift, start_of, spelled}
use Rattle.sql_ast.specs.Trees.{name_at, function_of, product_of, sum_of, comparison_of, quantifier_of, test_of, form_of, cube_of, set_word, set_quantifier, link, chain, nots, prefixes, path, is_subquery, alone, joins_freely}
use Rattle.sql_ast.specs.Parts.{AliasOf, FromAliasOf, NamesOf, NameDotsOf, PlaceOf, UnpivotColumnOf, UnpivotCommasOf, IncludeOf, TypeOf, FieldsOf, type_levels, DistinctOf, SelectDistinctOf, AsStructOf, DirectionOf, NullsPlaceOf, NullsPartOf, OptionalOf, NegatableOf, IsNotOf, NotsOf, PrefixesOf, LimitOf, CallLimitOf}

mutual
  -- ---- expressions

  -- expr = conj {OR conj}
  pub data ExprOf : Expr → Tokens → Type 0 where
    expr_is : {a : Expr} {ls : List (Link Expr)} {u v : Tokens} → ConjOf a u → OrsOf ls v → ExprOf (chain e.Or a ls (start_of u)) (u ++ v)

  pub data OrsOf : List (Link Expr) → Tokens → Type 0 where
    ors_none : OrsOf [] []
    ors_more : {t : Token} {a : Expr} {ls : List (Link Expr)} {u v : Tokens} → Is (reserved r.Or) t → ConjOf a u → OrsOf ls v → OrsOf (link operator.Or t a ∷ ls) (t ∷ (u ++ v))

  -- conj = neg {AND neg}
  pub data ConjOf : Expr → Tokens → Type 0 where
    conj_is : {a : Expr} {ls : List (Link Expr)} {u v : Tokens} → NegOf a u → AndsOf ls v → ConjOf (chain e.And a ls (start_of u)) (u ++ v)

  pub data AndsOf : List (Link Expr) → Tokens → Type 0 where
    ands_none : AndsOf [] []
    ands_more : {t : Token} {a : Expr} {ls : List (Link Expr)} {u v : Tokens} → Is (reserved r.And) t → NegOf a u → AndsOf ls v → AndsOf (link operator.And t a ∷ ls) (t ∷ (u ++ v))

  -- neg = {NOT} comp
  pub data NegOf : Expr → Tokens → Type 0 where
    neg_is : {ps : List ℕ} {a : Expr} {u v : Tokens} → NotsOf ps u → CompOf a v → NegOf (nots ps a) (u ++ v)

  -- comp = bor [("=" | "!=" | "<>" | "<" | "<=" | ">" | ">=") bor | [NOT] LIKE bor | ..]
  pub data CompOf : Expr → Tokens → Type 0 where
    comp_bor : {a : Expr} {u : Tokens} → BorOf a u → CompOf a u
    comp_compare : {a b : Expr} {c : Comparison} {t : Token} {u v : Tokens} → BorOf a u → Says comparison_of t c → BorOf b v
        → CompOf (e.Compare a c t.start b (start_of u)) (u ++ (t ∷ v))
    -- [NOT] LIKE bor
    comp_like : {a b : Expr} {n : Bool} {p : ℕ} {u x v : Tokens} → BorOf a u → NegatableOf r.Like n p x → BorOf b v → CompOf (e.Like a n p b (start_of u)) (u ++ (x ++ v))
    -- LIKE (ANY | SOME | ALL) list. The parentheses of a quantified LIKE always hold a list.
    comp_like_list : {a : Expr} {q : Quantifier} {bs : List Expr} {t x o c : Token} {u v : Tokens} → BorOf a u → Is (reserved r.Like) t → Says quantifier_of x q
        → Is (sign s.OpenRound) o → ListOf bs v → Is (sign s.CloseRound) c
        → CompOf (e.LikeList a q t.start bs (start_of u)) (u ++ (t ∷ x ∷ o ∷ (v ++ (c ∷ []))))
    -- LIKE (ANY | SOME | ALL) UNNEST "(" expr ")"
    comp_like_unnest : {a b : Expr} {q : Quantifier} {t x y o c : Token} {u v : Tokens} → BorOf a u → Is (reserved r.Like) t → Says quantifier_of x q
        → Is (reserved r.Unnest) y → Is (sign s.OpenRound) o → ExprOf b v → Is (sign s.CloseRound) c
        → CompOf (e.LikeUnnest a q t.start b (start_of u)) (u ++ (t ∷ x ∷ y ∷ o ∷ (v ++ (c ∷ []))))
    -- [NOT] BETWEEN bor AND bor
    comp_between : {a b d : Expr} {n : Bool} {p : ℕ} {t : Token} {u x v y : Tokens} → BorOf a u → NegatableOf r.Between n p x → BorOf b v → Is (reserved r.And) t → BorOf d y
        → CompOf (e.Between a n p b d (start_of u)) (u ++ (x ++ (v ++ (t ∷ y))))
    -- [NOT] IN list. Content of parentheses that is a query is read as a query, also after IN.
    comp_in_list : {a : Expr} {bs : List Expr} {n : Bool} {p : ℕ} {o c : Token} {u x v : Tokens} → BorOf a u → NegatableOf r.In n p x
        → Is (sign s.OpenRound) o → ListOf bs v → alone bs ≡ false → Is (sign s.CloseRound) c
        → CompOf (e.InList a n p bs (start_of u)) (u ++ (x ++ (o ∷ (v ++ (c ∷ [])))))
    -- [NOT] IN "(" query ")"
    comp_in_query : {a : Expr} {q : Query} {n : Bool} {p : ℕ} {o c : Token} {u x v : Tokens} → BorOf a u → NegatableOf r.In n p x
        → Is (sign s.OpenRound) o → QueryOf q v → Is (sign s.CloseRound) c
        → CompOf (e.InQuery a n p q o.start (start_of u)) (u ++ (x ++ (o ∷ (v ++ (c ∷ [])))))
    -- [NOT] IN UNNEST "(" expr ")"
    comp_in_unnest : {a b : Expr} {n : Bool} {p : ℕ} {y o c : Token} {u x v : Tokens} → BorOf a u → NegatableOf r.In n p x
        → Is (reserved r.Unnest) y → Is (sign s.OpenRound) o → ExprOf b v → Is (sign s.CloseRound) c
        → CompOf (e.InUnnest a n p b (start_of u)) (u ++ (x ++ (y ∷ o ∷ (v ++ (c ∷ [])))))
    -- IS [NOT] (NULL | TRUE | FALSE)
    comp_is : {a : Expr} {n : Bool} {p : ℕ} {i : IsTest} {t : Token} {u x : Tokens} → BorOf a u → IsNotOf n p x → Says test_of t i
        → CompOf (e.Is a n i p (start_of u)) (u ++ (x ++ (t ∷ [])))
    -- IS [NOT] DISTINCT FROM bor
    comp_distinct : {a b : Expr} {n : Bool} {p : ℕ} {t y : Token} {u x v : Tokens} → BorOf a u → IsNotOf n p x → Is (reserved r.Distinct) t → Is (reserved r.From) y → BorOf b v
        → CompOf (e.Distinct a n p b (start_of u)) (u ++ (x ++ (t ∷ y ∷ v)))

  -- bor = bxor {"|" bxor}
  pub data BorOf : Expr → Tokens → Type 0 where
    bor_is : {a : Expr} {ls : List (Link Expr)} {u v : Tokens} → BxorOf a u → BorsOf ls v → BorOf (chain e.BitOr a ls (start_of u)) (u ++ v)

  pub data BorsOf : List (Link Expr) → Tokens → Type 0 where
    bors_none : BorsOf [] []
    bors_more : {t : Token} {a : Expr} {ls : List (Link Expr)} {u v : Tokens} → Is (sign s.Bar) t → BxorOf a u → BorsOf ls v → BorsOf (link operator.BitOr t a ∷ ls) (t ∷ (u ++ v))

  -- bxor = band {"^" band}
  pub data BxorOf : Expr → Tokens → Type 0 where
    bxor_is : {a : Expr} {ls : List (Link Expr)} {u v : Tokens} → BandOf a u → BxorsOf ls v → BxorOf (chain e.BitXor a ls (start_of u)) (u ++ v)

  pub data BxorsOf : List (Link Expr) → Tokens → Type 0 where
    bxors_none : BxorsOf [] []
    bxors_more : {t : Token} {a : Expr} {ls : List (Link Expr)} {u v : Tokens} → Is (sign s.Caret) t → BandOf a u → BxorsOf ls v → BxorsOf (link operator.BitXor t a ∷ ls) (t ∷ (u ++ v))

  -- band = shift {"&" shift}
  pub data BandOf : Expr → Tokens → Type 0 where
    band_is : {a : Expr} {ls : List (Link Expr)} {u v : Tokens} → ShiftOf a u → BandsOf ls v → BandOf (chain e.BitAnd a ls (start_of u)) (u ++ v)

  pub data BandsOf : List (Link Expr) → Tokens → Type 0 where
    bands_none : BandsOf [] []
    bands_more : {t : Token} {a : Expr} {ls : List (Link Expr)} {u v : Tokens} → Is (sign s.Ampersand) t → ShiftOf a u → BandsOf ls v → BandsOf (link operator.BitAnd t a ∷ ls) (t ∷ (u ++ v))

  -- shift = sum {("<<" | ">>") sum}
  pub data ShiftOf : Expr → Tokens → Type 0 where
    shift_is : {a : Expr} {ls : List (Link Expr)} {u v : Tokens} → SumOf a u → ShiftsOf ls v → ShiftOf (chain e.Shift a ls (start_of u)) (u ++ v)

  pub data ShiftsOf : List (Link Expr) → Tokens → Type 0 where
    shifts_none : ShiftsOf [] []
    shifts_left : {t : Token} {a : Expr} {ls : List (Link Expr)} {u v : Tokens} → Is (sign s.LessLess) t → SumOf a u → ShiftsOf ls v
        → ShiftsOf (link operator.ShiftLeft t a ∷ ls) (t ∷ (u ++ v))
    -- The operator `>>` is two tokens `>` with nothing between.
    shifts_right : {t x : Token} {a : Expr} {ls : List (Link Expr)} {u v : Tokens} → Is (sign s.Greater) t → Is (closes_shift t) x → SumOf a u → ShiftsOf ls v
        → ShiftsOf (link operator.ShiftRight t a ∷ ls) (t ∷ x ∷ (u ++ v))

  -- sum = prod {("+" | "-") prod}
  pub data SumOf : Expr → Tokens → Type 0 where
    sum_is : {a : Expr} {ls : List (Link Expr)} {u v : Tokens} → ProdOf a u → SumsOf ls v → SumOf (chain e.Sum a ls (start_of u)) (u ++ v)

  pub data SumsOf : List (Link Expr) → Tokens → Type 0 where
    sums_none : SumsOf [] []
    sums_more : {o : Operator} {t : Token} {a : Expr} {ls : List (Link Expr)} {u v : Tokens} → Says sum_of t o → ProdOf a u → SumsOf ls v → SumsOf (link o t a ∷ ls) (t ∷ (u ++ v))

  -- prod = unary {("*" | "||") unary}
  pub data ProdOf : Expr → Tokens → Type 0 where
    prod_is : {a : Expr} {ls : List (Link Expr)} {u v : Tokens} → UnaryOf a u → ProdsOf ls v → ProdOf (chain e.Product a ls (start_of u)) (u ++ v)

  pub data ProdsOf : List (Link Expr) → Tokens → Type 0 where
    prods_none : ProdsOf [] []
    prods_more : {o : Operator} {t : Token} {a : Expr} {ls : List (Link Expr)} {u v : Tokens} → Says product_of t o → UnaryOf a u → ProdsOf ls v → ProdsOf (link o t a ∷ ls) (t ∷ (u ++ v))

  -- unary = {"+" | "-" | "~"} postfix
  pub data UnaryOf : Expr → Tokens → Type 0 where
    unary_is : {ps : List Prefix} {a : Expr} {u v : Tokens} → PrefixesOf ps u → PostfixOf a v → UnaryOf (prefixes ps a) (u ++ v)

  -- postfix = basic {"." name | "[" (OFFSET | ORDINAL | SAFE_OFFSET | SAFE_ORDINAL) "(" expr ")" "]"}
  pub data PostfixOf : Expr → Tokens → Type 0 where
    postfix_is : {a : Expr} {ps : List (Part Expr)} {u v : Tokens} → BasicOf a u → PartsOf ps v → PostfixOf (path a ps (start_of u)) (u ++ v)

  pub data PartsOf : List (Part Expr) → Tokens → Type 0 where
    parts_none : PartsOf [] []
    parts_more : {p : Part Expr} {ps : List (Part Expr)} {u v : Tokens} → PartOf p u → PartsOf ps v → PartsOf (p ∷ ps) (u ++ v)

  pub data PartOf : Part Expr → Tokens → Type 0 where
    part_field : {t n : Token} → Is (sign s.Dot) t → Is named n → PartOf (part.Field (name_at n)) (t ∷ n ∷ [])
    part_index : {f : IndexForm} {a : Expr} {b x o c d : Token} {v : Tokens} → Is (sign s.OpenSquare) b → Says form_of x f → Is (sign s.OpenRound) o → ExprOf a v → Is (sign s.CloseRound) c
        → Is (sign s.CloseSquare) d → PartOf (part.Index f a b.start) (b ∷ x ∷ o ∷ (v ++ (c ∷ d ∷ [])))

  -- basic = integer | string | bytes | TRUE | FALSE | NULL | DATE string | parameter | name | call | ..
  pub data BasicOf : Expr → Tokens → Type 0 where
    basic_integer : {t : Token} → Is integer t → BasicOf (e.Integer (number t) t.start) (t ∷ [])
    basic_string : {t : Token} → Is text t → BasicOf (e.Text (content t) t.start) (t ∷ [])
    basic_bytes : {t : Token} → Is bytes t → BasicOf (e.Bytes (content t) t.start) (t ∷ [])
    basic_true : {t : Token} → Is (reserved r.True) t → BasicOf (e.Bool true t.start) (t ∷ [])
    basic_false : {t : Token} → Is (reserved r.False) t → BasicOf (e.Bool false t.start) (t ∷ [])
    basic_null : {t : Token} → Is (reserved r.Null) t → BasicOf (e.Null t.start) (t ∷ [])
    basic_date : {t x : Token} → Is (word w.Date) t → Is text x → BasicOf (e.Date (content x) t.start) (t ∷ x ∷ [])
    basic_parameter : {t : Token} → Is parameter t → BasicOf (e.Parameter (content t) t.start) (t ∷ [])
    basic_name : {t : Token} → Is named t → BasicOf (e.Name (spelled t) t.start) (t ∷ [])
    basic_call : {t : Token} {k : Call Expr} {u : Tokens} → CallOf k (t ∷ u) → BasicOf (e.Call k t.start) (t ∷ u)
    -- SAFE "." call. Directly after `.` each word is a name, so is IF.
    basic_safe_call : {t d n : Token} {k : Call Expr} {u : Tokens} → Is (word w.Safe) t → Is (sign s.Dot) d → Is named n → CallOf k (n ∷ u) → BasicOf (e.SafeCall k t.start) (t ∷ d ∷ n ∷ u)
    -- "(" expr ")". Content of parentheses that is a query is read as a query.
    basic_group : {o c : Token} {a : Expr} {v : Tokens} → Is (sign s.OpenRound) o → ExprOf a v → is_subquery a ≡ false → Is (sign s.CloseRound) c → BasicOf a (o ∷ (v ++ (c ∷ [])))
    -- "(" query ")"
    basic_query : {o c : Token} {q : Query} {v : Tokens} → Is (sign s.OpenRound) o → QueryOf q v → Is (sign s.CloseRound) c → BasicOf (e.Scalar q o.start) (o ∷ (v ++ (c ∷ [])))
    -- "(" expr "," expr {"," expr} ")"
    basic_tuple : {o c : Token} {a b : Expr} {bs : List Expr} {v : Tokens} → Is (sign s.OpenRound) o → ListOf (a ∷ b ∷ bs) v → Is (sign s.CloseRound) c
        → BasicOf (e.Tuple (a ∷ b ∷ bs) o.start) (o ∷ (v ++ (c ∷ [])))
    -- CASE [expr] WHEN expr THEN expr {WHEN expr THEN expr} [ELSE expr] END
    basic_case : {t d : Token} {a o : Option Expr} {b : When Expr} {bs : List (When Expr)} {u v x y : Tokens} → Is (reserved r.Case) t → SubjectOf a u → WhenOf b v → WhensOf bs x → ElseOf o y
        → Is (reserved r.End) d → BasicOf (e.Case a (b ∷ bs) o t.start) (t ∷ (u ++ (v ++ (x ++ (y ++ (d ∷ []))))))
    -- (CAST | SAFE_CAST) "(" expr AS type ")"
    basic_cast : {t o x c : Token} {a : Expr} {y : TypeSpelling} {u v : Tokens} → Is (reserved r.Cast) t → Is (sign s.OpenRound) o → ExprOf a u → Is (reserved r.As) x → TypeOf type_levels y v
        → Is (sign s.CloseRound) c → BasicOf (e.Cast false a y t.start) (t ∷ o ∷ (u ++ (x ∷ (v ++ (c ∷ [])))))
    basic_safe_cast : {t o x c : Token} {a : Expr} {y : TypeSpelling} {u v : Tokens} → Is (word w.SafeCast) t → Is (sign s.OpenRound) o → ExprOf a u → Is (reserved r.As) x → TypeOf type_levels y v
        → Is (sign s.CloseRound) c → BasicOf (e.Cast true a y t.start) (t ∷ o ∷ (u ++ (x ∷ (v ++ (c ∷ [])))))
    -- EXTRACT "(" name FROM expr ")"
    basic_extract : {t o n x c : Token} {a : Expr} {u : Tokens} → Is (reserved r.Extract) t → Is (sign s.OpenRound) o → Is named n → Is (reserved r.From) x → ExprOf a u → Is (sign s.CloseRound) c
        → BasicOf (e.Extract (name_at n) a t.start) (t ∷ o ∷ n ∷ x ∷ (u ++ (c ∷ [])))
    -- GROUPING "(" expr ")"
    basic_grouping : {t o c : Token} {a : Expr} {u : Tokens} → Is (reserved r.Grouping) t → Is (sign s.OpenRound) o → ExprOf a u → Is (sign s.CloseRound) c
        → BasicOf (e.Grouping a t.start) (t ∷ o ∷ (u ++ (c ∷ [])))
    -- EXISTS "(" query ")"
    basic_exists : {t o c : Token} {q : Query} {u : Tokens} → Is (reserved r.Exists) t → Is (sign s.OpenRound) o → QueryOf q u → Is (sign s.CloseRound) c
        → BasicOf (e.Exists q t.start) (t ∷ o ∷ (u ++ (c ∷ [])))
    -- ARRAY "(" query ")"
    basic_array_query : {t o c : Token} {q : Query} {u : Tokens} → Is (reserved r.Array) t → Is (sign s.OpenRound) o → QueryOf q u → Is (sign s.CloseRound) c
        → BasicOf (e.ArrayQuery q o.start t.start) (t ∷ o ∷ (u ++ (c ∷ [])))
    -- [ARRAY ["<" type ">"]] "[" [expr {"," expr}] "]". ARRAY before the `[` of an untyped array leaves nothing in the tree.
    basic_array : {b : Token} {ms : List Expr} {u : Tokens} → ArrayItemsOf ms b u → BasicOf (e.Array None ms b.start b.start) u
    basic_array_word : {t b : Token} {ms : List Expr} {u : Tokens} → Is (reserved r.Array) t → ArrayItemsOf ms b u → BasicOf (e.Array None ms b.start t.start) (t ∷ u)
    basic_array_typed : {t o c b : Token} {y : TypeSpelling} {ms : List Expr} {u v : Tokens} → Is (reserved r.Array) t → Is (sign s.Less) o → TypeOf type_levels y v → Is (sign s.Greater) c → ArrayItemsOf ms b u
        → BasicOf (e.Array (Some y) ms b.start t.start) (t ∷ o ∷ (v ++ (c ∷ u)))
    -- STRUCT "(" expr [AS name] {"," expr [AS name]} ")"
    basic_struct : {t o c : Token} {a : Aliased Expr} {ms : List (Aliased Expr)} {u v : Tokens} → Is (reserved r.Struct) t → Is (sign s.OpenRound) o → MemberOf a u → MembersOf ms v → Is (sign s.CloseRound) c
        → BasicOf (e.Struct (a ∷ ms) t.start) (t ∷ o ∷ (u ++ (v ++ (c ∷ []))))
    -- STRUCT "<" fields ">" "(" expr {"," expr} ")"
    basic_typed_struct : {t l g o c : Token} {fs : List (TypeField TypeSpelling)} {ms : List Expr} {u v : Tokens} → Is (reserved r.Struct) t → Is (sign s.Less) l → FieldsOf type_levels fs u → Is (sign s.Greater) g
        → Is (sign s.OpenRound) o → ListOf ms v → Is (sign s.CloseRound) c → BasicOf (e.TypedStruct fs ms o.start t.start) (t ∷ l ∷ (u ++ (g ∷ o ∷ (v ++ (c ∷ [])))))
    -- WITH "(" name AS expr {"," name AS expr} "," expr ")"
    basic_with : {t o k c : Token} {b : Binding Expr} {bs : List (Binding Expr)} {a : Expr} {u v x : Tokens} → Is (reserved r.With) t → Is (sign s.OpenRound) o → BindingOf b u → BindingsOf bs v
        → Is (sign s.Comma) k → ExprOf a x → Is (sign s.CloseRound) c → BasicOf (e.With (b ∷ bs) a t.start) (t ∷ o ∷ (u ++ (v ++ (k ∷ (x ++ (c ∷ []))))))

  -- expr {"," expr}
  pub data ListOf : List Expr → Tokens → Type 0 where
    list_is : {a : Expr} {bs : List Expr} {u v : Tokens} → ExprOf a u → CommasOf bs v → ListOf (a ∷ bs) (u ++ v)

  pub data CommasOf : List Expr → Tokens → Type 0 where
    commas_none : CommasOf [] []
    commas_more : {t : Token} {a : Expr} {bs : List Expr} {u v : Tokens} → Is (sign s.Comma) t → ExprOf a u → CommasOf bs v → CommasOf (a ∷ bs) (t ∷ (u ++ v))

  -- "[" [expr {"," expr}] "]"
  pub data ArrayItemsOf : List Expr → Token → Tokens → Type 0 where
    array_empty : {b c : Token} → Is (sign s.OpenSquare) b → Is (sign s.CloseSquare) c → ArrayItemsOf [] b (b ∷ c ∷ [])
    array_items : {b c : Token} {ms : List Expr} {u : Tokens} → Is (sign s.OpenSquare) b → ListOf ms u → Is (sign s.CloseSquare) c → ArrayItemsOf ms b (b ∷ (u ++ (c ∷ [])))

  -- [expr] after CASE
  pub data SubjectOf : Option Expr → Tokens → Type 0 where
    subject_none : SubjectOf None []
    subject_is : {a : Expr} {u : Tokens} → ExprOf a u → SubjectOf (Some a) u

  -- WHEN expr THEN expr
  pub data WhenOf : When Expr → Tokens → Type 0 where
    when_is : {t x : Token} {a b : Expr} {u v : Tokens} → Is (reserved r.When) t → ExprOf a u → Is (reserved r.Then) x → ExprOf b v → WhenOf (record { test = a; result = b }) (t ∷ (u ++ (x ∷ v)))

  pub data WhensOf : List (When Expr) → Tokens → Type 0 where
    whens_none : WhensOf [] []
    whens_more : {b : When Expr} {bs : List (When Expr)} {u v : Tokens} → WhenOf b u → WhensOf bs v → WhensOf (b ∷ bs) (u ++ v)

  -- [ELSE expr]
  pub data ElseOf : Option Expr → Tokens → Type 0 where
    else_none : ElseOf None []
    else_is : {t : Token} {a : Expr} {u : Tokens} → Is (reserved r.Else) t → ExprOf a u → ElseOf (Some a) (t ∷ u)

  -- expr [AS name]
  pub data MemberOf : Aliased Expr → Tokens → Type 0 where
    member_plain : {a : Expr} {u : Tokens} → ExprOf a u → MemberOf (record { expr = a; alias = None }) u
    member_as : {a : Expr} {t n : Token} {u : Tokens} → ExprOf a u → Is (reserved r.As) t → Is named n → MemberOf (record { expr = a; alias = Some (name_at n) }) (u ++ (t ∷ n ∷ []))

  pub data MembersOf : List (Aliased Expr) → Tokens → Type 0 where
    members_none : MembersOf [] []
    members_more : {t : Token} {a : Aliased Expr} {ms : List (Aliased Expr)} {u v : Tokens} → Is (sign s.Comma) t → MemberOf a u → MembersOf ms v → MembersOf (a ∷ ms) (t ∷ (u ++ v))

  -- name AS expr
  pub data BindingOf : Binding Expr → Tokens → Type 0 where
    binding_is : {n t : Token} {a : Expr} {u : Tokens} → Is named n → Is (reserved r.As) t → ExprOf a u → BindingOf (record { name = name_at n; expr = a }) (n ∷ t ∷ u)

  pub data BindingsOf : List (Binding Expr) → Tokens → Type 0 where
    bindings_none : BindingsOf [] []
    bindings_more : {t : Token} {b : Binding Expr} {bs : List (Binding Expr)} {u v : Tokens} → Is (sign s.Comma) t → BindingOf b u → BindingsOf bs v → BindingsOf (b ∷ bs) (t ∷ (u ++ v))

  -- call = (name | IF) "(" [DISTINCT] ["*" | arg {"," arg}] [(IGNORE | RESPECT) NULLS] [ORDER BY sort {"," sort}] [LIMIT integer] ")"
  pub data CallOf : Call Expr → Tokens → Type 0 where
    call_is : {f : Function} {t o c : Token} {d star : Bool} {ms : List (Arg Expr)} {n : Option NullsPart} {ss : List (Sort Expr)} {k : Option ℕ} {u v x y z : Tokens} → Says function_of t f
        → Is (sign s.OpenRound) o → DistinctOf d u → ArgumentsOf star ms v → NullsPartOf n x → OrderOf ss y → CallLimitOf k z → Is (sign s.CloseRound) c
        → CallOf (record { function = f; distinct = d; star = star; arguments = ms; nulls = n; order = ss; limit = k; place = t.start }) (t ∷ o ∷ (u ++ (v ++ (x ++ (y ++ (z ++ (c ∷ [])))))))

  -- ["*" | arg {"," arg}]: whether `*` stands, and the arguments
  pub data ArgumentsOf : Bool → List (Arg Expr) → Tokens → Type 0 where
    arguments_none : ArgumentsOf false [] []
    arguments_star : {t : Token} → Is (sign s.Star) t → ArgumentsOf true [] (t ∷ [])
    arguments_are : {a : Arg Expr} {ms : List (Arg Expr)} {u v : Tokens} → ArgOf a u → ArgsOf ms v → ArgumentsOf false (a ∷ ms) (u ++ v)

  pub data ArgsOf : List (Arg Expr) → Tokens → Type 0 where
    args_none : ArgsOf [] []
    args_more : {t : Token} {a : Arg Expr} {ms : List (Arg Expr)} {u v : Tokens} → Is (sign s.Comma) t → ArgOf a u → ArgsOf ms v → ArgsOf (a ∷ ms) (t ∷ (u ++ v))

  -- arg = expr | name "->" expr | "(" name "," name ")" "->" expr | INTERVAL expr name
  pub data ArgOf : Arg Expr → Tokens → Type 0 where
    arg_expr : {a : Expr} {u : Tokens} → ExprOf a u → ArgOf (arg.Expr a) u
    arg_lambda : {n t : Token} {a : Expr} {u : Tokens} → Is named n → Is (sign s.Arrow) t → ExprOf a u → ArgOf (arg.Lambda (name_at n ∷ []) a n.start) (n ∷ t ∷ u)
    arg_lambda_two : {o n k m c t : Token} {a : Expr} {u : Tokens} → Is (sign s.OpenRound) o → Is named n → Is (sign s.Comma) k → Is named m → Is (sign s.CloseRound) c → Is (sign s.Arrow) t → ExprOf a u
        → ArgOf (arg.Lambda (name_at n ∷ name_at m ∷ []) a o.start) (o ∷ n ∷ k ∷ m ∷ c ∷ t ∷ u)
    arg_interval : {t n : Token} {a : Expr} {u : Tokens} → Is (reserved r.Interval) t → ExprOf a u → Is named n → ArgOf (arg.Interval a (name_at n) t.start) (t ∷ (u ++ (n ∷ [])))

  -- sort = expr [ASC | DESC] [NULLS (FIRST | LAST)]
  pub data SortOf : Sort Expr → Tokens → Type 0 where
    sort_is : {a : Expr} {d : Bool} {n : Option NullsPlace} {u v x : Tokens} → ExprOf a u → DirectionOf d v → NullsPlaceOf n x
        → SortOf (record { expr = a; descending = d; nulls = n; place = start_of u }) (u ++ (v ++ x))

  pub data SortsOf : List (Sort Expr) → Tokens → Type 0 where
    sorts_none : SortsOf [] []
    sorts_more : {t : Token} {a : Sort Expr} {ms : List (Sort Expr)} {u v : Tokens} → Is (sign s.Comma) t → SortOf a u → SortsOf ms v → SortsOf (a ∷ ms) (t ∷ (u ++ v))

  -- [ORDER BY sort {"," sort}]
  pub data OrderOf : List (Sort Expr) → Tokens → Type 0 where
    order_none : OrderOf [] []
    order_is : {t b : Token} {a : Sort Expr} {ms : List (Sort Expr)} {u v : Tokens} → Is (reserved r.Order) t → Is (reserved r.By) b → SortOf a u → SortsOf ms v → OrderOf (a ∷ ms) (t ∷ b ∷ (u ++ v))

  -- ---- queries

  -- query = [WITH cte {"," cte}] body [ORDER BY sort {"," sort}] [LIMIT count [OFFSET count]]
  pub data QueryOf : Query → Tokens → Type 0 where
    query_is : {cs : List (Cte Query)} {b : Body Term} {ss : List (Sort Expr)} {k : Option (LimitPart Expr)} {u v x y : Tokens} → CtesOf cs u → BodyOf b v → OrderOf ss x → LimitOf k y
        → QueryOf (roll-Query (record { ctes = cs; body = b; order = ss; limit = k; place = start_of (u ++ v) })) (u ++ (v ++ (x ++ y)))

  pub data CtesOf : List (Cte Query) → Tokens → Type 0 where
    ctes_none : CtesOf [] []
    ctes_are : {t : Token} {a : Cte Query} {ms : List (Cte Query)} {u v : Tokens} → Is (reserved r.With) t → CteOf a u → CteCommasOf ms v → CtesOf (a ∷ ms) (t ∷ (u ++ v))

  pub data CteCommasOf : List (Cte Query) → Tokens → Type 0 where
    cte_commas_none : CteCommasOf [] []
    cte_commas_more : {t : Token} {a : Cte Query} {ms : List (Cte Query)} {u v : Tokens} → Is (sign s.Comma) t → CteOf a u → CteCommasOf ms v → CteCommasOf (a ∷ ms) (t ∷ (u ++ v))

  -- cte = name AS "(" query ")"
  pub data CteOf : Cte Query → Tokens → Type 0 where
    cte_is : {n t o c : Token} {q : Query} {v : Tokens} → Is named n → Is (reserved r.As) t → Is (sign s.OpenRound) o → QueryOf q v → Is (sign s.CloseRound) c
        → CteOf (record { name = name_at n; query = q }) (n ∷ t ∷ o ∷ (v ++ (c ∷ [])))

  -- body = term {setop term}. All set operations of one body are equal.
  pub data BodyOf : Body Term → Tokens → Type 0 where
    body_is : {k : SetKind} {a : Term} {ms : List (SetTerm Term)} {u v : Tokens} → TermOf a u → SetTermsOf k ms v → BodyOf (record { first = a; rest = ms; place = start_of u }) (u ++ v)

  -- setop = (UNION | INTERSECT | EXCEPT) (ALL | DISTINCT)
  pub data SetTermsOf : SetKind → List (SetTerm Term) → Tokens → Type 0 where
    set_terms_none : {k : SetKind} → SetTermsOf k [] []
    set_terms_more : {k : SetKind} {t x : Token} {a : Term} {ms : List (SetTerm Term)} {u v : Tokens} → Is (reserved (set_word k)) t → Is (reserved (set_quantifier k)) x → TermOf a u → SetTermsOf k ms v
        → SetTermsOf k (record { kind = k; term = a; place = t.start } ∷ ms) (t ∷ x ∷ (u ++ v))

  -- term = select | "(" query ")"
  pub data TermOf : Term → Tokens → Type 0 where
    term_select : {a : Select} {u : Tokens} → SelectOf a u → TermOf (term.Select a) u
    term_query : {o c : Token} {q : Query} {v : Tokens} → Is (sign s.OpenRound) o → QueryOf q v → Is (sign s.CloseRound) c → TermOf (term.Query q o.start) (o ∷ (v ++ (c ∷ [])))

  -- select = SELECT [ALL | DISTINCT] [AS STRUCT] item {"," item} [","] [FROM from] [WHERE expr] [GROUP BY groups] [HAVING expr]
  pub data SelectOf : Select → Tokens → Type 0 where
    select_is : {t : Token} {d b : Bool} {i : Item Expr} {is : List (Item Expr)} {f : Option FromItem} {c : Option Expr} {g : Option (Groups Expr)} {h : Option (FilterPart Expr)} {u v x y z m k j : Tokens}
        → Is (reserved r.Select) t → SelectDistinctOf d u → AsStructOf b v → ItemOf i x → ItemsOf is y → FromPartOf f z → WhereOf c m → GroupByOf g k → HavingOf h j
        → SelectOf (roll-Select (record { distinct = d; as_struct = b; items = i ∷ is; from = f; filter = c; grouping = g; having = h; place = t.start }))
        (t ∷ (u ++ (v ++ (x ++ (y ++ (z ++ (m ++ (k ++ j))))))))

  -- {"," item} [","]
  pub data ItemsOf : List (Item Expr) → Tokens → Type 0 where
    items_none : ItemsOf [] []
    items_comma : {t : Token} → Is (sign s.Comma) t → ItemsOf [] (t ∷ [])
    items_more : {t : Token} {i : Item Expr} {is : List (Item Expr)} {u v : Tokens} → Is (sign s.Comma) t → ItemOf i u → ItemsOf is v → ItemsOf (i ∷ is) (t ∷ (u ++ v))

  -- item = "*" [edit] | postfix "." "*" [edit] | expr [alias]
  pub data ItemOf : Item Expr → Tokens → Type 0 where
    item_star : {t : Token} {d : Edit Expr} {u : Tokens} → Is (sign s.Star) t → EditOf d u → ItemOf (item.Star d t.start) (t ∷ u)
    item_qualified : {a : Expr} {t x : Token} {d : Edit Expr} {u v : Tokens} → PostfixOf a u → Is (sign s.Dot) t → Is (sign s.Star) x → EditOf d v
        → ItemOf (item.QualifiedStar a d (start_of u)) (u ++ (t ∷ x ∷ v))
    item_expr : {a : Expr} {n : Option Name} {u v : Tokens} → ExprOf a u → AliasOf n v → ItemOf (item.Expr a n (start_of u)) (u ++ v)

  -- edit = [EXCEPT "(" name {"," name} ")"] [REPLACE "(" expr AS name {"," expr AS name} ")"]
  pub data EditOf : Edit Expr → Tokens → Type 0 where
    edit_is : {ns : List Name} {rs : List (Replacement Expr)} {u v : Tokens} → ExceptOf ns u → ReplaceOf rs v → EditOf (record { except = ns; replace = rs }) (u ++ v)

  pub data ExceptOf : List Name → Tokens → Type 0 where
    except_none : ExceptOf [] []
    except_is : {t : Token} {ns : List Name} {u : Tokens} → Is (reserved r.Except) t → NamesOf ns u → ExceptOf ns (t ∷ u)

  pub data ReplaceOf : List (Replacement Expr) → Tokens → Type 0 where
    replace_none : ReplaceOf [] []
    replace_is : {t o c : Token} {a : Replacement Expr} {ms : List (Replacement Expr)} {u v : Tokens} → Is (word w.Replace) t → Is (sign s.OpenRound) o → ReplacementOf a u → ReplacementsOf ms v
        → Is (sign s.CloseRound) c → ReplaceOf (a ∷ ms) (t ∷ o ∷ (u ++ (v ++ (c ∷ []))))

  pub data ReplacementOf : Replacement Expr → Tokens → Type 0 where
    replacement_is : {a : Expr} {t n : Token} {u : Tokens} → ExprOf a u → Is (reserved r.As) t → Is named n → ReplacementOf (record { expr = a; name = name_at n }) (u ++ (t ∷ n ∷ []))

  pub data ReplacementsOf : List (Replacement Expr) → Tokens → Type 0 where
    replacements_none : ReplacementsOf [] []
    replacements_more : {t : Token} {a : Replacement Expr} {ms : List (Replacement Expr)} {u v : Tokens} → Is (sign s.Comma) t → ReplacementOf a u → ReplacementsOf ms v → ReplacementsOf (a ∷ ms) (t ∷ (u ++ v))

  -- [WHERE expr]
  pub data WhereOf : Option Expr → Tokens → Type 0 where
    where_none : WhereOf None []
    where_is : {t : Token} {a : Expr} {u : Tokens} → Is (reserved r.Where) t → ExprOf a u → WhereOf (Some a) (t ∷ u)

  -- [HAVING expr]
  pub data HavingOf : Option (FilterPart Expr) → Tokens → Type 0 where
    having_none : HavingOf None []
    having_is : {t : Token} {a : Expr} {u : Tokens} → Is (reserved r.Having) t → ExprOf a u → HavingOf (Some (record { test = a; place = t.start })) (t ∷ u)

  -- ---- FROM

  -- [FROM from]
  pub data FromPartOf : Option FromItem → Tokens → Type 0 where
    from_none : FromPartOf None []
    from_is : {t : Token} {f : FromItem} {u : Tokens} → Is (reserved r.From) t → FromOf f u → FromPartOf (Some f) (t ∷ u)

  -- from = primary {"," primary | join}
  pub data FromOf : FromItem → Tokens → Type 0 where
    from_are : {a : Primary} {ms : List Joined} {u v : Tokens} → PrimaryOf a u → JoinsOf false ms v → FromOf (roll-FromItem (record { first = a; rest = ms; place = start_of u })) (u ++ v)

  -- {"," primary | join}, behind a comma or none: no RIGHT or FULL after a ","
  pub data JoinsOf : Bool → List Joined → Tokens → Type 0 where
    joins_none : {b : Bool} → JoinsOf b [] []
    joins_comma : {b : Bool} {t : Token} {a : Primary} {ms : List Joined} {u v : Tokens} → Is (sign s.Comma) t → PrimaryOf a u → JoinsOf true ms v
        → JoinsOf b (roll-Joined (record { word = join.Comma; primary = a; on = None; place = t.start }) ∷ ms) (t ∷ (u ++ v))
    joins_join : {b : Bool} {a : Joined} {ms : List Joined} {u v : Tokens} → JoinOf b a u → JoinsOf b ms v → JoinsOf b (a ∷ ms) (u ++ v)

  -- join = CROSS JOIN primary | [INNER] JOIN primary [on] | LEFT [OUTER] JOIN primary [on] | (RIGHT | FULL) [OUTER] JOIN primary on
  pub data JoinOf : Bool → Joined → Tokens → Type 0 where
    join_cross : {b : Bool} {t j : Token} {a : Primary} {u : Tokens} → Is (reserved r.Cross) t → Is (reserved r.Join) j → PrimaryOf a u
        → JoinOf b (roll-Joined (record { word = join.Cross; primary = a; on = None; place = t.start })) (t ∷ j ∷ u)
    join_inner : {b : Bool} {t j : Token} {a : Primary} {o : Option (On Expr)} {u v : Tokens} → Is (reserved r.Inner) t → Is (reserved r.Join) j → PrimaryOf a u → OnPartOf a o v
        → JoinOf b (roll-Joined (record { word = join.Inner; primary = a; on = o; place = t.start })) (t ∷ j ∷ (u ++ v))
    join_plain : {b : Bool} {j : Token} {a : Primary} {o : Option (On Expr)} {u v : Tokens} → Is (reserved r.Join) j → PrimaryOf a u → OnPartOf a o v
        → JoinOf b (roll-Joined (record { word = join.Inner; primary = a; on = o; place = j.start })) (j ∷ (u ++ v))
    join_left : {b : Bool} {t j : Token} {a : Primary} {o : Option (On Expr)} {u v x : Tokens} → Is (reserved r.Left) t → OptionalOf r.Outer x → Is (reserved r.Join) j → PrimaryOf a u → OnPartOf a o v
        → JoinOf b (roll-Joined (record { word = join.Left; primary = a; on = o; place = t.start })) (t ∷ (x ++ (j ∷ (u ++ v))))
    join_right : {t j : Token} {a : Primary} {o : On Expr} {u v x : Tokens} → Is (reserved r.Right) t → OptionalOf r.Outer x → Is (reserved r.Join) j → PrimaryOf a u → OnOf o v
        → JoinOf false (roll-Joined (record { word = join.Right; primary = a; on = Some o; place = t.start })) (t ∷ (x ++ (j ∷ (u ++ v))))
    join_full : {t j : Token} {a : Primary} {o : On Expr} {u v x : Tokens} → Is (reserved r.Full) t → OptionalOf r.Outer x → Is (reserved r.Join) j → PrimaryOf a u → OnOf o v
        → JoinOf false (roll-Joined (record { word = join.Full; primary = a; on = Some o; place = t.start })) (t ∷ (x ++ (j ∷ (u ++ v))))

  -- [on], which may be missing only where the item joined is a path or UNNEST
  pub data OnPartOf : Primary → Option (On Expr) → Tokens → Type 0 where
    on_is : {a : Primary} {o : On Expr} {u : Tokens} → OnOf o u → OnPartOf a (Some o) u
    on_missing : {a : Primary} → joins_freely a ≡ true → OnPartOf a None []

  -- on = ON expr | USING "(" name {"," name} ")"
  pub data OnOf : On Expr → Tokens → Type 0 where
    on_expr : {t : Token} {a : Expr} {u : Tokens} → Is (reserved r.On) t → ExprOf a u → OnOf (on.On a t.start) (t ∷ u)
    on_using : {t : Token} {ns : List Name} {u : Tokens} → Is (reserved r.Using) t → NamesOf ns u → OnOf (on.Using ns t.start) (t ∷ u)

  -- primary = name [alias] [turn [alias]] | "(" query ")" [alias] [turn [alias]] | path [alias] [place] | UNNEST "(" expr ")" [alias] [place]
  pub data PrimaryOf : Primary → Tokens → Type 0 where
    primary_table : {n : Token} {a : Option Name} {x : Option (Turned Expr)} {u v : Tokens} → Is named n → FromAliasOf a u → TurnedOf x v → PrimaryOf (primary.Table (name_at n) a x n.start) (n ∷ (u ++ v))
    primary_query : {o c : Token} {q : Query} {a : Option Name} {x : Option (Turned Expr)} {u v y : Tokens} → Is (sign s.OpenRound) o → QueryOf q y → Is (sign s.CloseRound) c → FromAliasOf a u → TurnedOf x v
        → PrimaryOf (primary.Query q a x o.start) (o ∷ (y ++ (c ∷ (u ++ v))))
    -- path = name "." name {"." name}
    primary_path : {n t m : Token} {ns : List Name} {a : Option Name} {d : Option WithOffset} {u v y : Tokens} → Is named n → Is (sign s.Dot) t → Is named m → NameDotsOf ns y → FromAliasOf a u → PlaceOf d v
        → PrimaryOf (primary.Path (name_at n ∷ name_at m ∷ ns) a d n.start) (n ∷ t ∷ m ∷ (y ++ (u ++ v)))
    primary_unnest : {t o c : Token} {x : Expr} {a : Option Name} {d : Option WithOffset} {u v y : Tokens} → Is (reserved r.Unnest) t → Is (sign s.OpenRound) o → ExprOf x y → Is (sign s.CloseRound) c
        → FromAliasOf a u → PlaceOf d v → PrimaryOf (primary.Unnest x a d t.start) (t ∷ o ∷ (y ++ (c ∷ (u ++ v))))

  -- [turn [alias]]
  pub data TurnedOf : Option (Turned Expr) → Tokens → Type 0 where
    turned_none : TurnedOf None []
    turned_is : {x : Turn Expr} {a : Option Name} {u v : Tokens} → TurnOf x u → FromAliasOf a v → TurnedOf (Some (record { turn = x; alias = a })) (u ++ v)

  -- turn = PIVOT "(" call [alias] {"," call [alias]} FOR name {"." name} IN "(" expr [alias] {"," expr [alias]} ")" ")"
  --      | UNPIVOT [(INCLUDE | EXCLUDE) NULLS] "(" name FOR name IN "(" name [AS string] {"," name [AS string]} ")" ")"
  pub data TurnOf : Turn Expr → Tokens → Type 0 where
    turn_pivot : {t o f n i b c d : Token} {k : PivotCall Expr} {ks : List (PivotCall Expr)} {ns : List Name} {x : Aliased Expr} {xs : List (Aliased Expr)} {u v y z m : Tokens}
        → Is (word w.Pivot) t → Is (sign s.OpenRound) o → PivotCallOf k u → PivotCallsOf ks v → Is (reserved r.For) f → Is named n → NameDotsOf ns y → Is (reserved r.In) i → Is (sign s.OpenRound) b
        → PivotValueOf x z → PivotValuesOf xs m → Is (sign s.CloseRound) c → Is (sign s.CloseRound) d
        → TurnOf (turn.Pivot (k ∷ ks) (name_at n ∷ ns) (x ∷ xs) t.start) (t ∷ o ∷ (u ++ (v ++ (f ∷ n ∷ (y ++ (i ∷ b ∷ (z ++ (m ++ (c ∷ d ∷ [])))))))))
    turn_unpivot : {t o n f m i b c d : Token} {k : Bool} {x : UnpivotColumn} {xs : List UnpivotColumn} {u v y : Tokens}
        → Is (word w.Unpivot) t → IncludeOf k u → Is (sign s.OpenRound) o → Is named n → Is (reserved r.For) f → Is named m → Is (reserved r.In) i → Is (sign s.OpenRound) b
        → UnpivotColumnOf x v → UnpivotCommasOf xs y → Is (sign s.CloseRound) c → Is (sign s.CloseRound) d
        → TurnOf (turn.Unpivot k (name_at n) (name_at m) (x ∷ xs) t.start) (t ∷ (u ++ (o ∷ n ∷ f ∷ m ∷ i ∷ b ∷ (v ++ (y ++ (c ∷ d ∷ []))))))

  -- call [alias]
  pub data PivotCallOf : PivotCall Expr → Tokens → Type 0 where
    pivot_call : {k : Call Expr} {a : Option Name} {u v : Tokens} → CallOf k u → AliasOf a v → PivotCallOf (record { call = k; alias = a }) (u ++ v)

  pub data PivotCallsOf : List (PivotCall Expr) → Tokens → Type 0 where
    pivot_calls_none : PivotCallsOf [] []
    pivot_calls_more : {t : Token} {a : PivotCall Expr} {ms : List (PivotCall Expr)} {u v : Tokens} → Is (sign s.Comma) t → PivotCallOf a u → PivotCallsOf ms v → PivotCallsOf (a ∷ ms) (t ∷ (u ++ v))

  -- expr [alias]
  pub data PivotValueOf : Aliased Expr → Tokens → Type 0 where
    pivot_value : {x : Expr} {a : Option Name} {u v : Tokens} → ExprOf x u → AliasOf a v → PivotValueOf (record { expr = x; alias = a }) (u ++ v)

  pub data PivotValuesOf : List (Aliased Expr) → Tokens → Type 0 where
    pivot_values_none : PivotValuesOf [] []
    pivot_values_more : {t : Token} {a : Aliased Expr} {ms : List (Aliased Expr)} {u v : Tokens} → Is (sign s.Comma) t → PivotValueOf a u → PivotValuesOf ms v → PivotValuesOf (a ∷ ms) (t ∷ (u ++ v))

  -- ---- GROUP BY

  -- [GROUP BY groups]
  pub data GroupByOf : Option (Groups Expr) → Tokens → Type 0 where
    group_none : GroupByOf None []
    group_is : {t b : Token} {g : Groups Expr} {u : Tokens} → Is (reserved r.Group) t → Is (reserved r.By) b → GroupsOf g u → GroupByOf (Some g) (t ∷ b ∷ u)

  -- groups = expr {"," expr} | "(" ")" | GROUPING SETS "(" gset {"," gset} ")" | cube
  pub data GroupsOf : Groups Expr → Tokens → Type 0 where
    groups_keys : {ms : List Expr} {u : Tokens} → ListOf ms u → GroupsOf (groups.Keys ms (start_of u)) u
    groups_empty : {o c : Token} → Is (sign s.OpenRound) o → Is (sign s.CloseRound) c → GroupsOf (groups.Empty o.start) (o ∷ c ∷ [])
    groups_sets : {t x o c : Token} {a : GroupSet Expr} {ms : List (GroupSet Expr)} {u v : Tokens} → Is (reserved r.Grouping) t → Is (word w.Sets) x → Is (sign s.OpenRound) o
        → GroupSetOf a u → GroupSetsOf ms v → Is (sign s.CloseRound) c → GroupsOf (groups.Sets (a ∷ ms) t.start) (t ∷ x ∷ o ∷ (u ++ (v ++ (c ∷ []))))
    groups_cube : {t : Token} {a : Cube Expr} {u : Tokens} → CubeOf a (t ∷ u) → GroupsOf (groups.Cube a t.start) (t ∷ u)

  -- gset = gitem | cube
  pub data GroupSetOf : GroupSet Expr → Tokens → Type 0 where
    set_item : {a : GroupItem Expr} {u : Tokens} → GroupItemOf a u → GroupSetOf (group_set.Item a) u
    set_cube : {a : Cube Expr} {u : Tokens} → CubeOf a u → GroupSetOf (group_set.Cube a) u

  pub data GroupSetsOf : List (GroupSet Expr) → Tokens → Type 0 where
    sets_none : GroupSetsOf [] []
    sets_more : {t : Token} {a : GroupSet Expr} {ms : List (GroupSet Expr)} {u v : Tokens} → Is (sign s.Comma) t → GroupSetOf a u → GroupSetsOf ms v → GroupSetsOf (a ∷ ms) (t ∷ (u ++ v))

  -- cube = (ROLLUP | CUBE) "(" gitem {"," gitem} ")"
  pub data CubeOf : Cube Expr → Tokens → Type 0 where
    cube_is : {t o c : Token} {k : CubeKind} {a : GroupItem Expr} {ms : List (GroupItem Expr)} {u v : Tokens} → Says cube_of t k → Is (sign s.OpenRound) o → GroupItemOf a u → GroupItemsOf ms v
        → Is (sign s.CloseRound) c → CubeOf (record { kind = k; items = a ∷ ms; place = t.start }) (t ∷ o ∷ (u ++ (v ++ (c ∷ []))))

  pub data GroupItemsOf : List (GroupItem Expr) → Tokens → Type 0 where
    gitems_none : GroupItemsOf [] []
    gitems_more : {t : Token} {a : GroupItem Expr} {ms : List (GroupItem Expr)} {u v : Tokens} → Is (sign s.Comma) t → GroupItemOf a u → GroupItemsOf ms v → GroupItemsOf (a ∷ ms) (t ∷ (u ++ v))

  -- gitem = expr | "(" [expr {"," expr}] ")". A gitem that begins with `(` is the list where its closing bracket ends the
  -- item. So an expression that begins with `(` is an item where it goes on behind that bracket, or where the brackets hold
  -- a query.
  pub data GroupItemOf : GroupItem Expr → Tokens → Type 0 where
    gitem_empty : {o c : Token} → Is (sign s.OpenRound) o → Is (sign s.CloseRound) c → GroupItemOf (group_item.List [] o.start) (o ∷ c ∷ [])
    gitem_list : {o c : Token} {ms : List Expr} {v : Tokens} → Is (sign s.OpenRound) o → ListOf ms v → alone ms ≡ false → Is (sign s.CloseRound) c
        → GroupItemOf (group_item.List ms o.start) (o ∷ (v ++ (c ∷ [])))
    gitem_expr : {t : Token} {a : Expr} {u : Tokens} → IsNot (sign s.OpenRound) t → ExprOf a (t ∷ u) → GroupItemOf (group_item.Expr a) (t ∷ u)
    gitem_longer : {o c : Token} {a : Expr} {ms : List Expr} {v : Tokens} (t : Token) (x : Tokens) → Is (sign s.OpenRound) o → ListOf ms v → alone ms ≡ false → Is (sign s.CloseRound) c → ExprOf a (o ∷ (v ++ (c ∷ t ∷ x)))
        → GroupItemOf (group_item.Expr a) (o ∷ (v ++ (c ∷ t ∷ x)))
    gitem_query : {o c : Token} {a : Expr} {q : Query} {v : Tokens} (x : Tokens) → Is (sign s.OpenRound) o → QueryOf q v → Is (sign s.CloseRound) c → ExprOf a (o ∷ (v ++ (c ∷ x)))
        → GroupItemOf (group_item.Expr a) (o ∷ (v ++ (c ∷ x)))

-- text = query [";"]
pub data TextOf : Query → Tokens → Type 0 where
  text_is : {q : Query} {u : Tokens} → QueryOf q u → TextOf q u
  text_semicolon : {q : Query} {t : Token} {u : Tokens} → QueryOf q u → Is (sign s.Semicolon) t → TextOf q (u ++ (t ∷ []))
