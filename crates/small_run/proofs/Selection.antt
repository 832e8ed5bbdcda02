-- A select list, item by item.
use Rattle.std.proofs.Common.{◌≡◌, ℕ, ◌+◌, ◌<◌, true, List, [], ◌∷◌, ◌++◌, map, length, take, drop, get_or, Ok, Err, refl, sym, ap, ◌∙◌, subst}
use Rattle.std.specs.Prelude.{slice_index_or}
use Rattle.std.proofs.lemmas.List.{take_more, take-append-drop, drop_more}
use Rattle.sql_types.specs.declared.sql_type.Named.{Named}
use Rattle.sql_types.specs.declared.sql_type.SqlType.{SqlType}
use Rattle.sql_types.specs.declared.value.Value.{Value}
use Rattle.sql_types.specs.declared.value.Value.TheVariants.{Null}
use Rattle.sql_types.specs.Fits.{fits, fits_row}
use Rattle.sql_types.specs.Outcome.{EachGives, all_give}
use Rattle.sql_ast.specs.declared.clauses.Item.{Item}
use Rattle.sql_ast.specs.declared.expr.Expr.{Expr}
use Rattle.sql_catalog.specs.declared.entries.TableDef.{TableDef}
use Rattle.sql_rules.specs.Tables.{Tables}
use Rattle.sql_rules.specs.Typing.{Checked, ◌>>=◌, items_layer, item_layer, typed}
use Rattle.sql_rules.specs.Meaning.{item_means, meant}
use Rattle.small_run.specs.declared.parts.Picked.{Picked}
use Rattle.small_run.specs.declared.parts.Selected.{Selected}
use Rattle.small_run.specs.Plans.{one, picked}
use Rattle.small_run.specs.Parts.{Refused, sight_of, env_of, Picks, Selects}
use Rattle.small_run.proofs.Rows.{one_of_each}

-- each item picks the column and the place that stand where it stands
pub data EachPicks (t : TableDef) : List (Item Expr) → List (Named SqlType) → List ℕ → Type 0 where
  none_picks : EachPicks t [] [] []
  more_pick : {i : Item Expr} {c : Named SqlType} {s : ℕ} {is : List (Item Expr)} {cs : List (Named SqlType)} {ss : List ℕ} →
      Picks t i (record { column = c; slot = s }) → EachPicks t is cs ss → EachPicks t (i ∷ is) (c ∷ cs) (s ∷ ss)

-- one item more
pub picks_last : {t : TableDef} {is : List (Item Expr)} {cs : List (Named SqlType)} {ss : List ℕ} (i : Item Expr) (p : Picked) → EachPicks t is cs ss → Picks t i p → EachPicks t (is ++ i ∷ []) (cs ++ p.column ∷ []) (ss ++ p.slot ∷ [])
picks_last i p none_picks picks = more_pick picks none_picks
picks_last i p (more_pick first rest) picks = more_pick first (picks_last i p rest picks)

pub picks_more : (t : TableDef) (items : List (Item Expr)) (k : ℕ) (i : Item Expr) (p : Picked) (cs more_cs : List (Named SqlType)) (ss more_ss : List ℕ) → k < length items → i ≡ get_or items k i →
    more_cs ≡ cs ++ p.column ∷ [] → more_ss ≡ ss ++ p.slot ∷ [] → EachPicks t (take k items) cs ss → Picks t i p → EachPicks t (take (k + 1) items) more_cs more_ss
picks_more t items k i p cs more_cs ss more_ss within at e f each picks =
    subst (λ (is : List (Item Expr)). EachPicks t is more_cs more_ss) (sym (take_more items k i within ∙ ap (λ (j : Item Expr). take k items ++ j ∷ []) (sym at)))
    (subst (λ (cs : List (Named SqlType)). EachPicks t (take k items ++ i ∷ []) cs more_ss) (sym e)
    (subst (λ (ss : List ℕ). EachPicks t (take k items ++ i ∷ []) (cs ++ p.column ∷ []) ss) (sym f) (picks_last i p each picks)))

-- ---- all items

each_checked : {t : TableDef} {is : List (Item Expr)} {cs : List (Named SqlType)} {ss : List ℕ} → EachPicks t is cs ss → items_layer (one t) (typed (one t)) is (sight_of t) ≡ Ok cs
each_checked none_picks = refl
each_checked {t} {cs = c ∷ cs} (more_pick {is = is} first rest) =
    ap (λ (r : Checked (Named SqlType)). r >>= (λ c. items_layer (one t) (typed (one t)) is (sight_of t) >>= (λ cs. Ok (c ∷ cs)))) first.checked
    ∙ ap (λ (r : Checked (List (Named SqlType))). r >>= (λ cs. Ok (c ∷ cs))) (each_checked rest)

each_means : {t : TableDef} {is : List (Item Expr)} {cs : List (Named SqlType)} {ss : List ℕ} (tables : Tables) (row : List Value) → fits_row t.columns row ≡ true → EachPicks t is cs ss →
    EachGives (map (λ i. item_means (one t) tables (meant (one t) tables) i (env_of t row)) is) (picked ss row)
each_means tables row fit none_picks = tt
each_means tables row fit (more_pick first rest) = (first.means tables row fit, each_means tables row fit rest)

each_fits : {t : TableDef} {is : List (Item Expr)} {cs : List (Named SqlType)} {ss : List ℕ} (row : List Value) → fits_row t.columns row ≡ true → EachPicks t is cs ss → fits_row cs (picked ss row) ≡ true
each_fits row fit none_picks = refl
each_fits {cs = c ∷ cs} {ss = s ∷ ss} row fit (more_pick first rest) = one_of_each (fits c.ty (slice_index_or row s Null)) (fits_row cs (picked ss row)) (first.fits row fit) (each_fits row fit rest)

pub selects : (t : TableDef) (items : List (Item Expr)) (k : ℕ) (s : Selected) → EachPicks t (take k items) s.columns s.slots → take k items ≡ items → Selects t items s
selects t items k s each all =
    let whole = subst (λ (is : List (Item Expr)). EachPicks t is s.columns s.slots) all each in
    record { checked = each_checked whole; means = λ tables row fit. all_give (each_means tables row fit whole); fits = λ row fit. each_fits row fit whole }

-- ---- an item that is refused

next_refused : (t : TableDef) (i : Item Expr) (r : Checked (Named SqlType)) (is : List (Item Expr)) → Refused (items_layer (one t) (typed (one t)) is (sight_of t)) →
    Refused (r >>= (λ c. items_layer (one t) (typed (one t)) is (sight_of t) >>= (λ cs. Ok (c ∷ cs))))
next_refused t i (Ok c) is b = (b.0, ap (λ (r : Checked (List (Named SqlType))). r >>= (λ cs. Ok (c ∷ cs))) b.1)
next_refused t i (Err e) is b = (e, refl)

one_refused : (t : TableDef) (before : List (Item Expr)) (i : Item Expr) (after : List (Item Expr)) → Refused (item_layer (one t) (typed (one t)) i (sight_of t)) → Refused (items_layer (one t) (typed (one t)) (before ++ i ∷ after) (sight_of t))
one_refused t [] i after b = (b.0, ap (λ (r : Checked (Named SqlType)). r >>= (λ c. items_layer (one t) (typed (one t)) after (sight_of t) >>= (λ cs. Ok (c ∷ cs)))) b.1)
one_refused t (j ∷ before) i after b = next_refused t j (item_layer (one t) (typed (one t)) j (sight_of t)) (before ++ i ∷ after) (one_refused t before i after b)

pub item_refused : (t : TableDef) (items : List (Item Expr)) (k : ℕ) (i : Item Expr) → k < length items → i ≡ get_or items k i → Refused (item_layer (one t) (typed (one t)) i (sight_of t)) → Refused (items_layer (one t) (typed (one t)) items (sight_of t))
item_refused t items k i within at b =
    subst (λ (is : List (Item Expr)). Refused (items_layer (one t) (typed (one t)) is (sight_of t)))
    (ap (λ (rest : List (Item Expr)). take k items ++ rest) (ap (λ (j : Item Expr). j ∷ drop (k + 1) items) at ∙ sym (drop_more items k i within)) ∙ take-append-drop k items)
    (one_refused t (take k items) i (drop (k + 1) items) b)
