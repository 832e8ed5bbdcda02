-- The text of a part, before what stands behind it, is that of this part alone.
use Rattle.std.proofs.Common.{◌≡◌, ℕ, ◌==◌, List, [], ◌∷◌, ◌++◌, map, codes, refl, ap, sym, subst, ◌∙◌, append_assoc}
use Rattle.std.proofs.lemmas.Bool.{false≢true}
use Rattle.std.proofs.lemmas.List.{append_cancel_left}
use Rattle.sql_names.specs.Spelling.{is_inner}
use Rattle.sql_texts.proofs.Numbers.{first_of}
use Rattle.resolved_ast.specs.declared.scan.Tree.{Tree}
use Rattle.resolved_ast.specs.Flaws.{Valid}
use Rattle.resolved_ast.specs.TreeText.{Shown, spaced, in_turn, node, TreeText}
use Rattle.tree_texts.specs.Numbered.{Numbered}
use Rattle.tree_texts.proofs.Counts.{Counted, counted_below, counted_right}
use Rattle.tree_texts.proofs.Fields.{field_text, fields_once, rest_breaks, breaks_inner}
use Rattle.tree_texts.proofs.Induction.{each_tree}
use Rattle.tree_texts.proofs.Joins.{Each}
use Rattle.tree_texts.proofs.NodeWords.{word_of, sorts_of, word_tells, word_run, word_first}
use Rattle.tree_texts.proofs.Rebuilt.{rebuilt}
use Rattle.tree_texts.proofs.Runs.{run_once}
use Rattle.tree_texts.proofs.ShapeTexts.{text, texts}
use Rattle.tree_texts.proofs.Shapes.{Part, of_rex, of_scan, of_compute, of_cte, of_tree, kind, fields, below}
use Rattle.tree_texts.proofs.Walks.{Seen, seen_below, seen_right, valid_seen}
use Rattle.tree_texts.proofs.Wholes.{Right, whole, fine, sorted}

-- ---- margins

-- the next line doesn't stand behind a margin
abbrev Outside : List ℕ → List ℕ → Type 0
Outside margin r = (z : List ℕ) → r ≡ margin ++ z → ⊥

-- two spaces further in
abbrev deeper : List ℕ → List ℕ
deeper margin = margin ++ codes "  "

further : (margin r : List ℕ) → Outside margin r → Outside (deeper margin) r
further margin r outside z e = outside (codes "  " ++ z) (e ∙ append_assoc margin (codes "  ") z)

-- ---- a part is its margin, its word, its fields and the parts below it

-- what stands behind the fields
abbrev tail : Part → List ℕ → List ℕ → List ℕ
tail p margin r = in_turn (map text (below p)) (deeper margin) ++ r

abbrev behind_word : Part → List ℕ → List ℕ → List ℕ
behind_word p margin r = spaced (map field_text (fields p)) ++ (10 ∷ tail p margin r)

node_split : (word : List ℕ) (fs : List (List ℕ)) (ps : List Shown) (margin r : List ℕ) → node word fs ps margin ++ r ≡ margin ++ (word ++ (spaced fs ++ (10 ∷ (in_turn ps (deeper margin) ++ r))))
node_split word fs ps margin r =
    let rest = in_turn ps (deeper margin) in
    append_assoc (((margin ++ word) ++ spaced fs) ++ codes "\n") rest r
    ∙ append_assoc ((margin ++ word) ++ spaced fs) (codes "\n") (rest ++ r)
    ∙ append_assoc (margin ++ word) (spaced fs) (10 ∷ (rest ++ r))
    ∙ append_assoc margin word (spaced fs ++ (10 ∷ (rest ++ r)))

text_split : (p : Part) (margin r : List ℕ) → text p margin ++ r ≡ margin ++ (word_of (kind p) ++ behind_word p margin r)
text_split p margin r = ap (λ (s : Shown). s margin ++ r) (texts p) ∙ node_split (word_of (kind p)) (map field_text (fields p)) (map text (below p)) margin r

-- a part stands just behind its margin
not_deeper : (p : Part) (margin r : List ℕ) → Outside (deeper margin) (text p margin ++ r)
not_deeper p margin r z e =
    let inner : word_of (kind p) ++ behind_word p margin r ≡ codes "  " ++ z = append_cancel_left margin _ _ (sym (text_split p margin r) ∙ e ∙ append_assoc margin (codes "  ") z) in
    absurd (false≢true (sym (word_first (kind p) (behind_word p margin r)) ∙ ap (λ l. first_of l == 32) inner))

rest_outside : (ps : List Part) (margin r : List ℕ) → Outside margin r → Outside (deeper margin) (in_turn (map text ps) margin ++ r)
rest_outside [] margin r outside = further margin r outside
rest_outside (p ∷ ps) margin r outside =
    subst (Outside (deeper margin)) (sym (append_assoc (text p margin) (in_turn (map text ps) margin) r)) (not_deeper p margin (in_turn (map text ps) margin ++ r))

module _ (numbers : List ℕ → ℕ) where
  -- a part of a valid tree whose tables are numbered
  abbrev Good : Part → Type 0
  Good p = Seen p × Counted numbers p

  right : (p : Part) → Good p → Right numbers p
  right (of_rex x) good = seen_right x good.0
  right (of_scan x) good = counted_right numbers x good.1
  right (of_compute c) good = tt
  right (of_cte c) good = tt
  right (of_tree tree) good = tt

  both : (ps : List Part) → Each Seen ps → Each (Counted numbers) ps → Each Good ps
  both [] seen counted = tt
  both (p ∷ ps) seen counted = ((seen.0, counted.0), both ps seen.1 counted.1)

  good_below : (p : Part) → Good p → Each Good (below p)
  good_below p good = both (below p) (seen_below p good.0) (counted_below numbers p good.1)

  abbrev Told : Part → Type 0
  Told p = (q : Part) (margin r s : List ℕ) → Good p → Good q → Outside (deeper margin) r → Outside (deeper margin) s → text p margin ++ r ≡ text q margin ++ s → (p ≡ q) × (r ≡ s)

  begins : (p : Part) (ps : List Part) (margin r s : List ℕ) → Outside margin r → r ≡ in_turn (map text (p ∷ ps)) margin ++ s → ⊥
  begins p ps margin r s outside e =
      let rest = in_turn (map text ps) margin ++ s in
      outside (word_of (kind p) ++ behind_word p margin rest) (e ∙ append_assoc (text p margin) (in_turn (map text ps) margin) s ∙ text_split p margin rest)

  parts_once : (ps qs : List Part) (margin r s : List ℕ) → Each Told ps → Each Good ps → Each Good qs → Outside margin r → Outside margin s
      → in_turn (map text ps) margin ++ r ≡ in_turn (map text qs) margin ++ s → (ps ≡ qs) × (r ≡ s)
  parts_once [] [] margin r s told good good' outside outside' e = (refl, e)
  parts_once [] (q ∷ qs) margin r s told good good' outside outside' e = absurd (begins q qs margin r s outside e)
  parts_once (p ∷ ps) [] margin r s told good good' outside outside' e = absurd (begins p ps margin s r outside' (sym e))
  parts_once (p ∷ ps) (q ∷ qs) margin r s told good good' outside outside' e =
      let rest = in_turn (map text ps) margin ++ r in
      let rest' = in_turn (map text qs) margin ++ s in
      let first = told.0 q margin rest rest' good.0 good'.0 (rest_outside ps margin r outside) (rest_outside qs margin s outside')
      (sym (append_assoc (text p margin) (in_turn (map text ps) margin) r) ∙ e ∙ append_assoc (text q margin) (in_turn (map text qs) margin) s) in
      let others = parts_once ps qs margin r s told.1 good.1 good'.1 outside outside' first.1 in
      (λ i. first.0 i ∷ others.0 i, others.1)

  step : (p : Part) → Each Told (below p) → Told p
  step p told q margin r s good good' outside outside' e =
      let inner : word_of (kind p) ++ behind_word p margin r ≡ word_of (kind q) ++ behind_word q margin s =
      append_cancel_left margin _ _ (sym (text_split p margin r) ∙ e ∙ text_split q margin s) in
      let words = run_once is_inner (word_of (kind p)) (word_of (kind q)) (behind_word p margin r) (behind_word q margin s) (word_run (kind p)) (word_run (kind q))
      (breaks_inner (behind_word p margin r) (rest_breaks (fields p) (tail p margin r))) (breaks_inner (behind_word q margin s) (rest_breaks (fields q) (tail q margin s))) inner in
      let kinds = word_tells (kind p) (kind q) words.0 in
      let lines = fields_once (fields p) (fields q) (tail p margin r) (tail q margin s) (sorted p ∙ ap sorts_of kinds ∙ sym (sorted q))
      (fine numbers p (right p good)) (fine numbers q (right q good')) words.1 in
      let parts = parts_once (below p) (below q) (deeper margin) r s told (good_below p good) (good_below q good') outside outside' lines.1 in
      (sym (whole numbers p (right p good)) ∙ (λ i. rebuilt numbers (kinds i) (lines.0 i) (parts.0 i)) ∙ whole numbers q (right q good'), parts.1)

  abbrev tree_of : Part → Tree → Tree
  tree_of (of_tree tree) other = tree
  tree_of _ other = other

  -- no line is no line behind a margin
  nothing_behind : Outside (codes "  ") []
  nothing_behind z e = absurd cc

  -- the text of a tree tells the tree
  pub trees_once : (left right : Tree) → Valid left → Valid right → Numbered numbers left → Numbered numbers right → TreeText left ≡ TreeText right → left ≡ right
  trees_once left other valid valid' numbered numbered' e =
      let same = each_tree Told step left (of_tree other) [] [] [] (valid_seen left valid, numbered) (valid_seen other valid', numbered') nothing_behind nothing_behind (ap (λ l. l ++ []) e) in
      ap (λ p. tree_of p left) same.0
