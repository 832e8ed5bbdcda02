-- The columns of one name, found one after another.
use Rattle.std.proofs.Common.{◌≡◌, ℕ, suc, ◌+◌, ◌<◌, ◌≤◌, Bool, true, false, not, ◌&&◌, List, [], ◌∷◌, ◌++◌, length, take, drop, get_or, Option, Some, None, refl, sym, ap, ◌∙◌, arith}
use Rattle.std.specs.Prelude.{if◌then◌else◌}
use Rattle.std.specs.Option.{option_to_list, is_some}
use Rattle.std.proofs.lemmas.List.{append-nil, take_more, take_all, take-append-drop, length-take-le}
use Rattle.sql_types.specs.declared.sql_type.Named.{Named}
use Rattle.sql_types.specs.declared.sql_type.SqlType.{SqlType}
use Rattle.sql_rules.specs.declared.scope.Entry.{Entry}
use Rattle.sql_rules.specs.Scopes.{is_named, is_range, places_from, columns}
use Rattle.sql_rules.specs.Tables.{column_entries}
use Rattle.small_run.specs.Parts.{only}
use Rattle.small_run.proofs.Names.{places-append}

-- the places of the columns of a name, beside nothing else
abbrev pub named : List ℕ → List (Named SqlType) → List ℕ
named name cs = columns name (column_entries cs)

entries-append : (cs ds : List (Named SqlType)) → column_entries (cs ++ ds) ≡ column_entries cs ++ column_entries ds
entries-append [] ds = refl
entries-append (c ∷ cs) ds = ap (λ (es : List Entry). (let e : Entry = record { name = c.name; what = Rattle.sql_rules.specs.declared.scope.What.TheVariants.Column; ty = Some c.ty } in e) ∷ es) (entries-append cs ds)

length-entries : (cs : List (Named SqlType)) → length (column_entries cs) ≡ length cs
length-entries [] = refl
length-entries (c ∷ cs) = ap suc (length-entries cs)

named-append : (name : List ℕ) (cs ds : List (Named SqlType)) → named name (cs ++ ds) ≡ named name cs ++ places_from (length cs) (λ e. not (is_range e.what) && is_named e.name name) (column_entries ds)
named-append name cs ds =
    ap (columns name) (entries-append cs ds)
    ∙ places-append 0 (λ e. not (is_range e.what) && is_named e.name name) (column_entries cs) (column_entries ds)
    ∙ ap (λ (n : ℕ). named name cs ++ places_from n (λ e. not (is_range e.what) && is_named e.name name) (column_entries ds)) (let l : 0 + length (column_entries cs) ≡ length cs = omega (arith, length-entries cs) in l)

module _ (name : List ℕ) (cs : List (Named SqlType)) (i : ℕ) (c : Named SqlType) (within : i < length cs) (is : c ≡ get_or cs i c) where
  -- one column more
  named_more : named name (take (i + 1) cs) ≡ named name (take i cs) ++ (if is_named c.name name then i ∷ [] else [])
  named_more =
      ap (named name) (take_more cs i c within ∙ ap (λ (d : Named SqlType). take i cs ++ d ∷ []) (sym is))
      ∙ named-append name (take i cs) (c ∷ [])
      ∙ ap (λ (n : ℕ). named name (take i cs) ++ (if is_named c.name name then n ∷ [] else [])) (length-take-le i cs (omega arith))

  pub first_found : (found : Option ℕ) → is_named c.name name ≡ true → is_some found ≡ false → named name (take i cs) ≡ option_to_list found → named name (take (i + 1) cs) ≡ i ∷ []
  first_found None has lacks before = named_more ∙ ap (λ (b : Bool). named name (take i cs) ++ (if b then i ∷ [] else [])) has ∙ ap (λ (ps : List ℕ). ps ++ i ∷ []) before
  first_found (Some s) has lacks before = absurd cc

  pub passed_by : (found : Option ℕ) → is_named c.name name ≡ false → named name (take i cs) ≡ option_to_list found → named name (take (i + 1) cs) ≡ option_to_list found
  passed_by found lacks before = named_more ∙ ap (λ (b : Bool). named name (take i cs) ++ (if b then i ∷ [] else [])) lacks ∙ append-nil (named name (take i cs)) ∙ before

  pub second_found : (found : Option ℕ) → is_named c.name name ≡ true → is_some found ≡ true → named name (take i cs) ≡ option_to_list found → None ≡ only (named name cs)
  second_found None has some before = absurd cc
  second_found (Some s) has some before =
      sym
      (ap only
      (ap (named name) (sym (take-append-drop (i + 1) cs))
      ∙ named-append name (take (i + 1) cs) (drop (i + 1) cs)
      ∙ ap (λ (ps : List ℕ). ps ++ places_from (length (take (i + 1) cs)) (λ e. not (is_range e.what) && is_named e.name name) (column_entries (drop (i + 1) cs)))
      (named_more ∙ ap (λ (b : Bool). named name (take i cs) ++ (if b then i ∷ [] else [])) has ∙ ap (λ (ps : List ℕ). ps ++ i ∷ []) before)))

only_found : (found : Option ℕ) → only (option_to_list found) ≡ found
only_found None = refl
only_found (Some place) = refl

pub all_found : (name : List ℕ) (cs : List (Named SqlType)) (i : ℕ) (found : Option ℕ) → length cs ≤ i → named name (take i cs) ≡ option_to_list found → found ≡ only (named name cs)
all_found name cs i found past all = sym (ap (λ (ds : List (Named SqlType)). only (named name ds)) (sym (take_all i cs past)) ∙ ap only all ∙ only_found found)
