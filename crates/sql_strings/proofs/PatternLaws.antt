-- Patterns: the test is the relation, and what a walk along a pattern may rest on.
use Rattle.std.proofs.Common.{◌≡◌, ℕ, ◌≤◌, Bool, true, false, ◌||◌, ◌&&◌, List, [], ◌∷◌, ◌++◌, length, Option, Some, None, Ok, if◌then◌else◌, refl, ap, sym, ◌∙◌, subst, arith, eqb, not, ◌⊎◌, inl, inr}
use Rattle.std.specs.Prelude.{is_some, ◌↔◌}
use Rattle.std.proofs.lemmas.Grind.{common_steps}
use Rattle.sql_strings.specs.declared.pattern.PatternPart.{PatternPart}
use Rattle.sql_strings.specs.declared.pattern.PatternPart.TheVariants as code
use Rattle.sql_strings.specs.Patterns.{Part, any_text, any_symbol, this, said, with_part, part_of, parts, parts_behind, Matches, match_end, match_text, match_symbol, match_this, some_rest, takes, matches, passes, like, like_by}
use Rattle.sql_strings.proofs.SearchLaws.{same-test}

-- ---- the test and the relation

or-left : (a b : Bool) → a ≡ true → (a || b) ≡ true
or-left a b h = rw h refl

or-right : (a b : Bool) → b ≡ true → (a || b) ≡ true
or-right true b h = refl
or-right false b h = h

or-either : (a b : Bool) → (a || b) ≡ true → (a ≡ true) ⊎ (b ≡ true)
or-either true b h = inl refl
or-either false b h = inr h

-- a text is one of its own rests
pub rest-here : (f : List ℕ → Bool) (xs : List ℕ) → f xs ≡ true → some_rest f xs ≡ true
rest-here f [] h = h
rest-here f (x ∷ xs) h = or-left (f (x ∷ xs)) (some_rest f xs) h

rest-behind : (f : List ℕ → Bool) (u v : List ℕ) → f v ≡ true → some_rest f (u ++ v) ≡ true
rest-behind f [] v h = rest-here f v h
rest-behind f (x ∷ u) v h = or-right (f (x ∷ (u ++ v))) (some_rest f (u ++ v)) (rest-behind f u v h)

abbrev RestFor : (List ℕ → Bool) → List ℕ → Type 0
RestFor f xs = (u : List ℕ) × (v : List ℕ) × (xs ≡ u ++ v) × (f v ≡ true)

rest-for : (f : List ℕ → Bool) (xs : List ℕ) → some_rest f xs ≡ true → RestFor f xs
rest-for f [] h = ([], [], refl, h)
rest-for f (x ∷ xs) h = by (or-either (f (x ∷ xs)) (some_rest f xs) h) (rest-for f xs)
  where
    by : (f (x ∷ xs) ≡ true) ⊎ (some_rest f xs ≡ true) → (some_rest f xs ≡ true → RestFor f xs) → RestFor f (x ∷ xs)
    by (inl here) more = ([], x ∷ xs, refl, here)
    by (inr later) more = let r = more later in (x ∷ r.0, r.1, ap (λ t. x ∷ t) r.2, r.3)

eqb-is : (n m : ℕ) → eqb n m ≡ true → n ≡ m
eqb-is n m h = grind (arith, common_steps)

eqb-same : (n : ℕ) → eqb n n ≡ true
eqb-same n = grind (arith, common_steps)

pub matches-sound : (ps : List Part) (xs : List ℕ) → matches ps xs ≡ true → Matches ps xs
matches-sound [] [] h = match_end
matches-sound [] (x ∷ xs) h = cc
matches-sound (any_text ∷ ps) xs h =
    let r = rest-for (matches ps) xs h in
    subst (Matches (any_text ∷ ps)) (sym r.2) (match_text r.0 (matches-sound ps r.1 r.3))
matches-sound (any_symbol ∷ ps) [] h = cc
matches-sound (any_symbol ∷ ps) (x ∷ xs) h = match_symbol (matches-sound ps xs h)
matches-sound (this c ∷ ps) [] h = cc
matches-sound (this c ∷ ps) (x ∷ xs) h = by (eqb x c) refl h (matches-sound ps xs)
  where
    by : (b : Bool) → eqb x c ≡ b → (if b then matches ps xs else false) ≡ true → (matches ps xs ≡ true → Matches ps xs) → Matches (this c ∷ ps) (x ∷ xs)
    by true is rest more = subst (λ y. Matches (this c ∷ ps) (y ∷ xs)) (sym (eqb-is x c is)) (match_this (more rest))
    by false is rest more = cc

pub matches-complete : (ps : List Part) (xs : List ℕ) → Matches ps xs → matches ps xs ≡ true
matches-complete [] [] match_end = refl
matches-complete [] (x ∷ xs) h = elim h [ ]
matches-complete (any_symbol ∷ ps) [] h = elim h [ ]
matches-complete (this c ∷ ps) [] h = elim h [ ]
matches-complete (any_text ∷ ps) xs (match_text {v = v} u rest) = rest-behind (matches ps) u v (matches-complete ps v rest)
matches-complete (any_symbol ∷ ps) (x ∷ xs) (match_symbol rest) = matches-complete ps xs rest
matches-complete (this c ∷ ps) (x ∷ xs) (match_this rest) = rw (eqb-same c) (matches-complete ps xs rest)

-- the test holds just where the relation does
pub matches-law : (ps : List Part) (xs : List ℕ) → (matches ps xs ≡ true) ↔ Matches ps xs
matches-law ps xs = (matches-sound ps xs, matches-complete ps xs)

-- ---- a walk along a pattern

-- a part in front of a pattern
pub some-with : (p : Part) (o : Option (List Part)) → is_some (with_part p o) ≡ is_some o
some-with p None = refl
some-with p (Some ps) = refl

-- a symbol more of a pattern: whether a backslash stands before the next
pub pattern-more : (escaped : Bool) (c : ℕ) (cs : List ℕ) → is_some (parts_behind (not escaped && eqb c 92) cs) ≡ is_some (parts_behind escaped (c ∷ cs))
pattern-more true c cs = sym (some-with (this c) (parts_behind false cs))
pattern-more false c cs = by (eqb c 92)
  where
    by : (b : Bool) → is_some (parts_behind b cs) ≡ is_some (if b then parts_behind true cs else with_part (part_of c) (parts_behind false cs))
    by true = refl
    by false = sym (some-with (part_of c) (parts_behind false cs))

pub pattern-end : (escaped : Bool) → not escaped ≡ is_some (parts_behind escaped [])
pattern-end true = refl
pattern-end false = refl

no-rest : (xs : List ℕ) → some_rest (λ t. false) xs ≡ false
no-rest [] = refl
no-rest (x ∷ xs) = no-rest xs

-- where a part is a `%`, the rest of the pattern matches behind some front
pub passes-text : (o : Option (List Part)) (xs : List ℕ) → passes (with_part any_text o) xs ≡ some_rest (passes o) xs
passes-text None xs = sym (no-rest xs)
passes-text (Some ps) xs = refl

-- where it is another, the first symbol passes
pub passes-symbol : (p : PatternPart) (o : Option (List Part)) (x : ℕ) (xs : List ℕ) → (p ≡ code.AnyText → ⊥) → takes (said p) x ≡ true → passes (with_part (said p) o) (x ∷ xs) ≡ passes o xs
passes-symbol code.AnyText o x xs other takes = absurd (other refl)
passes-symbol code.AnySymbol None x xs other takes = refl
passes-symbol code.AnySymbol (Some ps) x xs other takes = refl
passes-symbol (code.This c) None x xs other takes = refl
passes-symbol (code.This c) (Some ps) x xs other takes = rw takes refl

pub passes-not : (p : PatternPart) (o : Option (List Part)) (x : ℕ) (xs : List ℕ) → (p ≡ code.AnyText → ⊥) → takes (said p) x ≡ false → passes (with_part (said p) o) (x ∷ xs) ≡ false
passes-not code.AnyText o x xs other takes = absurd (other refl)
passes-not code.AnySymbol o x xs other takes = cc
passes-not (code.This c) None x xs other takes = refl
passes-not (code.This c) (Some ps) x xs other takes = rw takes refl

pub passes-nothing : (p : PatternPart) (o : Option (List Part)) → (p ≡ code.AnyText → ⊥) → passes (with_part (said p) o) [] ≡ false
passes-nothing code.AnyText o other = absurd (other refl)
passes-nothing code.AnySymbol None other = refl
passes-nothing code.AnySymbol (Some ps) other = refl
passes-nothing (code.This c) None other = refl
passes-nothing (code.This c) (Some ps) other = refl

passes-first : (p : PatternPart) (o : Option (List Part)) (x : ℕ) (xs : List ℕ) → (p ≡ code.AnyText → ⊥) → passes (with_part (said p) o) (x ∷ xs) ≡ true → passes o xs ≡ true
passes-first p o x xs other h = by (takes (said p) x) refl
  where
    by : (b : Bool) → takes (said p) x ≡ b → passes o xs ≡ true
    by true is = sym (passes-symbol p o x xs other is) ∙ h
    by false is = let no-match : passes (with_part (said p) o) (x ∷ xs) ≡ false = passes-not p o x xs other is in cc

-- where some rest begins with what a part takes, some rest of what is behind it passes
pub rest-past : (p : PatternPart) (o : Option (List Part)) (x : ℕ) (xs : List ℕ) → (p ≡ code.AnyText → ⊥)
    → some_rest (passes (with_part (said p) o)) (x ∷ xs) ≡ true → some_rest (passes o) xs ≡ true
rest-past p o x [] other h = by (or-either (passes (with_part (said p) o) (x ∷ [])) (passes (with_part (said p) o) []) h)
  where
    by : (passes (with_part (said p) o) (x ∷ []) ≡ true) ⊎ (passes (with_part (said p) o) [] ≡ true) → passes o [] ≡ true
    by (inl here) = passes-first p o x [] other here
    by (inr later) = let nothing : passes (with_part (said p) o) [] ≡ false = passes-nothing p o other in cc
rest-past p o x (y ∷ xs) other h = by (or-either (passes (with_part (said p) o) (x ∷ (y ∷ xs))) (some_rest (passes (with_part (said p) o)) (y ∷ xs)) h) (rest-past p o y xs other)
  where
    by : (passes (with_part (said p) o) (x ∷ (y ∷ xs)) ≡ true) ⊎ (some_rest (passes (with_part (said p) o)) (y ∷ xs) ≡ true)
        → (some_rest (passes (with_part (said p) o)) (y ∷ xs) ≡ true → some_rest (passes o) xs ≡ true) → some_rest (passes o) (y ∷ xs) ≡ true
    by (inl here) more = rest-here (passes o) (y ∷ xs) (passes-first p o x (y ∷ xs) other here)
    by (inr later) more = or-right (passes o (y ∷ xs)) (some_rest (passes o) xs) (more later)

-- a rest of a rest is a rest
pub rest-once : (f : List ℕ → Bool) (xs : List ℕ) → some_rest (some_rest f) xs ≡ true → some_rest f xs ≡ true
rest-once f [] h = h
rest-once f (x ∷ xs) h = by (or-either (some_rest f (x ∷ xs)) (some_rest (some_rest f) xs) h) (rest-once f xs)
  where
    by : (some_rest f (x ∷ xs) ≡ true) ⊎ (some_rest (some_rest f) xs ≡ true) → (some_rest (some_rest f) xs ≡ true → some_rest f xs ≡ true) → some_rest f (x ∷ xs) ≡ true
    by (inl here) more = here
    by (inr later) more = or-right (f (x ∷ xs)) (some_rest f xs) (more later)

-- a `%` that is met as early as it can be: `first` is the whole pattern, `o` what is behind the `%`
pub rest-at-text : (first o : Option (List Part)) (text xs : List ℕ) → passes first text ≡ some_rest (passes o) xs
    → (some_rest (passes first) text ≡ true → some_rest (passes (with_part any_text o)) xs ≡ true) → some_rest (passes first) text ≡ some_rest (passes o) xs
rest-at-text first o text xs anchored anywhere = same-test (some_rest (passes first) text) (some_rest (passes o) xs) to from
  where
    inner : (o : Option (List Part)) → some_rest (passes (with_part any_text o)) xs ≡ true → some_rest (passes o) xs ≡ true
    inner None h = let none = rest-for (passes (with_part any_text None)) xs h in cc
    inner (Some ps) h = rest-once (matches ps) xs h

    to : some_rest (passes first) text ≡ true → some_rest (passes o) xs ≡ true
    to h = inner o (anywhere h)

    from : some_rest (passes o) xs ≡ true → some_rest (passes first) text ≡ true
    from h = rest-here (passes first) text (anchored ∙ h)

-- ---- a step of the walk: `first` are the parts of the whole pattern, `now` those that are left, of which `p` is the first and
-- `o` are the others

pub walk-met : (first now o : Option (List Part)) (text xs : List ℕ) (p : PatternPart) → now ≡ with_part (said p) o → p ≡ code.AnyText
    → passes first text ≡ passes now xs → passes first text ≡ some_rest (passes o) xs
walk-met first now o text xs p is at anchored =
    anchored ∙ ap (λ q. passes q xs) (is ∙ ap (λ q. with_part (said q) o) at) ∙ passes-text o xs

pub walk-met-anywhere : (first now o : Option (List Part)) (text xs : List ℕ) (p : PatternPart) → now ≡ with_part (said p) o → p ≡ code.AnyText
    → passes first text ≡ passes now xs → (some_rest (passes first) text ≡ true → some_rest (passes now) xs ≡ true)
    → some_rest (passes first) text ≡ some_rest (passes o) xs
walk-met-anywhere first now o text xs p is at anchored anywhere =
    rest-at-text first o text xs (walk-met first now o text xs p is at anchored)
    (λ h. subst (λ q. some_rest (passes q) xs ≡ true) (is ∙ ap (λ q. with_part (said q) o) at) (anywhere h))

pub walk-not : (first now o : Option (List Part)) (text xs : List ℕ) (p : PatternPart) → now ≡ with_part (said p) o → (p ≡ code.AnyText → ⊥)
    → ((x : ℕ) (ys : List ℕ) → xs ≡ x ∷ ys → takes (said p) x ≡ false) → passes first text ≡ passes now xs → passes first text ≡ false
walk-not first now o text [] p is other isnt anchored = anchored ∙ ap (λ q. passes q []) is ∙ passes-nothing p o other
walk-not first now o text (x ∷ xs) p is other isnt anchored = anchored ∙ ap (λ q. passes q (x ∷ xs)) is ∙ passes-not p o x xs other (isnt x xs refl)

pub walk-on : (first now o : Option (List Part)) (text xs later : List ℕ) (p : PatternPart) → now ≡ with_part (said p) o → (p ≡ code.AnyText → ⊥)
    → ((x : ℕ) × (xs ≡ x ∷ later) × (takes (said p) x ≡ true)) → passes first text ≡ passes now xs → passes first text ≡ passes o later
walk-on first now o text xs later p is other (x, split, taken) anchored =
    anchored ∙ ap (λ q. passes q xs) is ∙ ap (passes (with_part (said p) o)) split ∙ passes-symbol p o x later other taken

pub walk-on-anywhere : (first now o : Option (List Part)) (text xs later : List ℕ) (p : PatternPart) → now ≡ with_part (said p) o → (p ≡ code.AnyText → ⊥)
    → ((x : ℕ) × (xs ≡ x ∷ later) × (takes (said p) x ≡ true)) → (some_rest (passes first) text ≡ true → some_rest (passes now) xs ≡ true)
    → some_rest (passes first) text ≡ true → some_rest (passes o) later ≡ true
walk-on-anywhere first now o text xs later p is other (x, split, taken) anywhere h =
    rest-past p o x later other (sym (ap (λ q. some_rest (passes q) xs) is ∙ ap (some_rest (passes (with_part (said p) o))) split) ∙ anywhere h)

pub walk-parts : (now o : Option (List Part)) (p : PatternPart) → now ≡ with_part (said p) o → is_some now ≡ true → is_some o ≡ true
walk-parts now o p is some = sym (some-with (said p) o) ∙ sym (ap is_some is) ∙ some

pub rest-true : (o : Option (List Part)) (xs : List ℕ) (b answer : Bool) → passes o xs ≡ answer → answer ≡ true → some_rest (passes o) xs ≡ b → true ≡ b
rest-true o xs b answer is met so_far = sym (rest-here (passes o) xs (is ∙ met)) ∙ so_far

pub walk-rest : (xs later : List ℕ) (n x : ℕ) → xs ≡ x ∷ later → length xs ≤ n → length later ≤ n
walk-rest xs later n x is within = omega (arith, ap length is, within)

-- a pattern with parts is no fault
pub like-parts : (pattern text : List ℕ) (b : Bool) → is_some (parts pattern) ≡ true → passes (parts pattern) text ≡ b → Ok b ≡ like text pattern
like-parts pattern text b some is = by (parts pattern) some is
  where
    by : (o : Option (List Part)) → is_some o ≡ true → passes o text ≡ b → Ok b ≡ like_by o text
    by None some is = cc
    by (Some ps) some is = ap Ok (sym is)
