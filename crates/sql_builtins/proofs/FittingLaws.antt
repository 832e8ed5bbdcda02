-- Values that fit a row are what its call asks for.
use Rattle.std.proofs.Common.{◌≡◌, ℕ, zero, suc, ◌-◌, ◌<◌, Bool, true, false, cond, eqb, List, [], ◌∷◌, ◌++◌, length, take, Some, None, refl, ap, sym, ◌∙◌, subst, arith}
use Rattle.std.specs.Prelude.{◌&&◌, replicate, nat_le, Contains, slice_index_or}
use Rattle.sql_types.specs.declared.sql_type.SqlType.{SqlType}
use Rattle.sql_types.specs.declared.sql_type.SqlType.TheVariants as ty
use Rattle.sql_types.specs.declared.value.Value.{Value}
use Rattle.sql_types.specs.Fits.{fits}
use Rattle.sql_types.specs.Takes.{fits_types, fits_types_or_less, all_fit, fits_repeated}
use Rattle.std.proofs.lemmas.Bool.Decides.{nat_tests}
use Rattle.sql_builtins.specs.declared.sig.SigId.{SigId}
use Rattle.sql_builtins.specs.declared.table.Slot.{Slot}
use Rattle.sql_builtins.specs.declared.table.Slot.TheVariants as slot
use Rattle.sql_builtins.specs.declared.table.Repeats.TheVariants as repeats
use Rattle.sql_builtins.specs.Table.{Signature, functions, aggregates, signatures}
use Rattle.sql_builtins.specs.Choices.{places, slot_type}
use Rattle.sql_builtins.specs.Fitting.{Fitting, place_types, first_own, other_owns}
use Rattle.sql_builtins.specs.Asks.{Asks}
use Rattle.sql_builtins.proofs.PlaceLaws.{some-same}

-- ---- what holds of each row

abbrev pub Each : (Signature → Type 0) → List Signature → Type 0
Each P [] = Unit {0}
Each P (row ∷ rows) = P row × Each P rows

each-at : (P : Signature → Type 0) (rows : List Signature) (k : ℕ) (row : Signature) → k < length rows → slice_index_or rows k row ≡ row → Each P rows → P row
each-at P [] k row within is each = absurd (omega arith)
each-at P (first ∷ rows) zero row within is each = subst P is each.0
each-at P (first ∷ rows) (suc k) row within is each = each-at P rows k row (omega arith) is each.1

pub each-both : (P : Signature → Type 0) (rows others : List Signature) → Each P rows → Each P others → Each P (rows ++ others)
each-both P [] others each more = more
each-both P (row ∷ rows) others each more = (each.0, each-both P rows others each.1 more)

pub each-listed : (P : Signature → Type 0) (rows : List Signature) (row : Signature) → Each P rows → Contains rows row → P row
each-listed P rows row each listed = each-at P rows listed.0 row listed.1 listed.2 each

abbrev AsksOf : Signature → Type 0
AsksOf row = (values : List Value) (common element : SqlType) (owns : List SqlType) (slots : List Slot) → places row.repeats row.takes (length values) ≡ Some slots → fits_types (place_types common element owns slots) values ≡ true → Asks row.sig values

-- ---- rows whose places are all there

exact-slots : (b : Bool) (takes slots : List Slot) → cond b (Some takes) None ≡ Some slots → slots ≡ takes
exact-slots true takes slots is = sym (some-same takes slots is)
exact-slots false takes slots is = cc

exact : (takes : List Slot) (values : List Value) (common element : SqlType) (owns : List SqlType) (slots : List Slot) → places repeats.Exactly takes (length values) ≡ Some slots → fits_types (place_types common element owns slots) values ≡ true → fits_types (place_types common element owns takes) values ≡ true
exact takes values common element owns slots placed fit =
    ap (λ s. fits_types (place_types common element owns s) values) (sym (exact-slots (eqb (length takes) (length values)) takes slots placed)) ∙ fit

-- ---- rows whose last place may be missing

and-step : (a b c : Bool) → (b ≡ true → c ≡ true) → (a && b) ≡ true → (a && c) ≡ true
and-step true b c f is = f is
and-step false b c f is = is

whole-or-less : (types : List SqlType) (last : SqlType) (values : List Value) → fits_types (types ++ last ∷ []) values ≡ true → fits_types_or_less types last values ≡ true
whole-or-less [] last [] fit = cc
whole-or-less [] last (x ∷ xs) fit = fit
whole-or-less (ty ∷ types) last [] fit = cc
whole-or-less (ty ∷ types) last (x ∷ xs) fit = and-step (fits ty x) (fits_types (types ++ last ∷ []) xs) (fits_types_or_less types last xs) (λ e. whole-or-less types last xs e) fit

front-or-less : (types : List SqlType) (last : SqlType) (values : List Value) → fits_types types values ≡ true → fits_types_or_less types last values ≡ true
front-or-less types last [] fit = fit
front-or-less [] last (x ∷ xs) fit = cc
front-or-less (ty ∷ types) last (x ∷ xs) fit = and-step (fits ty x) (fits_types types xs) (fits_types_or_less types last xs) (λ e. front-or-less types last xs e) fit

optional-fit : (b c : Bool) (takes slots : List Slot) (n : ℕ) (types : List SqlType) (last common element : SqlType) (owns : List SqlType) (values : List Value) → (c ≡ true → place_types common element owns (take n takes) ≡ types) → place_types common element owns takes ≡ types ++ last ∷ [] → cond b (Some takes) (cond c (Some (take n takes)) None) ≡ Some slots → fits_types (place_types common element owns slots) values ≡ true → fits_types_or_less types last values ≡ true
optional-fit true c takes slots n types last common element owns values front whole is fit =
    whole-or-less types last values (ap (λ l. fits_types l values) (sym whole) ∙ ap (λ s. fits_types (place_types common element owns s) values) (some-same takes slots is) ∙ fit)
optional-fit false true takes slots n types last common element owns values front whole is fit =
    front-or-less types last values (ap (λ l. fits_types l values) (sym (front refl)) ∙ ap (λ s. fits_types (place_types common element owns s) values) (some-same (take n takes) slots is) ∙ fit)
optional-fit false false takes slots n types last common element owns values front whole is fit = cc

eqb-is : (m n : ℕ) → eqb m n ≡ true → m ≡ n
eqb-is m n e = grind (arith, nat_tests, e)

-- of two places, and of three
optional-two : (a l : Slot) (values : List Value) (common element : SqlType) (owns : List SqlType) (slots : List Slot) → places repeats.LastOptional (a ∷ l ∷ []) (length values) ≡ Some slots → fits_types (place_types common element owns slots) values ≡ true → fits_types_or_less (slot_type common element (first_own owns) a ∷ []) (slot_type common element (first_own (other_owns owns)) l) values ≡ true
optional-two a l values common element owns slots placed fit =
    optional-fit (eqb 2 (length values)) (eqb 2 (suc (length values))) (a ∷ l ∷ []) slots (length values) (slot_type common element (first_own owns) a ∷ []) (slot_type common element (first_own (other_owns owns)) l) common element owns values
    (λ e. let k : 1 ≡ length values = omega (arith, eqb-is 2 (suc (length values)) e) in ap (λ n. place_types common element owns (take n (a ∷ l ∷ []))) (sym k))
    refl placed fit

optional-three : (a b l : Slot) (values : List Value) (common element : SqlType) (owns : List SqlType) (slots : List Slot) → places repeats.LastOptional (a ∷ b ∷ l ∷ []) (length values) ≡ Some slots → fits_types (place_types common element owns slots) values ≡ true → fits_types_or_less (slot_type common element (first_own owns) a ∷ slot_type common element (first_own (other_owns owns)) b ∷ []) (slot_type common element (first_own (other_owns (other_owns owns))) l) values ≡ true
optional-three a b l values common element owns slots placed fit =
    optional-fit (eqb 3 (length values)) (eqb 3 (suc (length values))) (a ∷ b ∷ l ∷ []) slots (length values) (slot_type common element (first_own owns) a ∷ slot_type common element (first_own (other_owns owns)) b ∷ []) (slot_type common element (first_own (other_owns (other_owns owns))) l) common element owns values
    (λ e. let k : 2 ≡ length values = omega (arith, eqb-is 3 (suc (length values)) e) in ap (λ n. place_types common element owns (take n (a ∷ b ∷ l ∷ []))) (sym k))
    refl placed fit

-- ---- rows whose place is repeated

all-repeated : (s : Slot) (t : SqlType) (common element : SqlType) → ((own : SqlType) → slot_type common element own s ≡ t) → (n : ℕ) (owns : List SqlType) (values : List Value) → fits_types (place_types common element owns (replicate n s)) values ≡ true → all_fit t values ≡ true
all-repeated s t common element is n owns [] fit = refl
all-repeated s t common element is zero owns (x ∷ xs) fit = cc
all-repeated s t common element is (suc n) owns (x ∷ xs) fit =
    and-step (fits t x) (fits_types (place_types common element (other_owns owns) (replicate n s)) xs) (all_fit t xs) (λ e. all-repeated s t common element is n (other_owns owns) xs e)
    (ap (λ (w : SqlType). fits w x && fits_types (place_types common element (other_owns owns) (replicate n s)) xs) (sym (is (first_own owns))) ∙ fit)

repeated-fit : (b : Bool) (s : Slot) (slots : List Slot) (t common element : SqlType) (n : ℕ) (owns : List SqlType) (values : List Value) → ((own : SqlType) → slot_type common element own s ≡ t) → cond b (Some (s ∷ replicate n s)) None ≡ Some slots → fits_types (place_types common element owns slots) values ≡ true → fits_repeated t values ≡ true
repeated-fit false s slots t common element n owns values is placed fit = cc
repeated-fit true s slots t common element n owns [] is placed fit =
    let e = ap (λ l. fits_types (place_types common element owns l) []) (some-same (s ∷ replicate n s) slots placed) ∙ fit in cc
repeated-fit true s slots t common element n owns (x ∷ xs) is placed fit =
    all-repeated s t common element is (suc n) owns (x ∷ xs) (ap (λ l. fits_types (place_types common element owns l) (x ∷ xs)) (some-same (s ∷ replicate n s) slots placed) ∙ fit)

repeated : (s : Slot) (t : SqlType) (values : List Value) (common element : SqlType) (owns : List SqlType) (slots : List Slot) → ((own : SqlType) → slot_type common element own s ≡ t) → places repeats.LastRepeats (s ∷ []) (length values) ≡ Some slots → fits_types (place_types common element owns slots) values ≡ true → fits_repeated t values ≡ true
repeated s t values common element owns slots is placed fit = repeated-fit (nat_le 1 (length values)) s slots t common element (length values - 1) owns values is placed fit

-- ---- the table

each_function : Each AsksOf functions
each_function = (
  exact (slot.Int64 ∷ slot.Int64 ∷ []),
  (
    exact (slot.Uint64 ∷ slot.Uint64 ∷ []),
    (
      exact (slot.Int64 ∷ slot.Int64 ∷ []),
      (
        exact (slot.Uint64 ∷ slot.Uint64 ∷ []),
        (
          exact (slot.Int64 ∷ slot.Int64 ∷ []),
          (
            exact (slot.Uint64 ∷ slot.Uint64 ∷ []),
            (
              exact (slot.Int64 ∷ []),
              (
                exact (slot.Int64 ∷ []),
                (
                  exact (slot.Uint64 ∷ []),
                  (
                    exact (slot.Int64 ∷ []),
                    (
                      exact (slot.Uint64 ∷ []),
                      (
                        exact (slot.Int64 ∷ slot.Int64 ∷ []),
                        (
                          exact (slot.Uint64 ∷ slot.Uint64 ∷ []),
                          (
                            exact (slot.Int64 ∷ slot.Int64 ∷ []),
                            (
                              exact (slot.Uint64 ∷ slot.Uint64 ∷ []),
                              (
                                exact (slot.Int64 ∷ slot.Int64 ∷ []),
                                (
                                  exact (slot.Uint64 ∷ slot.Uint64 ∷ []),
                                  (
                                    exact (slot.Int64 ∷ slot.Int64 ∷ []),
                                    (
                                      exact (slot.Uint64 ∷ slot.Int64 ∷ []),
                                      (
                                        exact (slot.Int64 ∷ slot.Int64 ∷ []),
                                        (
                                          exact (slot.Uint64 ∷ slot.Int64 ∷ []),
                                          (
                                            exact (slot.String ∷ slot.String ∷ []),
                                            (
                                              exact (slot.Bytes ∷ slot.Bytes ∷ []),
                                              (
                                                (λ values common element owns slots placed fit. tt),
                                                (
                                                  (λ values common element owns slots placed fit. tt),
                                                  (
                                                    (λ values common element owns slots placed fit. tt),
                                                    (
                                                      (λ values common element owns slots placed fit. tt),
                                                      (
                                                        (λ values common element owns slots placed fit. tt),
                                                        (
                                                          (λ values common element owns slots placed fit. tt),
                                                          (
                                                            (λ values common element owns slots placed fit. tt),
                                                            (
                                                              exact (slot.String ∷ slot.String ∷ []),
                                                              (
                                                                exact (slot.Bytes ∷ slot.Bytes ∷ []),
                                                                (
                                                                  (λ values common element owns slots placed fit. tt),
                                                                  (
                                                                    (λ values common element owns slots placed fit. tt),
                                                                    (
                                                                      (λ values common element owns slots placed fit. tt),
                                                                      (
                                                                        (λ values common element owns slots placed fit. tt),
                                                                        (
                                                                          (λ values common element owns slots placed fit. tt),
                                                                          (
                                                                            (λ values common element owns slots placed fit. tt),
                                                                            (
                                                                              (λ values common element owns slots placed fit. tt),
                                                                              (
                                                                                (λ values common element owns slots placed fit. tt),
                                                                                (
                                                                                  (λ values common element owns slots placed fit. tt),
                                                                                  (
                                                                                    (λ values common element owns slots placed fit. tt),
                                                                                    (
                                                                                      (λ values common element owns slots placed fit. tt),
                                                                                      (
                                                                                        (λ values common element owns slots placed fit. tt),
                                                                                        (
                                                                                          (λ values common element owns slots placed fit. tt),
                                                                                          (
                                                                                            (λ values common element owns slots placed fit. tt),
                                                                                            (
                                                                                              (λ values common element owns slots placed fit. tt),
                                                                                              (
                                                                                                (λ values common element owns slots placed fit. tt),
                                                                                                (
                                                                                                  exact (slot.Int64 ∷ []),
                                                                                                  (
                                                                                                    exact (slot.Int64 ∷ []),
                                                                                                    (
                                                                                                      exact (slot.Int64 ∷ slot.Int64 ∷ []),
                                                                                                      (
                                                                                                        exact (slot.Uint64 ∷ slot.Uint64 ∷ []),
                                                                                                        (
                                                                                                          exact (slot.Int64 ∷ slot.Int64 ∷ []),
                                                                                                          (
                                                                                                            exact (slot.Uint64 ∷ slot.Uint64 ∷ []),
                                                                                                            (
                                                                                                              (λ values common element owns slots placed fit. tt),
                                                                                                              (
                                                                                                                (λ values common element owns slots placed fit. tt),
                                                                                                                (
                                                                                                                  exact (slot.Int64 ∷ slot.Int64 ∷ []),
                                                                                                                  (
                                                                                                                    exact (slot.Uint64 ∷ slot.Uint64 ∷ []),
                                                                                                                    (
                                                                                                                      exact (slot.Int64 ∷ slot.Int64 ∷ []),
                                                                                                                      (
                                                                                                                        exact (slot.Uint64 ∷ slot.Uint64 ∷ []),
                                                                                                                        (
                                                                                                                          exact (slot.Int64 ∷ slot.Int64 ∷ []),
                                                                                                                          (
                                                                                                                            exact (slot.Uint64 ∷ slot.Uint64 ∷ []),
                                                                                                                            (
                                                                                                                              exact (slot.String ∷ []),
                                                                                                                              (
                                                                                                                                exact (slot.Bytes ∷ []),
                                                                                                                                (
                                                                                                                                  exact (slot.String ∷ []),
                                                                                                                                  (
                                                                                                                                    exact (slot.Bytes ∷ []),
                                                                                                                                    (
                                                                                                                                      exact (slot.String ∷ []),
                                                                                                                                      (
                                                                                                                                        (λ values common element owns slots. repeated slot.String ty.Text values common element owns slots (λ own. refl)),
                                                                                                                                        (
                                                                                                                                          (λ values common element owns slots. repeated slot.Bytes ty.Bytes values common element owns slots (λ own. refl)),
                                                                                                                                          (
                                                                                                                                            optional-three slot.String slot.Int64 slot.Int64,
                                                                                                                                            (
                                                                                                                                              optional-three slot.Bytes slot.Int64 slot.Int64,
                                                                                                                                              (
                                                                                                                                                exact (slot.String ∷ slot.String ∷ []),
                                                                                                                                                (
                                                                                                                                                  exact (slot.Bytes ∷ slot.Bytes ∷ []),
                                                                                                                                                  (
                                                                                                                                                    exact (slot.String ∷ slot.String ∷ []),
                                                                                                                                                    (
                                                                                                                                                      exact (slot.Bytes ∷ slot.Bytes ∷ []),
                                                                                                                                                      (
                                                                                                                                                        exact (slot.String ∷ slot.String ∷ []),
                                                                                                                                                        (
                                                                                                                                                          exact (slot.Bytes ∷ slot.Bytes ∷ []),
                                                                                                                                                          (
                                                                                                                                                            exact (slot.String ∷ slot.String ∷ slot.String ∷ []),
                                                                                                                                                            (
                                                                                                                                                              exact (slot.Bytes ∷ slot.Bytes ∷ slot.Bytes ∷ []),
                                                                                                                                                              (
                                                                                                                                                                exact (slot.String ∷ slot.Int64 ∷ []),
                                                                                                                                                                (
                                                                                                                                                                  exact (slot.Bytes ∷ slot.Int64 ∷ []),
                                                                                                                                                                  (
                                                                                                                                                                    exact (slot.String ∷ []),
                                                                                                                                                                    (
                                                                                                                                                                      exact (slot.Bytes ∷ []),
                                                                                                                                                                      (
                                                                                                                                                                        optional-two slot.String slot.String,
                                                                                                                                                                        (
                                                                                                                                                                          optional-two slot.String slot.String,
                                                                                                                                                                          (
                                                                                                                                                                            optional-two slot.String slot.String,
                                                                                                                                                                            (
                                                                                                                                                                              exact (slot.String ∷ slot.String ∷ []),
                                                                                                                                                                              (
                                                                                                                                                                                exact (slot.Bytes ∷ []),
                                                                                                                                                                                (
                                                                                                                                                                                  exact (slot.String ∷ []),
                                                                                                                                                                                  (
                                                                                                                                                                                    (λ values common element owns slots placed fit. tt),
                                                                                                                                                                                    (
                                                                                                                                                                                      (λ values common element owns slots placed fit. tt),
                                                                                                                                                                                      (
                                                                                                                                                                                        (λ values common element owns slots placed fit. tt),
                                                                                                                                                                                        (
                                                                                                                                                                                          (λ values common element owns slots placed fit. tt),
                                                                                                                                                                                          (
                                                                                                                                                                                            (λ values common element owns slots placed fit. tt),
                                                                                                                                                                                            (
                                                                                                                                                                                              optional-three slot.Texts slot.String slot.String,
                                                                                                                                                                                              (
                                                                                                                                                                                                (λ values common element owns slots placed fit. tt),
                                                                                                                                                                                                (
                                                                                                                                                                                                  optional-three slot.Int64 slot.Int64 slot.Int64,
                                                                                                                                                                                                  (
                                                                                                                                                                                                    exact (slot.Int64 ∷ slot.Int64 ∷ slot.Int64 ∷ []),
                                                                                                                                                                                                    (
                                                                                                                                                                                                      exact (slot.Date ∷ slot.Int64 ∷ slot.String ∷ []),
                                                                                                                                                                                                      (
                                                                                                                                                                                                        exact (slot.Date ∷ slot.Int64 ∷ slot.String ∷ []),
                                                                                                                                                                                                        (
                                                                                                                                                                                                          exact (slot.Date ∷ slot.Date ∷ slot.String ∷ []),
                                                                                                                                                                                                          (
                                                                                                                                                                                                            exact (slot.Date ∷ slot.String ∷ []),
                                                                                                                                                                                                            (
                                                                                                                                                                                                              exact (slot.String ∷ slot.Date ∷ []),
                                                                                                                                                                                                              (
                                                                                                                                                                                                                exact (slot.Date ∷ []),
                                                                                                                                                                                                                (
                                                                                                                                                                                                                  exact (slot.Int64 ∷ []),
                                                                                                                                                                                                                  tt,
                                                                                                                                                                                                                ),
                                                                                                                                                                                                              ),
                                                                                                                                                                                                            ),
                                                                                                                                                                                                          ),
                                                                                                                                                                                                        ),
                                                                                                                                                                                                      ),
                                                                                                                                                                                                    ),
                                                                                                                                                                                                  ),
                                                                                                                                                                                                ),
                                                                                                                                                                                              ),
                                                                                                                                                                                            ),
                                                                                                                                                                                          ),
                                                                                                                                                                                        ),
                                                                                                                                                                                      ),
                                                                                                                                                                                    ),
                                                                                                                                                                                  ),
                                                                                                                                                                                ),
                                                                                                                                                                              ),
                                                                                                                                                                            ),
                                                                                                                                                                          ),
                                                                                                                                                                        ),
                                                                                                                                                                      ),
                                                                                                                                                                    ),
                                                                                                                                                                  ),
                                                                                                                                                                ),
                                                                                                                                                              ),
                                                                                                                                                            ),
                                                                                                                                                          ),
                                                                                                                                                        ),
                                                                                                                                                      ),
                                                                                                                                                    ),
                                                                                                                                                  ),
                                                                                                                                                ),
                                                                                                                                              ),
                                                                                                                                            ),
                                                                                                                                          ),
                                                                                                                                        ),
                                                                                                                                      ),
                                                                                                                                    ),
                                                                                                                                  ),
                                                                                                                                ),
                                                                                                                              ),
                                                                                                                            ),
                                                                                                                          ),
                                                                                                                        ),
                                                                                                                      ),
                                                                                                                    ),
                                                                                                                  ),
                                                                                                                ),
                                                                                                              ),
                                                                                                            ),
                                                                                                          ),
                                                                                                        ),
                                                                                                      ),
                                                                                                    ),
                                                                                                  ),
                                                                                                ),
                                                                                              ),
                                                                                            ),
                                                                                          ),
                                                                                        ),
                                                                                      ),
                                                                                    ),
                                                                                  ),
                                                                                ),
                                                                              ),
                                                                            ),
                                                                          ),
                                                                        ),
                                                                      ),
                                                                    ),
                                                                  ),
                                                                ),
                                                              ),
                                                            ),
                                                          ),
                                                        ),
                                                      ),
                                                    ),
                                                  ),
                                                ),
                                              ),
                                            ),
                                          ),
                                        ),
                                      ),
                                    ),
                                  ),
                                ),
                              ),
                            ),
                          ),
                        ),
                      ),
                    ),
                  ),
                ),
              ),
            ),
          ),
        ),
      ),
    ),
  ),
)

each_aggregate : Each AsksOf aggregates
each_aggregate =
    ((λ values common element owns slots placed fit. tt), ((λ values common element owns slots placed fit. tt), ((λ values common element owns slots placed fit. tt), ((λ values common element owns slots placed fit. tt), ((λ values common element owns slots placed fit. tt), ((λ values common element owns slots placed fit. tt), ((λ values common element owns slots placed fit. tt), ((λ values common element owns slots placed fit. tt), ((λ values common element owns slots placed fit. tt), ((λ values common element owns slots placed fit. tt), ((λ values common element owns slots placed fit. tt), ((λ values common element owns slots placed fit. tt), tt))))))))))))

each_row : Each AsksOf signatures
each_row = each-both AsksOf functions aggregates each_function each_aggregate

pub asks : (sig : SigId) (gives : SqlType) (values : List Value) → Fitting sig gives values → Asks sig values
asks sig gives values f =
    subst (λ s. Asks s values) f.same (each-listed AsksOf signatures f.row each_row f.listed values f.common f.element f.owns f.slots f.placed f.fit)
