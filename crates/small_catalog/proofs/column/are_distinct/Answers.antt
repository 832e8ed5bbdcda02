use Rattle.std.proofs.Common.{◌≡◌, ◌∙◌, true, false, sym, ap, arith, string_bytes}
use Rattle.std.specs.HashSet.{contains_text}
use Rattle.std.specs.Str.{str_to_ascii_lowercase}
use Rattle.std.proofs.lemmas.Map.Text.{hash_set_updates_text}
use Rattle.small_catalog.proofs.ColumnLaws.{shares-name, own-name, held-next, not-false, not-true}
use Rattle.small_catalog.proofs.column.are_distinct.Goals as goal

pub returns-then-not-branch : goal.returns-then-not-branch
returns-then-not-branch c =
    let letters : string_bytes c.in_ok-to_ascii_lowercase.field-0 ≡ str_to_ascii_lowercase c.in-Some.name =
    c.in_ok-to_ascii_lowercase.ensures.ok ∙ ap str_to_ascii_lowercase c.as_str.ensures in
    let held : contains_text c.columns.names (str_to_ascii_lowercase c.in-Some.name) ≡ true =
    rw (← letters) (not-false (contains_text c.columns.names (string_bytes c.in_ok-to_ascii_lowercase.field-0)) (sym c.in_ok-insert.ensures.added ∙ c.if-not-branch.true)) in
    sym (shares-name c.args.columns.now c.columns.place c.index-columns-place.result c.in-Some.name c.columns-test.true c.columns.invariant.within
    c.index-columns-place.is c.in-Some.is (sym (c.columns.invariant.held (str_to_ascii_lowercase c.in-Some.name)) ∙ held))

pub columns-preserved-else-not-branch : goal.columns-preserved-else-not-branch
columns-preserved-else-not-branch c =
    let letters : string_bytes c.in_ok-to_ascii_lowercase.field-0 ≡ str_to_ascii_lowercase c.in-Some.name =
    c.in_ok-to_ascii_lowercase.ensures.ok ∙ ap str_to_ascii_lowercase c.as_str.ensures in
    let held : contains_text c.columns.names (str_to_ascii_lowercase c.in-Some.name) ≡ false =
    rw (← letters) (not-true (contains_text c.columns.names (string_bytes c.in_ok-to_ascii_lowercase.field-0)) (sym c.in_ok-insert.ensures.added ∙ c.if-not-branch.false)) in
    let put = hash_set_updates_text (string_bytes c.in_ok-to_ascii_lowercase.field-0) c.columns.names c.insert.new.self true c.in_ok-insert.ensures.updates in
    record {
      within = omega arith;
      distinct_so_far = own-name c.args.columns.now c.columns.place c.index-columns-place.result c.in-Some.name c.columns-test.true c.columns.invariant.within
          c.index-columns-place.is c.in-Some.is (sym (c.columns.invariant.held (str_to_ascii_lowercase c.in-Some.name)) ∙ held) c.columns.invariant.distinct_so_far;
      held = λ letters'. held-next c.args.columns.now c.columns.place c.index-columns-place.result c.in-Some.name letters' _ _ c.columns-test.true c.columns.invariant.within
          c.index-columns-place.is c.in-Some.is (rw (← letters) (put letters')) (c.columns.invariant.held letters');
    }
