use Rattle.std.proofs.Common.{◌∙◌, ap, sym, arith}
use Rattle.std.proofs.lemmas.Bool.{false≢true}
use Rattle.sql_types.specs.Joined.{Row}
use Rattle.key_classes.specs.Classes.{key_of, number_of}
use Rattle.eval_rows.specs.ByClass.{value_at}
use Rattle.key_classes.specs.KeyLaws.{told}
use Rattle.eval_rows.proofs.PartnerLaws.{one_taken, none_taken}
use Rattle.eval_rows.proofs.tally.Tally.take.Goals as goal

pub returns-in-Some-clause-found : goal.returns-in-Some-clause-found
returns-in-Some-clause-found c =
    let rows = c.args.self.now.rows in
    let left = c.args.self.now.left.items in
    let number = sym (c.in-Some.ensures ∙ ap (λ (z : Row). number_of rows z) (ap (key_of c.args.self.now.columns.now) c.as_slice.ensures ∙ told _ _ c.requires)) in
    let same = ap (value_at 0 left) number in
    (λ is. omega (arith, same, c.take_one.ensures.found.0 is), λ some. c.take_one.ensures.found.1 (omega (arith, same, some)))

pub returns-in-Some-clause-left : goal.returns-in-Some-clause-left
returns-in-Some-clause-left c =
    let rows = c.args.self.now.rows in
    let number = sym (c.in-Some.ensures ∙ ap (λ (z : Row). number_of rows z) (ap (key_of c.args.self.now.columns.now) c.as_slice.ensures ∙ told _ _ c.requires)) in
    one_taken rows c.args.self.now.left.items c.take_one.new.left.items c.args.row.now c.in-Some.class c.args.self.now.as_many number c.take_one.ensures.left

pub returns-in-None-clause-found : goal.returns-in-None-clause-found
returns-in-None-clause-found c =
    let rows = c.args.self.now.rows in
    let left = c.args.self.now.left.items in
    let number = sym (c.in-None.ensures ∙ ap (λ (z : Row). number_of rows z) (ap (key_of c.args.self.now.columns.now) c.as_slice.ensures ∙ told _ _ c.requires)) in
    let same = ap (value_at 0 left) number in
    (λ is. absurd (false≢true is), λ some. absurd (omega (arith, same, some)))

pub returns-in-None-clause-left : goal.returns-in-None-clause-left
returns-in-None-clause-left c =
    let rows = c.args.self.now.rows in
    let number = sym (c.in-None.ensures ∙ ap (λ (z : Row). number_of rows z) (ap (key_of c.args.self.now.columns.now) c.as_slice.ensures ∙ told _ _ c.requires)) in
    none_taken rows c.args.self.now.left.items c.args.row.now number
