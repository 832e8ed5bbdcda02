-- The text of a whole tree, by computation.
use Rattle.std.proofs.Common.{◌≡◌, ℕ, pos, List, [], ◌∷◌, codes, Some, refl, sym, ◌∙◌, ap, arith}
use Rattle.std.proofs.lemmas.Fmt.{decimal_digit}
use Rattle.sql_names.specs.Spelling.{is_plain}
use Rattle.sql_names.specs.Words.{reserved_of}
use Rattle.sql_types.specs.declared.sql_type.SqlType.{fold-SqlType, fold-roll-SqlType}
use Rattle.sql_types.specs.declared.sql_type.SqlType.TheVariants as ty
use Rattle.sql_types.specs.declared.sql_type.SqlType.TheOpen as type
use Rattle.sql_types.specs.declared.value.Value.{fold-Value, fold-roll-Value}
use Rattle.sql_types.specs.declared.value.Value.TheVariants as value
use Rattle.sql_types.specs.declared.value.Value.TheOpen as v
use Rattle.sql_types.specs.TypeText.{type_text, type_layer}
use Rattle.sql_ast.specs.Literals.{LiteralText, literal_layer}
use Rattle.sql_builtins.specs.declared.sig.SigId.TheVariants as sig
use Rattle.resolved_ast.specs.declared.column.ColumnRef.{ColumnRef}
use Rattle.resolved_ast.specs.declared.column.MadeColumn.{MadeColumn}
use Rattle.resolved_ast.specs.declared.rex.Rex.{Rex, out-Rex, map-Rex}
use Rattle.resolved_ast.specs.declared.rex.Rex.TheVariants as rex
use Rattle.resolved_ast.specs.declared.rex.Rex.TheOpen.{Rex-F, Scan-F}
use Rattle.resolved_ast.specs.declared.rex.Rex.TheOpen as t
use Rattle.resolved_ast.specs.declared.scan.Scan.{Scan, out-Scan, map-Scan}
use Rattle.resolved_ast.specs.declared.scan.Scan.TheVariants as scan
use Rattle.resolved_ast.specs.declared.scan.Tree.{Tree}
use Rattle.resolved_ast.specs.Numeral.{numeral}
use Rattle.resolved_ast.specs.TreeText.{Shown, TreeText, RexText, ScanText, rex_text, scan_text, node, list_text, output_text}
use Rattle.resolved_ast.proofs.NumeralLaws.{one_digit}
use Rattle.resolved_ast.proofs.TextLaws.{text_rex, text_scan}

bool_text : type_text ty.Bool ≡ codes "BOOL"
unfolding type_text
bool_text = ap (fold-SqlType (List ℕ) type_layer) (sym ty.rolls-Bool) ∙ fold-roll-SqlType (List ℕ) type_layer type.Bool

int64_text : type_text ty.Int64 ≡ codes "INT64"
unfolding type_text
int64_text = ap (fold-SqlType (List ℕ) type_layer) (sym ty.rolls-Int64) ∙ fold-roll-SqlType (List ℕ) type_layer type.Int64

string_text : type_text ty.Text ≡ codes "STRING"
unfolding type_text
string_text = ap (fold-SqlType (List ℕ) type_layer) (sym ty.rolls-Text) ∙ fold-roll-SqlType (List ℕ) type_layer type.Text

two_text : LiteralText (value.Int (pos 2)) ≡ codes "2"
unfolding LiteralText
two_text = ap (fold-Value (List ℕ) literal_layer) (sym (value.rolls-Int (pos 2))) ∙ fold-roll-Value (List ℕ) literal_layer (v.Int (pos 2)) ∙ decimal_digit 2 (omega arith)

one_text : numeral 1 ≡ codes "1"
one_text = sym (one_digit 1 (omega arith))

second_text : numeral 2 ≡ codes "2"
second_text = sym (one_digit 2 (omega arith))

a : ColumnRef
a = record { name = Some (codes "a"); id = record { 0 = 1 } }

a_made : MadeColumn
a_made = record { name = Some (codes "a"); id = record { 0 = 1 }; ty = ty.Int64 }

b_made : MadeColumn
b_made = record { name = Some (codes "b"); id = record { 0 = 2 }; ty = ty.Text }

-- ---- SELECT a FROM t WHERE a = 2

abbrev column : Rex
column = rex.Column a ty.Int64

abbrev literal : Rex
literal = rex.Literal (value.Int (pos 2)) ty.Int64

abbrev test : Rex
test = rex.Call sig.Equal ty.Bool (column ∷ literal ∷ [])

abbrev table : Scan
table = scan.Table (codes "t") 0 (a_made ∷ b_made ∷ [])

abbrev filter : Scan
filter = scan.Filter table test

abbrev first_select : Tree
first_select = record { scan = scan.Project (a ∷ []) filter []; outputs = record { name = Some (codes "a"); column = a; ty = ty.Int64 } ∷ [] }

-- a tree's text, by its node
rex_by : (x : Rex) (z : Rex-F Rex Scan) → out-Rex x ≡ z → RexText x ≡ rex_text (map-Rex Rex Scan Shown Shown RexText ScanText z)
rex_by x z is = text_rex x ∙ ap (λ y. rex_text (map-Rex Rex Scan Shown Shown RexText ScanText y)) is

scan_by : (x : Scan) (z : Scan-F Rex Scan) → out-Scan x ≡ z → ScanText x ≡ scan_text (map-Scan Rex Scan Shown Shown RexText ScanText z)
scan_by x z is = text_scan x ∙ ap (λ y. scan_text (map-Scan Rex Scan Shown Shown RexText ScanText y)) is

abbrev test_shown : Shown
test_shown = rex_text (t.Call sig.Equal ty.Bool (rex_text (t.Column a ty.Int64) ∷ rex_text (t.Literal (value.Int (pos 2)) ty.Int64) ∷ []))

test_text : RexText test ≡ test_shown
test_text =
    rex_by test _ (rex.outs-Call sig.Equal ty.Bool (column ∷ literal ∷ []))
    ∙ ap (λ x. rex_text (t.Call sig.Equal ty.Bool (x ∷ RexText literal ∷ []))) (rex_by column _ (rex.outs-Column a ty.Int64))
    ∙ ap (λ x. rex_text (t.Call sig.Equal ty.Bool (rex_text (t.Column a ty.Int64) ∷ x ∷ []))) (rex_by literal _ (rex.outs-Literal (value.Int (pos 2)) ty.Int64))

abbrev filter_shown : Shown
filter_shown = scan_text (t.Filter (scan_text (t.Table (codes "t") 0 (a_made ∷ b_made ∷ []))) test_shown)

filter_text : ScanText filter ≡ filter_shown
filter_text =
    scan_by filter _ (scan.outs-Filter table test)
    ∙ ap (λ x. scan_text (t.Filter x (RexText test))) (scan_by table _ (scan.outs-Table (codes "t") 0 (a_made ∷ b_made ∷ [])))
    ∙ ap (λ x. scan_text (t.Filter (scan_text (t.Table (codes "t") 0 (a_made ∷ b_made ∷ []))) x)) test_text

abbrev output : Shown → List ℕ
output x = node (codes "Output") (list_text output_text first_select.outputs ∷ []) (x ∷ []) []

nodes : TreeText first_select ≡ output (scan_text (t.Project (a ∷ []) filter_shown []))
nodes =
    ap output (scan_by first_select.scan _ (scan.outs-Project (a ∷ []) filter []) ∙ ap (λ x. scan_text (t.Project (a ∷ []) x [])) filter_text)

written_out :
    output (scan_text (t.Project (a ∷ []) filter_shown []))
    ≡ codes "Output [a=a#1 INT64]\n  Project [a#1]\n    Filter\n      Table t [a#1 INT64, b#2 STRING]\n      Call eq BOOL\n        Column a#1 INT64\n        Literal 2 INT64\n"
unfolding a a_made b_made list_text is_plain reserved_of
written_out = simp (bool_text, int64_text, string_text, two_text, one_text, second_text) refl

the_seven_lines :
    TreeText first_select
    ≡ codes "Output [a=a#1 INT64]\n  Project [a#1]\n    Filter\n      Table t [a#1 INT64, b#2 STRING]\n      Call eq BOOL\n        Column a#1 INT64\n        Literal 2 INT64\n"
the_seven_lines = nodes ∙ written_out
