-- Written types are spelled by the tokens of their prints.
use Rattle.std.proofs.Common.{◌≡◌, ℕ, suc, List, [], ◌∷◌, ◌++◌, map, Some, None, refl, ◌∙◌, ap, subst}
use Rattle.sql_names.specs.declared.words.Reserved.TheVariants as r
use Rattle.sql_ast.specs.declared.words.Sign.TheVariants as s
use Rattle.sql_ast.specs.declared.token.Token.{Token}
use Rattle.sql_ast.specs.declared.clauses.Name.{Name}
use Rattle.sql_ast.specs.declared.type_spelling.TypeField.{TypeField}
use Rattle.sql_ast.specs.declared.type_spelling.TypeSpelling.{TypeSpelling, out-TypeSpelling}
use Rattle.sql_ast.specs.declared.type_spelling.TypeSpelling.TheVariants as spelling
use Rattle.sql_ast.specs.declared.type_spelling.TypeSpelling.TheOpen as type
use Rattle.sql_ast.specs.Marks.{Tokens, Is}
use Rattle.sql_ast.specs.Trees.{name_at}
use Rattle.sql_ast.specs.Parts.{TypeOf, type_name, type_array, type_struct, FieldsOf, fields_are, FieldCommasOf, fields_none, fields_more, FieldOf, field_unnamed, field_named}
use Rattle.sql_ast.specs.Pieces.{Piece, after_commas, word_if_plain}
use Rattle.sql_ast.specs.Canon.{type_pieces, angled}
use Rattle.sql_same.specs.Bare.{as_is, bare_name, bare_field, BareType}
use Rattle.sql_same.proofs.BareSame.{same_type}
use Rattle.sql_print.specs.PartPieces.{listed, field_pieces}
use Rattle.sql_print.proofs.TypeLaws.{type_at, print_type}
use Rattle.sql_print.proofs.Carried.{Carries, Found, Back, split, one, nothing, is_reserved, is_sign, is_named}
use Rattle.sql_print.proofs.BackNames.{name_same}

-- a written type of a known construct
type_by : (k : ℕ) (y : TypeSpelling) (p : type.TypeSpelling-F TypeSpelling) → out-TypeSpelling y ≡ p → ((ts : Tokens) → Carries (type_at p) ts → Found (TypeOf k) (BareType as_is) y ts) → Back (TypeOf k) (BareType as_is) (type_pieces y) y
type_by k y p e f = record { back = λ ts c. f ts (subst (λ (ps : List Piece). Carries ps ts) (print_type y ∙ ap type_at e) c) }

-- what stands between `<` and `>`
pub angled_by : {A : Type 0} (L : A → Tokens → Type 0) (bare : A → A) (ps : List Piece) (a : A) → Back L bare ps a → (G : Tokens → Type 0)
    → ((o c : Token) (u : Tokens) → Is (Rattle.sql_ast.specs.Marks.sign s.Less) o → Found L bare a u → Is (Rattle.sql_ast.specs.Marks.sign s.Greater) c → G (o ∷ (u ++ (c ∷ []))))
    → (ts : Tokens) → Carries (angled ps) ts → G ts
angled_by L bare ps a inner G k ts h =
    one G ts h (λ o v e h. split (λ v. G (o ∷ v)) v h (λ u w cu cw. one (λ w. G (o ∷ (u ++ w))) w cw (λ c w f cw. nothing (λ w. G (o ∷ (u ++ (c ∷ w)))) w cw
    (k o c u (is_sign s.Less o e) (inner.back u cu) (is_sign s.Greater c f)))))

mutual
  pub back_type : (k : ℕ) (y : TypeSpelling) (v : Tokens) → TypeOf k y v → Back (TypeOf k) (BareType as_is) (type_pieces y) y
  back_type _ _ _ (type_name {k = k} {n = n} i) = type_by (suc k) (spelling.Name (name_at n)) (type.Name (name_at n)) (spelling.outs-Name (name_at n)) (λ ts h.
      one (Found (TypeOf (suc k)) (BareType as_is) (spelling.Name (name_at n))) ts h (λ t w e h. nothing (λ w. Found (TypeOf (suc k)) (BareType as_is) (spelling.Name (name_at n)) (t ∷ w)) w h (record {
        tree = spelling.Name (name_at t);
        spells = type_name (is_named (name_at n).text (word_if_plain (name_at n).text) t e);
        same = same_type as_is (spelling.Name (name_at t)) (spelling.Name (name_at n)) (type.Name (name_at t)) (type.Name (name_at n)) (spelling.outs-Name (name_at t)) (spelling.outs-Name (name_at n))
            (ap (λ (m : Name). type.Name m) (name_same (name_at n).text (word_if_plain (name_at n).text) t (name_at n).place e));
      })))
  back_type _ _ _ (type_array {k = k} {t = t} {x = x} {v = v} i j z g) = type_by (suc (suc k)) (spelling.Array x t.start) (type.Array x t.start) (spelling.outs-Array x t.start) (λ ts h.
      one (Found (TypeOf (suc (suc k))) (BareType as_is) (spelling.Array x t.start)) ts h (λ t' w e h.
      angled_by (TypeOf (suc k)) (BareType as_is) (type_pieces x) x (back_type (suc k) x v z) (λ w. Found (TypeOf (suc (suc k))) (BareType as_is) (spelling.Array x t.start) (t' ∷ w)) (λ o c u io f ic. record {
        tree = spelling.Array f.tree t'.start;
        spells = type_array (is_reserved r.Array t' e) io f.spells ic;
        same = same_type as_is (spelling.Array f.tree t'.start) (spelling.Array x t.start) (type.Array f.tree t'.start) (type.Array x t.start) (spelling.outs-Array f.tree t'.start) (spelling.outs-Array x t.start)
            (ap (λ (m : TypeSpelling). type.Array m 0) f.same);
      }) w h))
  back_type _ _ _ (type_struct {k = k} {t = t} {fs = fs} {v = v} i j z g) = type_by (suc (suc k)) (spelling.Struct fs t.start) (type.Struct fs t.start) (spelling.outs-Struct fs t.start) (λ ts h.
      one (Found (TypeOf (suc (suc k))) (BareType as_is) (spelling.Struct fs t.start)) ts h (λ t' w e h.
      angled_by (FieldsOf (suc k)) (map (bare_field as_is (BareType as_is))) (listed (field_pieces type_pieces) fs) fs (back_fields (suc k) fs v z) (λ w. Found (TypeOf (suc (suc k))) (BareType as_is) (spelling.Struct fs t.start) (t' ∷ w)) (λ o c u io f ic. record {
        tree = spelling.Struct f.tree t'.start;
        spells = type_struct (is_reserved r.Struct t' e) io f.spells ic;
        same = same_type as_is (spelling.Struct f.tree t'.start) (spelling.Struct fs t.start) (type.Struct f.tree t'.start) (type.Struct fs t.start) (spelling.outs-Struct f.tree t'.start) (spelling.outs-Struct fs t.start)
            (ap (λ (m : List (TypeField TypeSpelling)). type.Struct m 0) f.same);
      }) w h))

  pub back_fields : (k : ℕ) (fs : List (TypeField TypeSpelling)) (v : Tokens) → FieldsOf k fs v → Back (FieldsOf k) (map (bare_field as_is (BareType as_is))) (listed (field_pieces type_pieces) fs) fs
  back_fields _ _ _ (fields_are {k = k} {f = f} {fs = fs} {u = u} {v = v} z y) = record {
    back = λ ts h.
        split (Found (FieldsOf k) (map (bare_field as_is (BareType as_is))) (f ∷ fs)) ts h (λ p q cp cq.
        let first = (back_field k f u z).back p cp in
        let rest = (back_field_commas k fs v y).back q cq in
        record {
          tree = first.tree ∷ rest.tree;
          spells = fields_are first.spells rest.spells;
          same = rw first.same (ap (λ (m : List (TypeField TypeSpelling)). bare_field as_is (BareType as_is) f ∷ m) rest.same);
        });
  }

  back_field_commas : (k : ℕ) (fs : List (TypeField TypeSpelling)) (v : Tokens) → FieldCommasOf k fs v → Back (FieldCommasOf k) (map (bare_field as_is (BareType as_is))) (after_commas (map (field_pieces type_pieces) fs)) fs
  back_field_commas _ _ _ (fields_none {k = k}) = record { back = λ ts h. nothing (Found (FieldCommasOf k) (map (bare_field as_is (BareType as_is))) []) ts h (record { tree = []; spells = fields_none; same = refl }) }
  back_field_commas _ _ _ (fields_more {k = k} {f = f} {fs = fs} {u = u} {v = v} i z y) = record {
    back = λ ts h.
        one (Found (FieldCommasOf k) (map (bare_field as_is (BareType as_is))) (f ∷ fs)) ts h (λ t w e h. split (λ w. Found (FieldCommasOf k) (map (bare_field as_is (BareType as_is))) (f ∷ fs) (t ∷ w)) w h (λ p q cp cq.
        let first = (back_field k f u z).back p cp in
        let rest = (back_field_commas k fs v y).back q cq in
        record {
          tree = first.tree ∷ rest.tree;
          spells = fields_more (is_sign s.Comma t e) first.spells rest.spells;
          same = rw first.same (ap (λ (m : List (TypeField TypeSpelling)). bare_field as_is (BareType as_is) f ∷ m) rest.same);
        }));
  }

  back_field : (k : ℕ) (f : TypeField TypeSpelling) (v : Tokens) → FieldOf k f v → Back (FieldOf k) (bare_field as_is (BareType as_is)) (field_pieces type_pieces f) f
  back_field _ _ _ (field_unnamed {k = k} {x = x} {u = u} z) = record {
    back = λ ts h.
        let f = (back_type k x u z).back ts h in
        record { tree = record { name = None; ty = f.tree }; spells = field_unnamed f.spells; same = ap (λ (m : TypeSpelling). record { name = None; ty = m }) f.same };
  }
  back_field _ _ _ (field_named {k = k} {n = n} {x = x} {u = u} i z) = record {
    back = λ ts h.
        one (Found (FieldOf k) (bare_field as_is (BareType as_is)) (record { name = Some (name_at n); ty = x })) ts h (λ t w e h.
        let f = (back_type k x u z).back w h in
        record {
          tree = record { name = Some (name_at t); ty = f.tree };
          spells = field_named (is_named (name_at n).text (word_if_plain (name_at n).text) t e) f.spells;
          same = rw (name_same (name_at n).text (word_if_plain (name_at n).text) t (name_at n).place e) (ap (λ (m : TypeSpelling). record { name = Some (bare_name as_is (name_at n)); ty = m }) f.same);
        });
  }
