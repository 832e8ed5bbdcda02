-- When two written types are alike, by what each is made of.
use Rattle.std.proofs.Common.{◌≡◌, ◌↔◌, ℕ, Bool, true, false, nat_eq, IsTrue, List, Option, refl, sym, ◌∙◌, ap}
use Rattle.std.specs.Str.{str_to_ascii_lowercase}
use Rattle.sql_ast.specs.declared.clauses.Name.{Name}
use Rattle.sql_ast.specs.declared.type_spelling.TypeField.{TypeField}
use Rattle.sql_ast.specs.declared.type_spelling.TypeSpelling.{TypeSpelling, roll-TypeSpelling, out-TypeSpelling, roll-out-TypeSpelling}
use Rattle.sql_ast.specs.declared.type_spelling.TypeSpelling.TheVariants as v
use Rattle.sql_ast.specs.declared.type_spelling.TypeSpelling.TheOpen.{TypeSpelling-F}
use Rattle.sql_ast.specs.declared.type_spelling.TypeSpelling.TheOpen as type
use Rattle.sql_same.specs.Bare.{Spell, BareType}
use Rattle.sql_same.proofs.BareLaws.{type_at, bare_type}

abbrev lower : Spell
lower = str_to_ascii_lowercase

never : {A : Type 0} → false ≡ true → A
never h = absurd (let g : true ≡ false = sym h in cc)

-- ---- type

outs_type : (x y : TypeSpelling) → out-TypeSpelling x ≡ out-TypeSpelling y → x ≡ y
outs_type x y e = sym (roll-out-TypeSpelling x) ∙ ap roll-TypeSpelling e ∙ roll-out-TypeSpelling y

-- two of known constructs
pub type_by : (b : Bool) (x y : TypeSpelling) (p q : TypeSpelling-F TypeSpelling) → out-TypeSpelling x ≡ p → out-TypeSpelling y ≡ q → (IsTrue b ↔ (type_at lower p ≡ type_at lower q)) → (IsTrue b ↔ (BareType lower x ≡ BareType lower y))
type_by b x y p q ex ey h =
    let left : out-TypeSpelling (BareType lower x) ≡ type_at lower p = bare_type lower x ∙ ap (type_at lower) ex in
    let right : out-TypeSpelling (BareType lower y) ≡ type_at lower q = bare_type lower y ∙ ap (type_at lower) ey in
    (λ t. outs_type (BareType lower x) (BareType lower y) (left ∙ h.0 t ∙ sym right), λ e. h.1 (sym left ∙ ap out-TypeSpelling e ∙ right))

-- which construct it is
abbrev type_kind : TypeSpelling-F TypeSpelling → ℕ
type_kind (type.Name name) = 0
type_kind (type.Array element place) = 1
type_kind (type.Struct fields place) = 2

type_kind_at : (p : TypeSpelling-F TypeSpelling) → type_kind (type_at lower p) ≡ type_kind p
type_kind_at (type.Name name) = refl
type_kind_at (type.Array element place) = refl
type_kind_at (type.Struct fields place) = refl

type_kept : (x y : TypeSpelling) → BareType lower x ≡ BareType lower y → type_kind (out-TypeSpelling x) ≡ type_kind (out-TypeSpelling y)
type_kept x y e =
    sym (ap type_kind (bare_type lower x) ∙ type_kind_at (out-TypeSpelling x))
    ∙ ap (λ z. type_kind (out-TypeSpelling z)) e ∙ ap type_kind (bare_type lower y) ∙ type_kind_at (out-TypeSpelling y)

-- two of which only one is of this kind
type_apart : (x y : TypeSpelling) (k : ℕ) → type_kind (out-TypeSpelling x) ≡ k → (nat_eq (type_kind (out-TypeSpelling y)) k ≡ true → ⊥) → nat_eq k k ≡ true → (IsTrue false ↔ (BareType lower x ≡ BareType lower y))
type_apart x y k e lacks same = (λ t. never t, λ h. absurd (lacks (ap (λ n. nat_eq n k) (sym (type_kept x y h) ∙ e) ∙ same)))

type_no_Name : (p : TypeSpelling-F TypeSpelling) → ((f0 : Name) → roll-TypeSpelling p ≡ v.Name f0 → ⊥) → nat_eq (type_kind p) 0 ≡ true → ⊥
type_no_Name (type.Name f0) lacks h = lacks f0 (ap roll-TypeSpelling (sym (v.outs-Name f0)) ∙ roll-out-TypeSpelling (v.Name f0))
type_no_Name _ lacks h = never h

pub type_only_Name : (x y : TypeSpelling) (f0 : Name) → x ≡ v.Name f0 → ((g0 : Name) → y ≡ v.Name g0 → ⊥) → (IsTrue false ↔ (BareType lower x ≡ BareType lower y))
type_only_Name x y f0 e lacks =
    type_apart x y 0 (ap (λ z. type_kind (out-TypeSpelling z)) e ∙ ap type_kind (v.outs-Name f0)) (type_no_Name (out-TypeSpelling y) (λ g0 h. lacks g0 (sym (roll-out-TypeSpelling y) ∙ h))) refl

type_no_Array : (p : TypeSpelling-F TypeSpelling) → ((f0 : TypeSpelling) (f1 : ℕ) → roll-TypeSpelling p ≡ v.Array f0 f1 → ⊥) → nat_eq (type_kind p) 1 ≡ true → ⊥
type_no_Array (type.Array f0 f1) lacks h = lacks f0 f1 (ap roll-TypeSpelling (sym (v.outs-Array f0 f1)) ∙ roll-out-TypeSpelling (v.Array f0 f1))
type_no_Array _ lacks h = never h

pub type_only_Array : (x y : TypeSpelling) (f0 : TypeSpelling) (f1 : ℕ) → x ≡ v.Array f0 f1 → ((g0 : TypeSpelling) (g1 : ℕ) → y ≡ v.Array g0 g1 → ⊥) → (IsTrue false ↔ (BareType lower x ≡ BareType lower y))
type_only_Array x y f0 f1 e lacks =
    type_apart x y 1 (ap (λ z. type_kind (out-TypeSpelling z)) e ∙ ap type_kind (v.outs-Array f0 f1)) (type_no_Array (out-TypeSpelling y) (λ g0 g1 h. lacks g0 g1 (sym (roll-out-TypeSpelling y) ∙ h))) refl

type_no_Struct : (p : TypeSpelling-F TypeSpelling) → ((f0 : List (TypeField TypeSpelling)) (f1 : ℕ) → roll-TypeSpelling p ≡ v.Struct f0 f1 → ⊥) → nat_eq (type_kind p) 2 ≡ true → ⊥
type_no_Struct (type.Struct f0 f1) lacks h = lacks f0 f1 (ap roll-TypeSpelling (sym (v.outs-Struct f0 f1)) ∙ roll-out-TypeSpelling (v.Struct f0 f1))
type_no_Struct _ lacks h = never h

pub type_only_Struct : (x y : TypeSpelling) (f0 : List (TypeField TypeSpelling)) (f1 : ℕ) → x ≡ v.Struct f0 f1 → ((g0 : List (TypeField TypeSpelling)) (g1 : ℕ) → y ≡ v.Struct g0 g1 → ⊥) → (IsTrue false ↔ (BareType lower x ≡ BareType lower y))
type_only_Struct x y f0 f1 e lacks =
    type_apart x y 2 (ap (λ z. type_kind (out-TypeSpelling z)) e ∙ ap type_kind (v.outs-Struct f0 f1)) (type_no_Struct (out-TypeSpelling y) (λ g0 g1 h. lacks g0 g1 (sym (roll-out-TypeSpelling y) ∙ h))) refl
