-- When two trees of the other sorts are alike, by what each is made of.
use Rattle.std.proofs.Common.{◌≡◌, ◌↔◌, ℕ, Bool, true, false, nat_eq, IsTrue, List, Option, refl, sym, ◌∙◌, ap}
use Rattle.std.specs.Str.{str_to_ascii_lowercase}
use Rattle.sql_ast.specs.declared.clauses.Name.{Name}
use Rattle.sql_ast.specs.declared.clauses.Turned.{Turned}
use Rattle.sql_ast.specs.declared.clauses.WithOffset.{WithOffset}
use Rattle.sql_ast.specs.declared.expr.Expr.{Expr}
use Rattle.sql_ast.specs.declared.query.Primary.{Primary, roll-Primary, out-Primary, roll-out-Primary}
use Rattle.sql_ast.specs.declared.query.Primary.TheVariants as primary
use Rattle.sql_ast.specs.declared.query.Term.{Term, roll-Term, out-Term, roll-out-Term}
use Rattle.sql_ast.specs.declared.query.Term.TheVariants as term
use Rattle.sql_ast.specs.declared.query.FromItem.{FromItem, roll-FromItem, out-FromItem, roll-out-FromItem}
use Rattle.sql_ast.specs.declared.query.Joined.{Joined, roll-Joined, out-Joined, roll-out-Joined}
use Rattle.sql_ast.specs.declared.query.Query.{Query, roll-Query, out-Query, roll-out-Query}
use Rattle.sql_ast.specs.declared.query.Select.{Select, roll-Select, out-Select, roll-out-Select}
use Rattle.sql_ast.specs.declared.expr.Expr.TheOpen.{Primary-F, Term-F, FromItem-F, Joined-F, Query-F, Select-F}
use Rattle.sql_ast.specs.declared.expr.Expr.TheOpen as ast
use Rattle.sql_same.specs.Bare.{Spell, BarePrimary, BareTerm, BareFrom, BareJoined, BareQuery, BareSelect}
use Rattle.sql_same.proofs.BareLaws.{primary_at, bare_primary, term_at, bare_term, from_at, bare_from, joined_at, bare_joined, query_at, bare_query, select_at, bare_select}

abbrev lower : Spell
lower = str_to_ascii_lowercase

never : {A : Type 0} → false ≡ true → A
never h = absurd (let g : true ≡ false = sym h in cc)

-- ---- primary

outs_primary : (x y : Primary) → out-Primary x ≡ out-Primary y → x ≡ y
outs_primary x y e = sym (roll-out-Primary x) ∙ ap roll-Primary e ∙ roll-out-Primary y

-- two of known constructs
pub primary_by : (b : Bool) (x y : Primary) (p q : Primary-F Expr Primary Term FromItem Joined Query Select) → out-Primary x ≡ p → out-Primary y ≡ q → (IsTrue b ↔ (primary_at lower p ≡ primary_at lower q)) → (IsTrue b ↔ (BarePrimary lower x ≡ BarePrimary lower y))
primary_by b x y p q ex ey h =
    let left : out-Primary (BarePrimary lower x) ≡ primary_at lower p = bare_primary lower x ∙ ap (primary_at lower) ex in
    let right : out-Primary (BarePrimary lower y) ≡ primary_at lower q = bare_primary lower y ∙ ap (primary_at lower) ey in
    (λ t. outs_primary (BarePrimary lower x) (BarePrimary lower y) (left ∙ h.0 t ∙ sym right), λ e. h.1 (sym left ∙ ap out-Primary e ∙ right))

-- which construct it is
abbrev primary_kind : Primary-F Expr Primary Term FromItem Joined Query Select → ℕ
primary_kind (ast.Table name alias turned place) = 0
primary_kind (Primary-F.«Primary::Query» query alias turned place) = 1
primary_kind (ast.Path path alias offset place) = 2
primary_kind (ast.Unnest array alias offset place) = 3

primary_kind_at : (p : Primary-F Expr Primary Term FromItem Joined Query Select) → primary_kind (primary_at lower p) ≡ primary_kind p
primary_kind_at (ast.Table name alias turned place) = refl
primary_kind_at (Primary-F.«Primary::Query» query alias turned place) = refl
primary_kind_at (ast.Path path alias offset place) = refl
primary_kind_at (ast.Unnest array alias offset place) = refl

primary_kept : (x y : Primary) → BarePrimary lower x ≡ BarePrimary lower y → primary_kind (out-Primary x) ≡ primary_kind (out-Primary y)
primary_kept x y e =
    sym (ap primary_kind (bare_primary lower x) ∙ primary_kind_at (out-Primary x))
    ∙ ap (λ z. primary_kind (out-Primary z)) e ∙ ap primary_kind (bare_primary lower y) ∙ primary_kind_at (out-Primary y)

-- two of which only one is of this kind
primary_apart : (x y : Primary) (k : ℕ) → primary_kind (out-Primary x) ≡ k → (nat_eq (primary_kind (out-Primary y)) k ≡ true → ⊥) → nat_eq k k ≡ true → (IsTrue false ↔ (BarePrimary lower x ≡ BarePrimary lower y))
primary_apart x y k e lacks same = (λ t. never t, λ h. absurd (lacks (ap (λ n. nat_eq n k) (sym (primary_kept x y h) ∙ e) ∙ same)))

primary_no_Table : (p : Primary-F Expr Primary Term FromItem Joined Query Select) → ((f0 : Name) (f1 : Option Name) (f2 : Option (Turned Expr)) (f3 : ℕ) → roll-Primary p ≡ primary.Table f0 f1 f2 f3 → ⊥) → nat_eq (primary_kind p) 0 ≡ true → ⊥
primary_no_Table (ast.Table f0 f1 f2 f3) lacks h = lacks f0 f1 f2 f3 (ap roll-Primary (sym (primary.outs-Table f0 f1 f2 f3)) ∙ roll-out-Primary (primary.Table f0 f1 f2 f3))
primary_no_Table _ lacks h = never h

pub primary_only_Table : (x y : Primary) (f0 : Name) (f1 : Option Name) (f2 : Option (Turned Expr)) (f3 : ℕ) → x ≡ primary.Table f0 f1 f2 f3 → ((g0 : Name) (g1 : Option Name) (g2 : Option (Turned Expr)) (g3 : ℕ) → y ≡ primary.Table g0 g1 g2 g3 → ⊥) → (IsTrue false ↔ (BarePrimary lower x ≡ BarePrimary lower y))
primary_only_Table x y f0 f1 f2 f3 e lacks =
    primary_apart x y 0 (ap (λ z. primary_kind (out-Primary z)) e ∙ ap primary_kind (primary.outs-Table f0 f1 f2 f3)) (primary_no_Table (out-Primary y) (λ g0 g1 g2 g3 h. lacks g0 g1 g2 g3 (sym (roll-out-Primary y) ∙ h))) refl

primary_no_Query : (p : Primary-F Expr Primary Term FromItem Joined Query Select) → ((f0 : Query) (f1 : Option Name) (f2 : Option (Turned Expr)) (f3 : ℕ) → roll-Primary p ≡ primary.Query f0 f1 f2 f3 → ⊥) → nat_eq (primary_kind p) 1 ≡ true → ⊥
primary_no_Query (Primary-F.«Primary::Query» f0 f1 f2 f3) lacks h = lacks f0 f1 f2 f3 (ap roll-Primary (sym (primary.outs-Query f0 f1 f2 f3)) ∙ roll-out-Primary (primary.Query f0 f1 f2 f3))
primary_no_Query _ lacks h = never h

pub primary_only_Query : (x y : Primary) (f0 : Query) (f1 : Option Name) (f2 : Option (Turned Expr)) (f3 : ℕ) → x ≡ primary.Query f0 f1 f2 f3 → ((g0 : Query) (g1 : Option Name) (g2 : Option (Turned Expr)) (g3 : ℕ) → y ≡ primary.Query g0 g1 g2 g3 → ⊥) → (IsTrue false ↔ (BarePrimary lower x ≡ BarePrimary lower y))
primary_only_Query x y f0 f1 f2 f3 e lacks =
    primary_apart x y 1 (ap (λ z. primary_kind (out-Primary z)) e ∙ ap primary_kind (primary.outs-Query f0 f1 f2 f3)) (primary_no_Query (out-Primary y) (λ g0 g1 g2 g3 h. lacks g0 g1 g2 g3 (sym (roll-out-Primary y) ∙ h))) refl

primary_no_Path : (p : Primary-F Expr Primary Term FromItem Joined Query Select) → ((f0 : List Name) (f1 : Option Name) (f2 : Option WithOffset) (f3 : ℕ) → roll-Primary p ≡ primary.Path f0 f1 f2 f3 → ⊥) → nat_eq (primary_kind p) 2 ≡ true → ⊥
primary_no_Path (ast.Path f0 f1 f2 f3) lacks h = lacks f0 f1 f2 f3 (ap roll-Primary (sym (primary.outs-Path f0 f1 f2 f3)) ∙ roll-out-Primary (primary.Path f0 f1 f2 f3))
primary_no_Path _ lacks h = never h

pub primary_only_Path : (x y : Primary) (f0 : List Name) (f1 : Option Name) (f2 : Option WithOffset) (f3 : ℕ) → x ≡ primary.Path f0 f1 f2 f3 → ((g0 : List Name) (g1 : Option Name) (g2 : Option WithOffset) (g3 : ℕ) → y ≡ primary.Path g0 g1 g2 g3 → ⊥) → (IsTrue false ↔ (BarePrimary lower x ≡ BarePrimary lower y))
primary_only_Path x y f0 f1 f2 f3 e lacks =
    primary_apart x y 2 (ap (λ z. primary_kind (out-Primary z)) e ∙ ap primary_kind (primary.outs-Path f0 f1 f2 f3)) (primary_no_Path (out-Primary y) (λ g0 g1 g2 g3 h. lacks g0 g1 g2 g3 (sym (roll-out-Primary y) ∙ h))) refl

primary_no_Unnest : (p : Primary-F Expr Primary Term FromItem Joined Query Select) → ((f0 : Expr) (f1 : Option Name) (f2 : Option WithOffset) (f3 : ℕ) → roll-Primary p ≡ primary.Unnest f0 f1 f2 f3 → ⊥) → nat_eq (primary_kind p) 3 ≡ true → ⊥
primary_no_Unnest (ast.Unnest f0 f1 f2 f3) lacks h = lacks f0 f1 f2 f3 (ap roll-Primary (sym (primary.outs-Unnest f0 f1 f2 f3)) ∙ roll-out-Primary (primary.Unnest f0 f1 f2 f3))
primary_no_Unnest _ lacks h = never h

pub primary_only_Unnest : (x y : Primary) (f0 : Expr) (f1 : Option Name) (f2 : Option WithOffset) (f3 : ℕ) → x ≡ primary.Unnest f0 f1 f2 f3 → ((g0 : Expr) (g1 : Option Name) (g2 : Option WithOffset) (g3 : ℕ) → y ≡ primary.Unnest g0 g1 g2 g3 → ⊥) → (IsTrue false ↔ (BarePrimary lower x ≡ BarePrimary lower y))
primary_only_Unnest x y f0 f1 f2 f3 e lacks =
    primary_apart x y 3 (ap (λ z. primary_kind (out-Primary z)) e ∙ ap primary_kind (primary.outs-Unnest f0 f1 f2 f3)) (primary_no_Unnest (out-Primary y) (λ g0 g1 g2 g3 h. lacks g0 g1 g2 g3 (sym (roll-out-Primary y) ∙ h))) refl

-- ---- term

outs_term : (x y : Term) → out-Term x ≡ out-Term y → x ≡ y
outs_term x y e = sym (roll-out-Term x) ∙ ap roll-Term e ∙ roll-out-Term y

-- two of known constructs
pub term_by : (b : Bool) (x y : Term) (p q : Term-F Expr Primary Term FromItem Joined Query Select) → out-Term x ≡ p → out-Term y ≡ q → (IsTrue b ↔ (term_at lower p ≡ term_at lower q)) → (IsTrue b ↔ (BareTerm lower x ≡ BareTerm lower y))
term_by b x y p q ex ey h =
    let left : out-Term (BareTerm lower x) ≡ term_at lower p = bare_term lower x ∙ ap (term_at lower) ex in
    let right : out-Term (BareTerm lower y) ≡ term_at lower q = bare_term lower y ∙ ap (term_at lower) ey in
    (λ t. outs_term (BareTerm lower x) (BareTerm lower y) (left ∙ h.0 t ∙ sym right), λ e. h.1 (sym left ∙ ap out-Term e ∙ right))

-- which construct it is
abbrev term_kind : Term-F Expr Primary Term FromItem Joined Query Select → ℕ
term_kind (Term-F.Select select) = 0
term_kind (Term-F.«Term::Query» query place) = 1

term_kind_at : (p : Term-F Expr Primary Term FromItem Joined Query Select) → term_kind (term_at lower p) ≡ term_kind p
term_kind_at (Term-F.Select select) = refl
term_kind_at (Term-F.«Term::Query» query place) = refl

term_kept : (x y : Term) → BareTerm lower x ≡ BareTerm lower y → term_kind (out-Term x) ≡ term_kind (out-Term y)
term_kept x y e =
    sym (ap term_kind (bare_term lower x) ∙ term_kind_at (out-Term x))
    ∙ ap (λ z. term_kind (out-Term z)) e ∙ ap term_kind (bare_term lower y) ∙ term_kind_at (out-Term y)

-- two of which only one is of this kind
term_apart : (x y : Term) (k : ℕ) → term_kind (out-Term x) ≡ k → (nat_eq (term_kind (out-Term y)) k ≡ true → ⊥) → nat_eq k k ≡ true → (IsTrue false ↔ (BareTerm lower x ≡ BareTerm lower y))
term_apart x y k e lacks same = (λ t. never t, λ h. absurd (lacks (ap (λ n. nat_eq n k) (sym (term_kept x y h) ∙ e) ∙ same)))

term_no_Select : (p : Term-F Expr Primary Term FromItem Joined Query Select) → ((f0 : Select) → roll-Term p ≡ term.Select f0 → ⊥) → nat_eq (term_kind p) 0 ≡ true → ⊥
term_no_Select (Term-F.Select f0) lacks h = lacks f0 (ap roll-Term (sym (term.outs-Select f0)) ∙ roll-out-Term (term.Select f0))
term_no_Select _ lacks h = never h

pub term_only_Select : (x y : Term) (f0 : Select) → x ≡ term.Select f0 → ((g0 : Select) → y ≡ term.Select g0 → ⊥) → (IsTrue false ↔ (BareTerm lower x ≡ BareTerm lower y))
term_only_Select x y f0 e lacks =
    term_apart x y 0 (ap (λ z. term_kind (out-Term z)) e ∙ ap term_kind (term.outs-Select f0)) (term_no_Select (out-Term y) (λ g0 h. lacks g0 (sym (roll-out-Term y) ∙ h))) refl

term_no_Query : (p : Term-F Expr Primary Term FromItem Joined Query Select) → ((f0 : Query) (f1 : ℕ) → roll-Term p ≡ term.Query f0 f1 → ⊥) → nat_eq (term_kind p) 1 ≡ true → ⊥
term_no_Query (Term-F.«Term::Query» f0 f1) lacks h = lacks f0 f1 (ap roll-Term (sym (term.outs-Query f0 f1)) ∙ roll-out-Term (term.Query f0 f1))
term_no_Query _ lacks h = never h

pub term_only_Query : (x y : Term) (f0 : Query) (f1 : ℕ) → x ≡ term.Query f0 f1 → ((g0 : Query) (g1 : ℕ) → y ≡ term.Query g0 g1 → ⊥) → (IsTrue false ↔ (BareTerm lower x ≡ BareTerm lower y))
term_only_Query x y f0 f1 e lacks =
    term_apart x y 1 (ap (λ z. term_kind (out-Term z)) e ∙ ap term_kind (term.outs-Query f0 f1)) (term_no_Query (out-Term y) (λ g0 g1 h. lacks g0 g1 (sym (roll-out-Term y) ∙ h))) refl

-- ---- from

outs_from : (x y : FromItem) → out-FromItem x ≡ out-FromItem y → x ≡ y
outs_from x y e = sym (roll-out-FromItem x) ∙ ap roll-FromItem e ∙ roll-out-FromItem y

-- two of known constructs
pub from_by : (b : Bool) (x y : FromItem) (p q : FromItem-F Expr Primary Term FromItem Joined Query Select) → out-FromItem x ≡ p → out-FromItem y ≡ q → (IsTrue b ↔ (from_at lower p ≡ from_at lower q)) → (IsTrue b ↔ (BareFrom lower x ≡ BareFrom lower y))
from_by b x y p q ex ey h =
    let left : out-FromItem (BareFrom lower x) ≡ from_at lower p = bare_from lower x ∙ ap (from_at lower) ex in
    let right : out-FromItem (BareFrom lower y) ≡ from_at lower q = bare_from lower y ∙ ap (from_at lower) ey in
    (λ t. outs_from (BareFrom lower x) (BareFrom lower y) (left ∙ h.0 t ∙ sym right), λ e. h.1 (sym left ∙ ap out-FromItem e ∙ right))

-- ---- joined

outs_joined : (x y : Joined) → out-Joined x ≡ out-Joined y → x ≡ y
outs_joined x y e = sym (roll-out-Joined x) ∙ ap roll-Joined e ∙ roll-out-Joined y

-- two of known constructs
pub joined_by : (b : Bool) (x y : Joined) (p q : Joined-F Expr Primary Term FromItem Joined Query Select) → out-Joined x ≡ p → out-Joined y ≡ q → (IsTrue b ↔ (joined_at lower p ≡ joined_at lower q)) → (IsTrue b ↔ (BareJoined lower x ≡ BareJoined lower y))
joined_by b x y p q ex ey h =
    let left : out-Joined (BareJoined lower x) ≡ joined_at lower p = bare_joined lower x ∙ ap (joined_at lower) ex in
    let right : out-Joined (BareJoined lower y) ≡ joined_at lower q = bare_joined lower y ∙ ap (joined_at lower) ey in
    (λ t. outs_joined (BareJoined lower x) (BareJoined lower y) (left ∙ h.0 t ∙ sym right), λ e. h.1 (sym left ∙ ap out-Joined e ∙ right))

-- ---- query

outs_query : (x y : Query) → out-Query x ≡ out-Query y → x ≡ y
outs_query x y e = sym (roll-out-Query x) ∙ ap roll-Query e ∙ roll-out-Query y

-- two of known constructs
pub query_by : (b : Bool) (x y : Query) (p q : Query-F Expr Primary Term FromItem Joined Query Select) → out-Query x ≡ p → out-Query y ≡ q → (IsTrue b ↔ (query_at lower p ≡ query_at lower q)) → (IsTrue b ↔ (BareQuery lower x ≡ BareQuery lower y))
query_by b x y p q ex ey h =
    let left : out-Query (BareQuery lower x) ≡ query_at lower p = bare_query lower x ∙ ap (query_at lower) ex in
    let right : out-Query (BareQuery lower y) ≡ query_at lower q = bare_query lower y ∙ ap (query_at lower) ey in
    (λ t. outs_query (BareQuery lower x) (BareQuery lower y) (left ∙ h.0 t ∙ sym right), λ e. h.1 (sym left ∙ ap out-Query e ∙ right))

-- ---- select

outs_select : (x y : Select) → out-Select x ≡ out-Select y → x ≡ y
outs_select x y e = sym (roll-out-Select x) ∙ ap roll-Select e ∙ roll-out-Select y

-- two of known constructs
pub select_by : (b : Bool) (x y : Select) (p q : Select-F Expr Primary Term FromItem Joined Query Select) → out-Select x ≡ p → out-Select y ≡ q → (IsTrue b ↔ (select_at lower p ≡ select_at lower q)) → (IsTrue b ↔ (BareSelect lower x ≡ BareSelect lower y))
select_by b x y p q ex ey h =
    let left : out-Select (BareSelect lower x) ≡ select_at lower p = bare_select lower x ∙ ap (select_at lower) ex in
    let right : out-Select (BareSelect lower y) ≡ select_at lower q = bare_select lower y ∙ ap (select_at lower) ey in
    (λ t. outs_select (BareSelect lower x) (BareSelect lower y) (left ∙ h.0 t ∙ sym right), λ e. h.1 (sym left ∙ ap out-Select e ∙ right))
