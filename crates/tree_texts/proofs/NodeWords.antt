-- The kinds of nodes: the word of each, and of which sorts its fields are.
use Rattle.std.proofs.Common.{◌≡◌, ℕ, true, false, ◌==◌, if◌then◌else◌, List, [], ◌∷◌, ◌++◌, codes, refl, ap, sym, ◌∙◌}
use Rattle.std.specs.List.{list_all}
use Rattle.std.specs.Str.{bytes_eq}
use Rattle.sql_names.specs.Spelling.{is_inner}
use Rattle.sql_texts.proofs.Numbers.{first_of}

pub data Kind : Type 0 where
  Literal : Kind
  Parameter : Kind
  Column : Kind
  Outer : Kind
  Call : Kind
  SafeCall : Kind
  Cast : Kind
  SafeCast : Kind
  If : Kind
  Case : Kind
  Coalesce : Kind
  And : Kind
  Or : Kind
  IfError : Kind
  IsError : Kind
  NullIfError : Kind
  Raise : Kind
  InList : Kind
  InArray : Kind
  Let : Kind
  MakeArray : Kind
  MakeStruct : Kind
  Field : Kind
  Index : Kind
  Scalar : Kind
  ArrayOf : Kind
  Exists : Kind
  InQuery : Kind
  Single : Kind
  Table : Kind
  With : Kind
  CteRef : Kind
  Unnest : Kind
  Join : Kind
  Filter : Kind
  Project : Kind
  Compute : Kind
  Cte : Kind
  Output : Kind

abbrev pub word_of : Kind → List ℕ
word_of Literal = codes "Literal"
word_of Parameter = codes "Parameter"
word_of Column = codes "Column"
word_of Outer = codes "Outer"
word_of Call = codes "Call"
word_of SafeCall = codes "SafeCall"
word_of Cast = codes "Cast"
word_of SafeCast = codes "SafeCast"
word_of If = codes "If"
word_of Case = codes "Case"
word_of Coalesce = codes "Coalesce"
word_of And = codes "And"
word_of Or = codes "Or"
word_of IfError = codes "IfError"
word_of IsError = codes "IsError"
word_of NullIfError = codes "NullIfError"
word_of Raise = codes "Raise"
word_of InList = codes "InList"
word_of InArray = codes "InArray"
word_of Let = codes "Let"
word_of MakeArray = codes "MakeArray"
word_of MakeStruct = codes "MakeStruct"
word_of Field = codes "Field"
word_of Index = codes "Index"
word_of Scalar = codes "Scalar"
word_of ArrayOf = codes "ArrayOf"
word_of Exists = codes "Exists"
word_of InQuery = codes "InQuery"
word_of Single = codes "Single"
word_of Table = codes "Table"
word_of With = codes "With"
word_of CteRef = codes "CteRef"
word_of Unnest = codes "Unnest"
word_of Join = codes "Join"
word_of Filter = codes "Filter"
word_of Project = codes "Project"
word_of Compute = codes "Compute"
word_of Cte = codes "Cte"
word_of Output = codes "Output"

-- the sorts of the fields, by their numbers
abbrev pub sorts_of : Kind → List ℕ
sorts_of Literal = 0 ∷ []
sorts_of Parameter = 1 ∷ 2 ∷ []
sorts_of Column = 5 ∷ 2 ∷ []
sorts_of Outer = 5 ∷ 2 ∷ []
sorts_of Call = 3 ∷ 2 ∷ []
sorts_of SafeCall = 3 ∷ 2 ∷ []
sorts_of Cast = 2 ∷ []
sorts_of SafeCast = 2 ∷ []
sorts_of If = 2 ∷ []
sorts_of Case = 2 ∷ []
sorts_of Coalesce = 2 ∷ []
sorts_of And = 2 ∷ []
sorts_of Or = 2 ∷ []
sorts_of IfError = 2 ∷ []
sorts_of IsError = 2 ∷ []
sorts_of NullIfError = 2 ∷ []
sorts_of Raise = 2 ∷ []
sorts_of InList = []
sorts_of InArray = []
sorts_of Let = 2 ∷ []
sorts_of MakeArray = 2 ∷ []
sorts_of MakeStruct = 2 ∷ []
sorts_of Field = 4 ∷ 2 ∷ []
sorts_of Index = 3 ∷ 2 ∷ []
sorts_of Scalar = 2 ∷ 5 ∷ 6 ∷ []
sorts_of ArrayOf = 2 ∷ 5 ∷ 6 ∷ []
sorts_of Exists = 2 ∷ 6 ∷ []
sorts_of InQuery = 2 ∷ 5 ∷ 6 ∷ []
sorts_of Single = []
sorts_of Table = 1 ∷ 9 ∷ []
sorts_of With = []
sorts_of CteRef = 4 ∷ 9 ∷ []
sorts_of Unnest = 3 ∷ 7 ∷ 8 ∷ []
sorts_of Join = 3 ∷ []
sorts_of Filter = []
sorts_of Project = 6 ∷ []
sorts_of Compute = 7 ∷ []
sorts_of Cte = 4 ∷ 6 ∷ []
sorts_of Output = 10 ∷ []

-- the kind of a word
abbrev kind_of : List ℕ → Kind
kind_of w =
    if bytes_eq w (codes "Literal") then Literal else if bytes_eq w (codes "Parameter") then Parameter else if bytes_eq w (codes "Column") then Column else
    if bytes_eq w (codes "Outer") then Outer else if bytes_eq w (codes "Call") then Call else if bytes_eq w (codes "SafeCall") then SafeCall else
    if bytes_eq w (codes "Cast") then Cast else if bytes_eq w (codes "SafeCast") then SafeCast else if bytes_eq w (codes "If") then If else
    if bytes_eq w (codes "Case") then Case else if bytes_eq w (codes "Coalesce") then Coalesce else if bytes_eq w (codes "And") then And else
    if bytes_eq w (codes "Or") then Or else if bytes_eq w (codes "IfError") then IfError else if bytes_eq w (codes "IsError") then IsError else
    if bytes_eq w (codes "NullIfError") then NullIfError else if bytes_eq w (codes "Raise") then Raise else if bytes_eq w (codes "InList") then InList else
    if bytes_eq w (codes "InArray") then InArray else if bytes_eq w (codes "Let") then Let else if bytes_eq w (codes "MakeArray") then MakeArray else
    if bytes_eq w (codes "MakeStruct") then MakeStruct else if bytes_eq w (codes "Field") then Field else if bytes_eq w (codes "Index") then Index else
    if bytes_eq w (codes "Scalar") then Scalar else if bytes_eq w (codes "ArrayOf") then ArrayOf else if bytes_eq w (codes "Exists") then Exists else
    if bytes_eq w (codes "InQuery") then InQuery else if bytes_eq w (codes "Single") then Single else if bytes_eq w (codes "Table") then Table else
    if bytes_eq w (codes "With") then With else if bytes_eq w (codes "CteRef") then CteRef else if bytes_eq w (codes "Unnest") then Unnest else
    if bytes_eq w (codes "Join") then Join else if bytes_eq w (codes "Filter") then Filter else if bytes_eq w (codes "Project") then Project else
    if bytes_eq w (codes "Compute") then Compute else if bytes_eq w (codes "Cte") then Cte else
    Output

named : (k : Kind) → kind_of (word_of k) ≡ k
named Literal = refl
named _ = refl

-- no two kinds have one word
pub word_tells : (k l : Kind) → word_of k ≡ word_of l → k ≡ l
word_tells k l same = sym (named k) ∙ ap kind_of same ∙ named l

pub word_run : (k : Kind) → list_all is_inner (word_of k) ≡ true
word_run Literal = refl
word_run _ = refl

-- a word begins with no space
pub word_first : (k : Kind) (r : List ℕ) → (first_of (word_of k ++ r) == 32) ≡ false
word_first Literal r = refl
word_first _ r = refl
