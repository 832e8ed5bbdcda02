-- The values of JSON, over the lists that hold them.
use Rattle.std.proofs.Common.{◌≡◌, ◌≢◌, ℕ, suc, Bool, true, false, List, [], ◌∷◌, length, Some, None, if◌then◌else◌, ap, refl, arith}
use Rattle.std.proofs.lemmas.Str.{is_utf8-from_IsUtf8, IsUtf8-from_is_utf8}
use Rattle.std.specs.Prelude.{String, ◌==◌}
use Rattle.std.specs.Str.{is_utf8, IsUtf8}
use Rattle.std.specs.declared.alloc.Global.{Global}
use Rattle.serde_json.specs.Data.{Data}
use Rattle.serde_json.specs.Read.{read}
use Rattle.serde_json.specs.View.{items_view, members_view}
use Rattle.serde_json.specs.declared.value.Value.{Value}
use Rattle.small_catalog.specs.Catalogs.{json_of, member_count, is_empty, only_item}

pub count-members_view : (members : List (String Global × Value)) → member_count (members_view members) ≡ length members
count-members_view [] = refl
count-members_view (m ∷ members) = ap suc (count-members_view members)

pub is_empty-items_view : (items : List Value) → is_empty (items_view items) ≡ (length items == 0)
is_empty-items_view [] = refl
is_empty-items_view (x ∷ items) = grind arith

-- JSON is UTF-8
pub json_of-read : (bytes : List ℕ) (value : Data) → IsUtf8 bytes → read bytes ≡ Some value → json_of bytes ≡ Some value
json_of-read bytes value utf8 is = rw (is_utf8-from_IsUtf8 bytes utf8) is

json-by : (bytes : List ℕ) (b : Bool) → is_utf8 bytes ≡ b → (IsUtf8 bytes → read bytes ≡ None) → (if b then read bytes else None) ≡ None
json-by bytes true test none = none (IsUtf8-from_is_utf8 bytes test)
json-by bytes false test none = refl

pub json_of-none : (bytes : List ℕ) → (IsUtf8 bytes → read bytes ≡ None) → json_of bytes ≡ None
json_of-none bytes none = json-by bytes (is_utf8 bytes) refl none

-- a list of another length has no one item
pub only_item-none : (items : List Value) → length items ≢ 1 → only_item (items_view items) ≡ None
only_item-none [] other = refl
only_item-none (x ∷ []) other = absurd (other refl)
only_item-none (x ∷ y ∷ items) other = refl
