-- What a hash is fed of a value, one level at a time.
use Rattle.std.proofs.Common.{◌≡◌, ℕ, List, [], ◌∷◌, ◌++◌, map, fold, length, refl, ap, sym, ◌∙◌}
use Rattle.std.specs.List.{flat_map}
use Rattle.std.specs.Hash as fed
use Rattle.std.specs.Hash.{HashWrites}
use Rattle.std.proofs.lemmas.List.{length-map}
use Rattle.sql_types.specs.declared.value.Value.{Value, map-Value, out-Value, roll-out-Value, fold-roll-Value}
use Rattle.sql_types.specs.declared.value.Value.TheOpen as v
use Rattle.key_classes.specs.Fed.{fed_parts, fed_layer, fed_value, fed_values}

-- the parts stand as they are
abbrev pub fed_at : v.Value-F Value → HashWrites
fed_at (v.Array elements) = fed.u8 7 ++ fed_values elements
fed_at (v.Struct fields) = fed.u8 8 ++ fed_values fields
fed_at x = fed_layer (map-Value Value HashWrites fed_value x)

parts_in_turn : (xs : List Value) → flat_map (λ (part : HashWrites). part) (map fed_value xs) ≡ flat_map fed_value xs
parts_in_turn [] = refl
parts_in_turn (x ∷ xs) = ap (λ (z : HashWrites). fed_value x ++ z) (parts_in_turn xs)

parts_fed : (xs : List Value) → fed_parts (map fed_value xs) ≡ fed_values xs
parts_fed xs = ap (λ n. fed.usize n ++ flat_map (λ (part : HashWrites). part) (map fed_value xs)) (length-map xs fed_value) ∙ ap (λ (z : HashWrites). fed.usize (length xs) ++ z) (parts_in_turn xs)

moved : (x : v.Value-F Value) → fed_layer (map-Value Value HashWrites fed_value x) ≡ fed_at x
moved (v.Array xs) = ap (λ (z : HashWrites). fed.u8 7 ++ z) (parts_fed xs)
moved (v.Struct xs) = ap (λ (z : HashWrites). fed.u8 8 ++ z) (parts_fed xs)
moved _ = refl

pub fed_opens : (x : Value) → fed_value x ≡ fed_at (out-Value x)
unfolding fed_value
fed_opens x = ap fed_value (sym (roll-out-Value x)) ∙ fold-roll-Value HashWrites fed_layer (out-Value x) ∙ moved (out-Value x)

pub fed_by : (x : Value) (parts : v.Value-F Value) → out-Value x ≡ parts → fed_value x ≡ fed_at parts
fed_by x parts e = fed_opens x ∙ ap fed_at e

-- a value is fed where its kind is, and then what it holds
pub fed_in : {S : Type 0} (write : S → List ℕ → S) (s t u : S) (x : Value) (parts : v.Value-F Value) (kind held : HashWrites)
    → out-Value x ≡ parts → fed_at parts ≡ kind ++ held → t ≡ fold write s kind → u ≡ fold write t held → u ≡ fold write s (fed_value x)
fed_in write s t u x parts kind held is are first then =
    fed.fed_along write s u (sym (fed_by x parts is ∙ are)) (fed.fed_then write s t u kind held first then)
