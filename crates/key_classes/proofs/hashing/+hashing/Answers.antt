-- The kind of a value is written, and then what it holds.
use Rattle.std.proofs.Common.{[], ◌∷◌, fold, refl, ap, sym, ◌∙◌}
use Rattle.std.specs.Hash as fed
use Rattle.sql_types.specs.declared.value.Value.{out-Value}
use Rattle.sql_types.specs.declared.value.Value.TheVariants as value
use Rattle.sql_types.specs.declared.value.Value.TheOpen as part
use Rattle.key_classes.specs.Fed.{fed_values}
use Rattle.key_classes.proofs.FedLaws.{fed_in, fed_by}
use Rattle.key_classes.proofs.hashing.+hashing.Goals as goal

pub hash_value-returns-in-Null : goal.hash_value-returns-in-Null
hash_value-returns-in-Null g t c = fed.fed_along g.H.Hasher.write _ _ (sym (fed_by _ part.Null (ap out-Value c.in-Null.is ∙ value.outs-Null))) c.write_u8.ensures

pub hash_value-returns-in-Bool : goal.hash_value-returns-in-Bool
hash_value-returns-in-Bool g t c =
    fed_in g.H.Hasher.write _ _ _ _ (part.Bool c.in-Bool.truth) (fed.u8 1) (fed.bool c.in-Bool.truth) (ap out-Value c.in-Bool.is ∙ value.outs-Bool c.in-Bool.truth) refl c.write_u8-in-Bool.ensures c.hash.ensures

pub hash_value-returns-in-Int : goal.hash_value-returns-in-Int
hash_value-returns-in-Int g t c =
    fed_in g.H.Hasher.write _ _ _ _ (part.Int c.in-Int.number) (fed.u8 2) (fed.i64 c.in-Int.number) (ap out-Value c.in-Int.is ∙ value.outs-Int c.in-Int.number) refl c.write_u8-in-Int.ensures c.hash-in-Int.ensures

pub hash_value-returns-in-Uint : goal.hash_value-returns-in-Uint
hash_value-returns-in-Uint g t c =
    fed_in g.H.Hasher.write _ _ _ _ (part.Uint c.in-Uint.number) (fed.u8 3) (fed.u64 c.in-Uint.number) (ap out-Value c.in-Uint.is ∙ value.outs-Uint c.in-Uint.number) refl c.write_u8-in-Uint.ensures c.hash-in-Uint.ensures

pub hash_value-returns-in-Text : goal.hash_value-returns-in-Text
hash_value-returns-in-Text g t c =
    fed_in g.H.Hasher.write _ _ _ _ (part.Text c.in-Text.text) (fed.u8 4) (c.in-Text.text ∷ []) (ap out-Value c.in-Text.is ∙ value.outs-Text c.in-Text.text) refl c.write_u8-in-Text.ensures
    (c.write.ensures ∙ ap (g.H.Hasher.write c.write_u8-in-Text.new.self) c.as_bytes.ensures.bytes)

pub hash_value-returns-in-Bytes : goal.hash_value-returns-in-Bytes
hash_value-returns-in-Bytes g t c =
    fed_in g.H.Hasher.write _ _ _ _ (part.Bytes c.in-Bytes.bytes) (fed.u8 5) (c.in-Bytes.bytes ∷ []) (ap out-Value c.in-Bytes.is ∙ value.outs-Bytes c.in-Bytes.bytes) refl c.write_u8-in-Bytes.ensures
    (c.write-in-Bytes.ensures ∙ ap (g.H.Hasher.write c.write_u8-in-Bytes.new.self) c.as_slice.ensures)

pub hash_value-returns-in-Date : goal.hash_value-returns-in-Date
hash_value-returns-in-Date g t c =
    fed_in g.H.Hasher.write _ _ _ _ (part.Date c.in-Date.day) (fed.u8 6) (fed.i32 c.in-Date.day) (ap out-Value c.in-Date.is ∙ value.outs-Date c.in-Date.day) refl c.write_u8-in-Date.ensures c.hash-in-Date.ensures

pub hash_value-returns-in-Array : goal.hash_value-returns-in-Array
hash_value-returns-in-Array g t c =
    fed_in g.H.Hasher.write _ _ _ _ (part.Array c.in-Array.elements) (fed.u8 7) (fed_values c.in-Array.elements) (ap out-Value c.in-Array.is ∙ value.outs-Array c.in-Array.elements) refl c.write_u8-in-Array.ensures
    (c.hash_values.ensures ∙ ap (λ z. fold g.H.Hasher.write c.write_u8-in-Array.new.self (fed_values z)) c.as_slice-in-Array.ensures)

pub hash_value-returns-in-Struct : goal.hash_value-returns-in-Struct
hash_value-returns-in-Struct g t c =
    fed_in g.H.Hasher.write _ _ _ _ (part.Struct c.in-Struct.fields) (fed.u8 8) (fed_values c.in-Struct.fields) (ap out-Value c.in-Struct.is ∙ value.outs-Struct c.in-Struct.fields) refl c.write_u8-in-Struct.ensures
    (c.hash_values-in-Struct.ensures ∙ ap (λ z. fold g.H.Hasher.write c.write_u8-in-Struct.new.self (fed_values z)) c.as_slice-in-Struct.ensures)
