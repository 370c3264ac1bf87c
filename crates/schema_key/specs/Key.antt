-- The key under which a file carries its Arrow schema, and the text that stands there.
use Rattle.std.specs.Prelude.{ℕ, List, [], ◌∷◌, ◌++◌, length, drop, map, slice_index, codes, Bool, nat_lt, ◌==◌, ◌&&◌, Option, Some, None, option_and_then, option_map, if◌then◌else◌, Vec}
use Rattle.std.specs.Result.{result_ok}
use Rattle.std.specs.Int.{w32, to_le_bytes}
use Rattle.std.specs.Global.{Global}
use Rattle.base64.specs.Engines.{standard}
use Rattle.base64.specs.GeneralPurpose.{encode_of, decode_of}
use Rattle.columns_core.specs.View.{SchemaTree}
use Rattle.pq_tree.specs.Footers.{Key}
use Rattle.pq_tree.specs.Views.{key_view}
use Rattle.pq_tree.specs.declared.types.KeyValue.{KeyValue}

-- `ARROW:schema`
abbrev pub schema_key : List ℕ
schema_key = codes "ARROW:schema"

-- ---- what is written

-- ff ff ff ff, the length in four bytes, the lowest first, and the bytes (Arrow IPC format, "Encapsulated message format")
abbrev pub message : List ℕ → List ℕ
message bytes = 255 ∷ 255 ∷ 255 ∷ 255 ∷ (to_le_bytes w32 (length bytes) ++ bytes)

-- its base64, in the standard alphabet with padding (RFC 4648)
unfoldable pub value_of : List ℕ → List ℕ
value_of bytes = encode_of standard (message bytes)

-- the pair for a schema of these bytes
abbrev pub schema_entry : List ℕ → Key
schema_entry bytes = record { key = schema_key; «value» = Some (value_of bytes) }

-- the pairs of a footer, none where there is no list of them
abbrev pub keys_in : Option (Vec KeyValue Global) → List Key
keys_in None = []
keys_in (Some entries) = map key_view entries.items

-- ---- what is read

-- ff ff ff ff stands in front
abbrev pub is_marked : List ℕ → Bool
is_marked bytes = (slice_index bytes 0 == 255) && (slice_index bytes 1 == 255) && (slice_index bytes 2 == 255) && (slice_index bytes 3 == 255)

-- The bytes of the schema: behind the mark and the length, where the mark stands, else all of them. None where there
-- are fewer than four, or fewer than eight and the mark stands.
unfoldable pub unframed : List ℕ → Option (List ℕ)
unframed bytes =
    if nat_lt (length bytes) 4 then None
    else if is_marked bytes then (if nat_lt (length bytes) 8 then None else Some (drop 8 bytes))
    else Some bytes

-- the bytes of a base64 text, none where it is no such text
unfoldable pub decoded : List ℕ → Option (List ℕ)
decoded text = result_ok (decode_of standard text)

-- the schema that a text under the key stands for, none where it stands for none
abbrev pub schema_in : (List ℕ → Option SchemaTree) → List ℕ → Option SchemaTree
schema_in reads text = option_and_then (λ bytes. option_and_then reads (unframed bytes)) (decoded text)

-- The schema under the key, if the key is there. The outer None is a key that stands for no schema.
abbrev pub schema_under : (List ℕ → Option SchemaTree) → Option (List ℕ) → Option (Option SchemaTree)
schema_under reads None = Some None
schema_under reads (Some text) = option_map Some (schema_in reads text)
