-- Footers that say that the file, or a part of it, is encrypted (Parquet format, "Parquet Modular Encryption").
use Rattle.std.specs.Prelude.{◌≢◌, ◌⊎◌, ℕ, Option, Some, None}
use Rattle.pq_thrift.specs.Value.{Value, list, struct, Values, no_values, value}
use Rattle.pq_metadata.specs.Ids.{get}

-- it holds of some value of the list
abbrev pub AnyValue : (Value → Type 0) → Values → Type 0
AnyValue P no_values = ⊥
AnyValue P (value v vs) = P v ⊎ AnyValue P vs

-- it holds of some value of the list that stands there
abbrev pub Any : (Value → Type 0) → Option Value → Type 0
Any P (Some (list kind vs)) = AnyValue P vs
Any P v = ⊥

abbrev pub HasId : ℕ → Value → Type 0
HasId id (struct fs) = get id fs ≢ None
HasId id v = ⊥

-- a column's key metadata, or its encrypted metadata
abbrev pub IsEncryptedChunk : Value → Type 0
IsEncryptedChunk v = HasId 8 v ⊎ HasId 9 v

abbrev pub HasEncryptedChunk : Value → Type 0
HasEncryptedChunk (struct fs) = Any IsEncryptedChunk (get 1 fs)
HasEncryptedChunk v = ⊥

abbrev pub SaysEncrypted : Value → Type 0
SaysEncrypted (struct fs) = (get 8 fs ≢ None) ⊎ Any HasEncryptedChunk (get 4 fs)
SaysEncrypted v = ⊥
