-- What a Thrift value holds, where it is of the kind.
use Rattle.std.specs.Prelude.{◌≡◌, ℕ, ℤ, List, Bool, Option, Some, None, IfSome, IsUtf8}
use Rattle.pq_thrift.specs.Value.{Value, truth, int8, int16, int32, int64, binary, list, struct, Values, Fields}
use Rattle.pq_metadata.specs.Ids.{get, Holds}

abbrev pub truth_in : Value → Option Bool
truth_in (truth b) = Some b
truth_in _ = None

abbrev pub int8_in : Value → Option ℤ
int8_in (int8 z) = Some z
int8_in _ = None

abbrev pub int16_in : Value → Option ℤ
int16_in (int16 z) = Some z
int16_in _ = None

abbrev pub int32_in : Value → Option ℤ
int32_in (int32 z) = Some z
int32_in _ = None

abbrev pub int64_in : Value → Option ℤ
int64_in (int64 z) = Some z
int64_in _ = None

abbrev pub binary_in : Value → Option (List ℕ)
binary_in (binary s) = Some s
binary_in _ = None

abbrev pub list_in : Value → Option Values
list_in (list kind vs) = Some vs
list_in _ = None

abbrev pub struct_in : Value → Option Fields
struct_in (struct fs) = Some fs
struct_in _ = None

-- ---- fields

-- The last field with the id is a list of these values, whatever kind it states for them.
abbrev pub HasList : ℕ → Fields → Values → Type 0
HasList id fs vs = (kind : ℕ) × (get id fs ≡ Some (list kind vs))

-- The last field with the id is a text, where it is there.
abbrev pub HoldsText : ℕ → Fields → Option (List ℕ) → Type 0
HoldsText id fs s = Holds binary id fs s × IfSome s IsUtf8

abbrev pub HasText : ℕ → Fields → List ℕ → Type 0
HasText id fs s = (get id fs ≡ Some (binary s)) × IsUtf8 s
