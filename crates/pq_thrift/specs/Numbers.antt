-- Numbers and bytes, read from the front (Thrift compact protocol, "Base types").
use Rattle.std.specs.Prelude.{ℕ, ℤ, List, [], ◌∷◌, length, take, drop, nat_lt, Option, Some, None, Result, Ok, Err, if◌then◌else◌}
use Rattle.std.specs.Int.{w8, cast_signed}
use Rattle.pq_numbers.specs.Varint as varints
use Rattle.pq_numbers.specs.Zigzag.{unzigzag}
use Rattle.pq_thrift.specs.declared.fault.Fault.{Fault}
use Rattle.pq_thrift.specs.declared.fault.Fault.TheVariants.{Outside}
use Rattle.pq_thrift.specs.Parse.{◌>>=◌, Parse}

abbrev pub byte_at : Parse ℕ
byte_at [] = Err Outside
byte_at (b ∷ bytes) = Ok (b, bytes)

-- what was found, or a fault
abbrev pub found : {A : Type 0} → Option A → Result A Fault
found None = Err Outside
found (Some x) = Ok x

-- "Integer encoding": a varint of 64 bits in at most ten bytes
abbrev pub varint_at : Parse ℕ
varint_at bytes = found (varints.varint_at bytes)

-- a signed number, the zigzag of which is below the limit
unfoldable pub signed_at : ℕ → Parse ℤ
signed_at limit bytes = do
  n ← varint_at bytes
  if nat_lt n.0 limit then Ok (unzigzag n.0, n.1) else Err Outside

-- a number of eight bits is one byte, in two's complement
abbrev pub int8_at : Parse ℤ
int8_at [] = Err Outside
int8_at (b ∷ bytes) = Ok (cast_signed w8 b, bytes)

-- so many bytes
abbrev pub bytes_at : ℕ → Parse (List ℕ)
bytes_at n bytes = if nat_lt (length bytes) n then Err Outside else Ok (take n bytes, drop n bytes)

-- "Binary encoding": the length, and so many bytes
unfoldable pub binary_at : Parse (List ℕ)
binary_at bytes = do
  n ← varint_at bytes
  bytes_at n.0 n.1
