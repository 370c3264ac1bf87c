-- What stands at a place of the bytes: numbers, tables and their slots, texts and vectors (FlatBuffers, "Internals"). None where a part lies outside of the bytes.
use Rattle.std.specs.Prelude.{ℕ, zero, suc, ℤ, ◌+◌, ◌-◌, ◌*◌, ◌%◌, ◌^◌, ◌==◌, List, [], ◌∷◌, length, take, drop, nat_lt, Option, Some, None, if◌then◌else◌}
use Rattle.std.specs.Int.{w8, w16, w32, from_le_bytes, cast_signed}
use Rattle.std.specs.Str.{is_utf8}
use Rattle.schema_codec.specs.Parse.{◌>>=◌}

-- so many bytes from a place on
abbrev pub bytes_at : ℕ → List ℕ → ℕ → Option (List ℕ)
bytes_at n bytes place = if nat_lt (length bytes) (place + n) then None else Some (take n (drop place bytes))

-- numbers of one, two and four bytes, the lowest first
unfoldable pub byte_at : List ℕ → ℕ → Option ℕ
byte_at bytes place = bytes_at 1 bytes place >>= λ b. Some (from_le_bytes w8 b)

unfoldable pub short_at : List ℕ → ℕ → Option ℕ
short_at bytes place = bytes_at 2 bytes place >>= λ b. Some (from_le_bytes w16 b)

unfoldable pub word_at : List ℕ → ℕ → Option ℕ
word_at bytes place = bytes_at 4 bytes place >>= λ b. Some (from_le_bytes w32 b)

-- the place to which the offset at a place leads; an offset counts from its own place
abbrev pub follow : List ℕ → ℕ → Option ℕ
follow bytes place = word_at bytes place >>= λ offset. Some (place + offset)

-- ---- tables

-- where a table stands, where its vtable stands, and how many bytes the vtable has
pub record Table : Type 0 where
  pub place : ℕ
  pub vtable : ℕ
  pub size : ℕ

-- the place so far before another as a number of 32 bits in two's complement tells
abbrev pub before : ℕ → ℕ → Option ℕ
before place n =
    if nat_lt n (2 ^ 31) then (if nat_lt place n then None else Some (place - n))
    else Some (place + (2 ^ 32 - n))

-- a vtable's size is even and at least 4, and all of it lies within the bytes
abbrev pub sized : List ℕ → ℕ → ℕ → ℕ → Option Table
sized bytes place vtable size =
    if nat_lt size 4 then None
    else if size % 2 == 1 then None
    else if nat_lt (length bytes) (vtable + size) then None
    else Some (record { place = place; vtable = vtable; size = size })

unfoldable pub table_at : List ℕ → ℕ → Option Table
table_at bytes place = do
  distance ← word_at bytes place
  vtable ← before place distance
  size ← short_at bytes vtable
  sized bytes place vtable size

-- the vtable's entry for a slot, 0 where the vtable is too short to have it
abbrev pub entry_of : List ℕ → Table → ℕ → ℕ
entry_of bytes table i = if nat_lt table.size (6 + 2 * i) then 0 else from_le_bytes w16 (take 2 (drop (table.vtable + 4 + 2 * i) bytes))

abbrev pub present : Table → ℕ → Option ℕ
present table entry = if entry == 0 then None else Some (table.place + entry)

-- where a slot of a table stands, None for one that is absent
unfoldable pub slot : List ℕ → Table → ℕ → Option ℕ
slot bytes table i = present table (entry_of bytes table i)

-- what stands in a slot, or a default for one that is absent
abbrev pub at_slot : {A : Type 0} → A → (ℕ → Option A) → Option ℕ → Option A
at_slot default read None = Some default
at_slot default read (Some place) = read place

-- what stands in a slot that is needed
abbrev pub at_needed : {A : Type 0} → (ℕ → Option A) → Option ℕ → Option A
at_needed read None = None
at_needed read (Some place) = read place

-- a number in a slot
abbrev pub number_in : (List ℕ → ℕ → Option ℕ) → ℕ → List ℕ → Table → ℕ → Option ℕ
number_in read default bytes table i = at_slot default (read bytes) (slot bytes table i)

-- the table to which a slot leads, which is needed
abbrev pub table_in : List ℕ → Table → ℕ → Option Table
table_in bytes table i = at_needed (λ place. follow bytes place >>= table_at bytes) (slot bytes table i)

-- ---- texts and vectors, with a count of what may still be read

-- so much less
abbrev pub spend : ℕ → ℕ → Option ℕ
spend n left = if nat_lt left n then None else Some (left - n)

-- f of what is read
abbrev pub over : {A B : Type 0} → (A → B) → Option (A × ℕ) → Option (B × ℕ)
over f read = read >>= λ x. Some (f x.0, x.1)

-- the length, the bytes, which are UTF-8, and a byte behind them, which is not looked at
unfoldable pub text_at : List ℕ → ℕ → ℕ → Option (List ℕ × ℕ)
text_at bytes place left = do
  size ← word_at bytes place
  whole ← bytes_at (size + 1) bytes (place + 4)
  rest ← spend size left
  if is_utf8 (take size whole) then Some (take size whole, rest) else None

-- a text in a slot, empty where it is absent
abbrev pub text_in : List ℕ → Table → ℕ → ℕ → Option (List ℕ × ℕ)
text_in bytes table i left = at_slot ([], left) (λ place. follow bytes place >>= λ there. text_at bytes there left) (slot bytes table i)

abbrev pub optional_text_in : List ℕ → Table → ℕ → ℕ → Option (Option (List ℕ) × ℕ)
optional_text_in bytes table i left = at_slot (None, left) (λ place. over Some (follow bytes place >>= λ there. text_at bytes there left)) (slot bytes table i)

-- so many signed numbers of four bytes
unfoldable pub numbers_at : List ℕ → ℕ → ℕ → Option (List ℤ)
numbers_at bytes zero place = Some []
numbers_at bytes (suc n) place = do
  first ← word_at bytes place
  others ← numbers_at bytes n (place + 4)
  Some (cast_signed w32 first ∷ others)

-- a vector of them in a slot, None where it is absent
unfoldable pub numbers_in : List ℕ → Table → ℕ → Option (Option (List ℤ))
numbers_in bytes table i = at_slot None (λ place. do
  there ← follow bytes place
  count ← word_at bytes there
  ids ← numbers_at bytes count (there + 4)
  Some (Some ids)) (slot bytes table i)

-- as many as a count tells, where the offset of the first stands at the place
unfoldable pub items_at : {A : Type 0} → (ℕ → ℕ → Option (A × ℕ)) → List ℕ → ℕ → ℕ → ℕ → Option (List A × ℕ)
items_at one bytes zero place left = Some ([], left)
items_at one bytes (suc n) place left = do
  there ← follow bytes place
  first ← one there left
  others ← items_at one bytes n (place + 4) first.1
  Some (first.0 ∷ others.0, others.1)

-- those of a vector in a slot, none where it is absent
unfoldable pub items_in : {A : Type 0} → (ℕ → ℕ → Option (A × ℕ)) → List ℕ → Table → ℕ → ℕ → Option (List A × ℕ)
items_in one bytes table i left = at_slot ([], left) (λ place. do
  there ← follow bytes place
  count ← word_at bytes there
  items_at one bytes count (there + 4) left) (slot bytes table i)
