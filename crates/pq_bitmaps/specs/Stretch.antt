-- What is left of a run of bits.
use Rattle.std.specs.Prelude.{ℕ, ◌+◌, ◌*◌, ◌<◌, ◌≤◌, ◌^◌, List, length, replicate, Bool}
use Rattle.columns_core.specs.Bits.{bits_from}
use Rattle.pq_bitmaps.specs.declared.stretch.Stretch.{Stretch}
use Rattle.pq_bitmaps.specs.declared.stretch.Stretch.TheVariants.{Bitmap, Repeated}

abbrev pub stretch_bits : Stretch → List Bool
stretch_bits (Bitmap values offset n) = bits_from values.now offset n
stretch_bits (Repeated b n) = replicate n b

abbrev pub size_of : Stretch → ℕ
size_of (Bitmap values offset n) = n
size_of (Repeated b n) = n

-- its bits stand in the bytes
abbrev pub IsStretch : Stretch → Type 0
IsStretch (Bitmap values offset n) = (offset + n ≤ 8 * length values.now) × (offset + n < 2 ^ 64)
IsStretch (Repeated b n) = n < 2 ^ 64
