-- Runs of single bits as truth values (Parquet format, Encodings, "Run Length Encoding / Bit-Packing Hybrid").
use Rattle.std.specs.Prelude.{◌≡◌, ℕ, ◌+◌, ◌*◌, ◌<◌, ◌≤◌, ◌==◌, List, [], ◌∷◌, ◌++◌, length, map, replicate, Bool, Option, Some, None, Result, Ok, Err, nat_lt, if◌then◌else◌}
use Rattle.columns_base.specs.declared.error.Error.{Error}
use Rattle.columns_core.specs.Bits.{bits_from}
use Rattle.pq_runs.specs.Hybrid.{Item, fault, hybrid}
use Rattle.pq_bitmaps.specs.declared.part.HybridEncoded.{HybridEncoded}
use Rattle.pq_bitmaps.specs.declared.part.HybridEncoded.TheVariants.{Bitmap, Repeated}

-- a bit that is called for, or an error in the place of the first that isn't there
abbrev pub Bit : Type 0
Bit = Result Bool Error

abbrev pub given_bits : List Bool → List Bit
given_bits bs = map Ok bs

-- 0 is false and 1 is true. In the place of any other number there is S6, and nothing behind it.
abbrev pub truths : List Item → List Bit
truths [] = []
truths (Ok v ∷ items) = if nat_lt v 2 then Ok (v == 1) ∷ truths items else Err fault ∷ []
truths (Err e ∷ items) = Err e ∷ []

-- the first n bits that the runs at the front of the bytes spell
abbrev pub bits_called : ℕ → List ℕ → List Bit
bits_called n bytes = truths (hybrid 1 n bytes)

-- how many bits are left of those called for, and these bits
pub record Called : Type 0 where
  pub left : ℕ
  pub bits : List Bit

-- ---- a run, as far as it is called for

abbrev pub bits_in : HybridEncoded → List Bool
bits_in (Bitmap values n) = bits_from values.now 0 n
bits_in (Repeated b n) = replicate n b

-- so many bits stand in the bytes
abbrev pub IsPart : HybridEncoded → Type 0
IsPart (Bitmap values n) = n ≤ 8 * length values.now
IsPart (Repeated b n) = Unit {0}

-- The next run gives at least one of the bits. An error is what stands in the place of a bit, and nothing comes behind it.
abbrev pub GivesRun : Called → Option (Result HybridEncoded Error) → Called → Type 0
GivesRun before None after = (before.left ≡ 0) × (before.bits ≡ []) × (after ≡ before)
GivesRun before (Some (Ok part)) after =
    IsPart part × (0 < length (bits_in part)) × (before.left ≡ after.left + length (bits_in part)) × (before.bits ≡ given_bits (bits_in part) ++ after.bits)
GivesRun before (Some (Err e)) after = (e ≡ fault) × (before.bits ≡ Err fault ∷ []) × (after.left ≡ 0) × (after.bits ≡ [])
