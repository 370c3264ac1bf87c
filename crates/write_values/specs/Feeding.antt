-- Values of which deltas are taken (Parquet format, Encodings, "Delta Encoding", "Delta-length byte array").
use Rattle.std.specs.Prelude.{◌≡◌, ℕ, ◌%◌, ◌^◌, ℤ, pos, Bool, true, false, List, [], ◌∷◌, ◌++◌, length, map}
use Rattle.std.specs.List.{AllByRecursion as Each}
use Rattle.std.specs.Int.{Width, w32, w64, cast_signed}
use Rattle.std.proofs.Props.{props}
use mathlib.Core.HLevel.{×_prop}
use Rattle.std.proofs.Common.{sym, subst}
use Rattle.std.proofs.lemmas.List.{map-append}
use Rattle.shredding.proofs.Levels.{Each-append}
use Rattle.columns_slots.specs.Slots.{AreUpTo, IsPlaces}
use Rattle.shredding.specs.Slot.{Value, number, bytes}
use Rattle.pq_tree.specs.Physical.{Physical, int32, int64, byte_array}
use Rattle.pq_deltas.specs.declared.delta_encode.Encoder.{Encoder}
use Rattle.pq_deltas.specs.Encoding.{Feeds, feeds-none, feeds-append}
use Rattle.pq_runs.specs.DeltaWriting.{AppendsDelta}
use Rattle.pq_files.specs.Page.{Encoding, delta, delta_length}

-- the number of which deltas are taken: the value itself, or the length of a byte string as a number of 32 bits
abbrev pub delta_number : Value → ℤ
delta_number (number z) = z
delta_number (bytes s) = cast_signed w32 (length s % 2 ^ 32)
delta_number v = pos 0

-- the bytes of a byte string
abbrev pub text_of : Value → List ℕ
text_of (bytes s) = s
text_of v = []

-- it is a byte string in columns of such, and else a number
abbrev pub IsTold : Physical → Value → Type 0
IsTold byte_array v = v ≡ bytes (text_of v)
IsTold p v = v ≡ number (delta_number v)

-- an encoder takes the numbers of these values, whatever came before
pub record FeedsRow (w : Width) (p : Physical) (out : List ℕ) (e : Encoder) (out' : List ℕ) (e' : Encoder) (vs : List Value) : Type 0 where
  pub fed : Feeds w out e out' e' (map delta_number vs)
  pub told : Each (IsTold p) vs

-- what is appended is the deltas of the numbers of these values
pub record AppendsDeltas (w : Width) (p : Physical) (before after : List ℕ) (vs : List Value) : Type 0 where
  pub deltas : AppendsDelta w before after (map delta_number vs)
  pub told : Each (IsTold p) vs

-- numbers of so many bits are those of columns of the physical type
abbrev pub AreNumbersOf : Physical → Width → Type 0
AreNumbersOf int32 w = w ≡ w32
AreNumbersOf int64 w = w ≡ w64
AreNumbersOf p w = ⊥

-- columns of the physical type have deltas
abbrev pub has_deltas : Physical → Bool
has_deltas int32 = true
has_deltas int64 = true
has_deltas byte_array = true
has_deltas p = false

-- and in this encoding
abbrev pub deltas_of : Physical → Encoding
deltas_of byte_array = delta_length
deltas_of p = delta

-- ---- one after another

pub feeds-nothing : (w : Width) (p : Physical) (out : List ℕ) (e : Encoder) → FeedsRow w p out e out e []
feeds-nothing w p out e = record { fed = feeds-none w out e; told = tt }

pub feeds-more : (w : Width) (p : Physical) (a : List ℕ) (d : Encoder) (b : List ℕ) (e : Encoder) (c : List ℕ) (f : Encoder) (us vs : List Value) → FeedsRow w p a d b e us → FeedsRow w p b e c f vs → FeedsRow w p a d c f (us ++ vs)
feeds-more w p a d b e c f us vs g h = record {
  fed = subst (λ (zs : List ℤ). Feeds w a d c f zs) (sym (map-append delta_number us vs)) (feeds-append w a d b e c f (map delta_number us) (map delta_number vs) g.fed h.fed);
  told = Each-append (IsTold p) us vs g.told h.told;
}

-- ---- offsets that never fall, as a fact that has one proof at most

up-prop : (o : ℕ) (os : List ℕ) (n : ℕ) → IsProp (AreUpTo o os n)
up-prop o [] n = Prim.hlevel props
up-prop o (p ∷ os) n = ×_prop (Prim.hlevel props) (up-prop p os n)

pub places-prop : (os : List ℕ) (n : ℕ) → IsProp (IsPlaces os n)
places-prop [] n = λ x y. absurd x
places-prop (o ∷ os) n = up-prop o os n
