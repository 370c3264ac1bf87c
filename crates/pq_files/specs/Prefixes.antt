-- The first of the values that are called for, where not all may be there: what can be read of a cut section (Parquet format, "Encodings").
use Rattle.std.specs.Prelude.{◌≡◌, ◌⊎◌, ℕ, ◌^◌, ◌<◌, ◌≤◌, ℤ, pos, List, ◌++◌, length, map, flat_map, Bool, true, false, All, Option, Some, None}
use Rattle.std.specs.Int.{Width, w32, w64}
use Rattle.pq_numbers.specs.Texts.{Begins}
use Rattle.pq_numbers.specs.Varint.{IsNumber}
use Rattle.pq_runs.specs.Delta.{IsDelta}
use Rattle.shredding.specs.Slot.{Value, number, bytes}
use Rattle.pq_tree.specs.Physical.{int32, int64}
use Rattle.pq_tree.specs.Tree.{Leaf}
use Rattle.pq_files.specs.Indices.{IsIndexed}
use Rattle.pq_files.specs.Page.{Encoding, plain, dictionary, delta, delta_length}
use Rattle.pq_files.specs.Plain.{IsPlain}

-- The head says that so many numbers follow, and these are the first of them: with their own number in the head the text spells them.
pub record BeginsDelta (w : Width) (may_be_cut : Bool) (called : ℕ) (text : List ℕ) (zs : List ℤ) : Type 0 where
  pub front : List ℕ
  pub count : List ℕ
  pub behind : List ℕ
  pub parts : text ≡ front ++ (count ++ behind)
  pub says : IsNumber count called
  pub few : length zs ≤ called
  pub own : List ℕ
  pub is_delta : IsDelta w may_be_cut (front ++ (own ++ behind)) zs
  -- the front is the number of values in a block and that of its miniblocks
  pub is_front : front ≡ is_delta.size_text ++ is_delta.miniblocks_text
  pub is_own : own ≡ is_delta.count_text

-- all lengths, and the first strings
pub record BeginsDeltaLengths (called : ℕ) (text : List ℕ) (vs : List Value) : Type 0 where
  pub lengths : List ℕ
  pub short : All (λ n. n < 2 ^ 31) lengths
  pub all : length lengths ≡ called
  pub head : List ℕ
  pub are_lengths : IsDelta w32 false head (map (λ n. pos n) lengths)
  pub strings : List (List ℕ)
  pub others : List ℕ
  pub are : lengths ≡ map (λ s. length s) strings ++ others
  pub parts : text ≡ head ++ flat_map (λ s. s) strings
  pub values : vs ≡ map bytes strings

abbrev pub BeginsDeltas : Width → ℕ → List ℕ → List Value → Type 0
BeginsDeltas w called text vs = (zs : List ℤ) × BeginsDelta w true called text zs × (vs ≡ map number zs)

-- the section begins with the values, which are the first of so many
abbrev pub BeginsValues : Encoding → Leaf → Option (List Value) → ℕ → List ℕ → List Value → Type 0
BeginsValues plain l entries called section vs = (length vs ≤ called) × Begins (IsPlain l.physical) section vs
BeginsValues dictionary l None called section vs = ⊥
BeginsValues dictionary l (Some entries) called section vs = (length vs ≤ called) × Begins (IsIndexed entries) section vs
BeginsValues delta l entries called section vs = ((l.physical ≡ int32) × Begins (BeginsDeltas w32 called) section vs) ⊎ ((l.physical ≡ int64) × Begins (BeginsDeltas w64 called) section vs)
BeginsValues delta_length l entries called section vs = Begins (BeginsDeltaLengths called) section vs
