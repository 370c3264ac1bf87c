-- Truth values by place, and counts of bits (Parquet format, Encodings, "Plain").
use Rattle.std.specs.Prelude.{◌≡◌, ℕ, ◌+◌, ◌-◌, ◌/◌, ◌%◌, ◌^◌, ◌<◌, List, [], length, min, All, Bool, false, slice_index_or, refl}
use Rattle.std.proofs.Common.{◌∙◌}
use Rattle.std.proofs.lemmas.List.Elements.{All-from_recursion}
use Rattle.write_values.specs.declared.truths.BitCount.{BitCount}

-- the truth value at a position, and false past the end
abbrev pub truth_at : List Bool → ℕ → Bool
truth_at bs i = slice_index_or bs i false

-- so many bits more
pub record AddsBits (n : ℕ) (old new : BitCount) : Type 0 where
  pub all : new.all ≡ min (old.all + n) (2 ^ 64 - 1)
  pub bytes : new.bytes ≡ min (old.bytes + (old.behind + n) / 8) (2 ^ 128 - 1)
  pub behind : new.behind ≡ (old.behind + n) % 8

-- The truth values at these places were counted, from 0 on: all of them, and the whole bytes that they fill, each up to the largest number,
-- and those behind the last whole byte. The places are among so many.
pub record CountsBits (limit : ℕ) (places : List ℕ) (old new : BitCount) : Type 0 where
  pub all : old.all ≡ 0 → new.all ≡ min (length places) (2 ^ 64 - 1)
  pub bytes : old.bytes ≡ 0 → old.behind ≡ 0 → new.bytes ≡ min (length places / 8) (2 ^ 128 - 1)
  pub behind : old.behind ≡ 0 → new.behind ≡ length places % 8
  pub within : All (λ i. i < limit) places

none_64 : 0 ≡ min 0 (2 ^ 64 - 1)
none_64 = refl

none_128 : 0 ≡ min 0 (2 ^ 128 - 1)
none_128 = refl

pub counts-none : (limit : ℕ) (c : BitCount) → CountsBits limit [] c c
counts-none limit c = record {
  all = λ e. e ∙ none_64;
  bytes = λ e f. e ∙ none_128;
  behind = λ e. e;
  within = All-from_recursion (λ i. i < limit) [] tt;
}
