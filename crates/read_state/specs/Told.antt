-- The levels of 64 pairs, told in one of two ways.
use Rattle.std.specs.Prelude.{ℕ, Bool, true, false, List, map}
use Rattle.columns_core.specs.Bits.{word_bits}
use Rattle.read_laws.specs.Step.{bit}

-- the bits of a word, the lowest first, where all are 0 or 1, or a byte each
abbrev pub told : Bool → ℕ → List ℕ → List ℕ
told true word bytes = map bit (word_bits word 64)
told false word bytes = bytes
