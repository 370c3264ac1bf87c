-- Bits that wait to be read.
use Rattle.std.specs.Prelude.{ℕ, ◌+◌, ◌*◌, ◌^◌, ◌<◌}
use Rattle.pq_delta_reads.specs.declared.bits.Bits.{Bits}
use Rattle.pq_numbers.specs.Texts.{number_of}

-- all that is left as one number
abbrev pub value_of : Bits → ℕ
value_of b = b.held + 2 ^ b.count * number_of b.rest.now

pub record AreWaiting (b : Bits) : Type 0 where
  pub small : b.held < 2 ^ b.count
  pub few : b.count < 64
