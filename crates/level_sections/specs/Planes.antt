-- Numbers by the bits of three words.
use Rattle.std.specs.Prelude.{ℕ, zero, suc, ◌+◌, ◌*◌, List, [], ◌∷◌}
use Rattle.std.specs.Int.{bit_at}
use Rattle.level_sections.specs.declared.planes.BitPlanes.{BitPlanes}

-- the number at a place
abbrev pub plane_number : BitPlanes → ℕ → ℕ
plane_number planes i = bit_at planes.ones i + 2 * bit_at planes.twos i + 4 * bit_at planes.fours i

-- so many numbers from a place on, each with so much more
unfoldable pub plane_numbers : ℕ → BitPlanes → ℕ → ℕ → List ℕ
plane_numbers low planes place zero = []
plane_numbers low planes place (suc count) = (low + plane_number planes place) ∷ plane_numbers low planes (place + 1) count
