-- Packed numbers as one number, and numbers by the bits of a word.
use Rattle.std.specs.Prelude.{ℕ, zero, suc, ◌+◌, ◌*◌, ◌^◌, List, [], ◌∷◌}
use Rattle.std.specs.Int.{bit_at}

-- the number whose digits in base 2 ^ w the numbers are, the first lowest
abbrev pub word_of : ℕ → List ℕ → ℕ
word_of w [] = 0
word_of w (x ∷ xs) = x + 2 ^ w * word_of w xs

-- numbers of w bits, two side by side in one
abbrev pub paired : ℕ → List ℕ → List ℕ
paired w [] = []
paired w (x ∷ []) = x ∷ []
paired w (x ∷ y ∷ ys) = (x + 2 ^ w * y) ∷ paired w ys

-- so many numbers by the bits of a word from a place on: low where the bit is 0, and one more where it is 1
unfoldable pub bit_numbers : ℕ → ℕ → ℕ → ℕ → List ℕ
bit_numbers low word place zero = []
bit_numbers low word place (suc count) = (low + bit_at word place) ∷ bit_numbers low word (place + 1) count
