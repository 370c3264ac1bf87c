-- Decimal numbers in words.
use Rattle.std.specs.Prelude.{ℕ, ◌+◌, ◌-◌, ◌*◌, ◌^◌, Bool, cond, ◌&&◌, List, [], ◌∷◌, Option, Some, None, length, take, drop, nat_lt, nat_le}
use Rattle.std.specs.Str.{all_ascii_digits, bytes_eq}

-- the number that digits write: each counts by its place, the last one 1
abbrev pub value_of_digits : List ℕ → ℕ
value_of_digits [] = 0
value_of_digits (c ∷ cs) = (c - 48) * 10 ^ length cs + value_of_digits cs

-- 1 to 19 digits, whose number is below 2^63
abbrev pub is_number : List ℕ → Bool
is_number text =
    nat_lt 0 (length text) && nat_le (length text) 19 && all_ascii_digits text && nat_lt (value_of_digits text) (2 ^ 63)

unfoldable pub number_of : List ℕ → Option ℕ
number_of text = cond (is_number text) (Some (value_of_digits text)) None

-- the number behind the name, where the word is that name and a number
abbrev pub number_after : List ℕ → List ℕ → Option ℕ
number_after name word = cond (bytes_eq (take (length name) word) name) (number_of (drop (length name) word)) None
