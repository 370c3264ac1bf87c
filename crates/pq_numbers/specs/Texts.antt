-- Bytes as a number, and bytes that begin with a text.
use Rattle.std.specs.Prelude.{◌≡◌, ℕ, ◌+◌, ◌*◌, ◌≤◌, List, [], ◌∷◌, ◌++◌, length, take, drop}

-- The number that the bytes spell, lowest byte first: the little-endian order of the Parquet format (Encodings, "Plain").
abbrev pub number_of : List ℕ → ℕ
number_of [] = 0
number_of (b ∷ bs) = b + 256 * number_of bs

-- The bytes begin with a text that spells the value. What follows it is not looked at.
pub record Begins {A : Type 0} (Spells : List ℕ → A → Type 0) (bytes : List ℕ) (a : A) : Type 0 where
  pub text : List ℕ
  pub rest : List ℕ
  pub parts : bytes ≡ text ++ rest
  pub spells : Spells text a

-- the n bytes from a place on, all of which lie within the bytes
pub record IsAt (bytes : List ℕ) (place n : ℕ) (piece : List ℕ) : Type 0 where
  pub within : place + n ≤ length bytes
  pub is : piece ≡ take n (drop place bytes)
