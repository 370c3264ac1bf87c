-- Laws of the grammar.
use Rattle.std.specs.Prelude.{◌≡◌, ◌≤◌, ℕ, List, ◌++◌, Ok}
use Rattle.pq_thrift.specs.Grammar.{Spells, depth}
use Rattle.pq_thrift.specs.Reading.{thrift_at, max_depth}
use Rattle.pq_thrift.specs.Spelling.{spell, IsStruct, IsWritable, Fits}
use Rattle.pq_thrift.specs.Value.{Value}

-- a struct has one reading, whatever follows it
abbrev pub HasOneReading : Type 0
HasOneReading = (a b x y : List ℕ) (v w : Value) → Spells a v → Spells b w → a ++ x ≡ b ++ y → (a ≡ b) × (v ≡ w)

-- what is written is read again as the same value, whatever follows it
abbrev pub IsReadAgain : Type 0
IsReadAgain = (v : Value) (rest : List ℕ) → IsStruct v → IsWritable v → Fits v → depth v ≤ max_depth → thrift_at (spell v ++ rest) ≡ Ok (v, rest)
