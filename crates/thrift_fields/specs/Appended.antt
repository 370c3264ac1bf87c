-- What is appended to a text, field by field (Thrift compact protocol, "Struct").
use Rattle.std.specs.Prelude.{◌≡◌, ◌<◌, ◌^◌, ℕ, pos, List, ◌++◌, Option, Some, None}
use Rattle.pq_numbers.specs.Zigzag.{zigzag}
use Rattle.pq_thrift.specs.Value.{Value, Values}
use Rattle.pq_thrift.specs.Spelling.{number_of, field_head, kind_in_field, behind_head, spell, spell_values, Fits, ValuesFit}

-- a field with an id, behind one with the id `last`, which is 0 at the start of a struct
abbrev pub spell_field : ℕ → ℕ → Value → List ℕ
spell_field last id v = field_head (pos last) (pos id) (number_of (kind_in_field v)) ++ behind_head v (spell v)

-- a value, whose numbers are of their types
pub record AppendsValue (v : Value) (old new : List ℕ) : Type 0 where
  pub spelled : new ≡ old ++ spell v
  pub fits : Fits v

-- values one behind the other
pub record AppendsValues (vs : Values) (old new : List ℕ) : Type 0 where
  pub spelled : new ≡ old ++ spell_values vs
  pub fits : ValuesFit vs

-- a field behind one with the id `last`
pub record AppendsField (last id : ℕ) (v : Value) (old new : List ℕ) : Type 0 where
  pub spelled : new ≡ old ++ spell_field last id v
  pub fits : Fits v
  pub near : zigzag (pos id) < 2 ^ 16

-- A field where there is a value, and else nothing. The last id is then `next`.
abbrev pub AppendsSome : ℕ → ℕ → Option Value → ℕ → List ℕ → List ℕ → Type 0
AppendsSome last id None next old new = (next ≡ last) × (new ≡ old)
AppendsSome last id (Some v) next old new = (next ≡ id) × AppendsField last id v old new
