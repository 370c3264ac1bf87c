-- The text that is written for a value (Thrift compact protocol). The grammar allows others of the same value: padded varints, sizes below 15 in the long form, ids that aren't steps.
use Rattle.std.specs.Prelude.{◌≡◌, ℕ, List}
use Rattle.pq_thrift.specs.Grammar.{Spells}
use Rattle.pq_thrift.specs.Spelling.{spell}
use Rattle.pq_thrift.specs.Value.{Value}

-- The one spelling without padding. It spells the value by the grammar, which `spell` alone does only where the numbers fit.
pub record IsWritten (text : List ℕ) (v : Value) : Type 0 where
  pub exact : text ≡ spell v
  pub spells : Spells text v
