-- The numbers of a block, however it keeps them.
use Rattle.std.specs.Prelude.{ℕ, List}
use Rattle.pq_runs.specs.declared.block.Store.{Store}
use Rattle.pq_runs.specs.declared.block.Store.TheVariants.{Bits, Narrow, Others}

abbrev pub stored : Store → List ℕ
stored (Bits numbers) = numbers
stored (Narrow numbers) = numbers
stored (Others numbers) = numbers
