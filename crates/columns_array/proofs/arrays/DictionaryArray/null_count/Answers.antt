use Rattle.std.proofs.Common.{arith}
use Rattle.columns_slots.specs.Slots.{slot_at}
use Rattle.columns_array.proofs.Nulls.{none_counted}
use Rattle.columns_array.proofs.arrays.DictionaryArray.null_count.Goals as goal

pub loop-i-init : goal.loop-i-init
loop-i-init c = (none_counted (slot_at c.args.self.now), omega arith)
