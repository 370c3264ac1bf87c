use Rattle.std.proofs.Common.{map}
use Rattle.columns_array.proofs.Keys.{AreKeysTo}
use Rattle.columns_array.proofs.arrays.keys.all_below.Given as goal

abbrev pub invariant-loop-i : goal.invariant-loop-i
invariant-loop-i g l = AreKeysTo l.i l.keys.1.1 (map g.K.DictionaryKey.number l.keys.1.0) l.count
