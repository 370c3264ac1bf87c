use Rattle.std.proofs.Common.{◌*◌, map, take}
use Rattle.read_column.specs.Dictionary.{text_at}
use Rattle.read_column.specs.Lookups.{AreLaidAs}
use Rattle.read_column.proofs.lookup.put_each.Given as goal

abbrev pub invariant-loop-i : goal.invariant-loop-i
invariant-loop-i g l = record {
  laid : AreLaidAs (map (text_at l.body) l.places) (take l.i l.indices) (take (g.row.N * l.i) l.out);
}
