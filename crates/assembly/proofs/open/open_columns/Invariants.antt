use Rattle.std.proofs.Common.{◌≡◌, ◌≤◌, List, [], map, length, take, drop, reverse}
use Rattle.assembly.specs.Lanes.{Lane, AreReading}
use Rattle.assembly.specs.Opened.{AreOpen, physical_in}
use Rattle.assembly.specs.Paths.{path_view}
use Rattle.assembly.proofs.open.open_columns.Given as goal

abbrev pub invariant-columns : goal.invariant-columns
invariant-columns g l = record {
  few : length l.columns.items ≤ length l.fn.columns.items;
  kept : l.columns.items ≡ take (length l.columns.items) l.fn.columns.items;
  reading : (xs : List Lane) → AreOpen l.fn.chunk_size l.fn.num_rows xs (map path_view l.fn.paths) (map g.I.Pages.outcomes l.fn.columns.items) (map physical_in l.fn.types) → AreReading 0 (drop (length l.columns.items) xs) (reverse l.readers.items) [];
}

abbrev pub decreases-columns : goal.decreases-columns
decreases-columns g l = length l.columns.items
