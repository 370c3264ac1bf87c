use Rattle.std.proofs.Common.{◌≡◌, ◌++◌, map, drop, string_bytes}
use Rattle.pq_tree.specs.Paths.{path_view}
use Rattle.pq_tree.proofs.paths.extended.Given as goal

abbrev pub invariant-loop-above : goal.invariant-loop-above
invariant-loop-above l = record {
  whole : path_view l.path ++ map string_bytes (drop l.above-index l.names) ≡ map string_bytes l.names;
}
