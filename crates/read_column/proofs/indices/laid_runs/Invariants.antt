use Rattle.std.proofs.Common.{length}
use Rattle.pq_runs.specs.Hybrid.{runs_items}
use Rattle.read_column.specs.Lookups.{IsLaidTo}
use Rattle.read_column.proofs.indices.laid_runs.Given as goal

abbrev pub invariant-runs : goal.invariant-runs
invariant-runs l = record {
  laid : IsLaidTo l.entries (runs_items (length l.bytes) l.width l.count l.bytes) (runs_items (length l.runs.bytes.now) l.width l.runs.left l.runs.bytes.now) l.values.items;
}

abbrev pub decreases-runs : goal.decreases-runs
decreases-runs l = length l.runs.bytes.now
