use Rattle.std.proofs.Common.{◌≡◌, map, drop}
use Rattle.pq_tree.specs.Views.{key_view}
use Rattle.schema_key.specs.Inferred.{with_pairs, gathered}
use Rattle.schema_key.proofs.infer.gather.Given as goal

abbrev pub invariant-loop-entry : goal.invariant-loop-entry
invariant-loop-entry l = with_pairs l.metadata (map key_view (drop l.entry-index l.entries)) ≡ gathered (map key_view l.entries)
