use Rattle.std.proofs.Common.{◌≡◌, take, map, filter, not}
use Rattle.pq_files.specs.Room.{are_same}
use Rattle.pq_tree.specs.Views.{key_view}
use Rattle.schema_key.specs.Key.{schema_key}
use Rattle.rewrite_whole.proofs.keys.other_pairs.Given as goal

abbrev pub invariant-loop-entry : goal.invariant-loop-entry
invariant-loop-entry l = map key_view l.others.items ≡ filter (λ k. not (are_same k.key schema_key)) (map key_view (take l.entry-index l.entries))
