use Rattle.std.proofs.Common.{◌≡◌, drop, map}
use Rattle.pq_tree.specs.Views.{key_view}
use Rattle.schema_key.specs.Key.{schema_key}
use Rattle.schema_key.specs.Laws.{last_text}
use Rattle.rewrite_whole.proofs.keys.has_schema.Given as goal

abbrev pub invariant-loop-entry : goal.invariant-loop-entry
invariant-loop-entry l = last_text schema_key (map key_view (drop l.entry-index l.entries)) ≡ last_text schema_key (map key_view l.entries)
