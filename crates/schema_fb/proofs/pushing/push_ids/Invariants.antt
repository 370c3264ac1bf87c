use Rattle.std.proofs.Common.{◌≡◌, ◌++◌, flat_map, drop}
use Rattle.schema_codec.specs.Spelling.{id_bytes}
use Rattle.schema_fb.proofs.pushing.push_ids.Given as goal

abbrev pub invariant-loop-id : goal.invariant-loop-id
invariant-loop-id l = l.out.items ++ flat_map id_bytes (drop l.id-index l.ids) ≡ l.initial.out.items ++ flat_map id_bytes l.ids
