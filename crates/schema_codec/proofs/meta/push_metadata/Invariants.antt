use Rattle.std.proofs.Common.{◌≡◌, ◌++◌, flat_map}
use Rattle.columns_core.specs.Meta.{texts}
use Rattle.schema_codec.specs.Spelling.{entry_bytes}
use Rattle.schema_codec.proofs.meta.push_metadata.Given as goal

abbrev pub invariant-loop-key : goal.invariant-loop-key
invariant-loop-key l = l.out.items ++ flat_map entry_bytes (texts l.key-iterator) ≡ l.initial.out.items ++ flat_map entry_bytes l.metadata
