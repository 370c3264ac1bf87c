use Rattle.std.proofs.Common.{◌≡◌, ◌++◌}
use Rattle.columns_core.specs.Meta.{texts}
use Rattle.schema_codec.proofs.meta.metadata_from.Given as goal

abbrev pub invariant-loop-key : goal.invariant-loop-key
invariant-loop-key l = (l.metadata ≡ texts l.yielded) × (l.metadata ++ texts l.key-iterator.rest.items ≡ texts l.fn.entries.items)
