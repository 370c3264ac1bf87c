use Rattle.std.proofs.Common.{take}
use Rattle.pq_thrift.specs.Value.{values_view}
use Rattle.pq_metadata.specs.Encrypted.{AnyValue, IsEncryptedChunk}
use Rattle.pq_container.proofs.encryption.any_chunk.Given as goal

abbrev pub invariant-loop-value : goal.invariant-loop-value
invariant-loop-value l = ¬ AnyValue IsEncryptedChunk (values_view (take l.value-index l.values))
