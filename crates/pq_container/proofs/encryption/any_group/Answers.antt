use Rattle.pq_thrift.specs.Value.{view}
use Rattle.pq_metadata.specs.Encrypted.{HasEncryptedChunk}
use Rattle.pq_container.proofs.Encryptions.{any_at, none_next, if_true, if_false}
use Rattle.pq_container.proofs.encryption.any_group.Goals as goal

pub returns-then-has_encrypted_chunk : goal.returns-then-has_encrypted_chunk
returns-then-has_encrypted_chunk c = any_at HasEncryptedChunk c.args.values.now c.loop-value.value-index c.value-item.result c.loop-value-test.true c.value-item.is (if_true c.has_encrypted_chunk.result (HasEncryptedChunk (view c.value-item.result)) (¬ HasEncryptedChunk (view c.value-item.result)) c.if-has_encrypted_chunk.true c.has_encrypted_chunk.ensures)

pub loop-value-preserved : goal.loop-value-preserved
loop-value-preserved c = none_next HasEncryptedChunk c.args.values.now c.loop-value.value-index c.value-item.result c.loop-value-test.true c.value-item.is c.loop-value.invariant (if_false c.has_encrypted_chunk.result (HasEncryptedChunk (view c.value-item.result)) (¬ HasEncryptedChunk (view c.value-item.result)) c.if-has_encrypted_chunk.false c.has_encrypted_chunk.ensures)
