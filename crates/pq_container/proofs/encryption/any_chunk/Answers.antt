use Rattle.pq_thrift.specs.Value.{view}
use Rattle.pq_metadata.specs.Encrypted.{IsEncryptedChunk}
use Rattle.pq_container.proofs.Encryptions.{any_at, none_next, if_true, if_false}
use Rattle.pq_container.proofs.encryption.any_chunk.Goals as goal

pub returns-then-is_encrypted_chunk : goal.returns-then-is_encrypted_chunk
returns-then-is_encrypted_chunk c = any_at IsEncryptedChunk c.args.values.now c.loop-value.value-index c.value-item.result c.loop-value-test.true c.value-item.is (if_true c.is_encrypted_chunk.result (IsEncryptedChunk (view c.value-item.result)) (¬ IsEncryptedChunk (view c.value-item.result)) c.if-is_encrypted_chunk.true c.is_encrypted_chunk.ensures)

pub loop-value-preserved : goal.loop-value-preserved
loop-value-preserved c = none_next IsEncryptedChunk c.args.values.now c.loop-value.value-index c.value-item.result c.loop-value-test.true c.value-item.is c.loop-value.invariant (if_false c.is_encrypted_chunk.result (IsEncryptedChunk (view c.value-item.result)) (¬ IsEncryptedChunk (view c.value-item.result)) c.if-is_encrypted_chunk.false c.is_encrypted_chunk.ensures)
