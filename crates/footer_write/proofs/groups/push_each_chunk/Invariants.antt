use Rattle.pq_files.specs.Written.{chunk_value}
use Rattle.footer_write.specs.FooterView.{chunk_view}
use Rattle.thrift_fields.proofs.Chains.{Left}
use Rattle.footer_write.proofs.groups.push_each_chunk.Given as goal

abbrev pub invariant-chunks : goal.invariant-chunks
invariant-chunks l = Left (λ k. chunk_value (chunk_view k)) l.chunks l.chunk-index l.initial.out.items l.out.items
