use Rattle.pq_files.specs.Written.{chunk_value}
use Rattle.footer_write.specs.FooterView.{chunk_view}
use Rattle.thrift_fields.proofs.Chains.{all_done, goes_on, of_views}
use Rattle.footer_write.proofs.groups.push_each_chunk.Goals as goal

pub chunks-preserved : goal.chunks-preserved
chunks-preserved c = goes_on c.chunk-item.result c.chunks-test.true c.chunk-item.is c.in_ok-push_chunk.ensures c.chunks.invariant

pub returns : goal.returns
returns c = of_views chunk_value chunk_view c.args.chunks.now (all_done c.chunks-test.false c.chunks.invariant)
