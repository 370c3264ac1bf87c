use Rattle.std.proofs.Common.{drop}
use Rattle.pq_thrift.specs.Spelling.{AreWritable}
use Rattle.pq_thrift.specs.Value.{values_view, view}
use Rattle.thrift_fields.proofs.Chains.{Left}
use Rattle.footer_write.proofs.footer.push_each_struct.Given as goal

abbrev pub invariant-values : goal.invariant-values
invariant-values l = record {
  left : Left view l.values l.value-index l.initial.out.items l.out.items;
  writable : AreWritable (values_view (drop l.value-index l.values)) 12;
}
