use Rattle.std.proofs.Common.{subst, sym}
use Rattle.pq_thrift.specs.Spelling.{AreWritable}
use Rattle.pq_thrift.specs.Value.{list}
use Rattle.pq_files.proofs.FooterWritable.{footer_writable}
use Rattle.footer_write.specs.FooterView.{footer_view}
use Rattle.thrift_fields.specs.Appended.{AppendsField}
use Rattle.thrift_fields.proofs.Chains.{behind, behind_some, ends, whole}
use Rattle.footer_write.proofs.footer.push_footer.Goals as goal

pub push_structs-requires : goal.push_structs-requires
push_structs-requires c = subst (λ vs. AreWritable vs 12) (sym c.in_ok-elements.ensures) (footer_writable (footer_view c.args.metadata.now)).1.0.1

pub returns-clause-ok : goal.returns-clause-ok
returns-clause-ok c =
    whole
    (behind c.in_ok-push_i32.ensures
    (behind (subst (λ vs. AppendsField 1 2 (list 12 vs) c.push_i32.new.out.items c.push_structs.new.out.items) c.in_ok-elements.ensures c.in_ok-push_structs.ensures.ok)
    (behind c.in_ok-push_i64.ensures
    (behind c.in_ok-push_groups.ensures
    (behind_some 5 _ c.in_ok-last.ensures
    (behind c.in_ok-push_text.ensures
    (behind c.in_ok-push_orders.ensures
    (ends c.in_ok-push.ensures.items))))))))
