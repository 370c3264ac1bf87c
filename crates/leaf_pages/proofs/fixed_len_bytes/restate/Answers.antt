use Rattle.std.proofs.Common.{◌∙◌, ap, refl}
use Rattle.leaf_pages.specs.Restated.{restated}
use Rattle.pq_pages.specs.DataPages.{DataPageValue}
use Rattle.pq_tree.specs.Described.{column_view}
use Rattle.leaf_pages.proofs.fixed_len_bytes.restate.Goals as goal

pub returns-clause-ok : goal.returns-clause-ok
returns-clause-ok c = (
  ap (λ (p : DataPageValue). column_view p.descriptor) c.new.ensures ∙ (c.in_ok-clone.ensures.same ∙ ap column_view c.descriptor.ensures.is),
  record {
    statistics = c.stated_of.result;
    are = c.stated_of.ensures;
    header = ap (λ (p : DataPageValue). p.header) c.new.ensures ∙ (c.restated-header.ensures ∙ ap (restated c.stated_of.result) c.header.ensures.is);
    buffer = ap (λ (p : DataPageValue). p.buffer) c.new.ensures ∙ (c.in_ok-body.ensures.items ∙ c.buffer.ensures);
    descriptor = refl;
  },
)
