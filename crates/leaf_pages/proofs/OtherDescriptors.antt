-- Pages with another descriptor of the same column.
use Rattle.std.proofs.Common.{◌≡◌, ◌∙◌, Some, None, ap}
use Rattle.leaf_pages.specs.Columns.{IsPageAlong, PathColumn}
use Rattle.leaf_pages.specs.Restated.{described}
use Rattle.pq_files.specs.Page.{Encoding}
use Rattle.pq_pages.specs.DataPages.{DataPageValue}
use Rattle.pq_tree.specs.Columns.{Column}
use Rattle.pq_tree.specs.Described.{column_view}
use Rattle.pq_tree.specs.Tree.{Tree, leaf}
use Rattle.pq_tree.specs.TreeViews.{leaf_view}
use Rattle.pq_tree.specs.declared.types.Descriptor.{Descriptor}
use Rattle.write_pages.specs.declared.options.WriteOptions.{WriteOptions}

-- the leaf of a column, and this one where it has none
node_of : Tree → Column → Tree
node_of other c = elim c.info [ Some i ↦ leaf i c.physical | None ↦ other ]

same_node : (d e : Descriptor) → column_view d ≡ column_view e → leaf_view d.primitive_type ≡ leaf_view e.primitive_type
unfolding node_of
same_node d e h = ap (node_of (leaf_view e.primitive_type)) h

-- they hold the same
pub with_other : (o : WriteOptions) (e : Encoding) (c : PathColumn) (d : Descriptor) (page : DataPageValue) → column_view d ≡ column_view page.descriptor → IsPageAlong o e c page → IsPageAlong o e c (described d page)
unfolding IsPageAlong
with_other o e c d page same h = record {
  out = h.out;
  denotes = record {
    is = λ l at.
        let k = h.denotes.is l at in
        record { definition = k.definition; repetition = k.repetition; header = k.header; body = k.body; encoding = k.encoding };
    within = h.denotes.within;
    fits = h.denotes.fits;
  };
  triples = h.triples;
  have_bytes = h.have_bytes;
  encoding = h.encoding;
  statistics = h.statistics;
  exact = h.exact;
  within = h.within;
  about = same_node d page.descriptor same ∙ h.about;
  repeats = ap (λ (x : Column). x.max_repetition) same ∙ h.repeats;
  defines = ap (λ (x : Column). x.max_definition) same ∙ h.defines;
}
