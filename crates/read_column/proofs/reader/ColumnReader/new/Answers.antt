use Rattle.std.proofs.Common.{◌≡◌, refl, ◌∙◌}
use Rattle.pq_headline.specs.Columns.{is_alone}
use Rattle.read_column.specs.Deltas.{deltas_in}
use Rattle.read_column.specs.Foreseen.{foreseen}
use Rattle.read_column.proofs.Readings.{begins-queued, begun-some}
use Rattle.read_column.proofs.Ways.{way-alone, way-ends}
use Rattle.read_column.proofs.reader.ColumnReader.new.Goals as goal

pub returns-clause-ok : goal.returns-clause-ok
returns-clause-ok g c o stored limit readable physical outcomes way rows size =
    let queue = begun-some c.args.nested.items c.args.chunk_size c.args.num_rows c.in_ok-queue.queue (way-ends c.args.nested.items _ way) c.in_ok-queue.ensures.ok in
    let deltas : c.deltas_of-deltas.result ≡ deltas_in (is_alone o.column.way) o.leaf.physical = c.deltas_of-deltas.ensures ∙ (rw (physical, ← way-alone c.args.nested.items o.column.way way, c.is_flat.ensures, c.deref.ensures.value) refl) in
    begins-queued queue.0 stored limit o c.args.nested.items (g.I.Pages.outcomes c.args.pages) c.deltas_of-deltas.result c.args.chunk_size c.args.num_rows c.in_ok-queue.queue queue.1 readable outcomes way deltas rows size

pub returns-clause-foreseen : goal.returns-clause-foreseen
returns-clause-foreseen g c o stored limit others readable physical outcomes way rows size =
    let queue = begun-some c.args.nested.items c.args.chunk_size c.args.num_rows c.in_ok-queue.queue (way-ends c.args.nested.items _ way) c.in_ok-queue.ensures.ok in
    let deltas : c.deltas_of-deltas.result ≡ deltas_in (is_alone o.column.way) o.leaf.physical = c.deltas_of-deltas.ensures ∙ (rw (physical, ← way-alone c.args.nested.items o.column.way way, c.is_flat.ensures, c.deref.ensures.value) refl) in
    begins-queued queue.0 stored limit o c.args.nested.items (foreseen (g.I.Pages.outcomes c.args.pages) others) c.deltas_of-deltas.result c.args.chunk_size c.args.num_rows c.in_ok-queue.queue queue.1 readable outcomes way deltas rows size
