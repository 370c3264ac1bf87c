use Rattle.std.proofs.Common.{◌+◌, ◌*◌, ◌%◌, ◌^◌, ◌≡◌, ℕ, suc, length, sym, ap, ◌∙◌}
use Rattle.schema_fb.specs.Layout as layout
use Rattle.schema_fb.specs.Layout.{gap, slots, count, object_bytes, objects_bytes, below_bytes}
use Rattle.schema_fb.specs.Views.{object_view, objects_view, cells_view}
use Rattle.schema_fb.proofs.Lengths.{vector_length, table_length, cells_count, objects_count}
use Rattle.schema_fb.proofs.Opened.{vector_opened, table_opened}
use Rattle.schema_fb.proofs.Sizes.{sum_low}
use Rattle.schema_fb.proofs.size.+size.Goals as goal

pub size-returns-in-Vector : goal.size-returns-in-Vector
size-returns-in-Vector t c =
    let objects = c.in-Vector.objects in
    let os = objects_view objects.items in
    let view = ap object_view c.in-Vector.is ∙ vector_opened objects in
    let n = c.len.result in
    let size : n ≡ count os = c.len.ensures ∙ objects_count objects in
    let whole : 4 + 4 * n + gap (4 + 4 * n) + length (objects_bytes os) ≡ length (object_bytes (object_view c.args.object.now)) =
    ap (λ (k : ℕ). 4 + 4 * k + gap (4 + 4 * k) + length (objects_bytes os)) size ∙ sym (vector_length os) ∙ sym (ap (λ (o : layout.Object). length (object_bytes o)) view) in
    sum_low c.block.result c.objects_size.result (4 + 4 * n + gap (4 + 4 * n)) (length (objects_bytes os)) c.block.ensures c.objects_size.ensures ∙ ap (λ (k : ℕ). k % 2 ^ 64) whole

pub size-returns-in-Table : goal.size-returns-in-Table
size-returns-in-Table t c =
    let cells = c.in-Table.cells in
    let cs = cells_view cells.items in
    let view = ap object_view c.in-Table.is ∙ table_opened cells in
    let n = c.len-in-Table.result in
    let size : n ≡ slots cs = c.len-in-Table.ensures ∙ cells_count cells in
    let front : ℕ → ℕ = λ (k : ℕ). 4 + 2 * k + gap (4 + 2 * k) + 8 * suc k in
    let whole : front n + length (below_bytes cs) ≡ length (object_bytes (object_view c.args.object.now)) =
    ap (λ (k : ℕ). front k + length (below_bytes cs)) size ∙ sym (table_length cs) ∙ sym (ap (λ (o : layout.Object). length (object_bytes o)) view) in
    sum_low c.table_size.result c.below_size.result (front n) (length (below_bytes cs)) c.table_size.ensures c.below_size.ensures ∙ ap (λ (k : ℕ). k % 2 ^ 64) whole
