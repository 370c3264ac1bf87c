use Rattle.std.proofs.Common.{◌+◌, ◌*◌, ◌%◌, ◌^◌, ◌≡◌, ℕ, sym, ap, ◌∙◌}
use Rattle.schema_fb.specs.Layout.{gap, front, slots}
use Rattle.schema_fb.specs.Views.{object_view, cells_view}
use Rattle.schema_fb.proofs.Lengths.{front_length, cells_count}
use Rattle.schema_fb.proofs.Opened.{table_opened}
use Rattle.schema_fb.proofs.size.front.Goals as goal

pub returns-in-Table : goal.returns-in-Table
returns-in-Table c =
    let cells = c.in-Table.cells in
    let view = ap object_view c.in-Table.is ∙ table_opened cells in
    let size : c.len.result ≡ slots (cells_view cells.items) = c.len.ensures ∙ cells_count cells in
    let whole : 4 + 2 * c.len.result + gap (4 + 2 * c.len.result) ≡ front (object_view c.args.object.now) =
    ap (λ (n : ℕ). 4 + 2 * n + gap (4 + 2 * n)) size ∙ sym (front_length (cells_view cells.items)) ∙ sym (ap front view) in
    c.vtable_size.ensures ∙ ap (λ (n : ℕ). n % 2 ^ 64) whole
