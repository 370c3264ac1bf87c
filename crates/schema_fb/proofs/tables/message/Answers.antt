use Rattle.std.proofs.Common.{◌≡◌, ap, ◌∙◌}
use Rattle.columns_core.specs.View.{schema_view}
use Rattle.schema_fb.specs.Layout as layout
use Rattle.schema_fb.specs.Tables.{three, schema_object}
use Rattle.schema_fb.specs.Views.{cell_view, cells_view}
use Rattle.schema_fb.specs.declared.object.Cell.{Absent, Number, Below}
use Rattle.schema_fb.proofs.Built.{pushed}
use Rattle.schema_fb.proofs.Opened.{table_opened, below_opened, number_opened, absent_opened}
use Rattle.schema_fb.proofs.tables.message.Goals as goal

pub returns : goal.returns
returns c =
    let header = layout.below (schema_object (schema_view c.args.schema.now)) in
    let object = c.in_ok-schema_object.field-0 in
    let begun : cells_view c.in_ok-cells.cells.items ≡ three (layout.number 4) (layout.number 1) header =
    c.in_ok-cells.ensures
    ∙ ap (λ (v : layout.Cell). three v (cell_view (Number 1)) (cell_view (Below object))) (number_opened 4)
    ∙ ap (λ (v : layout.Cell). three (layout.number 4) v (cell_view (Below object))) (number_opened 1)
    ∙ ap (three (layout.number 4) (layout.number 1)) (below_opened object ∙ ap layout.below c.in_ok-schema_object.ensures) in
    table_opened c.push.new.self
    ∙ ap layout.table (pushed c.in_ok-cells.cells.items c.push.new.self.items Absent (three (layout.number 4) (layout.number 1) header) layout.absent c.in_ok-push.ensures.items begun absent_opened)
