use Rattle.std.proofs.Common.{ap, ◌∙◌}
use Rattle.std.proofs.lemmas.Result.{on_ok_weaker}
use Rattle.schema_fb.specs.Views.{cell_view, object_view}
use Rattle.schema_fb.proofs.Opened.{below_opened}
use Rattle.schema_fb.proofs.Steps.{below_pushed}
use Rattle.schema_fb.proofs.pushing.push_cell.Goals as goal

pub returns-in_ok-push_offset-in-Below : goal.returns-in_ok-push_offset-in-Below
returns-in_ok-push_offset-in-Below c =
    let object = c.in-Below.object in
    let is = ap cell_view c.in-Below.is ∙ below_opened object in
    on_ok_weaker c.push_gap.result (below_pushed c.args.out.now.items c.push_offset.new.out.items c.push_gap.new.out.items c.args.left c.args.before (object_view object) (cell_view c.args.cell.now) is c.in_ok-push_offset-in-Below.ensures) c.push_gap.ensures
