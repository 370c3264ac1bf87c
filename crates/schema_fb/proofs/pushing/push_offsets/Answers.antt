use Rattle.std.proofs.Common.{◌≡◌, ap, sym, ◌∙◌, ◌+◌, ◌-◌, drop, length}
use Rattle.schema_fb.specs.Views.{object_view, objects_view}
use Rattle.schema_fb.proofs.Lengths.{count_left}
use Rattle.schema_fb.proofs.Steps.{turn, offsets_step}
use Rattle.schema_fb.proofs.pushing.push_offsets.Goals as goal

pub loop-i-preserved : goal.loop-i-preserved
loop-i-preserved c =
    let objects = c.deref-object-items.result.now in
    let i = c.loop-i.i in
    let object = c.object-item.result in
    let is = ap objects_view (turn objects i object c.loop-i-test.true c.object-item.is) in
    let size : c.len.result ≡ length objects = c.len.ensures ∙ sym c.deref-object-items.ensures.len in
    offsets_step c.loop-i.out.items c.push_offset.new.out.items _ c.loop-i.between c.size-between.result (c.len.result - i) (object_view object) (objects_view (drop i objects)) (objects_view (drop (i + 1) objects)) is (count_left objects c.len.result i size) c.size-between.ensures c.in_ok-push_offset.ensures c.loop-i.invariant
