use Rattle.std.proofs.Common.{◌≡◌, ◌+◌, ◌*◌, ◌++◌, drop}
use Rattle.schema_fb.specs.Layout.{count, offsets}
use Rattle.schema_fb.specs.Views.{objects_view}
use Rattle.schema_fb.proofs.pushing.push_offsets.Given as goal

abbrev pub invariant-loop-i : goal.invariant-loop-i
invariant-loop-i l =
    let left = objects_view (drop l.i l.object-items) in
    let all = objects_view l.object-items in
    l.out.items ++ offsets 0 (4 * count left + l.between) left ≡ l.initial.out.items ++ offsets 0 (4 * count all + l.fn.between) all
