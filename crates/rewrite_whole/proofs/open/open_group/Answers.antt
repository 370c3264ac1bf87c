use Rattle.std.proofs.Common.{◌∙◌, ◌+◌, drop, get_or, ap, arith}
use Rattle.columns_core.specs.View.{field_view, fields_view}
use Rattle.rewrite_whole.proofs.Grouping.{at_next, front_is, group_begun, group_on, group_opened, next_of}
use Rattle.rewrite_whole.proofs.open.open_group.Goals as goal

pub loop-i-init : goal.loop-i-init
loop-i-init c = group_begun c.args.job.now c.args.group.now c.args.num_rows c.deref-field-items.result.now c.deref-left.result.now c.new-iters.result.items c.requires.ready c.requires.group c.deref-field-items.ensures.value c.deref-left.ensures.value c.new-iters.ensures.items

pub split_at-requires : goal.split_at-requires
split_at-requires c =
    let xs = c.deref-field-items.result.now in
    let i = c.loop-i.i in
    let s = at_next c.args.job.now c.args.group.now c.args.num_rows xs i c.field-item.result c.index-encodings-i.result c.loop-i.left.now c.loop-i.iters.items (omega arith) c.field-item.is (c.index-encodings-i.is ∙ ap (λ q. get_or q i c.index-encodings-i.result) c.deref-encodings.ensures.value) c.loop-i.invariant in
    let n = next_of c.args.job.now c.args.group.now c.args.num_rows (field_view c.field-item.result) (fields_view (drop (i + 1) xs)) c.loop-i.left.now c.index-encodings-i.result (drop (i + 1) c.args.job.now.plan.now.encodings.items) c.loop-i.iters.items c.leaves_are_as_many.ensures s in
    omega (arith, n.within, c.len.ensures)

pub open_field-requires-clause-field : goal.open_field-requires-clause-field
open_field-requires-clause-field c =
    let xs = c.deref-field-items.result.now in
    let i = c.loop-i.i in
    let s = at_next c.args.job.now c.args.group.now c.args.num_rows xs i c.field-item.result c.index-encodings-i.result c.loop-i.left.now c.loop-i.iters.items (omega arith) c.field-item.is (c.index-encodings-i.is ∙ ap (λ q. get_or q i c.index-encodings-i.result) c.deref-encodings.ensures.value) c.loop-i.invariant in
    front_is c.args.job.now c.args.group.now c.args.num_rows (field_view c.field-item.result) (fields_view (drop (i + 1) xs)) c.loop-i.left.now c.split_at.result.0.now c.index-encodings-i.result (drop (i + 1) c.args.job.now.plan.now.encodings.items) c.loop-i.iters.items c.len.result c.leaves_are_as_many.ensures s (omega (arith, c.len.ensures)) c.split_at.ensures.front

pub loop-i-preserved : goal.loop-i-preserved
loop-i-preserved c =
    let xs = c.deref-field-items.result.now in
    let i = c.loop-i.i in
    let s = at_next c.args.job.now c.args.group.now c.args.num_rows xs i c.field-item.result c.index-encodings-i.result c.loop-i.left.now c.loop-i.iters.items (omega arith) c.field-item.is (c.index-encodings-i.is ∙ ap (λ q. get_or q i c.index-encodings-i.result) c.deref-encodings.ensures.value) c.loop-i.invariant in
    group_on c.args.job.now c.args.group.now c.args.num_rows (field_view c.field-item.result) (fields_view (drop (i + 1) xs)) c.loop-i.left.now c.split_at.result.0.now c.split_at.result.1.now c.index-encodings-i.result (drop (i + 1) c.args.job.now.plan.now.encodings.items) c.loop-i.iters.items c.push.new.self.items c.in_ok-iter.iter c.len.result c.leaves_are_as_many.ensures s (omega (arith, c.len.ensures)) c.split_at.ensures.front c.split_at.ensures.back c.in_ok-push.ensures.items c.in_ok-iter.ensures.ok

pub returns-clause-ok : goal.returns-clause-ok
returns-clause-ok c =
    group_opened c.args.job.now c.args.group.now c.args.num_rows c.deref-field-items.result.now c.loop-i.i c.loop-i.left.now (drop c.loop-i.i c.args.job.now.plan.now.encodings.items) c.loop-i.iters.items c.requires.ready (omega arith) c.loop-i.invariant
