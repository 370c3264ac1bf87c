use Rattle.std.proofs.Common.{◌≡◌, ◌+◌, ◌-◌, ◌^◌, ◌<◌, length, drop, map, true, sym, ap, ◌∙◌, arith, rules}
use Rattle.std.proofs.lemmas.List.{length-drop, length-map}
use Rattle.pq_tree.specs.TreeReading.{counted, is_childless_of}
use Rattle.pq_tree.specs.Views.{element_view}
use Rattle.pq_tree.proofs.Preorder.{counted_step, counted_long}
use Rattle.pq_tree.proofs.trees.is_preorder.Goals as goal

pub returns-in_default : goal.returns-in_default
returns-in_default c =
    let es = c.args.elements.now in
    let i = c.loop-element.element-index in
    let small : length es < 2 ^ 64 = search rules in
    let fine : is_childless_of (element_view c.element-item.result) ≡ true = sym c.is_childless.ensures ∙ c.if-not-is_childless.false in
    let step = counted_step es i c.element-item.result c.loop-element.pending c.loop-element-test.true c.element-item.is c.if-pending-eq0.false fine in
    let long : length (map element_view (drop (i + 1) es)) < c.loop-element.pending - 1 + c.element-item.result.num_children = omega (arith, small, length-map (drop (i + 1) es) element_view, length-drop (i + 1) es, c.in_default.ensures) in
    sym (sym c.loop-element.invariant ∙ step ∙ counted_long _ (map element_view (drop (i + 1) es)) long)

pub loop-element-preserved : goal.loop-element-preserved
loop-element-preserved c =
    let es = c.args.elements.now in
    let i = c.loop-element.element-index in
    let fine : is_childless_of (element_view c.element-item.result) ≡ true = sym c.is_childless.ensures ∙ c.if-not-is_childless.false in
    let step = counted_step es i c.element-item.result c.loop-element.pending c.loop-element-test.true c.element-item.is c.if-pending-eq0.false fine in
    ap (λ n. counted n (map element_view (drop (i + 1) es))) c.in-Some.ensures.1 ∙ sym step ∙ c.loop-element.invariant
