use Rattle.std.proofs.Common.{◌<◌, get_or, length, arith, sym, ◌∙◌}
use Rattle.std.proofs.lemmas.List.{length-drop}
use Rattle.read_leaf.proofs.CutTexts.{next-sum, each-next, each-done, front-text, rest-text}
use Rattle.read_leaf.proofs.texts.are_boundaries.Goals as goal

pub is_boundary-requires : goal.is_boundary-requires
is_boundary-requires c = omega (arith, c.loop-length.invariant.left, next-sum c.args.lengths.now c.loop-length.length-index (omega (arith, c.loop-length-test.true, c.loop-length.auto.length-index-end)))

pub skip-rest-requires : goal.skip-rest-requires
skip-rest-requires c = omega (arith, c.loop-length.invariant.left, next-sum c.args.lengths.now c.loop-length.length-index (omega (arith, c.loop-length-test.true, c.loop-length.auto.length-index-end)))

pub loop-length-preserved : goal.loop-length-preserved
loop-length-preserved c =
    let ns = c.args.lengths.now in
    let bs = c.loop-length.rest.now in
    let i = c.loop-length.length-index in
    let n = get_or ns i 0 in
    let v = c.loop-length.invariant in
    let there : i < length ns = omega (arith, c.loop-length-test.true, c.loop-length.auto.length-index-end) in
    let boundary = c.is_boundary.ensures c.if-not-is_boundary.false in
    rw c.skip-rest.ensures (record {
      left = omega (arith, next-sum ns i there, v.left, length-drop n bs);
      same = each-next ns bs i there (front-text bs n v.text boundary) ∙ v.same;
      text = rest-text bs n v.text boundary;
    })

pub returns : goal.returns
returns c = λ _. sym c.loop-length.invariant.same ∙ each-done c.args.lengths.now c.loop-length.rest.now c.loop-length.length-index (omega (arith, c.loop-length-test.false))
