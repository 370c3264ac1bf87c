use Rattle.std.proofs.Common.{◌≡◌, ◌<◌, true, false, get_or, length, take, arith, sym, ◌∙◌}
use Rattle.std.specs.Str.{is_utf8}
use Rattle.std.proofs.lemmas.List.{length-drop}
use Rattle.read_leaf.proofs.CutTexts.{next-sum, each-next, none-next, each-done}
use Rattle.read_leaf.proofs.Standing.{told}
use Rattle.read_leaf.proofs.texts.is_each_text.Goals as goal

pub front-requires : goal.front-requires
front-requires c = omega (arith, c.loop-length.invariant.left, next-sum c.args.lengths.now c.loop-length.length-index (omega (arith, c.loop-length-test.true, c.loop-length.auto.length-index-end)))

pub skip-rest-requires : goal.skip-rest-requires
skip-rest-requires c = omega (arith, c.loop-length.invariant.left, next-sum c.args.lengths.now c.loop-length.length-index (omega (arith, c.loop-length-test.true, c.loop-length.auto.length-index-end)))

pub returns-then-not-is_text : goal.returns-then-not-is_text
returns-then-not-is_text c =
    let ns = c.args.lengths.now in
    let bs = c.loop-length.rest.now in
    let i = c.loop-length.length-index in
    let there : i < length ns = omega (arith, c.loop-length-test.true, c.loop-length.auto.length-index-end) in
    let is : is_utf8 (take (get_or ns i 0) bs) ≡ false = (rw c.front.ensures at (sym (told c.front.result.now c.is_text.result c.is_text.ensures))) ∙ c.if-not-is_text.true in
    sym (sym c.loop-length.invariant.same ∙ none-next ns bs i there is)

pub loop-length-preserved : goal.loop-length-preserved
loop-length-preserved c =
    let ns = c.args.lengths.now in
    let bs = c.loop-length.rest.now in
    let i = c.loop-length.length-index in
    let n = get_or ns i 0 in
    let v = c.loop-length.invariant in
    let there : i < length ns = omega (arith, c.loop-length-test.true, c.loop-length.auto.length-index-end) in
    let is : is_utf8 (take n bs) ≡ true = (rw c.front.ensures at (sym (told c.front.result.now c.is_text.result c.is_text.ensures))) ∙ c.if-not-is_text.false in
    rw c.skip-rest.ensures (record {
      left = omega (arith, next-sum ns i there, v.left, length-drop n bs);
      same = each-next ns bs i there is ∙ v.same;
    })

pub returns : goal.returns
returns c = sym (sym c.loop-length.invariant.same ∙ each-done c.args.lengths.now c.loop-length.rest.now c.loop-length.length-index (omega (arith, c.loop-length-test.false)))
