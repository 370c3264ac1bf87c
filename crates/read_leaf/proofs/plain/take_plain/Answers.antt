use Rattle.std.proofs.Common.{◌-◌, ◌/◌, ◌^◌, length, take, drop, arith}
use Rattle.std.proofs.lemmas.List.{length-take, length-drop}
use Rattle.columns_core.specs.Bits.{word_bits}
use Rattle.read_leaf.proofs.BitRuns.{bits_split}
use Rattle.read_leaf.proofs.Stretches.{both-took, fault-joint, front-put}
use Rattle.read_leaf.proofs.plain.take_plain.Goals as goal

pub returns-clause-took : goal.returns-clause-took
returns-clause-took c =
    let valid = c.args.valid in
    let k = c.append_short-short.result.count in
    let m = c.take_each-others.result.count in
    let xs = c.append_short-short.new.lengths in
    let ys = c.take_each-others.new.lengths in
    let front = front-put k (length xs - k) m xs ys (omega (arith, c.append_short-short.ensures.within, c.append_short-short.auto.lengths)) (omega (arith, c.take_each-others.ensures.within, c.take_each-others.auto.lengths)) in
    rw (bits_split k m valid, front) (both-took (word_bits valid k) (word_bits (valid / 2 ^ k) m) c.args.text.now c.append_short-short.result.rest.now c.take_each-others.result.rest.now (take k xs) (take m ys) c.args.content.now.items c.append_short-short.new.content.items c.take_each-others.new.content.items c.append_short-short.ensures.took (rw c.bits_behind-bits.ensures at c.take_each-others.ensures.took))

pub returns-clause-end : goal.returns-clause-end
returns-clause-end c =
    let k = c.append_short-short.result.count in
    let xs = c.append_short-short.new.lengths in
    fault-joint c.args.valid k c.take_each-others.result.count (length c.args.lengths.now) _ c.args.text.now c.append_short-short.result.rest.now _ _ _ c.take_each-others.result.fault c.append_short-short.ensures.took (rw c.bits_behind-bits.ensures at c.take_each-others.ensures.end) (omega (arith, length-take (length xs - k) (drop k xs), length-drop k xs, c.append_short-short.ensures.within, c.append_short-short.auto.lengths))
