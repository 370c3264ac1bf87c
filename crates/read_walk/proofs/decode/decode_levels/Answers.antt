use Rattle.std.proofs.Common.{◌+◌, length, drop, arith}
use Rattle.std.proofs.Math.ListN.{drop_of_length-le}
use Rattle.read_walk.proofs.Decoding.{decoded-none, front-mixed, cannot-mixed, cannot-first}
use Rattle.read_walk.proofs.decode.decode_levels.Goals as goal

pub loop-at-preserved : goal.loop-at-preserved
loop-at-preserved g c =
    let part = c.some_levels-part.result.now in
    let ds = drop (c.loop-at.at + length part) c.args.defs.now in
    let parts = c.some_levels-part.ensures.parts in
    let bits = c.mixed_word-valid.ensures.bits in
    record {
      all = λ left' slots' d. c.loop-at.invariant.all left' slots' (rw parts (front-mixed c.args.floor c.args.top part ds _ _ _ left' _ _ slots' c.requires.ordered bits c.in-Ok.ensures.ok d));
      cannot = λ e d. c.loop-at.invariant.cannot e (rw parts (cannot-mixed g.D.NestedDecoder.byte_limit c.args.floor c.args.top part ds _ _ _ _ _ e c.requires.ordered bits c.in-Ok.ensures.ok d));
      suits = c.push_mixed.ensures.suits;
    }

pub returns-in-Err-clause-err : goal.returns-in-Err-clause-err
returns-in-Err-clause-err g c =
    let part = c.some_levels-part.result.now in
    let ds = drop (c.loop-at.at + length part) c.args.defs.now in
    c.loop-at.invariant.cannot c.in-Err.error (rw c.some_levels-part.ensures.parts (cannot-first g.D.NestedDecoder.byte_limit c.args.floor c.args.top part ds _ _ _ c.in-Err.error c.requires.ordered c.mixed_word-valid.ensures.bits c.in-Err.ensures.err))

pub returns-clause-ok : goal.returns-clause-ok
returns-clause-ok g c = c.loop-at.invariant.all (g.D.NestedDecoder.left c.args.decoder.now c.loop-at.values) (g.D.NestedDecoder.slots c.loop-at.decoded) (rw (drop_of_length-le c.args.defs.now {i = c.loop-at.at} (omega (arith, c.loop-at-test.false))) (decoded-none c.args.floor c.args.top (g.D.NestedDecoder.left c.args.decoder.now c.loop-at.values) (g.D.NestedDecoder.slots c.loop-at.decoded)))
