use Rattle.std.proofs.Common.{◌<◌, ◌++◌, ◌∙◌, ap, arith, List, ℕ, take}
use Rattle.pq_numbers.proofs.Bytes.{are-drop}
use Rattle.pq_delta_reads.proofs.Groups.{enough_next, group_begin, groups_end, next_group}
use Rattle.pq_delta_reads.proofs.bits.unpack_by_twos.Goals as goal

pub loop-at-init : goal.loop-at-init
loop-at-init c = record {
  are = λ k. (c.type_inv.bytes k).fits;
  eights = omega arith;
  most = omega arith;
  enough = omega (arith, c.requires.enough);
  so_far = group_begin c.args.width c.args.numbers.now c.args.bytes.now;
  size = omega arith;
}

pub by_twos-requires-clause-enough : goal.by_twos-requires-clause-enough
by_twos-requires-clause-enough c = (enough_next c.args.width c.loop-at.at c.loop-at.rest.now (omega (arith, c.loop-at-test.true)) c.loop-at.invariant.eights c.loop-at.invariant.enough).0

pub behind-rest-requires : goal.behind-rest-requires
behind-rest-requires c = (let e = (enough_next c.args.width c.loop-at.at c.loop-at.rest.now (omega (arith, c.loop-at-test.true)) c.loop-at.invariant.eights c.loop-at.invariant.enough).0 in omega (arith, e))

pub loop-at-preserved : goal.loop-at-preserved
loop-at-preserved c =
    let i = c.loop-at.invariant in
    let some : c.loop-at.at < 32 = omega (arith, c.loop-at-test.true) in
    rw c.behind-rest.ensures (record {
      are = are-drop _ _ i.are;
      eights = omega (arith, i.eights);
      size = c.put_eight.ensures.len;
      most = omega (arith, some, i.eights);
      enough = (enough_next c.args.width c.loop-at.at c.loop-at.rest.now some i.eights i.enough).1;
      so_far = next_group c.args.width c.loop-at.at _ _ c.loop-at.rest.now _ some i.eights i.are (c.put_eight.ensures.front ∙ ap (λ (t : List ℕ). take c.loop-at.at c.loop-at.numbers ++ t) c.by_twos.ensures) i.so_far;
    })

pub returns : goal.returns
returns c = groups_end c.args.width c.loop-at.at c.loop-at.numbers c.loop-at.rest.now _ (omega (arith, c.loop-at-test.false)) c.loop-at.invariant.most c.loop-at.invariant.size c.loop-at.invariant.so_far
