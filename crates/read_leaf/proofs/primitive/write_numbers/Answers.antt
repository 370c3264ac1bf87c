use Rattle.std.proofs.Common.{◌≡◌, ◌+◌, ℕ, inl, inr, map, take, arith, subst}
use Rattle.read_leaf.specs.Numbers.{TookNumbers}
use Rattle.read_leaf.proofs.NumberSlots.{numbers-then, outside-then, block-left}
use Rattle.read_leaf.proofs.primitive.write_numbers.Goals as goal

pub write_block-requires-clause-enough : goal.write_block-requires-clause-enough
write_block-requires-clause-enough g c =
    let v = c.loop-done.invariant in
    block-left g.T.FromStored.loaded g.P.StoredNumber.spelled g.P.PlainNumber.byte_count c.loop-done.done c.min-some.result c.args.count c.args.bytes.now c.loop-done.rest.now (omega (arith, v.most)) c.requires.enough v.took.behind

pub returns-in-Err-clause-err : goal.returns-in-Err-clause-err
returns-in-Err-clause-err g c =
    let v = c.loop-done.invariant in
    elim c.in-Err.ensures.err [
      | inl memory ↦ inl memory
      | inr one ↦ inr (one.0, outside-then g.T.FromStored.loaded g.P.StoredNumber.spelled g.P.PlainNumber.byte_count c.loop-done.done c.min-some.result c.args.count c.args.bytes.now c.loop-done.rest.now _ _ (omega (arith, v.most)) v.took one.1)
    ]

pub loop-done-preserved : goal.loop-done-preserved
loop-done-preserved g c =
    let loaded = g.T.FromStored.loaded in
    let number = g.T.FromStored.loaded_number in
    let spelled = g.P.StoredNumber.spelled in
    let size : ℕ = g.P.PlainNumber.byte_count in
    let done : ℕ = c.loop-done.done in
    let some : ℕ = c.min-some.result in
    let v = c.loop-done.invariant in
    let place : c.args.before + done + some ≡ c.args.before + (done + some) = omega arith in
    record {
      most = omega (arith, v.most);
      took = subst
          (λ (k : ℕ). TookNumbers loaded spelled size (done + some) c.args.bytes.now c.in-Ok.behind.now (map number (take c.args.before c.args.values.now.items)) (map number (take k c.write_block.new.values.items)))
          place
          (numbers-then loaded spelled size done some c.args.bytes.now c.loop-done.rest.now c.in-Ok.behind.now _ (map number (take (c.args.before + done) c.loop-done.values.items)) _ v.took c.in-Ok.ensures.ok);
      kept = omega (arith, place, c.in-Ok.ensures.long);
    }
