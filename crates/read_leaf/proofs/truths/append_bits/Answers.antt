use Rattle.std.proofs.Common.{◌≡◌, ◌++◌, ℕ, ap, sym, ◌∙◌, append-nil, arith}
use Rattle.columns_core.specs.Bits.{bits_from}
use Rattle.read_leaf.proofs.PlainBits.{bits-joined}
use Rattle.read_leaf.proofs.truths.append_bits.Goals as goal

pub loop-done-init : goal.loop-done-init
loop-done-init c = (sym (append-nil c.args.values.now.0), omega (arith, c.requires.room), omega arith)

pub append_word-requires-clause-room : goal.append_word-requires-clause-room
append_word-requires-clause-room c = omega (arith, c.loop-done.invariant.1)

pub loop-done-preserved : goal.loop-done-preserved
loop-done-preserved c = (
  bits-joined _ _ _ _ _ _ _ c.loop-done.invariant.0 c.append_word.ensures.same,
  omega (arith, c.append_word.ensures.room, c.loop-done.invariant.1),
  omega (arith, c.loop-done-test.true, c.loop-done.invariant.2),
)

pub returns : goal.returns
returns c =
    let all : c.loop-done.done ≡ c.args.count = omega (arith, c.loop-done-test.false, c.loop-done.invariant.2) in
    c.loop-done.invariant.0 ∙ ap (λ (n : ℕ). c.args.values.now.0 ++ bits_from c.args.bytes.now c.args.bit n) all
