use Rattle.std.proofs.Common.{◌≡◌, ◌++◌, ℕ, map, ap, ◌∙◌, arith}
use Rattle.write_places.specs.Places.{range}
use Rattle.write_values.specs.Truths.{truth_at}
use Rattle.write_values.proofs.TruthPlaces.{range_joined, range_none}
use Rattle.write_values.proofs.truths.append_words.Goals as goal

pub loop-done-init : goal.loop-done-init
loop-done-init c = (range_none c.args.values.now c.args.out.now.0 c.args.from, omega (arith, c.requires.room), omega arith)

pub append_word-requires-clause-room : goal.append_word-requires-clause-room
append_word-requires-clause-room c = omega (arith, c.loop-done.invariant.1)

pub loop-done-preserved : goal.loop-done-preserved
loop-done-preserved c = (
  range_joined _ _ _ _ _ _ _ c.loop-done.invariant.0 c.append_word.ensures.same,
  omega (arith, c.append_word.ensures.room, c.loop-done.invariant.1),
  omega (arith, c.loop-done-test.true, c.loop-done.invariant.2),
)

pub returns : goal.returns
returns c =
    let all : c.loop-done.done ≡ c.args.count = omega (arith, c.loop-done-test.false, c.loop-done.invariant.2) in
    c.loop-done.invariant.0 ∙ ap (λ (n : ℕ). c.args.out.now.0 ++ map (truth_at c.args.values.now) (range c.args.from n)) all
