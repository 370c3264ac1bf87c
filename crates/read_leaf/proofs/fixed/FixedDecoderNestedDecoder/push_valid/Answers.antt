use Rattle.std.proofs.Common.{◌≡◌, ◌+◌, ◌-◌, ◌≤◌, ℕ, map, arith, subst}
use Rattle.read_walk.specs.Values.{Decodes}
use Rattle.read_leaf.specs.Fixed.{stored_fixed, value_slots}
use Rattle.read_leaf.proofs.Standing.{decodes-more, cannot-next}
use Rattle.read_leaf.proofs.MixedStrings.{word-valid, word-cannot}
use Rattle.read_leaf.proofs.fixed.FixedDecoderNestedDecoder.push_valid.Goals as goal

pub returns-in-Err-clause-err : goal.returns-in-Err-clause-err
returns-in-Err-clause-err g c =
    let few : c.min-some.result ≤ 64 = omega arith in
    let within : c.args.count - c.loop-left.left + c.min-some.result ≤ c.args.count = omega (arith, c.loop-left.invariant.most) in
    cannot-next 0 (c.args.count - c.loop-left.left) c.min-some.result c.args.count _ _ _ _ c.in-Err.error within c.loop-left.invariant.so_far (word-cannot 0 c.min-some.result _ _ c.in-Err.error few c.in-Err.ensures.err)

pub loop-left-preserved : goal.loop-left-preserved
loop-left-preserved g c =
    let few : c.min-some.result ≤ 64 = omega arith in
    let place : c.args.count - c.loop-left.left + c.min-some.result ≡ c.args.count - (c.loop-left.left - c.min-some.result) = omega (arith, c.loop-left.invariant.most) in
    record {
      most = omega (arith, c.loop-left.invariant.most);
      so_far = subst
          (λ (k : ℕ). Decodes k (stored_fixed g.T.FixedValue.loaded c.args.self.now.size c.args.state.now.values.now) (stored_fixed g.T.FixedValue.loaded c.args.self.now.size c.decode_slots.new.state.values.now) (value_slots (map g.T.FixedValue.held c.args.decoded.now.0) c.args.decoded.now.1) (value_slots (map g.T.FixedValue.held c.decode_slots.new.decoded.0) c.decode_slots.new.decoded.1))
          place
          (decodes-more (c.args.count - c.loop-left.left) c.min-some.result _ _ _ _ _ _ c.loop-left.invariant.so_far (word-valid c.min-some.result _ _ _ _ few c.in-Ok.ensures.ok));
    }
