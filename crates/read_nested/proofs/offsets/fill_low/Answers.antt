use Rattle.std.proofs.Common.{◌≡◌, ◌<◌, ◌%◌, ◌^◌, ℕ, pos, length, arith, ap, ◌∙◌}
use Rattle.std.proofs.lemmas.Bool.{and_parts}
use Rattle.std.proofs.lemmas.List.{length-set}
use Rattle.std.proofs.lemmas.Nat.{le_or_l, le_or_r}
use Rattle.read_nested.proofs.Places.{filled-more}
use Rattle.read_nested.proofs.offsets.fill_low.Goals as goal

pub loop-i-preserved : goal.loop-i-preserved
loop-i-preserved g c =
    let v = c.loop-i.invariant in
    let inside : c.loop-i.i < length c.args.starts.now = omega (arith, c.loop-i-test.true) in
    let n : ℕ = c.cast_unsigned-start.result in
    record {
      size = rw length-set v.size;
      filled = λ is low.
          let before : c.loop-i.all < 2 ^ 31 = omega (arith, low, le_or_l c.loop-i.all n) in
          let same : n % 2 ^ 31 ≡ n = omega (arith, low, le_or_r c.loop-i.all n) in
          let both = and_parts _ _ is in
          filled-more g.O.Offset.number c.loop-i.places c.offset_of-offset.result.0 c.args.starts.now c.loop-i.i n (omega (arith, inside, v.size)) inside c.cast_unsigned-start.ensures (c.offset_of-offset.ensures both.1 ∙ ap pos same) (v.filled both.0 before);
    }
