use Rattle.std.proofs.Common.{◌≡◌, ◌+◌, ◌-◌, ◌*◌, ◌≤◌, ◌++◌, ◌∙◌, ℕ, Bool, List, length, replicate, ap, arith, append_assoc, length-append}
use Rattle.std.proofs.lemmas.List.{length-replicate, replicate-append-replicate}
use Rattle.columns_core.proofs.mutable_bitmap.MutableBitmap.push_whole.Goals as goal

pub loop-rest-preserved : goal.loop-rest-preserved
loop-rest-preserved c =
    let n : ℕ = c.min-piece.result in
    let left : ℕ = c.loop-rest.rest - n in
    let bs : List Bool = c.loop-rest.self.0 in
    let e = c.push_equal_bytes.ensures.same in
    let few : n ≤ c.loop-rest.rest = omega (arith, c.min-piece.ensures) in
    let all : 8 * n + 8 * left ≡ 8 * c.loop-rest.rest = omega arith in
    let size : length c.push_equal_bytes.new.self.0 ≡ length bs + 8 * n = ap length e ∙ (length-append bs (replicate (8 * n) c.args.value) ∙ ap (λ (k : ℕ). length bs + k) (length-replicate (8 * n) c.args.value)) in
    record {
      same = ap (λ (t : List Bool). t ++ replicate (8 * left) c.args.value) e ∙ (append_assoc bs (replicate (8 * n) c.args.value) (replicate (8 * left) c.args.value) ∙ (ap (λ (t : List Bool). bs ++ t) (replicate-append-replicate (8 * n) (8 * left) c.args.value ∙ ap (λ (k : ℕ). replicate k c.args.value) all) ∙ c.loop-rest.invariant.same));
      room = omega (arith, c.push_equal_bytes.ensures.room, c.loop-rest.invariant.room);
      filled = λ h. omega (arith, c.loop-rest.invariant.filled (omega arith), size);
      grown = omega (arith, c.push_equal_bytes.ensures.room, c.loop-rest.invariant.grown);
    }
