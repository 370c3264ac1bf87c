use Rattle.std.proofs.Common.{ℕ, ℤ, pos, ◌+ℤ◌, get_or, ap, sym, ◌∙◌, arith}
use Rattle.std.proofs.lemmas.Int.{to_z-of_z}
use Rattle.std.specs.Int.{w64}
use Rattle.pq_runs.proofs.DeltaParts.{map_is}
use Rattle.pq_deltas.proofs.delta_block.rises.Goals as goal

pub returns : goal.returns
returns c = map_is (λ (m : ℕ). c.args.least +ℤ pos m) c.loop-i.out c.args.deltas.now 0 (pos 0) (omega arith) (λ k lt. ap (λ (z : ℤ). z +ℤ pos (get_or c.loop-i.out k 0)) (sym (to_z-of_z w64 c.args.least c.ranges.least)) ∙ c.loop-i.invariant k (omega arith))
