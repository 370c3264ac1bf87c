use Rattle.std.proofs.Common.{◌≡◌, ◌%◌, arith, length, List, ℕ, subst, take, sym}
use Rattle.pq_runs.specs.Packing.{ArePacked}
use Rattle.pq_runs.proofs.HeldBits.{packed_bits}
use Rattle.pq_runs.proofs.bit_block.BitBlock.packed.Goals as goal

pub returns : goal.returns
returns c =
    let b = c.self.inside in
    subst (λ (t : List ℕ). ArePacked 1 t (take b.at b.bytes)) c.self.view_is (packed_bits b.bytes b.at b.held b.more (omega arith) c.self.invariant (subst (λ (t : List ℕ). length t % 8 ≡ 0) (sym c.self.view_is) c.requires))
