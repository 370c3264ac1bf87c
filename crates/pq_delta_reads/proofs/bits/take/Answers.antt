use Rattle.std.proofs.Common.{◌≡◌, ℕ, ◌*◌, ◌%◌, ◌/◌, ◌^◌, ◌∙◌, ap, arith}
use Rattle.std.proofs.lemmas.Nat.{one_shl}
use Rattle.pq_numbers.specs.Texts.{number_of}
use Rattle.pq_delta_reads.proofs.Fields.{low_number, high_number, small_rest}
use Rattle.pq_delta_reads.proofs.bits.take.Goals as goal

pub returns-clause-are : goal.returns-clause-are
returns-clause-are c = record {
  small = small_rest c.loop-bits.bits.held c.args.width c.loop-bits.bits.count c.loop-bits-test.false c.loop-bits.invariant.small;
  few = omega (arith, c.loop-bits-test.false, c.loop-bits.invariant.few);
}

pub returns-clause-value : goal.returns-clause-value
returns-clause-value c =
    let mask : 1 * 2 ^ c.args.width % 2 ^ 128 ≡ 2 ^ c.args.width = one_shl c.args.width 128 (omega arith) in
    ap (λ (m : ℕ). c.loop-bits.bits.held % m) mask
    ∙ low_number c.loop-bits.bits.held c.args.width c.loop-bits.bits.count (number_of c.loop-bits.bits.rest.now) c.loop-bits-test.false
    ∙ ap (λ (x : ℕ). x % 2 ^ c.args.width) c.loop-bits.invariant.same

pub returns-clause-rest : goal.returns-clause-rest
returns-clause-rest c =
    high_number c.loop-bits.bits.held c.args.width c.loop-bits.bits.count (number_of c.loop-bits.bits.rest.now) c.loop-bits-test.false
    ∙ ap (λ (x : ℕ). x / 2 ^ c.args.width) c.loop-bits.invariant.same
