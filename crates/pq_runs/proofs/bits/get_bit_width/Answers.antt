use Rattle.std.proofs.Common.{◌≡◌, ◌-◌, ℕ, arith, rules, subst, sym}
use Rattle.std.proofs.lemmas.Nat.{leading_length}
use lib.Count.{count_leading_zeros}
use Rattle.pq_numbers.specs.Bits.{IsWidth}
use Rattle.pq_numbers.proofs.Bytes.{width-least}
use Rattle.pq_runs.proofs.bits.get_bit_width.Goals as goal

pub returns : goal.returns
returns c =
    let m = leading_length 64 c.args.max (search rules) in
    let e : 64 - count_leading_zeros 64 c.args.max ≡ m.0 = omega (arith, m.1) in
    let w : IsWidth c.args.max m.0 = record { holds = m.2; least = λ v h. width-least c.args.max m.0 v m.3 h } in
    subst (λ (k : ℕ). IsWidth c.args.max k) (sym e) w
