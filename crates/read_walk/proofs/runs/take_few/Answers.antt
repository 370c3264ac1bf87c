use Rattle.std.proofs.Common.{◌≡◌, ◌≤◌, ◌/◌, ◌^◌, ℕ, take, ap, arith, ◌∙◌}
use Rattle.pq_numbers.specs.Bits.{digits_of}
use Rattle.pq_numbers.specs.Texts.{number_of}
use Rattle.read_walk.proofs.Eights.{few-are, enough-few}
use Rattle.read_walk.proofs.runs.take_few.Goals as goal

pub returns-clause-left : goal.returns-clause-left
returns-clause-left c =
    let s = c.args.levels.now in
    let w : ℕ = s.runs.num_bits in
    let n : ℕ = c.min-count.result in
    let few : n ≤ 8 = omega (arith, c.min-count.ensures) in
    let there : n ≤ s.standing = omega (arith, c.min-count.ensures, c.min.ensures) in
    let enough = enough-few w s.shift n s.standing s.packed.now c.requires.narrow c.requires.is.small few there c.requires.is.enough in
    let numbers : take n c.put_few.new.out ≡ digits_of (2 ^ w) n (number_of s.packed.now / 2 ^ s.shift) = c.put_few.ensures ∙ (ap (λ (x : ℕ). digits_of (2 ^ w) n (x / 2 ^ s.shift)) c.low_bytes.ensures ∙ few-are w s.shift n s.packed.now enough) in
    rw numbers c.drop_packed.ensures.left
