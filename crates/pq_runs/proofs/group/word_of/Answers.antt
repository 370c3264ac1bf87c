use Rattle.std.proofs.Common.{◌*◌, ◌^◌, ◌<◌, ◌≡◌, ◌∙◌, ℕ, All, ap, arith, length, subst, sym}
use Rattle.pq_runs.specs.Words.{paired, word_of}
use Rattle.pq_runs.proofs.Filled.{word-below}
use Rattle.pq_runs.proofs.Paired.{all_paired, four_pairs, two_fours, word_again}
use Rattle.pq_runs.proofs.group.word_of.Goals as goal

pub returns-clause-value : goal.returns-clause-value
returns-clause-value c =
    let w = c.args.width in
    let xs = c.args.numbers in
    let size : length c.args.numbers ≡ 8 = omega arith in
    let twice : 2 * (2 * w) ≡ 4 * w = omega arith in
    let low = all_paired w xs c.requires.below in
    let high : All (λ v. v < 2 ^ (4 * w)) (paired (2 * w) (paired w xs)) = subst (λ (n : ℕ). All (λ v. v < 2 ^ n) (paired (2 * w) (paired w xs))) twice (all_paired (2 * w) (paired w xs) low) in
    let fours = c.fours_of-fours.ensures (paired w xs) (four_pairs w xs size) low c.pairs_of-pairs.ensures in
    c.joined.ensures (paired (2 * w) (paired w xs)) (two_fours w (2 * w) xs size) high fours ∙ word_again w xs size

pub returns-clause-below : goal.returns-clause-below
returns-clause-below c =
    let w = c.args.width in
    let xs = c.args.numbers in
    let size : length c.args.numbers ≡ 8 = omega arith in
    let twice : 2 * (2 * w) ≡ 4 * w = omega arith in
    let low = all_paired w xs c.requires.below in
    let high : All (λ v. v < 2 ^ (4 * w)) (paired (2 * w) (paired w xs)) = subst (λ (n : ℕ). All (λ v. v < 2 ^ n) (paired (2 * w) (paired w xs))) twice (all_paired (2 * w) (paired w xs) low) in
    let fours = c.fours_of-fours.ensures (paired w xs) (four_pairs w xs size) low c.pairs_of-pairs.ensures in
    let value = c.joined.ensures (paired (2 * w) (paired w xs)) (two_fours w (2 * w) xs size) high fours ∙ word_again w xs size in
    let bits : w * 8 ≡ 8 * w = omega arith in
    let below = subst (λ (n : ℕ). word_of w xs < 2 ^ n) (ap (λ (k : ℕ). w * k) size ∙ bits) (word-below w xs c.requires.below) in
    subst (λ (n : ℕ). n < 2 ^ (8 * w)) (sym value) below
