-- Where a page's sections are.
use Rattle.std.proofs.Common.{◌≡◌, ℕ, zero, suc, List, ◌++◌, length, take, drop, sym, ap, ◌∙◌, arith}
use Rattle.std.proofs.lemmas.List.{take_at, drop_at}
use Rattle.pq_numbers.specs.Bits.{IsWidth}
use Rattle.pq_files.specs.Levels.{IsBehindLength}
use Rattle.pq_numbers.specs.Texts.{number_of}

abbrev pub length_at : List ℕ → ℕ
length_at bytes = number_of (take 4 bytes)

pub behind_length : (max : ℕ) (bytes section rest : List ℕ) → IsBehindLength (suc max) bytes section rest → (section ≡ take (length_at bytes) (drop 4 bytes)) × (rest ≡ drop (length_at bytes) (drop 4 bytes))
behind_length max bytes section rest b =
    let head = b.0 in
    let at_head : take 4 bytes ≡ head = ap (take 4) b.3 ∙ take_at head (section ++ rest) 4 b.1 in
    let behind : drop 4 bytes ≡ section ++ rest = ap (drop 4) b.3 ∙ drop_at head (section ++ rest) 4 b.1 in
    let size : length section ≡ length_at bytes = sym (ap number_of at_head ∙ b.2) in (
      sym (ap (take (length_at bytes)) behind ∙ take_at section rest (length_at bytes) size),
      sym (ap (drop (length_at bytes)) behind ∙ drop_at section rest (length_at bytes) size),
    )

-- the width of the greatest level 3 is 2
pub two : (w : ℕ) → IsWidth 3 w → w ≡ 2
two zero is = absurd (omega (arith, is.holds))
two (suc zero) is = absurd (omega (arith, is.holds))
two (suc (suc w)) is = omega (arith, is.least 2 (omega arith))

pub one : (w : ℕ) → IsWidth 1 w → w ≡ 1
one zero is = absurd (omega (arith, is.holds))
one (suc w) is = omega (arith, is.least 1 (omega arith))
