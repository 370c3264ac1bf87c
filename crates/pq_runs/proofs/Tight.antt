-- How many bytes runs take.
use Rattle.std.proofs.Common.{◌≡◌, ℕ, zero, suc, ◌+◌, ◌-◌, ◌*◌, ◌/◌, ◌%◌, ◌≤◌, List, [], ◌++◌, length, replicate, sym, ap, ◌∙◌, arith, inl, inr}
use Rattle.std.proofs.lemmas.Bool.{le-ltb, cases_lt}
use Rattle.std.proofs.lemmas.Nat.{mul-le}
use Rattle.pq_numbers.specs.Varint.{digits, varint}
use Rattle.pq_numbers.proofs.Writes.{digits-last}
use Rattle.std.proofs.lemmas.List.{length-append, length-replicate}
use Rattle.pq_numbers.specs.Bits.{bytes_for}
use Rattle.pq_runs.specs.Packing.{ArePacked}
use Rattle.pq_runs.specs.Writing.{IsWhole, IsTight}
use Rattle.pq_runs.proofs.Steps.{whole_size}

-- a count of 64 and more has far fewer digits than copies
long_digits : (k n : ℕ) → 128 ≤ n → n ≤ k → 16 * length (digits k n) + 32 ≤ n
unfolding digits
long_digits zero n h le = absurd (omega (arith, h, le))
long_digits (suc k) n h le =
    elim (cases_lt (n / 128) 128) [
      | inl small ↦
          let one : length (digits k (n / 128)) ≡ 1 = ap length (digits-last k (n / 128) small) in
          rw (le-ltb n 128 h) (omega (arith, one))
      | inr large ↦ rw (le-ltb n 128 h) (omega (arith, long_digits k (n / 128) large (omega (arith, le))))
    ]

-- a product is no less than the sum, but for one
sum_below : (w n : ℕ) → 1 ≤ w → 1 ≤ n → n + w ≤ w * n + 1
sum_below zero n some one = absurd (omega (arith, some))
sum_below (suc w) n some one =
    let m : w * 1 ≤ w * n = mul-le w 1 w n (omega arith) one in
    omega (arith, m)

-- the header and the number of a run of copies, and the header of the packed run before it, in bits
pub copies_short : (w left : ℕ) → 1 ≤ w → 8 ≤ left → w + 24 ≤ w * left → 8 * (length (varint (2 * left)) + bytes_for w + 1) ≤ w * left
copies_short w left some eight low =
    elim (cases_lt (2 * left) 128) [
      | inl small ↦ let one : length (varint (2 * left)) ≡ 1 = ap length (digits-last (2 * left) (2 * left) small) in omega (arith, one, low)
      | inr large ↦ omega (arith, long_digits (2 * left) (2 * left) large (omega arith), sum_below w left some (omega (arith, eight)))
    ]

-- a run of packed numbers, of which there are whole groups
pub packed_size : (w : ℕ) (out out' block body : List ℕ) → length block ≤ 504 → length block % 8 ≡ 0 → ArePacked w block body → out' ≡ out ++ (varint (2 * (length block / 8) + 1) ++ body) → 8 * length out' ≤ 8 * length out + 8 + w * length block
packed_size w out out' block body few whole p e =
    let g : ℕ = length block / 8 in
    let n : length block ≡ 8 * g = omega (arith, whole) in
    let bits : w * length block ≡ 8 * (w * g) = ap (λ (k : ℕ). w * k) n ∙ omega arith in
    let bytes : length body ≡ w * g = whole_size w g block body n p in
    let one : length (varint (2 * (length block / 8) + 1)) ≡ 1 = ap length (digits-last (2 * (length block / 8) + 1) (2 * (length block / 8) + 1) (omega (arith, few))) in
    let all : length out' ≡ length out + (1 + w * g) = ap length e ∙ omega (arith, length-append out (varint (2 * (length block / 8) + 1) ++ body), length-append (varint (2 * (length block / 8) + 1)) body, one, bytes) in
    omega (arith, all, bits)

-- so many numbers in all, of which some have been written in few bytes and the others wait
abbrev pub Tighter : ℕ → ℕ → ℕ → ℕ → ℕ → Type 0
Tighter w start out size all = (more : ℕ) × (all ≡ more + size) × IsTight w start out more

pub tight_pushed : (w start out : ℕ) (block block' : List ℕ) (number all count left some : ℕ) → some ≤ left → left ≤ count → block' ≡ block ++ replicate some number → Tighter w start out (length block) (all + (count - left)) → Tighter w start out (length block') (all + (count - (left - some)))
tight_pushed w start out block block' number all count left some few most e t =
    let n : length block' ≡ length block + some = ap length e ∙ length-append block (replicate some number) ∙ ap (λ (k : ℕ). length block + k) (length-replicate some number) in
    (t.0, omega (arith, t.1, n, few, most), t.2)

pub tight_flushed : (w start out out' size all : ℕ) (block : List ℕ) → size ≡ 504 → block ≡ [] → 8 * out' ≤ 8 * out + 8 + w * size → Tighter w start out size all → Tighter w start out' (length block) all
tight_flushed w start out out' size all block is none h t =
    let n : length block ≡ 0 = ap length none in
    let k : w * size ≡ w * 504 = ap (λ (j : ℕ). w * j) is in
    (t.0 + 504, omega (arith, t.1, is, n), omega (arith, t.2, h, k))

pub tight_copied : (w start out mid after head value size all left : ℕ) (block : List ℕ) → block ≡ [] → 8 * mid ≤ 8 * out + 8 + w * size → after ≡ mid + (head + value) → 8 * (head + value + 1) ≤ w * left → Tighter w start out size all → Tighter w start after (length block) (all + left)
tight_copied w start out mid after head value size all left block none h e short t =
    let n : length block ≡ 0 = ap length none in
    (t.0 + size + left, omega (arith, t.1, n), omega (arith, t.2, h, e, short))

pub tight_same : (w start out size all all' : ℕ) → all ≡ all' → Tighter w start out size all → Tighter w start out size all'
tight_same w start out size all all' e t = (t.0, sym e ∙ t.1, t.2)

pub copies_length : (w n v : ℕ) (out out' value : List ℕ) → IsWhole w v value → out' ≡ out ++ (varint (2 * n) ++ value) → length out' ≡ length out + (length (varint (2 * n)) + bytes_for w)
copies_length w n v out out' value p e = ap length e ∙ length-append out (varint (2 * n) ++ value) ∙ ap (λ (k : ℕ). length out + k) (length-append (varint (2 * n)) value ∙ ap (λ (k : ℕ). length (varint (2 * n)) + k) p.size)

pub times_more : (w many left : ℕ) → w + 24 ≤ w * many → many ≤ left → w + 24 ≤ w * left
times_more w many left h le =
    let m : w * many ≤ w * left = mul-le w many w left (omega arith) le in
    omega (arith, h, m)
