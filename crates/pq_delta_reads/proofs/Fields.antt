-- Bits that wait, number by number.
use Rattle.std.proofs.Common.{◌≡◌, ℕ, ◌+◌, ◌-◌, ◌*◌, ◌/◌, ◌%◌, ◌^◌, ◌<◌, ◌≤◌, List, [], ◌∷◌, ◌++◌, length, take, set, sym, ap, ◌∙◌, arith}
use Rattle.std.proofs.Math.Nat.{add-mul-mod_self_left, add-mul-div_left, mul_assoc, div-lt_iff_lt-mul}
use Rattle.std.proofs.lemmas.List.{take_more_set, append_assoc}
use Rattle.std.proofs.lemmas.Nat.{pow-add, pow_pos, shl_whole}
use Rattle.pq_numbers.specs.Bits.{digits_of}
use Rattle.pq_numbers.proofs.Bytes.{digits-more}
use Rattle.pq_runs.proofs.Packs.{held_below}

-- ---- more bits

pub more_bits : (held count word size : ℕ) → held < 2 ^ count → count < 64 → word < 2 ^ size → size ≤ 64 → (held + word * 2 ^ count % 2 ^ 128 < 2 ^ (count + size)) × (held + word * 2 ^ count % 2 ^ 128 ≡ held + word * 2 ^ count)
more_bits held count word size small few below most =
    let e : word * 2 ^ count % 2 ^ 128 ≡ word * 2 ^ count = shl_whole word size count 128 below (omega arith) in
    (rw e (held_below size count held word small below), ap (λ (x : ℕ). held + x) e)

pub same_bits : (held held' count word size n n' : ℕ) → held' ≡ held + word * 2 ^ count → n ≡ word + 2 ^ size * n' → held' + 2 ^ (count + size) * n' ≡ held + 2 ^ count * n
same_bits held held' count word size n n' h e =
    let p : 2 ^ (count + size) * n' ≡ 2 ^ count * (2 ^ size * n') = ap (λ (x : ℕ). x * n') (pow-add 2 count size) ∙ mul_assoc (2 ^ count) (2 ^ size) n' in
    let q : 2 ^ count * n ≡ 2 ^ count * word + 2 ^ count * (2 ^ size * n') = ap (λ (x : ℕ). 2 ^ count * x) e ∙ omega arith in
    omega (arith, h, p, q)

-- ---- one number

high : (held w r n : ℕ) → held + 2 ^ (w + r) * n ≡ held + 2 ^ w * (2 ^ r * n)
high held w r n = ap (λ (x : ℕ). held + x) (ap (λ (x : ℕ). x * n) (pow-add 2 w r) ∙ mul_assoc (2 ^ w) (2 ^ r) n)

split : (w count : ℕ) → w ≤ count → w + (count - w) ≡ count
split w count h = omega arith

pub low_number : (held w count n : ℕ) → w ≤ count → held % 2 ^ w ≡ (held + 2 ^ count * n) % 2 ^ w
low_number held w count n h =
    sym (ap (λ (k : ℕ). (held + 2 ^ k * n) % 2 ^ w) (sym (split w count h)) ∙ ap (λ (x : ℕ). x % 2 ^ w) (high held w (count - w) n) ∙ add-mul-mod_self_left held (2 ^ w) (2 ^ (count - w) * n))

pub high_number : (held w count n : ℕ) → w ≤ count → held / 2 ^ w + 2 ^ (count - w) * n ≡ (held + 2 ^ count * n) / 2 ^ w
high_number held w count n h =
    sym (ap (λ (k : ℕ). (held + 2 ^ k * n) / 2 ^ w) (sym (split w count h)) ∙ ap (λ (x : ℕ). x / 2 ^ w) (high held w (count - w) n) ∙ add-mul-div_left held (2 ^ (count - w) * n) (pow_pos w))

pub small_rest : (held w count : ℕ) → w ≤ count → held < 2 ^ count → held / 2 ^ w < 2 ^ (count - w)
small_rest held w count h small =
    let p : 2 ^ count ≡ 2 ^ (count - w) * 2 ^ w = ap (λ (k : ℕ). 2 ^ k) (sym (split w count h)) ∙ pow-add 2 w (count - w) ∙ omega arith in
    (div-lt_iff_lt-mul (pow_pos w)).1 (omega (arith, p, small))

-- ---- all numbers

pub unpack_more : (w i m : ℕ) (out all : List ℕ) → i < length out → take i out ++ digits_of (2 ^ w) (length out - i) m ≡ all → take (i + 1) (set out i (m % 2 ^ w)) ++ digits_of (2 ^ w) (length out - (i + 1)) (m / 2 ^ w) ≡ all
unpack_more w i m out all lt e =
    let more = digits-more (2 ^ w) (length out - i) (length out - (i + 1)) m (omega arith) in
    ap (λ (t : List ℕ). t ++ digits_of (2 ^ w) (length out - (i + 1)) (m / 2 ^ w)) (take_more_set out i (m % 2 ^ w) lt)
    ∙ append_assoc (take i out) (m % 2 ^ w ∷ []) (digits_of (2 ^ w) (length out - (i + 1)) (m / 2 ^ w))
    ∙ ap (λ (t : List ℕ). take i out ++ t) (sym more)
    ∙ e
