-- How many bits copies take.
use Rattle.std.proofs.Common.{◌≡◌, ◌⊎◌, inl, inr, ℕ, zero, suc, ◌+◌, ◌-◌, ◌*◌, ◌%◌, ◌^◌, ◌<◌, ◌≤◌, Bool, true, false, not, ◌==◌, ◌≢◌, List, [], ◌++◌, length, replicate, refl, sym, ap, ◌∙◌, arith}
use Rattle.std.proofs.lemmas.Bool.{false≢true}
use Rattle.std.proofs.lemmas.Bool.Decides.{eqb_tells}
use Rattle.std.proofs.lemmas.List.{length-append, length-replicate}
use Rattle.std.proofs.lemmas.Nat.{mul-le}
use Rattle.pq_numbers.specs.Bits.{bytes_for}
use Rattle.pq_numbers.specs.Varint.{varint}
use Rattle.pq_numbers.proofs.Writes.{is_number}
use Rattle.pq_runs.specs.Stretches.{one_if_any, stretch_bits, filled_up, Takes}

-- ---- copies that are packed

-- So many copies were put into the block, and it was written at most once.
abbrev pub Taken : ℕ → List ℕ → List ℕ → List ℕ → List ℕ → ℕ → Type 0
Taken w out0 block0 out block p =
    ((length out ≤ length out0) × (length block ≡ length block0 + p)) ⊎ ((8 * length out ≤ 8 * length out0 + 8 + w * 504) × (length block + 504 ≡ length block0 + p))

pub taken_pushed : (w : ℕ) (out0 block0 out block : List ℕ) (v count left some : ℕ) → some ≤ left → left ≤ count → Taken w out0 block0 out block (count - left) → Taken w out0 block0 out (block ++ replicate some v) (count - (left - some))
taken_pushed w out0 block0 out block v count left some few most t =
    let n : length (block ++ replicate some v) ≡ length block + some = length-append block (replicate some v) ∙ ap (λ (k : ℕ). length block + k) (length-replicate some v) in
    elim t [ inl a ↦ inl (a.0, omega (arith, a.1, n, few, most)) | inr b ↦ inr (b.0, omega (arith, b.1, n, few, most)) ]

-- ---- how many are packed

-- Of so many copies, those that are not left filled a group up, or are too few for a run. n is what stood in the block before.
abbrev pub IsFilling : ℕ → ℕ → ℕ → ℕ → Type 0
IsFilling many n count left = (n + (count - left) ≤ filled_up n) ⊎ ((left < many) × (n + count < filled_up n + many))

-- the numbers of the block
same_place : (w many : ℕ) (out0 block0 out block : List ℕ) (p : ℕ) → Taken w out0 block0 out block p → length block % 8 ≡ (length block0 + p) % 8
same_place w many out0 block0 out block p t = elim t [ inl a ↦ omega (arith, a.1) | inr b ↦ omega (arith, b.1) ]

pub filling_on : (w many : ℕ) (out0 block0 out block : List ℕ) (count left some : ℕ) → some ≤ left → left ≤ count → some + length block % 8 ≤ 8 → (left < many) ⊎ (0 < length block % 8) → Taken w out0 block0 out block (count - left) → IsFilling many (length block0) count left → IsFilling many (length block0) count (left - some)
filling_on w many out0 block0 out block count left some few most room t taken f = next t f
  where
    place : length block % 8 ≡ (length block0 + (count - left)) % 8
    place = same_place w many out0 block0 out block (count - left) taken

    next : (left < many) ⊎ (0 < length block % 8) → IsFilling many (length block0) count left → IsFilling many (length block0) count (left - some)
    next (inl less) (inl h) = inr (omega (arith, less), omega (arith, h, less, most))
    next (inr within) (inl h) = inl (omega (arith, h, few, most, within, place, room))
    next t (inr h) = inr (omega (arith, h.0), h.1)

pub taken_flushed : (w many : ℕ) (out0 block0 out block out' : List ℕ) (count left : ℕ) → many ≤ 32 → left ≤ count → length block0 < 504 → length block ≡ 504 → 8 * length out' ≤ 8 * length out + 8 + w * length block → IsFilling many (length block0) count left → Taken w out0 block0 out block (count - left) → Taken w out0 block0 out' [] (count - left)
taken_flushed w many out0 block0 out block out' count left few most room full size f t =
    let bits : w * length block ≡ w * 504 = ap (λ (k : ℕ). w * k) full in
    elim t [
      | inl a ↦ inr (omega (arith, a.0, size, bits), omega (arith, a.1, full))
      | inr b ↦ absurd (elim f [ inl g ↦ omega (arith, g, b.1, full, room) | inr g ↦ omega (arith, g.1, b.1, full, room, few) ])
    ]

pub some_pending : (b : Bool) (m : ℕ) → b ≡ true → b ≡ not (m == 0) → 0 < m
some_pending b zero t e = absurd (false≢true (sym e ∙ t))
some_pending b (suc m) t e = omega arith

pub none_pending : (b : Bool) (m : ℕ) → b ≡ false → b ≡ not (m == 0) → m ≡ 0
none_pending b m f e = by (eqb_tells m 0)
  where
    by : (((m == 0) ≡ true) × (m ≡ 0)) ⊎ (((m == 0) ≡ false) × (m ≢ 0)) → m ≡ 0
    by (inl same) = same.1
    by (inr other) = absurd (false≢true (sym f ∙ e ∙ ap not other.0))

-- ---- the bits of a stretch

-- the block's bits where the copies filled its last group up
filled : (w n q : ℕ) → n ≤ q → q ≤ filled_up n → q % 8 ≡ 0 → w * filled_up n ≡ w * q
filled w n q low high whole = let e : filled_up n ≡ q = omega (arith, low, high, whole) in ap (λ (k : ℕ). w * k) e

-- the copies that are left are a run of their own
pub run_taken : (w many count left : ℕ) (out0 block0 out block mid out' : List ℕ) → many ≤ left → left ≤ count → 0 < left → count < 2 ^ 62 → length block % 8 ≡ 0 → IsFilling many (length block0) count left → Taken w out0 block0 out block (count - left)
    → 8 * length mid ≤ 8 * length out + 8 + w * length block → length out' ≡ length mid + (length (varint (2 * left)) + bytes_for w) → Takes w out0 block0 out' [] (stretch_bits w * one_if_any count)
run_taken w many zero left out0 block0 out block mid out' enough most some below whole f t size e = absurd (omega (arith, some, most))
run_taken w many (suc c) left out0 block0 out block mid out' enough most some below whole f t size e =
    let one : stretch_bits w * 1 ≡ 14 * w + 152 = omega arith in
    let head : length (varint (2 * left)) ≤ 10 = (is_number (2 * left) (omega (arith, below, most))).short in
    let none : w * filled_up (length {A = ℕ} []) ≡ 0 = omega arith in
    let place : length block % 8 ≡ (length block0 + (suc c - left)) % 8 = same_place w many out0 block0 out block (suc c - left) t in
    let all : length block0 + (suc c - left) ≤ filled_up (length block0) = elim f [ inl a ↦ a | inr b ↦ absurd (omega (arith, b.0, enough)) ] in
    let bits : w * filled_up (length block0) ≡ w * (length block0 + (suc c - left)) = filled w (length block0) (length block0 + (suc c - left)) (omega arith) all (sym place ∙ whole) in
    let taken : 8 * length out + w * length block ≤ 8 * length out0 + 8 + w * filled_up (length block0) = elim t [
      | inl a ↦ let same : w * length block ≡ w * (length block0 + (suc c - left)) = ap (λ (k : ℕ). w * k) a.1 in omega (arith, a.0, same, bits)
      | inr b ↦ let same : w * (length block + 504) ≡ w * (length block0 + (suc c - left)) = ap (λ (k : ℕ). w * k) b.1 in let sum : w * (length block + 504) ≡ w * length block + w * 504 = omega arith in omega (arith, b.0, same, sum, bits)
    ] in
    finish (w * filled_up (length {A = ℕ} [])) (w * filled_up (length block0)) (w * length block) (stretch_bits w * 1) none one head taken refl
  where
    finish : (a b d s : ℕ) → a ≡ 0 → s ≡ 14 * w + 152 → length (varint (2 * left)) ≤ 10 → 8 * length out + d ≤ 8 * length out0 + 8 + b → d ≡ w * length block → 8 * length out' + a ≤ 8 * length out0 + b + s
    finish a b d s none one head taken is = omega (arith, none, one, head, taken, is, size, e)

-- all copies are packed
pub packed_taken : (w many count left : ℕ) (out0 block0 out block : List ℕ) → left ≡ 0 → w * many ≤ 8 * w + 24 → length block0 < 504 → IsFilling many (length block0) count left → Taken w out0 block0 out block (count - left) → Takes w out0 block0 out block (stretch_bits w * one_if_any count)
packed_taken w many zero left out0 block0 out block last high room f t =
    let none : stretch_bits w * 0 ≡ 0 = omega arith in
    elim t [
      | inl a ↦ let n : length block ≡ length block0 = omega (arith, a.1, last) in let same : w * filled_up (length block) ≡ w * filled_up (length block0) = ap (λ (k : ℕ). w * filled_up k) n in omega (arith, a.0, none, same)
      | inr b ↦ absurd (omega (arith, b.1, room, last))
    ]
packed_taken w many (suc c) left out0 block0 out block last high room f t =
    let one : stretch_bits w * 1 ≡ 14 * w + 152 = omega arith in
    let place : length block0 + (suc c - left) ≡ length block0 + suc c = omega (arith, last) in
    let few : length block0 + suc c < filled_up (length block0) + many ⊎ (length block0 + suc c ≤ filled_up (length block0)) = elim f [ inl a ↦ inr (omega (arith, a, place)) | inr b ↦ inl b.1 ] in
    let bits : w * (filled_up (length block0) + (many + 6)) ≤ w * filled_up (length block0) + 14 * w + 24 = let sum : w * (filled_up (length block0) + (many + 6)) ≡ w * filled_up (length block0) + (w * many + 6 * w) = omega arith in omega (arith, sum, high) in
    elim t [
      | inl a ↦
          let most : filled_up (length block) ≤ filled_up (length block0) + (many + 6) = elim few [ inl l ↦ omega (arith, a.1, place, l) | inr l ↦ omega (arith, a.1, place, l) ] in
          let more : w * filled_up (length block) ≤ w * (filled_up (length block0) + (many + 6)) = mul-le w _ w _ (omega arith) most in
          omega (arith, a.0, more, bits, one)
      | inr b ↦
          let most : filled_up (length block) + 504 ≤ filled_up (length block0) + (many + 6) = elim few [ inl l ↦ omega (arith, b.1, place, l) | inr l ↦ omega (arith, b.1, place, l) ] in
          let more : w * (filled_up (length block) + 504) ≤ w * (filled_up (length block0) + (many + 6)) = mul-le w _ w _ (omega arith) most in
          let sum : w * (filled_up (length block) + 504) ≡ w * filled_up (length block) + w * 504 = omega arith in
          omega (arith, b.0, more, sum, bits, one)
    ]
