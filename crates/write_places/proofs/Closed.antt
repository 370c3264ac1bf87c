-- Lists that are there or have no items, by words.
use Rattle.std.proofs.Common.{◌≡◌, ◌≢◌, ℕ, zero, suc, ◌+◌, ◌-◌, ◌*◌, ◌%◌, ◌^◌, ◌≤◌, ◌<◌, Bool, true, false, true≢false, ◌⊎◌, inl, inr, List, refl, ap, sym, subst, ◌∙◌, arith}
use Rattle.std.specs.Prelude.{◌==◌, bit_xor}
use Rattle.std.specs.Int.{bit_at}
use Rattle.std.proofs.lemmas.Bool.{cases_lt}
use Rattle.std.proofs.lemmas.Nat.Bits.{bit_at_xor, bit_at_ones, bit_at-lt}
use Rattle.shredding.specs.Parts.{Part, item_start}
use Rattle.write_places.specs.Reach.{AreClosed}
use Rattle.write_places.specs.There.{is_there}
use Rattle.write_places.proofs.Picked.{cleared_bit}

-- of the low bits of a word those that are not set are set in the other one
pub all_wait : (word count i : ℕ) (ones : ℕ) → ones ≡ 2 ^ count - 1 → i < count → bit_at word i ≡ 0 → bit_at (bit_xor word ones) i ≡ 0 → ⊥
all_wait word count i ones e h z x =
    let one : bit_at ones i ≡ 1 = ap (λ (k : ℕ). bit_at k i) e ∙ bit_at_ones count i h in
    let set : bit_at (bit_xor word ones) i ≡ (0 + 1) % 2 = bit_at_xor word ones i ∙ rw (z, one) refl in
    omega (arith, set, x)

-- a bit that is not set without another one is that one, or was not set before
pub waits_no_more : (left t i : ℕ) → t < 64 → bit_at (bit_xor left (1 * 2 ^ t % 2 ^ 64)) i ≡ 0 → (i ≡ t) ⊎ (bit_at left i ≡ 0)
waits_no_more left t i h z = below (cases_lt i t)
  where
    other : i ≢ t → bit_at left i ≡ 0
    other n = sym (cleared_bit left t i h n) ∙ z

    above : t ≤ i → (t < i) ⊎ (i ≤ t) → (i ≡ t) ⊎ (bit_at left i ≡ 0)
    above l (inl g) = inr (other (λ e. omega (arith, g, e)))
    above l (inr g) = inl (omega (arith, l, g))

    below : (i < t) ⊎ (t ≤ i) → (i ≡ t) ⊎ (bit_at left i ≡ 0)
    below (inl g) = inr (other (λ e. omega (arith, g, e)))
    below (inr g) = above g (cases_lt t i)

-- the lists that wait without the first of them, which has no items
pub closed_without : (offsets : List ℕ) (place count word left t : ℕ) → t < 64 → ((i : ℕ) → i < count → bit_at word i ≡ 0 → bit_at left i ≡ 0 → item_start offsets (place + i) ≡ item_start offsets (place + i + 1)) → item_start offsets (place + t) ≡ item_start offsets (place + t + 1) → (i : ℕ) → i < count → bit_at word i ≡ 0 → bit_at (bit_xor left (1 * 2 ^ t % 2 ^ 64)) i ≡ 0 → item_start offsets (place + i) ≡ item_start offsets (place + i + 1)
closed_without offsets place count word left t few before here i h z x = by_bit (waits_no_more left t i few x)
  where
    by_bit : (i ≡ t) ⊎ (bit_at left i ≡ 0) → item_start offsets (place + i) ≡ item_start offsets (place + i + 1)
    by_bit (inl e) = rw e here
    by_bit (inr y) = before i h z y

not_set : (b : ℕ) → b < 2 → (b == 1) ≡ false → b ≡ 0
not_set zero h e = refl
not_set (suc zero) h e = absurd (true≢false e)
not_set (suc (suc b)) h e = absurd (omega (arith, h))

-- the lists of a word behind others
pub closed_more : (parts : List Part) (offsets : List ℕ) (place end count word more : ℕ) → AreClosed parts offsets place end → ((j : ℕ) → j < count → (bit_at word j == 1) ≡ is_there parts (end + j)) → more ≤ count → ((j : ℕ) → j < more → bit_at word j ≡ 0 → item_start offsets (end + j) ≡ item_start offsets (end + j + 1)) → AreClosed parts offsets place (end + more)
closed_more parts offsets place end count word more before bits few closed i low high absent = by_order (cases_lt i end)
  where
    by_order : (i < end) ⊎ (end ≤ i) → item_start offsets i ≡ item_start offsets (i + 1)
    by_order (inl h) = before i low h absent
    by_order (inr h) =
        let n : end + (i - end) ≡ i = omega (arith, h) in
        let j : i - end < more = omega (arith, h, high) in
        let unset = not_set (bit_at word (i - end)) (bit_at-lt word (i - end)) (bits (i - end) (omega (arith, j, few)) ∙ (ap (is_there parts) n ∙ absent)) in
        rw n at (closed (i - end) j unset)
