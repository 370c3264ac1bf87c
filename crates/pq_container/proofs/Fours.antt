-- Four bytes by their number.
use Rattle.std.proofs.Common.{◌≡◌, ℕ, zero, suc, ◌+◌, ◌<◌, ◌≤◌, List, [], ◌∷◌, length, take, drop, slice_index_or, Fits, w8, arith, ◌-◌, refl, sym, ap, ◌∙◌, lit<}
use Rattle.std.proofs.lemmas.List.{length-take-le, length-drop, take_all}
use Rattle.pq_metadata.specs.Frame.{magic, EndsEncrypted}
use Rattle.pq_numbers.specs.Texts.{number_of}

abbrev pub AreBytes : List ℕ → Type 0
AreBytes [] = Unit {0}
AreBytes (b ∷ bs) = (b < 256) × AreBytes bs

is_byte : (b : ℕ) → Fits w8 b → b < 256
is_byte b h = h.fits

pub are_bytes : (s : List ℕ) → ((i : ℕ) → Fits w8 (slice_index_or s i 0)) → AreBytes s
are_bytes [] h = tt
are_bytes (b ∷ bs) h = (is_byte b (h 0), are_bytes bs (λ i. h (suc i)))

taken : (n : ℕ) (s : List ℕ) → AreBytes s → AreBytes (take n s)
taken zero s h = tt
taken (suc n) [] h = tt
taken (suc n) (b ∷ bs) h = (h.0, taken n bs h.1)

dropped : (n : ℕ) (s : List ℕ) → AreBytes s → AreBytes (drop n s)
dropped zero s h = h
dropped (suc n) [] h = tt
dropped (suc n) (b ∷ bs) h = dropped n bs h.1

-- four bytes by their number
four_same : (s t : List ℕ) → length s ≡ 4 → length t ≡ 4 → AreBytes s → AreBytes t → number_of s ≡ number_of t → s ≡ t
four_same (a ∷ b ∷ c ∷ d ∷ []) (w ∷ x ∷ y ∷ z ∷ []) m n h k e =
    let ea : a ≡ w = omega (arith, e, h.0, h.1.0, h.1.1.0, h.1.1.1.0, k.0, k.1.0, k.1.1.0, k.1.1.1.0) in
    let eb : b ≡ x = omega (arith, e, h.0, h.1.0, h.1.1.0, h.1.1.1.0, k.0, k.1.0, k.1.1.0, k.1.1.1.0) in
    let ec : c ≡ y = omega (arith, e, h.0, h.1.0, h.1.1.0, h.1.1.1.0, k.0, k.1.0, k.1.1.0, k.1.1.1.0) in
    let ed : d ≡ z = omega (arith, e, h.0, h.1.0, h.1.1.0, h.1.1.1.0, k.0, k.1.0, k.1.1.0, k.1.1.1.0) in
    λ i. ea i ∷ eb i ∷ ec i ∷ ed i ∷ []
four_same [] t m n h k e = absurd (omega (arith, m))
four_same (a ∷ []) t m n h k e = absurd (omega (arith, m))
four_same (a ∷ b ∷ []) t m n h k e = absurd (omega (arith, m))
four_same (a ∷ b ∷ c ∷ []) t m n h k e = absurd (omega (arith, m))
four_same (a ∷ b ∷ c ∷ d ∷ v ∷ s) t m n h k e = absurd (omega (arith, m))
four_same (a ∷ b ∷ c ∷ d ∷ []) [] m n h k e = absurd (omega (arith, n))
four_same (a ∷ b ∷ c ∷ d ∷ []) (w ∷ []) m n h k e = absurd (omega (arith, n))
four_same (a ∷ b ∷ c ∷ d ∷ []) (w ∷ x ∷ []) m n h k e = absurd (omega (arith, n))
four_same (a ∷ b ∷ c ∷ d ∷ []) (w ∷ x ∷ y ∷ []) m n h k e = absurd (omega (arith, n))
four_same (a ∷ b ∷ c ∷ d ∷ []) (w ∷ x ∷ y ∷ z ∷ v ∷ t) m n h k e = absurd (omega (arith, n))

are_here : (bytes : List ℕ) (at : ℕ) → ((i : ℕ) → Fits w8 (slice_index_or bytes i 0)) → AreBytes (take 4 (drop at bytes))
are_here bytes at h = taken 4 (drop at bytes) (dropped at bytes (are_bytes bytes h))

four_here : (bytes : List ℕ) (at : ℕ) → at + 4 ≤ length bytes → length (take 4 (drop at bytes)) ≡ 4
four_here bytes at le = length-take-le 4 (drop at bytes) (omega (arith, le, length-drop at bytes))

pub magic_at : (bytes : List ℕ) (at : ℕ) → ((i : ℕ) → Fits w8 (slice_index_or bytes i 0)) → at + 4 ≤ length bytes → number_of (take 4 (drop at bytes)) ≡ 827474256 → take 4 (drop at bytes) ≡ magic
magic_at bytes at h le e = four_same (take 4 (drop at bytes)) magic (four_here bytes at le) refl (are_here bytes at h) (lit< tt, (lit< tt, (lit< tt, (lit< tt, tt)))) e

-- the last four bytes
pub encrypted_end : (bytes : List ℕ) → ((i : ℕ) → Fits w8 (slice_index_or bytes i 0)) → 4 ≤ length bytes → number_of (take 4 (drop (length bytes - 4) bytes)) ≡ 1163018576 → EndsEncrypted bytes
encrypted_end bytes h le e =
    let all : take 4 (drop (length bytes - 4) bytes) ≡ drop (length bytes - 4) bytes = take_all 4 (drop (length bytes - 4) bytes) (omega (arith, le, length-drop (length bytes - 4) bytes)) in
    sym all ∙ four_same (take 4 (drop (length bytes - 4) bytes)) (80 ∷ 65 ∷ 82 ∷ 69 ∷ []) (four_here bytes (length bytes - 4) (omega (arith, le))) refl (are_here bytes (length bytes - 4) h) (lit< tt, (lit< tt, (lit< tt, (lit< tt, tt)))) e

pub encrypted_number : (bytes : List ℕ) → EndsEncrypted bytes → number_of (take 4 (drop (length bytes - 4) bytes)) ≡ 1163018576
encrypted_number bytes h = ap (λ s. number_of (take 4 s)) h

pub encrypted_long : (bytes : List ℕ) → EndsEncrypted bytes → 4 ≤ length bytes
encrypted_long bytes h = omega (arith, ap length h, length-drop (length bytes - 4) bytes)
