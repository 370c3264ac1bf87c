-- Levels that are the bits of a word, and bytes.
use Rattle.std.proofs.Common.{◌≡◌, ℕ, zero, suc, ◌-◌, ◌*◌, ◌/◌, ◌%◌, ◌^◌, ◌<◌, ◌≤◌, ◌==◌, Bool, true, false, not, inl, inr, nat_le, nat_eq, min, List, [], ◌∷◌, map, length, replicate, get_or, refl, arith, ap, sym, ◌∙◌, pow-suc}
use Rattle.std.proofs.lemmas.Bool.Decides.{leb_tells, eqb_tells}
use Rattle.std.specs.Int.{bit_at}
use Rattle.std.proofs.lemmas.Nat.Bits.{bit_at-lt}
use Rattle.std.proofs.lemmas.List.{get_or-map}
use Rattle.columns_core.specs.Bits.{word_bits}
use Rattle.columns_core.proofs.Words.{ones_word, zeros_word}
use Rattle.read_laws.specs.Step.{bit}
use Rattle.read_state.specs.Told.{told}
use Rattle.read_state.proofs.Compared.{length-word, bit-of, word-at}

-- ---- the bits that are not set
not-bit : (r : ℕ) → r < 2 → ((1 - r) == 1) ≡ not (r == 1)
not-bit zero h = refl
not-bit (suc zero) h = refl
not-bit (suc (suc r)) h = absurd (omega (arith, h))

not-word : (n w : ℕ) → w < 2 ^ n → word_bits (2 ^ n - 1 - w) n ≡ map not (word_bits w n)
not-word zero w h = refl
not-word (suc n) w h =
    let p : 2 ^ suc n ≡ 2 ^ n * 2 = pow-suc 2 n in
    let low : (2 ^ suc n - 1 - w) % 2 ≡ 1 - w % 2 = omega (arith, p, h) in
    let high : (2 ^ suc n - 1 - w) / 2 ≡ 2 ^ n - 1 - w / 2 = omega (arith, p, h) in
    rw (low, high, not-bit (w % 2) (omega arith)) (ap (λ (bs : List Bool). not (w % 2 == 1) ∷ bs) (not-word n (w / 2) (omega (arith, p, h))))

-- ---- a level that is a bit, compared
module _ (f : ℕ → Bool) where
  all-same : (b : Bool) → f 1 ≡ b → f 0 ≡ b → (bs : List Bool) → replicate (length bs) b ≡ map f (map bit bs)
  all-same b one none [] = refl
  all-same b one none (true ∷ bs) = ap (λ (cs : List Bool). b ∷ cs) (all-same b one none bs) ∙ ap (λ (c : Bool). c ∷ map f (map bit bs)) (sym one)
  all-same b one none (false ∷ bs) = ap (λ (cs : List Bool). b ∷ cs) (all-same b one none bs) ∙ ap (λ (c : Bool). c ∷ map f (map bit bs)) (sym none)

  as-set : f 1 ≡ true → f 0 ≡ false → (bs : List Bool) → bs ≡ map f (map bit bs)
  as-set one none [] = refl
  as-set one none (true ∷ bs) = ap (λ (cs : List Bool). true ∷ cs) (as-set one none bs) ∙ ap (λ (c : Bool). c ∷ map f (map bit bs)) (sym one)
  as-set one none (false ∷ bs) = ap (λ (cs : List Bool). false ∷ cs) (as-set one none bs) ∙ ap (λ (c : Bool). c ∷ map f (map bit bs)) (sym none)

  not-set : f 1 ≡ false → f 0 ≡ true → (bs : List Bool) → map not bs ≡ map f (map bit bs)
  not-set one none [] = refl
  not-set one none (true ∷ bs) = ap (λ (cs : List Bool). false ∷ cs) (not-set one none bs) ∙ ap (λ (c : Bool). c ∷ map f (map bit bs)) (sym one)
  not-set one none (false ∷ bs) = ap (λ (cs : List Bool). true ∷ cs) (not-set one none bs) ∙ ap (λ (c : Bool). c ∷ map f (map bit bs)) (sym none)

  pub all-word : f 1 ≡ true → f 0 ≡ true → (w : ℕ) → word_bits 18446744073709551615 64 ≡ map f (map bit (word_bits w 64))
  all-word one none w = ones_word 64 (omega arith) ∙ (ap (λ (k : ℕ). replicate k true) (sym (length-word w 64)) ∙ all-same true one none (word_bits w 64))

  pub no-word : f 1 ≡ false → f 0 ≡ false → (w : ℕ) → word_bits 0 64 ≡ map f (map bit (word_bits w 64))
  no-word one none w = zeros_word 64 ∙ (ap (λ (k : ℕ). replicate k false) (sym (length-word w 64)) ∙ all-same false one none (word_bits w 64))

  pub set-word : f 1 ≡ true → f 0 ≡ false → (w : ℕ) → word_bits w 64 ≡ map f (map bit (word_bits w 64))
  set-word one none w = as-set one none (word_bits w 64)

  pub clear-word : f 1 ≡ false → f 0 ≡ true → (w : ℕ) → w < 2 ^ 64 → word_bits (2 ^ 64 - 1 - w) 64 ≡ map f (map bit (word_bits w 64))
  clear-word one none w h = not-word 64 w h ∙ not-set one none (word_bits w 64)

pub le-is : (a b : ℕ) → a ≤ b → nat_le a b ≡ true
le-is a b h = elim (leb_tells a b) [ inl e ↦ e.0 | inr e ↦ absurd (omega (arith, h, e.1)) ]

pub le-not : (a b : ℕ) → b < a → nat_le a b ≡ false
le-not a b h = elim (leb_tells a b) [ inl e ↦ absurd (omega (arith, h, e.1)) | inr e ↦ e.0 ]

pub eq-is : (a b : ℕ) → a ≡ b → nat_eq a b ≡ true
eq-is a b h = elim (eqb_tells a b) [ inl e ↦ e.0 | inr e ↦ absurd (e.1 h) ]

pub eq-not : (a b : ℕ) → (a ≡ b → ⊥) → nat_eq a b ≡ false
eq-not a b h = elim (eqb_tells a b) [ inl e ↦ absurd (h e.1) | inr e ↦ e.0 ]

-- ---- levels that are not above 255
pub bytes-low : (xs : List ℕ) → ((k : ℕ) → get_or xs k 0 < 256) → xs ≡ map (λ d. min d 255) xs
bytes-low [] h = refl
bytes-low (x ∷ xs) h =
    let low : x ≡ min x 255 = omega (arith, h 0) in
    ap (λ (ys : List ℕ). x ∷ ys) (bytes-low xs (λ k. h (suc k))) ∙ ap (λ (y : ℕ). y ∷ map (λ d. min d 255) xs) low

pub bits-low : (bs : List Bool) → map bit bs ≡ map (λ d. min d 255) (map bit bs)
bits-low [] = refl
bits-low (true ∷ bs) = ap (λ (ys : List ℕ). 1 ∷ ys) (bits-low bs)
bits-low (false ∷ bs) = ap (λ (ys : List ℕ). 0 ∷ ys) (bits-low bs)

pub told-low : (are_bits : Bool) (word : ℕ) (bytes : List ℕ) → bytes ≡ map (λ d. min d 255) bytes → told are_bits word bytes ≡ map (λ d. min d 255) (told are_bits word bytes)
told-low true word bytes h = bits-low (word_bits word 64)
told-low false word bytes h = h

-- the highest bit of a word
pub last-bit : (word : ℕ) → word < 2 ^ 64 → word / 2 ^ 63 ≡ get_or (map bit (word_bits word 64)) 63 0
last-bit word h =
    let one : word / 2 ^ 63 ≡ bit_at word 63 = omega (arith, h) in
    one ∙ (sym (bit-of (bit_at word 63) (bit_at-lt word 63)) ∙ (ap bit (sym (word-at 64 word 63 (omega arith))) ∙ sym (get_or-map bit (word_bits word 64) 63 false 0 (omega (arith, length-word word 64)))))
