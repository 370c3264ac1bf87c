-- Pairs that begin a row each.
use Rattle.std.proofs.Common.{◌≡◌, ℕ, zero, suc, ◌/◌, ◌%◌, ◌<◌, ◌≤◌, ◌++◌, inl, inr, map, Bool, true, false, nat_le, Ok, List, [], ◌∷◌, length, replicate, get_or, refl, arith, ap, sym, ◌∙◌, append-nil}
use Rattle.std.proofs.lemmas.Bool.Decides.{leb_tells}
use Rattle.std.proofs.lemmas.List.{length-replicate}
use Rattle.pq_numbers.specs.Bits.{digits_of}
use Rattle.pq_runs.specs.Hybrid.{Item as LevelItem, given}
use Rattle.columns_core.specs.Bits.{word_bits}
use Rattle.read_laws.specs.Step.{bit}
use Rattle.read_state.proofs.Compared.{bit-of}
use Rattle.shredding.specs.Slot.{Slot}
use Rattle.columns_base.specs.declared.error.Error.{Error}
use Rattle.read_walk.specs.Gives.{Decoded, called, mixed}
use Rattle.read_walk.specs.Values.{Stored, DecodesMixed, ones, CannotDecode}
use Rattle.read_walk.proofs.Decoding.{decoded-none, front-mixed, cannot-first}
use Rattle.read_walk.specs.Pairs.{Item, zip_items, block_items, pair_items, up_to_maxima, behind}
use Rattle.read_walk.proofs.Zips.{zip-even}

-- a word's bits as numbers
pub word-digits : (n w : ℕ) → map bit (word_bits w n) ≡ digits_of 2 n w
word-digits zero w = refl
word-digits (suc n) w = rw (bit-of (w % 2) (omega arith)) (ap (λ (ds : List ℕ). w % 2 ∷ ds) (word-digits n (w / 2)))

-- no bit is set in 0
pub no-bits : (n : ℕ) → map bit (word_bits 0 n) ≡ replicate n 0
no-bits zero = refl
no-bits (suc n) = ap (λ (ds : List ℕ). 0 ∷ ds) (no-bits n)

pub zeros-at : (n k : ℕ) → ◌≡◌ {A = ℕ} (get_or (replicate n 0) k 0) 0
zeros-at zero k = refl
zeros-at (suc n) zero = refl
zeros-at (suc n) (suc k) = zeros-at n k

all-from : (d : ℕ) → nat_le 0 d ≡ true
all-from d = elim (leb_tells 0 d) [ inl e ↦ e.0 | inr e ↦ absurd (omega (arith, e.1)) ]

pub bits-decoded : (floor top : ℕ) (ds : List ℕ) (bits : List Bool) (left left' : List Stored) (slots slots' : List Slot) → floor ≤ top → bits ≡ mixed floor top ds → DecodesMixed bits left left' slots slots' → Decoded floor top ds left left' slots slots'
bits-decoded floor top ds bits left left' slots slots' h e r = rw (append-nil ds) at (front-mixed floor top ds [] bits left left' left' slots slots' slots' h e r (decoded-none floor top left' slots'))

pub bits-cannot : (most floor top : ℕ) (ds : List ℕ) (bits : List Bool) (left : List Stored) (slots : List Slot) (e : Error) → floor ≤ top → bits ≡ mixed floor top ds → CannotDecode most (ones bits) left slots e → CannotDecode most (called top ds) left slots e
bits-cannot most floor top ds bits left slots e h b c = rw (append-nil ds) at (cannot-first most floor top ds [] bits left slots e h b c)

module _ (mr md : ℕ) where
  goes-on : (d : ℕ) (is : List Item) → d ≤ md → up_to_maxima mr md (Ok (0, d) ∷ is) ≡ Ok (0, d) ∷ up_to_maxima mr md is
  goes-on d is h =
      let b : nat_le d md ≡ true = elim (leb_tells d md) [ inl e ↦ e.0 | inr e ↦ absurd (omega (arith, e.1, h)) ] in
      rw (all-from mr, b) refl

  flat-within : (ds : List ℕ) (n : ℕ) (t : List Item) → length ds ≡ n → ((k : ℕ) → k < length ds → get_or ds k 0 ≤ md) → up_to_maxima mr md (pair_items (replicate n 0) ds ++ t) ≡ pair_items (replicate n 0) ds ++ up_to_maxima mr md t
  flat-within [] zero t e h = refl
  flat-within [] (suc n) t e h = absurd (omega (arith, e))
  flat-within (d ∷ ds) zero t e h = absurd (omega (arith, e))
  flat-within (d ∷ ds) (suc n) t e h = goes-on d (pair_items (replicate n 0) ds ++ t) (h 0 (omega arith)) ∙ ap (λ (is : List Item). Ok (0, d) ∷ is) (flat-within ds n t (omega (arith, e)) (λ k l. h (suc k) (omega (arith, l))))

  pub flat-first : (n at r : ℕ) (ds : List ℕ) (f : Bool) (xs ys : List ℕ) (rs ds0 rs' ds' : List LevelItem) → f ≡ false → at ≡ 0 → length ds ≡ n → ((k : ℕ) → k < length ds → get_or ds k 0 ≤ md) → r ≡ 0 → rs ≡ given (replicate n r) ++ rs' → ds0 ≡ given ds ++ ds' → (a : ℕ) → block_items xs ys a at ++ behind mr md f rs ds0 ≡ pair_items (replicate n 0) ds ++ (block_items xs ys a at ++ behind mr md f rs' ds')
  flat-first n at r ds f xs ys rs ds0 rs' ds' e z size within o p q a =
      rw (e, z, p, q, o) (ap (up_to_maxima mr md) (zip-even (replicate n 0) ds rs' ds' (length-replicate n 0 ∙ sym size)) ∙ flat-within ds n (zip_items rs' ds') size within)

  -- the same of other repetition levels
  both-on : (r d : ℕ) (is : List Item) → r ≤ mr → d ≤ md → up_to_maxima mr md (Ok (r, d) ∷ is) ≡ Ok (r, d) ∷ up_to_maxima mr md is
  both-on r d is g h =
      let a : nat_le r mr ≡ true = elim (leb_tells r mr) [ inl e ↦ e.0 | inr e ↦ absurd (omega (arith, e.1, g)) ] in
      let b : nat_le d md ≡ true = elim (leb_tells d md) [ inl e ↦ e.0 | inr e ↦ absurd (omega (arith, e.1, h)) ] in
      rw (a, b) refl

  both-within : (rs ds : List ℕ) (t : List Item) → length ds ≡ length rs → ((k : ℕ) → k < length rs → get_or rs k 0 ≤ mr) → ((k : ℕ) → k < length ds → get_or ds k 0 ≤ md) → up_to_maxima mr md (pair_items rs ds ++ t) ≡ pair_items rs ds ++ up_to_maxima mr md t
  both-within [] [] t e g h = refl
  both-within [] (d ∷ ds) t e g h = absurd (omega (arith, e))
  both-within (r ∷ rs) [] t e g h = absurd (omega (arith, e))
  both-within (r ∷ rs) (d ∷ ds) t e g h = both-on r d (pair_items rs ds ++ t) (g 0 (omega arith)) (h 0 (omega arith)) ∙ ap (λ (is : List Item). Ok (r, d) ∷ is) (both-within rs ds t (omega (arith, e)) (λ k l. g (suc k) (omega (arith, l))) (λ k l. h (suc k) (omega (arith, l))))

  pub told-first : (at : ℕ) (rs ds : List ℕ) (f : Bool) (xs ys : List ℕ) (rs0 ds0 rs' ds' : List LevelItem) → f ≡ false → at ≡ 0 → length ds ≡ length rs → ((k : ℕ) → k < length rs → get_or rs k 0 ≤ mr) → ((k : ℕ) → k < length ds → get_or ds k 0 ≤ md) → rs0 ≡ given rs ++ rs' → ds0 ≡ given ds ++ ds' → (a : ℕ) → block_items xs ys a at ++ behind mr md f rs0 ds0 ≡ pair_items rs ds ++ (block_items xs ys a at ++ behind mr md f rs' ds')
  told-first at rs ds f xs ys rs0 ds0 rs' ds' e z size g h p q a =
      rw (e, z, p, q) (ap (up_to_maxima mr md) (zip-even rs ds rs' ds' (sym size)) ∙ both-within rs ds (zip_items rs' ds') size g h)
