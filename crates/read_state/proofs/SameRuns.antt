-- What two runs share from a place on.
use Rattle.std.proofs.Common.{◌≡◌, ℕ, ℤ, pos, suc, ◌+◌, ◌-◌, ◌*◌, ◌/◌, ◌<◌, ◌≤◌, inl, inr, subst, List, [], ◌∷◌, length, drop, get_or, refl, arith, ap, sym, ◌∙◌, add-one}
use Rattle.std.specs.Prelude.{slice_index_or}
use Rattle.std.proofs.lemmas.Bool.{cases_lt}
use Rattle.std.proofs.lemmas.List.{drop_all}
use Rattle.std.proofs.Math.Seq.{drop-cons}
use Rattle.columns_core.specs.Bits.{bits_from, bit_of}
use Rattle.columns_core.proofs.Bits.{same_bits}
use Rattle.columns_core.proofs.Packed.{same_part, same_more}
use Rattle.read_state.specs.Kinds.{start_of, starts_of}

-- the same from a place on is the same from the beginning, and the other way round
pub record AreAlike (whole whole' rest rest' : List ℕ) : Type 0 where
  pub all : rest ≡ rest' → whole ≡ whole'
  pub each : whole ≡ whole' → rest ≡ rest'

starts-at : (xs : List ℤ) (i : ℕ) → i < length xs → starts_of (drop i xs) ≡ start_of (get_or xs i (pos 0)) ∷ starts_of (drop (i + 1) xs)
starts-at xs i h = rw add-one (ap starts_of (drop-cons xs i (pos 0) h))

module _ (a b : List ℤ) (i : ℕ) (h : i < length a) (k : i < length b) (so : AreAlike (starts_of a) (starts_of b) (starts_of (drop i a)) (starts_of (drop i b))) where
  pub lengths-next : start_of (get_or a i (pos 0)) ≡ start_of (get_or b i (pos 0)) → AreAlike (starts_of a) (starts_of b) (starts_of (drop (i + 1) a)) (starts_of (drop (i + 1) b))
  lengths-next e =
      let x = starts-at a i h in
      let y = starts-at b i k in
      record {
        all = λ r. so.all (x ∙ (rw (e, r) (sym y)));
        each = λ w. let both = sym x ∙ (so.each w ∙ y) in cc;
      }

  pub lengths-differ : starts_of a ≡ starts_of b → start_of (get_or a i (pos 0)) ≡ start_of (get_or b i (pos 0))
  lengths-differ w = let both = sym (starts-at a i h) ∙ (so.each w ∙ starts-at b i k) in cc

none-behind : (xs : List ℤ) (i : ℕ) → length xs ≤ i → starts_of (drop i xs) ≡ []
none-behind xs i h = ap starts_of (drop_all i xs h)

pub lengths-end : (a b : List ℤ) (i : ℕ) → length a ≤ i → length b ≤ i → AreAlike (starts_of a) (starts_of b) (starts_of (drop i a)) (starts_of (drop i b)) → starts_of a ≡ starts_of b
lengths-end a b i h k so = so.all (none-behind a i h ∙ sym (none-behind b i k))

-- ---- bits
-- one more item that is the same
pub items-more : (a b : List ℕ) (i : ℕ) → ((j : ℕ) → j < i → slice_index_or a j 0 ≡ slice_index_or b j 0) → slice_index_or a i 0 ≡ slice_index_or b i 0 → (j : ℕ) → j < i + 1 → slice_index_or a j 0 ≡ slice_index_or b j 0
items-more a b i before here j h = elim (cases_lt j i) [
  | inl k ↦ before j k
  | inr k ↦ let e : i ≡ j = omega (arith, h, k) in subst (λ (n : ℕ). slice_index_or a n 0 ≡ slice_index_or b n 0) e here
]

-- the bits of bytes that are the same
pub bits-of-bytes : (a b : List ℕ) (count : ℕ) → ((i : ℕ) → i < count → slice_index_or a i 0 ≡ slice_index_or b i 0) → bits_from a 0 (8 * count) ≡ bits_from b 0 (8 * count)
bits-of-bytes a b count same = same_bits a b 0 (8 * count) (λ i l h. let e = same (i / 8) (omega (arith, h)) in rw e refl)

pub record HaveSameBits (a b : List ℕ) (count i : ℕ) : Type 0 where
  pub all : bits_from a i (count - i) ≡ bits_from b i (count - i) → bits_from a 0 count ≡ bits_from b 0 count
  pub each : bits_from a 0 count ≡ bits_from b 0 count → bits_from a i (count - i) ≡ bits_from b i (count - i)

bits-at : (a : List ℕ) (count i : ℕ) → i < count → bits_from a i (count - i) ≡ bit_of a i ∷ bits_from a (i + 1) (count - (i + 1))
bits-at a count i h = let e : count - i ≡ suc (count - (i + 1)) = omega (arith, h) in rw e refl

module _ (a b : List ℕ) (count i : ℕ) (h : i < count) (so : HaveSameBits a b count i) where
  pub bits-next : bit_of a i ≡ bit_of b i → HaveSameBits a b count (i + 1)
  bits-next e =
      let x = bits-at a count i h in
      let y = bits-at b count i h in
      record {
        all = λ r. so.all (x ∙ (rw (e, r) (sym y)));
        each = λ w. let both = sym x ∙ (so.each w ∙ y) in cc;
      }

  pub bits-differ : bits_from a 0 count ≡ bits_from b 0 count → bit_of a i ≡ bit_of b i
  bits-differ w = let both = sym (bits-at a count i h) ∙ (so.each w ∙ bits-at b count i h) in cc

-- so many first bits are the same
pub bits-known : (a b : List ℕ) (count known : ℕ) → known ≤ count → bits_from a 0 known ≡ bits_from b 0 known → HaveSameBits a b count known
bits-known a b count known within same =
    let whole : count ≡ known + (count - known) = omega (arith, within) in
    let sum : known + (count - known) ≤ count = omega (arith, within) in
    let at : 0 + known ≡ known = omega arith in
    record {
      all = λ r. same_more a b 0 0 known (count - known) count whole same (rw at r);
      each = λ w. rw at at (same_part a b 0 0 count known (count - known) sum w);
    }
