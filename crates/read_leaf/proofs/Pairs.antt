-- Plain numbers among nulls, by pairs of slots.
use Rattle.std.proofs.Common.{◌≡◌, ℕ, ◌+◌, ◌-◌, ◌*◌, ◌/◌, ◌%◌, ◌^◌, ◌<◌, ◌≤◌, ◌==◌, ℤ, Bool, true, false, Option, Some, List, [], ◌∷◌, ◌++◌, take, drop, replicate, refl, arith, ap, sym, subst, ◌∙◌}
use Rattle.std.proofs.Math.Nat.{mul-div-le}
use Rattle.std.proofs.lemmas.Nat.{mul-le, shr-shr}
use Rattle.std.proofs.lemmas.List.{drop-drop}
use Rattle.columns_core.specs.Bits.{word_bits}
use Rattle.read_walk.specs.Values.{ones}
use Rattle.read_leaf.specs.Numbers.{TookNumbers, TookOne, TookMixed}
use Rattle.read_leaf.proofs.Grouped.{ones-next, ones-true, slot-read, mixed-all}
use Rattle.read_leaf.proofs.MixedNumbers.{IsMixing, mixing-more}
use Rattle.read_leaf.proofs.SetBits.{length-bits, most-ones}

-- eight slots from a place on find their numbers in the bytes
pub eights-within : (size valid done at n len : ℕ) → at ≡ ones (word_bits valid done) → done + 8 ≤ n → n ≤ len / size → size * (at + 8) ≤ len
eights-within size valid done at n len e h g =
    let few : at + 8 ≤ len / size = omega (arith, e, most-ones (word_bits valid done), length-bits valid done, h, g) in
    omega (arith, mul-le size (at + 8) size (len / size) (omega arith) few, mul-div-le len size)

pub done-within : (size valid done at n len : ℕ) → at ≡ ones (word_bits valid done) → done ≤ n → n ≤ len / size → size * at ≤ len
done-within size valid done at n len e h g =
    let few : at ≤ len / size = omega (arith, e, most-ones (word_bits valid done), length-bits valid done, h, g) in
    omega (arith, mul-le size at size (len / size) (omega arith) few, mul-div-le len size)

pub all-set : (word : ℕ) → word % 256 ≡ 255 → word_bits word 8 ≡ replicate 8 true
all-set word h =
    let a : word % 2 ≡ 1 = omega (arith, h) in
    let b : word / 2 % 2 ≡ 1 = omega (arith, h) in
    let c : word / 2 / 2 % 2 ≡ 1 = omega (arith, h) in
    let d : word / 2 / 2 / 2 % 2 ≡ 1 = omega (arith, h) in
    let e : word / 2 / 2 / 2 / 2 % 2 ≡ 1 = omega (arith, h) in
    let f : word / 2 / 2 / 2 / 2 / 2 % 2 ≡ 1 = omega (arith, h) in
    let g : word / 2 / 2 / 2 / 2 / 2 / 2 % 2 ≡ 1 = omega (arith, h) in
    let i : word / 2 / 2 / 2 / 2 / 2 / 2 / 2 % 2 ≡ 1 = omega (arith, h) in
    rw (a, b, c, d, e, f, g, i) refl

-- a pair's numbers find place among the eight that stand behind the first
pub pair-within : (size word i len : ℕ) → i < 8 → size * 9 ≤ len → size * ones (word_bits word i) + size + size ≤ len
pair-within size word i len h e =
    let few : ones (word_bits word i) + 2 ≤ 9 = omega (arith, most-ones (word_bits word i), length-bits word i, h) in
    omega (arith, mul-le size (ones (word_bits word i) + 2) size 9 (omega arith) few, e)

module _ (loaded : ℤ → Option ℤ) (spelled : List ℕ → ℤ) (size : ℕ) where
  -- the number right before that of the next slot is the slot's own, where its bit is set
  pair-first : (word j : ℕ) (source : List ℕ) (z : ℤ) → loaded (spelled (take size (drop (size * ones (word_bits word (j + 1))) source))) ≡ Some z → TookOne loaded spelled size (word / 2 ^ j % 2 == 1) (drop (size * ones (word_bits word j)) (drop size source)) (drop (size * ones (word_bits word (j + 1))) (drop size source)) z
  pair-first word j source z e = by (word / 2 ^ j % 2 == 1) (ones-next word j)
    where
      by : (b : Bool) → ones (word_bits word (j + 1)) ≡ ones (word_bits word j) + ones (b ∷ []) → TookOne loaded spelled size b (drop (size * ones (word_bits word j)) (drop size source)) (drop (size * ones (word_bits word (j + 1))) (drop size source)) z
      by true n =
          let k : ℕ = ones (word_bits word j) in
          let one : ones (word_bits word (j + 1)) ≡ k + 1 = n in
          let place : size * k + size ≡ size * ones (word_bits word (j + 1)) = rw one (omega arith) in
          let other : size + size * k ≡ size * ones (word_bits word (j + 1)) = omega (arith, place) in
          let same : drop (size * ones (word_bits word (j + 1))) source ≡ drop (size * k) (drop size source) = ap (λ (i : ℕ). drop i source) (sym other) ∙ sym (drop-drop (size * k) size source) in
          (subst (λ (bs : List ℕ). loaded (spelled (take size bs)) ≡ Some z) same e, sym (drop-drop size (size * k) (drop size source) ∙ ap (λ (i : ℕ). drop i (drop size source)) place))
      by false n =
          let same : ones (word_bits word (j + 1)) ≡ ones (word_bits word j) = n ∙ omega arith in
          ap (λ (k : ℕ). drop (size * k) (drop size source)) same

  pub pair-more : (word i : ℕ) (source : List ℕ) (xs xs' : List ℤ) (y z : ℤ) → i + 1 < 8 → loaded (spelled (take size (drop (size * ones (word_bits word (i + 1))) source))) ≡ Some y → loaded (spelled (take size (drop size (drop (size * ones (word_bits word (i + 1))) source)))) ≡ Some z → xs' ≡ (xs ++ y ∷ []) ++ z ∷ [] → IsMixing loaded spelled size word 8 i (word / 2 ^ i) (drop size source) (drop (size * ones (word_bits word i)) (drop size source)) xs → IsMixing loaded spelled size word 8 (i + 2) (word / 2 ^ (i + 2)) (drop size source) (drop (size * ones (word_bits word (i + 2))) (drop size source)) xs'
  pair-more word i source xs xs' y z h first second p m =
      let base = drop size source in
      let rest = λ (j : ℕ). drop (size * ones (word_bits word j)) base in
      let k : ℕ = size * ones (word_bits word (i + 1)) in
      let swapped : k + size ≡ size + k = omega arith in
      let there : drop size (drop k source) ≡ drop k base = drop-drop size k source ∙ (ap (λ (j : ℕ). drop j source) swapped ∙ sym (drop-drop k size source)) in
      let one = mixing-more loaded spelled size word 8 i (word / 2 ^ i) base (rest i) (rest (i + 1)) xs (xs ++ y ∷ []) y (omega (arith, h)) m (pair-first word i source y first) refl in
      let one' = subst (λ (w : ℕ). IsMixing loaded spelled size word 8 (i + 1) w base (rest (i + 1)) (xs ++ y ∷ [])) (shr-shr word i 1) one in
      let two = mixing-more loaded spelled size word 8 (i + 1) (word / 2 ^ (i + 1)) base (rest (i + 1)) (rest (i + 1 + 1)) (xs ++ y ∷ []) xs' z (omega (arith, h)) one' (slot-read loaded spelled size word (i + 1) base z (subst (λ (bs : List ℕ). loaded (spelled (take size bs)) ≡ Some z) there second)) p in
      let next : i + 1 + 1 ≡ i + 2 = omega arith in
      subst (λ (j : ℕ). IsMixing loaded spelled size word 8 j (word / 2 ^ j) base (rest j) xs') next (subst (λ (w : ℕ). IsMixing loaded spelled size word 8 (i + 1 + 1) w base (rest (i + 1 + 1)) xs') (shr-shr word (i + 1) 1) two)

  -- slots that were filled from a place in the bytes
  pub mixed-at : (bits : List Bool) (at : ℕ) (bytes source rest : List ℕ) (zs : List ℤ) → source ≡ drop (size * at) bytes → rest ≡ drop (size * ones bits) source → TookMixed loaded spelled size bits source rest [] zs → TookMixed loaded spelled size bits (drop (size * at) bytes) (drop (size * (at + ones bits)) bytes) [] zs
  mixed-at bits at bytes source rest zs s r t =
      let place : size * at + size * ones bits ≡ size * (at + ones bits) = omega arith in
      let behind : rest ≡ drop (size * (at + ones bits)) bytes = r ∙ (ap (drop (size * ones bits)) s ∙ (drop-drop (size * ones bits) (size * at) bytes ∙ ap (λ (k : ℕ). drop k bytes) place)) in
      rw (s, behind) at t

  pub mixed-behind : (bits : List Bool) (bytes rest : List ℕ) (old new ys : List ℤ) → new ≡ old ++ ys → TookMixed loaded spelled size bits bytes rest [] ys → TookMixed loaded spelled size bits bytes rest old new
  mixed-behind bits bytes rest old new ys e t = record { numbers = t.numbers; took = t.took; among = t.among; even = t.even; stand = t.stand; pushed = e ∙ ap (λ (zs : List ℤ). old ++ zs) t.pushed }

  pub all-at : (word at : ℕ) (bytes source : List ℕ) (zs : List ℤ) → word % 256 ≡ 255 → source ≡ drop (size * at) bytes → TookNumbers loaded spelled size 8 source (drop (size * 8) source) [] zs → TookMixed loaded spelled size (word_bits word 8) (drop (size * at) bytes) (drop (size * (at + ones (word_bits word 8))) bytes) [] zs
  all-at word at bytes source zs h s t =
      let bits = all-set word h in
      let many : 8 ≡ ones (word_bits word 8) = sym (ap ones bits ∙ ones-true 8) in
      mixed-at (word_bits word 8) at bytes source (drop (size * 8) source) zs s (ap (λ (k : ℕ). drop (size * k) source) many) (mixed-all loaded spelled size 8 (word_bits word 8) source (drop (size * 8) source) zs bits t)

  -- the number before the next one
  pub one-before : (at : ℕ) (bytes source : List ℕ) → 0 < at → source ≡ drop (size * (at - 1)) bytes → drop size source ≡ drop (size * at) bytes
  one-before at bytes source h s =
      let k : at ≡ at - 1 + 1 = omega (arith, h) in
      let place : size * (at - 1) + size ≡ size * at = sym (ap (λ (j : ℕ). size * j) k ∙ omega arith) in
      ap (drop size) s ∙ (drop-drop size (size * (at - 1)) bytes ∙ ap (λ (j : ℕ). drop j bytes) place)
