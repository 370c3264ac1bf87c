-- Plain numbers among nulls, eight slots at a time.
use Rattle.std.proofs.Common.{◌≡◌, ℕ, zero, suc, ◌+◌, ◌-◌, ◌*◌, ◌/◌, ◌%◌, ◌^◌, ◌<◌, ◌≤◌, ◌==◌, ℤ, Bool, true, false, Option, Some, List, [], ◌∷◌, ◌++◌, map, length, take, drop, replicate, refl, arith, ap, ap₂, sym, subst, ◌∙◌, append-nil, length-append}
use Rattle.std.proofs.lemmas.List.{map-append, length-map, length-replicate, length-take-le, length-drop, drop-drop, take-append-le, take_all}
use Rattle.std.proofs.lemmas.Nat.{mul-le}
use Rattle.std.proofs.Math.ListN.{drop_of_length-le}
use Rattle.std.proofs.Math.Seq.{take-append-add, take-take}
use borrow.Rule.Slice.PartMut.{put_mid, post_of}
use Rattle.columns_core.specs.Bits.{word_bits}
use Rattle.shredding.specs.Slot.{number, Slot, value}
use Rattle.read_walk.specs.Values.{ones, spread}
use Rattle.read_leaf.specs.Numbers.{number_slots, TookNumbers, TookOne, TookMixed}
use Rattle.read_leaf.proofs.BitRuns.{bits_split}
use Rattle.read_leaf.proofs.NumberSlots.{slots-more, numbers-then}
use Rattle.read_leaf.proofs.SetBits.{length-bits, most-ones, ones-append, spread-append}

pub ones-true : (n : ℕ) → ones (replicate n true) ≡ n
ones-true zero = refl
ones-true (suc n) = omega (arith, ones-true n)

slots-spread : (zs : List ℤ) (n : ℕ) → length zs ≡ n → number_slots zs (replicate n true) ≡ spread (replicate n true) (map number zs)
slots-spread [] zero e = refl
slots-spread [] (suc n) e = absurd (omega (arith, e))
slots-spread (z ∷ zs) zero e = absurd (omega (arith, e))
slots-spread (z ∷ zs) (suc n) e = ap (λ (t : List Slot). value (number z) ∷ t) (slots-spread zs n (omega (arith, e)))

pub ones-next : (word j : ℕ) → ones (word_bits word (j + 1)) ≡ ones (word_bits word j) + ones ((word / 2 ^ j % 2 == 1) ∷ [])
ones-next word j = ap ones (bits_split j 1 word) ∙ ones-append (word_bits word j) ((word / 2 ^ j % 2 == 1) ∷ [])

module _ (loaded : ℤ → Option ℤ) (spelled : List ℕ → ℤ) (size : ℕ) where
  -- slots behind others
  pub mixed-then : (cs bs : List Bool) (bytes mid rest : List ℕ) (xs ys : List ℤ) → TookMixed loaded spelled size cs bytes mid [] xs → TookMixed loaded spelled size bs mid rest [] ys → TookMixed loaded spelled size (cs ++ bs) bytes rest [] (xs ++ ys)
  mixed-then cs bs bytes mid rest xs ys a b =
      let named : length (map number a.numbers) ≡ ones cs = length-map a.numbers number ∙ (ap length a.took.pushed ∙ a.took.count) in
      let behind : TookNumbers loaded spelled size (ones bs) mid rest a.numbers (a.numbers ++ b.numbers) = record { numbers = b.took.numbers; count = b.took.count; are = b.took.are; pushed = ap (λ (t : List ℤ). a.numbers ++ t) b.took.pushed; behind = b.took.behind } in
      let both = numbers-then loaded spelled size (ones cs) (ones bs) bytes mid rest [] a.numbers (a.numbers ++ b.numbers) a.took behind in
      record {
        numbers = a.numbers ++ b.numbers;
        took = rw (ones-append cs bs) both;
        among = a.among ++ b.among;
        even = omega (arith, length-append a.among b.among, length-append cs bs, a.even, b.even);
        stand = slots-more a.among b.among cs bs a.even ∙ (ap₂ (λ (s t : List Slot). s ++ t) a.stand b.stand ∙ (sym (spread-append cs bs (map number a.numbers) (map number b.numbers) named) ∙ ap (spread (cs ++ bs)) (sym (map-append number a.numbers b.numbers))));
        pushed = ap₂ (λ (s t : List ℤ). s ++ t) a.pushed b.pushed;
      }

  -- a slot's number, where it stands
  pub slot-read : (word j : ℕ) (source : List ℕ) (z : ℤ) → loaded (spelled (take size (drop (size * ones (word_bits word j)) source))) ≡ Some z → TookOne loaded spelled size (word / 2 ^ j % 2 == 1) (drop (size * ones (word_bits word j)) source) (drop (size * ones (word_bits word (j + 1))) source) z
  slot-read word j source z e = by (word / 2 ^ j % 2 == 1) (ones-next word j)
    where
      by : (b : Bool) → ones (word_bits word (j + 1)) ≡ ones (word_bits word j) + ones (b ∷ []) → TookOne loaded spelled size b (drop (size * ones (word_bits word j)) source) (drop (size * ones (word_bits word (j + 1))) source) z
      by true n =
          let k : ℕ = ones (word_bits word j) in
          let one : ones (word_bits word (j + 1)) ≡ k + 1 = n in
          let place : size * k + size ≡ size * ones (word_bits word (j + 1)) = rw one (omega arith) in
          (e, sym (drop-drop size (size * k) source ∙ ap (λ (i : ℕ). drop i source) place))
      by false n =
          let same : ones (word_bits word (j + 1)) ≡ ones (word_bits word j) = n ∙ omega arith in
          ap (λ (k : ℕ). drop (size * k) source) same

  -- numbers alone
  pub mixed-all : (n : ℕ) (bits : List Bool) (bytes rest : List ℕ) (zs : List ℤ) → bits ≡ replicate n true → TookNumbers loaded spelled size n bytes rest [] zs → TookMixed loaded spelled size bits bytes rest [] zs
  mixed-all n bits bytes rest zs e t =
      let many : length zs ≡ n = ap length t.pushed ∙ t.count in
      rw e (record {
        numbers = zs;
        took = rw (ones-true n) t;
        among = zs;
        even = many ∙ sym (length-replicate n true);
        stand = slots-spread zs n many;
        pushed = refl;
      })

  -- no slot
  pub mixed-nothing : (bytes : List ℕ) → TookMixed loaded spelled size [] bytes (drop (size * 0) bytes) [] []
  mixed-nothing bytes = record { numbers = []; took = record { numbers = []; count = refl; are = refl; pushed = refl; behind = refl }; among = []; even = refl; stand = refl; pushed = refl }

-- the front of what is written from a place on
pub put-front : {X : Type 0} (k n m : ℕ) (xs ys : List X) → k ≤ length xs → m ≤ length ys → take (k + m) (put_mid k n xs ys) ≡ take k xs ++ take m ys
put-front k n m xs ys h l =
    let size : length (take k xs) ≡ k = length-take-le k xs h in
    subst (λ (j : ℕ). take (j + m) (put_mid k n xs ys) ≡ take k xs ++ take m ys) size (take-append-add (take k xs) (ys ++ post_of k n xs) m ∙ ap (λ t. take k xs ++ t) (take-append-le m ys (post_of k n xs) l))

pub put-length : {X : Type 0} (k n : ℕ) (xs ys : List X) → k ≤ length xs → k + length ys ≤ length (put_mid k n xs ys)
put-length k n xs ys h = omega (arith, length-append (take k xs) (ys ++ post_of k n xs), length-append ys (post_of k n xs), length-take-le k xs h)

-- the bytes of one of eight slots
pub slot-within : (size word i len : ℕ) → i < 8 → size * 8 ≤ len → size * ones (word_bits word i) + size ≤ len
slot-within size word i len h e =
    let few : ones (word_bits word i) + 1 ≤ 8 = omega (arith, most-ones (word_bits word i), length-bits word i, h) in
    omega (arith, mul-le size (ones (word_bits word i) + 1) size 8 (omega arith) few, e)

-- what is written from a place to the end
pub put-whole : {X : Type 0} (k n : ℕ) (xs ys : List X) → length xs ≤ k + n → put_mid k n xs ys ≡ take k xs ++ ys
put-whole k n xs ys h = ap (λ t. take k xs ++ (ys ++ t)) (drop_of_length-le (drop k xs) {i = n} (omega (arith, length-drop k xs, h))) ∙ ap (λ t. take k xs ++ t) (append-nil ys)

-- bits up to a place, and those behind it
pub bits-parts : (valid done n word m : ℕ) → done ≤ n → word ≡ valid / 2 ^ done → m ≡ n - done → word_bits valid n ≡ word_bits valid done ++ word_bits word m
bits-parts valid done n word m h w e =
    let whole : n ≡ done + m = omega (arith, h, e) in
    ap (word_bits valid) whole ∙ (bits_split done m valid ∙ ap (λ (k : ℕ). word_bits valid done ++ word_bits k m) (sym w))

pub ones-parts : (valid done n word m : ℕ) → done ≤ n → word ≡ valid / 2 ^ done → m ≡ n - done → ones (word_bits valid n) ≡ ones (word_bits valid done) + ones (word_bits word m)
ones-parts valid done n word m h w e = ap ones (bits-parts valid done n word m h w e) ∙ ones-append (word_bits valid done) (word_bits word m)

-- what stands behind the first ones, and what was written there
pub written-front : {X : Type 0} (before count n len : ℕ) (xs ys zs : List X) → before ≤ length xs → length ys ≡ count → before + count ≤ len → take (before + count) (take len (put_mid before n xs ys ++ zs)) ≡ take before xs ++ ys
written-front before count n len xs ys zs h e l =
    take-take (before + count) len (put_mid before n xs ys ++ zs) l
    ∙ (take-append-le (before + count) (put_mid before n xs ys) zs (omega (arith, put-length before n xs ys h, e))
    ∙ (put-front before n count xs ys h (omega (arith, e)) ∙ ap (λ t. take before xs ++ t) (take_all count ys (omega (arith, e)))))
