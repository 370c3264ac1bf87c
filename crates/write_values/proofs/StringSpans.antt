-- The bytes of strings at picked places, and of those between them.
use Rattle.std.proofs.Common.{◌≡◌, ℕ, zero, suc, not, count_ones, ◌+◌, ◌-◌, ◌*◌, ◌/◌, ◌%◌, ◌^◌, ◌<◌, ◌≤◌, ◌==◌, Bool, true, false, List, [], ◌∷◌, length, map, refl, ap, subst, ◌∙◌, arith}
use Rattle.std.specs.Prelude.{sum_by, slice_index_or}
use Rattle.std.specs.List.{AllByRecursion as Each}
use Rattle.std.proofs.lemmas.List.Sums.{sum_by-cons}
use Rattle.columns_core.specs.Bits.{word_bits}
use Rattle.columns_slots.specs.Bytes.{pieces_values}
use Rattle.columns_slots.specs.Slots.{IsPlaces}
use Rattle.shredding.specs.Slot.{Value}
use Rattle.pq_tree.specs.Physical.{byte_array}
use Rattle.pq_files.specs.Layout.{plain_length, plain_size}
use Rattle.write_places.specs.Places.{gather, range, picked}
use Rattle.write_places.proofs.Picked.{IsNext, each_picked, length_picked, picked-step}
use Rattle.write_values.specs.Numbers.{at_place}
use Rattle.write_values.proofs.ClosedGaps.{unset-bits, unset-ones}
use Rattle.columns_leaf.proofs.Texts.{step_of_places}
use Rattle.write_values.proofs.Picked.{picked_none}
use Rattle.write_values.proofs.StringPlaces.{picked_less, string_size}
use Rattle.write_values.proofs.StringRows.{span_bounds}

heads : {A : Type 0} (x y : A) (xs ys : List A) → x ∷ xs ≡ y ∷ ys → x ≡ y
heads x y xs ys e = cc

tails : {A : Type 0} (x y : A) (xs ys : List A) → x ∷ xs ≡ y ∷ ys → xs ≡ ys
tails x y xs ys e = cc

-- what is picked and what is not are all
split_at : (f : ℕ → Value) (n from gaps bits : ℕ) → word_bits gaps n ≡ map not (word_bits bits n) → sum_by (plain_size byte_array) (map f (picked bits from n)) + sum_by (plain_size byte_array) (map f (picked gaps from n)) ≡ sum_by (plain_size byte_array) (map f (range from n))
unfolding gather
split_at f zero from gaps bits e = refl
split_at f (suc n) from gaps bits e = by (split_at f n (from + 1) (gaps / 2) (bits / 2) (tails _ _ _ _ e)) (bits % 2 == 1) refl (gaps % 2 == 1) refl (heads _ _ _ _ e)
  where
    first : (ns : List ℕ) → sum_by (plain_size byte_array) (map f (from ∷ ns)) ≡ plain_size byte_array (f from) + sum_by (plain_size byte_array) (map f ns)
    first ns = sum_by-cons (plain_size byte_array) (f from) (map f ns)

    by : sum_by (plain_size byte_array) (map f (picked (bits / 2) (from + 1) n)) + sum_by (plain_size byte_array) (map f (picked (gaps / 2) (from + 1) n)) ≡ sum_by (plain_size byte_array) (map f (range (from + 1) n)) → (b : Bool) → (bits % 2 == 1) ≡ b → (g : Bool) → (gaps % 2 == 1) ≡ g → (gaps % 2 == 1) ≡ not (bits % 2 == 1)
        → sum_by (plain_size byte_array) (map f (picked bits from (suc n))) + sum_by (plain_size byte_array) (map f (picked gaps from (suc n))) ≡ sum_by (plain_size byte_array) (map f (range from (suc n)))
    by rest true e false g h = rw (picked-step bits from n, picked-step gaps from n, e, g) (omega (arith, rest, first (picked (bits / 2) (from + 1) n), first (range (from + 1) n)))
    by rest false e true g h = rw (picked-step bits from n, picked-step gaps from n, e, g) (omega (arith, rest, first (picked (gaps / 2) (from + 1) n), first (range (from + 1) n)))
    by rest true e true g h = absurd (both e g h)
      where
        both : {a b : Bool} → b ≡ true → a ≡ true → a ≡ not b → ⊥
        both p q r = cc
    by rest false e false g h = absurd (neither e g h)
      where
        neither : {a b : Bool} → b ≡ false → a ≡ false → a ≡ not b → ⊥
        neither p q r = cc

split_sizes : (os bs : List ℕ) (bits from count : ℕ) → bits < 2 ^ count → plain_length byte_array (map (at_place (pieces_values os bs)) (picked bits from count)) + plain_length byte_array (map (at_place (pieces_values os bs)) (picked (2 ^ count - 1 - bits) from count)) ≡ plain_length byte_array (map (at_place (pieces_values os bs)) (range from count))
split_sizes os bs bits from count low = split_at (at_place (pieces_values os bs)) count from (2 ^ count - 1 - bits) bits (unset-bits count bits low)

gap_count : (bits from count : ℕ) → bits < 2 ^ count → length (picked (2 ^ count - 1 - bits) from count) + length (picked bits from count) ≡ count
gap_count bits from count low =
    let less : 2 ^ count - 1 - bits < 2 ^ count = omega (arith, low) in
    omega (arith, length_picked bits from count low, length_picked (2 ^ count - 1 - bits) from count less, unset-ones count bits low)

-- a length in front of each string
least_each : (os bs : List ℕ) (limit : ℕ) (places : List ℕ) → IsPlaces os (length bs) → limit < length os → Each (λ i. i < limit) places → 4 * length places ≤ sum_by (plain_size byte_array) (map (at_place (pieces_values os bs)) places)
least_each os bs limit [] p h each = omega arith
least_each os bs limit (i ∷ places) p h each =
    let one = string_size os bs i p (omega (arith, h, each.0)) in
    let all = sum_by-cons (plain_size byte_array) (at_place (pieces_values os bs) i) (map (at_place (pieces_values os bs)) places) in
    omega (arith, all, one, least_each os bs limit places p h each.1)

picked_least : (os bs : List ℕ) (word from count : ℕ) → IsPlaces os (length bs) → from + count < length os → 4 * length (picked word from count) ≤ plain_length byte_array (map (at_place (pieces_values os bs)) (picked word from count))
picked_least os bs word from count p within = least_each os bs (from + count) (picked word from count) p within (each_picked (from + count) word from count (omega arith))

-- one of them less
pub span_less : (os bs : List ℕ) (word left from count t span d : ℕ) (all : List ℕ) → IsPlaces os (length bs) → from + count < length os → IsNext word left from count t → d ≡ slice_index_or os (from + t + 1) 0 - slice_index_or os (from + t) 0
    → span + plain_length byte_array (map (at_place (pieces_values os bs)) (picked word from count)) + 4 * length all ≡ plain_length byte_array (map (at_place (pieces_values os bs)) all) + 4 * length (picked word from count)
    → span + d + plain_length byte_array (map (at_place (pieces_values os bs)) (picked left from count)) + 4 * length all ≡ plain_length byte_array (map (at_place (pieces_values os bs)) all) + 4 * length (picked left from count)
span_less os bs word left from count t span d all p within n e h =
    let one = string_size os bs (from + t) p (omega (arith, n.within, within)) in
    omega (arith, h, e, picked_less os bs word left from count t n, one, ap length n.places)

-- what some of the strings span
span_fits : (os bs : List ℕ) (bits from count : ℕ) → IsPlaces os (length bs) → 0 < count → from + count < length os → plain_length byte_array (map (at_place (pieces_values os bs)) (picked bits from count)) ≤ 4 * length (picked bits from count) + length bs
span_fits os bs bits from zero p some within = absurd (omega (arith, some))
span_fits os bs bits from (suc count) p some within =
    let last : from + suc count ≡ from + count + 1 = omega arith in
    let place : slice_index_or os (from + suc count) 0 ≡ slice_index_or os (from + count + 1) 0 = ap (λ (k : ℕ). slice_index_or os k 0) last in
    let s = step_of_places os (length bs) (from + count) p (omega (arith, within)) in
    omega (arith, (span_bounds os bs bits from (suc count) p within).1, place, s.1)

-- what is picked, by what all strings take and what those between them take
split_spans : (os bs : List ℕ) (bits from count whole unset size : ℕ) → bits < 2 ^ count → size ≡ count_ones bits → whole ≡ plain_length byte_array (map (at_place (pieces_values os bs)) (range from count))
    → unset + 4 * length (picked (2 ^ count - 1 - bits) from count) ≡ plain_length byte_array (map (at_place (pieces_values os bs)) (picked (2 ^ count - 1 - bits) from count))
    → whole ≡ plain_length byte_array (map (at_place (pieces_values os bs)) (picked bits from count)) + (4 * (count - size) + unset)
split_spans os bs bits from count whole unset size low n w u =
    omega (arith, n, w, u, split_sizes os bs bits from count low, gap_count bits from count low, length_picked bits from count low)

-- none is left
pub span_all : (os bs : List ℕ) (left from count span : ℕ) (all : List ℕ) → left ≡ 0
    → span + plain_length byte_array (map (at_place (pieces_values os bs)) (picked left from count)) + 4 * length all ≡ plain_length byte_array (map (at_place (pieces_values os bs)) all) + 4 * length (picked left from count)
    → span + 4 * length all ≡ plain_length byte_array (map (at_place (pieces_values os bs)) all)
span_all os bs left from count span all e h =
    let none = picked_none left from count e in
    omega (arith, h, ap length none, ap (λ (ns : List ℕ). plain_length byte_array (map (at_place (pieces_values os bs)) ns)) none)

pub by_parts : (os bs : List ℕ) (from bits count whole unset ones : ℕ) → bits < 2 ^ count → whole ≡ plain_length byte_array (map (at_place (pieces_values os bs)) (range from (from + count - from))) → ones ≡ 2 ^ count - 1
    → unset + 4 * length (picked (ones - bits) from count) ≡ plain_length byte_array (map (at_place (pieces_values os bs)) (picked (ones - bits) from count))
    → whole ≡ plain_length byte_array (map (at_place (pieces_values os bs)) (picked bits from count)) + (4 * (count - count_ones bits) + unset)
by_parts os bs from bits count whole unset ones low w o u =
    let n : from + count - from ≡ count = omega arith in
    split_spans os bs bits from count whole unset (count_ones bits) low refl (w ∙ ap (λ (k : ℕ). plain_length byte_array (map (at_place (pieces_values os bs)) (range from k))) n)
    (subst (λ (k : ℕ). unset + 4 * length (picked (k - bits) from count) ≡ plain_length byte_array (map (at_place (pieces_values os bs)) (picked (k - bits) from count))) o u)

-- within what all strings span
pub span_room : (os bs : List ℕ) (bits word left from count t span d : ℕ) → IsPlaces os (length bs) → from + count < length os → IsNext word left from count t → d ≡ slice_index_or os (from + t + 1) 0 - slice_index_or os (from + t) 0
    → span + plain_length byte_array (map (at_place (pieces_values os bs)) (picked word from count)) + 4 * length (picked bits from count) ≡ plain_length byte_array (map (at_place (pieces_values os bs)) (picked bits from count)) + 4 * length (picked word from count)
    → span + d ≤ length bs
span_room os bs bits word left from count t span d p within n e h =
    let less = span_less os bs word left from count t span d (picked bits from count) p within n e h in
    let most = span_fits os bs bits from count p (omega (arith, n.within)) within in
    let least = picked_least os bs left from count p within in
    omega (arith, less, most, least)
