-- Byte strings by place, one behind the other.
use Rattle.std.proofs.Common.{◌≡◌, ℕ, zero, suc, ◌+◌, ◌-◌, ◌*◌, ◌<◌, ◌≤◌, ◌^◌, false, List, [], ◌∷◌, ◌++◌, length, take, drop, map, refl, sym, ap, subst, ◌∙◌, arith}
use Rattle.std.specs.Prelude.{sum_by, slice_index_or}
use Rattle.std.specs.List.{AllByRecursion as Each}
use Rattle.std.proofs.lemmas.List.{length-take, length-drop, length-map, get_or-map}
use Rattle.std.proofs.lemmas.List.Sums.{sum_by-cons}
use Rattle.shredding.specs.Slot.{truth, bytes}
use Rattle.columns_slots.specs.Bytes.{pieces, pieces_values}
use Rattle.columns_slots.specs.Slots.{IsPlaces}
use Rattle.columns_slots.proofs.Sound.{some_place}
use Rattle.columns_slots.proofs.Strings.{pieces_at, pieces_len}
use Rattle.columns_leaf.proofs.Texts.{step_of_places}
use Rattle.pq_tree.specs.Physical.{byte_array}
use Rattle.pq_files.specs.Layout.{plain_length, plain_size}
use Rattle.pq_files.specs.Room.{max_size}
use Rattle.write_places.specs.Places.{gather, range, picked}
use Rattle.write_places.proofs.Gather.{gather-split, gather-more, gather-none}
use Rattle.write_places.proofs.Picked.{IsNext}
use Rattle.write_values.specs.Numbers.{at_place}
use Rattle.write_values.specs.Rows.{AppendsRow, row-none}

-- ---- one string

pub piece_is : (os bs : List ℕ) (i : ℕ) → i + 1 < length os → bytes (take (slice_index_or os (i + 1) 0 - slice_index_or os i 0) (drop (slice_index_or os i 0) bs)) ≡ at_place (pieces_values os bs) i
piece_is os bs i h =
    sym (get_or-map bytes (pieces os bs) i [] (truth false) (omega (arith, h, pieces_len os bs)) ∙ ap bytes (pieces_at os bs i [] h))

pub piece_size : (os bs : List ℕ) (i : ℕ) → IsPlaces os (length bs) → i + 1 < length os → length (take (slice_index_or os (i + 1) 0 - slice_index_or os i 0) (drop (slice_index_or os i 0) bs)) ≡ slice_index_or os (i + 1) 0 - slice_index_or os i 0
piece_size os bs i p h =
    let s = step_of_places os (length bs) i p h in
    omega (arith, s.0, s.1, length-take (slice_index_or os (i + 1) 0 - slice_index_or os i 0) (drop (slice_index_or os i 0) bs), length-drop (slice_index_or os i 0) bs)

pub string_size : (os bs : List ℕ) (i : ℕ) → IsPlaces os (length bs) → i + 1 < length os → plain_size byte_array (at_place (pieces_values os bs) i) ≡ 4 + (slice_index_or os (i + 1) 0 - slice_index_or os i 0)
string_size os bs i p h = ap (plain_size byte_array) (sym (piece_is os bs i h)) ∙ ap (λ (n : ℕ). 4 + n) (piece_size os bs i p h)

-- ---- strings side by side

strings_from : (os bs : List ℕ) (from count : ℕ) → IsPlaces os (length bs) → from + count < length os → (slice_index_or os from 0 ≤ slice_index_or os (from + count) 0) × (sum_by (plain_size byte_array) (map (at_place (pieces_values os bs)) (range from count)) ≡ 4 * count + (slice_index_or os (from + count) 0 - slice_index_or os from 0))
unfolding gather
strings_from os bs from zero p h = let n : from + zero ≡ from = omega arith in rw n (omega arith, omega arith)
strings_from os bs from (suc count) p h =
    let n : from + suc count ≡ from + 1 + count = omega arith in
    let more = strings_from os bs (from + 1) count p (omega (arith, h)) in
    let s = step_of_places os (length bs) from p (omega (arith, h)) in
    let here = string_size os bs from p (omega (arith, h)) in
    rw n (omega (arith, more.0, s.0), sum_by-cons (plain_size byte_array) (at_place (pieces_values os bs) from) (map (at_place (pieces_values os bs)) (range (from + 1) count)) ∙ omega (arith, more.0, more.1, here, s.0))

pub strings_size : (os bs : List ℕ) (from to : ℕ) → IsPlaces os (length bs) → from ≤ to → to < length os → (slice_index_or os from 0 ≤ slice_index_or os to 0) × (plain_length byte_array (map (at_place (pieces_values os bs)) (range from (to - from))) ≡ 4 * (to - from) + (slice_index_or os to 0 - slice_index_or os from 0))
strings_size os bs from to p low high =
    let n : from + (to - from) ≡ to = omega (arith, low) in
    let P : ℕ → Type 0 = λ k. (slice_index_or os from 0 ≤ slice_index_or os k 0) × (sum_by (plain_size byte_array) (map (at_place (pieces_values os bs)) (range from (to - from))) ≡ 4 * (to - from) + (slice_index_or os k 0 - slice_index_or os from 0)) in
    subst P n (strings_from os bs from (to - from) p (omega (arith, low, high)))

one_place : (i n : ℕ) → n ≡ 1 → range i n ≡ i ∷ []
one_place i n e =
    gather-more (λ j. j ∷ []) i n 0 (omega (arith, e)) ∙ ap (λ (xs : List ℕ). (i ∷ []) ++ xs) (gather-none (λ j. j ∷ []) (i + 1) 0 refl)

pub range_more : (from i : ℕ) → from ≤ i → range from (i + 1 - from) ≡ range from (i - from) ++ (i ∷ [])
range_more from i low = gather-split (λ j. j ∷ []) from i (i + 1) low (omega arith) ∙ ap (λ (xs : List ℕ). range from (i - from) ++ xs) (one_place i (i + 1 - i) (omega arith))

pub string_none : (os bs : List ℕ) (from : ℕ) (out : List ℕ) → AppendsRow byte_array out out (map (at_place (pieces_values os bs)) (range from (from - from)))
string_none os bs from out =
    let e : range from (from - from) ≡ [] = gather-none (λ j. j ∷ []) from (from - from) (omega arith) in
    subst (λ (ns : List ℕ). AppendsRow byte_array out out (map (at_place (pieces_values os bs)) ns)) (sym e) (row-none byte_array out)

-- ---- as they are stored

-- there is an offset behind each string
pub place_within : (os bs : List ℕ) (to : ℕ) → IsPlaces os (length bs) → to ≤ length (pieces_values os bs) → to < length os
place_within os bs to p h = omega (arith, h, length-map (pieces os bs) bytes, pieces_len os bs, some_place os (length bs) p)

pub place_before : (os bs : List ℕ) (i : ℕ) → i + 1 < length os → i < length (pieces_values os bs)
place_before os bs i h = omega (arith, h, length-map (pieces os bs) bytes, pieces_len os bs)

pub piece_between : (os bs : List ℕ) (i start end : ℕ) → i + 1 < length os → start ≡ slice_index_or os i 0 → end ≡ slice_index_or os (i + 1) 0 → bytes (take (end - start) (drop start bs)) ≡ at_place (pieces_values os bs) i
piece_between os bs i start end h s e = rw (s, e) (piece_is os bs i h)

-- ---- at picked places

-- the first of the strings picked, and the others
pub picked_less : (os bs : List ℕ) (word left from count t : ℕ) → IsNext word left from count t → plain_length byte_array (map (at_place (pieces_values os bs)) (picked word from count)) ≡ plain_size byte_array (at_place (pieces_values os bs) (from + t)) + plain_length byte_array (map (at_place (pieces_values os bs)) (picked left from count))
picked_less os bs word left from count t n =
    ap (λ (ns : List ℕ). sum_by (plain_size byte_array) (map (at_place (pieces_values os bs)) ns)) n.places
    ∙ sum_by-cons (plain_size byte_array) (at_place (pieces_values os bs) (from + t)) (map (at_place (pieces_values os bs)) (picked left from count))

-- the bytes of some strings have a number below 2 ^ 128
sum_few : (os bs : List ℕ) (limit : ℕ) (places : List ℕ) → IsPlaces os (length bs) → length bs < 2 ^ 64 → limit < length os → Each (λ i. i < limit) places → sum_by (plain_size byte_array) (map (at_place (pieces_values os bs)) places) ≤ length places * 2 ^ 65
sum_few os bs limit [] p few h each = omega arith
sum_few os bs limit (i ∷ places) p few h each =
    let within : i + 1 < length os = omega (arith, h, each.0) in
    let s = step_of_places os (length bs) i p within in
    let one = string_size os bs i p within in
    let more = sum_few os bs limit places p few h each.1 in
    let all = sum_by-cons (plain_size byte_array) (at_place (pieces_values os bs) i) (map (at_place (pieces_values os bs)) places) in
    omega (arith, all, one, s.1, more, few)

-- a string among some that fit into a page is short
pub picked_short : (os bs : List ℕ) (word left from count t size : ℕ) → IsPlaces os (length bs) → IsNext word left from count t → from + count < length os → plain_length byte_array (map (at_place (pieces_values os bs)) (picked word from count)) ≤ max_size → size ≡ slice_index_or os (from + t + 1) 0 - slice_index_or os (from + t) 0 → size < 2 ^ 32
picked_short os bs word left from count t size p n within h e =
    omega (arith, e, h, picked_less os bs word left from count t n, string_size os bs (from + t) p (omega (arith, n.within, within)))

-- the others fit too
pub others_fit : (os bs : List ℕ) (word left from count t : ℕ) → IsNext word left from count t → plain_length byte_array (map (at_place (pieces_values os bs)) (picked word from count)) ≤ max_size → plain_length byte_array (map (at_place (pieces_values os bs)) (picked left from count)) ≤ max_size
others_fit os bs word left from count t n h = omega (arith, h, picked_less os bs word left from count t n)
