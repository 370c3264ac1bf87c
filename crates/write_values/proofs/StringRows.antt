-- Byte strings that are put into their places.
use Rattle.std.proofs.Common.{◌≡◌, ℕ, zero, suc, cond, ◌+◌, ◌-◌, ◌*◌, ◌/◌, ◌%◌, ◌^◌, ◌≤◌, ◌<◌, Bool, true, false, List, [], ◌∷◌, ◌++◌, length, take, drop, map, refl, ap, sym, subst, ◌∙◌, arith, append-nil, append_assoc}
use Rattle.std.specs.Prelude.{◌==◌, sum_by, slice_index_or}
use Rattle.std.specs.Array.{IsFirstChunk}
use Rattle.std.specs.Int.{bit_at, w32, to_le_bytes}
use Rattle.std.proofs.lemmas.List.{length-take-le, take-take, take-append-le, take_rest, map-append}
use Rattle.std.proofs.lemmas.List.Sums.{sum_by-cons}
use lib.Seq.{take-append-add}
use Rattle.shredding.specs.Slot.{Value, bytes}
use Rattle.columns_slots.specs.Bytes.{pieces_values}
use Rattle.columns_slots.specs.Slots.{IsPlaces}
use Rattle.columns_leaf.proofs.Texts.{step_of_places}
use Rattle.levels.proofs.Rising.{rising}
use Rattle.columns_core.specs.Rising.{IsRising}
use Rattle.pq_numbers.proofs.LittleEndianBytes.{four_bytes}
use Rattle.pq_numbers.specs.Texts.{number_of}
use Rattle.pq_tree.specs.Physical.{byte_array}
use Rattle.pq_files.specs.Layout.{plain_length, plain_size}
use Rattle.pq_files.specs.Room.{max_size}
use Rattle.write_places.specs.Places.{gather, range, picked}
use Rattle.write_places.proofs.Bits.{full_bits}
use Rattle.write_places.proofs.Gather.{gather-alike, gather-split}
use Rattle.write_places.proofs.Picked.{picked-step}
use Rattle.write_values.specs.Numbers.{at_place}
use Rattle.write_values.specs.Rows.{AppendsRow}
use Rattle.write_values.proofs.InRows.{row-more}
use Rattle.write_values.proofs.StringPlaces.{string_size, strings_size}

-- the first bytes of some
pub chunk_size : (xs ys : List ℕ) → IsFirstChunk xs ys 32 → length ys ≡ 32
chunk_size xs ys h = ap length h.same ∙ length-take-le 32 xs h.enough

-- a short piece that is copied with the bytes behind it
pub short_front : (at n from : ℕ) (old new all text : List ℕ) → n ≤ 32 → at ≤ length old → IsFirstChunk (take (length all - from) (drop from all)) text 32 → take (at + length text) new ≡ take at old ++ text → take (at + n) new ≡ take at old ++ take n (drop from all)
short_front at n from old new all text few room e h =
    let front : length (take at old) ≡ at = length-take-le at old room in
    let whole : take (at + 32) new ≡ take at old ++ text = ap (λ (k : ℕ). take (at + k) new) (sym (chunk_size (take (length all - from) (drop from all)) text e)) ∙ h in
    let first : text ≡ take 32 (drop from all) = e.same ∙ ap (take 32) (take_rest all from) in
    sym (take-take (at + n) (at + 32) new (omega (arith, few)))
    ∙ (ap (take (at + n)) whole
    ∙ (ap (λ (k : ℕ). take (k + n) (take at old ++ text)) (sym front)
    ∙ (take-append-add (take at old) text n
    ∙ ap (λ (t : List ℕ). take at old ++ t) (ap (take n) first ∙ take-take n 32 (drop from all) few))))

-- bytes that take their place behind others, and are cut behind the last of them
pub placed_behind : (before size room : ℕ) (old opened places post behind : List ℕ) → length old ≡ before → take before opened ≡ old → size ≤ length places → before + size ≤ room → take (before + size) (take room ((take before opened ++ (places ++ post)) ++ behind)) ≡ old ++ take size places
placed_behind before size room old opened places post behind n front some within =
    let rest = post ++ behind in
    let joined : (take before opened ++ (places ++ post)) ++ behind ≡ old ++ (places ++ rest) =
    ap (λ (t : List ℕ). (t ++ (places ++ post)) ++ behind) front ∙ (append_assoc old (places ++ post) behind ∙ ap (λ (t : List ℕ). old ++ t) (append_assoc places post behind)) in
    take-take (before + size) room ((take before opened ++ (places ++ post)) ++ behind) within
    ∙ (ap (take (before + size)) joined
    ∙ (ap (λ (k : ℕ). take (k + size) (old ++ (places ++ rest))) (sym n)
    ∙ (take-append-add old (places ++ rest) size
    ∙ ap (λ (t : List ℕ). old ++ t) (take-append-le size places rest some))))

-- a string behind its length
pub string_put : (at n m : ℕ) (old mid new four s : List ℕ) → four ≡ to_le_bytes w32 m → m ≡ n → n < 2 ^ 32 → length s ≡ n → take (at + length four) mid ≡ take at old ++ four → take (at + 4 + n) new ≡ take (at + 4) mid ++ s → AppendsRow byte_array (take at old) (take (at + 4 + n) new) (bytes s ∷ [])
string_put at n m old mid new four s e k low size h g =
    let length_is : length four ≡ 4 = ap length e in
    let front : take (at + 4) mid ≡ take at old ++ four = ap (λ (j : ℕ). take (at + j) mid) (sym length_is) ∙ h in
    let spelled : number_of four ≡ length s = ap number_of e ∙ (ap (λ (j : ℕ). number_of (to_le_bytes w32 j)) k ∙ (four_bytes n low ∙ sym size)) in
    record {
      text = four ++ s;
      parts = g ∙ (ap (λ (t : List ℕ). t ++ s) front ∙ append_assoc (take at old) four s);
      row = (four ++ s, [], record { head = four; four = length_is; size = spelled; parts = refl }, refl, sym (append-nil (four ++ s)));
    }

-- ---- the bytes of strings at picked places are at most those that all of them span

span_step : (os bs : List ℕ) (from span : ℕ) (b : Bool) (ps : List ℕ) → IsPlaces os (length bs) → from + 1 < length os → sum_by (plain_size byte_array) (map (at_place (pieces_values os bs)) ps) ≤ 4 * length ps + span → sum_by (plain_size byte_array) (map (at_place (pieces_values os bs)) (cond b (from ∷ []) [] ++ ps)) ≤ 4 * length (cond b (from ∷ []) [] ++ ps) + (slice_index_or os (from + 1) 0 - slice_index_or os from 0 + span)
span_step os bs from span true ps p h less =
    let all : sum_by (plain_size byte_array) (map (at_place (pieces_values os bs)) (from ∷ ps)) ≡ plain_size byte_array (at_place (pieces_values os bs) from) + sum_by (plain_size byte_array) (map (at_place (pieces_values os bs)) ps) = sum_by-cons (plain_size byte_array) (at_place (pieces_values os bs) from) (map (at_place (pieces_values os bs)) ps) in
    let one = string_size os bs from p h in
    omega (arith, all, one, less)
span_step os bs from span false ps p h less = omega (arith, less)

pub span_bounds : (os bs : List ℕ) (word from count : ℕ) → IsPlaces os (length bs) → from + count < length os → (slice_index_or os from 0 ≤ slice_index_or os (from + count) 0) × (sum_by (plain_size byte_array) (map (at_place (pieces_values os bs)) (picked word from count)) ≤ 4 * length (picked word from count) + (slice_index_or os (from + count) 0 - slice_index_or os from 0))
unfolding gather
span_bounds os bs word from zero p h = let n : from + zero ≡ from = omega arith in rw n (omega arith, omega arith)
span_bounds os bs word from (suc count) p h =
    let n : from + suc count ≡ from + 1 + count = omega arith in
    let more = span_bounds os bs (word / 2) (from + 1) count p (omega (arith, h)) in
    let s = step_of_places os (length bs) from p (omega (arith, h)) in
    let step = span_step os bs from _ (word % 2 == 1) (picked (word / 2) (from + 1) count) p (omega (arith, h)) more.1 in
    let cut = picked-step word from count in
    rw (n, cut) (omega (arith, more.0, s.0), omega (arith, step, more.0, s.0))

-- ---- all strings of a block

pub all_of_block : (word from count : ℕ) → word ≡ 2 ^ count - 1 → picked word from count ≡ range from count
all_of_block word from count e =
    gather-alike (λ i. cond (bit_at word (i - from) == 1) (i ∷ []) []) (λ i. i ∷ []) from count (λ i l h. ap (λ (b : Bool). cond b (i ∷ []) []) (full_bits word count (i - from) e (omega (arith, l, h))))

pub block_more : (f : ℕ → Value) (from at end : ℕ) (a b c : List ℕ) → from ≤ at → at ≤ end → AppendsRow byte_array a b (map f (range from (at - from))) → AppendsRow byte_array b c (map f (range at (end - at))) → AppendsRow byte_array a c (map f (range from (end - from)))
block_more f from at end a b c low high h g =
    let split = gather-split (λ i. i ∷ []) from at end low high in
    subst (λ (vs : List Value). AppendsRow byte_array a c vs) (sym (ap (map f) split ∙ map-append f (range from (at - from)) (range at (end - at)))) (row-more byte_array a b c _ _ h g)

pub block_small : (os bs : List ℕ) (from at end to : ℕ) → IsPlaces os (length bs) → IsRising os → from ≤ at → at ≤ end → end ≤ to → to < length os → plain_length byte_array (map (at_place (pieces_values os bs)) (range from (to - from))) ≤ max_size → plain_length byte_array (map (at_place (pieces_values os bs)) (range at (end - at))) ≤ max_size
block_small os bs from at end to p r low mid high within h =
    let all = strings_size os bs from to p (omega (arith, low, mid, high)) within in
    let some = strings_size os bs at end p mid (omega (arith, high, within)) in
    let a = rising os from at r low (omega (arith, mid, high, within)) in
    let b = rising os end to r high within in
    omega (arith, all.1, some.1, some.0, a, b, h, low, mid, high)
