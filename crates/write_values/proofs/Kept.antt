-- How many positions a mask keeps, word by word.
use Rattle.std.proofs.Common.{◌≡◌, ℕ, zero, suc, ◌+◌, ◌-◌, ◌*◌, ◌^◌, ◌<◌, ◌≤◌, Bool, true, false, cond, List, [], ◌∷◌, ◌++◌, length, min, ap, sym, ◌∙◌, arith, length-append}
use Rattle.std.specs.Prelude.{◌==◌, count_ones, slice_index_or, All}
use Rattle.std.specs.List.{AllByRecursion as Each}
use Rattle.std.specs.Int.{bit_at}
use Rattle.std.proofs.lemmas.List.Elements.{All-from_recursion}
use Rattle.std.proofs.lemmas.Nat.{mul-le, ones-le}
use Rattle.shredding.specs.Parts.{Part, slot_count}
use Rattle.write_places.specs.Places.{gather, picked, slot_places, path_places}
use Rattle.write_places.proofs.Gather.{gather-alike, gather-split}
use Rattle.write_places.specs.There.{is_there, there_places}
use Rattle.write_places.proofs.Picked.{length_picked}
use Rattle.write_places.proofs.Slots.{slot_is}

-- the positions that are kept, from the first on
abbrev pub kept_places : List Bool → ℕ → List ℕ
kept_places mask count = gather (λ i. cond (slice_index_or mask i false) (i ∷ []) []) 0 count

-- those of one word more
pub kept_more : (mask : List Bool) (place count word : ℕ) → word < 2 ^ count → ((i : ℕ) → i < count → (bit_at word i == 1) ≡ slice_index_or mask (place + i) false) → length (kept_places mask (place + count)) ≡ length (kept_places mask place) + count_ones word
kept_more mask place count word low bits =
    let f : ℕ → List ℕ = λ i. cond (slice_index_or mask i false) (i ∷ []) [] in
    let a : place + count - 0 ≡ place + count = omega arith in
    let b : place - 0 ≡ place = omega arith in
    let c : place + count - place ≡ count = omega arith in
    let split : gather f 0 (place + count) ≡ gather f 0 place ++ gather f place count = rw a at (rw b at (rw c at (gather-split f 0 place (place + count) (omega arith) (omega arith)))) in
    let same : gather f place count ≡ picked word place count = gather-alike f (λ i. cond (bit_at word (i - place) == 1) (i ∷ []) []) place count (λ i l h.
    let n : place + (i - place) ≡ i = omega (arith, l) in
    ap (λ (v : Bool). cond v (i ∷ []) []) (ap (λ (j : ℕ). slice_index_or mask j false) (sym n) ∙ sym (bits (i - place) (omega (arith, l, h))))) in
    ap length split ∙ (length-append (gather f 0 place) (gather f place count) ∙ ap (λ (k : ℕ). length (gather f 0 place) + k) (ap length same ∙ length_picked word place count low))

pub few_ones_in : (count word : ℕ) → word < 2 ^ count → count_ones word ≤ count
few_ones_in count word low = ones-le count word low

-- ---- a path that is no more than a leaf

pub flat_places : (parts : List Part) (m : List Bool) → length m ≡ slot_count parts → ((i : ℕ) → i < slot_count parts → slice_index_or m i false ≡ is_there parts i) → ((i : ℕ) → there_places parts i ≡ i ∷ []) → path_places parts ≡ kept_places m (length m)
flat_places parts m size tell leaf =
    gather-alike (slot_places parts) (λ i. cond (slice_index_or m i false) (i ∷ []) []) 0 (slot_count parts) (λ i l h.
    slot_is parts i ∙ (ap (λ (b : Bool). cond b (there_places parts i) []) (sym (tell i (omega (arith, h)))) ∙ ap (λ (xs : List ℕ). cond (slice_index_or m i false) xs []) (leaf i)))
    ∙ ap (kept_places m) (sym size)

each_next : (limit i : ℕ) (b : Bool) (xs : List ℕ) → i < limit → Each (λ j. j < limit) xs → Each (λ j. j < limit) (cond b (i ∷ []) [] ++ xs)
each_next limit i true xs h g = (h, g)
each_next limit i false xs h g = g

each_kept : (m : List Bool) (limit place count : ℕ) → place + count ≤ limit → Each (λ j. j < limit) (gather (λ i. cond (slice_index_or m i false) (i ∷ []) []) place count)
unfolding gather
each_kept m limit place zero h = tt
each_kept m limit place (suc count) h = each_next limit place (slice_index_or m place false) _ (omega (arith, h)) (each_kept m limit (place + 1) count (omega (arith, h)))

pub all_kept : (m : List Bool) (limit : ℕ) → length m ≤ limit → All (λ j. j < limit) (kept_places m (length m))
all_kept m limit h = All-from_recursion (λ j. j < limit) (kept_places m (length m)) (each_kept m limit 0 (length m) (omega (arith, h)))

-- a product of two words
pub wide_product : (k w n size : ℕ) → k < 2 ^ 64 → w < 2 ^ 64 → n ≡ k → n * w ≡ size → k * w ≡ min size (2 ^ 128 - 1)
wide_product k w n size low few e is =
    let most : k * w ≤ 18446744073709551615 * 18446744073709551615 = mul-le k w 18446744073709551615 18446744073709551615 (omega (arith, low)) (omega (arith, few)) in
    let same : k * w ≡ size = ap (λ (j : ℕ). j * w) (sym e) ∙ is in
    let few_bits : size < 2 ^ 128 = omega (arith, most, same) in
    same ∙ omega (arith, few_bits)
