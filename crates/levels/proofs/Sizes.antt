-- The number of level pairs is the length of the pairs.
use Rattle.std.proofs.Common.{◌≡◌, ℕ, zero, suc, ◌+◌, ◌-◌, ◌<◌, ◌≤◌, min, true, false, Bool, cond, Option, List, [], ◌∷◌, length, map, replicate, refl, arith, ap, sym, length-append, ◌∙◌}
use Rattle.std.proofs.lemmas.List.{length-map}
use Rattle.shredding.specs.Parts.{Part, leaf_part, list_part, struct_part, is_present, item_start, item_count, slot_count, IsPath}
use Rattle.levels.specs.Levels.{run, run_or, one_pair, slot_pairs, path_pairs, bit}
use Rattle.levels.specs.Sizes.{total, total_or_one, slot_size}
use Rattle.levels.specs.Stretch.{like_pairs}

pub length-run : {A : Type 0} (piece : ℕ → ℕ → List A) (size : ℕ → ℕ) → ((rep i : ℕ) → length (piece rep i) ≡ size i) → (first others place count : ℕ) → length (run piece first others place count) ≡ total size place count
unfolding run total
length-run piece size same first others place zero = refl
length-run piece size same first others place (suc count) =
    rw (length-append (piece first place) (run piece others others (place + 1) count), same first place, length-run piece size same others others (place + 1) count)

pub length-run_or : {A : Type 0} (empty : A) (piece : ℕ → ℕ → List A) (size : ℕ → ℕ) → ((rep i : ℕ) → length (piece rep i) ≡ size i) → (first others place count : ℕ) → length (run_or empty piece first others place count) ≡ total_or_one size place count
unfolding run_or total_or_one
length-run_or empty piece size same first others place zero = refl
length-run_or empty piece size same first others place (suc count) = length-run piece size same first others place (suc count)

-- lists of two lengths, chosen by a test
length-cond : {A : Type 0} (b : Bool) (xs ys : List A) (m n : ℕ) → length xs ≡ m → length ys ≡ n → length (cond b xs ys) ≡ cond b m n
length-cond true xs ys m n h k = h
length-cond false xs ys m n h k = k

cond-same : (b : Bool) (n : ℕ) → cond b n n ≡ n
cond-same true n = refl
cond-same false n = refl

pub length-slot_pairs : (parts : List Part) (def depth rep i : ℕ) → length (slot_pairs parts def depth rep i) ≡ slot_size parts i
unfolding slot_pairs slot_size
length-slot_pairs [] def depth rep i = refl
length-slot_pairs (leaf_part is_optional mask count ∷ parts) def depth rep i =
    length-cond (is_present is_optional mask i) (one_pair rep (def + bit is_optional)) (one_pair rep def) 1 1 refl refl ∙ cond-same (is_present is_optional mask i) 1
length-slot_pairs (list_part is_optional mask offsets ∷ parts) def depth rep i =
    length-cond (is_present is_optional mask i) _ (one_pair rep def) _ 1
    (length-run_or (rep, def + bit is_optional) (slot_pairs parts (def + bit is_optional + 1) (depth + 1)) (slot_size parts) (λ r j. length-slot_pairs parts (def + bit is_optional + 1) (depth + 1) r j) rep (depth + 1) (item_start offsets i) (item_count offsets i)) refl
length-slot_pairs (struct_part is_optional mask count ∷ parts) def depth rep i =
    length-cond (is_present is_optional mask i) _ (one_pair rep def) _ 1 (length-slot_pairs parts (def + bit is_optional) depth rep i) refl

pub length-path_pairs : (parts : List Part) → length (path_pairs parts) ≡ total (slot_size parts) 0 (slot_count parts)
unfolding path_pairs
length-path_pairs parts = length-run (slot_pairs parts 0 0) (slot_size parts) (λ r j. length-slot_pairs parts 0 0 r j) 0 0 0 (slot_count parts)

pub total-none : (size : ℕ → ℕ) (place count : ℕ) → count ≡ 0 → total size place count ≡ 0
unfolding total
total-none size place zero e = refl
total-none size place (suc count) e = absurd (omega arith)

pub total-more : (size : ℕ → ℕ) (place count left : ℕ) → count ≡ left + 1 → total size place count ≡ size place + total size (place + 1) left
unfolding total
total-more size place zero left e = absurd (omega arith)
total-more size place (suc count) left e = let h : count ≡ left = omega arith in rw h

pub total_or_one-some : (size : ℕ → ℕ) (place count : ℕ) → 0 < count → total_or_one size place count ≡ total size place count
unfolding total_or_one
total_or_one-some size place zero h = absurd (omega arith)
total_or_one-some size place (suc count) h = refl

pub total_or_one-none : (size : ℕ → ℕ) (place count : ℕ) → count ≡ 0 → total_or_one size place count ≡ 1
unfolding total_or_one
total_or_one-none size place zero h = refl
total_or_one-none size place (suc count) h = absurd (omega arith)

pub total-add : (size : ℕ → ℕ) (place m n : ℕ) → total size place (m + n) ≡ total size place m + total size (place + m) n
unfolding total
total-add size place zero n =
    let a : 0 + n ≡ n = omega arith in
    let b : place + 0 ≡ place = omega arith in
    rw (a, b) (omega arith)
total-add size place (suc m) n =
    let a : suc m + n ≡ suc (m + n) = omega arith in
    let b : place + suc m ≡ place + 1 + m = omega arith in
    let more = total-add size (place + 1) m n in
    rw (a, b) (omega (arith, more))

-- the same for all places of a stretch
pub total-steps : (size : ℕ → ℕ) (i end to sum pairs new all max : ℕ) → i < end → end ≤ to → min (sum + total size i (to - i)) max ≡ all → pairs ≡ min (total size i (end - i)) max → new ≡ min (sum + pairs) max → min (new + total size end (to - end)) max ≡ all
total-steps size i end to sum pairs new all max some within h p n =
    let a : to - i ≡ end - i + (to - end) = omega (arith, some, within) in
    let b : i + (end - i) ≡ end = omega (arith, some) in
    let more = rw b at (total-add size i (end - i) (to - end)) in
    let whole : total size i (to - i) ≡ total size i (end - i) + total size end (to - end) = rw a more in
    omega (arith, whole, h, p, n)

length-replicate' : {A : Type 0} (n : ℕ) (x : A) → length (replicate n x) ≡ n
length-replicate' zero x = refl
length-replicate' (suc n) x = ap suc (length-replicate' n x)

pub length-like : (rep depth def count : ℕ) → length (like_pairs rep depth def count) ≡ count
unfolding like_pairs
length-like rep depth def zero = refl
length-like rep depth def (suc count) = ap suc (length-replicate' count (depth, def))

pub length-slots : (parts : List Part) (def depth first others place count : ℕ) → length (run (slot_pairs parts def depth) first others place count) ≡ total (slot_size parts) place count
length-slots parts def depth first others place count = length-run (slot_pairs parts def depth) (slot_size parts) (λ r j. length-slot_pairs parts def depth r j) first others place count

-- a stretch has as many pairs as the slots that it stands for
pub stretch-size : (f : ℕ × ℕ → ℕ) (parts : List Part) (place count : ℕ) (pairs : List (ℕ × ℕ)) → map f (run (slot_pairs parts 0 0) 0 0 place count) ≡ map f pairs → total (slot_size parts) place count ≡ length pairs
stretch-size f parts place count pairs e =
    sym (length-slots parts 0 0 0 0 place count) ∙ (sym (length-map (run (slot_pairs parts 0 0) 0 0 place count) f) ∙ (ap length e ∙ length-map pairs f))

pub total-end : (size : ℕ → ℕ) (i to sum all max : ℕ) → to ≤ i → sum ≤ max → min (sum + total size i (to - i)) max ≡ all → sum ≡ all
total-end size i to sum all max past fits h =
    let none = total-none size i (to - i) (omega arith) in
    omega (arith, none)

total_ones : (parts : List Part) (mask : Option (List Bool)) (is_optional : Bool) (count place n : ℕ) → total (slot_size (leaf_part is_optional mask count ∷ parts)) place n ≡ n
unfolding total slot_size
total_ones parts mask is_optional count place zero = refl
total_ones parts mask is_optional count place (suc n) = let rest = total_ones parts mask is_optional count (place + 1) n in omega (arith, rest)

-- a path of one part is a leaf, and has a pair for each slot
pub total-leaf : (parts : List Part) (place n : ℕ) → IsPath parts → length parts ≡ 1 → total (slot_size parts) place n ≡ n
total-leaf [] place n h e = absurd (omega arith)
total-leaf (leaf_part is_optional mask count ∷ parts) place n h e = total_ones parts mask is_optional count place n
total-leaf (list_part is_optional mask offsets ∷ parts) place n h e = absurd (omega (arith, h.fits.0.2))
total-leaf (struct_part is_optional mask count ∷ parts) place n h e = absurd (omega (arith, h.fits.0.2))
