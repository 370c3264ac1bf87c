-- Numbers at picked places, run by run.
use Rattle.std.proofs.Common.{◌≡◌, ℕ, zero, suc, cond, ◌+◌, ◌-◌, ◌*◌, ◌/◌, ◌^◌, ◌≤◌, ◌<◌, ◌⊎◌, inl, inr, List, [], ◌∷◌, ◌++◌, length, map, take, drop, get_or, min, false, ap, sym, subst, ◌∙◌, arith, append_assoc}
use Rattle.std.specs.Prelude.{◌==◌, bit_and}
use Rattle.std.specs.Int.{bit_at, w64, trailing_zeros, trailing_ones}
use Rattle.std.proofs.lemmas.Bool.{cases_lt}
use Rattle.std.proofs.lemmas.List.{length-take-le, take-take, take-append-le, map-append, take-map, drop-map, length-map}
use Rattle.std.proofs.lemmas.Nat.{shr-shr, shr_below, and_le_r, mul-le, pow_below}
use Rattle.std.proofs.lemmas.Nat.Bits.{bit_at_and, bit_at_ones, bit_at_above, bit_at-lt, bit_at-trailing_zeros, bit_at-trailing_ones}
use Rattle.shredding.specs.Slot.{Value, truth}
use Rattle.pq_tree.specs.Physical.{Physical}
use Rattle.write_places.specs.Places.{gather, range, picked}
use Rattle.write_places.proofs.Bits.{inside}
use Rattle.write_places.proofs.Gather.{gather-alike, gather-nothing, gather-split}
use Rattle.write_values.specs.Numbers.{at_place}
use Rattle.write_values.specs.Rows.{AppendsRow}
use Rattle.write_values.proofs.InRows.{row-more}
use Rattle.write_values.proofs.NumberPlaces.{numbers_more, values_from}
use Rattle.write_values.proofs.Picked.{IsPartly}
use Rattle.write_values.proofs.Runs.{IsFirstRun, chosen, shifted}

-- ---- the lowest bits of a word

low_byte : (word i : ℕ) → i < 8 → bit_at (bit_and word 255) i ≡ bit_at word i
low_byte word i h =
    let one : bit_at 255 i ≡ 1 = bit_at_ones 8 i h in
    bit_at_and word 255 i ∙ omega (arith, one, bit_at-lt word i)

byte_above : (word i : ℕ) → 8 ≤ i → bit_at (bit_and word 255) i ≡ 0
byte_above word i h = bit_at_above (bit_and word 255) 8 i (omega (arith, and_le_r word 255)) h

pub ones_in_byte : (word : ℕ) → let n : ℕ = trailing_ones w64 (bit_and word 255) in (n ≤ 8) × ((i : ℕ) → i < n → bit_at word i ≡ 1) × (bit_at word 0 ≡ 1 → 0 < n)
ones_in_byte word =
    let n : ℕ = trailing_ones w64 (bit_and word 255) in
    let o = bit_at-trailing_ones w64 (bit_and word 255) (omega (arith, and_le_r word 255)) in
    let few : n ≤ 8 = by_order n o.2 (cases_lt 8 n) in (
      few,
      λ i h. sym (low_byte word i (omega (arith, h, few))) ∙ o.2 i h,
      λ e. some n o.1 (low_byte word 0 (omega arith) ∙ e),
    )
  where
    by_order : (n : ℕ) → ((i : ℕ) → i < n → bit_at (bit_and word 255) i ≡ 1) → (8 < n) ⊎ (n ≤ 8) → n ≤ 8
    by_order n ones (inl h) = absurd (omega (arith, ones 8 h, byte_above word 8 (omega arith)))
    by_order n ones (inr h) = h

    some : (n : ℕ) → bit_at (bit_and word 255) n ≡ 0 → bit_at (bit_and word 255) 0 ≡ 1 → 0 < n
    some zero e f = absurd (omega (arith, e, f))
    some (suc n) e f = omega arith

below64 : (word count : ℕ) → count ≤ 64 → word < 2 ^ count → word < 2 ^ 64
below64 word count few low = by_order (cases_lt count 64)
  where
    by_order : (count < 64) ⊎ (64 ≤ count) → word < 2 ^ 64
    by_order (inl h) = omega (arith, low, pow_below count 64 h)
    by_order (inr h) = let n : count ≡ 64 = omega (arith, few, h) in subst (λ (k : ℕ). word < 2 ^ k) n low

few_ones : (word count gap run : ℕ) → word < 2 ^ count → gap < count → ((i : ℕ) → i < run → bit_at (word / 2 ^ gap) i ≡ 1) → gap + run ≤ count
few_ones word count gap run low first ones = by_order (cases_lt count (gap + run))
  where
    by_order : (count < gap + run) ⊎ (gap + run ≤ count) → gap + run ≤ count
    by_order (inl h) =
        let n : gap + (count - gap) ≡ count = omega (arith, first) in
        let set : bit_at word count ≡ 1 = ap (bit_at word) (sym n) ∙ (sym (shifted word gap (count - gap)) ∙ ones (count - gap) (omega (arith, h, first))) in
        absurd (omega (arith, set, bit_at_above word count count low (omega arith)))
    by_order (inr h) = h

-- the first so many of the places that are picked side by side first, and those behind them
pub first_few : (word from count few : ℕ) → 0 < word → count ≤ 64 → word < 2 ^ count → ((i : ℕ) → i < few → bit_at (word / 2 ^ trailing_zeros w64 word) i ≡ 1) → (bit_at (word / 2 ^ trailing_zeros w64 word) 0 ≡ 1 → 0 < few) → IsFirstRun word from count (trailing_zeros w64 word) few
first_few word from count few some most low ones more =
    let gap : ℕ = trailing_zeros w64 word in
    let z = bit_at-trailing_zeros w64 word some (below64 word count most low) in
    let first : gap < count = inside word count gap low z.1 in
    let zero_more : gap + 0 ≡ gap = omega arith in
    let start : 0 < few = more (shifted word gap 0 ∙ (ap (bit_at word) zero_more ∙ z.1)) in
    let within : gap + few ≤ count = few_ones word count gap few low first ones in
    let all : from + count - from ≡ count = omega arith in
    let front : gather (chosen word from) from (from + gap - from) ≡ [] = gather-nothing (chosen word from) from (from + gap - from) (λ i l h. ap (λ (b : ℕ). cond (b == 1) (i ∷ []) []) (z.2 (i - from) (omega (arith, l, h)))) in
    let n : from + gap + few - (from + gap) ≡ few = omega arith in
    let mid : gather (chosen word from) (from + gap) few ≡ range (from + gap) few = gather-alike (chosen word from) (λ i. i ∷ []) (from + gap) few (λ i l h.
    let d : i - from ≡ gap + (i - (from + gap)) = omega (arith, l) in
    ap (λ (b : ℕ). cond (b == 1) (i ∷ []) []) (ap (bit_at word) d ∙ (sym (shifted word gap (i - (from + gap))) ∙ ones (i - (from + gap)) (omega (arith, l, h))))) in
    let k : from + count - (from + gap + few) ≡ count - (gap + few) = omega (arith, within) in
    let cut : count ≡ count - (gap + few) + (gap + few) = omega (arith, within) in
    let p : from + gap + few ≡ from + (gap + few) = omega arith in
    let behind : gather (chosen word from) (from + (gap + few)) (count - (gap + few)) ≡ picked (word / 2 ^ gap / 2 ^ few) (from + (gap + few)) (count - (gap + few)) =
    gather-alike (chosen word from) (chosen (word / 2 ^ gap / 2 ^ few) (from + (gap + few))) (from + (gap + few)) (count - (gap + few)) (λ i l h.
    let d : i - from ≡ gap + (few + (i - (from + (gap + few)))) = omega (arith, l) in
    ap (λ (b : ℕ). cond (b == 1) (i ∷ []) []) (ap (bit_at word) d ∙ (sym (shifted word gap (few + (i - (from + (gap + few))))) ∙ sym (shifted (word / 2 ^ gap) few (i - (from + (gap + few))))))) in
    record {
      some = omega (arith, start);
      within = within;
      low = subst (λ (m : ℕ). m < 2 ^ (count - (gap + few))) (sym (shr-shr word gap few)) (shr_below word (count - (gap + few)) (gap + few) (subst (λ (j : ℕ). word < 2 ^ j) cut low));
      places = ap (λ (j : ℕ). gather (chosen word from) from j) (sym all)
          ∙ (gather-split (chosen word from) from (from + gap) (from + count) (omega arith) (omega (arith, within))
          ∙ (ap (λ (xs : List ℕ). xs ++ gather (chosen word from) (from + gap) (from + count - (from + gap))) front
          ∙ (gather-split (chosen word from) (from + gap) (from + gap + few) (from + count) (omega arith) (omega (arith, within))
          ∙ rw (n, k, p) (ap (λ (xs : List ℕ). xs ++ gather (chosen word from) (from + (gap + few)) (count - (gap + few))) mid ∙ ap (λ (xs : List ℕ). range (from + gap) few ++ xs) behind))));
    }

-- ---- numbers of which the first are wanted

kept_front : (p : Physical) (a old new text : List ℕ) (n m : ℕ) (us : List Value) → m ≤ n → n ≤ length old → take n old ++ text ≡ new → AppendsRow p a (take m old) us → AppendsRow p a (take m new) us
kept_front p a old new text n m us l h e g =
    let len : length (take n old) ≡ n = length-take-le n old h in
    let same : take m old ≡ take m new = sym (take-take m n old l) ∙ (sym (take-append-le m (take n old) text (omega (arith, l, len))) ∙ ap (take m) e) in
    subst (λ (t : List ℕ). AppendsRow p a t us) same g

-- one more of the numbers in its place
pub first_more : {A : Type 0} (p : Physical) (f : A → Value) (xs : List A) (i few : ℕ) (x : A) (at next w : ℕ) (a old new : List ℕ) → i < length xs → x ≡ get_or xs i x → next ≡ at + i * w → next + (length xs - i) * w ≤ length old → length new ≡ length old
    → AppendsRow p a (take (at + min i few * w) old) (map f (take (min i few) xs)) → AppendsRow p (take next old) (take (next + w) new) (f x ∷ []) → AppendsRow p a (take (at + min (i + 1) few * w) new) (map f (take (min (i + 1) few) xs))
first_more {A} p f xs i few x at next w a old new l e n room same h g = by_order (cases_lt i few)
  where
    by_order : (i < few) ⊎ (few ≤ i) → AppendsRow p a (take (at + min (i + 1) few * w) new) (map f (take (min (i + 1) few) xs))
    by_order (inl q) =
        let here : min i few ≡ i = omega (arith, q) in
        let next_one : min (i + 1) few ≡ i + 1 = omega (arith, q) in
        let before : AppendsRow p a (take next old) (map f (take i xs)) = rw n (rw here at h) in
        let end : next + w ≡ at + (i + 1) * w = omega (arith, n) in
        rw next_one (subst (λ (j : ℕ). AppendsRow p a (take j new) (map f (take (i + 1) xs))) end (numbers_more p f xs i x a (take next old) (take (next + w) new) l e before g))
    by_order (inr q) =
        let here : min i few ≡ few = omega (arith, q) in
        let still : min (i + 1) few ≡ few = omega (arith, q) in
        let before : AppendsRow p a (take (at + few * w) old) (map f (take few xs)) = rw here at h in
        let low : at + few * w ≤ next = omega (arith, n, mul-le few w i w q (omega arith)) in
        let short : at + few * w ≤ next + w = omega (arith, low) in
        let mid : AppendsRow p a (take (at + few * w) (take (next + w) new)) (map f (take few xs)) =
        kept_front p a old (take (next + w) new) g.text next (at + few * w) (map f (take few xs)) low (omega (arith, room)) (sym g.parts) before in
        rw still (subst (λ (t : List ℕ). AppendsRow p a t (map f (take few xs))) (take-take (at + few * w) (next + w) new short) mid)

-- ---- a run of numbers behind others

-- the numbers of a stretch by their places
pub stretch_values : {A : Type 0} (f : A → Value) (xs : List A) (from few : ℕ) → from + few ≤ length xs → map f (take few (drop from xs)) ≡ map (at_place (map f xs)) (range from few)
stretch_values f xs from few h =
    sym (values_from (map f xs) (truth false) from few (omega (arith, h, length-map xs f)) ∙ (ap (take few) (drop-map f from xs) ∙ take-map f few (drop from xs)))

-- of the values that are left those of the first places are appended
pub partly_run : (p : Physical) (before mid after : List ℕ) (all : List Value) (f : ℕ → Value) (word from count gap run : ℕ) → IsPartly p before mid all (map f (picked word from count)) → IsFirstRun word from count gap run → AppendsRow p mid after (map f (range (from + gap) run))
    → IsPartly p before after all (map f (picked (word / 2 ^ gap / 2 ^ run) (from + (gap + run)) (count - (gap + run))))
partly_run p before mid after all f word from count gap run h n r =
    let xs = range (from + gap) run in
    let ys = picked (word / 2 ^ gap / 2 ^ run) (from + (gap + run)) (count - (gap + run)) in
    record {
      done = h.done ++ map f xs;
      parts = append_assoc h.done (map f xs) (map f ys) ∙ (ap (λ (vs : List Value). h.done ++ vs) (sym (map-append f xs ys)) ∙ (ap (λ (ns : List ℕ). h.done ++ map f ns) (sym n.places) ∙ h.parts));
      row = row-more p before mid after h.done (map f xs) h.row r;
    }

mul_split : (a b w : ℕ) → (a + b) * w ≡ a * w + b * w
mul_split zero b w =
    let e : 0 + b ≡ b = omega arith in
    let none : b * w ≡ 0 * w + b * w = omega arith in
    ap (λ (k : ℕ). k * w) e ∙ none
mul_split (suc a) b w =
    let e : suc a + b ≡ suc (a + b) = omega arith in
    let more : suc (a + b) * w ≡ suc a * w + b * w = omega (arith, mul_split a b w) in
    ap (λ (k : ℕ). k * w) e ∙ more

-- room behind a run
pub run_room : (at k n gap few w end size : ℕ) → gap + few ≤ n → end ≡ at + few * w → at + (n + k) * w ≤ size → end + (n - (gap + few) + k) * w ≤ size
run_room at k n gap few w end size within e h =
    let m : ℕ = n - (gap + few) + k in
    let cut : n + k ≡ m + (gap + few) = omega (arith, within) in
    let room : at + (m + (gap + few)) * w ≤ size = subst (λ (j : ℕ). at + j * w ≤ size) cut h in
    below m gap few end e room
  where
    below : (m gap few end : ℕ) → end ≡ at + few * w → at + (m + (gap + few)) * w ≤ size → end + m * w ≤ size
    below m gap few end e room = omega (arith, e, room, mul_split m (gap + few) w, mul_split gap few w)

-- the first numbers of a stretch
pub first_values : {A : Type 0} (f : A → Value) (xs : List A) (from few n : ℕ) → few ≤ n → from + few ≤ length xs → map f (take few (take n (drop from xs))) ≡ map (at_place (map f xs)) (range from few)
first_values {A} f xs from few n l h =
    ap (λ (ys : List A). map f ys) (take-take few n (drop from xs) l) ∙ stretch_values f xs from few h
