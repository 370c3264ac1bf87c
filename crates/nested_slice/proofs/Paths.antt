-- The cut of a path in bounds is a path.
use Rattle.std.proofs.Common.{◌≡◌, ℕ, suc, ◌+◌, ◌-◌, ◌≤◌, ◌<◌, Bool, List, [], ◌∷◌, length, take, drop, Option, None, Some, add-zero, refl, ap, sym, ◌∙◌, arith}
use Rattle.std.specs.Prelude.{slice_index}
use Rattle.shredding.specs.Parts.{Part, leaf_part, list_part, struct_part, MaskFits, IsPath, FitTogether, item_span, slot_count, path_way}
use Rattle.columns_core.specs.Rising.{IsRising}
use Rattle.columns_slots.specs.Slots.{cut_mask}
use Rattle.columns_slots.proofs.Sound.{length_cut, get_cut}
use Rattle.levels.specs.InBounds.{item_end, AreWithin, IsInBounds}
use Rattle.levels.specs.Ranges.{leaf_count_or}
use Rattle.levels.proofs.Rising.{rising}
use Rattle.nested_slice.specs.CutPath.{cut_parts, leaf_rows, leaf_mask_or, AreRising}

some_place : (os : List ℕ) → IsRising os → 0 < length os
some_place [] r = absurd r
some_place (o ∷ os) r = omega arith

-- cut places keep their numbers
pub place_cut : (os : List ℕ) (o n i : ℕ) → i ≤ n → slice_index (take (n + 1) (drop o os)) i ≡ slice_index os (o + i)
place_cut os o n i h = get_cut os o (n + 1) i 0 (omega (arith, h))

lists_cut : (os : List ℕ) (o n : ℕ) → IsRising os → o + n ≤ length os - 1 → length (take (n + 1) (drop o os)) - 1 ≡ n
lists_cut os o n r h = omega (arith, length_cut os o (n + 1) (omega (arith, some_place os r, h)))

span_cut : (os : List ℕ) (o n : ℕ) → IsRising os → o + n ≤ length os - 1 → item_span (take (n + 1) (drop o os)) ≡ slice_index os (o + n) - slice_index os o
span_cut os o n r h =
    let l : length (take (n + 1) (drop o os)) - 1 ≡ n = lists_cut os o n r h in
    let last : slice_index (take (n + 1) (drop o os)) n ≡ slice_index os (o + n) = place_cut os o n n (omega arith) in
    let first : slice_index (take (n + 1) (drop o os)) 0 ≡ slice_index os (o + 0) = place_cut os o n 0 (omega arith) in
    rw (l, last, first, add-zero o) refl

-- an offset is not below an earlier one
pub later_place : (os : List ℕ) (o i j : ℕ) → IsRising os → i ≤ j → o + j ≤ length os - 1 → slice_index os (o + i) ≤ slice_index os (o + j)
later_place os o i j r h k = rising os (o + i) (o + j) r (omega (arith, h)) (omega (arith, some_place os r, k))

-- the rows beneath a list are rows of the next part
pub rows_beneath : (os : List ℕ) (o n k : ℕ) → IsRising os → item_end os ≤ k → o + n ≤ length os - 1 → slice_index os o + (slice_index os (o + n) - slice_index os o) ≤ k
rows_beneath os o n k r e h =
    let up : slice_index os o ≤ slice_index os (o + n) = rising os o (o + n) r (omega arith) (omega (arith, some_place os r, h)) in
    let top : slice_index os (o + n) ≤ slice_index os (length os - 1) = rising os (o + n) (length os - 1) r h (omega (arith, some_place os r)) in
    omega (arith, up, top, e)

mask_cut : (m : Option (List Bool)) (k o n : ℕ) → MaskFits m k → o + n ≤ k → MaskFits (cut_mask m o n) n
mask_cut None k o n f h = tt
mask_cut (Some bits) k o n f h = length_cut bits o n (omega (arith, f, h))

length_parts : (parts : List Part) (o n : ℕ) → length (cut_parts parts o n) ≡ length parts
length_parts [] o n = refl
length_parts (part ∷ parts) o n = ap suc (length_parts parts _ _)

pub rows_cut : (parts : List Part) (o n : ℕ) → 0 < length parts → AreRising parts → o + n ≤ slot_count parts → slot_count (cut_parts parts o n) ≡ n
rows_cut [] o n s r h = absurd (omega (arith, s))
rows_cut (leaf_part b m k ∷ parts) o n s r h = refl
rows_cut (list_part b m os ∷ parts) o n s r h = lists_cut os o n r.0 h
rows_cut (struct_part b m k ∷ parts) o n s r h = refl

fit_cut : (parts : List Part) (o n : ℕ) → AreWithin parts → AreRising parts → o + n ≤ slot_count parts → FitTogether (cut_parts parts o n)
fit_cut [] o n w r h = tt
fit_cut (leaf_part b m k ∷ []) o n w r h = ((mask_cut m k o n w.0.0 h, refl), tt)
fit_cut (leaf_part b m k ∷ p ∷ parts) o n w r h = absurd (omega (arith, w.0.1))
fit_cut (list_part b m os ∷ parts) o n w r h =
    let more = rows_beneath os o n (slot_count parts) r.0 w.0.1 h in (
      (
        rw (lists_cut os o n r.0 h) (mask_cut m (length os - 1) o n w.0.0 h),
        rows_cut parts _ _ w.0.2 r.1 more ∙ sym (span_cut os o n r.0 h),
        rw (length_parts parts (slice_index os o) (slice_index os (o + n) - slice_index os o)) w.0.2,
      ),
      fit_cut parts _ _ w.1 r.1 more,
    )
fit_cut (struct_part b m k ∷ parts) o n w r h =
    let more : o + n ≤ slot_count parts = omega (arith, w.0.1, h) in
    ((mask_cut m k o n w.0.0 h, rows_cut parts o n w.0.2 r.1 more, rw (length_parts parts o n) w.0.2), fit_cut parts o n w.1 r.1 more)

pub path_cut : (parts : List Part) (o n : ℕ) → IsInBounds parts → AreRising parts → o + n ≤ slot_count parts → IsPath (cut_parts parts o n)
path_cut parts o n b r h = record { some = rw (length_parts parts o n) b.some; fits = fit_cut parts o n b.fits r h }

pub way_cut : (parts : List Part) (o n : ℕ) → path_way (cut_parts parts o n) ≡ path_way parts
way_cut [] o n = refl
way_cut (leaf_part b m k ∷ parts) o n = refl
way_cut (list_part b m os ∷ parts) o n = rw (way_cut parts (slice_index os o) (slice_index os (o + n) - slice_index os o)) refl
way_cut (struct_part b m k ∷ parts) o n = rw (way_cut parts o n) refl

pub leaf_cut : (parts : List Part) (d o n : ℕ) → 0 < length parts → AreWithin parts → leaf_count_or d (cut_parts parts o n) ≡ (leaf_rows parts o n).1
leaf_cut [] d o n s w = absurd (omega (arith, s))
leaf_cut (leaf_part b m k ∷ []) d o n s w = refl
leaf_cut (leaf_part b m k ∷ p ∷ parts) d o n s w = absurd (omega (arith, w.0.1))
leaf_cut (list_part b m os ∷ parts) d o n s w = leaf_cut parts d _ _ w.0.2 w.1
leaf_cut (struct_part b m k ∷ parts) d o n s w = leaf_cut parts d _ _ w.0.2 w.1

pub leaf_mask_cut : (parts : List Part) (d e : Option (List Bool)) (o n : ℕ) → 0 < length parts → AreWithin parts
    → leaf_mask_or d (cut_parts parts o n) ≡ cut_mask (leaf_mask_or e parts) (leaf_rows parts o n).0 (leaf_rows parts o n).1
leaf_mask_cut [] d e o n s w = absurd (omega (arith, s))
leaf_mask_cut (leaf_part b m k ∷ []) d e o n s w = refl
leaf_mask_cut (leaf_part b m k ∷ p ∷ parts) d e o n s w = absurd (omega (arith, w.0.1))
leaf_mask_cut (list_part b m os ∷ parts) d e o n s w = leaf_mask_cut parts d e _ _ w.0.2 w.1
leaf_mask_cut (struct_part b m k ∷ parts) d e o n s w = leaf_mask_cut parts d e _ _ w.0.2 w.1

pub leaf_within : (parts : List Part) (d o n : ℕ) → 0 < length parts → AreWithin parts → AreRising parts → o + n ≤ slot_count parts
    → (leaf_rows parts o n).0 + (leaf_rows parts o n).1 ≤ leaf_count_or d parts
leaf_within [] d o n s w r h = absurd (omega (arith, s))
leaf_within (leaf_part b m k ∷ []) d o n s w r h = h
leaf_within (leaf_part b m k ∷ p ∷ parts) d o n s w r h = absurd (omega (arith, w.0.1))
leaf_within (list_part b m os ∷ parts) d o n s w r h = leaf_within parts d _ _ w.0.2 w.1 r.1 (rows_beneath os o n (slot_count parts) r.0 w.0.1 h)
leaf_within (struct_part b m k ∷ parts) d o n s w r h = leaf_within parts d o n w.0.2 w.1 r.1 (omega (arith, w.0.1, h))
