-- The extremes with a stretch of places, and with those that are picked by the bits of a word.
use Rattle.std.proofs.Common.{◌≡◌, ℕ, zero, suc, ◌+◌, ◌-◌, ◌^◌, ◌<◌, ◌≤◌, List, [], ◌∷◌, ◌++◌, length, Option, Some, None, refl, sym, ap, subst, ◌∙◌, append_assoc, append-nil, arith}
use Rattle.std.specs.Prelude.{min}
use Rattle.std.proofs.lemmas.List.{length-append}
use Rattle.shredding.specs.Slot.{Value}
use Rattle.write_places.specs.Places.{gather, range, picked}
use Rattle.write_places.proofs.Bits.{zero_bits}
use Rattle.write_places.proofs.Gather.{gather-split, gather-more, gather-none, gather-nothing}
use Rattle.write_places.proofs.Picked.{IsNext}
use Rattle.page_statistics.specs.declared.seen.Extremes.{Extremes}
use Rattle.page_statistics.specs.declared.seen.Seen.{Seen}
use Rattle.page_statistics.specs.Extremes.{AreExtremes, Sees}
use Rattle.page_statistics.proofs.Further.{first_place}

-- ---- a stretch

one_place : (i n : ℕ) → n ≡ 1 → range i n ≡ i ∷ []
one_place i n e =
    gather-more (λ j. j ∷ []) i n 0 (omega (arith, e)) ∙ ap (λ (xs : List ℕ). (i ∷ []) ++ xs) (gather-none (λ j. j ∷ []) (i + 1) 0 refl)

range_more : (from i : ℕ) → from ≤ i → range from (i + 1 - from) ≡ range from (i - from) ++ (i ∷ [])
range_more from i low = gather-split (λ j. j ∷ []) from i (i + 1) low (omega arith) ∙ ap (λ (xs : List ℕ). range from (i - from) ++ xs) (one_place i (i + 1 - i) (omega arith))

pub length_range : (from count : ℕ) → length (range from count) ≡ count
unfolding gather
length_range from zero = refl
length_range from (suc count) = ap suc (length_range (from + 1) count)

module _ (value : ℕ → Value) where
  -- With these places the extremes of the one make those of the other.
  pub Grows : List ℕ → Option Extremes → Option Extremes → Type 0
  Grows more old new = (places : List ℕ) → AreExtremes value places old → AreExtremes value (places ++ more) new

  pub grows_none : (places : List ℕ) (old : Option Extremes) → AreExtremes value places old → AreExtremes value (places ++ []) old
  grows_none places old h = subst (λ (ps : List ℕ). AreExtremes value ps old) (sym (append-nil places)) h

  pub stretch_none : (from : ℕ) (old : Option Extremes) (places : List ℕ) → AreExtremes value places old → AreExtremes value (places ++ range from (from - from)) old
  stretch_none from old places h =
      let e : range from (from - from) ≡ [] = gather-none (λ j. j ∷ []) from (from - from) (omega arith) in
      subst (λ (ps : List ℕ). AreExtremes value (places ++ ps) old) (sym e) (grows_none places old h)

  pub grows_more : (places done : List ℕ) (place : ℕ) (new : Option Extremes) → AreExtremes value ((places ++ done) ++ place ∷ []) new → AreExtremes value (places ++ (done ++ place ∷ [])) new
  grows_more places done place new h = subst (λ (ps : List ℕ). AreExtremes value ps new) (append_assoc places done (place ∷ [])) h

  pub stretch_more : (from i : ℕ) (new : Option Extremes) (places : List ℕ) → from ≤ i → AreExtremes value ((places ++ range from (i - from)) ++ i ∷ []) new → AreExtremes value (places ++ range from (i + 1 - from)) new
  stretch_more from i new places low h =
      subst (λ (ps : List ℕ). AreExtremes value (places ++ ps) new) (sym (range_more from i low)) (grows_more places (range from (i - from)) i new h)

  pub stretch_further : (from at end : ℕ) (new : Option Extremes) (places : List ℕ) → from ≤ at → at ≤ end → AreExtremes value ((places ++ range from (at - from)) ++ range at (end - at)) new → AreExtremes value (places ++ range from (end - from)) new
  stretch_further from at end new places low high h =
      subst (λ (ps : List ℕ). AreExtremes value ps new) (append_assoc places (range from (at - from)) (range at (end - at)) ∙ ap (λ (ps : List ℕ). places ++ ps) (sym (gather-split (λ j. j ∷ []) from at end low high))) h

  -- from the first place on
  pub stretch_begun : (from end : ℕ) (new : Option Extremes) → from < end → ((places : List ℕ) → AreExtremes value places (Some (record { least = from; greatest = from })) → AreExtremes value (places ++ range (from + 1) (end - (from + 1))) new)
      → (places : List ℕ) → AreExtremes value places None → AreExtremes value (places ++ range from (end - from)) new
  stretch_begun from end new some h places none =
      let first = subst (λ (ps : List ℕ). AreExtremes value (places ++ ps) (Some (record { least = from; greatest = from }))) (sym (one_place from (from + 1 - from) (omega arith))) (first_place value from places none) in
      stretch_further from (from + 1) end new places (omega arith) (omega (arith, some)) (h (places ++ range from (from + 1 - from)) first)

  -- ---- picked places

  -- of all places those that are not left are seen
  pub record IsPartly (old new : Option Extremes) (all left : List ℕ) : Type 0 where
    pub done : List ℕ
    pub parts : done ++ left ≡ all
    pub grows : (places : List ℕ) → AreExtremes value places old → AreExtremes value (places ++ done) new

  pub partly_none : (old : Option Extremes) (all : List ℕ) → IsPartly old old all all
  partly_none old all = record { done = []; parts = refl; grows = λ places h. grows_none places old h }

  pub partly_more : (old mid new : Option Extremes) (all : List ℕ) (word left from count t : ℕ) → IsPartly old mid all (picked word from count) → IsNext word left from count t
      → ((places : List ℕ) → AreExtremes value places mid → AreExtremes value (places ++ (from + t) ∷ []) new) → IsPartly old new all (picked left from count)
  partly_more old mid new all word left from count t h n step = record {
    done = h.done ++ (from + t) ∷ [];
    parts = append_assoc h.done ((from + t) ∷ []) (picked left from count) ∙ (ap (λ (ns : List ℕ). h.done ++ ns) (sym n.places) ∙ h.parts);
    grows = λ places k. grows_more places h.done (from + t) new (step (places ++ h.done) (h.grows places k));
  }

  pub partly_all : (old new : Option Extremes) (all : List ℕ) (word from count : ℕ) → IsPartly old new all (picked word from count) → word ≡ 0 → (places : List ℕ) → AreExtremes value places old → AreExtremes value (places ++ all) new
  partly_all old new all word from count h e places k =
      let none : picked word from count ≡ [] = gather-nothing _ from count (λ i l g. rw (zero_bits word (i - from) e) refl) in
      let done : h.done ≡ all = sym (append-nil h.done) ∙ (ap (λ (ns : List ℕ). h.done ++ ns) (sym none) ∙ h.parts) in
      subst (λ (ns : List ℕ). AreExtremes value (places ++ ns) new) done (h.grows places k)

  -- from the first picked place on
  pub picked_begun : (word left from count t : ℕ) (new : Option Extremes) → IsNext word left from count t → ((places : List ℕ) → AreExtremes value places (Some (record { least = from + t; greatest = from + t })) → AreExtremes value (places ++ picked left from count) new)
      → (places : List ℕ) → AreExtremes value places None → AreExtremes value (places ++ picked word from count) new
  picked_begun word left from count t new n h places none =
      let all = h (places ++ (from + t) ∷ []) (first_place value (from + t) places none) in
      subst (λ (ps : List ℕ). AreExtremes value ps new) (append_assoc places ((from + t) ∷ []) (picked left from count) ∙ ap (λ (ps : List ℕ). places ++ ps) (sym n.places)) all

  -- no picked place
  pub none_begun : (word from count : ℕ) → word ≡ 0 → (places : List ℕ) → AreExtremes value places None → AreExtremes value (places ++ picked word from count) None
  none_begun word from count e places h =
      let none : picked word from count ≡ [] = gather-nothing _ from count (λ i l g. rw (zero_bits word (i - from) e) refl) in
      subst (λ (ps : List ℕ). AreExtremes value (places ++ ps) None) (sym none) (grows_none places None h)

  -- ---- seen so far

  pub sees_more : (places more : List ℕ) (first old new : Seen) (n : ℕ) → Sees value places first old → n ≡ length more → new.values ≡ min (old.values + n) (2 ^ 64 - 1)
      → ((ps : List ℕ) → AreExtremes value ps old.extremes → AreExtremes value (ps ++ more) new.extremes) → Sees value (places ++ more) first new
  sees_more places more first old new n h k f g = record { values = λ z. omega (arith, h.values z, f, k, length-append places more); extremes = λ z. g places (h.extremes z) }

-- one place fewer is left
pub one_less : (word left from count t : ℕ) → IsNext word left from count t → length (picked word from count) ≡ suc (length (picked left from count))
one_less word left from count t n = ap length n.places
