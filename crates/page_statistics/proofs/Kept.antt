-- Extremes that stay, since no value is past them.
use Rattle.std.proofs.Common.{ℕ, zero, suc, ◌+◌, ◌-◌, ◌≤◌, ◌<◌, cond, inl, inr, Bool, true, false, List, [], ◌∷◌, ◌++◌, Option, Some, None, subst, arith}
use Rattle.std.specs.Prelude.{◌==◌}
use Rattle.std.specs.Int.{bit_at}
use Rattle.std.specs.List.{All, AllByRecursion as Each, Contains}
use Rattle.std.proofs.lemmas.Bool.{cases_lt}
use Rattle.std.proofs.lemmas.List.Elements.{All-append, All-from_recursion, Contains-append_cases, Contains-append_left, Contains-append_right, Contains-push, Contains-push_cases, recursion_from_All}
use Rattle.shredding.proofs.Levels.{Each-append}
use Rattle.shredding.specs.Slot.{Value}
use Rattle.pq_files.specs.Statistics.{IsUpTo}
use Rattle.write_places.specs.Places.{gather, range, picked}
use Rattle.page_statistics.specs.declared.seen.Extremes.{Extremes}
use Rattle.page_statistics.specs.Extremes.{AreBetween, AreExtremes, IsGreatestAt, IsLeastAt}

-- places from one on to another
abbrev pub In : ℕ → ℕ → ℕ → Type 0
In from to i = (from ≤ i) × (i < to)

gathered : (P : ℕ → Type 0) (piece : ℕ → List ℕ) (from count : ℕ) → ((i : ℕ) → from ≤ i → i < from + count → Each P (piece i)) → Each P (gather piece from count)
unfolding gather
gathered P piece from zero h = tt
gathered P piece from (suc count) h =
    Each-append P (piece from) (gather piece (from + 1) count) (h from (omega arith) (omega arith)) (gathered P piece (from + 1) count (λ i l g. h i (omega (arith, l)) (omega (arith, g))))

chosen_in : (P : ℕ → Type 0) (b : Bool) (i : ℕ) → P i → Each P (cond b (i ∷ []) [])
chosen_in P true i h = (h, tt)
chosen_in P false i h = tt

pub all_of_stretch : (from to : ℕ) → from ≤ to → All (In from to) (range from (to - from))
all_of_stretch from to low = All-from_recursion (In from to) (range from (to - from)) (gathered (In from to) (λ i. i ∷ []) from (to - from) (λ i l h. ((l, omega (arith, h, low)), tt)))

pub all_of_picked : (word from count : ℕ) → All (In from (from + count)) (picked word from count)
all_of_picked word from count =
    All-from_recursion (In from (from + count)) (picked word from count) (gathered (In from (from + count)) (λ i. cond (bit_at word (i - from) == 1) (i ∷ []) []) from count (λ i l h. chosen_in (In from (from + count)) (bit_at word (i - from) == 1) i (l, h)))

-- with more places, which are among those that are looked at
pub kept : (value : ℕ → Value) (old : Option Extremes) (from to : ℕ) (more places : List ℕ) → AreBetween value old from to → All (In from to) more → AreExtremes value places old → AreExtremes value (places ++ more) old
kept value None from to more places b a h = absurd b
kept value (Some e) from to more [] b a h = absurd h
kept value (Some e) from to more (p ∷ ps) b a h = (
  record {
    among = Contains-append_left (p ∷ ps) more e.least h.0.among;
    least = All-append (λ i. IsUpTo (value e.least) (value i)) (p ∷ ps) more h.0.least (λ k d s. (b _ (a k d s).0 (a k d s).1).0);
  },
  record {
    among = Contains-append_left (p ∷ ps) more e.greatest h.1.among;
    greatest = All-append (λ i. IsUpTo (value i) (value e.greatest)) (p ∷ ps) more h.1.greatest (λ k d s. (b _ (a k d s).0 (a k d s).1).1);
  },
)

-- ---- with the ends of a block

stretch_has : (from count i : ℕ) → from ≤ i → i < from + count → Contains (range from count) i
unfolding gather
stretch_has from zero i low high = absurd (omega (arith, low, high))
stretch_has from (suc count) i low high =
    elim (cases_lt from i) [
      | inl l ↦ Contains-append_right (from ∷ []) (range (from + 1) count) i (stretch_has (from + 1) count i (omega (arith, l)) (omega (arith, high)))
      | inr r ↦ subst (Contains (from ∷ range (from + 1) count)) {x = from} {y = i} (omega (arith, low, r)) (Contains-append_left (from ∷ []) (range (from + 1) count) from (Contains-push [] from))
    ]

-- in place of two ends of a stretch all of it
moved_in : (places more : List ℕ) (a b i : ℕ) → Contains more a → Contains more b → Contains ((places ++ a ∷ []) ++ b ∷ []) i → Contains (places ++ more) i
moved_in places more a b i h k c =
    elim (Contains-push_cases (places ++ a ∷ []) b i c) [
      | inr e ↦ subst (Contains (places ++ more)) e (Contains-append_right places more b k)
      | inl d ↦ elim (Contains-push_cases places a i d) [
        | inr e ↦ subst (Contains (places ++ more)) e (Contains-append_right places more a h)
        | inl f ↦ Contains-append_left places more i f
      ]
    ]

each_front : (P : ℕ → Type 0) (xs ys : List ℕ) → Each P (xs ++ ys) → Each P xs
each_front P [] ys h = tt
each_front P (x ∷ xs) ys h = (h.0, each_front P xs ys h.1)

fronts_of : (P : ℕ → Type 0) (places : List ℕ) (a b : ℕ) → All P ((places ++ a ∷ []) ++ b ∷ []) → All P places
fronts_of P places a b h =
    All-from_recursion P places (each_front P places (a ∷ []) (each_front P (places ++ a ∷ []) (b ∷ []) (recursion_from_All P ((places ++ a ∷ []) ++ b ∷ []) h)))

parts_of_extremes : (value : ℕ → Value) (places : List ℕ) (e : Extremes) → AreExtremes value places (Some e) → IsLeastAt value places e.least × IsGreatestAt value places e.greatest
parts_of_extremes value [] e h = absurd h
parts_of_extremes value (i ∷ is) e h = h

extremes_of_parts : (value : ℕ → Value) (places : List ℕ) (e : Extremes) → IsLeastAt value places e.least → IsGreatestAt value places e.greatest → AreExtremes value places (Some e)
extremes_of_parts value [] e l g = absurd (omega (arith, l.among.1))
extremes_of_parts value (i ∷ is) e l g = (l, g)

-- where none from one place on to another is past the extremes with both ends
pub ends_kept : (value : ℕ → Value) (e : Extremes) (from to : ℕ) (places : List ℕ) → from < to → AreBetween value (Some e) from to → AreExtremes value ((places ++ from ∷ []) ++ (to - 1) ∷ []) (Some e) → AreExtremes value (places ++ range from (to - from)) (Some e)
ends_kept value e from to places some b h =
    let x = parts_of_extremes value ((places ++ from ∷ []) ++ (to - 1) ∷ []) e h in
    let more = range from (to - from) in
    let first : Contains more from = stretch_has from (to - from) from (omega arith) (omega (arith, some)) in
    let last : Contains more (to - 1) = stretch_has from (to - from) (to - 1) (omega (arith, some)) (omega (arith, some)) in
    let a : All (In from to) more = all_of_stretch from to (omega (arith, some)) in
    extremes_of_parts value (places ++ more) e
    (record {
      among = moved_in places more from (to - 1) e.least first last x.0.among;
      least = All-append (λ i. IsUpTo (value e.least) (value i)) places more (fronts_of (λ i. IsUpTo (value e.least) (value i)) places from (to - 1) x.0.least) (λ k d s. (b _ (a k d s).0 (a k d s).1).0);
    })
    (record {
      among = moved_in places more from (to - 1) e.greatest first last x.1.among;
      greatest = All-append (λ i. IsUpTo (value i) (value e.greatest)) places more (fronts_of (λ i. IsUpTo (value i) (value e.greatest)) places from (to - 1) x.1.greatest) (λ k d s. (b _ (a k d s).0 (a k d s).1).1);
    })

each_back : (P : ℕ → Type 0) (xs ys : List ℕ) → Each P (xs ++ ys) → Each P ys
each_back P [] ys h = h
each_back P (x ∷ xs) ys h = each_back P xs ys h.1

all_moved : (P : ℕ → Type 0) (places more : List ℕ) (a b : ℕ) → All P (((places ++ a ∷ []) ++ b ∷ []) ++ more) → All P (places ++ more)
all_moved P places more a b h =
    let ends = (places ++ a ∷ []) ++ b ∷ [] in
    let each = recursion_from_All P (ends ++ more) h in
    All-append P places more (fronts_of P places a b (All-from_recursion P ends (each_front P ends more each))) (All-from_recursion P more (each_back P ends more each))

-- what both ends and then all of a stretch make, that makes the stretch alone
pub ends_within : (value : ℕ → Value) (e : Extremes) (from to : ℕ) (places : List ℕ) → from < to → AreExtremes value (((places ++ from ∷ []) ++ (to - 1) ∷ []) ++ range from (to - from)) (Some e) → AreExtremes value (places ++ range from (to - from)) (Some e)
ends_within value e from to places some h =
    let ends = (places ++ from ∷ []) ++ (to - 1) ∷ [] in
    let more = range from (to - from) in
    let x = parts_of_extremes value (ends ++ more) e h in
    let first : Contains more from = stretch_has from (to - from) from (omega arith) (omega (arith, some)) in
    let last : Contains more (to - 1) = stretch_has from (to - from) (to - 1) (omega (arith, some)) (omega (arith, some)) in
    let among : (i : ℕ) → Contains (ends ++ more) i → Contains (places ++ more) i = λ i c. elim (Contains-append_cases ends more i c) [
      | inl d ↦ moved_in places more from (to - 1) i first last d
      | inr d ↦ Contains-append_right places more i d
    ] in
    extremes_of_parts value (places ++ more) e
    (record { among = among e.least x.0.among; least = all_moved (λ i. IsUpTo (value e.least) (value i)) places more from (to - 1) x.0.least })
    (record { among = among e.greatest x.1.among; greatest = all_moved (λ i. IsUpTo (value i) (value e.greatest)) places more from (to - 1) x.1.greatest })
