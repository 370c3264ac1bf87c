-- Statistics made of what is seen.
use Rattle.std.proofs.Common.{◌≤◌, ℤ, ◌^◌, ◌≡◌, ℕ, suc, ◌+◌, pos, cond, true, false, List, [], ◌∷◌, map, length, Option, Some, None, is_none, option_map, refl, ap, ◌∙◌, arith}
use Rattle.std.specs.Prelude.{MatchOption, Contains, count_by, Vec}
use Rattle.std.specs.Global.{Global}
use Rattle.std.proofs.lemmas.List.{length-map, get_or-map}
use Rattle.std.proofs.lemmas.List.Elements.{All-map}
use Rattle.std.proofs.lemmas.List.Sums.{sum_by-cons}
use Rattle.shredding.specs.Shape.{LeafType}
use Rattle.shredding.specs.Shred.{Triple}
use Rattle.shredding.specs.Slot.{Value}
use Rattle.levels.specs.declared.nested.Nested.{Nested}
use Rattle.levels.specs.Nested.{parts_of, nested_column}
use Rattle.pq_tree.specs.Physical.{Physical}
use Rattle.pq_tree.specs.Views.{bytes_view}
use Rattle.pq_files.specs.Page.{values_in}
use Rattle.pq_files.specs.Room.{max_count}
use Rattle.pq_files.specs.Statistics.{Bounds, HasBounds, IsUpTo, has_order}
use Rattle.write_places.specs.Places.{path_places}
use Rattle.write_places.proofs.Values.{values_are_at_places}
use Rattle.page_statistics.specs.declared.seen.Extremes.{Extremes}
use Rattle.page_statistics.specs.Extremes.{IsLeastAt, IsGreatestAt, AreExtremes}
use Rattle.page_statistics.proofs.Exist.{spelled_bounds}
use Rattle.page_statistics.specs.Spelled.{AreSpelled, BoundsAreSpelled}
use Rattle.page_statistics.specs.Stated.{AreStated, AreTextsOf}

-- ---- how many pairs have no value

count_by-cons : (t : Triple) (ts : List Triple) → count_by (λ u. is_none u.value) (t ∷ ts) ≡ cond (is_none t.value) 1 0 + count_by (λ u. is_none u.value) ts
count_by-cons t ts = sum_by-cons (λ u. cond (is_none u.value) 1 0) t ts

one_more : (r d : ℕ) (v : Option Value) (ts : List Triple) → count_by (λ t. is_none t.value) ts + length (values_in ts) ≡ length ts → count_by (λ t. is_none t.value) (record { repetition = r; definition = d; value = v } ∷ ts) + length (values_in (record { repetition = r; definition = d; value = v } ∷ ts)) ≡ suc (length ts)
one_more r d None ts h = omega (arith, h, count_by-cons (record { repetition = r; definition = d; value = None }) ts)
one_more r d (Some v) ts h = omega (arith, h, count_by-cons (record { repetition = r; definition = d; value = Some v }) ts)

pub nulls_and_values : (ts : List Triple) → count_by (λ t. is_none t.value) ts + length (values_in ts) ≡ length ts
nulls_and_values [] = refl
nulls_and_values (t ∷ ts) = one_more t.repetition t.definition t.value ts (nulls_and_values ts)

pub as_many : (value : ℕ → Value) (nested : List Nested) → length (values_in (nested_column value nested)) ≡ length (path_places (parts_of nested))
as_many value nested = ap length (values_are_at_places value nested) ∙ length-map (path_places (parts_of nested)) value

-- ---- the bounds

contains_map : (f : ℕ → Value) (xs : List ℕ) (x : ℕ) → Contains xs x → Contains (map f xs) (f x)
contains_map f xs x h = (h.0, rw (length-map xs f) h.1, get_or-map f xs h.0 x (f x) h.1 ∙ ap f h.2)

bounds_are : (t : LeafType) (p : Physical) (value : ℕ → Value) (places : List ℕ) (e : Extremes) (low high : Vec ℕ Global) → IsLeastAt value places e.least → IsGreatestAt value places e.greatest → AreTextsOf t p value (Some e) (Some low) (Some high)
    → AreSpelled t p (record { least = low.items; greatest = high.items }) (map value places)
bounds_are t p value places e low high l g h = record {
  low = value e.least;
  has_low = contains_map value places e.least l.among;
  is_low = All-map (IsUpTo (value e.least)) value places l.least;
  low_text = h.0;
  high = value e.greatest;
  has_high = contains_map value places e.greatest g.among;
  is_high = All-map (λ v. IsUpTo v (value e.greatest)) value places g.greatest;
  high_text = h.1;
}

-- bounds whose texts are these
record AreMade (t : LeafType) (p : Physical) (vs : List Value) (low high : Option (Vec ℕ Global)) : Type 0 where
  bounds : Option Bounds
  has : HasBounds t p true bounds vs
  exact : BoundsAreSpelled t p vs bounds
  is_low : option_map bytes_view low ≡ option_map (λ b. b.least) bounds
  is_high : option_map bytes_view high ≡ option_map (λ b. b.greatest) bounds

made : (t : LeafType) (p : Physical) (value : ℕ → Value) (places : List ℕ) (e : Option Extremes) (low high : Option (Vec ℕ Global)) → has_order t ≡ true → AreExtremes value places e → AreTextsOf t p value e low high → AreMade t p (map value places) low high
made t p value [] None low high o x h = record { bounds = None; has = tt; exact = tt; is_low = rw h.0 refl; is_high = rw h.1 refl }
made t p value [] (Some e) low high o x h = absurd x
made t p value (i ∷ is) None low high o x h = absurd x
made t p value (i ∷ is) (Some e) None high o x h = absurd h.0
made t p value (i ∷ is) (Some e) (Some low) None o x h = absurd h.1
made t p value (i ∷ is) (Some e) (Some low) (Some high) o x h =
    let b = bounds_are t p value (i ∷ is) e low high x.0 x.1 h in
    record {
      bounds = Some (record { least = low.items; greatest = high.items });
      has = spelled_bounds t p _ (map value (i ∷ is)) o b;
      exact = b;
      is_low = refl;
      is_high = refl;
    }

-- a count that is stated where there are no more pairs than a file counts
pub count_stated : (ts : List Triple) (n : ℕ) (z : Option ℤ) → (length ts ≤ max_count → n ≡ count_by (λ x. is_none x.value) ts) → MatchOption z (2 ^ 63 ≤ n) (λ i. i ≡ pos n) → length ts ≤ max_count → z ≡ Some (pos (count_by (λ x. is_none x.value) ts))
count_stated ts n None k h few = absurd (omega (arith, k few, h, few, nulls_and_values ts))
count_stated ts n (Some i) k h few = ap (λ (j : ℤ). Some j) (h ∙ ap (λ (m : ℕ). pos m) (k few))

pub stated : (t : LeafType) (p : Physical) (value : ℕ → Value) (nested : List Nested) (e : Option Extremes) (low high : Option (Vec ℕ Global)) (nulls : Option ℤ) → has_order t ≡ true
    → (length (nested_column value nested) ≤ max_count → nulls ≡ Some (pos (count_by (λ x. is_none x.value) (nested_column value nested))))
    → AreExtremes value (path_places (parts_of nested)) e → AreTextsOf t p value e low high
    → AreStated true t p (nested_column value nested) (Some (record { null_count = nulls; max_value = option_map bytes_view high; min_value = option_map bytes_view low }))
stated t p value nested e low high nulls order k x h =
    let m = made t p value (path_places (parts_of nested)) e low high order x h in
    let vs : values_in (nested_column value nested) ≡ map value (path_places (parts_of nested)) = values_are_at_places value nested in
    record {
      out = Some (record { null_count = count_by (λ y. is_none y.value) (nested_column value nested); bounds = m.bounds });
      are = λ few. rw (k few, m.is_low, m.is_high) refl;
      has = record { null_count = refl; bounds = rw (order, vs) m.has };
      exact = rw vs m.exact;
    }

-- of values without an order
pub unordered_stated : (t : LeafType) (p : Physical) (value : ℕ → Value) (nested : List Nested) (nulls : Option ℤ) → has_order t ≡ false
    → (length (nested_column value nested) ≤ max_count → nulls ≡ Some (pos (count_by (λ x. is_none x.value) (nested_column value nested))))
    → AreStated true t p (nested_column value nested) (Some (record { null_count = nulls; max_value = None; min_value = None }))
unordered_stated t p value nested nulls order k = record {
  out = Some (record { null_count = count_by (λ y. is_none y.value) (nested_column value nested); bounds = None });
  are = λ few. rw (k few) refl;
  has = record { null_count = refl; bounds = rw order tt };
  exact = tt;
}
