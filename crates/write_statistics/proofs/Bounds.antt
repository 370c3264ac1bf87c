-- Extremes as the bounds of statistics.
use Rattle.std.proofs.Common.{refl, ◌≡◌, ℕ, ℤ, List, [], ◌∷◌, map, slice_index_or, true, Option, Some, None, option_map, IfSome, subst, ap, ◌∙◌}
use Rattle.std.specs.List.{All, Contains}
use Rattle.std.proofs.lemmas.List.{length-map, get_or-map}
use Rattle.std.proofs.lemmas.List.Elements.{All-map, All-contains}
use Rattle.shredding.specs.Slot.{Value, number}
use Rattle.shredding.specs.Shape.{LeafType}
use Rattle.pq_tree.specs.Physical.{Physical, boolean, int32, int64, int96, float, double, byte_array, fixed}
use Rattle.pq_files.specs.Plain.{IsOne}
use Rattle.pq_files.specs.Stored.{IsStored}
use Rattle.pq_files.specs.Statistics.{Bounds, IsBoundText, AreBounds, HasBounds, IsUpTo}
use Rattle.write_statistics.specs.Extremes.{IsLeast, IsGreatest, AreExtremes, bounds_of}

-- the plain text of a number is its text as a bound
bound_text : (p : Physical) (s : List ℕ) (n : ℤ) → IsOne p s (number n) → IsBoundText p s (number n)
bound_text boolean s n h = h
bound_text int32 s n h = h
bound_text int64 s n h = h
bound_text int96 s n h = h
bound_text float s n h = h
bound_text double s n h = h
bound_text byte_array s n h = h
bound_text (fixed k) s n h = h

contains_map : {A B : Type 0} (f : A → B) (xs : List A) (x : A) → Contains xs x → Contains (map f xs) (f x)
contains_map f xs x h = (h.0, rw (length-map xs f) h.1, get_or-map f xs h.0 x (f x) h.1 ∙ ap f h.2)

-- the least and the greatest number are the bounds of the values that they are ordered by
pub extremes_bound : {A : Type 0} (t : LeafType) (p : Physical) (value : A → Value) (ordinal : A → ℤ) → ((x : A) → value x ≡ number (ordinal x)) → (xs : List A) (low high : A) (b : Bounds) (m n : ℤ) → IsLeast ordinal xs low → IsGreatest ordinal xs high
    → IsStored t p (value low) (number m) → IsOne p b.least (number m) → IsStored t p (value high) (number n) → IsOne p b.greatest (number n) → AreBounds t p b (map value xs)
extremes_bound t p value ordinal is xs low high b m n least greatest s e s' e' = record {
  low = value low;
  has_low = contains_map value xs low least.among;
  is_low = All-map (IsUpTo (value low)) value xs (λ k d h. rw (is low, is (slice_index_or xs k d)) (least.least k d h));
  low_text = record { stored = number m; is_stored = s; spells = bound_text p b.least m e };
  high = value high;
  has_high = contains_map value xs high greatest.among;
  is_high = All-map (λ v. IsUpTo v (value high)) value xs (λ k d h. rw (is high, is (slice_index_or xs k d)) (greatest.greatest k d h));
  high_text = record { stored = number n; is_stored = s'; spells = bound_text p b.greatest n e' };
}

-- extremes are of the values
pub extremes_hold : {A : Type 0} (P : A → Type 0) (ordinal : A → ℤ) (xs : List A) (low high : Option A) → All P xs → AreExtremes ordinal xs low high → IfSome low P × IfSome high P
extremes_hold P ordinal [] None None all e = (tt, tt)
extremes_hold P ordinal [] None (Some b) all e = absurd e
extremes_hold P ordinal [] (Some a) high all e = absurd e
extremes_hold P ordinal (x ∷ xs) (Some a) (Some b) all e = (All-contains P (x ∷ xs) a all e.0.among, All-contains P (x ∷ xs) b all e.1.among)
extremes_hold P ordinal (x ∷ xs) (Some a) None all e = absurd e
extremes_hold P ordinal (x ∷ xs) None high all e = absurd e

some_same : {X : Type 0} (a b : X) → Some a ≡ Some b → a ≡ b
some_same a b e = cc

-- the stored extremes are the bounds of the values
pub stored_bounds : {A P : Type 0} (t : LeafType) (p : Physical) (value : A → Value) (ordinal stored : A → ℤ) (text : P → List ℕ) (num : P → ℤ) → ((x : A) → value x ≡ number (ordinal x)) → (xs : List A) → All (λ x. IsStored t p (value x) (number (stored x))) xs → (low high : Option A) (l h : Option P)
    → AreExtremes ordinal xs low high → option_map num l ≡ option_map stored low → option_map num h ≡ option_map stored high → IfSome l (λ q. IsOne p (text q) (number (num q))) → IfSome h (λ q. IsOne p (text q) (number (num q))) → HasBounds t p true (bounds_of text l h) (map value xs)
stored_bounds t p value ordinal stored text num is [] all None None None None e i j k m = tt
stored_bounds t p value ordinal stored text num is [] all None None (Some a) h e i j k m = cc
stored_bounds t p value ordinal stored text num is [] all None None None (Some b) e i j k m = cc
stored_bounds t p value ordinal stored text num is [] all None (Some b) l h e i j k m = absurd e
stored_bounds t p value ordinal stored text num is [] all (Some a) high l h e i j k m = absurd e
stored_bounds t p value ordinal stored text num is (x ∷ xs) all (Some a) (Some b) (Some c) (Some d) e i j k m =
    extremes_bound t p value ordinal is (x ∷ xs) a b (record { least = text c; greatest = text d }) (stored a) (stored b) e.0 e.1
    (All-contains (λ y. IsStored t p (value y) (number (stored y))) (x ∷ xs) a all e.0.among) (subst (λ n. IsOne p (text c) (number n)) (some_same (num c) (stored a) i) k) (All-contains (λ y. IsStored t p (value y) (number (stored y))) (x ∷ xs) b all e.1.among) (subst (λ n. IsOne p (text d) (number n)) (some_same (num d) (stored b) j) m)
stored_bounds t p value ordinal stored text num is (x ∷ xs) all (Some a) (Some b) None h e i j k m = cc
stored_bounds t p value ordinal stored text num is (x ∷ xs) all (Some a) (Some b) (Some c) None e i j k m = cc
stored_bounds t p value ordinal stored text num is (x ∷ xs) all (Some a) None l h e i j k m = absurd e
stored_bounds t p value ordinal stored text num is (x ∷ xs) all None high l h e i j k m = absurd e

-- of no value nothing is stated
pub nothing_stated : {A P : Type 0} (ordinal stored : A → ℤ) (num : P → ℤ) (xs : List A) (low high : Option A) (l h : Option P) → AreExtremes ordinal xs low high → option_map num l ≡ option_map stored low → option_map num h ≡ option_map stored high → xs ≡ [] → (l ≡ None) × (h ≡ None)
nothing_stated ordinal stored num [] None None None None e i j n = (refl, refl)
nothing_stated ordinal stored num [] None None (Some a) h e i j n = cc
nothing_stated ordinal stored num [] None None None (Some b) e i j n = cc
nothing_stated ordinal stored num [] None (Some b) l h e i j n = absurd e
nothing_stated ordinal stored num [] (Some a) high l h e i j n = absurd e
nothing_stated ordinal stored num (x ∷ xs) low high l h e i j n = cc
