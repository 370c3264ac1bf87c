-- How many bytes a plain value of one size has.
use Rattle.std.proofs.lemmas.Bool.Decides.{leb_tells}
use Rattle.std.proofs.Common.{◌≡◌, inl, inr, true, ℕ, zero, suc, ◌<◌, ◌≤◌, Some, None, List, [], ◌∷◌, ◌++◌, length, take, drop, refl, arith, ap, ◌∙◌, length-append}
use Rattle.std.proofs.lemmas.List.{length-take, length-take-le, take_at, drop_at}
use Rattle.shredding.specs.Slot.{Value}
use Rattle.read_leaf.specs.Fixed.{stored_fixed}
use Rattle.read_leaf.proofs.FixedRead.{fixed-none, fixed-first, fixed-zero}
use Rattle.read_pieces.specs.Leaves.{BeginsOutside, BeginsWithValue, in_bytes}
use Rattle.read_walk.specs.Values.{Stored}

pub fixed_short : (loaded : List ℕ → Stored) (size : ℕ) (text : List ℕ) → length text < size → stored_fixed loaded size text ≡ []
fixed_short loaded size text h = fixed-none loaded size text h

pub fixed_value : (loaded : List ℕ → Stored) (size : ℕ) (text : List ℕ) (v : Value) → 0 < size → size ≤ length text → loaded (take size text) ≡ Some v → BeginsWithValue (stored_fixed loaded size) size text
fixed_value loaded size text v some h e =
    let own = take size text in
    let whole : length own ≡ size = length-take-le size text h in
    record {
      within = h;
      «value» = v;
      is = record {
        is = λ rest. (
            let front : take size (own ++ rest) ≡ own = take_at own rest size whole in
            let behind : drop size (own ++ rest) ≡ rest = drop_at own rest size whole in
            fixed-first loaded size (own ++ rest) some (omega (arith, length-append own rest, whole))
            ∙ (ap (λ (s : List ℕ). loaded s ∷ stored_fixed loaded size (drop size (own ++ rest))) front
            ∙ (ap (λ (s : List ℕ). loaded own ∷ stored_fixed loaded size s) behind
            ∙ ap (λ (o : Stored). o ∷ stored_fixed loaded size rest) e)));
        least = λ n few. fixed-none loaded size (take n own) (omega (arith, few, whole, length-take n own));
      };
    }

pub fixed_outside : (loaded : List ℕ → Stored) (size : ℕ) (text : List ℕ) → 0 < size → size ≤ length text → loaded (take size text) ≡ None → BeginsOutside (stored_fixed loaded size) text
fixed_outside loaded size text some h e =
    (stored_fixed loaded size (drop size text), fixed-first loaded size text some h ∙ ap (λ (o : Stored). o ∷ stored_fixed loaded size (drop size text)) e)

-- no size, no value
pub fixed_none : (loaded : List ℕ → Stored) (size : ℕ) (text : List ℕ) → size ≡ 0 → stored_fixed loaded size text ≡ []
fixed_none loaded size text e = fixed-zero loaded size text e

-- a byte holds no two values
few-in : (loaded : List ℕ → Stored) (size : ℕ) → length (stored_fixed loaded size (0 ∷ [])) < 2
few-in loaded zero = omega (arith, ap length (fixed-zero loaded zero (0 ∷ []) refl))
few-in loaded (suc zero) = omega (arith, ap length (fixed-first loaded 1 (0 ∷ []) (omega arith) (omega arith)), ap length (fixed-none loaded 1 [] (omega arith)))
few-in loaded (suc (suc k)) = omega (arith, ap length (fixed-none loaded (suc (suc k)) (0 ∷ []) (omega arith)))

pub fixed_own : (loaded : List ℕ → Stored) (size : ℕ) → in_bytes (stored_fixed loaded size) ≡ true
fixed_own loaded size = elim (leb_tells (suc (length (stored_fixed loaded size (0 ∷ [])))) 2) [ inl e ↦ e.0 | inr e ↦ absurd (omega (arith, e.1, few-in loaded size)) ]
