-- Indices as they are written.
use Rattle.std.proofs.Common.{◌≡◌, ◌⊎◌, inl, inr, ℕ, suc, ◌+◌, ◌*◌, ◌^◌, ◌<◌, ◌≤◌, List, [], ◌∷◌, ◌++◌, length, map, replicate, All, refl, ap, sym, subst, ◌∙◌, append_assoc, arith, lit≤}
use Rattle.std.specs.Prelude.{Contains}
use Rattle.std.specs.List.{AllByRecursion as Each}
use Rattle.std.proofs.lemmas.List.Elements.{All-contains, All-from_recursion, recursion_from_All}
use Rattle.std.proofs.lemmas.Nat.{mul-le}
use Rattle.pq_numbers.specs.Bits.{IsWidth}
use Rattle.pq_runs.specs.Packing.{IsLeastWidth}
use Rattle.pq_runs.specs.WrittenRuns.{WrittenRuns, no_bits}
use Rattle.pq_runs.specs.Writing.{AppendsRuns}
use Rattle.dictionary_pages.specs.Indices.{AppendsIndices, IsLargest}

each_below : (n b : ℕ) (ns : List ℕ) → n < b → Each (λ m. m ≤ n) ns → Each (λ m. m < b) ns
each_below n b [] h e = tt
each_below n b (m ∷ ns) h e = (omega (arith, h, e.0), each_below n b ns h e.1)

pub all_below : (n b : ℕ) (ns : List ℕ) → n < b → All (λ m. m ≤ n) ns → All (λ m. m < b) ns
all_below n b ns h e = All-from_recursion (λ m. m < b) ns (each_below n b ns h (recursion_from_All (λ m. m ≤ n) ns e))

-- each index is below a power of two that the largest is below
each_low : (f : ℕ → ℕ) (n b c : ℕ) (is : List ℕ) → n < b → n < c → Each (λ m. m ≤ n) (map f is) → Each (λ i. (f i < b) × (f i < c)) is
each_low f n b c [] h k e = tt
each_low f n b c (i ∷ is) h k e = ((omega (arith, h, e.0), omega (arith, k, e.0)), each_low f n b c is h k e.1)

pub all_low : (f : ℕ → ℕ) (n b c : ℕ) (is : List ℕ) → n < b → n < c → IsLargest (map f is) n → All (λ i. (f i < b) × (f i < c)) is
all_low f n b c is h k l = All-from_recursion (λ i. (f i < b) × (f i < c)) is (each_low f n b c is h k (recursion_from_All (λ m. m ≤ n) (map f is) l.most))

-- the width of the largest is the least that holds all
pub least_width : (w n : ℕ) (ns : List ℕ) → IsWidth n w → IsLargest ns n → IsLeastWidth w ns
least_width w n ns h l = record { holds = all_below n (2 ^ w) ns h.holds l.most; least = λ u below. by u below l.among }
  where
    by : (u : ℕ) → All (λ v. v < 2 ^ u) ns → (n ≡ 0) ⊎ Contains ns n → w ≤ u
    by u below (inl e) = let z : n < 2 ^ 0 = omega (arith, e) in let k = h.least 0 z in omega (arith, k)
    by u below (inr c) = h.least u (All-contains (λ v. v < 2 ^ u) ns n below c)

zeros : (ns : List ℕ) → Each (λ m. m < 2 ^ 0) ns → ns ≡ replicate (length ns) 0
zeros [] h = refl
zeros (n ∷ ns) h = let e : n ≡ 0 = omega (arith, h.0) in λ i. e i ∷ zeros ns h.1 i

pub none_written : (w n width : ℕ) (before after ns : List ℕ) → IsWidth n w → w ≡ 0 → width ≡ w → after ≡ before ++ (width ∷ []) → IsLargest ns n → AppendsIndices before after ns
none_written w n width before after ns h z k e l =
    let least : IsLeastWidth 0 ns = subst (λ (v : ℕ). IsLeastWidth v ns) z (least_width w n ns h l) in
    let none : WrittenRuns 0 [] ns = subst (λ (ms : List ℕ). WrittenRuns 0 [] ms) (sym (zeros ns (recursion_from_All (λ m. m < 2 ^ 0) ns least.holds))) (no_bits (length ns) refl) in
    record {
      text = width ∷ [];
      parts = e;
      are = record { width = 0; runs = []; parts = ap (λ (v : ℕ). v ∷ []) (k ∙ z); is_width = least; fits = lit≤ tt; are = none };
      size = omega arith;
    }

-- A width of at most 32 bits takes at most five bytes for each number.
short_runs : (w n l : ℕ) → w ≤ 32 → 504 * l ≤ (63 * w + 1) * n + 441 * w + 504 → suc l ≤ 11 * n + 310
short_runs w n l most h = let weight : (63 * w + 1) * n ≤ 2017 * n = mul-le (63 * w + 1) n 2017 n (omega (arith, most)) (omega arith) in omega (arith, weight, h, most)

pub runs_written : (w n width : ℕ) (before mid after ns : List ℕ) → IsWidth n w → w ≤ 32 → width ≡ w → mid ≡ before ++ (width ∷ []) → IsLargest ns n → AppendsRuns w mid after ns → AppendsIndices before after ns
runs_written w n width before mid after ns h most k e l r = record {
  text = width ∷ r.text;
  parts = r.parts ∙ (ap (λ (xs : List ℕ). xs ++ r.text) e ∙ append_assoc before (width ∷ []) r.text);
  are = record { width = w; runs = r.text; parts = ap (λ (v : ℕ). v ∷ r.text) k; is_width = least_width w n ns h l; fits = most; are = r.runs };
  size = short_runs w (length ns) (length r.text) most r.size;
}
