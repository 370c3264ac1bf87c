-- The groups of the sample.
use Rattle.std.proofs.Common.{◌≡◌, ◌⊎◌, ℕ, zero, suc, ◌+◌, ◌-◌, ◌/◌, ◌≤◌, ◌<◌, List, [], ◌∷◌, ◌++◌, All, length, map, take, drop, Some, sum_by, inl, inr, refl, sym, subst, ap, ◌∙◌, arith}
use Rattle.std.specs.List.{AllByRecursion, range_with_len}
use Rattle.std.proofs.lemmas.List.{append-nil, drop_all, length-drop, length-take, take_all}
use Rattle.std.proofs.lemmas.List.Elements.{All-from_recursion}
use Rattle.std.proofs.lemmas.List.FromFn.{length-map-range_with_len}
use Rattle.std.proofs.lemmas.List.Sums.{sum_by-cons}
use Rattle.shredding.specs.Cut.{cut, pieces}
use Rattle.shredding.specs.Slot.{Slots}
use Rattle.sample_rows.specs.Rows.{sample_row, sample_rows}
use Rattle.sample_sizes.specs.Laws.{PartsAreRows, SamplesAreGroups}
use Rattle.sample_sizes.specs.Rows.{AreGroupsOfRows, IsRow, thousands}
use Rattle.unique_rows.proofs.Outs.{all_cut_all}

-- ---- the rows
rows_each : (a n : ℕ) → a + n ≤ 1000000 → AllByRecursion IsRow (map sample_row (range_with_len a n))
rows_each a zero h = tt
rows_each a (suc n) h = (record { place = a; small = omega (arith, h); is = refl }, rows_each (a + 1) n (omega (arith, h)))

pub parts_are_rows : PartsAreRows
parts_are_rows first count h = record {
  are = All-from_recursion IsRow (map sample_row (range_with_len first count)) (rows_each first count h);
  few = omega (arith, h, length-map-range_with_len sample_row first count);
}

rows_all : (n : ℕ) → n ≤ 1000000 → All IsRow (sample_rows n)
rows_all n h = All-from_recursion IsRow (sample_rows n) (rows_each 0 n (omega (arith, h)))

-- ---- pieces of a thousand
counted : (fuel : ℕ) (rows : List Slots) → length rows ≤ fuel → length (pieces fuel 1000 rows) ≡ (length rows + 999) / 1000
counted zero [] h = refl
counted zero (r ∷ rs) h = absurd (omega (arith, h))
counted (suc fuel) [] h = refl
counted (suc fuel) (r ∷ rs) h =
    let d : length (drop 1000 (r ∷ rs)) ≡ length (r ∷ rs) - 1000 = length-drop 1000 (r ∷ rs) in
    omega (arith, d, counted fuel (drop 1000 (r ∷ rs)) (omega (arith, d, h)))

summed : (fuel : ℕ) (rows : List Slots) → length rows ≤ fuel → sum_by length (pieces fuel 1000 rows) ≡ length rows
summed zero [] h = refl
summed zero (r ∷ rs) h = absurd (omega (arith, h))
summed (suc fuel) [] h = refl
summed (suc fuel) (r ∷ rs) h =
    let d : length (drop 1000 (r ∷ rs)) ≡ length (r ∷ rs) - 1000 = length-drop 1000 (r ∷ rs) in
    omega (arith, d, length-take 1000 (r ∷ rs), sum_by-cons (length {A = Slots}) (take 1000 (r ∷ rs)) (pieces fuel 1000 (drop 1000 (r ∷ rs))), summed fuel (drop 1000 (r ∷ rs)) (omega (arith, d, h)))

no_pieces : (fuel : ℕ) → pieces {A = Slots} fuel 1000 [] ≡ []
no_pieces zero = refl
no_pieces (suc fuel) = refl

-- a piece is not cut again
one_piece : (rows : List Slots) → 0 < length rows → length rows ≤ 1000 → cut rows (Some 1000) ≡ rows ∷ []
one_piece [] s h = absurd (omega (arith, s))
one_piece (r ∷ rs) s h =
    let whole : take 1000 (r ∷ rs) ≡ r ∷ rs = take_all 1000 (r ∷ rs) h in
    let none : drop 1000 (r ∷ rs) ≡ [] = drop_all 1000 (r ∷ rs) h in
    ap (λ x. x ∷ pieces (length rs) 1000 (drop 1000 (r ∷ rs))) whole ∙ ap (λ xs. (r ∷ rs) ∷ pieces (length rs) 1000 xs) none ∙ ap (λ xs. (r ∷ rs) ∷ xs) (no_pieces (length rs))

cut_once : (fuel : ℕ) (rows : List Slots) → thousands (pieces fuel 1000 rows) ≡ pieces fuel 1000 rows
cut_once zero rows = refl
cut_once (suc fuel) [] = refl
cut_once (suc fuel) (r ∷ rs) =
    let first = take 1000 (r ∷ rs) in
    let rest = pieces fuel 1000 (drop 1000 (r ∷ rs)) in
    let one : cut first (Some 1000) ≡ first ∷ [] = one_piece first (omega (arith, length-take 1000 (r ∷ rs))) (omega (arith, length-take 1000 (r ∷ rs))) in
    ap (λ xs. xs ++ thousands rest) one ∙ ap (λ xs. first ∷ xs) (cut_once fuel (drop 1000 (r ∷ rs)))

-- ---- the two ways of writing it
one_group : (n : ℕ) → n ≤ 1000000 → AreGroupsOfRows (sample_rows n ∷ [])
one_group n h = record {
  are = All-from_recursion (All IsRow) (sample_rows n ∷ []) (rows_all n h, tt);
  groups = omega arith;
  few = omega (arith, h, length-map-range_with_len sample_row 0 n);
}

cut_groups : (n : ℕ) → n ≤ 1000000 → AreGroupsOfRows (cut (sample_rows n) (Some 1000))
cut_groups n h =
    let l : length (sample_rows n) ≡ n = length-map-range_with_len sample_row 0 n in
    let each : AllByRecursion (All IsRow) (cut (sample_rows n) (Some 1000)) = subst (AllByRecursion (All IsRow)) (append-nil (cut (sample_rows n) (Some 1000))) (all_cut_all IsRow (Some 1000) (sample_rows n ∷ []) (rows_all n h, tt)) in
    record {
      are = All-from_recursion (All IsRow) (cut (sample_rows n) (Some 1000)) each;
      groups = omega (arith, counted (length (sample_rows n)) (sample_rows n) (omega arith), l, h);
      few = omega (arith, summed (length (sample_rows n)) (sample_rows n) (omega arith), l, h);
    }

pub samples_are_groups : SamplesAreGroups
samples_are_groups rowss h = of h.is
  where
    of : (rowss ≡ sample_rows h.count ∷ []) ⊎ (rowss ≡ cut (sample_rows h.count) (Some 1000)) → AreGroupsOfRows rowss × AreGroupsOfRows (thousands rowss)
    of (inl e) = (
      subst AreGroupsOfRows (sym e) (one_group h.count h.few),
      subst (λ x. AreGroupsOfRows (thousands x)) (sym e) (subst AreGroupsOfRows (sym (append-nil (cut (sample_rows h.count) (Some 1000)))) (cut_groups h.count h.few)),
    )
    of (inr e) = (
      subst AreGroupsOfRows (sym e) (cut_groups h.count h.few),
      subst (λ x. AreGroupsOfRows (thousands x)) (sym e) (subst AreGroupsOfRows (sym (cut_once (length (sample_rows h.count)) (sample_rows h.count))) (cut_groups h.count h.few)),
    )
