-- Sums modulo 2 ^ 32 are the low bits of sums modulo 2 ^ 64.
use Rattle.std.proofs.Common.{◌≡◌, ℕ, ◌%◌, ◌^◌, ◌<◌, ℤ, pos, negsuc, ◌+ℤ◌, Bool, List, [], ◌∷◌, length, map, refl, sym, ap, subst, ◌∙◌, arith, SFits}
use Rattle.std.proofs.lemmas.Int.{of_z-to_z, int_wrap_fits, SFits-int_wrap}
use Rattle.std.proofs.lemmas.List.{length-map}
use Rattle.std.specs.Int.{Width, w32, w64, int_wrap, int_rem_euclid, cast_signed, cast_unsigned}
use Rattle.std.specs.Int.RustNames.{unsigned_abs}
use Rattle.pq_runs.specs.Delta.{IsDelta, IsSums, sums, wrapped}

wrapped-is : (w : Width) (z : ℤ) → wrapped w z ≡ int_wrap w z
unfolding int_wrap
wrapped-is w z = refl

pub fits_wrapped : (z : ℤ) → SFits w64 (wrapped w64 z)
fits_wrapped z = subst (λ (y : ℤ). SFits w64 y) (sym (wrapped-is w64 z)) (SFits-int_wrap w64 z)

pub wrapped_same : (z : ℤ) → SFits w64 z → wrapped w64 z ≡ z
wrapped_same z fits = wrapped-is w64 z ∙ int_wrap_fits w64 z fits

-- the number modulo 2 ^ 64 as a natural one
low : ℤ → ℕ
low z = unsigned_abs (int_rem_euclid z (pos (2 ^ 64)))

low_below : (z : ℤ) → low z < 2 ^ 64
unfolding low
low_below (pos n) = omega arith
low_below (negsuc n) = omega arith

low_32 : (z : ℤ) → unsigned_abs (int_rem_euclid z (pos (2 ^ 32))) ≡ low z % 2 ^ 32
unfolding low
low_32 (pos n) = omega arith
low_32 (negsuc n) = omega arith

wrapped_low : (z : ℤ) → wrapped w32 z ≡ cast_signed w32 (low z % 2 ^ 32)
wrapped_low z = ap (cast_signed w32) (low_32 z)

-- for numbers that fit, `low` is the cast
low_is : (z : ℤ) → SFits w64 z → low z ≡ cast_unsigned w64 z
unfolding low
low_is (pos n) fits = omega (arith, fits)
low_is (negsuc n) fits = omega (arith, fits)

low_cast : (z : ℤ) → low (wrapped w64 z) ≡ low z
unfolding low
low_cast z = low_is (wrapped w64 z) (fits_wrapped z) ∙ of_z-to_z w64 (low z) (low_below z)

pub wrapped_cast : (z : ℤ) → SFits w64 z → wrapped w32 z ≡ cast_signed w32 (cast_unsigned w64 z % 2 ^ 32)
wrapped_cast z fits = wrapped_low z ∙ ap (λ (n : ℕ). cast_signed w32 (n % 2 ^ 32)) (low_is z fits)

abbrev pub Narrow : Width → Type 0
Narrow v = (z : ℤ) → wrapped v (wrapped w64 z) ≡ wrapped v z

pub narrow_32 : Narrow w32
narrow_32 z = wrapped_low (wrapped w64 z) ∙ ap (λ (n : ℕ). cast_signed w32 (n % 2 ^ 32)) (low_cast z) ∙ sym (wrapped_low z)

pub narrow_64 : Narrow w64
narrow_64 z = wrapped_same (wrapped w64 z) (fits_wrapped z)

-- ---- lists

sums_narrow : (v : Width) → Narrow v → (z : ℤ) (ds : List ℤ) → sums v z ds ≡ map (wrapped v) (sums w64 z ds)
sums_narrow v h z [] = ap (λ (y : ℤ). y ∷ []) (sym (h z))
sums_narrow v h z (d ∷ ds) = ap (λ (y : ℤ). y ∷ sums v (z +ℤ d) ds) (sym (h z)) ∙ ap (λ (t : List ℤ). wrapped v (wrapped w64 z) ∷ t) (sums_narrow v h (z +ℤ d) ds)

is_sums : (w : Width) (z : ℤ) (ds : List ℤ) → IsSums w z ds (sums w z ds)
is_sums w z [] = refl
is_sums w z (d ∷ ds) = refl

wide_sums : (v : Width) → Narrow v → (z : ℤ) (ds zs : List ℤ) → IsSums v z ds zs → (ys : List ℤ) × IsSums w64 z ds ys × (zs ≡ map (wrapped v) ys)
wide_sums v h z ds [] e = ([], e, refl)
wide_sums v h z ds (y ∷ zs) e = (sums w64 z ds, is_sums w64 z ds, e ∙ sums_narrow v h z ds)

narrow_sums : (v : Width) → Narrow v → (z : ℤ) (ds ys : List ℤ) → IsSums w64 z ds ys → IsSums v z ds (map (wrapped v) ys)
narrow_sums v h z ds [] e = e
narrow_sums v h z ds (y ∷ ys) e = ap (map (wrapped v)) e ∙ sym (sums_narrow v h z ds)

pub narrowed : (v : Width) → Narrow v → (cut : Bool) (text : List ℕ) (zs : List ℤ) → IsDelta v cut text zs → (ys : List ℤ) × IsDelta w64 cut text ys × (zs ≡ map (wrapped v) ys)
narrowed v h cut text zs d =
    let s = wide_sums v h d.first d.deltas zs d.are in (
      s.0,
      record {
        size = d.size;
        miniblocks = d.miniblocks;
        count = d.count;
        first = d.first;
        size_text = d.size_text;
        miniblocks_text = d.miniblocks_text;
        count_text = d.count_text;
        first_text = d.first_text;
        body = d.body;
        parts = d.parts;
        has_size = d.has_size;
        has_miniblocks = d.has_miniblocks;
        has_count = d.has_count;
        has_first = d.has_first;
        size_fits = d.size_fits;
        n = d.n;
        divides = d.divides;
        n_fits = d.n_fits;
        counts = d.counts ∙ ap length s.2 ∙ length-map s.0 (wrapped v);
        deltas = d.deltas;
        blocks = d.blocks;
        are = s.1;
      },
      s.2,
    )

pub widened : (v : Width) → Narrow v → (cut : Bool) (text : List ℕ) (ys zs : List ℤ) → IsDelta w64 cut text ys → zs ≡ map (wrapped v) ys → IsDelta v cut text zs
widened v h cut text ys zs d e = record {
  size = d.size;
  miniblocks = d.miniblocks;
  count = d.count;
  first = d.first;
  size_text = d.size_text;
  miniblocks_text = d.miniblocks_text;
  count_text = d.count_text;
  first_text = d.first_text;
  body = d.body;
  parts = d.parts;
  has_size = d.has_size;
  has_miniblocks = d.has_miniblocks;
  has_count = d.has_count;
  has_first = d.has_first;
  size_fits = d.size_fits;
  n = d.n;
  divides = d.divides;
  n_fits = d.n_fits;
  counts = d.counts ∙ sym (length-map ys (wrapped v)) ∙ sym (ap length e);
  deltas = d.deltas;
  blocks = d.blocks;
  are = subst (λ (xs : List ℤ). IsSums v d.first d.deltas xs) (sym e) (narrow_sums v h d.first d.deltas ys d.are);
}
