-- Arrays of one length, one after another.
use Rattle.std.proofs.Common.{◌≡◌, ◌↔◌, ℕ, zero, suc, ◌+◌, ◌<◌, List, [], ◌∷◌, length, drop, get_or, add-one, refl, ap, sym, subst, ◌∙◌, arith}
use Rattle.std.proofs.Math.Seq.{drop-cons}
use Rattle.columns_slots.specs.Slots.{tree_len}
use Rattle.columns_array.specs.Boxed.{boxed, all_boxed}
use Rattle.columns_array.specs.Chunks.{HaveLen, AreEven}
use Rattle.columns_array.specs.declared.arrays.ArrayBox.{ArrayBox}

pub even_step : (n : ℕ) (vs : List ArrayBox) (i : ℕ) (b : ArrayBox) → i < length vs → b ≡ get_or vs i b
    → HaveLen n (all_boxed (drop i vs)) ↔ ((tree_len (boxed b) ≡ n) × HaveLen n (all_boxed (drop (i + 1) vs)))
even_step n vs i b k d =
    subst (λ x. HaveLen n (all_boxed (drop i vs)) ↔ ((tree_len (boxed x) ≡ n) × HaveLen n (all_boxed (drop (i + 1) vs)))) (sym d) (rw (add-one i, drop-cons vs i b k) (λ h. h, λ h. h))

pub even_none : (vs : List ArrayBox) → length vs ≡ 0 → AreEven (all_boxed vs)
even_none [] h = tt
even_none (v ∷ vs) h = absurd (omega (arith, h))

pub even_first : (vs : List ArrayBox) (b : ArrayBox) → 0 < length vs → b ≡ get_or vs 0 b → AreEven (all_boxed vs) ↔ HaveLen (tree_len (boxed b)) (all_boxed vs)
even_first [] b h e = absurd (omega (arith, h))
even_first (v ∷ vs) b h e = subst (λ x. HaveLen (tree_len (boxed v)) (all_boxed vs) ↔ HaveLen (tree_len (boxed x)) (all_boxed (v ∷ vs))) (sym e) (λ h. (refl, h), λ h. h.1)
