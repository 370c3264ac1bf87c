-- The dictionary spelling has one reading.
use Rattle.std.proofs.Common.{◌≡◌, ℕ, suc, List, [], ◌∷◌, ◌++◌, length, Some, refl, sym, ap, subst, ◌∙◌, arith}
use Rattle.std.proofs.lemmas.Option.{same_Some}
use Rattle.std.specs.Prelude.{slice_get}
use Rattle.std.specs.List.{AllZip}
use Rattle.shredding.specs.Slot.{Value}
use Rattle.pq_files.specs.Indices.{IsIndices, IsIndexed}
use Rattle.pq_runs.specs.Runs.{Runs}
use Rattle.pq_numbers.specs.Texts.{Begins}
use Rattle.pq_runs.proofs.Complete.{unique}
use Rattle.pq_metadata.proofs.Injective.{cons_same}

-- ---- entries

zip_length : (entries : List Value) (ns : List ℕ) (vs : List Value) → AllZip (λ n v. slice_get entries n ≡ Some v) ns vs → length ns ≡ length vs
zip_length entries [] [] z = refl
zip_length entries [] (v ∷ vs) z = absurd z
zip_length entries (n ∷ ns) [] z = absurd z
zip_length entries (n ∷ ns) (v ∷ vs) z = ap suc (zip_length entries ns vs z.1)

zip_same : (entries : List Value) (ns : List ℕ) (vs ws : List Value) → AllZip (λ n v. slice_get entries n ≡ Some v) ns vs → AllZip (λ n v. slice_get entries n ≡ Some v) ns ws → vs ≡ ws
zip_same entries [] [] [] z y = refl
zip_same entries [] [] (w ∷ ws) z y = absurd y
zip_same entries [] (v ∷ vs) ws z y = absurd z
zip_same entries (n ∷ ns) [] ws z y = absurd z
zip_same entries (n ∷ ns) (v ∷ vs) [] z y = absurd y
zip_same entries (n ∷ ns) (v ∷ vs) (w ∷ ws) z y =
    ap (λ x. x ∷ vs) (same_Some v w (sym z.0 ∙ y.0)) ∙ ap (λ xs. w ∷ xs) (zip_same entries ns vs ws z.1 y.1)

-- ---- sections

indices_same : (s t x y : List ℕ) (ns ms : List ℕ) → IsIndices s ns → IsIndices t ms → s ++ x ≡ t ++ y → length ns ≡ length ms → ns ≡ ms
indices_same [] [] x y ns ms h k e n = h ∙ sym k
indices_same [] (w ∷ t) x y [] [] h k e n = refl
indices_same [] (w ∷ t) x y [] (m ∷ ms) h k e n = absurd (omega (arith, n))
indices_same [] (w ∷ t) x y (m ∷ ns) ms h k e n = absurd (omega (arith, ap length h))
indices_same (w ∷ s) [] x y [] [] h k e n = refl
indices_same (w ∷ s) [] x y (m ∷ ns) [] h k e n = absurd (omega (arith, n))
indices_same (w ∷ s) [] x y ns (m ∷ ms) h k e n = absurd (omega (arith, ap length k))
indices_same (w ∷ s) (v ∷ t) x y ns ms h k e n =
    let same = cons_same w v (s ++ x) (t ++ y) e in
    let k' : Runs w t ms = subst (λ (u : ℕ). Runs u t ms) (sym same.0) k.1 in
    unique w (s ++ x) ns ms (record { text = s; rest = x; parts = refl; spells = h.1 }) (record { text = t; rest = y; parts = same.1; spells = k' }) n

pub indexed_same : (entries : List Value) (section section' : List ℕ) (vs ws : List Value) → section ≡ section' → Begins (IsIndexed entries) section vs → Begins (IsIndexed entries) section' ws → length vs ≡ length ws → vs ≡ ws
indexed_same entries section section' vs ws e a b n =
    let x = a.spells in
    let y = b.spells in
    let size : length x.0 ≡ length y.0 = zip_length entries x.0 vs x.2 ∙ n ∙ sym (zip_length entries y.0 ws y.2) in
    let same : x.0 ≡ y.0 = indices_same a.text b.text a.rest b.rest x.0 y.0 x.1 y.1 (sym a.parts ∙ e ∙ b.parts) size in
    zip_same entries x.0 vs ws x.2 (subst (λ (ns : List ℕ). AllZip (λ m v. slice_get entries m ≡ Some v) ns ws) (sym same) y.2)
