-- Places compared with those beside them.
use Rattle.std.proofs.Common.{◌≡◌, ℕ, ℤ, suc, pos, ◌+◌, ◌-◌, ◌<◌, ◌≤◌, ◌&&◌, Bool, true, false, true≢false, inl, inr, List, [], ◌∷◌, length, map, get_or, arith, refl, ap, sym, ◌∙◌}
use Rattle.std.proofs.lemmas.List.{get_or-map}
use Rattle.std.proofs.lemmas.Bool.{cases_lt}
use Rattle.columns_core.specs.Rising.{whole, IsWhole, AreFrom}

-- the second place is not below the first, and neither is negative
abbrev pub IsStep : ℤ → ℤ → Type 0
IsStep y z = IsWhole y × IsWhole z × (whole y ≤ whole z)

-- where the flag is set, each of the first places is a step behind the one before it
unfoldable pub AreSteps : Bool → ℕ → List ℤ → Type 0
AreSteps rise i zs = rise ≡ true → (k : ℕ) → suc k < i → IsStep (get_or zs k (pos 0)) (get_or zs (suc k) (pos 0))

pub steps-none : (zs : List ℤ) → AreSteps true 1 zs
unfolding AreSteps
steps-none zs r k h = absurd (omega (arith, h))

pub steps-more : {X : Type 0} (f : X → ℤ) (xs : List X) (a b : Bool) (i : ℕ) (x y : X) → 0 < i → i < length xs → x ≡ get_or xs (i - 1) x → y ≡ get_or xs i y → (b ≡ true → IsStep (f x) (f y)) → AreSteps a i (map f xs) → AreSteps (a && b) (i + 1) (map f xs)
unfolding AreSteps
steps-more f xs false b i x y some within xe ye step old r k h = absurd (true≢false (sym r))
steps-more f xs true b i x y some within xe ye step old r k h = elim (cases_lt (suc k) i) [
  | inl l ↦ old refl k l
  | inr l ↦
      let before : i - 1 ≡ k = omega (arith, l, h) in
      let here : i ≡ suc k = omega (arith, l, h) in
      let first : get_or (map f xs) k (pos 0) ≡ f x = get_or-map f xs k x (pos 0) (omega (arith, h, within, here)) ∙ ap f (ap (λ (n : ℕ). get_or xs n x) (sym before) ∙ sym xe) in
      let second : get_or (map f xs) (suc k) (pos 0) ≡ f y = get_or-map f xs (suc k) y (pos 0) (omega (arith, within, here)) ∙ ap f (ap (λ (n : ℕ). get_or xs n y) (sym here) ∙ sym ye) in
      rw (first, second) (step r)
]

rises : (zs : List ℤ) (z : ℤ) → ((k : ℕ) → suc k < suc (length zs) → IsStep (get_or (z ∷ zs) k (pos 0)) (get_or (z ∷ zs) (suc k) (pos 0))) → AreFrom (whole z) zs
rises [] z h = tt
rises (y ∷ ys) z h = let s = h 0 (omega arith) in (s.1, s.2, rises ys y (λ k l. h (suc k) (omega (arith, l))))

pub steps-rise : (zs : List ℤ) (rise : Bool) (i : ℕ) → 1 < length zs → length zs ≤ i → AreSteps rise i zs → rise ≡ true → AreFrom 0 zs
unfolding AreSteps
steps-rise [] rise i some all h r = tt
steps-rise (z ∷ zs) rise i some all h r = ((h r 0 (omega (arith, some, all))).0, omega arith, rises zs z (λ k l. h r k (omega (arith, l, all))))
