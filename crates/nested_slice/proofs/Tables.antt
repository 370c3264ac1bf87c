-- Tables of slots from a function of places.
use Rattle.std.proofs.Common.{◌≡◌, ℕ, zero, suc, ◌+◌, ◌≤◌, ◌<◌, ◌∷◌, take, drop, add-zero, refl, ap, subst, ◌∙◌, arith}
use Rattle.shredding.specs.Slot.{Slot}
use Rattle.shredding.specs.Parts.{slots_from}

-- a table of f from a on, and one of g from b on, that agree
pub same_table : (f g : ℕ → Slot) (a b n : ℕ) → ((i : ℕ) → i < n → f (a + i) ≡ g (b + i)) → slots_from f a n ≡ slots_from g b n
unfolding slots_from
same_table f g a b zero e = refl
same_table f g a b (suc n) e =
    let here : f a ≡ g b = subst (λ k. f k ≡ g b) (add-zero a) (subst (λ k. f (a + 0) ≡ g k) (add-zero b) (e 0 (omega arith))) in
    rw (
      here,
      same_table f g (a + 1) (b + 1) n (λ i h. let p : a + suc i ≡ a + 1 + i = omega arith in let q : b + suc i ≡ b + 1 + i = omega arith in
          subst (λ k. f k ≡ g (b + 1 + i)) p (subst (λ k. f (a + suc i) ≡ g k) q (e (suc i) (omega (arith, h))))),
    ) refl

-- tables that are the same agree at each place
pub table_at : (f g : ℕ → Slot) (a b n : ℕ) → slots_from f a n ≡ slots_from g b n → (i : ℕ) → i < n → f (a + i) ≡ g (b + i)
unfolding slots_from
table_at f g a b zero e i h = absurd (omega (arith, h))
table_at f g a b (suc n) e zero h = let here : f a ≡ g b = cc in rw (add-zero a, add-zero b) here
table_at f g a b (suc n) e (suc i) h =
    let more : slots_from f (a + 1) n ≡ slots_from g (b + 1) n = cc in
    let p : a + suc i ≡ a + 1 + i = omega arith in
    let q : b + suc i ≡ b + 1 + i = omega arith in
    rw (p, q) (table_at f g (a + 1) (b + 1) n more i (omega (arith, h)))

front_table : (f : ℕ → Slot) (a k n : ℕ) → n ≤ k → take n (slots_from f a k) ≡ slots_from f a n
unfolding slots_from
front_table f a k zero h = refl
front_table f a zero (suc n) h = absurd (omega (arith, h))
front_table f a (suc k) (suc n) h = ap (λ r. f a ∷ r) (front_table f (a + 1) k n (omega (arith, h)))

-- a cut of a table
pub cut_table : (f : ℕ → Slot) (a k o n : ℕ) → o + n ≤ k → take n (drop o (slots_from f a k)) ≡ slots_from f (a + o) n
unfolding slots_from
cut_table f a k zero n h = rw (add-zero a) (front_table f a k n (omega (arith, h)))
cut_table f a zero (suc o) n h = absurd (omega (arith, h))
cut_table f a (suc k) (suc o) n h =
    let p : a + 1 + o ≡ a + suc o = omega arith in
    cut_table f (a + 1) k o n (omega (arith, h)) ∙ ap (λ j. slots_from f j n) p
