-- Numbers that rise by equal steps.
use Rattle.std.proofs.Common.{◌≡◌, ℕ, zero, suc, ◌+◌, List, [], ◌∷◌, ◌++◌, refl, arith, append_assoc}
use Rattle.read_laws.specs.Step.{rising}

pub rising_first : (first by m n : ℕ) → m ≡ n + 1 → rising first by m ≡ first ∷ rising (first + by) by n
unfolding rising
rising_first first by zero n e = absurd (omega (arith, e))
rising_first first by (suc m) n e = let h : m ≡ n = omega (arith, e) in rw h

pub rising_none : (first by m : ℕ) → m ≡ 0 → rising first by m ≡ []
unfolding rising
rising_none first by zero e = refl
rising_none first by (suc m) e = absurd (omega (arith, e))

-- one number more
pub rising_next : (items : List ℕ) (front : List ℕ) (first next by left rest : ℕ) → left ≡ rest + 1 → next ≡ first + by → items ++ rising first by left ≡ front → (items ++ first ∷ []) ++ rising next by rest ≡ front
rising_next items front first next by left rest l n e =
    let more = rising_first first by left rest l in
    rw (n, append_assoc) (rw more at e)
