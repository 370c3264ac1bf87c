-- What places give, piece by piece.
use Rattle.std.proofs.Common.{◌≡◌, ℕ, zero, suc, ◌+◌, ◌-◌, ◌<◌, ◌≤◌, List, [], ◌++◌, refl, arith, ap, sym, ◌∙◌, append_assoc}
use Rattle.write_places.specs.Places.{gather}

pub gather-none : {A : Type 0} (piece : ℕ → List A) (place count : ℕ) → count ≡ 0 → gather piece place count ≡ []
unfolding gather
gather-none piece place zero e = refl
gather-none piece place (suc count) e = absurd (omega arith)

pub gather-more : {A : Type 0} (piece : ℕ → List A) (place count left : ℕ) → count ≡ left + 1 → gather piece place count ≡ piece place ++ gather piece (place + 1) left
unfolding gather
gather-more piece place zero left e = absurd (omega (arith, e))
gather-more piece place (suc count) left e = let n : count ≡ left = omega (arith, e) in ap (λ (k : ℕ). piece place ++ gather piece (place + 1) k) n

gather-add : {A : Type 0} (piece : ℕ → List A) (place m n : ℕ) → gather piece place (m + n) ≡ gather piece place m ++ gather piece (place + m) n
unfolding gather
gather-add {A} piece place zero n =
    let a : zero + n ≡ n = omega arith in
    let b : place + zero ≡ place = omega arith in
    rw (a, b) refl
gather-add {A} piece place (suc m) n =
    let a : suc m + n ≡ suc (m + n) = omega arith in
    let b : place + suc m ≡ place + 1 + m = omega arith in
    rw (a, b) (ap (λ (xs : List A). piece place ++ xs) (gather-add piece (place + 1) m n) ∙ sym (append_assoc (piece place) (gather piece (place + 1) m) (gather piece (place + 1 + m) n)))

pub gather-split : {A : Type 0} (piece : ℕ → List A) (place next to : ℕ) → place ≤ next → next ≤ to → gather piece place (to - place) ≡ gather piece place (next - place) ++ gather piece next (to - next)
gather-split piece place next to low high =
    let a : to - place ≡ (next - place) + (to - next) = omega (arith, low, high) in
    let b : place + (next - place) ≡ next = omega (arith, low) in
    rw a (gather-add piece place (next - place) (to - next) ∙ ap (λ (k : ℕ). gather piece place (next - place) ++ gather piece k (to - next)) b)

pub gather-alike : {A : Type 0} (piece other : ℕ → List A) (place count : ℕ) → ((i : ℕ) → place ≤ i → i < place + count → piece i ≡ other i) → gather piece place count ≡ gather other place count
unfolding gather
gather-alike piece other place zero same = refl
gather-alike piece other place (suc count) same =
    ap (λ xs. xs ++ gather piece (place + 1) count) (same place (omega arith) (omega arith))
    ∙ ap (λ xs. other place ++ xs) (gather-alike piece other (place + 1) count (λ i low high. same i (omega (arith, low)) (omega (arith, high))))

pub gather-nothing : {A : Type 0} (piece : ℕ → List A) (place count : ℕ) → ((i : ℕ) → place ≤ i → i < place + count → piece i ≡ []) → gather piece place count ≡ []
unfolding gather
gather-nothing piece place zero same = refl
gather-nothing piece place (suc count) same =
    ap (λ xs. xs ++ gather piece (place + 1) count) (same place (omega arith) (omega arith))
    ∙ gather-nothing piece (place + 1) count (λ i low high. same i (omega (arith, low)) (omega (arith, high)))

-- ranges side by side, from places that never fall
pub gather-ranges : {A : Type 0} (piece below : ℕ → List A) (start : ℕ → ℕ) (place count : ℕ) → ((i : ℕ) → place ≤ i → i < place + count → (start i ≤ start (i + 1)) × (piece i ≡ gather below (start i) (start (i + 1) - start i)))
    → (start place ≤ start (place + count)) × (gather piece place count ≡ gather below (start place) (start (place + count) - start place))
unfolding gather
gather-ranges piece below start place zero each =
    let a : place + zero ≡ place = omega arith in
    let b : start place - start place ≡ 0 = omega arith in
    rw a (omega arith, sym (gather-none below (start place) (start place - start place) b))
gather-ranges piece below start place (suc count) each =
    let here = each place (omega arith) (omega arith) in
    let more = gather-ranges piece below start (place + 1) count (λ i low high. each i (omega (arith, low)) (omega (arith, high))) in
    let a : place + suc count ≡ place + 1 + count = omega arith in
    rw a (omega (arith, here.0, more.0), ap (λ xs. xs ++ gather piece (place + 1) count) here.1 ∙ (ap (λ xs. gather below (start place) (start (place + 1) - start place) ++ xs) more.1 ∙ sym (gather-split below (start place) (start (place + 1)) (start (place + 1 + count)) here.0 more.0)))
