-- Lemmas on `run` and `slot_pairs`.
use Rattle.std.proofs.Common.{◌≡◌, ℕ, zero, suc, ◌+◌, ◌-◌, ◌<◌, ◌≤◌, List, [], ◌∷◌, ◌++◌, refl, arith, ap, sym, ◌∙◌, append_assoc}
use Rattle.levels.specs.Levels.{run, run_or}

pub run-none : {A : Type 0} (piece : ℕ → ℕ → List A) (first others place count : ℕ) → count ≡ 0 → run piece first others place count ≡ []
unfolding run
run-none piece first others place zero e = refl
run-none piece first others place (suc count) e = absurd (omega arith)

pub run-more : {A : Type 0} (piece : ℕ → ℕ → List A) (first others place count left : ℕ) → count ≡ left + 1 → run piece first others place count ≡ piece first place ++ run piece others others (place + 1) left
unfolding run
run-more piece first others place zero left e = absurd (omega arith)
run-more piece first others place (suc count) left e = let h : count ≡ left = omega arith in rw h

pub run_or-none : {A : Type 0} (empty : A) (piece : ℕ → ℕ → List A) (first others place count : ℕ) → count ≡ 0 → run_or empty piece first others place count ≡ empty ∷ []
unfolding run_or
run_or-none empty piece first others place zero e = refl
run_or-none empty piece first others place (suc count) e = absurd (omega arith)

pub run_or-some : {A : Type 0} (empty : A) (piece : ℕ → ℕ → List A) (first others place count : ℕ) → 0 < count → run_or empty piece first others place count ≡ run piece first others place count
unfolding run_or
run_or-some empty piece first others place zero e = absurd (omega arith)
run_or-some empty piece first others place (suc count) e = refl

run-add : {A : Type 0} (piece : ℕ → ℕ → List A) (others place m n : ℕ) → run piece others others place (m + n) ≡ run piece others others place m ++ run piece others others (place + m) n
unfolding run
run-add piece others place zero n =
    let a : 0 + n ≡ n = omega arith in
    let b : place ≡ place + 0 = omega arith in
    ap (λ (k : ℕ). run piece others others place k) a ∙ ap (λ (p : ℕ). run piece others others p n) b
run-add piece others place (suc m) n =
    let a : suc m + n ≡ suc (m + n) = omega arith in
    let b : place + 1 + m ≡ place + suc m = omega arith in
    ap (λ (k : ℕ). run piece others others place k) a
    ∙ (ap (λ xs. piece others place ++ xs) (run-add piece others (place + 1) m n)
    ∙ (sym (append_assoc (piece others place) (run piece others others (place + 1) m) (run piece others others (place + 1 + m) n))
    ∙ ap (λ (p : ℕ). (piece others place ++ run piece others others (place + 1) m) ++ run piece others others p n) b))

pub run-split : {A : Type 0} (piece : ℕ → ℕ → List A) (first others place next to : ℕ) → place < next → next ≤ to → run piece first others place (to - place) ≡ run piece first others place (next - place) ++ run piece others others next (to - next)
unfolding run
run-split piece first others place next to some within =
    let a : to - place ≡ suc (next - place - 1 + (to - next)) = omega arith in
    let b : next - place ≡ suc (next - place - 1) = omega arith in
    let c : place + 1 + (next - place - 1) ≡ next = omega arith in
    ap (λ (k : ℕ). run piece first others place k) a
    ∙ (ap (λ xs. piece first place ++ xs) (run-add piece others (place + 1) (next - place - 1) (to - next))
    ∙ (sym (append_assoc (piece first place) (run piece others others (place + 1) (next - place - 1)) (run piece others others (place + 1 + (next - place - 1)) (to - next)))
    ∙ (ap (λ (p : ℕ). (piece first place ++ run piece others others (place + 1) (next - place - 1)) ++ run piece others others p (to - next)) c
    ∙ ap (λ (k : ℕ). run piece first others place k ++ run piece others others next (to - next)) (sym b))))
