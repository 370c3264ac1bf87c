-- Pieces of places side by side.
use Rattle.std.proofs.Common.{◌≡◌, ℕ, zero, suc, ◌+◌, ◌-◌, ◌<◌, ◌≤◌, List, [], ◌++◌, refl, arith, ap, sym, ◌∙◌, append_assoc, append-nil, inl, inr, ◌⊎◌}

-- count places from place on: the first with repetition first, the others with repetition others
unfoldable pub run : {A : Type 0} → (ℕ → ℕ → List A) → ℕ → ℕ → ℕ → ℕ → List A
run piece first others place zero = []
run piece first others place (suc count) = piece first place ++ run piece others others (place + 1) count

-- the same, or what stands for the lack of any
unfoldable pub run_or : {A : Type 0} → List A → (ℕ → ℕ → List A) → ℕ → ℕ → ℕ → ℕ → List A
run_or empty piece first others place zero = empty
run_or empty piece first others place (suc count) = run piece first others place (suc count)

pub run-none : {A : Type 0} (piece : ℕ → ℕ → List A) (first others place count : ℕ) → count ≡ 0 → run piece first others place count ≡ []
unfolding run
run-none piece first others place zero e = refl
run-none piece first others place (suc count) e = absurd (omega arith)

pub run-more : {A : Type 0} (piece : ℕ → ℕ → List A) (first others place count left : ℕ) → count ≡ left + 1 → run piece first others place count ≡ piece first place ++ run piece others others (place + 1) left
unfolding run
run-more piece first others place zero left e = absurd (omega arith)
run-more piece first others place (suc count) left e = let h : count ≡ left = omega arith in rw h

pub run-one : {A : Type 0} (piece : ℕ → ℕ → List A) (first others place count : ℕ) → count ≡ 1 → run piece first others place count ≡ piece first place
run-one piece first others place count e =
    let more = run-more piece first others place count 0 e in
    let none = run-none piece others others (place + 1) 0 refl in
    rw (more, none, append-nil)

pub run_or-none : {A : Type 0} (empty : List A) (piece : ℕ → ℕ → List A) (first others place count : ℕ) → count ≡ 0 → run_or empty piece first others place count ≡ empty
unfolding run_or
run_or-none empty piece first others place zero e = refl
run_or-none empty piece first others place (suc count) e = absurd (omega arith)

pub run_or-some : {A : Type 0} (empty : List A) (piece : ℕ → ℕ → List A) (first others place count : ℕ) → 0 < count → run_or empty piece first others place count ≡ run piece first others place count
unfolding run_or
run_or-some empty piece first others place zero e = absurd (omega arith)
run_or-some empty piece first others place (suc count) e = refl

pub run-same : {A : Type 0} (f g : ℕ → ℕ → List A) (first others place n : ℕ) → ((rep i : ℕ) → place ≤ i → i < place + n → f rep i ≡ g rep i) → run f first others place n ≡ run g first others place n
unfolding run
run-same f g first others place zero same = refl
run-same f g first others place (suc n) same =
    rw (same first place (omega arith) (omega arith), run-same f g others others (place + 1) n (λ rep i a b. same rep i (omega arith) (omega arith)))

-- one more slot at the end of some
pub run-push : {A : Type 0} (f : ℕ → ℕ → List A) (first others place n : ℕ) → run f first others place (suc (suc n)) ≡ run f first others place (suc n) ++ f others (place + suc n)
unfolding run
run-push f first others place zero = simp append-nil refl
run-push f first others place (suc n) =
    let e : place + 1 + suc n ≡ place + suc (suc n) = omega arith in
    let ih = rw e at (run-push f others others (place + 1) n) in
    ap (λ t. f first place ++ t) ih ∙ sym (append_assoc (f first place) (run f others others (place + 1) (suc n)) (f others (place + suc (suc n))))

-- the last of some slots grows by what stands at its end
pub run-grow : {A : Type 0} (f g : ℕ → ℕ → List A) (first others place n : ℕ) (more : List A) → ((rep i : ℕ) → place ≤ i → i < place + n → f rep i ≡ g rep i) → ((rep : ℕ) → f rep (place + n) ≡ g rep (place + n) ++ more) → run f first others place (suc n) ≡ run g first others place (suc n) ++ more
unfolding run
run-grow f g first others place zero more same last =
    let e : place + 0 ≡ place = omega arith in
    simp append-nil (rw e at (last first))
run-grow f g first others place (suc n) more same last =
    let e : place + 1 + n ≡ place + suc n = omega arith in
    let ih = run-grow f g others others (place + 1) n more (λ rep i a b. same rep i (omega arith) (omega arith)) (λ rep. rw e (last rep)) in
    rw (same first place (omega arith) (omega arith)) (ap (λ t. g first place ++ t) ih ∙ sym (append_assoc (g first place) (run g others others (place + 1) (suc n)) more))

pub cases_zero : (n : ℕ) → (n ≡ 0) ⊎ (0 < n)
cases_zero zero = inl refl
cases_zero (suc n) = inr (omega arith)

-- the pieces of an item that lies within the first places of the part beneath
pub item-same : {A : Type 0} (empty : List A) (f g : ℕ → ℕ → List A) (first others start end n : ℕ) → ((rep i : ℕ) → i < n → f rep i ≡ g rep i) → end ≤ n → run_or empty f first others start (end - start) ≡ run_or empty g first others start (end - start)
item-same empty f g first others start end n same fits =
    elim (cases_zero (end - start)) [
      | inl e ↦ rw (run_or-none empty f first others start (end - start) e, run_or-none empty g first others start (end - start) e)
      | inr e ↦ rw (run_or-some empty f first others start (end - start) e, run_or-some empty g first others start (end - start) e) (run-same f g first others start (end - start) (λ rep i a b. same rep i (omega arith)))
    ]

item-push-at : {A : Type 0} (empty : List A) (f g : ℕ → ℕ → List A) (first others start n k : ℕ) (more : List A) → n ≡ start + suc k → ((rep i : ℕ) → i < n → f rep i ≡ g rep i) → f others n ≡ more → run_or empty f first others start (n + 1 - start) ≡ run_or empty g first others start (n - start) ++ more
item-push-at empty f g first others start n k more e same last =
    let old : n - start ≡ suc k = omega arith in
    let new : n + 1 - start ≡ suc (suc k) = omega arith in
    let push = run-push f first others start k in
    let push' = rw (← e, last) at push in
    let same' = run-same f g first others start (suc k) (λ rep i a b. same rep i (omega arith)) in
    rw (new, old, run_or-some empty f first others start (suc (suc k)) (omega arith), run_or-some empty g first others start (suc k) (omega arith)) (rw same' at push')

-- one item more
pub item-push : {A : Type 0} (empty : List A) (f g : ℕ → ℕ → List A) (first others start n : ℕ) (more : List A) → start < n → ((rep i : ℕ) → i < n → f rep i ≡ g rep i) → f others n ≡ more → run_or empty f first others start (n + 1 - start) ≡ run_or empty g first others start (n - start) ++ more
item-push empty f g first others start n more some same last =
    item-push-at empty f g first others start n (n - start - 1) more (omega arith) same last

item-grow-at : {A : Type 0} (empty : List A) (f g : ℕ → ℕ → List A) (first others start n k : ℕ) (more : List A) → n ≡ start + suc k → ((rep i : ℕ) → i + 1 < n → f rep i ≡ g rep i) → ((rep : ℕ) → f rep (n - 1) ≡ g rep (n - 1) ++ more) → run_or empty f first others start (n - start) ≡ run_or empty g first others start (n - start) ++ more
item-grow-at empty f g first others start n k more e same last =
    let old : n - start ≡ suc k = omega arith in
    let at_end : n - 1 ≡ start + k = omega arith in
    rw (old, run_or-some empty f first others start (suc k) (omega arith), run_or-some empty g first others start (suc k) (omega arith))
    (run-grow f g first others start k more (λ rep i a b. same rep i (omega arith)) (λ rep. rw (← at_end) (last rep)))

-- more in the last item
pub item-grow : {A : Type 0} (empty : List A) (f g : ℕ → ℕ → List A) (first others start n : ℕ) (more : List A) → start < n → ((rep i : ℕ) → i + 1 < n → f rep i ≡ g rep i) → ((rep : ℕ) → f rep (n - 1) ≡ g rep (n - 1) ++ more) → run_or empty f first others start (n - start) ≡ run_or empty g first others start (n - start) ++ more
item-grow empty f g first others start n more some same last =
    item-grow-at empty f g first others start n (n - start - 1) more (omega arith) same last

pub run-push-all : {A : Type 0} (f : ℕ → ℕ → List A) (n : ℕ) → run f 0 0 0 (n + 1) ≡ run f 0 0 0 n ++ f 0 n
run-push-all f zero = rw (run-one f 0 0 0 1 refl, run-none f 0 0 0 0 refl) refl
run-push-all f (suc n) =
    let e : suc n + 1 ≡ suc (suc n) = omega arith in
    let z : 0 + suc n ≡ suc n = omega arith in
    rw e (rw z at (run-push f 0 0 0 n))
