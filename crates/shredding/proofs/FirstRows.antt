-- The first rows of a column, and of a front of it.
use Rattle.std.proofs.Common.{◌≡◌, inl, inr, ℕ, zero, suc, ◌<◌, Bool, true, false, cond, List, [], ◌∷◌, ◌++◌, take, count_by, refl, subst, sym, ap, ◌∙◌, arith, ne_eqb, eq-eqb, append-nil}
use Rattle.shredding.specs.Slot.{Slot}
use Rattle.shredding.specs.Shape.{Way}
use Rattle.shredding.specs.Shred.{Triple, column, shred}
use Rattle.shredding.specs.Laws.{starts_row, first_rows, FirstRowsAreColumns}
use Rattle.shredding.proofs.Counts.{count_by-cons}
use Rattle.shredding.proofs.Starts.{Above, BeginsAt, shred_begins}

-- triples that begin no row
first_rows-above : (k : ℕ) (xs ys : List Triple) → Above 0 xs → first_rows k (xs ++ ys) ≡ xs ++ first_rows k ys
first_rows-above k [] ys h = refl
first_rows-above zero (x ∷ xs) ys h = let e : starts_row x ≡ false = ne_eqb _ _ (omega (arith, h.0)) in rw e (ap (λ c. x ∷ c) (first_rows-above zero xs ys h.1))
first_rows-above (suc k) (x ∷ xs) ys h = let e : starts_row x ≡ false = ne_eqb _ _ (omega (arith, h.0)) in rw e (ap (λ c. x ∷ c) (first_rows-above (suc k) xs ys h.1))

first_rows-row : (k d : ℕ) (xs ys : List Triple) → BeginsAt 0 d 0 xs → first_rows (suc k) (xs ++ ys) ≡ xs ++ first_rows k ys
first_rows-row k d [] ys h = absurd h
first_rows-row k d (x ∷ xs) ys h = let e : starts_row x ≡ true = eq-eqb _ _ h.0 in rw e (ap (λ c. x ∷ c) (first_rows-above k xs ys h.2))

first_rows-none : (d : ℕ) (xs ys : List Triple) → BeginsAt 0 d 0 xs → first_rows zero (xs ++ ys) ≡ []
first_rows-none d [] ys h = absurd h
first_rows-none d (x ∷ xs) ys h = let e : starts_row x ≡ true = eq-eqb _ _ h.0 in rw e refl

first_rows-column : (w : Way) (rows : List Slot) (k : ℕ) → first_rows k (column w rows) ≡ column w (take k rows)
first_rows-column w [] zero = refl
first_rows-column w [] (suc k) = refl
first_rows-column w (s ∷ rows) zero = first_rows-none 0 (shred w s 0 0 0) (column w rows) (shred_begins w s 0 0 0)
first_rows-column w (s ∷ rows) (suc k) =
    first_rows-row k 0 (shred w s 0 0 0) (column w rows) (shred_begins w s 0 0 0) ∙ ap (λ c. shred w s 0 0 0 ++ c) (first_rows-column w rows k)

-- one triple more, which begins a row or not
step_zero : (c : Bool) (t : Triple) (a b : List Triple) → (c ≡ false → first_rows zero (a ++ b) ≡ first_rows zero a) → cond c [] (t ∷ first_rows zero (a ++ b)) ≡ cond c [] (t ∷ first_rows zero a)
step_zero true t a b h = refl
step_zero false t a b h = ap (λ c. t ∷ c) (h refl)

step_suc : (c : Bool) (k : ℕ) (a b : List Triple) → (c ≡ true → first_rows k (a ++ b) ≡ first_rows k a) → (c ≡ false → first_rows (suc k) (a ++ b) ≡ first_rows (suc k) a) → first_rows (cond c k (suc k)) (a ++ b) ≡ first_rows (cond c k (suc k)) a
step_suc true k a b h g = h refl
step_suc false k a b h g = g refl

more_when_true : (k : ℕ) (t : Triple) (a : List Triple) → starts_row t ≡ true → suc k < count_by starts_row (t ∷ a) → k < count_by starts_row a
more_when_true k t a e h = let f = count_by-cons t a in let g : ◌≡◌ {A = ℕ} (cond (starts_row t) 1 0) 1 = ap (λ c. cond c 1 0) e in omega (arith, f, g)

more_when_false : (k : ℕ) (t : Triple) (a : List Triple) → starts_row t ≡ false → k < count_by starts_row (t ∷ a) → k < count_by starts_row a
more_when_false k t a e h = let f = count_by-cons t a in let g : ◌≡◌ {A = ℕ} (cond (starts_row t) 1 0) 0 = ap (λ c. cond c 1 0) e in omega (arith, f, g)

-- what is cut off after a further row began is not looked at
first_rows-append : (k : ℕ) (a b : List Triple) → k < count_by starts_row a → first_rows k (a ++ b) ≡ first_rows k a
first_rows-append k [] b h = absurd (omega arith)
first_rows-append zero (t ∷ a) b h = step_zero (starts_row t) t a b (λ e. first_rows-append zero a b (more_when_false zero t a e h))
first_rows-append (suc k) (t ∷ a) b h =
    ap (λ c. t ∷ c) (step_suc (starts_row t) k a b (λ e. first_rows-append k a b (more_when_true k t a e h)) (λ e. first_rows-append (suc k) a b (more_when_false (suc k) t a e h)))

pub first_rows_are_columns : FirstRowsAreColumns
first_rows_are_columns w rows a b k e g =
    let whole : first_rows k (a ++ b) ≡ column w (take k rows) = subst (λ c. first_rows k c ≡ column w (take k rows)) e (first_rows-column w rows k) in
    elim g [
      | inl h ↦ sym (first_rows-append k a b h) ∙ whole
      | inr h ↦ subst (λ c. first_rows k c ≡ column w (take k rows)) (ap (λ c. a ++ c) h ∙ append-nil a) whole
    ]
