-- Whether two texts are the same.
use Rattle.std.proofs.Common.{◌≡◌, ℕ, List, [], ◌∷◌, Bool, true, false, refl, sym, ap}
use Rattle.std.specs.Prelude.{IsTrue, ◌↔◌}
use Rattle.std.specs.Bool.{Decides}
use Rattle.std.proofs.lemmas.Bool.Decides.{Decides-like, Decides-and, Decides-eqb}
use Rattle.pq_files.specs.Room.{are_same}

abbrev first : List ℕ → ℕ
first [] = 0
first (a ∷ s) = a

abbrev others : List ℕ → List ℕ
others [] = []
others (a ∷ s) = s

are_same-Decides : (s t : List ℕ) → Decides (are_same s t) (s ≡ t)
are_same-Decides [] [] = (λ e. refl, λ e. refl)
are_same-Decides [] (b ∷ t) = (λ e. cc, λ e. cc)
are_same-Decides (a ∷ s) [] = (λ e. cc, λ e. cc)
are_same-Decides (a ∷ s) (b ∷ t) = Decides-like _ (λ e. λ i. e.0 i ∷ e.1 i) (λ e. (ap first e, ap others e)) (Decides-and _ _ (Decides-eqb a b) (are_same-Decides s t))

bool_by : (a b : Bool) → (a ≡ true → b ≡ true) → (b ≡ true → a ≡ true) → a ≡ b
bool_by true b f g = sym (f refl)
bool_by false true f g = g refl
bool_by false false f g = refl

pub told_by : (b : Bool) (s t : List ℕ) → IsTrue b ↔ s ≡ t → b ≡ are_same s t
told_by b s t h = bool_by b (are_same s t) (λ e. (are_same-Decides s t).1 (h.0 e)) (λ e. h.1 ((are_same-Decides s t).0 e))
