-- Whether two texts are the same.
use Rattle.std.proofs.Common.{◌≡◌, ℕ, List, [], ◌∷◌, Bool, true, false, refl, sym, ap, ◌∙◌}
use Rattle.std.specs.Prelude.{IsTrue, ◌↔◌, nat_eq}
use Rattle.std.specs.Bool.{Decides}
use Rattle.std.specs.Cmp.Lexicographic.{texts_ties, bytes_decides, pointwise}
use Rattle.std.proofs.lemmas.Bool.Decides.{Decides-like, Decides-and, Decides-eqb}
use Rattle.pq_files.specs.Room.{are_same}
use Rattle.schema_key.specs.Laws.{is_same}

abbrev first : List ℕ → ℕ
first [] = 0
first (a ∷ s) = a

abbrev others : List ℕ → List ℕ
others [] = []
others (a ∷ s) = s

pub are_same-Decides : (s t : List ℕ) → Decides (are_same s t) (s ≡ t)
are_same-Decides [] [] = (λ e. refl, λ e. refl)
are_same-Decides [] (b ∷ t) = (λ e. cc, λ e. cc)
are_same-Decides (a ∷ s) [] = (λ e. cc, λ e. cc)
are_same-Decides (a ∷ s) (b ∷ t) = Decides-like _ (λ e. λ i. e.0 i ∷ e.1 i) (λ e. (ap first e, ap others e)) (Decides-and _ _ (Decides-eqb a b) (are_same-Decides s t))

bool_by : (a b : Bool) → (a ≡ true → b ≡ true) → (b ≡ true → a ≡ true) → a ≡ b
bool_by true b f g = sym (f refl)
bool_by false true f g = g refl
bool_by false false f g = refl

pub told_by : (b : Bool) (s t : List ℕ) → IsTrue b ↔ s ≡ t → b ≡ are_same s t
told_by b s t h = bool_by b (are_same s t) (λ e. (are_same-Decides s t).1 (h.0 e)) (λ e. h.1 ((are_same-Decides s t).0 e))

-- as texts are ordered they are the same where their bytes are
pub ordered_same : (s t : List ℕ) → is_same s t ≡ are_same t s
ordered_same s t =
    sym (texts_ties s t)
    ∙ bool_by (pointwise nat_eq s t) (are_same t s) (λ e. (are_same-Decides t s).1 (sym ((bytes_decides s t).0 e))) (λ e. (bytes_decides s t).1 (sym ((are_same-Decides t s).0 e)))
