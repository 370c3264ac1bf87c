-- The entries at indices, one behind the other.
use Rattle.std.proofs.Common.{◌≡◌, ℕ, ◌<◌, ◌≤◌, Some, Ok, List, [], ◌∷◌, ◌++◌, refl, ap, sym, ◌∙◌, append_assoc, append-nil}
use Rattle.std.specs.Prelude.{slice_get}
use Rattle.std.specs.List.{AllZip}
use Rattle.std.proofs.lemmas.Bool.{le-leb, lt-leb}
use Rattle.pq_runs.specs.Hybrid.{Item as Index, given, hybrid}
use Rattle.read_column.specs.Dictionary.{IsLaid, StopsAt, Texts, all_of, indices_in}
use Rattle.read_column.specs.Lookups.{IsLaidTo}

pub laid-none : (texts : Texts) (items : List Index) → IsLaidTo texts items items []
laid-none texts items = record { indices = []; read = refl; parts = []; are = tt; spelled = refl }

pub all-push : (xs : Texts) (x : List ℕ) → all_of (xs ++ x ∷ []) ≡ all_of xs ++ x
all-push [] x = append-nil x
all-push (y ∷ xs) x = ap (λ (s : List ℕ). y ++ s) (all-push xs x) ∙ sym (append_assoc y (all_of xs) x)

pub zip-push : {A B : Type 0} (R : A → B → Type 0) (xs : List A) (ys : List B) (x : A) (y : B) → AllZip R xs ys → R x y → AllZip R (xs ++ x ∷ []) (ys ++ y ∷ [])
zip-push R [] [] x y a r = (r, tt)
zip-push R [] (b ∷ ys) x y a r = absurd a
zip-push R (b ∷ xs) [] x y a r = absurd a
zip-push R (b ∷ xs) (c ∷ ys) x y a r = (a.0, zip-push R xs ys x y a.1 r)

given-push : (ns : List ℕ) (n : ℕ) (is : List Index) → given ns ++ Ok n ∷ is ≡ given (ns ++ n ∷ []) ++ is
given-push [] n is = refl
given-push (m ∷ ns) n is = ap (λ (xs : List Index). Ok m ∷ xs) (given-push ns n is)

pub laid-on : (texts : Texts) (items items' next : List Index) (values text : List ℕ) (n : ℕ) → IsLaidTo texts items items' values → items' ≡ Ok n ∷ next → slice_get texts n ≡ Some text → IsLaidTo texts items next (values ++ text)
laid-on texts items items' next values text n a e s = record {
  indices = a.indices ++ n ∷ [];
  read = a.read ∙ (ap (λ (xs : List Index). given a.indices ++ xs) e ∙ given-push a.indices n next);
  parts = a.parts ++ text ∷ [];
  are = zip-push (λ m t. slice_get texts m ≡ Some t) a.indices a.parts n text a.are s;
  spelled = ap (λ (xs : List ℕ). xs ++ text) a.spelled ∙ sym (all-push a.parts text);
}

pub laid-all : (texts : Texts) (items items' : List Index) (values : List ℕ) → IsLaidTo texts items items' values → StopsAt texts items' → IsLaid texts items values
laid-all texts items items' values a s = record { indices = a.indices; rest = items'; read = a.read; stops = s; parts = a.parts; are = a.are; spelled = a.spelled }

-- no index, and none that is read
pub nothing-laid : (texts : Texts) → IsLaid texts [] []
nothing-laid texts = laid-all texts [] [] [] (laid-none texts []) tt

pub in-section : (w n : ℕ) (runs : List ℕ) → w ≤ 32 → hybrid w n runs ≡ indices_in n (w ∷ runs)
in-section w n runs h = rw (le-leb w 32 h) refl

pub too-wide : (w n : ℕ) (runs : List ℕ) → 32 < w → [] ≡ indices_in n (w ∷ runs)
too-wide w n runs h = rw (lt-leb w 32 h) refl
