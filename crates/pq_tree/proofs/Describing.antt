-- Writing the items of a list one by one.
use Rattle.std.proofs.Common.{◌≡◌, ℕ, zero, suc, ◌+◌, ◌<◌, List, [], ◌∷◌, length, get_or, map, Option, Some, None, option_map, All, slice_get, refl, ap, ◌∙◌, arith}
use Rattle.std.proofs.Math.ListN.{set}
use borrow.Author.Count.{below_more}
use Rattle.pq_tree.specs.declared.types.ColumnChunkMetaData.{ColumnChunkMetaData}
use Rattle.pq_tree.specs.declared.types.Descriptor.{Descriptor}
use Rattle.pq_tree.specs.Described.{column_view, descriptor_view, AreDescribed}

-- what is seen of an item does not change
pub set_same : {X B : Type 0} (f : X → B) (xs : List X) (i : ℕ) (a d : X) → f a ≡ f (get_or xs i d) → map f (set xs i a) ≡ map f xs
set_same f [] i a d e = refl
set_same f (x ∷ xs) zero a d e = ap (λ y. y ∷ map f xs) e
set_same f (x ∷ xs) (suc i) a d e = ap (λ ys. f x ∷ ys) (set_same f xs i a d e)

set_here : {X B : Type 0} (f : X → B) (xs : List X) (i : ℕ) (a : X) → i < length xs → slice_get (map f (set xs i a)) i ≡ Some (f a)
set_here f [] i a lt = absurd (omega arith)
set_here f (x ∷ xs) zero a lt = refl
set_here f (x ∷ xs) (suc i) a lt = set_here f xs i a (omega arith)

set_there : {X B : Type 0} (f : X → B) (xs : List X) (i : ℕ) (a : X) (k : ℕ) → k < i → slice_get (map f (set xs i a)) k ≡ slice_get (map f xs) k
set_there f [] i a k lt = refl
set_there f (x ∷ xs) zero a k lt = absurd (omega arith)
set_there f (x ∷ xs) (suc i) a zero lt = refl
set_there f (x ∷ xs) (suc i) a (suc k) lt = set_there f xs i a k (omega arith)

-- one more place has what is wanted there
pub set_more : {X B : Type 0} (f : X → B) (want : ℕ → B) (xs : List X) (i : ℕ) (a : X) → i < length xs → ((k : ℕ) → k < i → slice_get (map f xs) k ≡ Some (want k)) → f a ≡ want i
    → (k : ℕ) → k < i + 1 → slice_get (map f (set xs i a)) k ≡ Some (want k)
set_more f want xs i a lt below here =
    below_more (λ k. slice_get (map f (set xs i a)) k ≡ Some (want k)) i (λ k h. set_there f xs i a k h ∙ below k h) (set_here f xs i a lt ∙ ap Some here)

-- one more item is such
pub set_all : {X : Type 0} (P : X → Type 0) (xs : List X) (i : ℕ) (a : X) → i < length xs → ((k : ℕ) (d : X) → k < i → P (get_or xs k d)) → P a → (k : ℕ) (d : X) → k < i + 1 → P (get_or (set xs i a) k d)
set_all P [] i a lt below here k d l = absurd (omega arith)
set_all P (x ∷ xs) zero a lt below here zero d l = here
set_all P (x ∷ xs) zero a lt below here (suc k) d l = absurd (omega arith)
set_all P (x ∷ xs) (suc i) a lt below here zero d l = below 0 d (omega arith)
set_all P (x ∷ xs) (suc i) a lt below here (suc k) d l = set_all P xs i a (omega arith) (λ j e h. below (suc j) e (omega arith)) here k d (omega arith)

none_at : (cs : List ColumnChunkMetaData) (k : ℕ) → All (λ c. c.descriptor ≡ None) cs → k < length cs → slice_get (map descriptor_view cs) k ≡ Some None
none_at [] k h lt = absurd (omega (arith, lt))
none_at (c ∷ cs) zero h lt = ap (λ (o : Option Descriptor). Some (option_map column_view o)) (h 0 c lt)
none_at (c ∷ cs) (suc k) h lt = none_at cs k (λ j d l. h (suc j) d (omega (arith, l))) (omega (arith, lt))

-- chunks without descriptors are those of no columns
pub none_described : (cs : List ColumnChunkMetaData) → All (λ c. c.descriptor ≡ None) cs → AreDescribed [] cs
none_described cs h = λ k lt. none_at cs k h lt
