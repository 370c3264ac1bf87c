-- Lists side by side, as far as a loop has come.
use Rattle.std.proofs.Common.{◌≡◌, inl, inr, ◌+◌, ◌<◌, ◌≤◌, ℕ, zero, suc, List, [], ◌∷◌, ◌++◌, length, map, take, get_or, All, sym, ap, subst, ◌∙◌, arith}
use Rattle.std.proofs.lemmas.List.{take_all}
use Rattle.std.proofs.lemmas.List.Elements.{All-append, All-from_recursion}
use Rattle.std.specs.List.{AllZip}
use Rattle.pq_files.specs.Reasons.{AnyOf, AnyZip}

-- one more item of both, where those of the second are known by a third list
pub zip_on :
    {X Y A B K : Type 0} (R : A → B → Type 0) (v : X → A) (p : Y → K) (q : B → K) (xs : List X) (ys : List Y) (bs : List B) (i : ℕ) (x : X) (y : Y)
    → map p ys ≡ map q bs → i < length xs → i < length ys → x ≡ get_or xs i x → y ≡ get_or ys i y → ((b : B) → p y ≡ q b → R (v x) b)
    → AllZip R (map v (take i xs)) (take i bs) → AllZip R (map v (take (i + 1) xs)) (take (i + 1) bs)
zip_on R v p q [] ys bs i x y e lx ly ix iy f h = absurd (omega arith)
zip_on R v p q (x' ∷ xs) [] bs i x y e lx ly ix iy f h = absurd (omega arith)
zip_on R v p q (x' ∷ xs) (y' ∷ ys) [] i x y e lx ly ix iy f h = absurd (never e)
  where
    never : map p (y' ∷ ys) ≡ [] → ⊥
    never e = cc
zip_on R v p q (x' ∷ xs) (y' ∷ ys) (b ∷ bs) zero x y e lx ly ix iy f h = (subst (λ z. R (v z) b) ix (f b (ap p iy ∙ head e)), tt)
  where
    head : map p (y' ∷ ys) ≡ map q (b ∷ bs) → p y' ≡ q b
    head e = cc
zip_on R v p q (x' ∷ xs) (y' ∷ ys) (b ∷ bs) (suc i) x y e lx ly ix iy f h =
    let k : suc i + 1 ≡ suc (i + 1) = omega arith in
    subst (λ n. AllZip R (map v (take n (x' ∷ xs))) (take n (b ∷ bs))) (sym k) (h.0, zip_on R v p q xs ys bs i x y (tail e) (omega arith) (omega arith) ix iy f h.1)
  where
    tail : map p (y' ∷ ys) ≡ map q (b ∷ bs) → map p ys ≡ map q bs
    tail e = cc

-- the item at this place is so, with the one that stands beside it
pub any_zip :
    {X Y A B K : Type 0} (R : A → B → Type 0) (v : X → A) (p : Y → K) (q : B → K) (xs : List X) (ys : List Y) (bs : List B) (i : ℕ) (x : X) (y : Y)
    → map p ys ≡ map q bs → i < length xs → i < length ys → x ≡ get_or xs i x → y ≡ get_or ys i y → ((b : B) → p y ≡ q b → R (v x) b) → AnyZip R (map v xs) bs
any_zip R v p q [] ys bs i x y e lx ly ix iy f = absurd (omega arith)
any_zip R v p q (x' ∷ xs) [] bs i x y e lx ly ix iy f = absurd (omega arith)
any_zip R v p q (x' ∷ xs) (y' ∷ ys) [] i x y e lx ly ix iy f = absurd (never e)
  where
    never : map p (y' ∷ ys) ≡ [] → ⊥
    never e = cc
any_zip R v p q (x' ∷ xs) (y' ∷ ys) (b ∷ bs) zero x y e lx ly ix iy f = inl (subst (λ z. R (v z) b) ix (f b (ap p iy ∙ head e)))
  where
    head : map p (y' ∷ ys) ≡ map q (b ∷ bs) → p y' ≡ q b
    head e = cc
any_zip R v p q (x' ∷ xs) (y' ∷ ys) (b ∷ bs) (suc i) x y e lx ly ix iy f = inr (any_zip R v p q xs ys bs i x y (tail e) (omega arith) (omega arith) ix iy f)
  where
    tail : map p (y' ∷ ys) ≡ map q (b ∷ bs) → map p ys ≡ map q bs
    tail e = cc

-- the item at this place, and what stands beside it
pub beside : {Y B K : Type 0} (p : Y → K) (q : B → K) (ys : List Y) (bs : List B) (i : ℕ) (y : Y) → map p ys ≡ map q bs → i < length ys → y ≡ get_or ys i y → (b : B) × (p y ≡ q b)
beside p q [] bs i y e lt is = absurd (omega arith)
beside p q (y' ∷ ys) [] i y e lt is = absurd (never e)
  where
    never : map p (y' ∷ ys) ≡ [] → ⊥
    never e = cc
beside p q (y' ∷ ys) (b ∷ bs) zero y e lt is = (b, ap p is ∙ head e)
  where
    head : map p (y' ∷ ys) ≡ map q (b ∷ bs) → p y' ≡ q b
    head e = cc
beside p q (y' ∷ ys) (b ∷ bs) (suc i) y e lt is = beside p q ys bs i y (tail e) (omega arith) is
  where
    tail : map p (y' ∷ ys) ≡ map q (b ∷ bs) → map p ys ≡ map q bs
    tail e = cc

pub any_at : {X A : Type 0} (P : A → Type 0) (v : X → A) (xs : List X) (i : ℕ) (x : X) → i < length xs → x ≡ get_or xs i x → P (v x) → AnyOf P (map v xs)
any_at P v [] i x lt e h = absurd (omega arith)
any_at P v (y ∷ xs) zero x lt e h = inl (subst (λ z. P (v z)) e h)
any_at P v (y ∷ xs) (suc i) x lt e h = inr (any_at P v xs i x (omega arith) e h)

pub taken_on : {X A : Type 0} (v : X → A) (xs : List X) (i : ℕ) (x : X) → i < length xs → x ≡ get_or xs i x → map v (take (i + 1) xs) ≡ map v (take i xs) ++ v x ∷ []
taken_on v [] i x lt e = absurd (omega arith)
taken_on v (y ∷ xs) zero x lt e = ap (λ z. v z ∷ []) (sym e)
taken_on v (y ∷ xs) (suc i) x lt e = let k : suc i + 1 ≡ suc (i + 1) = omega arith in ap (λ n. map v (take n (y ∷ xs))) k ∙ ap (λ q. v y ∷ q) (taken_on v xs i x (omega arith) e)

-- what holds of all so far holds of one more
pub all_on : {X A : Type 0} (P : A → Type 0) (v : X → A) (xs : List X) (i : ℕ) (x : X) → i < length xs → x ≡ get_or xs i x → P (v x) → All P (map v (take i xs)) → All P (map v (take (i + 1) xs))
all_on P v xs i x lt e p h = subst (λ ys. All P ys) (sym (taken_on v xs i x lt e)) (All-append P (map v (take i xs)) (v x ∷ []) h (All-from_recursion P (v x ∷ []) (p, tt)))

pub all_taken : {X A : Type 0} (P : A → Type 0) (v : X → A) (xs : List X) (n : ℕ) → length xs ≤ n → All P (map v (take n xs)) → All P (map v xs)
all_taken P v xs n le h = subst (λ ys. All P (map v ys)) (take_all n xs le) h
