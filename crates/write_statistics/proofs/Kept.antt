-- The values where bits are true, one after another.
use Rattle.std.proofs.Common.{◌≡◌, ℕ, ◌+◌, ◌<◌, ℤ, Option, subst, List, [], ◌∷◌, ◌++◌, Bool, true, false, take, length, slice_index_or, length-take, add-one, append-nil, refl, sym, ap, ◌∙◌, arith}
use Rattle.std.proofs.Math.Seq.{take-suc}
use Rattle.write_statistics.specs.Extremes.{kept, AreExtremes}

kept_append : {A : Type 0} (bs : List Bool) (xs : List A) (b : Bool) (x : A) → length bs ≡ length xs → kept (bs ++ b ∷ []) (xs ++ x ∷ []) ≡ kept bs xs ++ kept (b ∷ []) (x ∷ [])
kept_append [] [] b x h = refl
kept_append [] (y ∷ ys) b x h = absurd (omega (arith, h))
kept_append (c ∷ bs) [] b x h = absurd (omega (arith, h))
kept_append (true ∷ bs) (y ∷ ys) b x h = ap (λ r. y ∷ r) (kept_append bs ys b x (omega (arith, h)))
kept_append (false ∷ bs) (y ∷ ys) b x h = kept_append bs ys b x (omega (arith, h))

pub one_more : {X : Type 0} (l : List X) (i : ℕ) (d : X) → i < length l → take (i + 1) l ≡ take i l ++ slice_index_or l i d ∷ []
one_more l i d h = rw (add-one i) (take-suc l i d h)

kept_more : {A : Type 0} (bs : List Bool) (xs : List A) (i : ℕ) (d : A) → length bs ≡ length xs → i < length xs → kept (take (i + 1) bs) (take (i + 1) xs) ≡ kept (take i bs) (take i xs) ++ kept (slice_index_or bs i false ∷ []) (slice_index_or xs i d ∷ [])
kept_more bs xs i d e h =
    let here : i < length bs = omega (arith, e, h) in
    let same : length (take i bs) ≡ length (take i xs) = omega (arith, e, h, length-take i bs, length-take i xs) in
    rw (one_more bs i false here, one_more xs i d h) (kept_append (take i bs) (take i xs) (slice_index_or bs i false) (slice_index_or xs i d) same)

pub kept_true : {A : Type 0} (bs : List Bool) (xs : List A) (i : ℕ) (d : A) → length bs ≡ length xs → i < length xs → slice_index_or bs i false ≡ true → kept (take (i + 1) bs) (take (i + 1) xs) ≡ kept (take i bs) (take i xs) ++ slice_index_or xs i d ∷ []
kept_true bs xs i d e h t = kept_more bs xs i d e h ∙ ap (λ b. kept (take i bs) (take i xs) ++ kept (b ∷ []) (slice_index_or xs i d ∷ [])) t

pub kept_false : {A : Type 0} (bs : List Bool) (xs : List A) (i : ℕ) (d : A) → length bs ≡ length xs → i < length xs → slice_index_or bs i false ≡ false → kept (take (i + 1) bs) (take (i + 1) xs) ≡ kept (take i bs) (take i xs)
kept_false bs xs i d e h f = kept_more bs xs i d e h ∙ ap (λ b. kept (take i bs) (take i xs) ++ kept (b ∷ []) (slice_index_or xs i d ∷ [])) f ∙ append-nil (kept (take i bs) (take i xs))

-- the extremes of the values kept so far, and of one more
pub extremes_more : {A : Type 0} (ordinal : A → ℤ) (bs : List Bool) (xs : List A) (i : ℕ) (x : A) (a b a' b' : Option A) → length bs ≡ length xs → i < length xs → slice_index_or bs i false ≡ true → x ≡ slice_index_or xs i x
    → ((ys : List A) → AreExtremes ordinal ys a b → AreExtremes ordinal (ys ++ x ∷ []) a' b') → AreExtremes ordinal (kept (take i bs) (take i xs)) a b → AreExtremes ordinal (kept (take (i + 1) bs) (take (i + 1) xs)) a' b'
extremes_more ordinal bs xs i x a b a' b' e h t is step so_far =
    let made : AreExtremes ordinal (kept (take i bs) (take i xs) ++ x ∷ []) a' b' = step (kept (take i bs) (take i xs)) so_far in
    subst (λ ys. AreExtremes ordinal ys a' b') (sym (kept_true bs xs i x e h t ∙ ap (λ y. kept (take i bs) (take i xs) ++ y ∷ []) (sym is))) made

pub extremes_same : {A : Type 0} (ordinal : A → ℤ) (bs : List Bool) (xs : List A) (i : ℕ) (a b : Option A) → length bs ≡ length xs → i < length xs → slice_index_or bs i false ≡ false
    → AreExtremes ordinal (kept (take i bs) (take i xs)) a b → AreExtremes ordinal (kept (take (i + 1) bs) (take (i + 1) xs)) a b
extremes_same ordinal bs [] i a b e h f so_far = absurd (omega (arith, h))
extremes_same ordinal bs (x ∷ xs) i a b e h f so_far = subst (λ ys. AreExtremes ordinal ys a b) (sym (kept_false bs (x ∷ xs) i x e h f)) so_far
