-- Blocks of levels as pairs.
use Rattle.std.proofs.Common.{◌≡◌, ◌⊎◌, inl, inr, ℕ, zero, suc, ◌+◌, ◌-◌, ◌<◌, ◌≤◌, Bool, true, false, not, ◌||◌, nat_eq, min, Ok, Err, List, [], ◌∷◌, ◌++◌, length, take, get_or, refl, arith, ap, ◌∙◌, append_assoc}
use Rattle.std.proofs.lemmas.Bool.{cases_lt, eq-eqb, ne_eqb}
use Rattle.std.proofs.lemmas.List.{length-take}
use Rattle.columns_base.specs.declared.error.Error.{Error}
use Rattle.pq_runs.specs.Hybrid.{given}
use Rattle.pq_runs.specs.Hybrid.{Item as LevelItem}
use Rattle.read_walk.specs.LevelRuns.{IsFilled}
use Rattle.read_walk.specs.Pairs.{Item, equal_pairs, fault}
use Rattle.read_walk.specs.Pairs.{zip_items, block_items, pair_items}

-- nothing, or an error
abbrev IsEnd : List LevelItem → Type 0
IsEnd [] = Unit {0}
IsEnd (Err e ∷ is) = Unit {0}
IsEnd (Ok n ∷ is) = ⊥

-- behind a block, levels above their greatest left aside
abbrev pub front_behind : Bool → List LevelItem → List LevelItem → List Item
front_behind true rs ds = fault ∷ []
front_behind false rs ds = zip_items rs ds

zip-left : (e : Error) (is js : List LevelItem) → zip_items (Err e ∷ is) js ≡ fault ∷ []
zip-left e is [] = refl
zip-left e is (j ∷ js) = refl

zip-right : (e : Error) (is js : List LevelItem) → zip_items js (Err e ∷ is) ≡ fault ∷ []
zip-right e is [] = refl
zip-right e is (Ok n ∷ js) = refl
zip-right e is (Err n ∷ js) = refl

zip-end-left : (y : ℕ) (rs ds : List LevelItem) → IsEnd rs → zip_items rs (Ok y ∷ ds) ≡ fault ∷ []
zip-end-left y [] ds h = refl
zip-end-left y (Err e ∷ rs) ds h = refl
zip-end-left y (Ok n ∷ rs) ds h = absurd h

zip-end-right : (x : ℕ) (rs ds : List LevelItem) → IsEnd ds → zip_items (Ok x ∷ rs) ds ≡ fault ∷ []
zip-end-right x rs [] h = refl
zip-end-right x rs (Err e ∷ ds) h = refl
zip-end-right x rs (Ok n ∷ ds) h = absurd h

-- as many of both
pub zip-even : (xs ys : List ℕ) (rs ds : List LevelItem) → length xs ≡ length ys → zip_items (given xs ++ rs) (given ys ++ ds) ≡ pair_items xs ys ++ zip_items rs ds
zip-even [] [] rs ds e = refl
zip-even [] (y ∷ ys) rs ds e = absurd (omega (arith, e))
zip-even (x ∷ xs) [] rs ds e = absurd (omega (arith, e))
zip-even (x ∷ xs) (y ∷ ys) rs ds e = ap (λ is. Ok (x, y) ∷ is) (zip-even xs ys rs ds (omega (arith, e)))

-- more of one than of the other
zip-less : (xs ys : List ℕ) (rs ds : List LevelItem) → length xs < length ys → IsEnd rs → zip_items (given xs ++ rs) (given ys ++ ds) ≡ pair_items xs ys ++ (fault ∷ [])
zip-less [] [] rs ds h e = absurd (omega (arith, h))
zip-less [] (y ∷ ys) rs ds h e = zip-end-left y rs (given ys ++ ds) e
zip-less (x ∷ xs) [] rs ds h e = absurd (omega (arith, h))
zip-less (x ∷ xs) (y ∷ ys) rs ds h e = ap (λ is. Ok (x, y) ∷ is) (zip-less xs ys rs ds (omega (arith, h)) e)

zip-more : (xs ys : List ℕ) (rs ds : List LevelItem) → length ys < length xs → IsEnd ds → zip_items (given xs ++ rs) (given ys ++ ds) ≡ pair_items xs ys ++ (fault ∷ [])
zip-more [] ys rs ds h e = absurd (omega (arith, h))
zip-more (x ∷ xs) [] rs ds h e = zip-end-right x (given xs ++ rs) ds e
zip-more (x ∷ xs) (y ∷ ys) rs ds h e = ap (λ is. Ok (x, y) ∷ is) (zip-more xs ys rs ds (omega (arith, h)) e)

-- the pairs of the fronts of two blocks
block-shift : (x y : ℕ) (rs ds : List ℕ) (at n : ℕ) → block_items (x ∷ rs) (y ∷ ds) (at + 1) n ≡ block_items rs ds at n
block-shift x y rs ds at zero = refl
block-shift x y rs ds at (suc n) =
    let e : at + 1 ≡ suc at = omega arith in
    let r : get_or (x ∷ rs) (at + 1) 0 ≡ get_or rs at 0 = rw e in
    let d : get_or (y ∷ ds) (at + 1) 0 ≡ get_or ds at 0 = rw e in
    rw (r, d, block-shift x y rs ds (at + 1) n)

no-pairs : (ys : List ℕ) → pair_items [] ys ≡ []
no-pairs [] = refl
no-pairs (y ∷ ys) = refl

pub pairs-block : (rs ds : List ℕ) (n m i : ℕ) → i ≡ min n m → n ≤ length rs → m ≤ length ds → pair_items (take n rs) (take m ds) ≡ block_items rs ds 0 i
pairs-block rs ds zero m i e h k = let z : i ≡ 0 = omega (arith, e) in rw (z, no-pairs (take m ds)) refl
pairs-block [] ds (suc n) m i e h k = absurd (omega (arith, h))
pairs-block (x ∷ rs) ds (suc n) zero i e h k = let z : i ≡ 0 = omega (arith, e) in rw z refl
pairs-block (x ∷ rs) [] (suc n) (suc m) i e h k = absurd (omega (arith, k))
pairs-block (x ∷ rs) (y ∷ ds) (suc n) (suc m) i e h k =
    let z : i ≡ suc (min n m) = omega (arith, e) in
    rw (z, block-shift x y rs ds 0 (min n m)) (ap (λ is. Ok (x, y) ∷ is) (pairs-block rs ds n m (min n m) refl (omega (arith, h)) (omega (arith, k))))

pub cases_three : (n m : ℕ) → (n ≡ m) ⊎ (n < m) ⊎ (m < n)
cases_three n m = elim (cases_lt n m) [
  | inl e ↦ inr (inl e)
  | inr e ↦ elim (cases_lt m n) [ inl k ↦ inr (inr k) | inr k ↦ inl (omega arith) ]
]

-- what two readers gave, the rest of each named: where one gave less than the other, its rest is an end
module _ (out_r out_d : List ℕ) (n m : ℕ) (rs ds : List LevelItem) (h : n ≤ length out_r) (k : m ≤ length out_d) where
  size-r : length (take n out_r) ≡ n
  size-r = length-take n out_r ∙ omega arith

  size-d : length (take m out_d) ≡ m
  size-d = length-take m out_d ∙ omega arith

  pub both-even : n ≡ m → zip_items (given (take n out_r) ++ rs) (given (take m out_d) ++ ds) ≡ block_items out_r out_d 0 (min n m) ++ zip_items rs ds
  both-even e = zip-even (take n out_r) (take m out_d) rs ds (omega (arith, size-r, size-d, e)) ∙ ap (λ is. is ++ zip_items rs ds) (pairs-block out_r out_d n m (min n m) refl h k)

  pub both-odd : (n ≡ m → ⊥) → (n < m → IsEnd rs) → (m < n → IsEnd ds) → zip_items (given (take n out_r) ++ rs) (given (take m out_d) ++ ds) ≡ block_items out_r out_d 0 (min n m) ++ (fault ∷ [])
  both-odd e r d = elim (cases_three n m) [
    | inl same ↦ absurd (e same)
    | inr (inl less) ↦ zip-less (take n out_r) (take m out_d) rs ds (omega (arith, size-r, size-d, less)) (r less) ∙ ap (λ is. is ++ (fault ∷ [])) (pairs-block out_r out_d n m (min n m) refl h k)
    | inr (inr more) ↦ zip-more (take n out_r) (take m out_d) rs ds (omega (arith, size-r, size-d, more)) (d more) ∙ ap (λ is. is ++ (fault ∷ [])) (pairs-block out_r out_d n m (min n m) refl h k)
  ]

end-none : (is : List LevelItem) → is ≡ [] → IsEnd is
end-none [] e = tt
end-none (i ∷ is) e = absurd (cc)

pub refilled : (old_r old_d : List LevelItem) (out_r out_d : List ℕ) (n m : ℕ) (f g : Bool) (new_r new_d : List LevelItem) → IsFilled old_r out_r n f new_r → IsFilled old_d out_d m g new_d → n ≤ length out_r → m ≤ length out_d → length out_r ≡ length out_d → zip_items old_r old_d ≡ block_items out_r out_d 0 (min n m) ++ front_behind (f || (g || not (nat_eq n m))) new_r new_d
refilled old_r old_d out_r out_d n m true true new_r new_d a b h k s =
    rw (a.0.1, b.0.1) (elim (cases_three n m) [
      | inl same ↦ both-even out_r out_d n m (Err a.0.0 ∷ []) (Err b.0.0 ∷ []) h k same
      | inr other ↦ both-odd out_r out_d n m (Err a.0.0 ∷ []) (Err b.0.0 ∷ []) h k (λ e. elim other [ inl p ↦ omega (arith, p, e) | inr p ↦ omega (arith, p, e) ]) (λ _. tt) (λ _. tt)
    ])
refilled old_r old_d out_r out_d n m true false new_r new_d a b h k s =
    rw (a.0.1, b.0) (elim (cases_three n m) [
      | inl same ↦ both-even out_r out_d n m (Err a.0.0 ∷ []) new_d h k same ∙ ap (λ is. block_items out_r out_d 0 (min n m) ++ is) (zip-left a.0.0 [] new_d)
      | inr other ↦ both-odd out_r out_d n m (Err a.0.0 ∷ []) new_d h k (λ e. elim other [ inl p ↦ omega (arith, p, e) | inr p ↦ omega (arith, p, e) ]) (λ _. tt) (λ more. end-none new_d (b.1 (omega (arith, more, h, s))))
    ])
refilled old_r old_d out_r out_d n m false true new_r new_d a b h k s =
    rw (a.0, b.0.1) (elim (cases_three n m) [
      | inl same ↦ both-even out_r out_d n m new_r (Err b.0.0 ∷ []) h k same ∙ ap (λ is. block_items out_r out_d 0 (min n m) ++ is) (zip-right b.0.0 [] new_r)
      | inr other ↦ both-odd out_r out_d n m new_r (Err b.0.0 ∷ []) h k (λ e. elim other [ inl p ↦ omega (arith, p, e) | inr p ↦ omega (arith, p, e) ]) (λ less. end-none new_r (a.1 (omega (arith, less, k, s)))) (λ _. tt)
    ])
refilled old_r old_d out_r out_d n m false false new_r new_d a b h k s =
    rw (a.0, b.0) (elim (cases_three n m) [
      | inl same ↦ rw (eq-eqb n m same) (both-even out_r out_d n m new_r new_d h k same)
      | inr other ↦
          let differ : n ≡ m → ⊥ = λ e. elim other [ inl p ↦ omega (arith, p, e) | inr p ↦ omega (arith, p, e) ] in
          rw (ne_eqb n m differ) (both-odd out_r out_d n m new_r new_d h k differ (λ less. end-none new_r (a.1 (omega (arith, less, k, s)))) (λ more. end-none new_d (b.1 (omega (arith, more, h, s)))))
    ])

-- where nothing was unpacked and nothing failed, nothing is left
never : (n m : ℕ) → (n ≡ m → ⊥) → not (nat_eq n m) ≡ false → ⊥
never n m h e = let k = ne_eqb n m h in let f : not false ≡ false = rw k at e in cc

pub refilled-none : (old_r old_d : List LevelItem) (out_r out_d : List ℕ) (n m : ℕ) (f g : Bool) (new_r new_d : List LevelItem) → IsFilled old_r out_r n f new_r → IsFilled old_d out_d m g new_d → 0 < length out_r → length out_r ≡ length out_d → 0 ≡ min n m → (f || (g || not (nat_eq n m))) ≡ false → zip_items new_r new_d ≡ []
refilled-none old_r old_d out_r out_d n m true g new_r new_d a b some s none e = absurd (cc)
refilled-none old_r old_d out_r out_d n m false true new_r new_d a b some s none e = absurd (cc)
refilled-none old_r old_d out_r out_d n m false false new_r new_d a b some s none e = elim (cases_three n m) [
  | inl same ↦ rw (a.1 (omega arith), b.1 (omega arith)) refl
  | inr other ↦ absurd (never n m (λ k. elim other [ inl p ↦ omega (arith, p, k) | inr p ↦ omega (arith, p, k) ]) e)
]

-- ---- stretches of a block
first-item : (rs ds : List ℕ) (at n k : ℕ) → n ≡ suc k → block_items rs ds at n ≡ Ok (get_or rs at 0, get_or ds at 0) ∷ block_items rs ds (at + 1) k
first-item rs ds at n k e = rw e refl

pub equal-front : (rs ds : List ℕ) (at n count rest r d : ℕ) → n ≡ count + rest → ((k : ℕ) → k < count → (get_or rs (at + k) 0 ≡ r) × (get_or ds (at + k) 0 ≡ d)) → block_items rs ds at n ≡ equal_pairs r d count ++ block_items rs ds (at + count) rest
equal-front rs ds at n zero rest r d e h =
    let a : at + 0 ≡ at = omega arith in
    let b : n ≡ rest = omega (arith, e) in
    rw (a, b) refl
equal-front rs ds at n (suc count) rest r d e h =
    let a : at + suc count ≡ at + 1 + count = omega arith in
    let zero' : at + 0 ≡ at = omega arith in
    let here = rw zero' at (h 0 (omega arith)) in
    let others : (k : ℕ) → k < count → (get_or rs (at + 1 + k) 0 ≡ r) × (get_or ds (at + 1 + k) 0 ≡ d) = λ k b. let s : at + 1 + k ≡ at + suc k = omega arith in rw s (h (suc k) (omega arith)) in
    first-item rs ds at n (count + rest) (omega (arith, e)) ∙ rw (here.0, here.1, a) (ap (λ is. Ok (r, d) ∷ is) (equal-front rs ds (at + 1) (count + rest) count rest r d refl others))

pub taken : (rs ds : List ℕ) (at end count : ℕ) (rest : List Item) → at + count ≤ end → ((k : ℕ) → k < count → (get_or rs (at + k) 0 ≡ get_or rs at 0) × (get_or ds (at + k) 0 ≡ get_or ds at 0)) → block_items rs ds at (end - at) ++ rest ≡ equal_pairs (get_or rs at 0) (get_or ds at 0) count ++ (block_items rs ds (at + count) (end - (at + count)) ++ rest)
taken rs ds at end count rest h same =
    ap (λ is. is ++ rest) (equal-front rs ds at (end - at) count (end - (at + count)) (get_or rs at 0) (get_or ds at 0) (omega arith) same)
    ∙ append_assoc (equal_pairs (get_or rs at 0) (get_or ds at 0) count) (block_items rs ds (at + count) (end - (at + count))) rest
