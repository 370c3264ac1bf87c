-- Blocks of pairs up to the first of which a level is above its greatest.
use Rattle.std.proofs.Common.{◌≡◌, inl, inr, ℕ, zero, suc, ◌+◌, ◌-◌, ◌<◌, ◌≤◌, Bool, true, false, ◌||◌, nat_lt, Ok, List, [], ◌∷◌, ◌++◌, length, replicate, take, drop, get_or, refl, arith, ap, sym, ◌∙◌, append_assoc, add-one}
use Rattle.std.proofs.lemmas.Bool.{cases_lt}
use Rattle.std.proofs.lemmas.Bool.Decides.{leb_tells}
use Rattle.std.proofs.lemmas.List.{length-take, length-drop, length-replicate}
use Rattle.std.proofs.Math.Seq.{drop-cons}
use Rattle.pq_runs.specs.Hybrid.{Item as LevelItem}
use Rattle.read_walk.specs.Pairs.{Item, Pair, zip_items, block_items, pair_items, up_to_maxima, is_within, behind, fault, StopsAt}
use Rattle.read_walk.proofs.Zips.{front_behind, zip-even}
use Rattle.pq_runs.specs.Hybrid.{given}

module _ (mr md : ℕ) where
  go-on : (p : Pair) (is : List Item) → is_within mr md p ≡ true → up_to_maxima mr md (Ok p ∷ is) ≡ Ok p ∷ up_to_maxima mr md is
  go-on p is e = rw e refl

  cut-off : (p : Pair) (is : List Item) → is_within mr md p ≡ false → up_to_maxima mr md (Ok p ∷ is) ≡ fault ∷ []
  cut-off p is e = rw e refl

  pub all-within : (rs ds : List ℕ) (at n : ℕ) (t : List Item) → ((j : ℕ) → j < n → is_within mr md (get_or rs (at + j) 0, get_or ds (at + j) 0) ≡ true) → up_to_maxima mr md (block_items rs ds at n ++ t) ≡ block_items rs ds at n ++ up_to_maxima mr md t
  all-within rs ds at zero t h = refl
  all-within rs ds at (suc n) t h =
      let zero' : at + 0 ≡ at = omega arith in
      let here = rw zero' at (h 0 (omega arith)) in
      let others : (j : ℕ) → j < n → is_within mr md (get_or rs (at + 1 + j) 0, get_or ds (at + 1 + j) 0) ≡ true = λ j b. let s : at + 1 + j ≡ at + suc j = omega arith in rw s (h (suc j) (omega arith)) in
      go-on (get_or rs at 0, get_or ds at 0) (block_items rs ds (at + 1) n ++ t) here ∙ ap (λ (is : List Item). Ok (get_or rs at 0, get_or ds at 0) ∷ is) (all-within rs ds (at + 1) n t others)

  pub cut-within : (rs ds : List ℕ) (at n k : ℕ) (t : List Item) → k < n → ((j : ℕ) → j < k → is_within mr md (get_or rs (at + j) 0, get_or ds (at + j) 0) ≡ true) → is_within mr md (get_or rs (at + k) 0, get_or ds (at + k) 0) ≡ false → up_to_maxima mr md (block_items rs ds at n ++ t) ≡ block_items rs ds at k ++ (fault ∷ [])
  cut-within rs ds at zero k t less h out = absurd (omega (arith, less))
  cut-within rs ds at (suc n) zero t less h out =
      let zero' : at + 0 ≡ at = omega arith in
      cut-off (get_or rs at 0, get_or ds at 0) (block_items rs ds (at + 1) n ++ t) (rw zero' at out)
  cut-within rs ds at (suc n) (suc k) t less h out =
      let zero' : at + 0 ≡ at = omega arith in
      let here = rw zero' at (h 0 (omega arith)) in
      let others : (j : ℕ) → j < k → is_within mr md (get_or rs (at + 1 + j) 0, get_or ds (at + 1 + j) 0) ≡ true = λ j b. let s : at + 1 + j ≡ at + suc j = omega arith in rw s (h (suc j) (omega arith)) in
      let last : at + 1 + k ≡ at + suc k = omega arith in
      go-on (get_or rs at 0, get_or ds at 0) (block_items rs ds (at + 1) n ++ t) here ∙ ap (λ (is : List Item). Ok (get_or rs at 0, get_or ds at 0) ∷ is) (cut-within rs ds (at + 1) n k t (omega (arith, less)) others (rw last out))

  behind-within : (b : Bool) (rs ds : List LevelItem) → up_to_maxima mr md (front_behind b rs ds) ≡ behind mr md b rs ds
  behind-within true rs ds = refl
  behind-within false rs ds = refl

  or-true : (b : Bool) (rs ds : List LevelItem) → behind mr md (b || true) rs ds ≡ fault ∷ []
  or-true true rs ds = refl
  or-true false rs ds = refl

  or-false : (b : Bool) → (b || false) ≡ b
  or-false true = refl
  or-false false = refl

  lt-false : (k n : ℕ) → n ≤ k → nat_lt k n ≡ false
  lt-false k n h = elim (leb_tells (suc k) n) [ inl e ↦ absurd (omega (arith, e.1, h)) | inr e ↦ e.0 ]

  lt-true : (k n : ℕ) → k < n → nat_lt k n ≡ true
  lt-true k n h = elim (leb_tells (suc k) n) [ inl e ↦ e.0 | inr e ↦ absurd (omega (arith, e.1, h)) ]

  -- the block up to the first such pair, and what stands behind it
  pub capped : (rs ds : List ℕ) (n k : ℕ) (b : Bool) (xs ys : List LevelItem) → k ≤ n → ((j : ℕ) → j < k → is_within mr md (get_or rs j 0, get_or ds j 0) ≡ true) → (k < n → is_within mr md (get_or rs k 0, get_or ds k 0) ≡ false) → up_to_maxima mr md (block_items rs ds 0 n ++ front_behind b xs ys) ≡ block_items rs ds 0 k ++ behind mr md (b || nat_lt k n) xs ys
  capped rs ds n k b xs ys le h out = elim (cases_lt k n) [
    | inl less ↦ cut-within rs ds 0 n k (front_behind b xs ys) less (λ j c. let z : 0 + j ≡ j = omega arith in rw z (h j c)) (let z : 0 + k ≡ k = omega arith in rw z (out less)) ∙ ap (λ (is : List Item). block_items rs ds 0 k ++ is) (rw (lt-true k n less) (sym (or-true b xs ys)))
    | inr more ↦
        let same : n ≡ k = omega (arith, le, more) in
        all-within rs ds 0 n (front_behind b xs ys) (λ j c. let z : 0 + j ≡ j = omega arith in rw z (h j (omega (arith, c, same)))) ∙ rw (same, lt-false k k (omega arith), or-false b) (ap (λ (is : List Item). block_items rs ds 0 k ++ is) (behind-within b xs ys))
  ]

  pub failed-next : (rs ds : List ℕ) (at n : ℕ) (b : Bool) (is js : List LevelItem) → n ≡ 0 → b ≡ true → block_items rs ds at n ++ behind mr md b is js ≡ fault ∷ []
  failed-next rs ds at n b is js e f = rw (e, f) refl

  pub none-behind : (b c : Bool) (is js : List LevelItem) → (b || c) ≡ false → zip_items is js ≡ [] → behind mr md (b || c) is js ≡ []
  none-behind b c is js e z = rw e (ap (up_to_maxima mr md) z)

pub or-none : (b c : Bool) → (b || c) ≡ false → (b ≡ false) × (c ≡ false)
or-none true c e = absurd (cc)
or-none false c e = (refl, e)

pub lt-none : (k n : ℕ) → nat_lt k n ≡ false → n ≤ k
lt-none k n e = elim (cases_lt k n) [
  | inl less ↦ elim (leb_tells (suc k) n) [ inl t ↦ absurd (let x = t.0 in cc) | inr f ↦ absurd (omega (arith, f.1, less)) ]
  | inr more ↦ more
]

-- ---- runs of a block as pairs
pub take-less : (n m : ℕ) (xs : List ℕ) → n ≤ m → take n (take m xs) ≡ take n xs
take-less zero m xs h = refl
take-less (suc n) zero xs h = absurd (omega (arith, h))
take-less (suc n) (suc m) [] h = refl
take-less (suc n) (suc m) (x ∷ xs) h = ap (λ (ys : List ℕ). x ∷ ys) (take-less n m xs (omega (arith, h)))

pub part-first : (xs : List ℕ) (at n : ℕ) → 0 < n → get_or (take n (drop at xs)) 0 0 ≡ get_or xs at 0
part-first xs at zero h = absurd (omega (arith, h))
part-first [] zero (suc n) h = refl
part-first [] (suc at) (suc n) h = refl
part-first (x ∷ xs) zero (suc n) h = refl
part-first (x ∷ xs) (suc at) (suc n) h = part-first xs at (suc n) h

pub length-part : (xs : List ℕ) (at end : ℕ) → at ≤ end → end ≤ length xs → length (take (end - at) (drop at xs)) ≡ end - at
length-part xs at end h k = length-take (end - at) (drop at xs) ∙ omega (arith, length-drop at xs, h, k)

pub block-pairs : (rs ds : List ℕ) (at n : ℕ) → at + n ≤ length rs → at + n ≤ length ds → block_items rs ds at n ≡ pair_items (take n (drop at rs)) (take n (drop at ds))
block-pairs rs ds at zero h k = refl
block-pairs rs ds at (suc n) h k =
    let r : drop at rs ≡ get_or rs at 0 ∷ drop (at + 1) rs = rw add-one (drop-cons rs at 0 (omega (arith, h))) in
    let d : drop at ds ≡ get_or ds at 0 ∷ drop (at + 1) ds = rw add-one (drop-cons ds at 0 (omega (arith, k))) in
    rw (r, d) (ap (λ (is : List Item). Ok (get_or rs at 0, get_or ds at 0) ∷ is) (block-pairs rs ds (at + 1) n (omega (arith, h)) (omega (arith, k))))

pub block-split : (rs ds : List ℕ) (at n m : ℕ) → block_items rs ds at (n + m) ≡ block_items rs ds at n ++ block_items rs ds (at + n) m
block-split rs ds at zero m =
    let a : at + 0 ≡ at = omega arith in
    let b : 0 + m ≡ m = omega arith in
    rw (a, b) refl
block-split rs ds at (suc n) m =
    let a : at + suc n ≡ at + 1 + n = omega arith in
    let b : suc n + m ≡ suc (n + m) = omega arith in
    rw (a, b) (ap (λ (is : List Item). Ok (get_or rs at 0, get_or ds at 0) ∷ is) (block-split rs ds (at + 1) n m))

pub stops-row : (rs ds : List ℕ) (at n rows : ℕ) (rest : List Item) → 0 < n → get_or rs at 0 ≡ 0 → rows ≡ 0 → StopsAt rows (block_items rs ds at n ++ rest)
stops-row rs ds at zero rows rest some zero' none = absurd (omega (arith, some))
stops-row rs ds at (suc n) rows rest some zero' none = (zero', none)

pub taken-front : (rs ds : List ℕ) (at end count : ℕ) (rest : List Item) → at + count ≤ end → end ≤ length rs → end ≤ length ds → block_items rs ds at (end - at) ++ rest ≡ pair_items (take (at + count - at) (drop at rs)) (take (at + count - at) (drop at ds)) ++ (block_items rs ds (at + count) (end - (at + count)) ++ rest)
taken-front rs ds at end count rest h k l =
    let n : end - at ≡ count + (end - (at + count)) = omega (arith, h) in
    let m : at + count - at ≡ count = omega arith in
    let front : block_items rs ds at count ≡ pair_items (take count (drop at rs)) (take count (drop at ds)) = block-pairs rs ds at count (omega (arith, h, k)) (omega (arith, h, l)) in
    rw (n, m, block-split rs ds at count (end - (at + count)), front) (append_assoc (pair_items (take count (drop at rs)) (take count (drop at ds))) (block_items rs ds (at + count) (end - (at + count))) rest)

-- ---- copies of both levels
copies-within : (mr md n r d : ℕ) (t : List Item) → is_within mr md (r, d) ≡ true → up_to_maxima mr md (pair_items (replicate n r) (replicate n d) ++ t) ≡ pair_items (replicate n r) (replicate n d) ++ up_to_maxima mr md t
copies-within mr md zero r d t e = refl
copies-within mr md (suc n) r d t e = go-on mr md (r, d) (pair_items (replicate n r) (replicate n d) ++ t) e ∙ ap (λ (is : List Item). Ok (r, d) ∷ is) (copies-within mr md n r d t e)

pub copies-first : (mr md n r d at at' : ℕ) (f : Bool) (xs ys : List ℕ) (rs ds rs' ds' : List LevelItem) → f ≡ false → at ≡ 0 → at' ≡ 0 → is_within mr md (r, d) ≡ true → rs ≡ given (replicate n r) ++ rs' → ds ≡ given (replicate n d) ++ ds' → (a b : ℕ) → block_items xs ys a at ++ behind mr md f rs ds ≡ pair_items (replicate n r) (replicate n d) ++ (block_items xs ys b at' ++ behind mr md f rs' ds')
copies-first mr md n r d at at' f xs ys rs ds rs' ds' e z z' w p q a b =
    rw (e, z, z', p, q) (ap (up_to_maxima mr md) (zip-even (replicate n r) (replicate n d) rs' ds' (length-replicate n r ∙ sym (length-replicate n d))) ∙ copies-within mr md n r d (zip_items rs' ds') w)
