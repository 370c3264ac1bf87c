-- Pairs by the grammar of their sections.
use Rattle.std.proofs.Common.{◌≡◌, inl, inr, ℕ, ◌≤◌, Bool, true, false, Ok, Err, List, [], ◌∷◌, length, refl, arith, ap, sym, ◌∙◌}
use Rattle.std.proofs.lemmas.Bool.{le-leb}
use Rattle.std.proofs.lemmas.Bool.Decides.{leb_tells}
use Rattle.pq_runs.specs.Hybrid.{hybrid, given}
use Rattle.pq_runs.specs.Hybrid.{Item as LevelItem}
use Rattle.pq_runs.proofs.Complete.{reads}
use Rattle.pq_runs.proofs.Sound.{is_spelled}
use Rattle.read_walk.specs.Pairs.{Item, zip_items, up_to_maxima, is_within, pair_items}
use Rattle.read_walk.specs.Spelled.{NoneAbove, PairsAreRead}

-- ---- from the sections to the pairs
zip-given : (rs ds : List ℕ) → length rs ≡ length ds → zip_items (given rs) (given ds) ≡ pair_items rs ds
zip-given [] [] e = refl
zip-given [] (d ∷ ds) e = absurd (omega (arith, e))
zip-given (r ∷ rs) [] e = absurd (omega (arith, e))
zip-given (r ∷ rs) (d ∷ ds) e = ap (λ (is : List Item). Ok (r, d) ∷ is) (zip-given rs ds (omega (arith, e)))

both : (mr md r d : ℕ) → r ≤ mr → d ≤ md → is_within mr md (r, d) ≡ true
both mr md r d h k = rw (le-leb r mr h, le-leb d md k) refl

all-kept : (mr md : ℕ) (rs ds : List ℕ) → NoneAbove mr rs → NoneAbove md ds → up_to_maxima mr md (pair_items rs ds) ≡ pair_items rs ds
unfolding NoneAbove
all-kept mr md [] ds a b = refl
all-kept mr md (r ∷ rs) [] a b = refl
all-kept mr md (r ∷ rs) (d ∷ ds) a b = rw (both mr md r d a.0 b.0) (ap (λ (is : List Item). Ok (r, d) ∷ is) (all-kept mr md rs ds a.1 b.1))

-- ---- from the pairs to the sections
is-both : (mr md r d : ℕ) → is_within mr md (r, d) ≡ true → (r ≤ mr) × (d ≤ md)
is-both mr md r d e = elim (leb_tells r mr) [
  | inl h ↦ elim (leb_tells d md) [
    | inl k ↦ (h.1, k.1)
    | inr k ↦ absurd (let f = rw (h.0, k.0) at e in cc)
  ]
  | inr h ↦ absurd (let f = rw h.0 at e in cc)
]

pub record ArePairs (mr md : ℕ) (xs ys : List LevelItem) (rs ds : List ℕ) : Type 0 where
  pub reps : xs ≡ given rs
  pub defs : ys ≡ given ds
  pub few : NoneAbove mr rs
  pub low : NoneAbove md ds

tail-pairs : (mr md r d r' d' : ℕ) (is : List Item) (rs ds : List ℕ) (b : Bool) → is_within mr md (r, d) ≡ b → up_to_maxima mr md (Ok (r, d) ∷ is) ≡ Ok (r', d') ∷ pair_items rs ds → (b ≡ true) × (r ≡ r') × (d ≡ d') × (up_to_maxima mr md is ≡ pair_items rs ds)
tail-pairs mr md r d r' d' is rs ds true e h =
    let k = rw e at h in
    let same : (r, d) ≡ (r', d') = cc in
    let rest : up_to_maxima mr md is ≡ pair_items rs ds = cc in
    (refl, ap (λ (p : ℕ × ℕ). p.0) same, ap (λ (p : ℕ × ℕ). p.1) same, rest)
tail-pairs mr md r d r' d' is rs ds false e h = absurd (let k = rw e at h in cc)

pub from-pairs : (mr md : ℕ) (xs ys : List LevelItem) (rs ds : List ℕ) → length rs ≡ length ds → up_to_maxima mr md (zip_items xs ys) ≡ pair_items rs ds → ArePairs mr md xs ys rs ds
unfolding NoneAbove
from-pairs mr md [] [] [] [] e h = record { reps = refl; defs = refl; few = tt; low = tt }
from-pairs mr md [] [] [] (d ∷ ds) e h = absurd (omega (arith, e))
from-pairs mr md [] [] (r ∷ rs) [] e h = absurd (omega (arith, e))
from-pairs mr md [] [] (r ∷ rs) (d ∷ ds) e h = absurd (cc)
from-pairs mr md [] (y ∷ ys) [] ds e h = absurd (cc)
from-pairs mr md [] (y ∷ ys) (r ∷ rs) [] e h = absurd (omega (arith, e))
from-pairs mr md [] (y ∷ ys) (r ∷ rs) (d ∷ ds) e h = absurd (cc)
from-pairs mr md (Err x ∷ xs) [] [] ds e h = absurd (cc)
from-pairs mr md (Err x ∷ xs) [] (r ∷ rs) [] e h = absurd (omega (arith, e))
from-pairs mr md (Err x ∷ xs) [] (r ∷ rs) (d ∷ ds) e h = absurd (cc)
from-pairs mr md (Err x ∷ xs) (y ∷ ys) [] ds e h = absurd (cc)
from-pairs mr md (Err x ∷ xs) (y ∷ ys) (r ∷ rs) [] e h = absurd (omega (arith, e))
from-pairs mr md (Err x ∷ xs) (y ∷ ys) (r ∷ rs) (d ∷ ds) e h = absurd (cc)
from-pairs mr md (Ok x ∷ xs) [] [] ds e h = absurd (cc)
from-pairs mr md (Ok x ∷ xs) [] (r ∷ rs) [] e h = absurd (omega (arith, e))
from-pairs mr md (Ok x ∷ xs) [] (r ∷ rs) (d ∷ ds) e h = absurd (cc)
from-pairs mr md (Ok x ∷ xs) (Err y ∷ ys) [] ds e h = absurd (cc)
from-pairs mr md (Ok x ∷ xs) (Err y ∷ ys) (r ∷ rs) [] e h = absurd (omega (arith, e))
from-pairs mr md (Ok x ∷ xs) (Err y ∷ ys) (r ∷ rs) (d ∷ ds) e h = absurd (cc)
from-pairs mr md (Ok x ∷ xs) (Ok y ∷ ys) [] ds e h = absurd (not-none (is_within mr md (x, y)) refl h)
  where
    not-none : (b : Bool) → is_within mr md (x, y) ≡ b → up_to_maxima mr md (Ok (x, y) ∷ zip_items xs ys) ≡ [] → ⊥
    not-none true e h = let k = rw e at h in cc
    not-none false e h = let k = rw e at h in cc
from-pairs mr md (Ok x ∷ xs) (Ok y ∷ ys) (r ∷ rs) [] e h = absurd (omega (arith, e))
from-pairs mr md (Ok x ∷ xs) (Ok y ∷ ys) (r ∷ rs) (d ∷ ds) e h =
    let t = tail-pairs mr md x y r d (zip_items xs ys) rs ds (is_within mr md (x, y)) refl h in
    let here = is-both mr md x y t.0 in
    let rest = from-pairs mr md xs ys rs ds (omega (arith, e)) t.3 in
    record {
      reps = rw (t.1, rest.reps) refl;
      defs = rw (t.2, rest.defs) refl;
      few = (rw t.1 at here.0, rest.few);
      low = (rw t.2 at here.1, rest.low);
    }

pub pairs-read : PairsAreRead
pairs-read mr v md w n rep_section def_section rs ds a b = (
  (λ has.
      let r : hybrid v n rep_section ≡ given rs = rw a at (reads v rep_section rs has.0.runs) in
      let d : hybrid w n def_section ≡ given ds = rw b at (reads w def_section ds has.1.runs) in
      rw (r, d, zip-given rs ds (a ∙ sym b)) (all-kept mr md rs ds has.0.within has.1.within)),
  (λ e.
      let p = from-pairs mr md (hybrid v n rep_section) (hybrid w n def_section) rs ds (a ∙ sym b) e in (
        record { runs = (is_spelled v n rep_section rs p.reps).begins; within = p.few },
        record { runs = (is_spelled w n def_section ds p.defs).begins; within = p.low },
      )),
)
