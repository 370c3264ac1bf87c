-- How many of a page's pairs have a value.
use Rattle.std.proofs.Common.{◌≡◌, ℕ, zero, suc, ◌+◌, ◌<◌, ◌≤◌, Bool, true, false, cond, is_some, nat_eq, Option, Some, None, Ok, Err, List, [], ◌∷◌, ◌++◌, map, length, drop, get_or, replicate, All, refl, arith, ap, subst, sym, ◌∙◌}
use Rattle.std.proofs.lemmas.List.{drop_all, drop_more}
use Rattle.std.proofs.lemmas.Bool.{eq-eqb, ne_eqb}
use Rattle.std.specs.List.{cons_option}
use Rattle.std.proofs.lemmas.List.Elements.{All-head, All-tail}
use Rattle.shredding.specs.Shape.{LeafType}
use Rattle.shredding.specs.Shred.{Triple}
use Rattle.shredding.specs.Slot.{Value}
use Rattle.pq_files.specs.Page.{values_in}
use Rattle.pq_files.specs.Stored.{AreStored}
use Rattle.pq_tree.specs.Physical.{Physical}
use Rattle.read_walk.specs.Pairs.{Item, Pair, pair_items}
use Rattle.read_walk.specs.Walk.{pair_of}
use Rattle.read_column.specs.Deltas.{HasFault, levels_at, present_in}

-- ---- of triples
one-present : (o : Option Value) (vs : List Value) (b : Bool) (n : ℕ) → is_some o ≡ b → n ≡ length vs → cond b 1 0 + n ≡ length (cons_option o vs)
one-present None vs b n e h = rw (← e) (omega (arith, h))
one-present (Some v) vs b n e h = rw (← e) (omega (arith, h))

pub present-values : (top : ℕ) (ts : List Triple) → All (λ t. is_some t.value ≡ nat_eq t.definition top) ts → present_in top (map Ok (map pair_of ts)) ≡ length (values_in ts)
present-values top [] a = refl
present-values top (t ∷ ts) a = one-present t.value (values_in ts) (nat_eq t.definition top) (present_in top (map Ok (map pair_of ts))) (All-head (λ x. is_some x.value ≡ nat_eq x.definition top) t ts a) (present-values top ts (All-tail (λ x. is_some x.value ≡ nat_eq x.definition top) t ts a))

pub pairs-stored : (t : LeafType) (p : Physical) (ts zs : List Triple) → AreStored t p ts zs → map pair_of zs ≡ map pair_of ts
pairs-stored t p [] [] a = refl
pairs-stored t p [] (z ∷ zs) a = absurd a
pairs-stored t p (u ∷ ts) [] a = absurd a
pairs-stored t p (u ∷ ts) (z ∷ zs) a =
    let one : pair_of z ≡ pair_of u = λ i. (a.0.repetition i, a.0.definition i) in
    ap (λ (q : Pair). q ∷ map pair_of zs) one ∙ ap (λ (qs : List Pair). pair_of u ∷ qs) (pairs-stored t p ts zs a.1)

-- ---- pairs that cannot be read
pub no-fault : (ps : List Pair) → HasFault (map Ok ps) → ⊥
no-fault [] h = h
no-fault (p ∷ ps) h = no-fault ps h

-- ---- from the front on
-- the pairs that can be read
pub readable-pairs : (top : ℕ) (is : List Item) → (ts : List Triple) × (rest : List Item) × (is ≡ map Ok (map pair_of ts) ++ rest) × (present_in top is ≤ length ts)
readable-pairs top [] = ([], [], refl, omega arith)
readable-pairs top (Err e ∷ is) = ([], Err e ∷ is, refl, omega arith)
readable-pairs top (Ok p ∷ is) =
    let more = readable-pairs top is in
    (record { repetition = p.0; definition = p.1; value = None } ∷ more.0, more.1, ap (λ (xs : List Item). Ok p ∷ xs) more.2, few (nat_eq p.1 top) (present_in top is) (length more.0) more.3)
  where
    few : (b : Bool) (n m : ℕ) → n ≤ m → cond b 1 0 + n ≤ suc m
    few true n m h = omega (arith, h)
    few false n m h = omega (arith, h)

-- ---- levels at once
pub level_past : (top i : ℕ) (ds : List ℕ) → length ds ≤ i → levels_at top (drop i ds) ≡ 0
level_past top i ds le = ap (levels_at top) (drop_all i ds le)

pub level_more : (top i count one all : ℕ) (ds : List ℕ) → i < length ds → one ≡ cond (nat_eq (get_or ds i 0) top) 1 0 → count + levels_at top (drop i ds) ≡ all → (count + one) + levels_at top (drop (i + 1) ds) ≡ all
level_more top i count one all ds lt is e = omega (arith, is, ap (levels_at top) (drop_more ds i 0 lt), e)

-- a level above all of them
pub too_high : (top most : ℕ) (ds : List ℕ) → ((k : ℕ) → get_or ds k 0 < most) → most ≤ top → levels_at top ds ≡ 0
too_high top most [] below le = refl
too_high top most (d ∷ ds) below le = rw (ne_eqb d top (λ e. omega (arith, e, le, below 0))) (omega (arith, too_high top most ds (λ k. below (suc k)) le))

pub equal_levels : (top d n : ℕ) → d ≡ top → levels_at top (replicate n d) ≡ n
equal_levels top d zero e = refl
equal_levels top d (suc n) e = rw (eq-eqb d top e) (omega (arith, equal_levels top d n e))

pub other_levels : (top d n : ℕ) → (d ≡ top → ⊥) → levels_at top (replicate n d) ≡ 0
other_levels top d zero other = refl
other_levels top d (suc n) other = rw (ne_eqb d top other) (omega (arith, other_levels top d n other))

-- ---- pairs at once
pairs_present : (top : ℕ) (rs ds : List ℕ) (is : List Item) → length ds ≡ length rs → present_in top (pair_items rs ds ++ is) ≡ levels_at top ds + present_in top is
pairs_present top [] [] is e = omega arith
pairs_present top [] (d ∷ ds) is e = absurd (omega (arith, e))
pairs_present top (r ∷ rs) [] is e = absurd (omega (arith, e))
pairs_present top (r ∷ rs) (d ∷ ds) is e = omega (arith, pairs_present top rs ds is (omega (arith, e)))

pairs_fault : (rs ds : List ℕ) (is : List Item) → HasFault is → HasFault (pair_items rs ds ++ is)
pairs_fault [] ds is h = h
pairs_fault (r ∷ rs) [] is h = h
pairs_fault (r ∷ rs) (d ∷ ds) is h = pairs_fault rs ds is h

pairs_length : (rs ds : List ℕ) (is : List Item) → length ds ≡ length rs → length (pair_items rs ds ++ is) ≡ length rs + length is
pairs_length [] [] is e = omega arith
pairs_length [] (d ∷ ds) is e = absurd (omega (arith, e))
pairs_length (r ∷ rs) [] is e = absurd (omega (arith, e))
pairs_length (r ∷ rs) (d ∷ ds) is e = omega (arith, pairs_length rs ds is (omega (arith, e)))

pub block_present : (top n : ℕ) (rs ds : List ℕ) (old new : List Item) → old ≡ pair_items rs ds ++ new → length ds ≡ length rs → 1 ≤ length rs → n ≡ levels_at top ds → (n + present_in top new ≡ present_in top old) × (HasFault new → HasFault old) × (length new < length old)
block_present top n rs ds old new is same some counted = (
  omega (arith, counted, pairs_present top rs ds new same, ap (present_in top) is),
  λ h. subst HasFault (sym is) (pairs_fault rs ds new h),
  omega (arith, ap length is, pairs_length rs ds new same, some),
)
