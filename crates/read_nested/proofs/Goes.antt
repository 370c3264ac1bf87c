-- The slots of a state go along its way where its triples have values only at the greatest definition level.
use Rattle.std.proofs.Common.{◌≡◌, ℕ, zero, suc, ◌+◌, ◌<◌, ◌≤◌, Bool, true, false, cond, is_some, nat_eq, Option, Some, None, List, [], ◌∷◌, ◌++◌, flat_map, refl, arith, ap, ◌∙◌, inl, inr, eq-eqb, subst, zero-add}
use Rattle.std.specs.List.{AllByRecursion as Each}
use Rattle.std.proofs.lemmas.List.Elements.{All-from_recursion}
use Rattle.shredding.specs.Along.{IsAlong, thin}
use Rattle.shredding.specs.Local.{IsWithin}
use Rattle.shredding.specs.Shape.{Way, at_leaf, in_list, in_struct}
use Rattle.shredding.specs.Shred.{Triple, up, shred, column, max_definition}
use Rattle.shredding.specs.Slot.{Slot, null, value, items, fields, no_slots, slot, list_of, slots_of}
use Rattle.shredding.specs.Parts.{slots_from, keeps}
use Rattle.shredding.proofs.Along.{list_of-slots_of}
use Rattle.read_laws.specs.State.{Kept, kept_leaf, kept_list, kept_struct, kept_way, count, kept_slot, kept_slots, leaf_count, StateFits}
use Rattle.read_laws.proofs.Steps.{end-fits}
use Rattle.read_laws.proofs.Stretches.{cases_bool, up-bit}
use Rattle.read_nested.specs.Keeps.{IsFlat}

-- a value stands exactly at this level
abbrev IsPresentAt : ℕ → Triple → Type 0
IsPresentAt top t = is_some t.value ≡ nat_eq t.definition top

each-left : {A : Type 0} (P : A → Type 0) (xs ys : List A) → Each P (xs ++ ys) → Each P xs
each-left P [] ys h = tt
each-left P (x ∷ xs) ys h = (h.0, each-left P xs ys h.1)

each-right : {A : Type 0} (P : A → Type 0) (xs ys : List A) → Each P (xs ++ ys) → Each P ys
each-right P [] ys h = h
each-right P (x ∷ xs) ys h = each-right P xs ys h.1

each-from : (P : Slot → Type 0) (f : ℕ → Slot) (place n : ℕ) → ((i : ℕ) → place ≤ i → i < place + n → P (f i)) → Each P (slots_from f place n)
unfolding slots_from
each-from P f place zero h = tt
each-from P f place (suc n) h = (h place (omega arith) (omega arith), each-from P f (place + 1) n (λ i a b. h i (omega arith) (omega arith)))

-- where the triples of each slot have values only at the top
abbrev Goes : Way → ℕ → ℕ → Slot → Type 0
Goes w d k s = (r : ℕ) → Each (IsPresentAt (d + max_definition w)) (shred w s r d k) → IsAlong w s

rows-go : (w : Way) (r d k : ℕ) (ss : List Slot) → Each (Goes w d k) ss → Each (IsPresentAt (d + max_definition w)) (flat_map (λ s. shred w s r d k) ss) → Each (IsAlong w) ss
rows-go w r d k [] h p = tt
rows-go w r d k (s ∷ ss) h p = (h.0 r (each-left _ (shred w s r d k) _ p), rows-go w r d k ss h.1 (each-right _ (shred w s r d k) _ p))

items-go : (n : Bool) (w : Way) (r d k : ℕ) (ss : List Slot) → Each (Goes w (suc (up n d)) (suc k)) ss → Each (IsPresentAt (d + max_definition (in_list n w))) (shred (in_list n w) (items (slots_of ss)) r d k) → Each (IsAlong w) ss
unfolding shred
items-go n w r d k [] h p = tt
items-go n w r d k (s ∷ ss) h p =
    let D : ℕ = suc (up n d) in
    let top : d + max_definition (in_list n w) ≡ D + max_definition w = rw (up-bit n d, up-bit n (suc (max_definition w))) (omega arith) in
    let P : ℕ → Type 0 = λ m. Each (IsPresentAt m) (shred w s r D (suc k) ++ flat_map (λ t. shred w t (suc k) D (suc k)) (list_of (slots_of ss))) in
    let q : P (D + max_definition w) = subst P top p in
    let rest : Each (IsPresentAt (D + max_definition w)) (flat_map (λ t. shred w t (suc k) D (suc k)) ss) = rw (list_of-slots_of ss) at (each-right _ (shred w s r D (suc k)) _ q) in
    (h.0 r (each-left _ (shred w s r D (suc k)) _ q), rows-go w (suc k) D (suc k) ss h.1 rest)

leaf-goes : (n : Bool) (d k : ℕ) (s : Slot) → IsFlat s → Goes (at_leaf n) d k s
unfolding shred
leaf-goes true d k null f r p = refl
leaf-goes false d k null f r p = let e : nat_eq d (d + 0) ≡ true = eq-eqb d (d + 0) (omega arith) in let q = p.0 in absurd (cc (e, q))
leaf-goes n d k (value v) f r p = tt
leaf-goes n d k (items ss) f r p = absurd f
leaf-goes n d k (fields ss) f r p = absurd f

list-goes : (m : Option (List Bool)) (w : Way) (d k i : ℕ) (ss : List Slot) → Each (Goes w (suc (up (is_some m) d)) (suc k)) ss → Goes (in_list (is_some m) w) d k (cond (keeps m i) (items (slots_of ss)) null)
list-goes None w d k i ss h r p = rw (list_of-slots_of ss) (All-from_recursion (IsAlong w) ss (items-go false w r d k ss h p))
list-goes (Some bits) w d k i ss h r p = elim (cases_bool (keeps (Some bits) i)) [
  | inl e ↦ rw e (rw (list_of-slots_of ss) (All-from_recursion (IsAlong w) ss (items-go true w r d k ss h (rw e at p))))
  | inr e ↦ rw e refl
]

struct-goes : (m : Option (List Bool)) (w : Way) (d k i : ℕ) (s : Slot) → Goes w (up (is_some m) d) k s → Goes (in_struct (is_some m) zero w) d k (cond (keeps m i) (fields (slot s no_slots)) null)
unfolding shred
struct-goes None w d k i s h r p = h r p
struct-goes (Some bits) w d k i s h r p = elim (cases_bool (keeps (Some bits) i)) [
  | inl e ↦
      let q : Each (IsPresentAt (d + suc (max_definition w))) (shred w s r (suc d) k) = rw e at p in
      let top : d + suc (max_definition w) ≡ suc d + max_definition w = omega arith in
      rw e (h r (rw top at q))
  | inr e ↦ rw e refl
]

kept-goes : (leaf : ℕ → Slot) (ks : List Kept) → StateFits ks → ((i : ℕ) → i < leaf_count ks → IsFlat (leaf i)) → (d k i : ℕ) → i < count ks → Goes (kept_way ks) d k (kept_slot leaf ks i)
unfolding kept_slot
kept-goes leaf [] fits flat d k i h = absurd fits
kept-goes leaf (kept_leaf n c ∷ ks) fits flat d k i h = leaf-goes n d k (leaf i) (flat i h)
kept-goes leaf (kept_list m starts ∷ ks) fits flat d k i h =
    let end = end-fits starts (count ks) i fits.1 in
    list-goes m (kept_way ks) d k i _ (each-from _ (kept_slot leaf ks) _ _ (λ j x y. kept-goes leaf ks fits.3 flat (suc (up (is_some m) d)) (suc k) j (omega arith)))
kept-goes leaf (kept_struct m c ∷ ks) fits flat d k i h =
    struct-goes m (kept_way ks) d k i _ (kept-goes leaf ks fits.2 flat (up (is_some m) d) k i (omega (arith, fits.1)))

thin-top : (w : Way) → max_definition (thin w) ≡ max_definition w
thin-top (at_leaf n) = refl
thin-top (in_list n w) = ap (λ d. up n (suc d)) (thin-top w)
thin-top (in_struct n i w) = ap (up n) (thin-top w)

all-present : (w v : Way) (ts : List Triple) → max_definition v ≡ max_definition w → Each (IsWithin w) ts → Each (IsPresentAt (0 + max_definition v)) ts
all-present w v [] e h = tt
all-present w v (t ∷ ts) e h = (rw (e, zero-add) h.0.present, all-present w v ts e h.1)

-- the slots of a state whose triples are within their greatest levels
pub kept-along : (w : Way) (leaf : ℕ → Slot) (ks : List Kept) → StateFits ks → ((i : ℕ) → i < leaf_count ks → IsFlat (leaf i)) → kept_way ks ≡ thin w → Each (IsWithin w) (column (kept_way ks) (kept_slots leaf ks)) → Each (IsAlong (kept_way ks)) (kept_slots leaf ks)
unfolding kept_slots
kept-along w leaf ks fits flat way within =
    rows-go (kept_way ks) 0 0 0 (slots_from (kept_slot leaf ks) 0 (count ks)) (each-from _ (kept_slot leaf ks) 0 (count ks) (λ i a b. kept-goes leaf ks fits flat 0 0 i (omega arith)))
    (all-present w (kept_way ks) _ (ap max_definition way ∙ thin-top w) within)
