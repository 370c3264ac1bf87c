-- Where the triples of one slot begin, and where they end.
use Rattle.std.proofs.Common.{◌≡◌, ℕ, suc, ◌<◌, ◌≤◌, Bool, true, false, List, [], ◌∷◌, ◌++◌, flat_map, refl, arith}
use Rattle.shredding.specs.Slot.{Slot, value, items, fields, Slots, no_slots, slot, list_of, slot_at}
use Rattle.shredding.specs.Shape.{Way, at_leaf, in_list, in_struct}
use Rattle.shredding.specs.Shred.{Triple, up, shred}

-- each triple repeats within a list that lies deeper than k
abbrev pub Above : ℕ → List Triple → Type 0
Above k [] = Unit {0}
Above k (t ∷ ts) = (k < t.repetition) × Above k ts

-- the triples of one slot: the first repeats at r with at least d levels defined, and the others deeper than k
abbrev pub BeginsAt : ℕ → ℕ → ℕ → List Triple → Type 0
BeginsAt r d k [] = ⊥
BeginsAt r d k (t ∷ ts) = (t.repetition ≡ r) × (d ≤ t.definition) × Above k ts

-- what follows the triples of one slot
abbrev pub StopsAt : ℕ → List Triple → Type 0
StopsAt k [] = Unit {0}
StopsAt k (t ∷ ts) = t.repetition ≤ k

pub le-up : (n : Bool) (d : ℕ) → d ≤ up n d
le-up true d = omega arith
le-up false d = omega arith

pub Above-append : (k : ℕ) (xs ys : List Triple) → Above k xs → Above k ys → Above k (xs ++ ys)
Above-append k [] ys h g = g
Above-append k (x ∷ xs) ys h g = (h.0, Above-append k xs ys h.1 g)

pub Above-weaker : (j k : ℕ) (xs : List Triple) → j ≤ k → Above k xs → Above j xs
Above-weaker j k [] l h = tt
Above-weaker j k (x ∷ xs) l h = (omega (arith, h.0), Above-weaker j k xs l h.1)

pub Above-begins : (r d j k : ℕ) (xs : List Triple) → j < r → j ≤ k → BeginsAt r d k xs → Above j xs
Above-begins r d j k [] l m h = absurd h
Above-begins r d j k (x ∷ xs) l m h = (omega (arith, h.0), Above-weaker j k xs m h.2)

pub BeginsAt-append : (r d k : ℕ) (xs ys : List Triple) → BeginsAt r d k xs → Above k ys → BeginsAt r d k (xs ++ ys)
BeginsAt-append r d k [] ys h g = absurd h
BeginsAt-append r d k (x ∷ xs) ys h g = (h.0, h.1, Above-append k xs ys h.2 g)

pub BeginsAt-weaker : (r d e j k : ℕ) (xs : List Triple) → d ≤ e → j ≤ k → BeginsAt r e k xs → BeginsAt r d j xs
BeginsAt-weaker r d e j k [] l m h = absurd h
BeginsAt-weaker r d e j k (x ∷ xs) l m h = (h.0, omega (arith, h.1), Above-weaker j k xs m h.2)

pub StopsAt-append : (r d j k : ℕ) (xs ys : List Triple) → r ≤ j → BeginsAt r d k xs → StopsAt j (xs ++ ys)
StopsAt-append r d j k [] ys l h = absurd h
StopsAt-append r d j k (x ∷ xs) ys l h = omega (arith, h.0)

pub Above-flat_map : (f : Slot → List Triple) (k : ℕ) → ((s : Slot) → Above k (f s)) → (ss : List Slot) → Above k (flat_map f ss)
Above-flat_map f k h [] = tt
Above-flat_map f k h (s ∷ ss) = Above-append k (f s) (flat_map f ss) (h s) (Above-flat_map f k h ss)

-- every slot's triples along the way begin where they are told to
abbrev pub Begins : Way → Type 0
Begins w = (s : Slot) (r d k : ℕ) → BeginsAt r d k (shred w s r d k)

-- the triples of the items of a list that has some
pub begins_in_list : (w : Way) → Begins w → (s : Slot) (ss : List Slot) (r d k : ℕ) → BeginsAt r d k (shred w s r d (suc k) ++ flat_map (λ t. shred w t (suc k) d (suc k)) ss)
begins_in_list w b s ss r d k =
    BeginsAt-append r d k (shred w s r d (suc k)) _
    (BeginsAt-weaker r d d k (suc k) (shred w s r d (suc k)) (omega arith) (omega arith) (b s r d (suc k)))
    (Above-flat_map (λ t. shred w t (suc k) d (suc k)) k (λ t. Above-begins (suc k) d k (suc k) _ (omega arith) (omega arith) (b t (suc k) d (suc k))) ss)

pub items_begin : (n : Bool) (w : Way) → Begins w → (ss : Slots) (r d k : ℕ) → BeginsAt r (up n d) k (shred (in_list n w) (items ss) r d k)
unfolding shred
items_begin n w b no_slots r d k = (refl, omega arith, tt)
items_begin n w b (slot s ss) r d k =
    BeginsAt-weaker r (up n d) (suc (up n d)) k k _ (omega arith) (omega arith) (begins_in_list w b s (list_of ss) r (suc (up n d)) k)

pub shred_begins : (w : Way) → Begins w
unfolding shred
shred_begins (at_leaf n) (value v) r d k = (refl, le-up n d, tt)
shred_begins (in_list n w) (items ss) r d k = BeginsAt-weaker r d (up n d) k k _ (le-up n d) (omega arith) (items_begin n w (shred_begins w) ss r d k)
shred_begins (in_struct n i w) (fields ss) r d k = BeginsAt-weaker r d (up n d) k k _ (le-up n d) (omega arith) (shred_begins w (slot_at ss i) r (up n d) k)
shred_begins _ _ r d k = (refl, omega arith, tt)

pub StopsAt-rows : (w : Way) (r d k : ℕ) → r ≤ k → (ss : List Slot) → StopsAt k (flat_map (λ t. shred w t r d k) ss)
StopsAt-rows w r d k l [] = tt
StopsAt-rows w r d k l (s ∷ ss) = StopsAt-append r d k k (shred w s r d k) _ l (shred_begins w s r d k)
