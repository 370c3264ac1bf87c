-- What is seen along a way.
use Rattle.std.proofs.Common.{◌≡◌, ℕ, suc, List, [], ◌∷◌, ◌++◌, map, flat_map, refl, ap, ap₂, ◌∙◌}
use Rattle.shredding.specs.Along.{along, thin}
use Rattle.shredding.specs.Laws.{ColumnsAreSeenAlong}
use Rattle.shredding.specs.Slot.{Slot, null, value, items, fields, no_slots, slot, list_of, slots_of, slot_at}
use Rattle.shredding.specs.Shape.{Way, at_leaf, in_list, in_struct}
use Rattle.shredding.specs.Shred.{Triple, up, shred}

same_rows : (f g : Slot → List Triple) (h : Slot → Slot) → ((s : Slot) → f (h s) ≡ g s) → (ss : List Slot) → flat_map f (map h ss) ≡ flat_map g ss
same_rows f g h e [] = refl
same_rows f g h e (s ∷ ss) = ap₂ (λ xs ys. xs ++ ys) (e s) (same_rows f g h e ss)

pub list_of-slots_of : (ss : List Slot) → list_of (slots_of ss) ≡ ss
list_of-slots_of [] = refl
list_of-slots_of (s ∷ ss) = ap (λ ts. s ∷ ts) (list_of-slots_of ss)

pub seen : (w : Way) (s : Slot) (r d k : ℕ) → shred (thin w) (along w s) r d k ≡ shred w s r d k
unfolding shred along
seen (at_leaf n) null r d k = refl
seen (at_leaf n) (value v) r d k = refl
seen (at_leaf n) (items ss) r d k = refl
seen (at_leaf n) (fields ss) r d k = refl
seen (in_list n w) null r d k = refl
seen (in_list n w) (value v) r d k = refl
seen (in_list n w) (items no_slots) r d k = refl
seen (in_list n w) (items (slot s ss)) r d k =
    ap₂ (λ xs ys. xs ++ ys) (seen w s r (suc (up n d)) (suc k))
    (ap (flat_map (λ t. shred (thin w) t (suc k) (suc (up n d)) (suc k))) (list_of-slots_of (map (along w) (list_of ss)))
    ∙ same_rows _ _ (along w) (λ t. seen w t (suc k) (suc (up n d)) (suc k)) (list_of ss))
seen (in_list n w) (fields ss) r d k = refl
seen (in_struct n i w) null r d k = refl
seen (in_struct n i w) (value v) r d k = refl
seen (in_struct n i w) (items ss) r d k = refl
seen (in_struct n i w) (fields ss) r d k = seen w (slot_at ss i) r (up n d) k

pub seen_along : ColumnsAreSeenAlong
seen_along w rows = same_rows (λ s. shred (thin w) s 0 0 0) (λ s. shred w s 0 0 0) (along w) (λ s. seen w s 0 0 0) rows
