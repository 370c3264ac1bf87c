-- One column determines what is seen along its way, and a slot of a field goes along each of its ways.
use Rattle.std.proofs.Common.{◌≡◌, ℕ, zero, suc, ◌≤◌, Bool, Some, None, List, [], ◌∷◌, map, refl, sym, ap, arith}
use Rattle.std.specs.List.{AllByRecursion as Each}
use Rattle.std.proofs.lemmas.List.Elements.{recursion_from_All, All-from_recursion}
use Rattle.shredding.specs.Along.{IsAlong, along}
use Rattle.shredding.specs.Laws.{SeenAlongIsUnique, SlotsGoAlong}
use Rattle.shredding.specs.Slot.{Slot, null, value, items, fields, Slots, no_slots, slot, list_of, slots_of, slot_at}
use Rattle.shredding.specs.Shape.{Shape, leaf, list, struct, Shapes, no_shapes, shape, IsOf, AreOf, Way, at_leaf, in_list, in_struct, one_on, ways, ways_of}
use Rattle.shredding.specs.Shred.{up, shred}
use Rattle.shredding.proofs.Starts.{StopsAt-rows, shred_begins}
use Rattle.shredding.proofs.Levels.{Each-append}
use Rattle.shredding.proofs.Unique.{split, no_triples, rows_along, null_or_items, empty_or_some, null_or_fields, same_value, Each-weaker}

-- what the triples of a slot along the way determine
abbrev Shows : Way → Type 0
Shows w = (s t : Slot) (r d k : ℕ) → IsAlong w s → IsAlong w t → shred w s r d k ≡ shred w t r d k → along w s ≡ along w t

show_rows : (w : Way) → Shows w → (r d k : ℕ) → r ≤ k → (ss ts : List Slot) → Each (IsAlong w) ss → Each (IsAlong w) ts → rows_along r d k w ss ≡ rows_along r d k w ts → map (along w) ss ≡ map (along w) ts
show_rows w u r d k l [] [] p q e = refl
show_rows w u r d k l [] (t ∷ ts) p q e = absurd (no_triples r d k (shred w t r d k) _ (shred_begins w t r d k) e)
show_rows w u r d k l (s ∷ ss) [] p q e = absurd (no_triples r d k (shred w s r d k) _ (shred_begins w s r d k) (sym e))
show_rows w u r d k l (s ∷ ss) (t ∷ ts) p q e =
    let parts = split r r d d k _ _ _ _ (shred_begins w s r d k) (shred_begins w t r d k) (StopsAt-rows w r d k l ss) (StopsAt-rows w r d k l ts) e in
    let first : along w s ≡ along w t = u s t r d k p.0 q.0 parts.0 in
    let rest : map (along w) ss ≡ map (along w) ts = show_rows w u r d k l ss ts p.1 q.1 parts.1 in
    cc (first, rest)

show_items : (n : Bool) (w : Way) → Shows w → (r d k : ℕ) (ss ts : Slots) → Each (IsAlong w) (list_of ss) → Each (IsAlong w) (list_of ts) → shred (in_list n w) (items ss) r d k ≡ shred (in_list n w) (items ts) r d k → map (along w) (list_of ss) ≡ map (along w) (list_of ts)
unfolding shred
show_items n w u r d k no_slots no_slots p q e = refl
show_items n w u r d k no_slots (slot t ts) p q e = absurd (empty_or_some n w t ts r d k e)
show_items n w u r d k (slot s ss) no_slots p q e = absurd (empty_or_some n w s ss r d k (sym e))
show_items n w u r d k (slot s ss) (slot t ts) p q e =
    let D : ℕ = suc (up n d) in
    let K : ℕ = suc k in
    let parts = split r r D D K _ _ _ _ (shred_begins w s r D K) (shred_begins w t r D K) (StopsAt-rows w K D K (omega arith) (list_of ss)) (StopsAt-rows w K D K (omega arith) (list_of ts)) e in
    let first : along w s ≡ along w t = u s t r D K p.0 q.0 parts.0 in
    let rest : map (along w) (list_of ss) ≡ map (along w) (list_of ts) = show_rows w u K D K (omega arith) (list_of ss) (list_of ts) p.1 q.1 parts.1 in
    cc (first, rest)

shows : (w : Way) → Shows w
unfolding shred along
shows (at_leaf n) null null r d k p q e = refl
shows (at_leaf n) null (value v) r d k p q e = let g = same_value r d (up n d) None (Some v) e in cc g
shows (at_leaf n) (value v) null r d k p q e = let g = same_value r (up n d) d (Some v) None e in cc g
shows (at_leaf n) (value v) (value u) r d k p q e = let g = same_value r (up n d) (up n d) (Some v) (Some u) e in cc g
shows (at_leaf n) (items ss) t r d k p q e = absurd p
shows (at_leaf n) (fields ss) t r d k p q e = absurd p
shows (at_leaf n) null (items ts) r d k p q e = absurd q
shows (at_leaf n) null (fields ts) r d k p q e = absurd q
shows (at_leaf n) (value v) (items ts) r d k p q e = absurd q
shows (at_leaf n) (value v) (fields ts) r d k p q e = absurd q
shows (in_list n w) null null r d k p q e = refl
shows (in_list n w) null (items ts) r d k p q e = absurd (null_or_items n w ts r d k p e)
shows (in_list n w) (items ss) null r d k p q e = absurd (null_or_items n w ss r d k q (sym e))
shows (in_list n w) (items ss) (items ts) r d k p q e =
    ap (λ us. items (slots_of us)) (show_items n w (shows w) r d k ss ts (recursion_from_All (IsAlong w) (list_of ss) p) (recursion_from_All (IsAlong w) (list_of ts) q) e)
shows (in_list n w) (value v) t r d k p q e = absurd p
shows (in_list n w) (fields ss) t r d k p q e = absurd p
shows (in_list n w) null (value v) r d k p q e = absurd q
shows (in_list n w) null (fields ts) r d k p q e = absurd q
shows (in_list n w) (items ss) (value v) r d k p q e = absurd q
shows (in_list n w) (items ss) (fields ts) r d k p q e = absurd q
shows (in_struct n i w) null null r d k p q e = refl
shows (in_struct n i w) null (fields ts) r d k p q e = absurd (null_or_fields n i w ts r d k p e)
shows (in_struct n i w) (fields ss) null r d k p q e = absurd (null_or_fields n i w ss r d k q (sym e))
shows (in_struct n i w) (fields ss) (fields ts) r d k p q e =
    ap (λ s. fields (slot s no_slots)) (shows w (slot_at ss i) (slot_at ts i) r (up n d) k p q e)
shows (in_struct n i w) (value v) t r d k p q e = absurd p
shows (in_struct n i w) (items ss) t r d k p q e = absurd p
shows (in_struct n i w) null (value v) r d k p q e = absurd q
shows (in_struct n i w) null (items ts) r d k p q e = absurd q
shows (in_struct n i w) (fields ss) (value v) r d k p q e = absurd q
shows (in_struct n i w) (fields ss) (items ts) r d k p q e = absurd q

pub seen_is_unique : SeenAlongIsUnique
seen_is_unique w a b p q e = show_rows w (shows w) 0 0 0 (omega arith) a b (recursion_from_All (IsAlong w) a p) (recursion_from_All (IsAlong w) b q) e

-- A slot of a field goes along each of its ways.

Each-always : {X : Type 0} (P : X → Type 0) → ((x : X) → P x) → (xs : List X) → Each P xs
Each-always P f [] = tt
Each-always P f (x ∷ xs) = (f x, Each-always P f xs)

pub Each-map : {X Y : Type 0} (P : X → Type 0) (f : Y → X) (ys : List Y) → Each (λ y. P (f y)) ys → Each P (map f ys)
Each-map P f [] h = tt
Each-map P f (y ∷ ys) h = (h.0, Each-map P f ys h.1)

Each-both : {X : Type 0} (P Q : X → Type 0) (xs : List X) → Each P xs → Each Q xs → Each (λ x. P x × Q x) xs
Each-both P Q [] g h = tt
Each-both P Q (x ∷ xs) g h = ((g.0, h.0), Each-both P Q xs g.1 h.1)

-- each item along each way
items_along : (f : Shape) → ((s : Slot) → IsOf f s → Each (λ w. IsAlong w s) (ways f)) → (ss : List Slot) → Each (IsOf f) ss → Each (λ w. Each (IsAlong w) ss) (ways f)
items_along f u [] h = Each-always _ (λ w. tt) (ways f)
items_along f u (s ∷ ss) h = Each-both _ _ (ways f) (u s h.0) (items_along f u ss h.1)

mutual
  goes_along : (f : Shape) (s : Slot) → IsOf f s → Each (λ w. IsAlong w s) (ways f)
  goes_along (leaf n k) null h = (h, tt)
  goes_along (leaf n k) (value v) h = (tt, tt)
  goes_along (leaf n k) (items ss) h = absurd h
  goes_along (leaf n k) (fields ss) h = absurd h
  goes_along (list n f) null h = Each-map _ (in_list n) (ways f) (Each-always _ (λ w. h) (ways f))
  goes_along (list n f) (items ss) h =
      Each-map _ (in_list n) (ways f) (Each-weaker _ _ (λ w g. All-from_recursion (IsAlong w) (list_of ss) g) (ways f) (items_along f (goes_along f) (list_of ss) (recursion_from_All (IsOf f) (list_of ss) h)))
  goes_along (list n f) (value v) h = absurd h
  goes_along (list n f) (fields ss) h = absurd h
  goes_along (struct n fs) null h = Each-map _ (λ p. in_struct n p.0 p.1) (ways_of fs) (Each-always _ (λ p. h) (ways_of fs))
  goes_along (struct n fs) (fields ss) h = Each-map _ (λ p. in_struct n p.0 p.1) (ways_of fs) (go_along fs ss h)
  goes_along (struct n fs) (value v) h = absurd h
  goes_along (struct n fs) (items ss) h = absurd h

  go_along : (fs : Shapes) (ss : Slots) → AreOf fs ss → Each (λ p. IsAlong p.1 (slot_at ss p.0)) (ways_of fs)
  go_along no_shapes ss h = tt
  go_along (shape f fs) no_slots h = absurd h
  go_along (shape f fs) (slot s ss) h =
      Each-append _ _ _ (Each-map (λ p. IsAlong p.1 (slot_at (slot s ss) p.0)) (λ w. (zero, w)) (ways f) (goes_along f s h.0))
      (Each-map (λ p. IsAlong p.1 (slot_at (slot s ss) p.0)) one_on (ways_of fs) (go_along fs ss h.1))

pub slots_go_along : SlotsGoAlong
slots_go_along f s h = All-from_recursion (λ w. IsAlong w s) (ways f) (goes_along f s h)
