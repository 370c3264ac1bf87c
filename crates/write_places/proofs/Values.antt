-- The present values of a path's column.
use Rattle.std.proofs.Common.{◌≡◌, ℕ, zero, suc, ◌+◌, Bool, true, false, cond, List, [], ◌∷◌, ◌++◌, map, flat_map, refl, ap, sym, ◌∙◌}
use Rattle.std.proofs.lemmas.List.{map-append}
use Rattle.std.proofs.lemmas.List.Elements.{filter_map-append}
use Rattle.shredding.specs.Slot.{Value, Slot, null, value, items, fields, no_slots, slot, list_of, slots_of}
use Rattle.shredding.specs.Shape.{Way, at_leaf, in_list, in_struct}
use Rattle.shredding.specs.Shred.{Triple, up, shred}
use Rattle.shredding.specs.Parts.{Part, leaf_part, list_part, struct_part, is_present, item_start, item_count, slot_count, slots_from, slot_in, path_slots, path_way}
use Rattle.levels.specs.Nested.{parts_of}
use Rattle.pq_files.specs.Page.{values_in}
use Rattle.write_places.specs.Laws.{ValuesAreAtPlaces}
use Rattle.write_places.specs.Places.{gather, slot_places}

values_in-append : (xs ys : List Triple) → values_in (xs ++ ys) ≡ values_in xs ++ values_in ys
values_in-append xs ys = filter_map-append (λ t. t.value) xs ys

list_of-slots_of : (ss : List Slot) → list_of (slots_of ss) ≡ ss
list_of-slots_of [] = refl
list_of-slots_of (s ∷ ss) = ap (λ c. s ∷ c) (list_of-slots_of ss)

-- rows that are shredded alike
rows_give : (w : Way) (d k r : ℕ) (values : ℕ → Value) (piece : ℕ → List ℕ) (at : ℕ → Slot) → ((rep i : ℕ) → values_in (shred w (at i) rep d k) ≡ map values (piece i)) → (place count : ℕ) → values_in (flat_map (λ s. shred w s r d k) (slots_from at place count)) ≡ map values (gather piece place count)
unfolding slots_from gather
rows_give w d k r values piece at same place zero = refl
rows_give w d k r values piece at same place (suc count) =
    values_in-append (shred w (at place) r d k) (flat_map (λ s. shred w s r d k) (slots_from at (place + 1) count))
    ∙ (ap (λ c. c ++ values_in (flat_map (λ s. shred w s r d k) (slots_from at (place + 1) count))) (same r place)
    ∙ (ap (λ c. map values (piece place) ++ c) (rows_give w d k r values piece at same (place + 1) count)
    ∙ sym (map-append values (piece place) (gather piece (place + 1) count))))

items_give : (n : Bool) (w : Way) (r d k : ℕ) (values : ℕ → Value) (piece : ℕ → List ℕ) (at : ℕ → Slot) → ((rep i : ℕ) → values_in (shred w (at i) rep (suc (up n d)) (suc k)) ≡ map values (piece i)) → (place count : ℕ) → values_in (shred (in_list n w) (items (slots_of (slots_from at place count))) r d k) ≡ map values (gather piece place count)
unfolding shred slots_from gather
items_give n w r d k values piece at same place zero = refl
items_give n w r d k values piece at same place (suc count) =
    let D : ℕ = suc (up n d) in
    let K : ℕ = suc k in
    let others = slots_from at (place + 1) count in
    values_in-append (shred w (at place) r D K) (flat_map (λ t. shred w t K D K) (list_of (slots_of others)))
    ∙ (ap (λ c. c ++ values_in (flat_map (λ t. shred w t K D K) (list_of (slots_of others)))) (same r place)
    ∙ (ap (λ ss. map values (piece place) ++ values_in (flat_map (λ t. shred w t K D K) ss)) (list_of-slots_of others)
    ∙ (ap (λ c. map values (piece place) ++ c) (rows_give w D K K values piece at same (place + 1) count)
    ∙ sym (map-append values (piece place) (gather piece (place + 1) count)))))

null_gives : (w : Way) (r d k : ℕ) → values_in (shred w null r d k) ≡ []
unfolding shred
null_gives (at_leaf n) r d k = refl
null_gives (in_list n w) r d k = refl
null_gives (in_struct n i w) r d k = refl

by_presence : (w : Way) (s : Slot) (r d k : ℕ) (b : Bool) (values : ℕ → Value) (there : List ℕ) → values_in (shred w s r d k) ≡ map values there → values_in (shred w (cond b s null) r d k) ≡ map values (cond b there [])
by_presence w s r d k true values there h = h
by_presence w s r d k false values there h = null_gives w r d k

slot_gives : (values : ℕ → Value) (parts : List Part) (rep def depth i : ℕ) → values_in (shred (path_way parts) (slot_in (λ j. value (values j)) parts i) rep def depth) ≡ map values (slot_places parts i)
unfolding slot_in slot_places shred
slot_gives values [] rep def depth i = refl
slot_gives values (leaf_part is_optional mask count ∷ parts) rep def depth i =
    by_presence (at_leaf is_optional) (value (values i)) rep def depth (is_present is_optional mask i) values (i ∷ []) refl
slot_gives values (list_part is_optional mask offsets ∷ parts) rep def depth i =
    by_presence (in_list is_optional (path_way parts)) (items (slots_of (slots_from (slot_in (λ j. value (values j)) parts) (item_start offsets i) (item_count offsets i)))) rep def depth (is_present is_optional mask i) values (gather (slot_places parts) (item_start offsets i) (item_count offsets i))
    (items_give is_optional (path_way parts) rep def depth values (slot_places parts) (slot_in (λ j. value (values j)) parts) (λ r j. slot_gives values parts r (suc (up is_optional def)) (suc depth) j) (item_start offsets i) (item_count offsets i))
slot_gives values (struct_part is_optional mask count ∷ parts) rep def depth i =
    by_presence (in_struct is_optional zero (path_way parts)) (fields (slot (slot_in (λ j. value (values j)) parts i) no_slots)) rep def depth (is_present is_optional mask i) values (slot_places parts i) (slot_gives values parts rep (up is_optional def) depth i)

pub values_are_at_places : ValuesAreAtPlaces
unfolding path_slots
values_are_at_places values nested =
    let parts = parts_of nested in
    rows_give (path_way parts) 0 0 0 values (slot_places parts) (slot_in (λ j. value (values j)) parts) (λ r i. slot_gives values parts r 0 0 i) 0 (slot_count parts)
