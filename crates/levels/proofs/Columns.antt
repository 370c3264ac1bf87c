-- The level pairs of a path are those of the column of the slots that it stands for.
use Rattle.std.proofs.Common.{◌≡◌, ℕ, zero, suc, ◌+◌, Bool, true, false, cond, List, [], ◌∷◌, ◌++◌, map, flat_map, length, refl, arith, ap, sym, ◌∙◌, subst}
use Rattle.std.proofs.lemmas.List.{map-append, length-map}
use Rattle.shredding.specs.Slot.{Value, Slot, null, value, items, fields, no_slots, slot, list_of, slots_of}
use Rattle.shredding.specs.Shape.{Way, at_leaf, in_list, in_struct}
use Rattle.shredding.specs.Shred.{Triple, up, shred}
use Rattle.shredding.specs.Parts.{Part, leaf_part, list_part, struct_part, is_present, item_start, item_count, slot_count, slots_from, slot_in, path_slots, path_way}
use Rattle.levels.specs.declared.nested.Nested.{Nested}
use Rattle.levels.specs.Nested.{parts_of, nested_column}
use Rattle.levels.specs.Levels.{run, run_or, one_pair, slot_pairs, path_pairs, bit}

abbrev pub level_pair : Triple → ℕ × ℕ
level_pair t = (t.repetition, t.definition)

list_of-slots_of : (ss : List Slot) → list_of (slots_of ss) ≡ ss
list_of-slots_of [] = refl
list_of-slots_of (s ∷ ss) = ap (λ c. s ∷ c) (list_of-slots_of ss)

pub up-bit : (b : Bool) (d : ℕ) → up b d ≡ d + bit b
up-bit true d = omega arith
up-bit false d = omega arith

pairs_of_rows : (w : Way) (d k r : ℕ) (piece : ℕ → ℕ → List (ℕ × ℕ)) (at : ℕ → Slot) → ((rep i : ℕ) → map level_pair (shred w (at i) rep d k) ≡ piece rep i) → (place count : ℕ) → map level_pair (flat_map (λ s. shred w s r d k) (slots_from at place count)) ≡ run piece r r place count
unfolding slots_from run
pairs_of_rows w d k r piece at same place zero = refl
pairs_of_rows w d k r piece at same place (suc count) =
    map-append level_pair (shred w (at place) r d k) (flat_map (λ s. shred w s r d k) (slots_from at (place + 1) count))
    ∙ (ap (λ c. c ++ map level_pair (flat_map (λ s. shred w s r d k) (slots_from at (place + 1) count))) (same r place)
    ∙ ap (λ c. piece r place ++ c) (pairs_of_rows w d k r piece at same (place + 1) count))

pairs_of_items : (n : Bool) (w : Way) (r d k : ℕ) (piece : ℕ → ℕ → List (ℕ × ℕ)) (at : ℕ → Slot) → ((rep i : ℕ) → map level_pair (shred w (at i) rep (suc (up n d)) (suc k)) ≡ piece rep i) → (place count : ℕ) → map level_pair (shred (in_list n w) (items (slots_of (slots_from at place count))) r d k) ≡ run_or (r, up n d) piece r (suc k) place count
unfolding shred slots_from run_or run
pairs_of_items n w r d k piece at same place zero = refl
pairs_of_items n w r d k piece at same place (suc count) =
    let D : ℕ = suc (up n d) in
    let K : ℕ = suc k in
    let others = slots_from at (place + 1) count in
    map-append level_pair (shred w (at place) r D K) (flat_map (λ t. shred w t K D K) (list_of (slots_of others)))
    ∙ (ap (λ c. c ++ map level_pair (flat_map (λ t. shred w t K D K) (list_of (slots_of others)))) (same r place)
    ∙ (ap (λ ss. piece r place ++ map level_pair (flat_map (λ t. shred w t K D K) ss)) (list_of-slots_of others)
    ∙ ap (λ c. piece r place ++ c) (pairs_of_rows w D K K piece at same (place + 1) count)))

-- a slot that is there or null
by_presence : (w : Way) (s : Slot) (r d k : ℕ) (b : Bool) (there : List (ℕ × ℕ)) → map level_pair (shred w s r d k) ≡ there → map level_pair (shred w null r d k) ≡ one_pair r d → map level_pair (shred w (cond b s null) r d k) ≡ cond b there (one_pair r d)
by_presence w s r d k true there h g = h
by_presence w s r d k false there h g = g

null_pair : (w : Way) (r d k : ℕ) → map level_pair (shred w null r d k) ≡ one_pair r d
unfolding shred
null_pair (at_leaf n) r d k = refl
null_pair (in_list n w) r d k = refl
null_pair (in_struct n i w) r d k = refl

pub slot_pairs-shred : (values : ℕ → Value) (parts : List Part) (def depth rep i : ℕ) → map level_pair (shred (path_way parts) (slot_in (λ j. value (values j)) parts i) rep def depth) ≡ slot_pairs parts def depth rep i
unfolding slot_in slot_pairs shred
slot_pairs-shred values [] def depth rep i = refl
slot_pairs-shred values (leaf_part is_optional mask count ∷ parts) def depth rep i =
    by_presence (at_leaf is_optional) (value (values i)) rep def depth (is_present is_optional mask i) _ (ap (one_pair rep) (up-bit is_optional def)) (null_pair (at_leaf is_optional) rep def depth)
slot_pairs-shred values (list_part is_optional mask offsets ∷ parts) def depth rep i =
    let D : ℕ = def + bit is_optional + 1 in
    let K : ℕ = depth + 1 in
    let e : suc (up is_optional def) ≡ D = omega (arith, up-bit is_optional def) in
    let f : suc depth ≡ K = omega arith in
    let below : (r j : ℕ) → map level_pair (shred (path_way parts) (slot_in (λ j. value (values j)) parts j) r (suc (up is_optional def)) (suc depth)) ≡ slot_pairs parts D K r j =
    λ r j. rw (e, f) (slot_pairs-shred values parts D K r j) in
    let all = pairs_of_items is_optional (path_way parts) rep def depth (slot_pairs parts D K) (slot_in (λ j. value (values j)) parts) below (item_start offsets i) (item_count offsets i) in
    by_presence (in_list is_optional (path_way parts)) _ rep def depth (is_present is_optional mask i) _ (rw (up-bit is_optional def, f) at all) (null_pair (in_list is_optional (path_way parts)) rep def depth)
slot_pairs-shred values (struct_part is_optional mask count ∷ parts) def depth rep i =
    let D : ℕ = def + bit is_optional in
    let below = subst (λ e. map level_pair (shred (path_way parts) (slot_in (λ j. value (values j)) parts i) rep e depth) ≡ slot_pairs parts D depth rep i) (sym (up-bit is_optional def)) (slot_pairs-shred values parts D depth rep i) in
    by_presence (in_struct is_optional zero (path_way parts)) (fields (slot (slot_in (λ j. value (values j)) parts i) no_slots)) rep def depth (is_present is_optional mask i) _ below (null_pair (in_struct is_optional zero (path_way parts)) rep def depth)

pub path_pairs-column : (values : ℕ → Value) (nested : List Nested) → map level_pair (nested_column values nested) ≡ path_pairs (parts_of nested)
unfolding path_slots path_pairs
path_pairs-column values nested =
    let parts = parts_of nested in
    pairs_of_rows (path_way parts) 0 0 0 (slot_pairs parts 0 0) (slot_in (λ j. value (values j)) parts) (λ r i. slot_pairs-shred values parts 0 0 r i) 0 (slot_count parts)

pub length-column : (values : ℕ → Value) (nested : List Nested) → length (nested_column values nested) ≡ length (path_pairs (parts_of nested))
length-column values nested = sym (length-map (nested_column values nested) level_pair) ∙ ap length (path_pairs-column values nested)

repetitions-pairs : (ts : List Triple) → map {A = ℕ × ℕ} (λ pair. pair.0) (map level_pair ts) ≡ map (λ t. t.repetition) ts
repetitions-pairs [] = refl
repetitions-pairs (t ∷ ts) = ap (λ c. t.repetition ∷ c) (repetitions-pairs ts)

definitions-pairs : (ts : List Triple) → map {A = ℕ × ℕ} (λ pair. pair.1) (map level_pair ts) ≡ map (λ t. t.definition) ts
definitions-pairs [] = refl
definitions-pairs (t ∷ ts) = ap (λ c. t.definition ∷ c) (definitions-pairs ts)

pub repetitions-column : (values : ℕ → Value) (nested : List Nested) (pairs : List (ℕ × ℕ)) → pairs ≡ path_pairs (parts_of nested) → map {A = ℕ × ℕ} (λ pair. pair.0) pairs ≡ map (λ t. t.repetition) (nested_column values nested)
repetitions-column values nested pairs e = ap (map {A = ℕ × ℕ} (λ pair. pair.0)) (e ∙ sym (path_pairs-column values nested)) ∙ repetitions-pairs (nested_column values nested)

pub definitions-column : (values : ℕ → Value) (nested : List Nested) (pairs : List (ℕ × ℕ)) → pairs ≡ path_pairs (parts_of nested) → map {A = ℕ × ℕ} (λ pair. pair.1) pairs ≡ map (λ t. t.definition) (nested_column values nested)
definitions-column values nested pairs e = ap (map {A = ℕ × ℕ} (λ pair. pair.1)) (e ∙ sym (path_pairs-column values nested)) ∙ definitions-pairs (nested_column values nested)
