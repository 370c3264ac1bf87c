-- The columns of a field determine its rows.
use Rattle.std.proofs.Common.{◌≡◌, ℕ, zero, suc, ◌≤◌, Bool, true, false, IsTrue, Option, Some, None, List, [], ◌∷◌, ◌++◌, map, flat_map, refl, subst, sym, ap, ◌∙◌, arith}
use Rattle.std.specs.List.{AllByRecursion as Each}
use Rattle.std.proofs.lemmas.List.Elements.{recursion_from_All}
use Rattle.shredding.specs.Slot.{Value, Slot, null, value, items, fields, Slots, no_slots, slot, list_of, slots_of, slot_at}
use Rattle.shredding.specs.Shape.{LeafType, Shape, leaf, list, struct, Shapes, no_shapes, shape, IsOf, AreOf, HasNoEmptyStruct, HaveNoEmptyStruct, Way, at_leaf, in_list, in_struct, one_on, ways, ways_of}
use Rattle.shredding.specs.Shred.{Triple, up, single, shred, column}
use Rattle.shredding.specs.Laws.{RowsAreUnique}
use Rattle.shredding.proofs.Starts.{Above, BeginsAt, StopsAt, StopsAt-rows, begins_in_list, items_begin, shred_begins}

-- What holds of each element of a list.

pub Each-weaker : {X : Type 0} (P Q : X → Type 0) → ((x : X) → P x → Q x) → (xs : List X) → Each P xs → Each Q xs
Each-weaker P Q f [] h = tt
Each-weaker P Q f (x ∷ xs) h = (f x h.0, Each-weaker P Q f xs h.1)

pub Each-of_map : {X Y : Type 0} (P : X → Type 0) (f : Y → X) (ys : List Y) → Each P (map f ys) → Each (λ y. P (f y)) ys
Each-of_map P f [] h = tt
Each-of_map P f (y ∷ ys) h = (h.0, Each-of_map P f ys h.1)

pub Each-of_append_left : {X : Type 0} (P : X → Type 0) (xs ys : List X) → Each P (xs ++ ys) → Each P xs
Each-of_append_left P [] ys h = tt
Each-of_append_left P (x ∷ xs) ys h = (h.0, Each-of_append_left P xs ys h.1)

pub Each-of_append_right : {X : Type 0} (P : X → Type 0) (xs ys : List X) → Each P (xs ++ ys) → Each P ys
Each-of_append_right P [] ys h = h
Each-of_append_right P (x ∷ xs) ys h = Each-of_append_right P xs ys h.1

pub cons_head : {X : Type 0} (x y : X) (xs ys : List X) → x ∷ xs ≡ y ∷ ys → x ≡ y
cons_head x y xs ys e = cc

pub cons_tail : {X : Type 0} (x y : X) (xs ys : List X) → x ∷ xs ≡ y ∷ ys → xs ≡ ys
cons_tail x y xs ys e = cc

not_cons : {X : Type 0} (y : X) (ys : List X) → [] ≡ y ∷ ys → ⊥
not_cons y ys e = cc

pub same_each : {X Y : Type 0} (f g : X → Y) (xs : List X) → map f xs ≡ map g xs → Each (λ x. f x ≡ g x) xs
same_each f g [] e = tt
same_each f g (x ∷ xs) e = (cons_head _ _ _ _ e, same_each f g xs (cons_tail _ _ _ _ e))

-- The triples of one slot end where the next triple repeats at k or less.

split_tail : (k : ℕ) (xs ys R S : List Triple) → Above k xs → Above k ys → StopsAt k R → StopsAt k S → xs ++ R ≡ ys ++ S → (xs ≡ ys) × (R ≡ S)
split_tail k [] [] R S a b p q e = (refl, e)
split_tail k [] (y ∷ ys) R S a b p q e = let h : StopsAt k (y ∷ ys ++ S) = subst (StopsAt k) e p in absurd (omega (arith, h, b.0))
split_tail k (x ∷ xs) [] R S a b p q e = let h : StopsAt k (x ∷ xs ++ R) = subst (StopsAt k) (sym e) q in absurd (omega (arith, h, a.0))
split_tail k (x ∷ xs) (y ∷ ys) R S a b p q e =
    let rest = split_tail k xs ys R S a.1 b.1 p q (cons_tail x y _ _ e) in
    let first = cons_head x y (xs ++ R) (ys ++ S) e in
    (cc (first, rest.0), rest.1)

pub split : (r r' d d' k : ℕ) (xs ys R S : List Triple) → BeginsAt r d k xs → BeginsAt r' d' k ys → StopsAt k R → StopsAt k S → xs ++ R ≡ ys ++ S → (xs ≡ ys) × (R ≡ S)
split r r' d d' k [] ys R S a b p q e = absurd a
split r r' d d' k (x ∷ xs) [] R S a b p q e = absurd b
split r r' d d' k (x ∷ xs) (y ∷ ys) R S a b p q e =
    let rest = split_tail k xs ys R S a.2 b.2 p q (cons_tail x y _ _ e) in
    let first = cons_head x y (xs ++ R) (ys ++ S) e in
    (cc (first, rest.0), rest.1)

pub no_triples : (r d k : ℕ) (xs ys : List Triple) → BeginsAt r d k xs → [] ≡ xs ++ ys → ⊥
no_triples r d k [] ys h e = absurd h
no_triples r d k (x ∷ xs) ys h e = not_cons x (xs ++ ys) e

-- one triple at d levels is not what begins with more
too_low : (r d k : ℕ) (v : Option Value) (xs : List Triple) → BeginsAt r (suc d) k xs → single r d v ≡ xs → ⊥
too_low r d k v xs h e = let g : BeginsAt r (suc d) k (single r d v) = subst (BeginsAt r (suc d) k) (sym e) h in omega (arith, g.1)

-- slots that give the same triples along each way are the same
abbrev Same : List Way → ℕ → ℕ → ℕ → Slot → Slot → Type 0
Same ws r d k s t = Each (λ w. shred w s r d k ≡ shred w t r d k) ws

abbrev Determines : Shape → Type 0
Determines f = (r d k : ℕ) (s t : Slot) → IsOf f s → IsOf f t → Same (ways f) r d k s t → s ≡ t

abbrev pub rows_along : ℕ → ℕ → ℕ → Way → List Slot → List Triple
rows_along r d k w ss = flat_map (λ t. shred w t r d k) ss

-- a field without empty structs has a way
mutual
  one_way : (f : Shape) → HasNoEmptyStruct f → (P : Way → Type 0) → Each P (ways f) → (w : Way) × P w
  one_way (leaf n k) h P e = (at_leaf n, e.0)
  one_way (list n f) h P e = let found = one_way f h (λ w. P (in_list n w)) (Each-of_map P (in_list n) (ways f) e) in (in_list n found.0, found.1)
  one_way (struct n fs) h P e = let found = first_way n fs h (λ p. P (in_struct n p.0 p.1)) (Each-of_map P (λ p. in_struct n p.0 p.1) (ways_of fs) e) in (in_struct n found.0.0 found.0.1, found.1)

  first_way : (n : Bool) (fs : Shapes) → HasNoEmptyStruct (struct n fs) → (P : ℕ × Way → Type 0) → Each P (ways_of fs) → (p : ℕ × Way) × P p
  first_way n no_shapes h P e = absurd h
  first_way n (shape f fs) h P e =
      let found = one_way f h.0 (λ w. P (zero, w)) (Each-of_map P (λ w. (zero, w)) (ways f) (Each-of_append_left P _ _ e)) in
      ((zero, found.0), found.1)

-- lists of slots of a field that give the same triples along each way are the same
rows_same : (f : Shape) → HasNoEmptyStruct f → Determines f → (r d k : ℕ) → r ≤ k → (ss ts : List Slot) → Each (IsOf f) ss → Each (IsOf f) ts → Each (λ w. rows_along r d k w ss ≡ rows_along r d k w ts) (ways f) → ss ≡ ts
rows_same f h u r d k l [] [] a b e = refl
rows_same f h u r d k l [] (t ∷ ts) a b e = let found = one_way f h _ e in absurd (no_triples r d k (shred found.0 t r d k) _ (shred_begins found.0 t r d k) found.1)
rows_same f h u r d k l (s ∷ ss) [] a b e = let found = one_way f h _ e in absurd (no_triples r d k (shred found.0 s r d k) _ (shred_begins found.0 s r d k) (sym found.1))
rows_same f h u r d k l (s ∷ ss) (t ∷ ts) a b e =
    let parts : Each (λ w. (shred w s r d k ≡ shred w t r d k) × (rows_along r d k w ss ≡ rows_along r d k w ts)) (ways f) = Each-weaker _ _ (λ w q. split r r d d k _ _ _ _ (shred_begins w s r d k) (shred_begins w t r d k) (StopsAt-rows w r d k l ss) (StopsAt-rows w r d k l ts) q) (ways f) e in
    let first = u r d k s t a.0 b.0 (Each-weaker _ _ (λ w q. q.0) (ways f) parts) in
    let rest = rows_same f h u r d k l ss ts a.1 b.1 (Each-weaker _ _ (λ w q. q.1) (ways f) parts) in
    cc (first, rest)

-- A leaf.

value_of : List Triple → Option Value
value_of [] = None
value_of (t ∷ ts) = t.value

pub same_value : (r d e : ℕ) (v u : Option Value) → single r d v ≡ single r e u → v ≡ u
unfolding value_of
same_value r d e v u p = ap value_of p

leaf_determines : (n : Bool) (k : LeafType) → Determines (leaf n k)
unfolding shred
leaf_determines n k r d j null null p q e = refl
leaf_determines n k r d j null (value v) p q e = let g = same_value r d (up n d) None (Some v) e.0 in cc g
leaf_determines n k r d j (value v) null p q e = let g = same_value r (up n d) d (Some v) None e.0 in cc g
leaf_determines n k r d j (value v) (value u) p q e = let g = same_value r (up n d) (up n d) (Some v) (Some u) e.0 in cc g
leaf_determines n k r d j (items ss) t p q e = absurd p
leaf_determines n k r d j (fields ss) t p q e = absurd p
leaf_determines n k r d j null (items ss) p q e = absurd q
leaf_determines n k r d j null (fields ss) p q e = absurd q
leaf_determines n k r d j (value v) (items ss) p q e = absurd q
leaf_determines n k r d j (value v) (fields ss) p q e = absurd q

-- A list.

slots_of-list_of : (ss : Slots) → slots_of (list_of ss) ≡ ss
slots_of-list_of no_slots = refl
slots_of-list_of (slot s ss) = ap (slot s) (slots_of-list_of ss)

same_slots : (ss ts : Slots) → list_of ss ≡ list_of ts → ss ≡ ts
same_slots ss ts e = sym (slots_of-list_of ss) ∙ ap slots_of e ∙ slots_of-list_of ts

-- null is not a list
pub null_or_items : (n : Bool) (w : Way) (ss : Slots) (r d k : ℕ) → IsTrue n → shred (in_list n w) null r d k ≡ shred (in_list n w) (items ss) r d k → ⊥
unfolding shred
null_or_items true w ss r d k p e = too_low r d k None _ (items_begin true w (shred_begins w) ss r d k) e
null_or_items false w ss r d k p e = cc

-- an empty list is not one with items
pub empty_or_some : (n : Bool) (w : Way) (s : Slot) (ss : Slots) (r d k : ℕ) → shred (in_list n w) (items no_slots) r d k ≡ shred (in_list n w) (items (slot s ss)) r d k → ⊥
unfolding shred
empty_or_some n w s ss r d k e = too_low r (up n d) k None _ (begins_in_list w (shred_begins w) s (list_of ss) r (suc (up n d)) k) e

items_determine : (n : Bool) (f : Shape) → HasNoEmptyStruct f → Determines f → (r d k : ℕ) (ss ts : Slots) → Each (IsOf f) (list_of ss) → Each (IsOf f) (list_of ts) → Each (λ w. shred (in_list n w) (items ss) r d k ≡ shred (in_list n w) (items ts) r d k) (ways f) → ss ≡ ts
unfolding shred
items_determine n f h u r d k no_slots no_slots p q e = refl
items_determine n f h u r d k no_slots (slot t ts) p q e = let found = one_way f h _ e in absurd (empty_or_some n found.0 t ts r d k found.1)
items_determine n f h u r d k (slot s ss) no_slots p q e = let found = one_way f h _ e in absurd (empty_or_some n found.0 s ss r d k (sym found.1))
items_determine n f h u r d k (slot s ss) (slot t ts) p q e =
    let D : ℕ = suc (up n d) in
    let K : ℕ = suc k in
    let parts : Each (λ w. (shred w s r D K ≡ shred w t r D K) × (rows_along K D K w (list_of ss) ≡ rows_along K D K w (list_of ts))) (ways f) =
    Each-weaker _ _ (λ w g. split r r D D K _ _ _ _ (shred_begins w s r D K) (shred_begins w t r D K) (StopsAt-rows w K D K (omega arith) (list_of ss)) (StopsAt-rows w K D K (omega arith) (list_of ts)) g) (ways f) e in
    let first = u r D K s t p.0 q.0 (Each-weaker _ _ (λ w g. g.0) (ways f) parts) in
    let rest = rows_same f h u K D K (omega arith) (list_of ss) (list_of ts) p.1 q.1 (Each-weaker _ _ (λ w g. g.1) (ways f) parts) in
    let others = same_slots ss ts rest in
    cc (first, others)

list_determines : (n : Bool) (f : Shape) → HasNoEmptyStruct f → Determines f → Determines (list n f)
list_determines n f h u r d k null null p q e = refl
list_determines n f h u r d k null (items ts) p q e = let found = one_way f h _ (Each-of_map _ (in_list n) (ways f) e) in absurd (null_or_items n found.0 ts r d k p found.1)
list_determines n f h u r d k (items ss) null p q e = let found = one_way f h _ (Each-of_map _ (in_list n) (ways f) e) in absurd (null_or_items n found.0 ss r d k q (sym found.1))
list_determines n f h u r d k (items ss) (items ts) p q e =
    ap items (items_determine n f h u r d k ss ts (recursion_from_All (IsOf f) (list_of ss) p) (recursion_from_All (IsOf f) (list_of ts) q) (Each-of_map _ (in_list n) (ways f) e))
list_determines n f h u r d k (value v) t p q e = absurd p
list_determines n f h u r d k (fields ss) t p q e = absurd p
list_determines n f h u r d k null (value v) p q e = absurd q
list_determines n f h u r d k null (fields ts) p q e = absurd q
list_determines n f h u r d k (items ss) (value v) p q e = absurd q
list_determines n f h u r d k (items ss) (fields ts) p q e = absurd q

-- A struct.

-- null is not a struct's fields
pub null_or_fields : (n : Bool) (i : ℕ) (w : Way) (ss : Slots) (r d k : ℕ) → IsTrue n → shred (in_struct n i w) null r d k ≡ shred (in_struct n i w) (fields ss) r d k → ⊥
unfolding shred
null_or_fields true i w ss r d k p e = too_low r d k None _ (shred_begins w (slot_at ss i) r (suc d) k) e
null_or_fields false i w ss r d k p e = cc

abbrev DetermineAll : Shapes → Type 0
DetermineAll fs =
    (r d k : ℕ) (ss ts : Slots) → AreOf fs ss → AreOf fs ts → Each (λ p. shred p.1 (slot_at ss p.0) r d k ≡ shred p.1 (slot_at ts p.0) r d k) (ways_of fs) → ss ≡ ts

struct_determines : (n : Bool) (fs : Shapes) → HasNoEmptyStruct (struct n fs) → DetermineAll fs → Determines (struct n fs)
unfolding shred
struct_determines n fs h u r d k null null p q e = refl
struct_determines n fs h u r d k null (fields ts) p q e =
    let found = first_way n fs h _ (Each-of_map _ (λ p. in_struct n p.0 p.1) (ways_of fs) e) in absurd (null_or_fields n found.0.0 found.0.1 ts r d k p found.1)
struct_determines n fs h u r d k (fields ss) null p q e =
    let found = first_way n fs h _ (Each-of_map _ (λ p. in_struct n p.0 p.1) (ways_of fs) e) in absurd (null_or_fields n found.0.0 found.0.1 ss r d k q (sym found.1))
struct_determines n fs h u r d k (fields ss) (fields ts) p q e = ap fields (u r (up n d) k ss ts p q (Each-of_map _ (λ p. in_struct n p.0 p.1) (ways_of fs) e))
struct_determines n fs h u r d k (value v) t p q e = absurd p
struct_determines n fs h u r d k (items ss) t p q e = absurd p
struct_determines n fs h u r d k null (value v) p q e = absurd q
struct_determines n fs h u r d k null (items ts) p q e = absurd q
struct_determines n fs h u r d k (fields ss) (value v) p q e = absurd q
struct_determines n fs h u r d k (fields ss) (items ts) p q e = absurd q

fields_determine : (f : Shape) (fs : Shapes) → Determines f → DetermineAll fs → DetermineAll (shape f fs)
fields_determine f fs u us r d k (slot s ss) (slot t ts) p q e =
    let P : ℕ × Way → Type 0 = λ g. shred g.1 (slot_at (slot s ss) g.0) r d k ≡ shred g.1 (slot_at (slot t ts) g.0) r d k in
    let first : s ≡ t = u r d k s t p.0 q.0 (Each-of_map P (λ w. (zero, w)) (ways f) (Each-of_append_left P (map (λ w. (zero, w)) (ways f)) (map one_on (ways_of fs)) e)) in
    let rest : ss ≡ ts = us r d k ss ts p.1 q.1 (Each-of_map P one_on (ways_of fs) (Each-of_append_right P (map (λ w. (zero, w)) (ways f)) (map one_on (ways_of fs)) e)) in
    cc (first, rest)
fields_determine f fs u us r d k no_slots ts p q e = absurd p
fields_determine f fs u us r d k (slot s ss) no_slots p q e = absurd q

pub children_free : (n : Bool) (fs : Shapes) → HasNoEmptyStruct (struct n fs) → HaveNoEmptyStruct fs
children_free n no_shapes h = absurd h
children_free n (shape f fs) h = h

mutual
  determines : (f : Shape) → HasNoEmptyStruct f → Determines f
  determines (leaf n k) h = leaf_determines n k
  determines (list n f) h = list_determines n f h (determines f h)
  determines (struct n fs) h = struct_determines n fs h (determine_all fs (children_free n fs h))

  determine_all : (fs : Shapes) → HaveNoEmptyStruct fs → DetermineAll fs
  determine_all no_shapes h r d k no_slots no_slots p q e = refl
  determine_all no_shapes h r d k no_slots (slot t ts) p q e = absurd q
  determine_all no_shapes h r d k (slot s ss) ts p q e = absurd p
  determine_all (shape f fs) h r d k ss ts p q e = fields_determine f fs (determines f h.0) (determine_all fs h.1) r d k ss ts p q e

pub unique : RowsAreUnique
unique f a b h p q e = rows_same f h (determines f h) 0 0 0 (omega arith) a b (recursion_from_All (IsOf f) a p) (recursion_from_All (IsOf f) b q) (same_each (λ w. column w a) (λ w. column w b) (ways f) e)
