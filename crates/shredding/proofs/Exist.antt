-- The columns of a field to which some rows shred.
use Rattle.std.proofs.Common.{◌≡◌, ℕ, zero, suc, ◌+◌, ◌≤◌, min, Bool, true, false, cond, nat_eq, nat_le, None, List, [], ◌∷◌, ◌++◌, map, filter, All, refl, subst, sym, ap, ap₂, subst₂, ◌∙◌, arith, le-leb, eq-eqb, ne_eqb}
use Rattle.std.proofs.lemmas.Bool.{lt-leb}
use native.Mathlib.Decide.{ℕ_discrete}
use Rattle.std.specs.List.{AllByRecursion as Each}
use Rattle.std.proofs.lemmas.List.Elements.{recursion_from_All, All-from_recursion}
use Rattle.shredding.specs.Along.{IsAlong}
use Rattle.shredding.specs.Laws.{AreColumns, RowsExist}
use Rattle.shredding.proofs.Ranges.{in_range, is_of, is_shaped, ways_listed}
use Rattle.shredding.specs.Local.{IsWithin, IsInOrder}
use Rattle.shredding.specs.Share.{shared_lists, shared_levels, lowered, shown, IsWayOf, IsWayIn, IsShapedAs, AreShapedAs, IsOfLeafType, leaf_type_at}
use Rattle.shredding.specs.Slot.{Slot, null, value, items, fields, Slots, no_slots, slot, list_of, slot_at}
use Rattle.shredding.specs.Shape.{ways, IsOf, Shape, leaf, list, struct, Shapes, no_shapes, shape, HasNoEmptyStruct, Way, at_leaf, in_list, in_struct}
use Rattle.shredding.specs.Shred.{Triple, up, single, shred, column, columns}
use Rattle.shredding.proofs.Agree.{Agree, AgreeAll, agree_rows, shows_agree, shown-append}
use Rattle.shredding.proofs.Levels.{levels_are_within, max-up, max_suc-up}
use Rattle.shredding.proofs.Local.{has_rows}
use Rattle.shredding.proofs.Merge.{merges, merge_rows, some_way, like_rows}
use Rattle.shredding.proofs.Order.{in_order}
use Rattle.shredding.proofs.Starts.{Above, BeginsAt, shred_begins}
use Rattle.shredding.proofs.Unique.{rows_along, same_each}

-- From columns to rows.

same_bool : (a b : Bool) → Dec (a ≡ b)
same_bool true true = yes refl
same_bool false false = yes refl
same_bool true false = no (λ e. cc)
same_bool false true = no (λ e. cc)

both : {A B : Type 0} → Dec A → Dec B → Dec (A × B)
both (yes a) (yes b) = yes (a, b)
both (yes a) (no f) = no (λ h. f h.1)
both (no f) d = no (λ h. f h.0)

mutual
  is_way : (f : Shape) (w : Way) → Dec (IsWayOf f w)
  is_way (leaf n k) (at_leaf m) = same_bool m n
  is_way (leaf n k) (in_list m w) = no (λ h. h)
  is_way (leaf n k) (in_struct m i w) = no (λ h. h)
  is_way (list n f) (at_leaf m) = no (λ h. h)
  is_way (list n f) (in_list m w) = both (same_bool m n) (is_way f w)
  is_way (list n f) (in_struct m i w) = no (λ h. h)
  is_way (struct n fs) (at_leaf m) = no (λ h. h)
  is_way (struct n fs) (in_list m w) = no (λ h. h)
  is_way (struct n fs) (in_struct m i w) = both (same_bool m n) (is_way_in fs i w)

  is_way_in : (fs : Shapes) (i : ℕ) (w : Way) → Dec (IsWayIn fs i w)
  is_way_in no_shapes i w = no (λ h. h)
  is_way_in (shape f fs) zero w = is_way f w
  is_way_in (shape f fs) (suc i) w = is_way_in fs i w

abbrev Rows : Way → List Triple → Type 0
Rows w ts = (rows : List Slot) × All (IsAlong w) rows × (column w rows ≡ ts)

abbrev chosen : (A : Type 0) (w : Way) (ts : List Triple) → (A → Rows w ts) → Dec A → List Slot
chosen A w ts g (yes a) = (g a).0
chosen A w ts g (no f) = []

chosen_is : (A : Type 0) (w : Way) (ts : List Triple) (g : A → Rows w ts) (d : Dec A) → A → All (IsAlong w) (chosen A w ts g d) × (column w (chosen A w ts g d) ≡ ts)
chosen_is A w ts g (yes b) a = ((g b).1, (g b).2)
chosen_is A w ts g (no f) a = absurd (f a)

same_columns : (g h : Way → List Triple) (ws : List Way) → Each (λ w. g w ≡ h w) ws → map g ws ≡ map h ws
same_columns g h [] e = refl
same_columns g h (w ∷ ws) e = ap₂ (λ x xs. x ∷ xs) e.0 (same_columns g h ws e.1)

exist : (f : Shape) (T : Way → List Triple) → HasNoEmptyStruct f → AreColumns f T → (rows : List Slot) × All (IsOf f) rows × (columns f rows ≡ map T (ways f))
exist f T h c =
    let R : Way → List Slot = λ w. chosen (IsWayOf f w) w (T w) (λ g. has_rows w (T w) (c.within w g) (c.in_order w g)) (is_way f w) in
    let R_is : (w : Way) → IsWayOf f w → All (IsAlong w) (R w) × (column w (R w) ≡ T w) = λ w g. chosen_is (IsWayOf f w) w (T w) (λ a. has_rows w (T w) (c.within w a) (c.in_order w a)) (is_way f w) g in
    let one = some_way f h in
    let R_along : (w : Way) → IsWayOf f w → Each (IsAlong w) (R w) = λ w g. recursion_from_All (IsAlong w) (R w) (R_is w g).0 in
    let R_agree : (w v : Way) → IsWayOf f w → IsWayOf f v → AgreeAll (Agree w v) (R w) (R v) =
    λ w v g i.
    agree_rows w v (shows_agree f w v g i) 0 0 0 (shared_lists w v) (shared_levels w v) (omega arith) (omega arith) (omega arith) (R w) (R v) (R_along w g) (R_along v i)
    (ap (shown (shared_lists w v) (shared_levels w v)) (R_is w g).1 ∙ c.agree w v g i ∙ sym (ap (shown (shared_lists w v) (shared_levels w v)) (R_is v i).1)) in
    let rows = merge_rows f (merges f h) one.0 one.1 (R one.0) R refl R_along R_agree in
    let own : (w : Way) → IsWayOf f w → column w rows.0 ≡ T w = λ w g. like_rows w rows.0 (R w) (rows.2 w g) 0 0 0 ∙ (R_is w g).1 in (
      rows.0,
      All-from_recursion (IsOf f) rows.0 (is_of f rows.0 rows.1 (λ w g. recursion_from_All (IsOfLeafType (leaf_type_at f w)) (column w rows.0) (subst (All (IsOfLeafType (leaf_type_at f w))) (sym (own w g)) (c.in_range w g)))),
      same_columns (λ w. column w rows.0) T (ways f) (recursion_from_All _ (ways f) ((ways_listed f (λ w. column w rows.0 ≡ T w)).1 own)),
    )

-- From rows to columns.

each_along : (P Q : Slot → Type 0) → ((s : Slot) → P s → Q s) → (ss : List Slot) → All P ss → All Q ss
each_along P Q g ss h k d l = g _ (h k d l)

mutual
  goes_along : (f : Shape) (w : Way) (s : Slot) → IsWayOf f w → IsShapedAs f s → IsAlong w s
  goes_along (leaf n k) (at_leaf m) null h p = h ∙ p
  goes_along (leaf n k) (at_leaf m) (value v) h p = tt
  goes_along (leaf n k) (at_leaf m) (items ss) h p = absurd p
  goes_along (leaf n k) (at_leaf m) (fields ss) h p = absurd p
  goes_along (leaf n k) (in_list m w) s h p = absurd h
  goes_along (leaf n k) (in_struct m i w) s h p = absurd h
  goes_along (list n f) (in_list m w) null h p = h.0 ∙ p
  goes_along (list n f) (in_list m w) (items ss) h p = each_along (IsShapedAs f) (IsAlong w) (λ s q. goes_along f w s h.1 q) (list_of ss) p
  goes_along (list n f) (in_list m w) (value v) h p = absurd p
  goes_along (list n f) (in_list m w) (fields ss) h p = absurd p
  goes_along (list n f) (at_leaf m) s h p = absurd h
  goes_along (list n f) (in_struct m i w) s h p = absurd h
  goes_along (struct n fs) (in_struct m i w) null h p = h.0 ∙ p
  goes_along (struct n fs) (in_struct m i w) (fields ss) h p = go_along fs i w ss h.1 p
  goes_along (struct n fs) (in_struct m i w) (value v) h p = absurd p
  goes_along (struct n fs) (in_struct m i w) (items ss) h p = absurd p
  goes_along (struct n fs) (at_leaf m) s h p = absurd h
  goes_along (struct n fs) (in_list m w) s h p = absurd h

  go_along : (fs : Shapes) (i : ℕ) (w : Way) (ss : Slots) → IsWayIn fs i w → AreShapedAs fs ss → IsAlong w (slot_at ss i)
  go_along no_shapes i w ss h p = absurd h
  go_along (shape f fs) i w no_slots h p = absurd p
  go_along (shape f fs) zero w (slot s ss) h p = goes_along f w s h p.0
  go_along (shape f fs) (suc i) w (slot s ss) h p = go_along fs i w ss h p.1

nothing_shown : (e k : ℕ) (xs : List Triple) → Above k xs → shown k e xs ≡ []
nothing_shown e k [] h = refl
nothing_shown e k (x ∷ xs) h =
    let p : nat_le x.repetition k ≡ false = lt-leb x.repetition k h.0 in
    ap (λ b. map (lowered e) (cond b (x ∷ filter (λ t. nat_le t.repetition k) xs) (filter (λ t. nat_le t.repetition k) xs))) p ∙ nothing_shown e k xs h.1

-- where no part below is shared, the first triple alone is shown
first_shown : (r d k : ℕ) (xs : List Triple) → r ≤ k → BeginsAt r d k xs → shown k d xs ≡ single r d None
first_shown r d k [] l h = absurd h
first_shown r d k (x ∷ xs) l h =
    let p : nat_le x.repetition k ≡ true = le-leb x.repetition k (omega (arith, h.0)) in
    let q : min x.definition d ≡ d = omega (arith, h.1) in
    let none : shown k d xs ≡ [] = nothing_shown d k xs h.2 in
    let begins : x.repetition ≡ r = h.0 in
    ap (λ b. map (lowered d) (cond b (x ∷ filter (λ t. nat_le t.repetition k) xs) (filter (λ t. nat_le t.repetition k) xs))) p
    ∙ (λ i. record { repetition = begins i; definition = q i; value = None } ∷ none i)

abbrev ShownAlike : Way → Way → Slot → Type 0
ShownAlike w v s = (r d k c e : ℕ) → r ≤ k → c ≡ k + shared_lists w v → e ≡ d + shared_levels w v → shown c e (shred w s r d k) ≡ shown c e (shred v s r d k)

rows_alike : (w v : Way) → ((s : Slot) → ShownAlike w v s) → (r d k c e : ℕ) → r ≤ k → c ≡ k + shared_lists w v → e ≡ d + shared_levels w v → (ss : List Slot) → shown c e (rows_along r d k w ss) ≡ shown c e (rows_along r d k v ss)
rows_alike w v u r d k c e l m n [] = refl
rows_alike w v u r d k c e l m n (s ∷ ss) =
    shown-append c e (shred w s r d k) (rows_along r d k w ss) ∙ ap₂ (λ xs ys. xs ++ ys) (u s r d k c e l m n) (rows_alike w v u r d k c e l m n ss) ∙ sym (shown-append c e (shred v s r d k) (rows_along r d k v ss))

list_alike : (n : Bool) (w v : Way) → ((s : Slot) → ShownAlike w v s) → (s : Slot) → ShownAlike (in_list n w) (in_list n v) s
unfolding shred
list_alike n w v u (items no_slots) r d k c e l m o = refl
list_alike n w v u (items (slot s ss)) r d k c e l m o =
    let D : ℕ = suc (up n d) in
    let K : ℕ = suc k in
    let c_is : c ≡ K + shared_lists w v = omega arith in
    let e_is : e ≡ D + shared_levels w v = omega (arith, max_suc-up n d (shared_levels w v)) in
    shown-append c e (shred w s r D K) (rows_along K D K w (list_of ss))
    ∙ ap₂ (λ xs ys. xs ++ ys) (u s r D K c e (omega arith) c_is e_is) (rows_alike w v u K D K c e (omega arith) c_is e_is (list_of ss))
    ∙ sym (shown-append c e (shred v s r D K) (rows_along K D K v (list_of ss)))
list_alike n w v u _ r d k c e l m o = refl

struct_alike : (n : Bool) (i j : ℕ) (w v : Way) → (i ≡ j → (s : Slot) → ShownAlike w v s) → Dec (i ≡ j) → (s : Slot) → ShownAlike (in_struct n i w) (in_struct n j v) s
unfolding shred
struct_alike n i j w v u (yes p) (fields ss) r d k c e l m o =
    let b : nat_eq i j ≡ true = eq-eqb i j p in
    let c_is : c ≡ k + shared_lists w v = subst (λ x. c ≡ k + cond x (shared_lists w v) 0) b m in
    let e_up : e ≡ d + up n (shared_levels w v) = subst (λ x. e ≡ d + up n (cond x (shared_levels w v) 0)) b o in
    u p (slot_at ss i) r (up n d) k c e l c_is (omega (arith, e_up, max-up n d (shared_levels w v))) ∙ ap (λ x. shown c e (shred v (slot_at ss x) r (up n d) k)) p
struct_alike n i j w v u (no f) (fields ss) r d k c e l m o =
    let b : nat_eq i j ≡ false = ne_eqb i j f in
    let c_is : k ≡ c = sym (subst (λ x. c ≡ k + cond x (shared_lists w v) 0) b m ∙ omega arith) in
    let e_is : up n d ≡ e = sym (subst (λ x. e ≡ d + up n (cond x (shared_levels w v) 0)) b o ∙ omega (arith, max-up n d 0)) in
    let at_least : shown k (up n d) (shred w (slot_at ss i) r (up n d) k) ≡ shown k (up n d) (shred v (slot_at ss j) r (up n d) k) =
    first_shown r (up n d) k _ l (shred_begins w (slot_at ss i) r (up n d) k) ∙ sym (first_shown r (up n d) k _ l (shred_begins v (slot_at ss j) r (up n d) k)) in
    subst₂ (λ x y. shown x y (shred w (slot_at ss i) r (up n d) k) ≡ shown x y (shred v (slot_at ss j) r (up n d) k)) c_is e_is at_least
struct_alike n i j w v u q _ r d k c e l m o = refl

mutual
  alike : (f : Shape) (w v : Way) → IsWayOf f w → IsWayOf f v → (s : Slot) → ShownAlike w v s
  alike (leaf n k) (at_leaf m) (at_leaf o) p q s = subst (λ b. ShownAlike (at_leaf m) (at_leaf b) s) (p ∙ sym q) (λ r d j c e l x y. refl)
  alike (leaf n k) (at_leaf m) (in_list o v) p q s = absurd q
  alike (leaf n k) (at_leaf m) (in_struct o i v) p q s = absurd q
  alike (leaf n k) (in_list m w) v p q s = absurd p
  alike (leaf n k) (in_struct m i w) v p q s = absurd p
  alike (list n f) (in_list m w) (in_list o v) p q s = subst (λ b. ShownAlike (in_list m w) (in_list b v) s) (p.0 ∙ sym q.0) (list_alike m w v (alike f w v p.1 q.1) s)
  alike (list n f) (in_list m w) (at_leaf o) p q s = absurd q
  alike (list n f) (in_list m w) (in_struct o i v) p q s = absurd q
  alike (list n f) (at_leaf m) v p q s = absurd p
  alike (list n f) (in_struct m i w) v p q s = absurd p
  alike (struct n fs) (in_struct m i w) (in_struct o j v) p q s =
      subst (λ b. ShownAlike (in_struct m i w) (in_struct b j v) s) (p.0 ∙ sym q.0)
      (struct_alike m i j w v (λ same. alike_in fs i w v p.1 (subst (λ x. IsWayIn fs x v) (sym same) q.1)) (ℕ_discrete i j) s)
  alike (struct n fs) (in_struct m i w) (at_leaf o) p q s = absurd q
  alike (struct n fs) (in_struct m i w) (in_list o v) p q s = absurd q
  alike (struct n fs) (at_leaf m) v p q s = absurd p
  alike (struct n fs) (in_list m w) v p q s = absurd p

  alike_in : (fs : Shapes) (i : ℕ) (w v : Way) → IsWayIn fs i w → IsWayIn fs i v → (s : Slot) → ShownAlike w v s
  alike_in no_shapes i w v p q s = absurd p
  alike_in (shape f fs) zero w v p q s = alike f w v p q s
  alike_in (shape f fs) (suc i) w v p q s = alike_in fs i w v p q s

are_columns : (f : Shape) (T : Way → List Triple) → ((rows : List Slot) × All (IsOf f) rows × (columns f rows ≡ map T (ways f))) → AreColumns f T
are_columns f T h =
    let own : (w : Way) → IsWayOf f w → column w h.0 ≡ T w = (ways_listed f (λ w. column w h.0 ≡ T w)).0 (All-from_recursion _ (ways f) (same_each (λ w. column w h.0) T (ways f) h.2)) in
    record {
      within = λ w g. subst (All (IsWithin w)) (own w g) (levels_are_within w h.0 (each_along (IsOf f) (IsAlong w) (λ s q. goes_along f w s g (is_shaped f s q)) h.0 h.1));
      in_order = λ w g. subst (IsInOrder w) (own w g) (in_order w h.0);
      in_range = λ w g. subst (All (IsOfLeafType (leaf_type_at f w))) (own w g) (in_range f w g h.0 (recursion_from_All (IsOf f) h.0 h.1));
      agree =
          λ w v g i.
          ap (shown (shared_lists w v) (shared_levels w v)) (sym (own w g))
          ∙ rows_alike w v (alike f w v g i) 0 0 0 (shared_lists w v) (shared_levels w v) (omega arith) (omega arith) (omega arith) h.0
          ∙ ap (shown (shared_lists w v) (shared_levels w v)) (own v i);
    }

pub rows_exist : RowsExist
rows_exist f T h = (exist f T h, are_columns f T)
