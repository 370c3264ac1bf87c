-- A cut of a sound array is sound, and has the slots of the cut.
use Rattle.std.proofs.Common.{◌≡◌, ℕ, zero, suc, ℤ, pos, ◌+◌, ◌-◌, ◌*◌, ◌≤◌, ◌<◌, List, [], ◌∷◌, length, take, drop, get_or, slice_index_or, All, Some, None, true, add-one, length-take, length-drop, refl, ap, sym, ◌∙◌, arith}
use Rattle.std.proofs.lemmas.List.{get_or-drop}
use Rattle.std.proofs.lemmas.Nat.{mul-le}
use Rattle.std.proofs.Math.Nat.{add-mul}
use Rattle.std.proofs.lemmas.List.Elements.{All-take, All-drop}
use Rattle.shredding.specs.Shape.{IsInRange}
use Rattle.shredding.specs.Parts.{keeps, MaskFits}
use Rattle.columns_core.specs.Shapes.{leaf_type, base}
use Rattle.columns_core.specs.Tree.{field, FieldTrees, no_fields, more_fields}
use Rattle.columns_slots.specs.Tree.{Mask, ArrayTree, null_array, leaf_array, list_array, fixed_list_array, struct_array, dictionary_array, ArrayTrees, no_arrays, more_arrays}
use Rattle.columns_slots.specs.Types.{part_types}
use Rattle.columns_slots.specs.Slots.{tree_len, first_len, cut, cut_all, cut_mask, type_of, AreTyped, count_arrays, AreKeys, IsMaskOver, AreLong, IsPlaces, AreUpTo, IsSound, AreSound}

pub length_cut : {A : Type 0} (xs : List A) (o n : ℕ) → o + n ≤ length xs → length (take n (drop o xs)) ≡ n
length_cut xs o n h = omega (arith, length-take n (drop o xs), length-drop o xs, h)

pub mask_over : (m : Mask) (n k : ℕ) → MaskFits m n → k ≤ n → IsMaskOver k m
mask_over None n k f h = tt
mask_over (Some bits) n k f h = omega (arith, f, h)

pub mask_cut : (m : Mask) (k o n : ℕ) → MaskFits m k → o + n ≤ k → MaskFits (cut_mask m o n) n
mask_cut None k o n f h = tt
mask_cut (Some bits) k o n f h = length_cut bits o n (omega (arith, f, h))

up_to : (o p : ℕ) (os : List ℕ) (u : ℕ) → o ≤ p → AreUpTo p os u → o ≤ u
up_to o p [] u h k = omega (arith, h, k)
up_to o p (q ∷ os) u h k = up_to o q os u (omega (arith, h, k.0)) k.1

-- the front of places
front_up : (o : ℕ) (os : List ℕ) (u n : ℕ) → AreUpTo o os u → AreUpTo o (take n os) u
front_up o [] u zero h = h
front_up o [] u (suc n) h = h
front_up o (p ∷ os) u zero h = up_to o p os u h.0 h.1
front_up o (p ∷ os) u (suc n) h = (h.0, front_up p os u n h.1)

places_cut_suc : (os : List ℕ) (u o n : ℕ) → IsPlaces os u → o + n < length os → IsPlaces (take (suc n) (drop o os)) u
places_cut_suc [] u o n h k = absurd (omega (arith, k))
places_cut_suc (x ∷ os) u zero n h k = front_up x os u n h
places_cut_suc (x ∷ []) u (suc o) n h k = absurd (omega (arith, k))
places_cut_suc (x ∷ y ∷ os) u (suc o) n h k = places_cut_suc (y ∷ os) u o n h.1 (omega (arith, k))

pub places_cut : (os : List ℕ) (u o n : ℕ) → IsPlaces os u → o + n < length os → IsPlaces (take (n + 1) (drop o os)) u
places_cut os u o n h k = rw (add-one n) (places_cut_suc os u o n h k)

pub some_place : (os : List ℕ) (u : ℕ) → IsPlaces os u → 0 < length os
some_place [] u h = absurd h
some_place (o ∷ os) u h = omega arith

pub scaled : (o n k w : ℕ) → o + n ≤ k → o * w + n * w ≤ k * w
scaled o n k w h = omega (arith, add-mul o n w, mul-le (o + n) w k w h (omega arith))

pub len_places : (os : List ℕ) (u o n : ℕ) → IsPlaces os u → o + n ≤ length os - 1 → length (take (n + 1) (drop o os)) - 1 ≡ n
len_places os u o n s h = omega (arith, length_cut os o (n + 1) (omega (arith, some_place os u s, h)))

mutual
  pub len_cut : (a : ArrayTree) (o n : ℕ) → IsSound a → o + n ≤ tree_len a → tree_len (cut a o n) ≡ n
  len_cut (null_array t k) o n s h = refl
  len_cut (leaf_array t vs m) o n s h = length_cut vs o n h
  len_cut (list_array t os c m) o n s h = len_places os (tree_len c) o n s.0 h
  len_cut (fixed_list_array t w k c m) o n s h = refl
  len_cut (struct_array t cs m) o n s h = first_cut cs (first_len cs) o n s.0 h
  len_cut (dictionary_array t ks c m) o n s h = length_cut ks o n h

  pub first_cut : (cs : ArrayTrees) (k o n : ℕ) → AreSound k cs → o + n ≤ first_len cs → first_len (cut_all cs o n) ≡ n
  first_cut no_arrays k o n s h = omega (arith, h)
  first_cut (more_arrays c cs) k o n s h = len_cut c o n s.0 h

pub type_cut : (a : ArrayTree) (o n : ℕ) → type_of (cut a o n) ≡ type_of a
type_cut (null_array t k) o n = refl
type_cut (leaf_array t vs m) o n = refl
type_cut (list_array t os c m) o n = refl
type_cut (fixed_list_array t w k c m) o n = refl
type_cut (struct_array t cs m) o n = refl
type_cut (dictionary_array t ks c m) o n = refl

get_front : {A : Type 0} (xs : List A) (n i : ℕ) (d : A) → i < n → get_or (take n xs) i d ≡ get_or xs i d
get_front xs zero i d h = absurd (omega (arith, h))
get_front [] (suc n) i d h = refl
get_front (x ∷ xs) (suc n) zero d h = refl
get_front (x ∷ xs) (suc n) (suc i) d h = get_front xs n i d (omega (arith, h))

pub get_cut : {A : Type 0} (xs : List A) (o n i : ℕ) (d : A) → i < n → get_or (take n (drop o xs)) i d ≡ get_or xs (o + i) d
get_cut xs o n i d h = get_front (drop o xs) n i d h ∙ get_or-drop o xs i d

pub keeps_cut : (m : Mask) (o n i : ℕ) → i < n → keeps (cut_mask m o n) i ≡ keeps m (o + i)
keeps_cut None o n i h = refl
keeps_cut (Some bits) o n i h = get_cut bits o n i true h

types_cut : (fs : FieldTrees) (cs : ArrayTrees) (o n : ℕ) → AreTyped fs cs → AreTyped fs (cut_all cs o n)
types_cut no_fields no_arrays o n h = tt
types_cut no_fields (more_arrays c cs) o n h = absurd h
types_cut (more_fields (field u t b m) fs) no_arrays o n h = absurd h
types_cut (more_fields (field u t b m) fs) (more_arrays c cs) o n h = (h.0 ∙ sym (type_cut c o n), types_cut fs cs o n h.1)

count_cut : (cs : ArrayTrees) (o n : ℕ) → count_arrays (cut_all cs o n) ≡ count_arrays cs
count_cut no_arrays o n = refl
count_cut (more_arrays c cs) o n = ap (λ k. k + 1) (count_cut cs o n)

all_cut : {A : Type 0} (P : A → Type 0) (xs : List A) (o n : ℕ) → All P xs → All P (take n (drop o xs))
all_cut P xs o n h = All-take P n (drop o xs) (All-drop P o xs h)

keys_cut : (m : Mask) (ks : List ℤ) (u o n : ℕ) → AreKeys m ks u → o + n ≤ length ks → AreKeys (cut_mask m o n) (take n (drop o ks)) u
keys_cut m ks u o n h k i l s =
    let below : i < n = omega (arith, l, length_cut ks o n k) in
    let here : slice_index_or (take n (drop o ks)) i (pos 0) ≡ slice_index_or ks (o + i) (pos 0) = get_cut ks o n i (pos 0) below in
    rw here (h (o + i) (omega (arith, below, k)) (sym (keeps_cut m o n i below) ∙ s))

mutual
  pub cut_sound : (a : ArrayTree) (o n : ℕ) → IsSound a → o + n ≤ tree_len a → IsSound (cut a o n)
  cut_sound (null_array t k) o n s h = s
  cut_sound (leaf_array t vs m) o n s h = (rw (length_cut vs o n h) (mask_cut m _ o n s.0 h), s.1, all_cut (IsInRange (leaf_type (base t))) vs o n s.2)
  cut_sound (list_array t os c m) o n s h =
      (places_cut os (tree_len c) o n s.0 (omega (arith, some_place os _ s.0, h)), rw (len_places os (tree_len c) o n s.0 h) (mask_cut m _ o n s.1 h), s.2, s.3)
  cut_sound (fixed_list_array t w k c m) o n s h =
      let fits : o * w + n * w ≤ tree_len c = rw s.0 (scaled o n k w h) in (
        len_cut c (o * w) (n * w) s.2 fits,
        mask_cut m k o n s.1 h,
        cut_sound c (o * w) (n * w) s.2 fits,
        s.3 ∙ ap (λ u. Some u) (sym (type_cut c (o * w) (n * w))),
        s.4,
        s.5,
      )
  cut_sound (struct_array t cs m) o n s h =
      rw (first_cut cs (first_len cs) o n s.0 h) (all_sound cs (first_len cs) o n s.0 h, mask_cut m _ o n s.1 h, types_cut (part_types (base t)) cs o n s.2, rw (count_cut cs o n) s.3)
  cut_sound (dictionary_array t ks c m) o n s h = (rw (length_cut ks o n h) (mask_cut m _ o n s.0 h), s.1, s.2, keys_cut m ks (tree_len c) o n s.3 h)

  pub all_sound : (cs : ArrayTrees) (k o n : ℕ) → AreSound k cs → o + n ≤ k → AreSound n (cut_all cs o n)
  all_sound no_arrays k o n s h = tt
  all_sound (more_arrays c cs) k o n s h =
      let fits : o + n ≤ tree_len c = omega (arith, s.1, h) in
      (cut_sound c o n s.0 fits, len_cut c o n s.0 fits, all_sound cs k o n s.2 h)

pub all_long : (cs : ArrayTrees) (k n : ℕ) → AreSound k cs → n ≤ k → AreLong n cs
all_long no_arrays k n s h = tt
all_long (more_arrays c cs) k n s h = (omega (arith, s.1, h), all_long cs k n s.2 h)
