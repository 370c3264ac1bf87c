-- The slots of a cut are the cut of the slots.
use Rattle.std.proofs.Common.{◌≡◌, ℕ, zero, suc, pos, ◌+◌, ◌*◌, ◌≤◌, ◌<◌, List, ◌∷◌, take, drop, length, get_or, false, Some, None, add-zero, zero-add, refl, ap, sym, subst, ◌∙◌, arith}
use Rattle.std.proofs.lemmas.Nat.{mul-add-lt}
use Rattle.std.proofs.Math.Nat.{add-mul}
use Rattle.columns_slots.specs.Tree.{Mask, ArrayTree, null_array, leaf_array, list_array, fixed_list_array, struct_array, dictionary_array, ArrayTrees, no_arrays, more_arrays}
use Rattle.shredding.specs.Slot.{Slot}
use Rattle.shredding.specs.Parts.{slots_from}
use Rattle.columns_slots.specs.Slots.{first_of, slot_at, slots_at, slots, tree_len, cut, cut_all, cut_mask, IsSound}
use Rattle.columns_slots.specs.Laws.{IsCut}
use Rattle.columns_slots.proofs.Cuts.{cut_cut}
use Rattle.columns_slots.proofs.Sound.{scaled, len_cut, get_cut, keeps_cut, cut_sound, type_cut}
use Rattle.shredding.specs.Slot.{truth}

first_cut : (os : List ℕ) (o n i : ℕ) → i < n → first_of (take (n + 1) (drop o os)) i ≡ first_of os (o + i)
first_cut os o n i h = get_cut os o (n + 1) i 0 (omega (arith, h))

next_cut : (os : List ℕ) (o n i : ℕ) → i < n → get_or (take (n + 1) (drop o os)) (i + 1) 0 ≡ get_or os (o + i + 1) 0
next_cut os o n i h =
    let e : o + (i + 1) ≡ o + i + 1 = omega arith in
    get_cut os o (n + 1) (i + 1) 0 (omega (arith, h)) ∙ ap (λ k. get_or os k 0) e

-- a table of f from a on, and one of g from b on, that agree
same_table : (f g : ℕ → Slot) (a b n : ℕ) → ((i : ℕ) → i < n → f (a + i) ≡ g (b + i)) → slots_from f a n ≡ slots_from g b n
unfolding slots_from
same_table f g a b zero e = refl
same_table f g a b (suc n) e =
    let here : f a ≡ g b = subst (λ k. f k ≡ g b) (add-zero a) (subst (λ k. f (a + 0) ≡ g k) (add-zero b) (e 0 (omega arith))) in
    rw (
      here,
      same_table f g (a + 1) (b + 1) n (λ i h. let p : a + suc i ≡ a + 1 + i = omega arith in let q : b + suc i ≡ b + 1 + i = omega arith in
          subst (λ k. f k ≡ g (b + 1 + i)) p (subst (λ k. f (a + suc i) ≡ g k) q (e (suc i) (omega (arith, h))))),
    ) refl

-- the items of one position, where those of the cut are the cut of those before
fixed_cut : (f g : ℕ → Slot) (o n i w : ℕ) → i < n → ((j : ℕ) → j < n * w → f j ≡ g (o * w + j)) → slots_from f (i * w) w ≡ slots_from g ((o + i) * w) w
fixed_cut f g o n i w h e =
    same_table f g (i * w) ((o + i) * w) w (λ j l.
    let p : o * w + (i * w + j) ≡ (o + i) * w + j = omega (arith, add-mul o i w) in
    e (i * w + j) (omega (arith, mul-add-lt i w j n h l)) ∙ ap g p)

mutual
  slot_cut : (a : ArrayTree) (o n i : ℕ) → i < n → slot_at (cut a o n) i ≡ slot_at a (o + i)
  slot_cut (null_array t k) o n i h = refl
  slot_cut (leaf_array t vs m) o n i h = rw (keeps_cut m o n i h, get_cut vs o n i (truth false) h) refl
  slot_cut (list_array t os c m) o n i h = rw (keeps_cut m o n i h, first_cut os o n i h, next_cut os o n i h) refl
  slot_cut (fixed_list_array t w k c m) o n i h = rw (keeps_cut m o n i h, fixed_cut (slot_at (cut c (o * w) (n * w))) (slot_at c) o n i w h (λ j l. slot_cut c (o * w) (n * w) j l)) refl
  slot_cut (struct_array t cs m) o n i h = rw (keeps_cut m o n i h, parts_cut cs o n i h) refl
  slot_cut (dictionary_array t ks c m) o n i h = rw (keeps_cut m o n i h, get_cut ks o n i (pos 0) h) refl

  parts_cut : (cs : ArrayTrees) (o n i : ℕ) → i < n → slots_at (cut_all cs o n) i ≡ slots_at cs (o + i)
  parts_cut no_arrays o n i h = refl
  parts_cut (more_arrays c cs) o n i h = rw (slot_cut c o n i h, parts_cut cs o n i h) refl

front_table : (f : ℕ → Slot) (a k n : ℕ) → n ≤ k → take n (slots_from f a k) ≡ slots_from f a n
unfolding slots_from
front_table f a k zero h = refl
front_table f a zero (suc n) h = absurd (omega (arith, h))
front_table f a (suc k) (suc n) h = ap (λ r. f a ∷ r) (front_table f (a + 1) k n (omega (arith, h)))

cut_table : (f : ℕ → Slot) (a k o n : ℕ) → o + n ≤ k → take n (drop o (slots_from f a k)) ≡ slots_from f (a + o) n
unfolding slots_from
cut_table f a k zero n h = rw (add-zero a) (front_table f a k n (omega (arith, h)))
cut_table f a zero (suc o) n h = absurd (omega (arith, h))
cut_table f a (suc k) (suc o) n h =
    let p : a + 1 + o ≡ a + suc o = omega arith in
    cut_table f (a + 1) k o n (omega (arith, h)) ∙ ap (λ j. slots_from f j n) p

pub slots_cut : (a : ArrayTree) (o n : ℕ) → IsSound a → o + n ≤ tree_len a → slots (cut a o n) ≡ take n (drop o (slots a))
slots_cut a o n s h =
    let z : 0 + o ≡ o = zero-add o in
    rw (len_cut a o n s h)
    (same_table (slot_at (cut a o n)) (slot_at a) 0 o n (λ i k. rw (zero-add i) (slot_cut a o n i k)) ∙ sym (cut_table (slot_at a) 0 (tree_len a) o n h ∙ ap (λ j. slots_from (slot_at a) j n) z))

counted : (f : ℕ → Slot) (a n : ℕ) → length (slots_from f a n) ≡ n
unfolding slots_from
counted f a zero = refl
counted f a (suc n) = ap suc (counted f (a + 1) n)

pub slots_counted : (a : ArrayTree) → length (slots a) ≡ tree_len a
slots_counted a = counted (slot_at a) 0 (tree_len a)

pub is_cut : (a : ArrayTree) (o n : ℕ) → IsSound a → o + n ≤ tree_len a → IsCut a o n
is_cut a o n s h = record { slots_are = slots_cut a o n s h; sound = cut_sound a o n s h; len = len_cut a o n s h; typed = type_cut a o n }

mask_twice : (m : Mask) (o n p k : ℕ) → p + k ≤ n → cut_mask (cut_mask m o n) p k ≡ cut_mask m (o + p) k
mask_twice None o n p k h = refl
mask_twice (Some bits) o n p k h = ap (λ r. Some r) (cut_cut bits o n p k h)

mutual
  pub cut_twice : (a : ArrayTree) (o n p k : ℕ) → p + k ≤ n → cut (cut a o n) p k ≡ cut a (o + p) k
  cut_twice (null_array t l) o n p k h = refl
  cut_twice (leaf_array t vs m) o n p k h = rw (cut_cut vs o n p k h, mask_twice m o n p k h) refl
  cut_twice (list_array t os c m) o n p k h = rw (cut_cut os o (n + 1) p (k + 1) (omega (arith, h)), mask_twice m o n p k h) refl
  cut_twice (fixed_list_array t w l c m) o n p k h =
      rw (cut_twice c (o * w) (n * w) (p * w) (k * w) (scaled p k n w h), mask_twice m o n p k h, add-mul o p w) refl
  cut_twice (struct_array t cs m) o n p k h = rw (all_twice cs o n p k h, mask_twice m o n p k h) refl
  cut_twice (dictionary_array t ks c m) o n p k h = rw (cut_cut ks o n p k h, mask_twice m o n p k h) refl

  all_twice : (cs : ArrayTrees) (o n p k : ℕ) → p + k ≤ n → cut_all (cut_all cs o n) p k ≡ cut_all cs (o + p) k
  all_twice no_arrays o n p k h = refl
  all_twice (more_arrays c cs) o n p k h = rw (cut_twice c o n p k h, all_twice cs o n p k h) refl
