-- Slots compared place by place.
use Rattle.std.proofs.Common.{◌≡◌, ◌≢◌, ◌↔◌, ◌⊎◌, inl, inr, ℕ, zero, suc, ◌+◌, ◌≤◌, ◌<◌, Bool, IsTrue, true, false, true≢false, List, [], ◌∷◌, ◌++◌, length, take, get_or, add-one, zero-add, refl, ap, sym, subst, ◌∙◌, arith}
use Rattle.std.proofs.lemmas.List.{get_or_default}
use Rattle.std.proofs.Math.Nat.{eq-or-lt_of_le}
use Rattle.shredding.specs.Slot.{Slot, null, value, items, fields, Slots, no_slots, slot, slots_of, list_of}
use Rattle.shredding.specs.Parts.{slots_from}
use Rattle.columns_slots.specs.Tree.{ArrayTree, ArrayTrees, no_arrays, more_arrays}
use Rattle.columns_slots.specs.Slots.{slot_at, slots_at, slots, tree_len, AreLong, trees_size, tree_size}
use Rattle.columns_array.specs.Boxed.{boxed, all_boxed}
use Rattle.columns_array.specs.declared.arrays.ArrayBox.{ArrayBox}

-- ---- runs
pub run_length : (f : ℕ → Slot) (a n : ℕ) → length (slots_from f a n) ≡ n
unfolding slots_from
run_length f a zero = refl
run_length f a (suc n) = ap suc (run_length f (a + 1) n)

more_suc : (f : ℕ → Slot) (a n : ℕ) → slots_from f a (suc n) ≡ slots_from f a n ++ f (a + n) ∷ []
unfolding slots_from
more_suc f a zero =
    let e : a + 0 ≡ a = omega arith in
    rw e refl
more_suc f a (suc n) =
    let e : a + 1 + n ≡ a + suc n = omega arith in
    ap (λ r. f a ∷ r) (more_suc f (a + 1) n ∙ ap (λ j. slots_from f (a + 1) n ++ f j ∷ []) e)

-- one slot more
pub run_more : (f g : ℕ → Slot) (a b k : ℕ) → slots_from f a k ≡ slots_from g b k → f (a + k) ≡ g (b + k) → slots_from f a (k + 1) ≡ slots_from g b (k + 1)
run_more f g a b k e s = rw (add-one k, more_suc f a k, more_suc g b k, e, s) refl

at_run : (f : ℕ → Slot) (a n k : ℕ) → k < n → get_or (slots_from f a n) k null ≡ f (a + k)
unfolding slots_from
at_run f a zero k h = absurd (omega (arith, h))
at_run f a (suc n) zero h = ap f (omega arith)
at_run f a (suc n) (suc k) h = at_run f (a + 1) n k (omega (arith, h)) ∙ ap f (omega arith)

pub run_none : (f g : ℕ → Slot) (a b : ℕ) → slots_from f a 0 ≡ slots_from g b 0
unfolding slots_from
run_none f g a b = refl

-- a slot that differs
pub run_no : (f g : ℕ → Slot) (a b n k : ℕ) (r : Bool) → k < n → r ≡ false → IsTrue r ↔ (f (a + k) ≡ g (b + k)) → IsTrue false ↔ (slots_from f a n ≡ slots_from g b n)
run_no f g a b n k r h e d =
    (λ t. absurd (true≢false (sym t)), λ q. absurd (true≢false (sym (d.1 (sym (at_run f a n k h) ∙ ap (λ r. get_or r k null) q ∙ at_run g b n k h)) ∙ e)))

pub runs_of_nulls : (f g : ℕ → Slot) (a b n : ℕ) → ((i : ℕ) → f i ≡ null) → ((i : ℕ) → g i ≡ null) → slots_from f a n ≡ slots_from g b n
unfolding slots_from
runs_of_nulls f g a b zero h k = refl
runs_of_nulls f g a b (suc n) h k = rw (h a, k b, runs_of_nulls f g (a + 1) (b + 1) n h k) refl

pub slots_same : (a b : ArrayTree) → slots a ≡ slots b → tree_len a ≡ tree_len b
slots_same a b e = sym (run_length (slot_at a) 0 (tree_len a)) ∙ ap length e ∙ run_length (slot_at b) 0 (tree_len b)

-- ---- items and fields
listed : (xs : List Slot) → list_of (slots_of xs) ≡ xs
listed [] = refl
listed (x ∷ xs) = ap (λ r. x ∷ r) (listed xs)

abbrev pub parts_in : Slot → Slots
parts_in (items ss) = ss
parts_in (fields ss) = ss
parts_in s = no_slots

pub items_same : (xs ys : List Slot) → items (slots_of xs) ≡ items (slots_of ys) → xs ≡ ys
items_same xs ys e = sym (listed xs) ∙ ap (λ s. list_of (parts_in s)) e ∙ listed ys

pub fields_same : (xs ys : Slots) → fields xs ≡ fields ys → xs ≡ ys
fields_same xs ys e = ap parts_in e

pub items_count : (f g : ℕ → Slot) (a b n m : ℕ) → items (slots_of (slots_from f a n)) ≡ items (slots_of (slots_from g b m)) → n ≡ m
items_count f g a b n m e = sym (run_length f a n) ∙ ap length (items_same (slots_from f a n) (slots_from g b m) e) ∙ run_length g b m

pub items_told : (f g : ℕ → Slot) (a b n m : ℕ) (r : Bool) → n ≡ m → IsTrue r ↔ (slots_from f a n ≡ slots_from g b n) → IsTrue r ↔ (items (slots_of (slots_from f a n)) ≡ items (slots_of (slots_from g b m)))
items_told f g a b n m r p d =
    subst (λ k. IsTrue r ↔ (items (slots_of (slots_from f a n)) ≡ items (slots_of (slots_from g b k)))) p (λ t. ap (λ s. items (slots_of s)) (d.0 t), λ e. d.1 (items_same (slots_from f a n) (slots_from g b n) e))

pub fields_told : (xs ys : Slots) (r : Bool) → IsTrue r ↔ (xs ≡ ys) → IsTrue r ↔ (fields xs ≡ fields ys)
fields_told xs ys r d = (λ t. ap fields (d.0 t), λ e. d.1 (fields_same xs ys e))

-- the fields before field k are the same
abbrev pub AreSameTo : ℕ → List ArrayBox → ℕ → List ArrayBox → ℕ → Type 0
AreSameTo k xs i ys j = (n : ℕ) (d e : ArrayBox) → n < k → slot_at (boxed (get_or xs n d)) i ≡ slot_at (boxed (get_or ys n e)) j

pub none_yet : (xs : List ArrayBox) (i : ℕ) (ys : List ArrayBox) (j : ℕ) → AreSameTo 0 xs i ys j
none_yet xs i ys j n d e h = absurd (omega (arith, h))

abbrev first_slot : Slots → Slot
first_slot no_slots = null
first_slot (slot s ss) = s

abbrev later_slots : Slots → Slots
later_slots no_slots = no_slots
later_slots (slot s ss) = ss

abbrev is_empty : Slots → Bool
is_empty no_slots = true
is_empty (slot s ss) = false

pub fields_agree : (xs ys : List ArrayBox) (i j : ℕ) → length xs ≡ length ys → AreSameTo (length xs) xs i ys j → slots_at (all_boxed xs) i ≡ slots_at (all_boxed ys) j
fields_agree [] [] i j e h = refl
fields_agree [] (y ∷ ys) i j e h = absurd (omega (arith, e))
fields_agree (x ∷ xs) [] i j e h = absurd (omega (arith, e))
fields_agree (x ∷ xs) (y ∷ ys) i j e h =
    rw (h 0 x y (omega arith), fields_agree xs ys i j (omega (arith, e)) (λ n d f l. h (suc n) d f (omega (arith, l)))) refl

pub fields_count : (xs ys : List ArrayBox) (i j : ℕ) → slots_at (all_boxed xs) i ≡ slots_at (all_boxed ys) j → length xs ≡ length ys
fields_count [] [] i j e = refl
fields_count [] (y ∷ ys) i j e = absurd (true≢false (ap is_empty e))
fields_count (x ∷ xs) [] i j e = absurd (true≢false (sym (ap is_empty e)))
fields_count (x ∷ xs) (y ∷ ys) i j e = ap suc (fields_count xs ys i j (ap later_slots e))

pub field_same : (xs ys : List ArrayBox) (i j n : ℕ) (d e : ArrayBox) → n < length xs → n < length ys → slots_at (all_boxed xs) i ≡ slots_at (all_boxed ys) j
    → slot_at (boxed (get_or xs n d)) i ≡ slot_at (boxed (get_or ys n e)) j
field_same [] ys i j n d e h k s = absurd (omega (arith, h))
field_same (x ∷ xs) [] i j n d e h k s = absurd (omega (arith, k))
field_same (x ∷ xs) (y ∷ ys) i j zero d e h k s = ap first_slot s
field_same (x ∷ xs) (y ∷ ys) i j (suc n) d e h k s = field_same xs ys i j n d e (omega (arith, h)) (omega (arith, k)) (ap later_slots s)

last_or : (n k : ℕ) → n < k + 1 → (n ≡ k) ⊎ (n < k)
last_or n k h = eq-or-lt_of_le (omega (arith, h))

pub fields_more : (xs : List ArrayBox) (i : ℕ) (ys : List ArrayBox) (j k : ℕ) (x y : ArrayBox) → k < length xs → k < length ys → x ≡ get_or xs k x → y ≡ get_or ys k y
    → slot_at (boxed x) i ≡ slot_at (boxed y) j → AreSameTo k xs i ys j → AreSameTo (k + 1) xs i ys j
fields_more xs i ys j k x y p q u v s h n d e l = by (last_or n k l)
  where
    by : (n ≡ k) ⊎ (n < k) → slot_at (boxed (get_or xs n d)) i ≡ slot_at (boxed (get_or ys n e)) j
    by (inl z) = rw (z, get_or_default xs k d x p, get_or_default ys k e y q, ← u, ← v) s
    by (inr z) = h n d e z
