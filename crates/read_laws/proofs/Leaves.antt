-- The slots of a state's leaf: only those that are there count, and what pairs push.
use Rattle.std.proofs.Common.{◌≡◌, ℕ, zero, suc, ◌+◌, ◌-◌, ◌<◌, ◌≤◌, List, [], ◌∷◌, ◌++◌, length, refl, arith, get_or}
use Rattle.std.proofs.Math.ListN.{get_or-append}
use Rattle.shredding.specs.Slot.{Slot, null}
use Rattle.shredding.specs.Parts.{slots_from}
use Rattle.read_laws.specs.State.{Kept, kept_leaf, kept_list, kept_struct, count, kept_slot, kept_slots, item_end, leaf_count, StateFits}
use Rattle.read_laws.specs.Column.{kept_column, slot_of}
use Rattle.read_laws.proofs.Steps.{end-fits}

pub slots-same : (f g : ℕ → Slot) (place n : ℕ) → ((i : ℕ) → place ≤ i → i < place + n → f i ≡ g i) → slots_from f place n ≡ slots_from g place n
unfolding slots_from
slots-same f g place zero same = refl
slots-same f g place (suc n) same =
    rw (same place (omega arith) (omega arith), slots-same f g (place + 1) n (λ i a b. same i (omega arith) (omega arith)))

pub slot-same : (f g : ℕ → Slot) (ks : List Kept) → StateFits ks → ((i : ℕ) → i < leaf_count ks → f i ≡ g i) → (i : ℕ) → i < count ks → kept_slot f ks i ≡ kept_slot g ks i
unfolding kept_slot
slot-same f g [] fits same i h = absurd fits
slot-same f g (kept_leaf n c ∷ ks) fits same i h = same i h
slot-same f g (kept_list m starts ∷ ks) fits same i h =
    let below = slot-same f g ks fits.3 same in
    let end = end-fits starts (count ks) i fits.1 in
    let item = slots-same (kept_slot f ks) (kept_slot g ks) (get_or starts i 0) (item_end starts (count ks) i - get_or starts i 0) (λ k a c. below k (omega arith)) in
    rw item
slot-same f g (kept_struct m c ∷ ks) fits same i h = rw (slot-same f g ks fits.2 same i (omega (arith, fits.1)))

pub column-same : (f g : ℕ → Slot) (ks : List Kept) → StateFits ks → ((i : ℕ) → i < leaf_count ks → f i ≡ g i) → kept_column f ks ≡ kept_column g ks
unfolding kept_slots
column-same f g ks fits same = rw (slots-same (kept_slot f ks) (kept_slot g ks) 0 (count ks) (λ i a b. slot-same f g ks fits same i (omega arith)))

pub slot_of-front : (s more : List Slot) (i : ℕ) → i < length s → slot_of (s ++ more) i ≡ slot_of s i
slot_of-front s more i h = get_or-append s more null i h

-- ---- the column does not look at what follows the leaf's slots
pub front-same : (ks : List Kept) (s more : List Slot) → StateFits ks → length s ≡ leaf_count ks → kept_column (slot_of (s ++ more)) ks ≡ kept_column (slot_of s) ks
front-same ks s more f e = column-same (slot_of (s ++ more)) (slot_of s) ks f (λ i h. slot_of-front s more i (omega (arith, e)))
