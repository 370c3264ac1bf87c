-- The leaf's slots of a piece of a flat column are its rows.
use Rattle.std.proofs.Common.{◌≡◌, ℕ, suc, ◌+◌, ◌<◌, Bool, true, false, List, [], ◌∷◌, length, refl, ap, sym, ◌∙◌, subst, arith, true≢false}
use Rattle.std.specs.Prelude.{slice_index_or}
use Rattle.pq_headline.specs.Columns.{is_alone}
use Rattle.read_laws.specs.Column.{slot_of}
use Rattle.read_laws.specs.State.{Kept, kept_leaf, kept_list, kept_struct, kept_slot, kept_slots}
use Rattle.read_pieces.specs.Pieces.{IsPiece}
use Rattle.shredding.specs.Parts.{slots_from}
use Rattle.shredding.specs.Shape.{Way, at_leaf, in_list, in_struct}
use Rattle.shredding.specs.Shred.{Triple, column}
use Rattle.shredding.specs.Slot.{Slot, null}

listed : (f : ℕ → Slot) (xs : List Slot) (place : ℕ) → ((i : ℕ) → i < length xs → f (place + i) ≡ slice_index_or xs i null) → slots_from f place (length xs) ≡ xs
unfolding slots_from
listed f [] place same = refl
listed f (x ∷ xs) place same =
    let head : f place ≡ x = ap f (omega arith) ∙ same 0 (omega arith) in
    let rest = listed f xs (place + 1) (λ i h. ap f (omega arith) ∙ same (suc i) (omega arith)) in
    cc (head, rest)

is_at_leaf : Way → Bool
is_at_leaf (at_leaf n) = true
is_at_leaf w = false

leaf-slots : (n : Bool) (c : ℕ) (ks : List Kept) (leaf : List Slot) → length leaf ≡ c → kept_slots (slot_of leaf) (kept_leaf n c ∷ ks) ≡ leaf
unfolding kept_slots kept_slot
leaf-slots n c ks leaf e = subst (λ m. slots_from (slot_of leaf) 0 m ≡ leaf) e (listed (slot_of leaf) leaf 0 (λ i h. ap (slot_of leaf) (omega arith)))

pub flat_column : (w : Way) (ts : List Triple) (ks : List Kept) (leaf : List Slot) → is_alone w ≡ true → IsPiece w ts ks leaf → column w leaf ≡ ts
unfolding is_at_leaf
flat_column (at_leaf n) ts [] leaf a p = absurd p.fits
flat_column (at_leaf n) ts (kept_leaf m c ∷ ks) leaf a p =
    ap (λ w. column w leaf) (sym p.way) ∙ ap (column (at_leaf m)) (sym (leaf-slots m c ks leaf p.decoded)) ∙ p.column
flat_column (at_leaf n) ts (kept_list m starts ∷ ks) leaf a p = absurd (true≢false (sym (ap is_at_leaf p.way)))
flat_column (at_leaf n) ts (kept_struct m c ∷ ks) leaf a p = absurd (true≢false (sym (ap is_at_leaf p.way)))
flat_column (in_list n w) ts ks leaf a p = absurd (true≢false (sym a))
flat_column (in_struct n i w) ts ks leaf a p = absurd (true≢false (sym a))
