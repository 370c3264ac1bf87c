-- Parts of a state and the arrays made of them stand for the same slots.
use Rattle.std.proofs.Common.{◌≡◌, ℕ, zero, suc, ◌+◌, ◌-◌, ◌<◌, ◌≤◌, Bool, true, false, cond, is_some, Option, List, [], ◌∷◌, ◌++◌, map, length, get_or, refl, arith, ap, inl, inr}
use Rattle.std.proofs.lemmas.Bool.{cases_lt}
use Rattle.std.proofs.lemmas.List.{get_or_past, get_or_default, length-append}
use Rattle.std.proofs.Math.ListN.{get_or-append}
use Rattle.std.proofs.Math.Seq.{get_or-append_seam}
use Rattle.shredding.specs.Along.{along}
use Rattle.shredding.specs.Shape.{Way, at_leaf, in_list, in_struct}
use Rattle.shredding.specs.Slot.{Slot, Slots, null, value, items, fields, no_slots, slot, slots_of, slot_at}
use Rattle.shredding.specs.Parts.{slots_from}
use Rattle.shredding.proofs.Along.{list_of-slots_of}
use Rattle.columns_core.specs.Tree.{TypeTree}
use Rattle.columns_slots.specs.Tree.{ArrayTree}
use Rattle.columns_slots.specs.Slots.{slot_at as array_slot, tree_len}
use Rattle.read_laws.specs.State.{Kept, kept_list, count, item_end, kept_slot, StateFits}
use Rattle.read_laws.proofs.Steps.{end-fits}
use Rattle.read_nested.specs.Keeps.{Stands, IsFlat, LeavesKeepSlots, ListsKeepSlots, StructsKeepSlots, list_of_part}

flat-along : (n : Bool) (s : Slot) → IsFlat s → s ≡ along (at_leaf n) s
unfolding along
flat-along n null h = refl
flat-along n (value v) h = refl
flat-along n (items ss) h = absurd h
flat-along n (fields ss) h = absurd h

pub leaves-kept : LeavesKeepSlots
unfolding kept_slot
leaves-kept leaf n c flat = record { way = refl; count = refl; seen = λ i h. flat-along n (leaf i) (flat i h) }

-- ---- lists
end-closed : (starts : List ℕ) (n i : ℕ) → i < length starts → get_or (starts ++ n ∷ []) (i + 1) 0 ≡ item_end starts n i
end-closed starts n i h =
    elim (cases_lt (i + 1) (length starts)) [
      | inl e ↦ rw (get_or-append starts (n ∷ []) 0 (i + 1) e) (get_or_default starts (i + 1) 0 n e)
      | inr e ↦ let eq : length starts ≡ i + 1 = omega arith in
          rw (get_or_past starts (i + 1) n e, ← eq) (get_or-append_seam starts n [] 0)
    ]

pub list-len : (starts : List ℕ) (n : ℕ) → length starts ≡ length (starts ++ n ∷ []) - 1
list-len starts n = rw (length-append starts (n ∷ [])) (omega arith)

pub slots-along : (f g : ℕ → Slot) (w : Way) (place n : ℕ) → ((i : ℕ) → place ≤ i → i < place + n → f i ≡ along w (g i)) → slots_from f place n ≡ map (along w) (slots_from g place n)
unfolding slots_from
slots-along f g w place zero same = refl
slots-along f g w place (suc n) same =
    let head = same place (omega arith) (omega arith) in
    let rest = slots-along f g w (place + 1) n (λ i a b. same i (omega arith) (omega arith)) in
    cc (head, rest)

list-masked : (n : Bool) (w : Way) (b : Bool) (xs ys : List Slot) → xs ≡ map (along w) ys → cond b (items (slots_of xs)) null ≡ along (in_list n w) (cond b (items (slots_of ys)) null)
unfolding along
list-masked n w false xs ys e = refl
list-masked n w true xs ys e = rw (list_of-slots_of ys, e) refl

module _ (leaf : ℕ → Slot) (w : Way) (ks : List Kept) (t : TypeTree) (m : Option (List Bool)) (starts : List ℕ) (a : ArrayTree) (fits : StateFits (kept_list m starts ∷ ks)) (stands : Stands leaf w ks (array_slot a) (tree_len a)) where
  list-seen : (n : Bool) (i : ℕ) → i < length starts → kept_slot leaf (kept_list m starts ∷ ks) i ≡ along (in_list n w) (array_slot (list_of_part t m starts a) i)
  unfolding kept_slot
  list-seen n i h =
      let end = end-fits starts (count ks) i fits.1 in
      let F : ℕ = get_or starts i 0 in
      let E : ℕ = item_end starts (count ks) i in
      let same : slots_from (kept_slot leaf ks) F (E - F) ≡ map (along w) (slots_from (array_slot a) F (E - F)) =
      slots-along (kept_slot leaf ks) (array_slot a) w F (E - F) (λ k x y. stands.seen k (omega (arith, stands.count))) in
      rw (get_or-append starts (tree_len a ∷ []) 0 i h, end-closed starts (tree_len a) i h, ← stands.count) (list-masked n w _ _ _ same)

pub lists-kept : ListsKeepSlots
lists-kept leaf w ks t m starts a fits stands = record {
  way = ap (in_list (is_some m)) stands.way;
  count = list-len starts (tree_len a);
  seen = λ i h. list-seen leaf w ks t m starts a fits stands _ i (omega (arith, list-len starts (tree_len a)));
}

-- ---- structs
struct-masked : (n : Bool) (i : ℕ) (w : Way) (b : Bool) (s : Slot) (ss : Slots) → s ≡ along w (slot_at ss i) → cond b (fields (slot s no_slots)) null ≡ along (in_struct n i w) (cond b (fields ss) null)
unfolding along
struct-masked n i w false s ss e = refl
struct-masked n i w true s ss e = rw e refl

pub structs-kept : StructsKeepSlots
unfolding kept_slot
structs-kept leaf w ks m c i children fits stands = record {
  way = ap (in_struct (is_some m) zero) stands.way;
  count = refl;
  seen = λ k h. struct-masked _ i w _ _ (children k) (stands.seen k h);
}
