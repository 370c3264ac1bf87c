-- The slots of a state, as an array has them along a way (Arrow columnar format, "Variable-size List Layout" and "Struct Layout").
use Rattle.std.specs.Prelude.{◌≡◌, ℕ, ◌<◌, Bool, is_some, Option, List, [], ◌∷◌, ◌++◌}
use Rattle.shredding.specs.Along.{along, thin}
use Rattle.shredding.specs.Shape.{Way, at_leaf, in_list, in_struct}
use Rattle.shredding.specs.Slot.{Slot, Slots, null, value, fields, slot_at}
use Rattle.columns_core.specs.Tree.{TypeTree}
use Rattle.columns_slots.specs.Tree.{ArrayTree, list_array}
use Rattle.columns_slots.specs.Slots.{masked, slot_at as array_slot, tree_len}
use Rattle.read_laws.specs.State.{Kept, kept_leaf, kept_list, kept_struct, kept_way, count, kept_slot, StateFits}

-- a state of the way stands for the n slots that a function gives, as they are seen along the way
pub record Stands (leaf : ℕ → Slot) (w : Way) (ks : List Kept) (at : ℕ → Slot) (n : ℕ) : Type 0 where
  pub way : kept_way ks ≡ thin w
  pub count : count ks ≡ n
  pub seen : (i : ℕ) → i < n → kept_slot leaf ks i ≡ along w (at i)

-- null or a value
abbrev pub IsFlat : Slot → Type 0
IsFlat null = Unit {0}
IsFlat (value v) = Unit {0}
IsFlat s = ⊥

-- a leaf's part stands for the leaf's slots
abbrev pub LeavesKeepSlots : Type 0
LeavesKeepSlots =
    (leaf : ℕ → Slot) (n : Bool) (c : ℕ) → ((i : ℕ) → i < c → IsFlat (leaf i)) → Stands leaf (at_leaf n) (kept_leaf n c ∷ []) leaf c

-- the list array of a list's part
abbrev pub list_of_part : TypeTree → Option (List Bool) → List ℕ → ArrayTree → ArrayTree
list_of_part t m starts a = list_array t (starts ++ tree_len a ∷ []) a m

-- the list array of a list's part over an array stands for what the part does over the parts beneath it
abbrev pub ListsKeepSlots : Type 0
ListsKeepSlots =
    (leaf : ℕ → Slot) (w : Way) (ks : List Kept) (t : TypeTree) (m : Option (List Bool)) (starts : List ℕ) (a : ArrayTree) →
    StateFits (kept_list m starts ∷ ks) → Stands leaf w ks (array_slot a) (tree_len a) →
    Stands leaf (in_list (is_some m) w) (kept_list m starts ∷ ks) (array_slot (list_of_part t m starts a)) (tree_len (list_of_part t m starts a))

-- the same of a struct, along the way to each child: fields has the slots of the children at each position
abbrev pub StructsKeepSlots : Type 0
StructsKeepSlots =
    (leaf : ℕ → Slot) (w : Way) (ks : List Kept) (m : Option (List Bool)) (c i : ℕ) (children : ℕ → Slots) →
    StateFits (kept_struct m c ∷ ks) → Stands leaf w ks (λ k. slot_at (children k) i) c →
    Stands leaf (in_struct (is_some m) i w) (kept_struct m c ∷ ks) (λ k. masked m k (fields (children k))) c
