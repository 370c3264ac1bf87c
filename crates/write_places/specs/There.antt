-- Slots that are there in each struct in front of a path and in the leaf or list behind these.
use Rattle.std.specs.Prelude.{◌≡◌, ℕ, ◌<◌, Bool, true, false, cond, List, [], ◌∷◌, length, slice_index_or}
use Rattle.shredding.specs.Parts.{Part, leaf_part, list_part, struct_part, is_present, slot_count, item_start, item_count}
use Rattle.write_places.specs.declared.there.Masks.{Masks}
use Rattle.write_places.specs.declared.there.Masks.TheVariants.{Nowhere, Sole, Both, Three, InFront}
use Rattle.write_places.specs.Places.{gather, slot_places}

-- the slot at a place is there
abbrev pub is_there : List Part → ℕ → Bool
is_there [] i = false
is_there (leaf_part is_optional mask count ∷ parts) i = is_present is_optional mask i
is_there (list_part is_optional mask offsets ∷ parts) i = is_present is_optional mask i
is_there (struct_part is_optional mask count ∷ parts) i = cond (is_present is_optional mask i) (is_there parts i) false

-- the places that a slot reaches which is there
abbrev pub there_places : List Part → ℕ → List ℕ
there_places [] i = []
there_places (leaf_part is_optional mask count ∷ parts) i = i ∷ []
there_places (list_part is_optional mask offsets ∷ parts) i = gather (slot_places parts) (item_start offsets i) (item_count offsets i)
there_places (struct_part is_optional mask count ∷ parts) i = there_places parts i

-- the masks tell which slots of a path are there
abbrev pub TellThere : List Part → Masks → Type 0
TellThere parts Nowhere = (i : ℕ) → is_there parts i ≡ true
TellThere parts (Sole mask) = (length mask.now ≡ slot_count parts) × ((i : ℕ) → i < slot_count parts → slice_index_or mask.now i false ≡ is_there parts i)
TellThere parts (Both mask beneath) = (length mask.now ≡ slot_count parts) × (length beneath.now ≡ slot_count parts) × ((i : ℕ) → i < slot_count parts → cond (slice_index_or mask.now i false) (slice_index_or beneath.now i false) false ≡ is_there parts i)
TellThere parts (Three mask inner beneath) = (length mask.now ≡ slot_count parts) × (length inner.now ≡ slot_count parts) × (length beneath.now ≡ slot_count parts) × ((i : ℕ) → i < slot_count parts → cond (slice_index_or mask.now i false) (cond (slice_index_or inner.now i false) (slice_index_or beneath.now i false) false) false ≡ is_there parts i)
TellThere parts InFront = Unit {0}
