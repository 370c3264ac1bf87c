-- What a stretch of equal level pairs makes of a state.
use Rattle.std.specs.Prelude.{◌≡◌, ◌⊎◌, ℕ, zero, suc, ◌+◌, ◌-◌, ◌<◌, ◌≤◌, Bool, true, false, cond, not, ◌&&◌, ◌||◌, nat_le, nat_lt, is_some, Option, Some, None, List, [], ◌∷◌, ◌++◌, length, replicate, slice_index}
use Rattle.shredding.specs.Slot.{Value, Slot, null, value}
use Rattle.shredding.specs.Shape.{Way, at_leaf, in_list, in_struct}
use Rattle.shredding.specs.Parts.{keeps}
use Rattle.read_laws.specs.State.{Kept, kept_leaf, kept_list, kept_struct, count}

abbrev pub bit : Bool → ℕ
bit b = cond b 1 0

-- whether a pair pushes to a part: beneath a null struct that it pushed each pair does, and else one that is neither too deep nor too low
abbrev pub pushes : ℕ → ℕ → Bool → ℕ → ℕ → Bool
pushes rep level beneath_null depth def = beneath_null || (nat_le rep depth && nat_le def level)

-- so many equal validities more, where the part has any
abbrev pub grown : Option (List Bool) → ℕ → Bool → Option (List Bool)
grown None m v = None
grown (Some bits) m v = Some (bits ++ replicate m v)

-- m numbers from the first on, each so much above the one before
unfoldable pub rising : ℕ → ℕ → ℕ → List ℕ
rising first by zero = []
rising first by (suc m) = first ∷ rising (first + by) by m

-- m pushes of one kind: the length of the part beneath at the first, by how much it grew between them, and whether the slots are there
abbrev pub pushed : Kept → ℕ → ℕ → Bool → ℕ → Kept
pushed (kept_leaf n c) first by v m = kept_leaf n (c + m)
pushed (kept_list mask starts) first by v m = kept_list (grown mask m v) (starts ++ rising first by m)
pushed (kept_struct mask c) first by v m = kept_struct (grown mask m v) (c + m)

abbrev pub is_nullable : Kept → Bool
is_nullable (kept_leaf n c) = n
is_nullable (kept_list m starts) = is_some m
is_nullable (kept_struct m c) = is_some m

abbrev pub is_list : Kept → Bool
is_list (kept_list m starts) = true
is_list _ = false

abbrev pub is_struct : Kept → Bool
is_struct (kept_struct m c) = true
is_struct _ = false

-- the definition levels that a part adds
abbrev pub gain : Kept → ℕ
gain k = bit (is_nullable k) + bit (is_list k)

-- the slots of a nullable part are there where the pair defines more than the parts above
abbrev pub is_there : Kept → ℕ → ℕ → Bool
is_there k level def = is_nullable k && nat_lt def level

-- whether what is pushed to the part beneath lies beneath a struct's null
abbrev pub hides : Kept → ℕ → ℕ → Bool
hides k level def = is_struct k && not (is_there k level def)

-- by how much the part beneath grows with each pair
abbrev pub growth : ℕ → ℕ → Kept → ℕ → ℕ → ℕ
growth rep level k depth def = bit (pushes rep level false (depth + bit (is_list k)) (def + gain k))

-- what m equal pairs make of a state, from a part on that lies beneath depth lists and def definition levels
unfoldable pub step : ℕ → ℕ → ℕ → Bool → ℕ → ℕ → List Kept → List Kept
step m rep level beneath_null depth def [] = []
step m rep level beneath_null depth def (k ∷ ks) =
    cond (pushes rep level beneath_null depth def)
    (pushed k (count ks) (growth rep level k depth def) (is_there k level def) m ∷ step m rep level (hides k level def) (depth + bit (is_list k)) (def + gain k) ks)
    (k ∷ step m rep level false (depth + bit (is_list k)) (def + gain k) ks)

-- the largest definition level from a part on
abbrev pub top_level : ℕ → List Kept → ℕ
top_level def [] = def
top_level def (k ∷ ks) = top_level (def + gain k) ks

-- the number of lists from a part on
abbrev pub top_depth : List Kept → ℕ
top_depth [] = 0
top_depth (k ∷ ks) = bit (is_list k) + top_depth ks

-- whether the leaf is nullable
abbrev pub leaf_nullable : List Kept → Bool
leaf_nullable [] = false
leaf_nullable (kept_leaf n c ∷ ks) = n
leaf_nullable (kept_list m starts ∷ ks) = leaf_nullable ks
leaf_nullable (kept_struct m c ∷ ks) = leaf_nullable ks

-- A pair of a repetition level above depth goes on with the last slot: the lists down to that level have items, and the pair reaches into
-- the deepest of them.
abbrev pub Continues : ℕ → ℕ → ℕ → ℕ → List Kept → Type 0
Continues rep level depth def [] = ⊥
Continues rep level depth def (kept_leaf n c ∷ ks) = ⊥
Continues rep level depth def (kept_list m starts ∷ ks) =
    (0 < length starts) × (keeps m (length starts - 1) ≡ true) × (slice_index starts (length starts - 1) < count ks) × (def + gain (kept_list m starts) ≤ level) × (depth + 1 < rep → Continues rep level (depth + 1) (def + gain (kept_list m starts)) ks)
Continues rep level depth def (kept_struct m c ∷ ks) =
    (0 < c) × (keeps m (c - 1) ≡ true) × Continues rep level (depth + bit (is_list (kept_struct m c))) (def + gain (kept_struct m c)) ks

-- What a pair of this definition level gives at a leaf, whose next slot is s: at the greatest level a value, else none. A null slot is
-- pushed where only the leaf's own level is missing.
abbrev pub LeafGives : Bool → ℕ → ℕ → Slot → Option Value → Type 0
LeafGives n level top s None = (level < top) × (level + bit n ≡ top → s ≡ null)
LeafGives n level top s (Some v) = (level ≡ top) × (s ≡ value v)

-- The last slot of a state ends at a definition level: that of the last pair taken. At the leaf any level will do.
abbrev pub Ended : ℕ → ℕ → List Kept → Type 0
Ended level def [] = ⊥
Ended level def (kept_leaf n c ∷ ks) = (0 < c) × (def ≤ level)
Ended level def (kept_list m starts ∷ ks) =
    (0 < length starts) × (((keeps m (length starts - 1) ≡ true) × (((slice_index starts (length starts - 1) ≡ count ks) × (level ≡ def + bit (is_some m))) ⊎ ((slice_index starts (length starts - 1) < count ks) × Ended level (def + gain (kept_list m starts)) ks))) ⊎ ((keeps m (length starts - 1) ≡ false) × (level ≡ def)))
Ended level def (kept_struct m c ∷ ks) =
    (0 < c) × (((keeps m (c - 1) ≡ true) × Ended level (def + gain (kept_struct m c)) ks) ⊎ ((keeps m (c - 1) ≡ false) × (level ≡ def)))

-- a definition level reaches into an item of the list of a repetition level
abbrev pub Reaches : ℕ → ℕ → ℕ → ℕ → List Kept → Type 0
Reaches rep level depth def [] = ⊥
Reaches rep level depth def (kept_leaf n c ∷ ks) = ⊥
Reaches rep level depth def (kept_list m starts ∷ ks) = (def + gain (kept_list m starts) ≤ level) × (depth + 1 < rep → Reaches rep level (depth + 1) (def + gain (kept_list m starts)) ks)
Reaches rep level depth def (kept_struct m c ∷ ks) = Reaches rep level (depth + bit (is_list (kept_struct m c))) (def + gain (kept_struct m c)) ks

-- whether a pair pushes to the leaf of a way
abbrev pub leaf_pushes : ℕ → ℕ → Bool → ℕ → ℕ → Way → Bool
leaf_pushes rep level beneath_null depth def (at_leaf n) = pushes rep level beneath_null depth def
leaf_pushes rep level beneath_null depth def (in_list n w) = leaf_pushes rep level false (depth + 1) (def + (bit n + 1)) w
leaf_pushes rep level beneath_null depth def (in_struct n i w) =
    leaf_pushes rep level (pushes rep level beneath_null depth def && not (n && nat_lt def level)) (depth + 0) (def + (bit n + 0)) w

-- whether the leaf of a way is nullable
abbrev pub way_nullable : Way → Bool
way_nullable (at_leaf n) = n
way_nullable (in_list n w) = way_nullable w
way_nullable (in_struct n i w) = way_nullable w
