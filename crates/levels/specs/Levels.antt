-- The level pairs of a path by a recursion over parts and places, which makes no slots. A pair is a repetition and a definition level.
use Rattle.std.specs.Prelude.{ℕ, zero, suc, ◌+◌, Bool, cond, List, [], ◌∷◌, ◌++◌}
use Rattle.shredding.specs.Parts.{Part, leaf_part, list_part, struct_part, is_present, item_start, item_count, slot_count}

-- what a definition level gains where a part is optional
abbrev pub bit : Bool → ℕ
bit b = cond b 1 0

-- count slots from place on: the first with repetition first, the others with repetition others
unfoldable pub run : {A : Type 0} → (ℕ → ℕ → List A) → ℕ → ℕ → ℕ → ℕ → List A
run piece first others place zero = []
run piece first others place (suc count) = piece first place ++ run piece others others (place + 1) count

-- what stands for the items of a list, or for the lack of any
unfoldable pub run_or : {A : Type 0} → A → (ℕ → ℕ → List A) → ℕ → ℕ → ℕ → ℕ → List A
run_or empty piece first others place zero = empty ∷ []
run_or empty piece first others place (suc count) = run piece first others place (suc count)

abbrev pub one_pair : ℕ → ℕ → List (ℕ × ℕ)
one_pair rep def = (rep, def) ∷ []

-- the pairs of the slot at a place of a path, beneath def definition levels and depth lists
unfoldable pub slot_pairs : List Part → ℕ → ℕ → ℕ → ℕ → List (ℕ × ℕ)
slot_pairs [] def depth rep i = one_pair rep def
slot_pairs (leaf_part is_optional mask count ∷ parts) def depth rep i =
    cond (is_present is_optional mask i) (one_pair rep (def + bit is_optional)) (one_pair rep def)
slot_pairs (list_part is_optional mask offsets ∷ parts) def depth rep i =
    cond (is_present is_optional mask i)
    (run_or (rep, def + bit is_optional) (slot_pairs parts (def + bit is_optional + 1) (depth + 1)) rep (depth + 1) (item_start offsets i) (item_count offsets i))
    (one_pair rep def)
slot_pairs (struct_part is_optional mask count ∷ parts) def depth rep i =
    cond (is_present is_optional mask i) (slot_pairs parts (def + bit is_optional) depth rep i) (one_pair rep def)

-- the pairs of all slots of a path
unfoldable pub path_pairs : List Part → List (ℕ × ℕ)
path_pairs parts = run (slot_pairs parts 0 0) 0 0 0 (slot_count parts)
