-- What the lists of a path span.
use Rattle.std.specs.Prelude.{ℕ, ◌+◌, List, [], ◌∷◌, slice_index}
use Rattle.shredding.specs.Parts.{Part, leaf_part, list_part, struct_part, item_span}

-- the number of slots of the last leaf
abbrev pub leaf_count_or : ℕ → List Part → ℕ
leaf_count_or none [] = none
leaf_count_or none (leaf_part is_optional mask count ∷ parts) = leaf_count_or count parts
leaf_count_or none (list_part is_optional mask offsets ∷ parts) = leaf_count_or none parts
leaf_count_or none (struct_part is_optional mask count ∷ parts) = leaf_count_or none parts

-- the first offset of the deepest list and the places that its offsets span
abbrev pub deepest_or : ℕ × ℕ → List Part → ℕ × ℕ
deepest_or none [] = none
deepest_or none (leaf_part is_optional mask count ∷ parts) = deepest_or none parts
deepest_or none (list_part is_optional mask offsets ∷ parts) = deepest_or (slice_index offsets 0, item_span offsets) parts
deepest_or none (struct_part is_optional mask count ∷ parts) = deepest_or none parts

-- the place and the number of the leaf's slots that a path reaches: what its deepest list spans, or the whole leaf where there is no list
abbrev pub leaf_range : List Part → ℕ × ℕ
leaf_range parts = deepest_or (0, leaf_count_or 0 parts) parts

-- what all lists span together
abbrev pub span_sum : List Part → ℕ
span_sum [] = 0
span_sum (leaf_part is_optional mask count ∷ parts) = span_sum parts
span_sum (list_part is_optional mask offsets ∷ parts) = item_span offsets + span_sum parts
span_sum (struct_part is_optional mask count ∷ parts) = span_sum parts
