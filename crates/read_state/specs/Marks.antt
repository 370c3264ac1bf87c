-- The pairs of a block as marks.
use Rattle.std.specs.Prelude.{ℕ, Bool, false, cond, not, ◌&&◌, nat_lt, List, [], ◌∷◌, slice_index, slice_index_or}
use Rattle.read_laws.specs.Block.{Mark, marks_part}
use Rattle.read_laws.specs.Step.{pushes}

abbrev pub marks_of : List ℕ → List ℕ → List Bool → List Mark
marks_of (r ∷ rs) (d ∷ ds) (h ∷ hs) = record { repetition = r; definition = d; hidden = h } ∷ marks_of rs ds hs
marks_of _ _ _ = []

-- whether pair k pushes beneath a null of a part that is nullable or a struct
abbrev pub hides_at : List ℕ → List ℕ → List Bool → ℕ → ℕ → Bool → Bool → ℕ → Bool
hides_at reps defs hidden depth def nullable required k =
    pushes (slice_index reps k) (slice_index defs k) (slice_index_or hidden k false) depth def && (required && not (nullable && nat_lt def (slice_index defs k)))

-- the validities of the pairs that push to a nullable part
abbrev pub validities : ℕ → ℕ → List Mark → List Bool
validities depth def [] = []
validities depth def (m ∷ ms) = cond (marks_part depth def m) (nat_lt def m.definition ∷ validities depth def ms) (validities depth def ms)
