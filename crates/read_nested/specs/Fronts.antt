-- Columns that agree build the same parts as far as their ways go together (Dremel paper, section 4.3).
use Rattle.std.specs.Prelude.{◌≡◌, ℕ, ◌+◌, Bool, List, map, length, take}
use Rattle.shredding.specs.Shape.{Way, in_struct}
use Rattle.shredding.specs.Share.{ColumnsAgree}
use Rattle.shredding.specs.Shred.{Triple}
use Rattle.read_laws.specs.Block.{walk}
use Rattle.read_laws.specs.Blocks.{mark_of}
use Rattle.read_laws.specs.State.{Kept}
use Rattle.read_pieces.specs.Pieces.{empty_state}
use Rattle.read_nested.specs.Above.{Above, way_beneath}

-- the parts that the triples of a way build
abbrev pub built : Way → List Triple → List Kept
built w ts = walk (map mark_of ts) (empty_state w)

-- the same parts down to the struct where the ways part, that struct with them
abbrev pub FrontsAgree : Type 0
FrontsAgree =
    (above : List Above) (n : Bool) (i j : ℕ) (w v : Way) (ts us : List Triple) →
    (i ≡ j → ⊥) → ColumnsAgree (way_beneath above (in_struct n i w)) (way_beneath above (in_struct n j v)) ts us →
    take (length above + 1) (built (way_beneath above (in_struct n i w)) ts) ≡ take (length above + 1) (built (way_beneath above (in_struct n j v)) us)
