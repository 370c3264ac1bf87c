-- How many items the lists of a state have (Arrow columnar format, "Variable-size List Layout").
use Rattle.std.specs.Prelude.{◌≡◌, ℕ, zero, suc, List, [], ◌∷◌, map}
use Rattle.shredding.specs.Shape.{Way}
use Rattle.shredding.specs.Shred.{Triple, max_repetition}
use Rattle.read_laws.specs.Block.{walk}
use Rattle.read_laws.specs.Blocks.{mark_of}
use Rattle.read_laws.specs.State.{Kept, kept_leaf, kept_list, kept_struct, count}
use Rattle.read_pieces.specs.Pieces.{empty_state}
use Rattle.pq_headline.specs.FieldReasons.{items_in}

-- of each list of a state, the outermost first, the slots of the part beneath it
abbrev pub list_counts : List Kept → List ℕ
list_counts [] = []
list_counts (kept_leaf n c ∷ ks) = list_counts ks
list_counts (kept_list m starts ∷ ks) = count ks ∷ list_counts ks
list_counts (kept_struct m c ∷ ks) = list_counts ks

-- of n lists of a way, from the r-th on, the items that triples begin in them
abbrev pub items_from : ℕ → ℕ → Way → List Triple → List ℕ
items_from zero r w ts = []
items_from (suc n) r w ts = items_in w r ts ∷ items_from n (suc r) w ts

-- the lists of a state that was built from the pairs of triples have the items that the triples begin
abbrev pub ItemsAreCounted : Type 0
ItemsAreCounted = (w : Way) (ts : List Triple) → list_counts (walk (map mark_of ts) (empty_state w)) ≡ items_from (max_repetition w) 1 w ts
