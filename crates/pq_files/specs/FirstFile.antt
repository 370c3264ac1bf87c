-- The first file: one column, an optional list of optional numbers, in one page of version 1.
use Rattle.std.specs.Prelude.{ℕ, pos, true, Option, Some, None, List, [], ◌∷◌, ◌++◌, length, ◌≡◌}
use Rattle.shredding.specs.Shape.{Shape, list, leaf as leaf_of, signed, Way, in_list, at_leaf}
use Rattle.shredding.specs.Shred.{Triple, column}
use Rattle.shredding.specs.Slot.{number, Slot, null, value, items, slots_of}
use Rattle.pq_files.specs.Carried.{Carried, Group}
use Rattle.pq_metadata.specs.Frame.{magic}
use Rattle.pq_tree.specs.Physical.{int32}
use Rattle.pq_tree.specs.Tree.{Schema, Leaf, leaf, group, no_trees, tree}
use Rattle.pq_tree.specs.Types.{Repetition, optional, repeated, Converted, Info}

-- the page's header: version 1, 21 bytes, five pairs, plain, levels in runs
abbrev pub head : List ℕ
head =
    21 ∷ 0 ∷ 21 ∷ 42 ∷ 21 ∷ 42 ∷ 44 ∷ 21 ∷ 10 ∷ 21 ∷ 0 ∷ 21 ∷ 6 ∷ 21 ∷ 6 ∷ 0 ∷ 0 ∷ []

-- its body: the repetition levels 0, 1, 0, 0, 0 behind their length, the definition levels 3, 3, 0, 1, 2 behind theirs, and the values 1 and 2
abbrev pub body : List ℕ
body =
    2 ∷ 0 ∷ 0 ∷ 0 ∷ 3 ∷ 2 ∷ 3 ∷ 0 ∷ 0 ∷ 0 ∷ 3 ∷ 79 ∷ 2 ∷ 1 ∷ 0 ∷ 0 ∷ 0 ∷ 2 ∷ 0 ∷ 0 ∷
    0 ∷ []

abbrev pub footer : List ℕ
footer =
    21 ∷ 2 ∷ 25 ∷ 76 ∷ 72 ∷ 1 ∷ 114 ∷ 21 ∷ 2 ∷ 0 ∷ 53 ∷ 2 ∷ 24 ∷ 1 ∷ 97 ∷ 21 ∷ 2 ∷ 21 ∷ 6 ∷ 0 ∷
    53 ∷ 4 ∷ 24 ∷ 4 ∷ 108 ∷ 105 ∷ 115 ∷ 116 ∷ 21 ∷ 2 ∷ 0 ∷ 21 ∷ 2 ∷ 37 ∷ 2 ∷ 24 ∷ 7 ∷ 101 ∷ 108 ∷ 101 ∷
    109 ∷ 101 ∷ 110 ∷ 116 ∷ 0 ∷ 22 ∷ 8 ∷ 25 ∷ 28 ∷ 25 ∷ 28 ∷ 38 ∷ 8 ∷ 28 ∷ 21 ∷ 2 ∷ 25 ∷ 37 ∷ 0 ∷ 6 ∷
    25 ∷ 56 ∷ 1 ∷ 97 ∷ 4 ∷ 108 ∷ 105 ∷ 115 ∷ 116 ∷ 7 ∷ 101 ∷ 108 ∷ 101 ∷ 109 ∷ 101 ∷ 110 ∷ 116 ∷ 21 ∷ 0 ∷ 22 ∷
    10 ∷ 22 ∷ 76 ∷ 22 ∷ 76 ∷ 38 ∷ 8 ∷ 0 ∷ 0 ∷ 22 ∷ 76 ∷ 22 ∷ 8 ∷ 0 ∷ 0 ∷ []

-- pages and a footer of 95 bytes in a frame
abbrev pub file_of : List ℕ → List ℕ → List ℕ
file_of pages said = magic ++ (pages ++ (said ++ (95 ∷ 0 ∷ 0 ∷ 0 ∷ magic)))

abbrev pub file : List ℕ
file = file_of (head ++ body) footer

abbrev pub node : List ℕ → Repetition → Option Converted → Info
node name repetition converted = record { name = name; repetition = repetition; id = None; converted = converted; logical = None }

abbrev pub schema : Schema
schema =
    record {
      name = 114 ∷ [];
      fields =
          tree
          (group
          (node (97 ∷ []) optional (Some Converted.list))
          (tree
          (group
          (node (108 ∷ 105 ∷ 115 ∷ 116 ∷ []) repeated None)
          (tree (leaf (node (101 ∷ 108 ∷ 101 ∷ 109 ∷ 101 ∷ 110 ∷ 116 ∷ []) optional None) int32) no_trees))
          no_trees))
          no_trees;
    }

-- its only leaf
abbrev pub the_leaf : Leaf
the_leaf = record { path = node (97 ∷ []) optional (Some Converted.list) ∷ node (108 ∷ 105 ∷ 115 ∷ 116 ∷ []) repeated None ∷ node (101 ∷ 108 ∷ 101 ∷ 109 ∷ 101 ∷ 110 ∷ 116 ∷ []) optional None ∷ []; physical = int32 }

-- an optional list of optional numbers
abbrev pub field : Shape
field = list true (leaf_of true (signed 32))

abbrev pub way : Way
way = in_list true (at_leaf true)

abbrev pub one_number : ℕ → Slot
one_number n = value (number (pos n))

abbrev pub rows : List Slot
rows = items (slots_of (one_number 1 ∷ one_number 2 ∷ [])) ∷ null ∷ items (slots_of []) ∷ items (slots_of (null ∷ [])) ∷ []

abbrev pub triples : List Triple
triples = column way rows

abbrev pub groups : List Group
groups = record { rows = 4; columns = record { entries = None; triples = triples } ∷ [] } ∷ []

-- its 145 bytes carry the rows [1, 2], null, [] and [null]
pub record IsCarried : Type 0 where
  pub size : length file ≡ 145
  pub carried : Carried file schema [] groups
