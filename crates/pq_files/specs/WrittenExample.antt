-- The file that is written for the first file, in version 1, without statistics and without a key.
use Rattle.std.specs.Prelude.{ℕ, Some, None, List, [], ◌∷◌, ◌++◌, length, ◌≡◌}
use Rattle.pq_tree.specs.declared.version.Version.TheVariants.{V1}
use Rattle.pq_files.specs.Layout.{OutPage, OutChunk, OutGroup}
use Rattle.pq_files.specs.Packed.{Packed}
use Rattle.pq_files.specs.Page.{plain}
use Rattle.pq_metadata.specs.Frame.{magic}
use Rattle.pq_tree.specs.Physical.{int32}
use Rattle.pq_files.specs.FirstFile.{head, body, node, triples}
use Rattle.pq_tree.specs.Tree.{Schema, leaf, group, no_trees, tree}
use Rattle.pq_tree.specs.Types.{optional, repeated, Converted, Logical, Info}

abbrev pub footer : List ℕ
footer =
    21 ∷ 2 ∷ 25 ∷ 76 ∷ 72 ∷ 4 ∷ 114 ∷ 111 ∷ 111 ∷ 116 ∷ 21 ∷ 2 ∷ 0 ∷ 53 ∷ 2 ∷ 24 ∷ 1 ∷ 97 ∷ 21 ∷ 2 ∷
    21 ∷ 6 ∷ 76 ∷ 60 ∷ 0 ∷ 0 ∷ 0 ∷ 53 ∷ 4 ∷ 24 ∷ 4 ∷ 108 ∷ 105 ∷ 115 ∷ 116 ∷ 21 ∷ 2 ∷ 0 ∷ 21 ∷ 2 ∷
    37 ∷ 2 ∷ 24 ∷ 7 ∷ 101 ∷ 108 ∷ 101 ∷ 109 ∷ 101 ∷ 110 ∷ 116 ∷ 0 ∷ 22 ∷ 8 ∷ 25 ∷ 28 ∷ 25 ∷ 28 ∷ 38 ∷ 8 ∷
    28 ∷ 21 ∷ 2 ∷ 25 ∷ 37 ∷ 0 ∷ 6 ∷ 25 ∷ 56 ∷ 1 ∷ 97 ∷ 4 ∷ 108 ∷ 105 ∷ 115 ∷ 116 ∷ 7 ∷ 101 ∷ 108 ∷ 101 ∷
    109 ∷ 101 ∷ 110 ∷ 116 ∷ 21 ∷ 0 ∷ 22 ∷ 10 ∷ 22 ∷ 76 ∷ 22 ∷ 76 ∷ 38 ∷ 8 ∷ 0 ∷ 0 ∷ 22 ∷ 76 ∷ 22 ∷ 8 ∷
    38 ∷ 8 ∷ 22 ∷ 76 ∷ 20 ∷ 0 ∷ 0 ∷ 40 ∷ 44 ∷ 65 ∷ 114 ∷ 114 ∷ 111 ∷ 119 ∷ 50 ∷ 32 ∷ 45 ∷ 32 ∷ 78 ∷ 97 ∷
    116 ∷ 105 ∷ 118 ∷ 101 ∷ 32 ∷ 82 ∷ 117 ∷ 115 ∷ 116 ∷ 32 ∷ 105 ∷ 109 ∷ 112 ∷ 108 ∷ 101 ∷ 109 ∷ 101 ∷ 110 ∷ 116 ∷ 97 ∷
    116 ∷ 105 ∷ 111 ∷ 110 ∷ 32 ∷ 111 ∷ 102 ∷ 32 ∷ 65 ∷ 114 ∷ 114 ∷ 111 ∷ 119 ∷ 25 ∷ 28 ∷ 28 ∷ 0 ∷ 0 ∷ 0 ∷ []

-- pages and a footer of so many bytes, below 256, in a frame
abbrev pub file_of : ℕ → List ℕ → List ℕ → List ℕ
file_of n pages said = magic ++ (pages ++ (said ++ (n ∷ 0 ∷ 0 ∷ 0 ∷ magic)))

abbrev pub file : List ℕ
file = file_of 159 (head ++ body) footer

abbrev pub list_node : Info
list_node = record { name = 97 ∷ []; repetition = optional; id = None; converted = Some Converted.list; logical = Some Logical.list }

abbrev pub schema : Schema
schema =
    record {
      name = 114 ∷ 111 ∷ 111 ∷ 116 ∷ [];
      fields =
          tree
          (group
          list_node
          (tree
          (group
          (node (108 ∷ 105 ∷ 115 ∷ 116 ∷ []) repeated None)
          (tree (leaf (node (101 ∷ 108 ∷ 101 ∷ 109 ∷ 101 ∷ 110 ∷ 116 ∷ []) optional None) int32) no_trees))
          no_trees))
          no_trees;
    }

abbrev pub out_page : OutPage
out_page = record { triples = triples; encoding = plain; statistics = None }

abbrev pub out_chunk : OutChunk
out_chunk = record { entries = None; pages = out_page ∷ []; statistics = None }

abbrev pub out_groups : List OutGroup
out_groups = record { rows = 4; chunks = out_chunk ∷ [] } ∷ []

pub record IsPacked : Type 0 where
  pub size : length file ≡ 209
  pub packed : Packed file schema [] V1 out_groups
