-- Worked examples: columns of schemas, pieces of groups, and what passes a limit.
use Rattle.std.specs.Prelude.{◌≡◌, ℕ, ℤ, pos, negsuc, codes, List, [], ◌∷◌, map, true, false, Some, None}
use Rattle.columns_core.specs.declared.types.IntegerType.TheVariants as K
use Rattle.columns_core.specs.Tree.{TypeTree, t_int32, t_int64, t_utf8, t_list, t_large_list, t_struct, t_map, t_dictionary, t_extension, FieldTree, field, FieldTrees, no_fields, more_fields}
use Rattle.pq_metadata.specs.Footer.{ChunkMeta, Footer}
use Rattle.pq_files.specs.Carried.{GroupPages}
use Rattle.pq_files.specs.FirstFile.{triples, way}
use Rattle.pq_files.specs.Page.{plain, dictionary, delta}
use Rattle.pq_metadata.specs.Header.{Header, data_page}
use Rattle.pq_tree.specs.Physical.{int32 as p_int32}
use Rattle.pq_tree.specs.Tree.{Leaf, no_trees}
use Rattle.pq_pages.specs.Outcomes.{Outcome, gives_page, gives_dictionary}
use Rattle.shredding.specs.Shape.{Way, at_leaf, in_list, in_struct}
use Rattle.shredding.specs.Shred.{Triple}
use Rattle.shredding.specs.Slot.{Slots, no_slots, slot, null}
use Rattle.pq_headline.specs.Columns.{ArrowColumn, field_columns, schema_columns, is_flat, small_limit, large_limit}
use Rattle.pq_headline.specs.FieldReasons.{HasMisplaced, IsNotReadIn, PassesKeys, PassesLists, items_in, rows_behind}
use Rattle.pq_headline.specs.Output.{chosen}
use Rattle.pq_headline.specs.Rewrites.{Piece, all_pieces}
use Rattle.pq_headline.specs.Stages.{pairs_claimed}

-- ---- columns

abbrev pub may : List ℕ → TypeTree → FieldTree
may name t = field name t true []

abbrev pub must : List ℕ → TypeTree → FieldTree
must name t = field name t false []

-- a required number, and an optional list of optional structs of a required number and an optional large list of required texts
abbrev pub points : FieldTrees
points =
    more_fields (must (codes "n") t_int32)
    (more_fields (may (codes "ps") (t_list (may (codes "item") (t_struct (more_fields (must (codes "x") t_int64) (more_fields (may (codes "ts") (t_large_list (must (codes "t") t_utf8))) no_fields))))))
    no_fields)

-- an optional map from texts to numbers under a name of its own, whose numbers stand in a dictionary
abbrev pub counts : FieldTree
counts = may (codes "m") (t_extension (codes "e") (t_map (must (codes "entries") (t_struct (more_fields (must (codes "k") t_utf8) (more_fields (may (codes "v") (t_dictionary K.Int8 t_int32 false)) no_fields)))) false) None)

pub record ColumnsAreWorked : Type 0 where
  pub nested :
      schema_columns points
      ≡ record { way = in_struct false 0 (at_leaf false); limits = []; data_type = t_int32 }
      ∷ record { way = in_struct false 1 (in_list true (in_struct true 0 (at_leaf false))); limits = small_limit ∷ []; data_type = t_int64 }
      ∷ record { way = in_struct false 1 (in_list true (in_struct true 1 (in_list true (at_leaf false)))); limits = small_limit ∷ large_limit ∷ []; data_type = t_utf8 }
      ∷ []
  pub of_map :
      field_columns counts
      ≡ record { way = in_list true (in_struct false 0 (at_leaf false)); limits = small_limit ∷ []; data_type = t_utf8 }
      ∷ record { way = in_list true (in_struct false 1 (at_leaf true)); limits = small_limit ∷ []; data_type = t_dictionary K.Int8 t_int32 false }
      ∷ []
  -- of these columns the first alone is flat
  pub flat : map is_flat (schema_columns points) ≡ true ∷ false ∷ false ∷ []
  -- a leaf beneath a struct is not
  pub beneath : map is_flat (schema_columns (more_fields (may (codes "s") (t_struct (more_fields (must (codes "x") t_int64) no_fields))) no_fields)) ≡ false ∷ []

abbrev pub a_leaf : Leaf
a_leaf = record { path = []; physical = p_int32 }

abbrev pub a_number : ArrowColumn
a_number = record { way = in_struct false 0 (at_leaf true); limits = []; data_type = t_int32 }

abbrev pub a_nested_number : ArrowColumn
a_nested_number = record { way = in_struct false 0 (in_list true (at_leaf true)); limits = small_limit ∷ []; data_type = t_int32 }

abbrev pub a_key : ArrowColumn
a_key = record { way = in_struct false 0 (at_leaf true); limits = []; data_type = t_dictionary K.Int8 t_int32 false }

pub record EncodingsAreChosen : Type 0 where
  pub by_default : chosen false a_number a_leaf ≡ plain
  pub flat_deltas : chosen true a_number a_leaf ≡ delta
  pub nested_number : chosen true a_nested_number a_leaf ≡ plain
  pub keys : chosen true a_key a_leaf ≡ dictionary

-- ---- pieces

abbrev pub some_group : ℕ → GroupPages
some_group n = record { rows = n; chunks = [] }

-- a row of one field, and one of none
abbrev pub one_row : Slots
one_row = slot null no_slots

abbrev pub other_row : Slots
other_row = no_slots

abbrev pub of_group : ℕ → List Slots → Piece
of_group n rows = record { source = some_group n; rows = rows }

pub record PiecesAreWorked : Type 0 where
  -- each group by itself: no piece has rows of two
  pub twos :
      all_pieces (Some 2) (some_group 3 ∷ some_group 1 ∷ []) ((one_row ∷ other_row ∷ one_row ∷ []) ∷ (other_row ∷ []) ∷ [])
      ≡ of_group 3 (one_row ∷ other_row ∷ []) ∷ of_group 3 (one_row ∷ []) ∷ of_group 1 (other_row ∷ []) ∷ []
  pub wholes : all_pieces None (some_group 3 ∷ some_group 1 ∷ []) ((one_row ∷ other_row ∷ one_row ∷ []) ∷ (other_row ∷ []) ∷ []) ≡ of_group 3 (one_row ∷ other_row ∷ one_row ∷ []) ∷ of_group 1 (other_row ∷ []) ∷ []
  -- a group without rows has none
  pub empty : all_pieces None (some_group 0 ∷ some_group 1 ∷ []) ([] ∷ (other_row ∷ []) ∷ []) ≡ of_group 1 (other_row ∷ []) ∷ []

-- ---- claims

abbrev pub meta_of : ℤ → ChunkMeta
meta_of z = record { file_path = None; physical = pos 1; codec = pos 0; num_values = z; size = pos 0; data_page = pos 4; dictionary_page = None; statistics = None }

abbrev pub some_footer : Footer
some_footer =
    record {
      schema = record { name = []; fields = no_trees };
      groups = record { chunks = meta_of (pos 3) ∷ meta_of (negsuc 4) ∷ meta_of (pos 4) ∷ []; num_rows = pos 2 } ∷ record { chunks = meta_of (pos 1) ∷ []; num_rows = pos 1 } ∷ [];
      keys = [];
    }

-- ---- limits

-- of lists of lists, [[a, b], []]
abbrev pub two_lists : Way
two_lists = in_list false (in_list false (at_leaf false))

abbrev pub pair : ℕ → ℕ → Triple
pair r d = record { repetition = r; definition = d; «value» = None }

abbrev pub list_triples : List Triple
list_triples = pair 0 2 ∷ pair 2 2 ∷ pair 1 1 ∷ []

abbrev pub levels_of : List Triple → List ℕ
levels_of ts = map (λ t. t.definition) ts

pub record LimitsAreWorked : Type 0 where
  -- the rows [1, 2], null, [] and [null] have three items
  pub items : items_in way 1 triples ≡ 3
  pub outer : items_in two_lists 1 list_triples ≡ 2
  pub inner : items_in two_lists 2 list_triples ≡ 2
  pub first : levels_of (rows_behind 0 1 triples) ≡ 3 ∷ 3 ∷ []
  pub later : levels_of (rows_behind 1 2 triples) ≡ 0 ∷ 1 ∷ []
  pub last : levels_of (rows_behind 3 2 triples) ≡ 2 ∷ []
  pub passes : PassesLists way 1 (2 ∷ []) triples
  pub within : ¬ PassesLists way 1 (3 ∷ []) triples
  pub many_keys : PassesKeys (t_dictionary K.Int8 t_int32 false) 129
  pub enough_keys : ¬ PassesKeys (t_dictionary K.Int8 t_int32 false) 128

-- ---- pages

abbrev pub header_in : ℕ → Header
header_in encoding = data_page (record { num_values = 1; encoding = pos encoding; definition_encoding = Some (pos 3); repetition_encoding = Some (pos 3) })

abbrev pub page_in : ℕ → Outcome
page_in encoding = gives_page (record { header = header_in encoding; body = [] }) (record { repetition = 0; definition = 1 })

pub record PagesAreWorked : Type 0 where
  -- a dictionary page behind a data page, and indices without one
  pub behind : HasMisplaced (page_in 0 ∷ gives_dictionary 1 [] ∷ [])
  pub none : HasMisplaced (page_in 8 ∷ [])
  pub in_front : ¬ HasMisplaced (gives_dictionary 1 [] ∷ [])
  -- keys in plain spelling, and deltas beneath a list
  pub plain_keys : IsNotReadIn a_key (header_in 0)
  pub nested_deltas : IsNotReadIn (record { way = in_list true (at_leaf true); limits = small_limit ∷ []; data_type = t_int32 }) (header_in 5)
  pub plain_numbers : ¬ IsNotReadIn (record { way = at_leaf true; limits = []; data_type = t_int32 }) (header_in 0)

-- ---- all

pub record AreWorked : Type 0 where
  pub columns : ColumnsAreWorked
  pub encodings : EncodingsAreChosen
  pub pieces : PiecesAreWorked
  -- a negative number counts as 0
  pub claims : pairs_claimed some_footer ≡ 8
  pub limits : LimitsAreWorked
  pub pages : PagesAreWorked
