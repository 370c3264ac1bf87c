-- The dictionary of a column (Arrow columnar format, "Dictionary-encoded Layout"; Parquet format, "Dictionary Page").
use Rattle.std.specs.Prelude.{Bool, true, false, Option, Some, None, List, ◌∷◌, map}
use Rattle.shredding.specs.Shape.{LeafType}
use Rattle.shredding.specs.Shred.{Triple}
use Rattle.shredding.specs.Slot.{Slot, Value}
use Rattle.columns_entries.specs.Entries.{entries_of}
use Rattle.columns_slots.specs.Tree.{ArrayTree, dictionary_array}
use Rattle.pq_tree.specs.Footers.{ChunkStatistics}
use Rattle.pq_tree.specs.Physical.{Physical}
use Rattle.page_statistics.specs.Stated.{AreStated}
use Rattle.dictionary_pages.specs.Entries.{AreTooLarge, stored_entry}
use Rattle.dictionary_pages.specs.Pages.{AreStatedBy}

-- the entries of a column's dictionary, each with a value or null, if it has a dictionary
abbrev pub Entries : Type 0
Entries = Option (List (Option Value))

abbrev pub leaf_entries : ArrayTree → Entries
leaf_entries (dictionary_array t ks c m) = Some (entries_of c)
leaf_entries a = None

-- what stands for them in the dictionary page
abbrev pub stored_list : LeafType → Physical → Entries → Option (List Value)
stored_list t p None = None
stored_list t p (Some es) = Some (map (stored_entry t p) es)

-- the room of the dictionary page passes the sizes of a header
abbrev pub IsDictionaryPastRoom : LeafType → Physical → Entries → Type 0
IsDictionaryPastRoom t p None = ⊥
IsDictionaryPastRoom t p (Some es) = AreTooLarge p (map (stored_entry t p) es)

-- what is stated of the column of these triples: its bounds are those of the dictionary's entries, or of its values
abbrev pub AreStatedWith : Bool → LeafType → Physical → Entries → List Triple → Option ChunkStatistics → Type 0
AreStatedWith wanted t p None ts stated = AreStated wanted t p ts stated
AreStatedWith wanted t p (Some es) ts stated = AreStatedBy wanted t p es ts stated

-- whether a dictionary page is to come before the pages of these rows: of no rows there is none
abbrev pub owes_page : Entries → List Slot → Bool
owes_page (Some es) (row ∷ rows) = true
owes_page entries rows = false
