-- A column with all its rows, and what is known of its values and of those of its pages.
use Rattle.std.specs.Prelude.{◌≡◌, ◌≤◌, ℕ, Bool, true, false, List, length, take, option_map, All, IfSome}
use Rattle.shredding.specs.Parts.{Part, path_way, slot_count}
use Rattle.shredding.specs.Shred.{Triple, column}
use Rattle.columns_array.specs.Boxed.{boxed}
use Rattle.columns_core.specs.Shapes.{base, leaf_type}
use Rattle.columns_slots.specs.Slots.{cut, type_of}
use Rattle.columns_slots.specs.Tree.{ArrayTree}
use Rattle.columns_slots.specs.Types.{is_null_type}
use Rattle.joined_statistics.specs.Told.{AreTold}
use Rattle.levels.specs.Nested.{parts_of}
use Rattle.nested_slice.specs.CutPath.{cut_parts, leaf_rows}
use Rattle.page_statistics.specs.Stated.{AreStated}
use Rattle.pq_files.specs.Room.{max_count}
use Rattle.pq_tree.specs.Physical.{Physical}
use Rattle.pq_tree.specs.Views.{statistics_view}
use Rattle.write_values.specs.declared.known.Known.{Known}
use Rattle.write_values.specs.Known.{AreKnown}
use Rattle.write_values.specs.Nulls.{TellsNulls}
use Rattle.write_pages.specs.declared.cut_column.CutColumn.{CutColumn}
use Rattle.write_pages.specs.CutColumns.{IsCutColumn}
use Rattle.write_pages.specs.declared.known_column.KnownColumn.{KnownColumn}
use Rattle.write_pages.specs.declared.known_pages.FoundStatistics.{FoundStatistics}
use Rattle.write_pages.specs.declared.known_pages.JoinedPages.{JoinedPages}
use Rattle.write_pages.specs.declared.known_pages.KnownPage.{KnownPage}
use Rattle.write_pages.specs.Holds.{rows_of}

-- This is known of the values of n of the rows from row o on of a path over its leaf array, whose nulls its masks tell.
pub record IsKnownRows (wanted : Bool) (a : ArrayTree) (parts : List Part) (p : Physical) (o n : ℕ) (known : Known) : Type 0 where
  pub rows : CutColumn
  pub tree : boxed rows.array ≡ cut a (leaf_rows parts o n).0 (leaf_rows parts o n).1
  pub path : parts_of rows.nested.items ≡ cut_parts parts o n
  pub has_values : is_null_type (base (type_of a)) ≡ false
  pub are_known : AreKnown wanted (boxed rows.array) p rows.nested.items known

-- a page of these rows, if what is known of it is kept
abbrev pub IsKnownPage : Bool → ArrayTree → List Part → Physical → KnownPage → Type 0
IsKnownPage wanted a parts p k = IfSome k.known (IsKnownRows wanted a parts p k.first k.count)

-- the triples of all rows of a column
abbrev pub all_triples : ArrayTree → List Part → List Triple
all_triples a parts = column (path_way parts) (rows_of parts a)

-- Pages of a column up to a row, and the statistics of all rows before it, where a file counts their pairs.
pub record AreJoined (a : ArrayTree) (parts : List Part) (p : Physical) (next : ℕ) (j : JoinedPages) : Type 0 where
  pub pages : All (IsKnownPage true a parts p) j.pages.items
  pub told : length (column (path_way parts) (take next (rows_of parts a))) ≤ max_count → AreTold (leaf_type (type_of a)) p (column (path_way parts) (take next (rows_of parts a))) (statistics_view j.statistics)

-- The statistics of a column where they are wanted, and pages of it.
pub record AreFound (wanted : Bool) (a : ArrayTree) (parts : List Part) (p : Physical) (f : FoundStatistics) : Type 0 where
  pub pages : All (IsKnownPage wanted a parts p) f.pages.items
  pub stated : AreStated wanted (leaf_type (type_of a)) p (all_triples a parts) (option_map statistics_view f.statistics)

-- They are all rows of the path over its leaf array, whose nulls its masks tell, and this is known of their values.
pub record IsKnown (wanted : Bool) (a : ArrayTree) (parts : List Part) (p : Physical) (k : KnownColumn) : Type 0 where
  pub all : IsCutColumn a parts 0 (slot_count parts) k.rows
  pub told : TellsNulls (boxed k.rows.array) (parts_of k.rows.nested.items)
  pub are_known : AreKnown wanted (boxed k.rows.array) p k.rows.nested.items k.known
  pub pages : All (IsKnownPage wanted a parts p) k.pages.items
