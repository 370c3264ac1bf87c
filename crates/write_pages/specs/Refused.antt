-- Why a page is refused.
use Rattle.std.specs.Prelude.{◌≡◌, ◌⊎◌, ◌<◌, ◌≤◌, ℕ, suc, true, false, cond, Option, Some, None, List, [], ◌∷◌, length, map, Result, Ok, Err}
use Rattle.shredding.specs.Parts.{Part, path_way}
use Rattle.shredding.specs.Shape.{LeafType}
use Rattle.shredding.specs.Shred.{column}
use Rattle.shredding.specs.Slot.{Slot, Value}
use Rattle.columns_base.specs.declared.error.Error.{Error}
use Rattle.columns_base.specs.declared.error.Error.TheVariants.{Memory, Overflow, InvalidArgumentError, NotYetImplemented}
use Rattle.columns_base.specs.declared.error.A.TheVariants.{A7, A8}
use Rattle.columns_base.specs.declared.error.N.TheVariants.{N4, N5}
use Rattle.columns_base.specs.declared.error.V.TheVariants.{V3}
use Rattle.columns_core.specs.Shapes.{base, leaf_type}
use Rattle.columns_core.specs.Tree.{TypeTree}
use Rattle.columns_slots.specs.Slots.{type_of}
use Rattle.columns_slots.specs.Tree.{ArrayTree}
use Rattle.levels.specs.InBounds.{IsInBounds}
use Rattle.pq_tree.specs.declared.types.Encoding.{Encoding}
use Rattle.pq_tree.specs.declared.types.PrimitiveType.{PrimitiveType}
use Rattle.pq_tree.specs.Physical.{Physical}
use Rattle.pq_tree.specs.TreeViews.{leaf_view}
use Rattle.pq_tree.specs.Views.{physical_view}
use Rattle.pq_files.specs.Layout.{plain_length}
use Rattle.pq_files.specs.Room.{room, max_size}
use Rattle.pq_pages.specs.Denotes.{IsDictFor}
use Rattle.pq_pages.specs.declared.page.DictPage.{DictPage}
use Rattle.pq_pages.specs.declared.page.Page.{Page}
use Rattle.pq_pages.specs.declared.page.Page.TheVariants.{Data, Dict}
use Rattle.schema_to_tree.specs.Encodes.{is_dictionary}
pub use Rattle.write_values.specs.Decimals.{HasWide}
use Rattle.dictionary_pages.specs.Entries.{stored_entry}
pub use Rattle.dictionary_pages.specs.Pages.{IsPastRoom}
use Rattle.write_pages.specs.declared.options.WriteOptions.{WriteOptions}
use Rattle.write_pages.specs.Entries.{IsDictionaryPastRoom}
use Rattle.write_pages.specs.Fits.{AreColumnKeyed, FitsColumn, is_column_written, is_dictionary_encoding, is_flat_path, is_written_as}
use Rattle.write_pages.specs.Holds.{HoldsRows, ToGive, behind_dictionary, ended, later, rows_of}

-- One page is not written so: of a flat path in an encoding in which values of the type are not written. Every other path is written in PLAIN.
abbrev pub IsUnwritten : List Part → TypeTree → Physical → Encoding → Type 0
IsUnwritten parts t p e = (is_flat_path parts ≡ true) × (is_written_as e t p ≡ false)

-- The pages of a column are not written so: a dictionary in an encoding that is none of dictionaries, along any path, or values as one page of them
-- is not.
abbrev pub IsColumnUnwritten : List Part → TypeTree → Physical → Encoding → Type 0
IsColumnUnwritten parts t p e = ((is_dictionary (base t) ≡ true) × (is_dictionary_encoding e ≡ false)) ⊎ ((is_dictionary (base t) ≡ false) × IsUnwritten parts t p e)

-- The pages of a column are written: so, of the type of the array's values, and the path in bounds and the type fit the array, whose keys number
-- entries where the path reaches them.
pub record AreWritten (o : WriteOptions) (type_ : PrimitiveType) (parts : List Part) (a : ArrayTree) (e : Encoding) : Type 0 where
  pub form : ¬ IsColumnUnwritten parts (type_of a) (physical_view type_.physical_type) e
  pub values : is_column_written parts a ≡ true
  pub in_bounds : IsInBounds parts
  pub fits : FitsColumn parts (rows_of parts a) (leaf_view type_) (physical_view type_.physical_type) a
  pub keyed : AreColumnKeyed parts a

-- Why the pages of a column are refused: the first of these that holds.
abbrev pub RefusesPages : WriteOptions → PrimitiveType → List Part → ArrayTree → Encoding → Error → Type 0
RefusesPages o type_ parts a e error =
    ((error ≡ NotYetImplemented N4) × IsColumnUnwritten parts (type_of a) (physical_view type_.physical_type) e)
    ⊎ ((error ≡ NotYetImplemented N5) × (¬ IsColumnUnwritten parts (type_of a) (physical_view type_.physical_type) e) × (is_column_written parts a ≡ false))
    ⊎ ((error ≡ InvalidArgumentError A8) × (¬ IsColumnUnwritten parts (type_of a) (physical_view type_.physical_type) e) × (is_column_written parts a ≡ true) × ¬ (IsInBounds parts × FitsColumn parts (rows_of parts a) (leaf_view type_) (physical_view type_.physical_type) a × AreColumnKeyed parts a))
    ⊎ ((error ≡ InvalidArgumentError A7) × AreWritten o type_ parts a e × HasWide (leaf_type (type_of a)) (physical_view type_.physical_type) (column (path_way parts) (rows_of parts a)))

-- the dictionary page that is still to come, of which this stands for the entries
pub record HoldsEntries (t : LeafType) (p : Physical) (es : List (Option Value)) (page : DictPage) : Type 0 where
  pub is : IsDictFor p (map (stored_entry t p) es) page
  pub within : room (length (map (stored_entry t p) es)) (plain_length p (map (stored_entry t p) es)) ≤ max_size

-- the room of a page that is still to come passes the sizes of a header: of the dictionary page, or of that of the next rows
abbrev pub IsNextPastRoom : ToGive → Type 0
IsNextPastRoom g = IsDictionaryPastRoom g.type g.physical g.entries ⊎ ((piece : List Slot) × (rest : List (List Slot)) × (g.pieces ≡ piece ∷ rest) × IsPastRoom g.type g.physical (column g.way piece))

-- how many pages are still to come: that of a dictionary, and one of each piece
abbrev pub pages_due : ToGive → ℕ
pages_due g = cond g.owes_dictionary (suc (length g.pieces)) (length g.pieces)

-- What a call for the next page answers, by the pages that were to be given and that are: none where there is none; the dictionary page, where it
-- was to come; the page of the next rows; or in the place of a page an error, after which there is none. The error is want of memory, or that the room of a page is past the sizes of a header.
abbrev pub Gives : ToGive → ToGive → Option (Result Page Error) → Type 0
Gives old new None = (old.owes_dictionary ≡ false) × (old.pieces ≡ []) × (new ≡ old)
Gives old new (Some (Ok (Data page))) =
    (piece : List Slot) × (rest : List (List Slot)) × (old.owes_dictionary ≡ false) × (old.pieces ≡ piece ∷ rest) × (new ≡ later old rest) × HoldsRows old.options old.encoding old.type old.node old.physical old.way old.entries piece page
Gives old new (Some (Ok (Dict page))) =
    (es : List (Option Value)) × (old.owes_dictionary ≡ true) × (old.entries ≡ Some es) × (new ≡ behind_dictionary old) × HoldsEntries old.type old.physical es page
Gives old new (Some (Err e)) = (new ≡ ended old) × ((e ≡ Memory) ⊎ ((e ≡ Overflow V3) × IsNextPastRoom old)) × (0 < pages_due old)
