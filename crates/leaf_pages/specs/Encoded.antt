-- Pages whose values a caller spells (Parquet format, "Data Pages" and Encodings).
use Rattle.std.specs.Prelude.{◌≡◌, ◌≤◌, ℕ, Bool, None, List, [], ◌++◌, length}
use Rattle.leaf_pages.specs.Columns.{PathColumn, column_physical}
use Rattle.level_sections.specs.Sections.{AppendsSections}
use Rattle.nested_paths.specs.Nodes.{is_optional}
use Rattle.pq_files.specs.Page.{Encoding, values_in}
use Rattle.pq_files.specs.WrittenSpelling.{IsWrittenSpelled}
use Rattle.pq_tree.specs.Tree.{Leaf}
use Rattle.pq_tree.specs.TreeViews.{leaf_view}
use Rattle.pq_tree.specs.declared.types.Encoding.{Encoding as RustEncoding}
use Rattle.pq_tree.specs.declared.version.Version.{Version}
use Rattle.shredding.specs.Parts.{path_slots, path_way}
use Rattle.shredding.specs.Shred.{Triple, column}
use Rattle.shredding.specs.Slot.{value}
use Rattle.write_values.specs.Deltas.{encoding_name}
use Rattle.write_values.specs.Pages.{column_room}
use Rattle.write_values.specs.Stored.{stored_at}

-- the column with what is stored for each of its values
abbrev pub stored_pairs : PathColumn → List Triple
stored_pairs c = column (path_way c.parts) (path_slots (λ i. value (stored_at c.array (column_physical c) i)) c.parts)

-- the level sections of its page in the version, of these lengths, and nothing behind them
abbrev pub AreSections : Version → PathColumn → List ℕ → ℕ × ℕ → Type 0
AreSections version c levels sizes = AppendsSections version (path_way c.parts) (stored_pairs c) [] levels sizes

-- What is appended is a spelling of the stored values in the encoding, and the whole is within the room of its page.
pub record AppendsValues (e : Encoding) (c : PathColumn) (before after : List ℕ) : Type 0 where
  pub text : List ℕ
  pub parts : after ≡ before ++ text
  pub spelled : (l : Leaf) → l.physical ≡ column_physical c → IsWrittenSpelled e l None text (values_in (stored_pairs c))
  pub within : length after ≤ column_room (column_physical c) (stored_pairs c)

-- The body is the level sections of its page and a spelling of the stored values in the encoding, within the room of the page.
pub record HoldsValues (version : Version) (e : Encoding) (c : PathColumn) (body : List ℕ) (sizes : ℕ × ℕ) : Type 0 where
  pub levels : List ℕ
  pub sections : AreSections version c levels sizes
  pub values : AppendsValues e c levels body

-- A call that spells values is fit for the page of a column: whatever text it appends for the array is a spelling of the stored values in the encoding of this
-- name, and behind the level sections within the room of the page.
pub record Encodes (spells : Bool → List ℕ → Type 0) (version : Version) (name : RustEncoding) (c : PathColumn) : Type 0 where
  pub encoding : Encoding
  pub named : name ≡ encoding_name encoding
  pub spelled : (text : List ℕ) → spells (is_optional (leaf_view c.type_)) text → (l : Leaf) → l.physical ≡ column_physical c → IsWrittenSpelled encoding l None text (values_in (stored_pairs c))
  pub within : (text levels : List ℕ) (sizes : ℕ × ℕ) → spells (is_optional (leaf_view c.type_)) text → AreSections version c levels sizes → length (levels ++ text) ≤ column_room (column_physical c) (stored_pairs c)
