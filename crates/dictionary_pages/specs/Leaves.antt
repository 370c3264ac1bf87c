-- The entries of a dictionary as a leaf array.
use Rattle.std.specs.Prelude.{◌≡◌, ◌<◌, ℕ, true}
use Rattle.columns_core.specs.Shapes.{base}
use Rattle.columns_slots.specs.Slots.{child_of, entry_at, keys_in, tree_len, type_of}
use Rattle.nested_paths.specs.LeafNulls.{is_value}
use Rattle.nested_paths.specs.Seen.{leaf_slot}
use Rattle.nested_paths.specs.ValueMasks.{is_valued}
use Rattle.columns_slots.specs.Tree.{ArrayTree}
use Rattle.pq_tree.specs.Physical.{Physical}
use Rattle.write_values.specs.Leaf.{IsLeafOf}
use Rattle.write_values.specs.declared.leaf.Leaf.{Leaf}
use Rattle.dictionary_pages.specs.Entries.{is_entry}

-- The leaf is this array, whose values are written as entries under this physical type. It has a value at each position, nulls aside.
pub record IsEntryLeaf (a : ArrayTree) (p : Physical) (leaf : Leaf) : Type 0 where
  pub is : IsLeafOf a p leaf
  pub entries : is_entry (base (type_of a)) p ≡ true
  pub valued : is_valued a ≡ true

-- the key at a position numbers an entry that is not null
abbrev pub NamesValue : ArrayTree → ℕ → Type 0
NamesValue a i = (entry_at (keys_in a) i < tree_len (child_of a)) × (is_value (leaf_slot a i) ≡ true)
