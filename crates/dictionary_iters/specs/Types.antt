-- Dictionary types by their keys and entries (Arrow columnar format, "Dictionary-encoded Layout").
use Rattle.std.specs.Prelude.{◌≡◌, ℕ, Bool, true, false, ◌||◌}
use Rattle.columns_core.specs.Shapes.{base}
use Rattle.columns_core.specs.Tree.{TypeTree, t_dictionary, t_fixed_size_binary}
use Rattle.columns_core.specs.declared.types.IntegerType.{IntegerType}
use Rattle.columns_slots.specs.Types.{is_binary, is_text}
use Rattle.schema_fit.specs.PageTable.{is_stored_length}

-- The type is that of dictionaries of such keys, whose entries have a type of this kind, without its extensions.
abbrev pub IsDictionaryOf : IntegerType → (TypeTree → Bool) → TypeTree → Type 0
IsDictionaryOf key is_entry (t_dictionary k t is_sorted) = (k ≡ key) × (is_entry (base t) ≡ true)
IsDictionaryOf key is_entry t = ⊥

-- texts and byte strings under small or large offsets
abbrev pub is_string : Bool → TypeTree → Bool
is_string large t = is_text large t || is_binary large t

-- byte strings of one size, as many bytes as a column may store
abbrev pub is_chunk : TypeTree → Bool
is_chunk (t_fixed_size_binary n) = is_stored_length n
is_chunk t = false

-- how many bytes each of them has; 0 of any other type
abbrev pub chunk_size_of : TypeTree → ℕ
chunk_size_of (t_fixed_size_binary n) = n
chunk_size_of t = 0

-- how many bytes each entry of a dictionary of byte strings of one size has
abbrev pub entry_size : TypeTree → ℕ
entry_size (t_dictionary k t is_sorted) = chunk_size_of (base t)
entry_size t = 0
