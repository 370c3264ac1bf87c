-- An extension type travels in two entries of its field's metadata (Arrow columnar format, "Extension Types").
use Rattle.std.specs.Prelude.{ℕ, List, codes, Bool, Option, Some, None, ◌||◌, is_some}
use Rattle.columns_core.specs.Meta.{Meta, text_at, with_text, without_key}
use Rattle.columns_core.specs.Tree.{TypeTree, t_extension}

abbrev pub name_key : List ℕ
name_key = codes "ARROW:extension:name"

abbrev pub metadata_key : List ℕ
metadata_key = codes "ARROW:extension:metadata"

abbrev pub holds_key : Meta → Bool
holds_key m = is_some (text_at name_key m) || is_some (text_at metadata_key m)

-- ---- read

abbrev pub extended : Option (List ℕ) → TypeTree → Meta → TypeTree
extended None type m = type
extended (Some name) type m = t_extension name type (text_at metadata_key m)

abbrev pub stripped : Option (List ℕ) → Meta → Meta
stripped None m = m
stripped (Some name) m = without_key metadata_key (without_key name_key m)

-- ---- written

abbrev pub with_optional : Option (List ℕ) → Meta → Meta
with_optional None m = m
with_optional (Some text) m = with_text metadata_key text m

-- the metadata of a field of this type: with the entries of its extension, where it is one
abbrev pub carried : TypeTree → Meta → Meta
carried (t_extension name inner metadata) m = with_optional metadata (with_text name_key name m)
carried _ m = m
