-- Groups of the sample's rows as they are laid out in pages.
use Rattle.std.specs.Prelude.{◌≡◌, List, All, Option, None}
use Rattle.shredding.specs.Slot.{Slots, Value}
use Rattle.pq_files.specs.Layout.{OutGroup}
use Rattle.pq_files.specs.Page.{Encoding}
use Rattle.pq_headline.specs.Columns.{schema_columns}
use Rattle.pq_headline.specs.Output.{IsLaidGroup, Style}
use Rattle.pq_tree.specs.Tree.{columns_of}
use Rattle.sample_rows.specs.Fields.{sample_fields}
use Rattle.schema_to_tree.specs.Table.{schema_of}

-- in whatever encodings, without dictionaries
pub record IsLaidOut (s : Style) (rows : List Slots) (out : OutGroup) : Type 0 where
  pub encodings : List Encoding
  pub entries : List (Option (List (Option Value)))
  pub none : All (λ d. d ≡ None) entries
  pub laid : IsLaidGroup s rows (schema_columns sample_fields) (columns_of (schema_of sample_fields)) encodings entries out
