-- What a writer of a file has pushed and keeps (Parquet format, "File format").
use Rattle.std.specs.Prelude.{◌≡◌, ◌⊎◌, ℕ, ◌≤◌, Option, List, [], ◌++◌, length, map, sum_by, string_bytes, pos}
use Rattle.std.specs.Io.KnownBytes.{Appends}
use Rattle.footer_write.specs.FooterView.{row_group_view}
use Rattle.pq_tree.specs.declared.version.Version.{Version}
use Rattle.pq_metadata.specs.Footer.{Key}
use Rattle.pq_metadata.specs.Frame.{magic}
use Rattle.pq_tree.specs.Tree.{Schema, columns_of}
use Rattle.pq_tree.specs.TreeViews.{schema_view}
use Rattle.pq_files.specs.FooterRecord.{FileMetaData}
use Rattle.pq_files.specs.Layout.{OutGroup}
use Rattle.pq_files.specs.Packed.{AreGroups, Packed}
use Rattle.pq_files.specs.Written.{version_number, created_by, footer_record}
use Rattle.write_file.specs.declared.body.FileBody.{FileBody}
use Rattle.write_file.specs.Leaves.{AreMetasOf}

abbrev pub pages_in : OutGroup → ℕ
pages_in g = sum_by (λ c. length c.pages) g.chunks

-- The front of a file: nothing before the first group, else PAR1 and the pages.
abbrev pub IsFront : List OutGroup → List ℕ → List ℕ → Type 0
IsFront groups text pages = ((text ≡ []) × (groups ≡ []) × (pages ≡ [])) ⊎ (text ≡ magic ++ pages)

-- Since it was made, the writer has pushed the pages of these groups behind PAR1 and no other byte, and keeps what the footer states of them.
-- Before the first group it may have pushed nothing.
pub record HasWritten {W : Type 0} (taken : W → Option (List ℕ)) (before : Option (List ℕ)) (tree : Schema) (version : Version) (groups : List OutGroup) (b : FileBody W) : Type 0 where
  pub schema : schema_view b.metadata.schema ≡ tree
  pub same : b.version ≡ version
  pub number : b.metadata.version ≡ pos (version_number version)
  pub author : string_bytes b.metadata.created_by ≡ created_by
  pub leaves : AreMetasOf (columns_of tree) b.leaves
  pub text : List ℕ
  pub pages : List ℕ
  pub gained : Appends before (taken b.writer) text
  pub front : IsFront groups text pages
  pub counted : b.pushed ≡ length text
  -- no page is without bytes
  pub few : b.data_pages ≤ b.pushed
  pub are : AreGroups version (columns_of tree) groups 0 4 pages (map row_group_view b.metadata.row_groups.items)
  pub groups_are : length groups ≡ length b.metadata.row_groups.items
  pub rows_are : b.rows ≡ sum_by (λ g. g.rows) groups
  pub stated : b.metadata.num_rows ≡ pos (sum_by (λ g. g.rows) groups)
  pub data_pages_are : b.data_pages ≡ sum_by pages_in groups

-- A whole packed file was gained, of this size.
pub record HasFile (before taken : Option (List ℕ)) (tree : Schema) (keys : List Key) (version : Version) (groups : List OutGroup) (size : ℕ) : Type 0 where
  pub file : List ℕ
  pub gained : Appends before taken file
  pub packed : Packed file tree keys version groups
  pub size_is : size ≡ length file

-- The same, and this metadata is what the footer of that file spells.
pub record HasFileStating (before taken : Option (List ℕ)) (tree : Schema) (keys : List Key) (version : Version) (groups : List OutGroup) (size : ℕ) (m : FileMetaData) : Type 0 where
  pub whole : HasFile before taken tree keys version groups size
  pub stated : m ≡ footer_record version tree keys groups whole.packed.written.row_groups
