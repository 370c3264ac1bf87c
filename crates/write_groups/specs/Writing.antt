-- What a writer of groups has written, and what it takes (Parquet format, "File format").
use Rattle.std.specs.Prelude.{◌≡◌, ◌⊎◌, ℕ, List, [], ◌∷◌, ◌++◌, Option, map}
use Rattle.columns_base.specs.declared.error.Error.{Error}
use Rattle.columns_base.specs.declared.error.Error.TheVariants.{Memory, WriteFault, Overflow}
use Rattle.columns_base.specs.declared.error.V.TheVariants.{V3}
use Rattle.columns_core.specs.Tree.{FieldTrees}
use Rattle.columns_core.specs.View.{schema_view}
use Rattle.columns_slots.specs.Slots.{AreTyped, first_len}
use Rattle.footer_write.specs.FooterView.{footer_view}
use Rattle.pq_files.specs.Layout.{OutGroup}
use Rattle.pq_io.specs.Causes.{Rose}
use Rattle.pq_tree.specs.Footers.{Key}
use Rattle.pq_tree.specs.Tree.{columns_of}
use Rattle.pq_tree.specs.TreeViews.{trees_view}
use Rattle.schema_file.specs.Writing.{IsOpen}
use Rattle.schema_to_tree.specs.Table.{schema_of}
use Rattle.write_file.specs.Files.{HasFileStating}
use Rattle.write_file.specs.Pages.{AllGive, SomeRefuses}
use Rattle.write_counts.specs.Passing.{GroupPasses}
use Rattle.write_groups.specs.Columns.{AreGroupColumns}
use Rattle.write_groups.specs.Given.{BeginsColumn, RefusesColumn}
use Rattle.write_groups.specs.declared.group.RowGroupIter.{RowGroupIter}
use Rattle.write_groups.specs.declared.writer.FileWriter.{FileWriter}

abbrev pub fields_in : {W : Type 0} → FileWriter W → FieldTrees
fields_in w = (schema_view w.file.schema).fields

-- The writer has written these groups, and goes on: see `IsOpen`.
abbrev pub IsWriting : {W : Type 0} → (W → Option (List ℕ)) → Option (List ℕ) → FileWriter W → List OutGroup → Type 0
IsWriting taken before w groups = IsOpen taken before w.options.version groups w.file

-- The writer has ended: behind what was there the sink gained one packed file of these groups, with these keys and of this size, and what is kept is what the footer of that
-- file spells.
abbrev pub HasEnded : {W : Type 0} → (W → Option (List ℕ)) → Option (List ℕ) → List Key → List OutGroup → ℕ → FileWriter W → Type 0
HasEnded taken before keys groups size w =
    HasFileStating before (taken w.file.body.writer) (schema_of (fields_in w)) keys w.options.version groups size (footer_view w.file.body.metadata)

-- Its columns are those of its chunk, and no page was asked for.
abbrev pub HasColumns : RowGroupIter → Type 0
HasColumns g = AreGroupColumns g.options g.chunk (trees_view g.fields.items) (map (λ es. es.items) g.encodings.items) g.columns.items

-- The trees are those of the fields, the arrays have their types, and the version of pages and whether there are statistics are as the writer has them.
pub record Takes {W : Type 0} (w : FileWriter W) (g : RowGroupIter) : Type 0 where
  pub trees : trees_view g.fields.items ≡ trees_view w.file.body.metadata.schema.fields
  pub typed : AreTyped (fields_in w) g.chunk
  pub version : g.options.version ≡ w.options.version
  pub statistics : g.options.write_statistics ≡ w.options.write_statistics

-- the group that the columns give, with the rows of the chunk
pub record IsGroupOf (fs : FieldTrees) (g : RowGroupIter) (out : OutGroup) : Type 0 where
  pub rows : out.rows ≡ first_len g.chunk
  pub columns : AllGive BeginsColumn g.options.version (columns_of (schema_of fs)) out.chunks g.columns.items

-- The group of the chunk stands behind those before, and nothing is changed where the chunk has no rows.
abbrev pub Adds : {W : Type 0} → (W → Option (List ℕ)) → Option (List ℕ) → List OutGroup → RowGroupIter → FileWriter W → FileWriter W → Type 0
Adds taken before groups g old new =
    ((first_len g.chunk ≡ 0) × (new ≡ old)) ⊎ ((out : OutGroup) × IsGroupOf (fields_in old) g out × IsWriting taken before new (groups ++ out ∷ []))

-- Why a group is refused that the writer takes: memory; the sink, whose count of faults rose; the numbers of the group's pages; or a page.
abbrev pub Refuses : {W : Type 0} → (W → ℕ) → List OutGroup → RowGroupIter → FileWriter W → FileWriter W → Error → Type 0
Refuses faults groups g old new e =
    (e ≡ Memory)
    ⊎ ((e ≡ WriteFault) × Rose (faults old.file.body.writer) (faults new.file.body.writer))
    ⊎ ((e ≡ Overflow V3) × (out : OutGroup) × IsGroupOf (fields_in old) g out × GroupPasses old.options.version (columns_of (schema_of (fields_in old))) groups out)
    ⊎ SomeRefuses RefusesColumn g.columns.items e
