-- The file of the chunks that a writer accepted (Parquet format, "File format").
use Rattle.std.specs.Prelude.{◌≡◌, ◌⊎◌, ℕ, List, [], ◌∷◌, Option}
use Rattle.columns_array.specs.Chunks.{AreEven}
use Rattle.columns_core.specs.Tree.{FieldTrees}
use Rattle.columns_slots.specs.Slots.{AreTyped, first_len}
use Rattle.pq_files.specs.Layout.{OutGroup}
use Rattle.pq_tree.specs.Footers.{Key}
use Rattle.pq_tree.specs.TreeViews.{trees_view}
use Rattle.pq_tree.specs.declared.version.Version.{Version}
use Rattle.schema_to_tree.specs.Table.{schema_of}
use Rattle.write_file.specs.Files.{HasFile}
use Rattle.write_groups.specs.Laid.{IsLaidFor}
use Rattle.write_groups.specs.Writing.{HasColumns, IsGroupOf, IsWriting, fields_in}
use Rattle.write_groups.specs.declared.group.RowGroupIter.{RowGroupIter}
use Rattle.write_groups.specs.declared.writer.FileWriter.{FileWriter}

-- one group in this relation to each chunk that has rows, in order
abbrev pub AreGroupsBy : (RowGroupIter → OutGroup → Type 0) → List RowGroupIter → List OutGroup → Type 0
AreGroupsBy Is [] outs = outs ≡ []
AreGroupsBy Is (g ∷ gs) outs =
    ((first_len g.chunk ≡ 0) × AreGroupsBy Is gs outs) ⊎ ((out : OutGroup) × (others : List OutGroup) × (outs ≡ out ∷ others) × Is g out × AreGroupsBy Is gs others)

-- The group that the columns of a chunk give, whose arrays are of the types of the fields and of one length, and are written by the trees of the fields.
pub record IsAcceptedAs (fs : FieldTrees) (g : RowGroupIter) (out : OutGroup) : Type 0 where
  pub typed : AreTyped fs g.chunk
  pub even : AreEven g.chunk
  pub trees : trees_view g.fields.items ≡ (schema_of fs).fields
  pub columns : HasColumns g
  pub is : IsGroupOf fs g out

-- Since it was made, the writer has accepted these chunks, and has written their groups.
pub record HasAccepted {W : Type 0} (taken : W → Option (List ℕ)) (before : Option (List ℕ)) (chunks : List RowGroupIter) (w : FileWriter W) : Type 0 where
  pub groups : List OutGroup
  pub writing : IsWriting taken before w groups
  pub are : AreGroupsBy (IsAcceptedAs (fields_in w)) chunks groups

-- Behind what was there stands one packed file of the tree of the fields, with these keys and of this size. Its groups are those of the chunks that
-- have rows, in order, and each is laid out as the rows of its chunk are to be.
pub record IsFileOf (before taken : Option (List ℕ)) (fs : FieldTrees) (keys : List Key) (version : Version) (chunks : List RowGroupIter) (size : ℕ) : Type 0 where
  pub groups : List OutGroup
  pub file : HasFile before taken (schema_of fs) keys version groups size
  pub laid : AreGroupsBy (IsLaidFor fs) chunks groups
