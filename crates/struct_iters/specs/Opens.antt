-- The columns of a field beneath parts, as they are opened.
use Rattle.std.specs.Prelude.{◌≡◌, ◌≢◌, ◌⊎◌, ℕ, List, [], map, length, Option, Some}
use Rattle.columns_base.specs.declared.error.Error.{Error}
use Rattle.columns_base.specs.declared.error.Error.TheVariants.{Memory, InvalidArgumentError}
use Rattle.columns_base.specs.declared.error.A.TheVariants.{A1, A8}
use Rattle.columns_core.specs.Tree.{FieldTree}
use Rattle.assembly.specs.Lanes.{Lane}
use Rattle.assembly.specs.Opened.{AreOpen, SomeIsNotRead}
use Rattle.assembly.specs.Paths.{field_fault, field_paths}
use Rattle.pq_headline.specs.Columns.{field_columns}
use Rattle.pq_pages.specs.Outcomes.{Outcome}
use Rattle.pq_tree.specs.Physical.{Physical}
use Rattle.read_nested.specs.Above.{Above, raised}
use Rattle.read_nested.specs.Joined.{HaveFlatEntries}
use Rattle.read_pieces.specs.Pieces.{leaf_types}
use Rattle.read_state.specs.declared.init.InitNested.{InitNested}
use Rattle.struct_iters.specs.Progress.{Progress}

-- a column of which nothing was read
abbrev pub begun : Lane → Progress
begun x = record { opening = x.opening; type = x.type; given = [] }

-- The columns are those of the field beneath the parts, and each is opened along the handed parts and those of the field, over what its source gives, with so many rows in
-- all and in a piece.
pub record OpenBeneath (above : List Above) (f : FieldTree) (xs : List Lane) (init : List InitNested) (outcomes : List (List Outcome)) (physicals : List Physical) (rows : ℕ) (chunk_size : Option ℕ) : Type 0 where
  pub columns : map (λ x. x.opening.column) xs ≡ map (raised above) (field_columns f)
  pub types : map (λ x. x.type) xs ≡ leaf_types f
  pub flat : HaveFlatEntries f
  pub are : AreOpen chunk_size rows xs (field_paths init f) outcomes physicals

-- Why they are not opened: a chunk size of no rows, a fault of the field, numbers that differ, or a leaf that is not read.
abbrev pub CannotOpen : FieldTree → List InitNested → ℕ → List Physical → Option ℕ → Error → Type 0
CannotOpen f init columns physicals chunk_size e =
    (e ≡ Memory)
    ⊎ ((e ≡ InvalidArgumentError A1) × (chunk_size ≡ Some 0))
    ⊎ (field_fault f ≡ Some e)
    ⊎ ((e ≡ InvalidArgumentError A8) × ((columns ≢ length (field_paths init f)) ⊎ (length physicals ≢ columns)))
    ⊎ SomeIsNotRead (field_paths init f) physicals e
