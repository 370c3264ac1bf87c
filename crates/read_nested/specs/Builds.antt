-- How the array of a field is put together of pieces, and why it is not: leaf by leaf, each list and struct over the innermost part of what is left
-- of the states (Dremel paper, section 4.3).
use Rattle.std.specs.Prelude.{◌≡◌, ◌⊎◌, List, [], ◌∷◌}
use Rattle.columns_base.specs.declared.error.Error.{Error}
use Rattle.columns_base.specs.declared.error.Error.TheVariants.{Memory, InvalidArgumentError, OutOfSpec, NotYetImplemented}
use Rattle.columns_base.specs.declared.error.A.TheVariants.{A8}
use Rattle.columns_base.specs.declared.error.S.TheVariants.{S10}
use Rattle.columns_base.specs.declared.error.N.TheVariants.{N5}
use Rattle.columns_core.specs.Tree.{TypeTree, t_list, t_fixed_size_list, t_large_list, t_struct, t_map, t_extension, FieldTree, field, FieldTrees, no_fields, more_fields}
use Rattle.columns_array.specs.Boxed.{boxed}
use Rattle.columns_slots.specs.Slots.{IsSound}
use Rattle.columns_slots.specs.Tree.{ArrayTree, ArrayTrees, no_arrays, more_arrays}
use Rattle.read_laws.specs.State.{Kept}
use Rattle.read_pieces.specs.declared.piece.ColumnPiece.{ColumnPiece}
use Rattle.read_nested.specs.Made.{innermost, IsPopped, MakesList, IsListOf, IsStructOf, RefusesList, RefusesMap, RefusesStruct}

-- one array after others
abbrev pub joined : ArrayTrees → ArrayTrees → ArrayTrees
joined no_arrays bs = bs
joined (more_arrays a more) bs = more_arrays a (joined more bs)

-- the piece of a leaf is the next, and its innermost part is the leaf's
abbrev pub BuildsLeaf : List ColumnPiece → List ColumnPiece → ArrayTree → List Kept → Type 0
BuildsLeaf pieces left a front = (p : ColumnPiece) × (pieces ≡ p ∷ left) × IsPopped p.nested front × (a ≡ boxed p.values) × IsSound a

-- The array of a type, given the type with its extensions and the pieces from its first leaf on, the pieces behind it, and the parts above.
abbrev mutual
  pub Builds : TypeTree → TypeTree → List ColumnPiece → List ColumnPiece → ArrayTree → List Kept → Type 0
  Builds own (t_list item) pieces left a front =
      (items : ArrayTree) × (old : List Kept) × BuildsField item pieces left items old × IsPopped old front × MakesList own (innermost old) items a
  Builds own (t_large_list item) pieces left a front =
      (items : ArrayTree) × (old : List Kept) × BuildsField item pieces left items old × IsPopped old front × MakesList own (innermost old) items a
  Builds own (t_map entry is_sorted) pieces left a front =
      (items : ArrayTree) × (old : List Kept) × BuildsField entry pieces left items old × IsPopped old front × IsListOf own (innermost old) items a
  Builds own (t_fixed_size_list item n) pieces left a front = ⊥
  Builds own (t_struct fields) pieces left a front =
      (children : ArrayTrees) × (old : List Kept) × BuildsAll fields pieces left children old × IsPopped old front × IsStructOf own (innermost old) children a
  Builds own (t_extension name inner metadata) pieces left a front = Builds own inner pieces left a front
  Builds own t pieces left a front = BuildsLeaf pieces left a front

  pub BuildsField : FieldTree → List ColumnPiece → List ColumnPiece → ArrayTree → List Kept → Type 0
  BuildsField (field name t is_nullable metadata) pieces left a front = Builds t t pieces left a front

  -- of each field, with the same parts above
  pub BuildsAll : FieldTrees → List ColumnPiece → List ColumnPiece → ArrayTrees → List Kept → Type 0
  BuildsAll no_fields pieces left arrays front = (pieces ≡ left) × (arrays ≡ no_arrays)
  BuildsAll (more_fields f fs) pieces left arrays front =
      (behind : List ColumnPiece) × (a : ArrayTree) × (others : ArrayTrees) × BuildsField f pieces behind a front × BuildsAll fs behind left others front × (arrays ≡ more_arrays a others)

abbrev pub FailsLeaf : List ColumnPiece → Error → Type 0
FailsLeaf pieces e = (e ≡ InvalidArgumentError A8) × ((pieces ≡ []) ⊎ ((p : ColumnPiece) × (left : List ColumnPiece) × (pieces ≡ p ∷ left) × (p.nested ≡ [])))

abbrev mutual
  pub Fails : TypeTree → TypeTree → List ColumnPiece → Error → Type 0
  Fails own (t_list item) pieces e =
      (e ≡ Memory) ⊎ FailsField item pieces e ⊎ ((items : ArrayTree) × (old : List Kept) × (left : List ColumnPiece) × BuildsField item pieces left items old × RefusesList own (innermost old) items e)
  Fails own (t_large_list item) pieces e =
      (e ≡ Memory) ⊎ FailsField item pieces e ⊎ ((items : ArrayTree) × (old : List Kept) × (left : List ColumnPiece) × BuildsField item pieces left items old × RefusesList own (innermost old) items e)
  Fails own (t_map entry is_sorted) pieces e =
      (e ≡ Memory) ⊎ FailsField entry pieces e ⊎ ((items : ArrayTree) × (old : List Kept) × (left : List ColumnPiece) × BuildsField entry pieces left items old × RefusesMap own (innermost old) items e)
  Fails own (t_fixed_size_list item n) pieces e = e ≡ NotYetImplemented N5
  Fails own (t_struct fields) pieces e =
      (e ≡ Memory) ⊎ FailsAll fields pieces e ⊎ ((children : ArrayTrees) × (old : List Kept) × (left : List ColumnPiece) × BuildsAll fields pieces left children old × RefusesStruct own (innermost old) children e)
  Fails own (t_extension name inner metadata) pieces e = Fails own inner pieces e
  Fails own t pieces e = FailsLeaf pieces e

  pub FailsField : FieldTree → List ColumnPiece → Error → Type 0
  FailsField (field name t is_nullable metadata) pieces e = Fails t t pieces e

  pub FailsAll : FieldTrees → List ColumnPiece → Error → Type 0
  FailsAll no_fields pieces e = e ≡ InvalidArgumentError A8
  FailsAll (more_fields f fs) pieces e =
      (e ≡ Memory) ⊎ FailsField f pieces e ⊎ ((behind : List ColumnPiece) × (a : ArrayTree) × (front : List Kept) × BuildsField f pieces behind a front × FailsOthers front fs behind e)

  -- of the fields behind one whose parts above are these
  pub FailsOthers : List Kept → FieldTrees → List ColumnPiece → Error → Type 0
  FailsOthers front no_fields pieces e = ⊥
  FailsOthers front (more_fields f fs) pieces e =
      (e ≡ Memory)
      ⊎ FailsField f pieces e
      ⊎ ((behind : List ColumnPiece) × (a : ArrayTree) × (other : List Kept) × BuildsField f pieces behind a other × (((e ≡ OutOfSpec S10) × ¬ (other ≡ front)) ⊎ ((other ≡ front) × FailsOthers front fs behind e)))
