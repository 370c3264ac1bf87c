-- The array of a field, of one piece of each of its columns, and why there is none (Dremel paper, section 4.3; Arrow columnar format).
use Rattle.std.specs.Prelude.{◌≡◌, ◌⊎◌, true, Option, List, ◌∷◌, All}
use Rattle.std.specs.List.{AllZip}
use Rattle.columns_base.specs.declared.error.Error.{Error}
use Rattle.columns_base.specs.declared.error.Error.TheVariants.{Memory, OutOfSpec, NotYetImplemented, Overflow}
use Rattle.columns_base.specs.declared.error.S.TheVariants.{S10}
use Rattle.columns_base.specs.declared.error.N.TheVariants.{N5}
use Rattle.columns_base.specs.declared.error.V.TheVariants.{V1}
use Rattle.shredding.specs.Share.{ColumnsAgree}
use Rattle.shredding.specs.Shred.{Triple, column}
use Rattle.shredding.specs.Slot.{Value}
use Rattle.columns_core.specs.Shapes.{base, IsSlotOf}
use Rattle.columns_core.specs.Tree.{TypeTree, t_list, t_fixed_size_list, t_large_list, t_struct, t_map, t_dictionary, t_extension, FieldTree, field, FieldTrees, no_fields, more_fields}
use Rattle.columns_slots.specs.Slots.{slots, type_of}
use Rattle.columns_slots.specs.Tree.{ArrayTree}
use Rattle.pq_headline.specs.Arrays.{type_in, entries_in}
use Rattle.pq_headline.specs.Columns.{ArrowColumn, field_columns, has_no_parts}
use Rattle.pq_headline.specs.FieldReasons.{PassesLists}

-- The array has the field's type and slots of the field, which shred to these columns, and for each column these entries, or no dictionary.
pub record IsArrayOf (f : FieldTree) (tables : List (List Triple)) (es : List (Option (List (Option Value)))) (a : ArrayTree) : Type 0 where
  pub typed : type_of a ≡ type_in f
  pub slots_are : All (IsSlotOf f) (slots a)
  pub columns : AllZip (λ c ts. column c.way (slots a) ≡ ts) (field_columns f) tables
  pub entries : entries_in a ≡ es

-- the entries of a dictionary have nothing inside them
abbrev pub HasFlatEntries : TypeTree → Type 0
HasFlatEntries (t_dictionary key t is_sorted) = has_no_parts (base t) ≡ true
HasFlatEntries t = Unit {0}

-- those of each of a field's dictionaries
abbrev pub HaveFlatEntries : FieldTree → Type 0
HaveFlatEntries f = All (λ c. HasFlatEntries c.data_type) (field_columns f)

-- ---- why there is none

-- a column disagrees with one of these
abbrev pub DisagreesWith : ArrowColumn → List Triple → List ArrowColumn → List (List Triple) → Type 0
DisagreesWith c ts (d ∷ ds) (us ∷ others) = (¬ (ColumnsAgree c.way d.way ts us)) ⊎ DisagreesWith c ts ds others
DisagreesWith c ts _ _ = ⊥

-- two of the columns disagree
abbrev pub Disagree : List ArrowColumn → List (List Triple) → Type 0
Disagree (c ∷ cs) (ts ∷ tables) = DisagreesWith c ts cs tables ⊎ Disagree cs tables
Disagree _ _ = ⊥

-- a list of one of the columns has more items than its offsets count
abbrev pub SomePass : List ArrowColumn → List (List Triple) → Type 0
SomePass (c ∷ cs) (ts ∷ tables) = PassesLists c.way 1 c.limits ts ⊎ SomePass cs tables
SomePass _ _ = ⊥

-- a list of fixed size is in the field
abbrev mutual
  pub HasFixedList : TypeTree → Type 0
  HasFixedList (t_list item) = HasFixedListIn item
  HasFixedList (t_large_list item) = HasFixedListIn item
  HasFixedList (t_fixed_size_list item n) = Unit {0}
  HasFixedList (t_map entry is_sorted) = HasFixedListIn entry
  HasFixedList (t_struct fields) = HaveFixedList fields
  HasFixedList (t_extension name inner metadata) = HasFixedList inner
  HasFixedList t = ⊥

  pub HasFixedListIn : FieldTree → Type 0
  HasFixedListIn (field name t is_nullable metadata) = HasFixedList t

  pub HaveFixedList : FieldTrees → Type 0
  HaveFixedList no_fields = ⊥
  HaveFixedList (more_fields f fs) = HasFixedListIn f ⊎ HaveFixedList fs

abbrev pub CannotJoin : FieldTree → List (List Triple) → Error → Type 0
CannotJoin f tables e =
    (e ≡ Memory)
    ⊎ ((e ≡ OutOfSpec S10) × Disagree (field_columns f) tables)
    ⊎ ((e ≡ Overflow V1) × SomePass (field_columns f) tables)
    ⊎ ((e ≡ NotYetImplemented N5) × HasFixedListIn f)
