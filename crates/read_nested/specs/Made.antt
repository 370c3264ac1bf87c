-- What the arrays over the innermost part of a state are, and when there are none (Arrow columnar format, "Variable-size List Layout",
-- "Fixed-Size List Layout", "Map Layout" and "Struct Layout").
use Rattle.std.specs.Prelude.{◌≡◌, ◌⊎◌, ℕ, ◌*◌, ◌<◌, ◌≤◌, false, Option, Some, None, MatchOption, List, [], ◌∷◌, ◌++◌, length}
use Rattle.columns_base.specs.declared.error.Error.{Error}
use Rattle.columns_base.specs.declared.error.Error.TheVariants.{Memory, InvalidArgumentError, Overflow}
use Rattle.columns_base.specs.declared.error.A.TheVariants.{A8}
use Rattle.columns_base.specs.declared.error.V.TheVariants.{V1}
use Rattle.columns_core.specs.Shapes.{base}
use Rattle.columns_core.specs.Tree.{TypeTree, t_list, t_large_list, t_fixed_size_list}
use Rattle.columns_slots.specs.Slots.{tree_len, IsPlaces}
use Rattle.columns_slots.specs.Tree.{ArrayTree, ArrayTrees, fixed_list_array, struct_array, Mask}
use Rattle.columns_slots.specs.Types.{fixed_size, small_item, large_item, map_item}
use Rattle.columns_array.specs.Fits.{FitsLists, FitsFixedLists, FitsStruct}
use Rattle.read_laws.specs.State.{Kept, kept_list, kept_struct}
use Rattle.read_laws.specs.Step.{is_list, is_struct}
use Rattle.pq_headline.specs.Columns.{small_limit, large_limit}
use Rattle.read_nested.specs.Keeps.{list_of_part}
use Rattle.read_nested.specs.declared.list.ListKind.{ListKind}
use Rattle.read_nested.specs.declared.list.ListKind.TheVariants.{Small, Large, Fixed, Other}

abbrev pub innermost : List Kept → Option Kept
innermost [] = None
innermost (k ∷ []) = Some k
innermost (k ∷ l ∷ ks) = innermost (l ∷ ks)

-- the innermost part is taken, if there is one
abbrev pub IsPopped : List Kept → List Kept → Type 0
IsPopped old new = MatchOption (innermost old) ((old ≡ []) × (new ≡ [])) (λ part. old ≡ new ++ part ∷ [])

-- no part, or none of a list
abbrev pub IsNoList : Option Kept → Type 0
IsNoList None = Unit {0}
IsNoList (Some k) = is_list k ≡ false

-- no part, or none of a struct
abbrev pub IsNoStruct : Option Kept → Type 0
IsNoStruct None = Unit {0}
IsNoStruct (Some k) = is_struct k ≡ false

-- ---- lists under offsets

-- these are the offsets and the mask of a list's part, where its items end there
abbrev pub AreOf : Option Kept → ℕ → List ℕ → Mask → Type 0
AreOf (Some (kept_list m starts)) end offsets mask = (offsets ≡ starts ++ end ∷ []) × (mask ≡ m)
AreOf part end offsets mask = ⊥

-- a list's part, whose starts never fall and don't pass the end
abbrev pub HasOffsets : Option Kept → ℕ → Type 0
HasOffsets (Some (kept_list m starts)) end = IsPlaces (starts ++ end ∷ []) end
HasOffsets part end = ⊥

-- they make an array of lists with items of this type
abbrev pub FitsPart : Option TypeTree → Option Kept → ArrayTree → Type 0
FitsPart item (Some (kept_list m starts)) a = FitsLists item (starts ++ tree_len a ∷ []) a m
FitsPart item part a = ⊥

abbrev pub IsListOf : TypeTree → Option Kept → ArrayTree → ArrayTree → Type 0
IsListOf t (Some (kept_list m starts)) a made = made ≡ list_of_part t m starts a
IsListOf t part a made = ⊥

-- offsets that count so many items refuse: more items, or parts that do not fit
abbrev pub RefusesLists : ℕ → Option TypeTree → Option Kept → ArrayTree → Error → Type 0
RefusesLists limit item part a e =
    (e ≡ Memory) ⊎ ((e ≡ Overflow V1) × (limit < tree_len a)) ⊎ ((e ≡ InvalidArgumentError A8) × (tree_len a ≤ limit) × ¬ (FitsPart item part a))

-- ---- lists of a fixed size: as many as there were pushes

abbrev pub FitsFixedPart : TypeTree → Option Kept → ArrayTree → Type 0
FitsFixedPart t (Some (kept_list m starts)) a = FitsFixedLists t a m × (tree_len a ≡ length starts * fixed_size t)
FitsFixedPart t part a = ⊥

abbrev pub IsFixedListOf : TypeTree → Option Kept → ArrayTree → ArrayTree → Type 0
IsFixedListOf t (Some (kept_list m starts)) a made = made ≡ fixed_list_array t (fixed_size (base t)) (length starts) a m
IsFixedListOf t part a made = ⊥

-- ---- any list, by its type

abbrev pub kind_of : TypeTree → ListKind
kind_of (t_list item) = Small
kind_of (t_large_list item) = Large
kind_of (t_fixed_size_list item n) = Fixed
kind_of t = Other

abbrev pub MakesKind : ListKind → TypeTree → Option Kept → ArrayTree → ArrayTree → Type 0
MakesKind Small t part a made = IsListOf t part a made
MakesKind Large t part a made = IsListOf t part a made
MakesKind Fixed t part a made = IsFixedListOf t part a made
MakesKind Other t part a made = ⊥

abbrev pub MakesList : TypeTree → Option Kept → ArrayTree → ArrayTree → Type 0
MakesList t part a made = MakesKind (kind_of (base t)) t part a made

abbrev pub RefusesKind : ListKind → TypeTree → Option Kept → ArrayTree → Error → Type 0
RefusesKind Small t part a e = RefusesLists small_limit (small_item (base t)) part a e
RefusesKind Large t part a e = RefusesLists large_limit (large_item (base t)) part a e
RefusesKind Fixed t part a e = (e ≡ Memory) ⊎ ((e ≡ InvalidArgumentError A8) × ¬ (FitsFixedPart (base t) part a))
RefusesKind Other t part a e = e ≡ InvalidArgumentError A8

abbrev pub RefusesList : TypeTree → Option Kept → ArrayTree → Error → Type 0
RefusesList t part a e = RefusesKind (kind_of (base t)) t part a e

abbrev pub RefusesMap : TypeTree → Option Kept → ArrayTree → Error → Type 0
RefusesMap t part a e = RefusesLists small_limit (map_item (base t)) part a e

-- ---- structs

abbrev pub FitsStructPart : TypeTree → Option Kept → ArrayTrees → Type 0
FitsStructPart t (Some (kept_struct m c)) cs = FitsStruct t cs m
FitsStructPart t part cs = ⊥

abbrev pub IsStructOf : TypeTree → Option Kept → ArrayTrees → ArrayTree → Type 0
IsStructOf t (Some (kept_struct m c)) cs made = made ≡ struct_array t cs m
IsStructOf t part cs made = ⊥

abbrev pub RefusesStruct : TypeTree → Option Kept → ArrayTrees → Error → Type 0
RefusesStruct t part cs e = (e ≡ Memory) ⊎ ((e ≡ InvalidArgumentError A8) × ¬ (FitsStructPart (base t) part cs))
