-- The children of a struct, each with its iterator (Arrow columnar format, "Struct Layout").
use Rattle.std.specs.Prelude.{◌≡◌, ℕ, suc, Bool, true, false, List, [], ◌∷◌, ◌++◌}
use Rattle.columns_core.specs.Tree.{TypeTree, t_struct, field, FieldTrees, no_fields, more_fields}
use Rattle.read_nested.specs.Above.{Above, above_struct}
use Rattle.struct_iters.specs.Items.{ItemsReading, IsGivingItems}
use Rattle.struct_iters.specs.Progress.{Progress}

-- Each iterator gives arrays of its field's type, beneath these parts and the struct, in which the first child stands at this place. Their columns are these, in order.
abbrev pub AreChildren : List Above → Bool → ℕ → FieldTrees → List ItemsReading → List Progress → Type 0
AreChildren above n place no_fields [] xs = xs ≡ []
AreChildren above n place (more_fields (field name t b metadata) fs) (it ∷ its) xs =
    (first : List Progress) × (rest : List Progress) × (xs ≡ first ++ rest) × IsGivingItems (above ++ above_struct n place ∷ []) b t first it × AreChildren above n (suc place) fs its rest
AreChildren above n place _ _ xs = ⊥

abbrev pub is_struct_type : TypeTree → Bool
is_struct_type (t_struct fs) = true
is_struct_type t = false
