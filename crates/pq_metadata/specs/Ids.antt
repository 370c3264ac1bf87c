-- A struct's fields by their ids (Thrift compact protocol, "Struct"): the last field with an id counts, and earlier ones are not looked at.
use Rattle.std.specs.Prelude.{◌≡◌, ℕ, ℤ, pos, negsuc, List, [], ◌∷◌, Bool, false, nat_eq, Option, Some, None, option_map, if◌then◌else◌}
pub use Rattle.pq_tree.specs.Options.{or_else}
use Rattle.pq_thrift.specs.Value.{Value, Values, no_values, value, Fields, no_fields, field}

abbrev pub is_number : ℤ → ℕ → Bool
is_number (pos m) n = nat_eq m n
is_number (negsuc m) n = false

-- the last field with the id
abbrev pub get : ℕ → Fields → Option Value
get id no_fields = None
get id (field i v fs) = or_else (get id fs) (if is_number i id then Some v else None)

-- the last field of all, as a union has one
abbrev pub last_field : Fields → Option (ℤ × Value)
last_field no_fields = None
last_field (field i v fs) = or_else (last_field fs) (Some (i, v))

-- The field is of this kind where it is there.
abbrev pub Holds : {A : Type 0} → (A → Value) → ℕ → Fields → Option A → Type 0
Holds con id fs x = get id fs ≡ option_map con x

-- the values stand for the list, one by one
abbrev pub Each : {A : Type 0} → (Value → A → Type 0) → Values → List A → Type 0
Each R no_values [] = Unit {0}
Each R (value v vs) (a ∷ list) = R v a × Each R vs list
Each R _ _ = ⊥
