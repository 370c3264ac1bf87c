-- The numbers that stand for types of values (Thrift compact protocol, "Struct" and "List and Set").
use Rattle.std.specs.Prelude.{ℕ, Bool, true, false, Option, Some, None, ◌==◌, if◌then◌else◌}
use Rattle.pq_thrift.specs.declared.kind.Kind.{Kind}
use Rattle.pq_thrift.specs.declared.kind.Kind.TheVariants as kinds

abbrev pub kind_of : ℕ → Option Kind
kind_of n =
    if n == 1 then Some kinds.True
    else if n == 2 then Some kinds.False
    else if n == 3 then Some kinds.I8
    else if n == 4 then Some kinds.I16
    else if n == 5 then Some kinds.I32
    else if n == 6 then Some kinds.I64
    else if n == 7 then Some kinds.Double
    else if n == 8 then Some kinds.Binary
    else if n == 9 then Some kinds.List
    else if n == 10 then Some kinds.Set
    else if n == 11 then Some kinds.Map
    else if n == 12 then Some kinds.Struct
    else None

-- "Base types": the values of these have no parts
abbrev pub is_base : Kind → Bool
is_base kinds.List = false
is_base kinds.Set = false
is_base kinds.Map = false
is_base kinds.Struct = false
is_base kind = true
