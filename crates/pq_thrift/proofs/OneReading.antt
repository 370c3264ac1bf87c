-- The grammar has one reading.
use Rattle.std.proofs.Common.{◌≡◌, ◌≤◌, ℕ, List, ◌++◌, length, max, take, Ok, refl, sym, ap, ◌∙◌, arith}
use Rattle.std.proofs.lemmas.List.{take_at, length-append}
use Rattle.pq_thrift.specs.declared.kind.Kind.TheVariants as kinds
use Rattle.pq_thrift.specs.Value.{Value}
use Rattle.pq_thrift.specs.Reading.{value_at, thrift_at, max_depth}
use Rattle.pq_thrift.specs.Spelling.{spell, IsStruct, IsWritable, Fits}
use Rattle.pq_thrift.specs.Grammar.{Spells, depth}
use Rattle.pq_thrift.proofs.Takes.{ok_parts}
use Rattle.pq_thrift.proofs.Again.{struct_again}
use Rattle.pq_thrift.proofs.Spelled.{is_spelled}

pub same_reading : (a b x y : List ℕ) (v w : Value) → Spells a v → Spells b w → a ++ x ≡ b ++ y → (a ≡ b) × (v ≡ w)
same_reading a b x y v w p q e =
    let d = max (depth v) (depth w) in
    let first = struct_again d v a x p (omega arith) in
    let second = struct_again d w b y q (omega arith) in
    let both = ok_parts (v, x) (w, y) (sym first ∙ ap (value_at d kinds.Struct) e ∙ second) in
    let sizes : length a ≡ length b = omega (arith, ap length e, ap length both.1, length-append a x, length-append b y) in
    let here : take (length a) (a ++ x) ≡ a = take_at a x (length a) refl in
    let there : take (length a) (b ++ y) ≡ b = take_at b y (length a) (sym sizes) in
    (sym here ∙ ap (take (length a)) e ∙ there, both.0)

-- what is written is read again
pub is_read_again : (v : Value) (rest : List ℕ) → IsStruct v → IsWritable v → Fits v → depth v ≤ max_depth → thrift_at (spell v ++ rest) ≡ Ok (v, rest)
is_read_again v rest is writable fits deep = struct_again max_depth v (spell v) rest (is_spelled v is writable fits) deep
