-- Why no footer is read from bytes.
use Rattle.std.specs.Prelude.{◌≡◌, ◌⊎◌, ℕ, List}
use Rattle.columns_base.specs.declared.error.Error.{Error}
use Rattle.columns_base.specs.declared.error.Error.TheVariants.{Memory, OutOfSpec, NotYetImplemented}
use Rattle.columns_base.specs.declared.error.S.TheVariants.{S1}
use Rattle.columns_base.specs.declared.error.N.TheVariants.{N7}
use Rattle.pq_numbers.specs.Texts.{Begins}
use Rattle.pq_thrift.specs.declared.kind.Kind.TheVariants as kinds
use Rattle.pq_thrift.specs.Nesting.{NestsPast}
use Rattle.pq_thrift.specs.Reading.{max_depth}
use Rattle.pq_metadata.specs.FlatFooter.{SpellsFlatRecord}
use Rattle.pq_tree.specs.Reads.{HasNone}

-- the struct in front nests past the limit, before it leaves the grammar
abbrev pub NestsTooDeep : List ℕ → Type 0
NestsTooDeep = NestsPast max_depth kinds.Struct

-- No footer stands in front: the reason is its nesting, where it nests too deep, and else that it is out of the format. Want of memory alone is free.
abbrev pub RefusesFooter : List ℕ → Error → Type 0
RefusesFooter bytes e = (e ≡ Memory) ⊎ (HasNone (Begins SpellsFlatRecord bytes) × (((e ≡ OutOfSpec S1) × (¬ NestsTooDeep bytes)) ⊎ ((e ≡ NotYetImplemented N7) × NestsTooDeep bytes)))
