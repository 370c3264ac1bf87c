-- The text of a page's header, and why none is read.
use Rattle.std.specs.Prelude.{◌≡◌, ◌≢◌, ◌⊎◌, ℕ, ℤ, pos, ◌≤◌, List, Some}
use Rattle.columns_base.specs.declared.error.Error.{Error}
use Rattle.columns_base.specs.declared.error.Error.TheVariants.{OutOfSpec, NotYetImplemented, Memory}
use Rattle.columns_base.specs.declared.error.S.TheVariants.{S3}
use Rattle.columns_base.specs.declared.error.N.TheVariants.{N4}
use Rattle.pq_numbers.specs.Texts.{Begins}
use Rattle.pq_thrift.specs.Grammar.{Spells, depth}
use Rattle.pq_thrift.specs.Value.{Value, int32, struct, Fields}
use Rattle.pq_metadata.specs.Header.{PageHeader, SpellsHeader}
use Rattle.pq_metadata.specs.Ids.{get}
use Rattle.pq_tree.specs.Reads.{HasNone}

-- The text is a struct that nests no deeper than the limit, and that says this.
abbrev pub IsHeaderText : List ℕ → PageHeader → Type 0
IsHeaderText text h = (v : Value) × Spells text v × (depth v ≤ 128) × SpellsHeader v h

-- a page type that is none of a data page, a dictionary page and a data page of version 2
abbrev pub IsOtherType : ℤ → Type 0
IsOtherType t = (t ≢ pos 0) × (t ≢ pos 2) × (t ≢ pos 3)

-- a header of an index page or of a type that isn't known
pub record IsOfOtherType (rest : List ℕ) : Type 0 where
  pub fields : Fields
  pub spells : Begins Spells rest (struct fields)
  pub nests : depth (struct fields) ≤ 128
  pub type : ℤ
  pub has_type : get 1 fields ≡ Some (int32 type)
  pub other : IsOtherType type

-- the same of a value
abbrev pub SpellsOtherType : Value → ℤ → Type 0
SpellsOtherType (struct fs) t = (get 1 fs ≡ Some (int32 t)) × IsOtherType t
SpellsOtherType v t = ⊥

-- the reason of a value that spells no header
abbrev pub TellsType : Value → Error → Type 0
TellsType v e = ((e ≡ NotYetImplemented N4) × (t : ℤ) × SpellsOtherType v t) ⊎ ((e ≡ OutOfSpec S3) × HasNone (SpellsOtherType v))

-- the reason of a header whose Thrift value is refused
abbrev pub header_reason_of : Error → Error
header_reason_of Memory = Memory
header_reason_of e = OutOfSpec S3
