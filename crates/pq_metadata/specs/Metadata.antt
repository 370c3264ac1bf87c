-- The whole footer of a file, and why none is read.
use Rattle.std.specs.Prelude.{◌≡◌, ◌⊎◌, ℕ, ◌<◌, ◌≤◌, List}
use Rattle.columns_base.specs.declared.error.Error.{Error}
use Rattle.columns_base.specs.declared.error.Error.TheVariants.{Memory, OutOfSpec, NotYetImplemented}
use Rattle.columns_base.specs.declared.error.S.TheVariants.{S1}
use Rattle.columns_base.specs.declared.error.N.TheVariants.{N2, N7}
use Rattle.pq_numbers.specs.Texts.{Begins}
use Rattle.pq_thrift.specs.Grammar.{Spells, depth}
use Rattle.pq_thrift.specs.Value.{Value}
use Rattle.pq_metadata.specs.Encrypted.{SaysEncrypted}
use Rattle.pq_metadata.specs.Footer.{Footer, SpellsFooter}
use Rattle.pq_metadata.specs.FooterReads.{NestsTooDeep}
use Rattle.pq_metadata.specs.Frame.{HasFrame, EndsEncrypted, footer_of}
use Rattle.pq_tree.specs.Reads.{HasNone}
use Rattle.pq_tree.specs.Tree.{schema_nesting}

-- The text is a struct that nests no deeper than the limit, and that says this.
abbrev pub IsFooterText : List ℕ → Footer → Type 0
IsFooterText text f = (v : Value) × Spells text v × (depth v ≤ 128) × SpellsFooter v f

-- ---- the footer's bytes

-- the footer's struct nests past the limit, or its tree does
abbrev pub FooterIsDeep : List ℕ → Type 0
FooterIsDeep bytes = NestsTooDeep bytes ⊎ ((f : Footer) × Begins IsFooterText bytes f × (128 < schema_nesting f.schema))

abbrev pub FooterIsEncrypted : List ℕ → Type 0
FooterIsEncrypted bytes = (v : Value) × Begins Spells bytes v × SaysEncrypted v

-- neither of these, and no footer stands in front
pub record NoFooter (bytes : List ℕ) : Type 0 where
  pub shallow : ¬ FooterIsDeep bytes
  pub plain : ¬ FooterIsEncrypted bytes
  pub none : HasNone (Begins IsFooterText bytes)

-- Each reason by its condition. Want of memory alone is free.
abbrev pub RefusesMetadata : List ℕ → Error → Type 0
RefusesMetadata bytes e =
    (e ≡ Memory)
    ⊎ ((e ≡ NotYetImplemented N7) × FooterIsDeep bytes)
    ⊎ ((e ≡ NotYetImplemented N2) × FooterIsEncrypted bytes)
    ⊎ ((e ≡ OutOfSpec S1) × NoFooter bytes)

-- ---- the file

abbrev pub RefusesFile : List ℕ → Error → Type 0
RefusesFile file e =
    ((e ≡ NotYetImplemented N2) × EndsEncrypted file)
    ⊎ ((e ≡ OutOfSpec S1) × (¬ HasFrame file) × (¬ EndsEncrypted file))
    ⊎ (HasFrame file × RefusesMetadata (footer_of file) e)
