-- The values of a page in memory, laid out plain.
use Rattle.std.specs.Prelude.{◌≡◌, ◌⊎◌, ℕ, Option, Some, None, List, Vec}
use Rattle.std.specs.Global.{Global}
use Rattle.columns_base.specs.declared.error.Error.{Error}
use Rattle.columns_base.specs.declared.error.Error.TheVariants.{OutOfSpec}
use Rattle.columns_base.specs.declared.error.S.TheVariants.{S3, S4, S6}
use Rattle.pq_files.specs.Page.{dictionary, delta, delta_length}
use Rattle.read_walk.specs.Pairs.{Item}
use Rattle.read_column.specs.Deltas.{AreTurned, HasFault, SpellNone, present_in}
use Rattle.read_column.specs.Dictionary.{HasValues, Means}
use Rattle.read_column.specs.Opened.{encoding_by}
use Rattle.read_column.specs.declared.deltas.Deltas.{Deltas}
use Rattle.read_column.specs.declared.page.OpenPage.{OpenPage}

-- ---- deltas
abbrev pub AreTurnedIn : Deltas → OpenPage → List Item → List ℕ → Type 0
AreTurnedIn k x items values = AreTurned k (present_in x.max_definition items) x.values.now values

-- one of the pairs cannot be read, or the section does not begin with as many values as they call for
abbrev pub AreNotTurned : Deltas → OpenPage → List Item → Error → Type 0
AreNotTurned k x items e = ((e ≡ OutOfSpec S4) × HasFault items) ⊎ ((e ≡ OutOfSpec S6) × SpellNone k (present_in x.max_definition items) x.values.now)

-- ---- of any encoding
-- the plain values stand in bytes of their own, or as they are in the page's section
abbrev pub laid_in : List ℕ → Option (Vec ℕ Global) → List ℕ
laid_in section None = section
laid_in section (Some values) = values.items

abbrev pub AreLaid : Means → OpenPage → List Item → Option (Vec ℕ Global) → Type 0
AreLaid m x items laid = HasValues m (encoding_by x.encoding) x.count (present_in x.max_definition items) x.values.now (laid_in x.values.now laid)

-- they are indices without entries, or deltas that cannot be turned
abbrev pub AreNotLaid : Means → OpenPage → List Item → Error → Type 0
AreNotLaid m x items e =
    ((e ≡ OutOfSpec S3) × (m.entries ≡ None) × (encoding_by x.encoding ≡ dictionary))
    ⊎ (((encoding_by x.encoding ≡ delta) ⊎ (encoding_by x.encoding ≡ delta_length)) × AreNotTurned m.deltas x items e)
