-- Why a schema goes under no key.
use Rattle.std.specs.Prelude.{◌≡◌, ◌<◌, ℕ, List, length}
use Rattle.columns_base.specs.declared.error.Error.{Error}
use Rattle.columns_base.specs.declared.error.Error.TheVariants.{Overflow}
use Rattle.columns_base.specs.declared.error.V.TheVariants.{V3}
use Rattle.schema_codec.specs.Ranges.{max_length}

-- its bytes are too many
abbrev pub IsTooLong : List ℕ → Error → Type 0
IsTooLong bytes e = (e ≡ Overflow V3) × (max_length < length bytes)
