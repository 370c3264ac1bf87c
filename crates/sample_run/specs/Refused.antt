-- Why a file in memory is not rewritten.
use Rattle.std.specs.Prelude.{◌≡◌, ◌⊎◌, ◌<◌, ℕ, List, length}
use Rattle.columns_base.specs.declared.error.Error.{Error}
use Rattle.columns_base.specs.declared.error.Error.TheVariants.{InputLimit, Memory}
use Rattle.columns_base.specs.declared.error.Limit.TheVariants.{Bytes}
use Rattle.pq_headline.specs.Stages.{Refuses}
use Rattle.sample_run.specs.Files.{plain_codec, sample_asked, sample_options}

-- want of memory, or more bytes than are read, or a cause in the file: no fault of a source or sink, since neither can fail
abbrev pub IsNotRewritten : List ℕ → Error → Type 0
IsNotRewritten input e = (e ≡ Memory) ⊎ ((e ≡ InputLimit Bytes) × (sample_options.byte_limit < length input)) ⊎ Refuses plain_codec sample_asked input e
