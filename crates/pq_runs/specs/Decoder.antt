-- One run after another.
use Rattle.std.specs.Prelude.{◌≡◌, [], Option, Some, None, Result, Ok, Err}
use Rattle.pq_runs.specs.declared.decoder.Decoder.{Decoder}
use Rattle.columns_base.specs.declared.error.Error.{Error}
use Rattle.pq_runs.specs.declared.run.Run.{Run}
use Rattle.pq_runs.specs.Hybrid.{fault}
use Rattle.pq_runs.specs.Taking.{IsRun, NoRun}

-- the run at the front, an error where there is none but bytes, and after it nothing
abbrev pub StepsRun : Decoder → Option (Result Run Error) → Decoder → Type 0
StepsRun d None d' = (d.values.now ≡ []) × (d'.values.now ≡ []) × (d'.num_bits ≡ d.num_bits)
StepsRun d (Some (Ok run)) d' = IsRun d.num_bits d.values.now run d'.values.now × (d'.num_bits ≡ d.num_bits)
StepsRun d (Some (Err e)) d' = (e ≡ fault) × NoRun d.num_bits d.values.now × (d'.values.now ≡ []) × (d'.num_bits ≡ d.num_bits)
