-- What a run says of its source, its sink and its notes.
use Rattle.std.specs.Prelude.{◌≡◌, ◌⊎◌, ◌++◌, ℕ, List, Option, IfSome, codes, ◌==◌, if◌then◌else◌}
use Rattle.std.specs.Io.KnownBytes.{Appends}
use Rattle.columns_base.specs.Reasons.{error_text}
use Rattle.columns_base.specs.declared.error.Error.{Error}
use Rattle.columns_base.specs.declared.error.Error.TheVariants.{InputLimit}
use Rattle.columns_base.specs.declared.error.Limit.TheVariants.{Bytes}
use Rattle.pq_io.specs.Ends.{AppendsFront}
use Rattle.pq_io.specs.Reading.{GaveAll, GavePast}
use Rattle.rewrite_notes.specs.Notes.{error_status, report_text}
use Rattle.rewrite_notes.specs.declared.report.Report.{Report}

-- The bytes that the source held, where it tells them, are so.
abbrev pub Held : Option (List ℕ) → (List ℕ → Type 0) → Type 0
Held held P = IfSome held P

-- ---- what the sink gained

-- The source gave an input whole, the sink gained one output that may come of it, and nothing else, and the notes were
-- told what the output holds.
abbrev pub Converts : (gives : List ℕ → List ℕ → Report → Type 0) → (limit : ℕ) → (held left before now : Option (List ℕ)) → (tells : List ℕ → Type 0) → Type 0
Converts gives limit held left before now tells = (report : Report) × (input : List ℕ) × (output : List ℕ) × GaveAll limit held left input × gives input output report × Appends before now output × tells (report_text report ++ codes "\n")

-- The source gave an input whole, and the sink gained a front part of an output that may come of it.
abbrev pub ConvertsInPart : (gives : List ℕ → List ℕ → Report → Type 0) → (limit : ℕ) → (held left before now : Option (List ℕ)) → Type 0
ConvertsInPart gives limit held left before now = (input : List ℕ) × (output : List ℕ) × (report : Report) × GaveAll limit held left input × gives input output report × AppendsFront before now output

-- ---- why a run ended otherwise

-- It ended with the status of this reason, which the notes were told. The source gave an input whole, of which the reason holds, or one byte
-- past the limit.
pub record IsRefusedFor (causes : List ℕ → Error → Type 0) (limit : ℕ) (held left : Option (List ℕ)) (tells : List ℕ → Type 0) (status : ℕ) (e : Error) : Type 0 where
  pub is_status : status ≡ error_status e
  pub told : tells (error_text e ++ codes "\n")
  pub cause : ((e ≡ InputLimit Bytes) × GavePast limit held left) ⊎ ((input : List ℕ) × GaveAll limit held left input × causes input e)

-- ---- the notes

-- the line of a status that names no reason, without its end
abbrev pub words_of : ℕ → List ℕ
words_of status =
    if status == 2 then codes "bad words"
    else if status == 3 then codes "ReadFault"
    else if status == 4 then codes "WriteFault"
    else codes "Memory"
