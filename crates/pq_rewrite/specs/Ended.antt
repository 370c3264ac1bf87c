-- What a call says whose options may ask for pieces of no rows.
use Rattle.std.specs.Prelude.{◌≡◌, ◌≢◌, ◌⊎◌, ◌++◌, ℕ, List, Some, codes, String, map, string_bytes, Option, Result}
use Rattle.std.specs.declared.alloc.Global.{Global}
use Rattle.columns_base.specs.Reasons.{error_text}
use Rattle.columns_base.specs.declared.error.Error.{Error}
use Rattle.columns_base.specs.declared.error.Error.TheVariants.{InvalidArgumentError}
use Rattle.columns_base.specs.declared.error.A.TheVariants.{A1}
use Rattle.rewrite_words.specs.Words.{options_of}
use Rattle.rewrite_words.specs.declared.options.RewriteOptions.{RewriteOptions}
use Rattle.rewrite_whole.specs.Answer.{Ends, KeptUnlessWritten, Meaning, Rewrote}
use Rattle.rewrite_notes.specs.Notes.{error_status, line, status as answer_status}
use Rattle.rewrite_notes.specs.declared.report.Report.{Report}

-- what the words ask for, if they are in the form of words
abbrev pub asked_in : List (String Global) → Option RewriteOptions
asked_in words = options_of (map string_bytes words)

-- pieces of some rows
abbrev pub AreTaken : RewriteOptions → Type 0
AreTaken o = o.chunk_size ≢ Some 0

-- a chunk size of no rows
abbrev pub Declines : RewriteOptions → Error → Type 0
Declines o e = (e ≡ InvalidArgumentError A1) × (o.chunk_size ≡ Some 0)

-- The options were declined by the status and the line of the reason, and nothing was touched.
pub record AreDeclined (o : RewriteOptions) (tells : List ℕ → Type 0) (kept : Type 0) (n : ℕ) : Type 0 where
  pub reason : Error
  pub declines : Declines o reason
  pub is_status : n ≡ error_status reason
  pub told : tells (error_text reason ++ codes "\n")
  pub untouched : kept

-- The status of some answer, whose line was told.
abbrev pub Answered : Meaning → ℕ → Ends → (tells : List ℕ → Type 0) → (kept : Type 0) → ℕ → Type 0
Answered meaning limit ends tells kept status = (answer : Result Report Error) × (status ≡ answer_status answer) × tells (line answer) × Rewrote meaning limit ends answer × KeptUnlessWritten kept answer

-- Nothing was touched (the first), or some answer was given, in which the sink may be as it was (the second).
abbrev pub Ended : RewriteOptions → Meaning → Ends → (tells : List ℕ → Type 0) → (untouched kept : Type 0) → ℕ → Type 0
Ended o m e tells untouched kept n = AreDeclined o tells untouched n ⊎ (AreTaken o × Answered m o.byte_limit e tells kept n)
