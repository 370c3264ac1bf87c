-- The lines that a call puts on its notes, and the status that it ends with.
use Rattle.std.specs.Prelude.{◌⊎◌, ◌++◌, List, ℕ, Option, Result, Ok, Err, codes, decimal}
use Rattle.std.specs.Io.KnownBytes.{Appends}
use Rattle.pq_io.specs.Causes.{Rose}
use Rattle.pq_io.specs.Ends.{AppendsFront}
use Rattle.columns_base.specs.Reasons.{error_text}
use Rattle.columns_base.specs.declared.error.Error.{Error}
use Rattle.columns_base.specs.declared.error.Error.TheVariants.{ReadFault, WriteFault, InputLimit, OutOfSpec, NotYetImplemented, InvalidArgumentError, Overflow, Memory}
use Rattle.rewrite_notes.specs.declared.report.Report.{Report}

-- groups G, rows R, pages P
unfoldable pub report_text : Report → List ℕ
report_text report = codes "groups " ++ decimal report.groups ++ codes ", rows " ++ decimal report.rows ++ codes ", pages " ++ decimal report.data_pages

-- the two lines of a sample: its report, and the number and the sum of its items
unfoldable pub sample_text : Report → ℕ → ℕ → List ℕ
sample_text report count sum = report_text report ++ codes "\nitems " ++ decimal count ++ codes ", sum " ++ decimal sum ++ codes "\n"

-- the text of an answer, without the line's end
abbrev pub text : Result Report Error → List ℕ
text (Ok report) = report_text report
text (Err e) = error_text e

abbrev pub line : Result Report Error → List ℕ
line answer = text answer ++ codes "\n"

abbrev pub bad_words : List ℕ
bad_words = codes "bad words\n"

abbrev pub error_status : Error → ℕ
error_status ReadFault = 3
error_status WriteFault = 4
error_status (InputLimit l) = 5
error_status (OutOfSpec s) = 6
error_status (NotYetImplemented n) = 7
error_status (InvalidArgumentError a) = 8
error_status (Overflow v) = 9
error_status Memory = 10

abbrev pub status : Result Report Error → ℕ
status (Ok report) = 0
status (Err e) = error_status e

-- The notes gained the line whole, or a front part of it where one of their counts rose.
abbrev pub Told : {M : Type 0} → (M → Option (List ℕ)) → (M → ℕ) → (M → ℕ) → M → M → List ℕ → Type 0
Told taken faults wants old new bytes = Appends (taken old) (taken new) bytes ⊎ ((Rose (faults old) (faults new) ⊎ Rose (wants old) (wants new)) × AppendsFront (taken old) (taken new) bytes)
