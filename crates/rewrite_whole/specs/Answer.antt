-- What an answer says of the source and the sink.
use Rattle.std.specs.Prelude.{◌⊎◌, ℕ, List, Option, Result, Ok, Err, ⊤}
use Rattle.std.specs.Io.KnownBytes.{Appends, Keeps}
use Rattle.pq_io.specs.Causes.{Rose}
use Rattle.pq_io.specs.Ends.{AppendsFront}
use Rattle.columns_base.specs.declared.error.Error.{Error}
use Rattle.columns_base.specs.declared.error.Error.TheVariants.{ReadFault, WriteFault, InputLimit, OutOfSpec, NotYetImplemented, InvalidArgumentError, Overflow, Memory}
use Rattle.columns_base.specs.declared.error.Limit.TheVariants.{Bytes, Pairs}
use Rattle.columns_base.specs.declared.error.A.TheVariants.{A1, A8}
use Rattle.rewrite_notes.specs.declared.report.Report.{Report}
use Rattle.pq_io.specs.Reading.{GaveAll, GavePast}

-- a refusal that the input's bytes decide
abbrev pub IsOfInput : Error → Type 0
IsOfInput ReadFault = ⊥
IsOfInput WriteFault = ⊥
IsOfInput (InputLimit Bytes) = ⊥
IsOfInput (InputLimit Pairs) = ⊤
IsOfInput (OutOfSpec s) = ⊤
IsOfInput (NotYetImplemented n) = ⊤
IsOfInput (InvalidArgumentError A1) = ⊥
IsOfInput (InvalidArgumentError A8) = ⊥
IsOfInput (InvalidArgumentError a) = ⊤
IsOfInput (Overflow v) = ⊤
IsOfInput Memory = ⊥

-- what may come of an input, and why one may be refused
pub record Meaning : Type 1 where
  pub gives : List ℕ → List ℕ → Report → Type 0
  pub refuses : List ℕ → Error → Type 0

abbrev pub meaning : (List ℕ → List ℕ → Report → Type 0) → (List ℕ → Error → Type 0) → Meaning
meaning gives refuses = record { gives = gives; refuses = refuses }

-- what the ends tell before a call and after it
pub record Ends : Type 0 where
  pub left_old : Option (List ℕ)
  pub left_new : Option (List ℕ)
  pub reads_old : ℕ
  pub reads_new : ℕ
  pub taken_old : Option (List ℕ)
  pub taken_new : Option (List ℕ)
  pub writes_old : ℕ
  pub writes_new : ℕ

abbrev pub ends : {S K : Type 0} → (S → Option (List ℕ)) → (S → ℕ) → (K → Option (List ℕ)) → (K → ℕ) → S → S → K → K → Ends
ends left reads taken writes s0 s1 k0 k1 = record {
  left_old = left s0;
  left_new = left s1;
  reads_old = reads s0;
  reads_new = reads s1;
  taken_old = taken k0;
  taken_new = taken k1;
  writes_old = writes k0;
  writes_new = writes k1;
}

-- The source gave an input whole, and the sink gained one output for it, and nothing else.
abbrev pub Wrote : Meaning → ℕ → Ends → Report → Type 0
Wrote meaning limit ends report = (input : List ℕ) × (output : List ℕ) × GaveAll limit ends.left_old ends.left_new input × meaning.gives input output report × Appends ends.taken_old ends.taken_new output

-- The source gave an input whole, and the sink gained a front part of an output for it.
abbrev pub WroteFront : Meaning → ℕ → Ends → Type 0
WroteFront meaning limit ends = (input : List ℕ) × (output : List ℕ) × (report : Report) × GaveAll limit ends.left_old ends.left_new input × meaning.gives input output report × AppendsFront ends.taken_old ends.taken_new output

-- The source gave an input whole, and its bytes have this cause.
abbrev pub Refused : Meaning → ℕ → Ends → Error → Type 0
Refused meaning limit ends e = (input : List ℕ) × GaveAll limit ends.left_old ends.left_new input × meaning.refuses input e

-- What each answer of a rewrite says.
abbrev pub Rewrote : Meaning → ℕ → Ends → Result Report Error → Type 0
Rewrote meaning limit ends (Ok report) = Wrote meaning limit ends report
Rewrote meaning limit ends (Err ReadFault) = Rose ends.reads_old ends.reads_new
Rewrote meaning limit ends (Err WriteFault) = Rose ends.writes_old ends.writes_new × WroteFront meaning limit ends
Rewrote meaning limit ends (Err (InputLimit Bytes)) = GavePast limit ends.left_old ends.left_new
Rewrote meaning limit ends (Err (InputLimit Pairs)) = Refused meaning limit ends (InputLimit Pairs)
Rewrote meaning limit ends (Err (OutOfSpec s)) = Refused meaning limit ends (OutOfSpec s)
Rewrote meaning limit ends (Err (NotYetImplemented n)) = Refused meaning limit ends (NotYetImplemented n)
Rewrote meaning limit ends (Err (InvalidArgumentError A1)) = ⊥
Rewrote meaning limit ends (Err (InvalidArgumentError A8)) = ⊥
Rewrote meaning limit ends (Err (InvalidArgumentError a)) = Refused meaning limit ends (InvalidArgumentError a)
Rewrote meaning limit ends (Err (Overflow v)) = Refused meaning limit ends (Overflow v)
Rewrote meaning limit ends (Err Memory) = Keeps ends.taken_old ends.taken_new ⊎ WroteFront meaning limit ends

-- Only an answer that comes while the sink is written, or for want of memory, may leave the sink changed.
abbrev pub KeptUnlessWritten : (kept : Type 0) → Result Report Error → Type 0
KeptUnlessWritten kept (Ok report) = ⊤
KeptUnlessWritten kept (Err WriteFault) = ⊤
KeptUnlessWritten kept (Err Memory) = ⊤
KeptUnlessWritten kept (Err e) = kept
