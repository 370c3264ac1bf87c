-- What a refusal of a conversion says.
use Rattle.std.proofs.Common.{◌≡◌, ◌⊎◌, ℕ, List, Err, inl, inr}
use Rattle.std.specs.Io.KnownBytes.{Keeps}
use Rattle.columns_base.specs.declared.error.Error.{Error}
use Rattle.columns_base.specs.declared.error.Error.TheVariants.{ReadFault, WriteFault, InputLimit, OutOfSpec, NotYetImplemented, InvalidArgumentError, Overflow, Memory}
use Rattle.columns_base.specs.declared.error.Limit.TheVariants.{Bytes, Pairs}
use Rattle.columns_base.specs.declared.error.A.TheVariants.{A1, A8}
use Rattle.pq_io.specs.Reading.{GaveAll}
use Rattle.rewrite_whole.specs.Answer.{Meaning, Ends, Rewrote, IsOfInput, KeptUnlessWritten}

-- what stands between reading and writing refused the input
pub refused : (m : Meaning) (limit : ℕ) (e : Ends) (x : Error) (input : List ℕ) → Keeps e.taken_old e.taken_new → GaveAll limit e.left_old e.left_new input → (x ≡ Memory) ⊎ (IsOfInput x × m.refuses input x) → Rewrote m limit e (Err x)
refused m limit e ReadFault input k g (inl w) = cc
refused m limit e ReadFault input k g (inr w) = absurd w.0
refused m limit e WriteFault input k g (inl w) = cc
refused m limit e WriteFault input k g (inr w) = absurd w.0
refused m limit e (InputLimit Bytes) input k g (inl w) = cc
refused m limit e (InputLimit Bytes) input k g (inr w) = absurd w.0
refused m limit e (InputLimit Pairs) input k g (inl w) = cc
refused m limit e (InputLimit Pairs) input k g (inr w) = (input, g, w.1)
refused m limit e (OutOfSpec s) input k g (inl w) = cc
refused m limit e (OutOfSpec s) input k g (inr w) = (input, g, w.1)
refused m limit e (NotYetImplemented n) input k g (inl w) = cc
refused m limit e (NotYetImplemented n) input k g (inr w) = (input, g, w.1)
refused m limit e (InvalidArgumentError A1) input k g (inl w) = cc
refused m limit e (InvalidArgumentError A1) input k g (inr w) = absurd w.0
refused m limit e (InvalidArgumentError A8) input k g (inl w) = cc
refused m limit e (InvalidArgumentError A8) input k g (inr w) = absurd w.0
refused m limit e (InvalidArgumentError x) input k g (inl w) = cc
refused m limit e (InvalidArgumentError x) input k g (inr w) = (input, g, w.1)
refused m limit e (Overflow v) input k g (inl w) = cc
refused m limit e (Overflow v) input k g (inr w) = (input, g, w.1)
refused m limit e Memory input k g w = inl k

-- and the sink is then as it was
pub kept_at : (kept : Type 0) (x : Error) → kept → KeptUnlessWritten kept (Err x)
kept_at kept ReadFault k = k
kept_at kept WriteFault k = tt
kept_at kept (InputLimit l) k = k
kept_at kept (OutOfSpec s) k = k
kept_at kept (NotYetImplemented n) k = k
kept_at kept (InvalidArgumentError a) k = k
kept_at kept (Overflow v) k = k
kept_at kept Memory k = tt
