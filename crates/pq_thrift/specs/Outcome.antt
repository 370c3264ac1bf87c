-- What a call of `read_thrift` says of the bytes.
use Rattle.std.specs.Prelude.{◌≡◌, ℕ, List, drop, Result, Ok, Err}
use Rattle.columns_base.specs.declared.error.Error.{Error}
use Rattle.columns_base.specs.declared.error.Error.TheVariants as errors
use Rattle.columns_base.specs.declared.error.S.TheVariants.{S1}
use Rattle.columns_base.specs.declared.error.N.TheVariants.{N7}
use Rattle.pq_thrift.specs.declared.fault.Fault.{Fault}
use Rattle.pq_thrift.specs.declared.fault.Fault.TheVariants.{Outside, Deep}
use Rattle.pq_thrift.specs.declared.fault.Refusal.{Refusal}
use Rattle.pq_thrift.specs.declared.fault.Refusal.TheVariants as refusals
use Rattle.pq_thrift.specs.declared.value.Thrift.{Thrift}
use Rattle.pq_thrift.specs.Value.{Value, view}

-- the reason that a fault is answered with
abbrev pub reason : Fault → Error
reason Outside = errors.OutOfSpec S1
reason Deep = errors.NotYetImplemented N7

-- the same of a call's refusal
abbrev pub told : Refusal → Error
told refusals.Memory = errors.Memory
told (refusals.Fault f) = reason f

-- the error is want of memory, or the reason of what reading gives
abbrev pub IsReason : Error → Result (Value × List ℕ) Fault → Type 0
IsReason errors.Memory read = Unit {0}
IsReason (errors.OutOfSpec s) read = (s ≡ S1) × (read ≡ Err Outside)
IsReason (errors.NotYetImplemented n) read = (n ≡ N7) × (read ≡ Err Deep)
IsReason e read = ⊥

-- a value with the number of its bytes, seen as the value and the bytes after it
abbrev pub ReadsAs : List ℕ → Result (Thrift × ℕ) Error → Result (Value × List ℕ) Fault → Type 0
ReadsAs bytes (Ok x) read = read ≡ Ok (view x.0, drop x.1 bytes)
ReadsAs bytes (Err e) read = IsReason e read
