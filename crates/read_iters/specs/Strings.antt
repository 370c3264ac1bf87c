-- What is taken from plain byte strings (Parquet format, Encodings, "Plain").
use Rattle.std.specs.Prelude.{◌≡◌, ◌≢◌, ◌<◌, ℕ, suc, List, [], ◌++◌, Option, Some, None, Result, Ok, Err}
use Rattle.columns_base.specs.declared.error.Error.{Error}
use Rattle.columns_base.specs.declared.error.Error.TheVariants.{OutOfSpec}
use Rattle.columns_base.specs.declared.error.S.TheVariants.{S6}
use Rattle.pq_files.specs.Plain.{IsPrefixed}
use Rattle.read_iters.specs.declared.strings.BinaryIter.{BinaryIter}
use Rattle.read_iters.specs.declared.strings.SizedBinaryIter.{SizedBinaryIter}

-- a string stands at the front, and these bytes behind it
pub record TakesString (text s rest : List ℕ) : Type 0 where
  pub first : List ℕ
  pub prefixed : IsPrefixed first s
  pub parts : text ≡ first ++ rest

-- its length or its bytes are cut
abbrev pub NoString : List ℕ → Type 0
NoString text = (s rest : List ℕ) → TakesString text s rest → ⊥

-- The string at the front, an error where there is none but bytes, and after it nothing. `bytes` reads what is lent.
abbrev pub StepsString : {R : Type 0} → (R → List ℕ) → BinaryIter → Option (Result R Error) → BinaryIter → Type 0
StepsString bytes it None it' = (it.values.now ≡ []) × (it'.values.now ≡ [])
StepsString bytes it (Some (Ok s)) it' = TakesString it.values.now (bytes s) it'.values.now
StepsString bytes it (Some (Err e)) it' = (e ≡ OutOfSpec S6) × (it.values.now ≢ []) × NoString it.values.now × (it'.values.now ≡ [])

-- The same for so many strings: an error where one of them is missing.
abbrev pub StepsSized : {R : Type 0} → (R → List ℕ) → SizedBinaryIter → Option (Result R Error) → SizedBinaryIter → Type 0
StepsSized bytes it None it' = (it.left ≡ 0) × (it'.left ≡ 0)
StepsSized bytes it (Some (Ok s)) it' = TakesString it.values.now (bytes s) it'.values.now × (it.left ≡ suc it'.left)
StepsSized bytes it (Some (Err e)) it' = (e ≡ OutOfSpec S6) × (0 < it.left) × NoString it.values.now × (it'.left ≡ 0)
