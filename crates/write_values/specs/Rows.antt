-- Plain values one behind the other, and what a walk over a path counts of them (Parquet format, Encodings, "Plain").
use Rattle.std.specs.Prelude.{◌≡◌, ℕ, ◌-◌, ◌^◌, ◌<◌, List, [], ◌++◌, length, map, min, All, refl}
use Rattle.std.proofs.Common.{sym, append-nil, ◌∙◌}
use Rattle.std.proofs.lemmas.List.Elements.{All-from_recursion}
use Rattle.shredding.specs.Slot.{Value}
use Rattle.pq_tree.specs.Physical.{Physical, boolean, int32, int64, int96, float, double, byte_array, fixed}
use Rattle.pq_files.specs.Plain.{InARow, IsPlain}
use Rattle.pq_files.specs.Layout.{plain_length}
use Rattle.write_values.specs.declared.measured.Measured.{Measured}

-- what is appended is the values, one behind the other
pub record AppendsRow (p : Physical) (before after : List ℕ) (vs : List Value) : Type 0 where
  pub text : List ℕ
  pub parts : after ≡ before ++ text
  pub row : InARow p text vs

-- what is appended is the plain spelling of the values
pub record AppendsPlain (p : Physical) (before after : List ℕ) (vs : List Value) : Type 0 where
  pub text : List ℕ
  pub parts : after ≡ before ++ text
  pub spelled : IsPlain p text vs

-- The number of the values at these places, and of the bytes of their plain spelling, each up to the largest number. The places are among
-- so many.
pub record Measures (p : Physical) (count : ℕ) (stored : ℕ → Value) (places : List ℕ) (m : Measured) : Type 0 where
  pub values : m.values ≡ min (length places) (2 ^ 64 - 1)
  pub plain : m.plain ≡ min (plain_length p (map stored places)) (2 ^ 128 - 1)
  pub within : All (λ i. i < count) places

-- The same, counted from 0 on.
pub record Adds (p : Physical) (count : ℕ) (stored : ℕ → Value) (places : List ℕ) (old new : Measured) : Type 0 where
  pub values : old.values ≡ 0 → new.values ≡ min (length places) (2 ^ 64 - 1)
  pub plain : old.plain ≡ 0 → new.plain ≡ min (plain_length p (map stored places)) (2 ^ 128 - 1)
  pub within : All (λ i. i < count) places

-- ---- of no places

row-nothing : (p : Physical) → InARow p [] []
row-nothing p = refl

pub row-none : (p : Physical) (out : List ℕ) → AppendsRow p out out []
row-none p out = record { text = []; parts = sym (append-nil out); row = row-nothing p }

length-nothing : (p : Physical) → plain_length p [] ≡ 0
length-nothing boolean = refl
length-nothing int32 = refl
length-nothing int64 = refl
length-nothing int96 = refl
length-nothing float = refl
length-nothing double = refl
length-nothing byte_array = refl
length-nothing (fixed n) = refl

min-zero : (n : ℕ) → n ≡ 0 → 0 ≡ min n (2 ^ 128 - 1)
min-zero n e = rw e refl

pub adds-none : (p : Physical) (count : ℕ) (stored : ℕ → Value) (m : Measured) → Adds p count stored [] m m
adds-none p count stored m =
    record { values = λ e. e; plain = λ e. e ∙ min-zero (plain_length p []) (length-nothing p); within = All-from_recursion (λ i. i < count) [] tt }
