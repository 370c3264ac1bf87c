-- The places of the entries that keys name, as they are written (Parquet format, Encodings, "Dictionary Encoding" and "Run Length Encoding /
-- Bit-Packing Hybrid").
use Rattle.std.specs.Prelude.{◌≡◌, ◌⊎◌, ◌+◌, ◌*◌, ◌≤◌, ℕ, ℤ, List, [], ◌++◌, length, map, All, Contains, refl}
use Rattle.std.proofs.Common.{sym, subst, append-nil}
use Rattle.columns_slots.specs.Slots.{entry_at}
use Rattle.pq_files.specs.WrittenSpelling.{AreWrittenIndices}
use Rattle.pq_runs.specs.Writing.{Keeps, Waiting}

-- a number that none of these passes: the largest of them, or 0 where there is none
pub record IsLargest (ns : List ℕ) (n : ℕ) : Type 0 where
  pub most : All (λ m. m ≤ n) ns
  pub among : (n ≡ 0) ⊎ Contains ns n

-- The places of the entries that the keys at these positions name are written by the writer, behind those that it was given.
abbrev pub Writes : List ℤ → List ℕ → List ℕ → Waiting → List ℕ → Waiting → Type 0
Writes ks places before old after new =
    (new.width ≡ old.width) × ((start xs : List ℕ) → Keeps start before old xs → Keeps start after new (xs ++ map (entry_at ks) places))

pub writes-none : (ks : List ℤ) (out : List ℕ) (w : Waiting) → Writes ks [] out w out w
writes-none ks out w = (refl, λ start xs h. subst (λ (ys : List ℕ). Keeps start out w ys) (sym (append-nil xs)) h)

-- What is appended is these indices as they are written, in no more than 11 bytes for each and 310 beside.
pub record AppendsIndices (before after ns : List ℕ) : Type 0 where
  pub text : List ℕ
  pub parts : after ≡ before ++ text
  pub are : AreWrittenIndices text ns
  pub size : length text ≤ 11 * length ns + 310
