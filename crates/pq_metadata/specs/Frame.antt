-- The frame of a file (Parquet format, "File format"): PAR1, the pages, the footer, its length, PAR1.
use Rattle.std.specs.Prelude.{◌≡◌, ℕ, ◌+◌, ◌-◌, ◌≤◌, List, [], ◌∷◌, ◌++◌, length, take, drop}
use Rattle.pq_numbers.specs.Texts.{number_of}

-- PAR1
abbrev pub magic : List ℕ
magic = 80 ∷ 65 ∷ 82 ∷ 49 ∷ []

-- The footer stands between the pages and its length, four bytes lowest first. The place is where it begins.
pub record IsFramed (bytes : List ℕ) (place : ℕ) (footer : List ℕ) : Type 0 where
  pub pages : List ℕ
  pub size : List ℕ
  pub parts : bytes ≡ magic ++ (pages ++ (footer ++ (size ++ magic)))
  pub four : length size ≡ 4
  pub is_size : number_of size ≡ length footer
  pub is_place : place ≡ 4 + length pages

-- ---- as it is told from the end

abbrev pub footer_length : List ℕ → ℕ
footer_length bytes = number_of (take 4 (drop (length bytes - 8) bytes))

abbrev pub footer_place : List ℕ → ℕ
footer_place bytes = length bytes - 8 - footer_length bytes

abbrev pub footer_of : List ℕ → List ℕ
footer_of bytes = take (footer_length bytes) (drop (footer_place bytes) bytes)

-- 12 bytes at least, PAR1 in front and at the end, and the footer between them
pub record HasFrame (bytes : List ℕ) : Type 0 where
  pub long : 12 ≤ length bytes
  pub front : take 4 bytes ≡ magic
  pub back : drop (length bytes - 4) bytes ≡ magic
  pub room : footer_length bytes + 12 ≤ length bytes

-- PARE at the end, as of a file whose footer is encrypted (Parquet format, "Parquet Modular Encryption")
abbrev pub EndsEncrypted : List ℕ → Type 0
EndsEncrypted bytes = drop (length bytes - 4) bytes ≡ 80 ∷ 65 ∷ 82 ∷ 69 ∷ []

-- ---- both tell the same

pub record FramesAreTold : Type 0 where
  pub told : (bytes : List ℕ) (place : ℕ) (footer : List ℕ) → IsFramed bytes place footer → HasFrame bytes
  pub framed : (bytes : List ℕ) → HasFrame bytes → IsFramed bytes (footer_place bytes) (footer_of bytes)
