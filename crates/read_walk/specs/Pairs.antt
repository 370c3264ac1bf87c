-- The level pairs of a page (Parquet format, "Nested Encoding" and "Data Pages").
use Rattle.std.specs.Prelude.{◌≡◌, ℕ, zero, suc, ◌+◌, ◌^◌, ◌≤◌, Bool, true, false, ◌&&◌, nat_le, nat_eq, if◌then◌else◌, Option, Some, None, Result, Ok, Err, List, [], ◌∷◌, ◌++◌, length, replicate, slice_index, count_by}
use Rattle.columns_base.specs.declared.error.Error.{Error}
use Rattle.columns_base.specs.declared.error.Error.TheVariants.{OutOfSpec}
use Rattle.columns_base.specs.declared.error.S.TheVariants.{S4}
use Rattle.pq_runs.specs.Hybrid.{hybrid}
use Rattle.pq_runs.specs.Hybrid.{Item as LevelItem}

-- a repetition level and a definition level
abbrev pub Pair : Type 0
Pair = ℕ × ℕ

-- what a page still gives: pairs, and in the place of the first that cannot be read S4, behind which nothing comes
abbrev pub Item : Type 0
Item = Result Pair Error

abbrev pub fault : Item
fault = Err (OutOfSpec S4)

-- pairs as far as both levels are there, and a fault where one is not
abbrev pub zip_items : List LevelItem → List LevelItem → List Item
zip_items [] [] = []
zip_items (Ok r ∷ rs) (Ok d ∷ ds) = Ok (r, d) ∷ zip_items rs ds
zip_items _ _ = fault ∷ []

abbrev pub is_within : ℕ → ℕ → Pair → Bool
is_within max_rep max_def p = nat_le p.0 max_rep && nat_le p.1 max_def

-- a fault in the place of the first pair of which a level is above its greatest
abbrev pub up_to_maxima : ℕ → ℕ → List Item → List Item
up_to_maxima max_rep max_def [] = []
up_to_maxima max_rep max_def (Err e ∷ is) = Err e ∷ is
up_to_maxima max_rep max_def (Ok p ∷ is) = if is_within max_rep max_def p then Ok p ∷ up_to_maxima max_rep max_def is else fault ∷ []

-- the pairs of two level sections, where so many are called for
abbrev pub page_items : ℕ → ℕ → ℕ → ℕ → ℕ → List ℕ → List ℕ → List Item
page_items max_rep rep_width max_def def_width n reps defs = up_to_maxima max_rep max_def (zip_items (hybrid rep_width n reps) (hybrid def_width n defs))

-- so many pairs of two runs of levels from a place on
abbrev pub block_items : List ℕ → List ℕ → ℕ → ℕ → List Item
block_items reps defs at zero = []
block_items reps defs at (suc n) = Ok (slice_index reps at, slice_index defs at) ∷ block_items reps defs (at + 1) n

-- what stands behind the levels that were read: a fault, or what the readers still give
abbrev pub behind : ℕ → ℕ → Bool → List LevelItem → List LevelItem → List Item
behind max_rep max_def true rs ds = fault ∷ []
behind max_rep max_def false rs ds = up_to_maxima max_rep max_def (zip_items rs ds)

-- so many equal pairs
abbrev pub equal_pairs : ℕ → ℕ → ℕ → List Item
equal_pairs rep level n = replicate n (Ok (rep, level))

-- the pairs of two runs of levels
abbrev pub pair_items : List ℕ → List ℕ → List Item
pair_items (r ∷ rs) (d ∷ ds) = Ok (r, d) ∷ pair_items rs ds
pair_items _ _ = []

abbrev pub is_row : ℕ → Bool
is_row rep = nat_eq rep 0

-- how many of the pairs begin a row
abbrev pub rows_in : List ℕ → ℕ
rows_in reps = count_by is_row reps

-- nothing is left, or a row begins and none more is wanted
abbrev pub StopsAt : ℕ → List Item → Type 0
StopsAt rows [] = Unit {0}
StopsAt rows (Ok p ∷ is) = (p.0 ≡ 0) × (rows ≡ 0)
StopsAt rows (Err e ∷ is) = ⊥

-- The next pairs, of which at most so many begin a row: an error where the next pair is one, and nothing where none more may be taken.
abbrev pub TakesBlock : ℕ → List Item → Option (Result ℕ Error) → List ℕ → List ℕ → List Item → Type 0
TakesBlock rows old None reps defs new = (new ≡ old) × StopsAt rows old
TakesBlock rows old (Some (Ok begun)) reps defs new = (old ≡ pair_items reps defs ++ new) × (length defs ≡ length reps) × (1 ≤ length reps) × (length reps ≤ 64) × (begun ≡ rows_in reps) × (begun ≤ rows)
TakesBlock rows old (Some (Err e)) reps defs new = (e ≡ OutOfSpec S4) × ((is : List Item) × (old ≡ fault ∷ is))

-- One pair or more taken, of which so many begin a row, and no more than wanted.
abbrev pub TakesPairs : ℕ → List Item → ℕ → List ℕ → List ℕ → List Item → Type 0
TakesPairs rows old begun reps defs new = (old ≡ pair_items reps defs ++ new) × (length defs ≡ length reps) × (1 ≤ length reps) × (begun ≡ rows_in reps) × (begun ≤ rows)

-- So many equal pairs taken, or nothing.
abbrev pub TakesCopies : ℕ → List Item → Option (ℕ × ℕ × ℕ) → List Item → Type 0
TakesCopies rows old None new = new ≡ old
TakesCopies rows old (Some s) new = TakesPairs rows old (rows_in (replicate s.2 s.0)) (replicate s.2 s.0) (replicate s.2 s.1) new × (s.2 ≤ 2 ^ 31)

-- The next equal pairs, at most so many; an error where the next pair is one, and nothing behind it; nothing at the end.
abbrev pub TakesRun : ℕ → List Item → Option (Result (ℕ × ℕ × ℕ) Error) → List Item → Type 0
TakesRun limit old None new = (old ≡ []) × (new ≡ [])
TakesRun limit old (Some (Ok s)) new = (1 ≤ s.2) × (s.2 ≤ limit) × (old ≡ equal_pairs s.0 s.1 s.2 ++ new)
TakesRun limit old (Some (Err e)) new = (e ≡ OutOfSpec S4) × (old ≡ fault ∷ []) × (new ≡ [])
