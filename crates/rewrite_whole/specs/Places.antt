-- Why the chunks of a footer are not in their places (Parquet format, "Column chunks").
use Rattle.std.specs.Prelude.{◌≡◌, ◌≢◌, ◌⊎◌, ◌+◌, ◌≤◌, ℕ, pos, Bool, true, false, List, Some, None, []}
use Rattle.columns_base.specs.declared.error.Error.{Error}
use Rattle.columns_base.specs.declared.error.Error.TheVariants.{OutOfSpec, NotYetImplemented}
use Rattle.columns_base.specs.declared.error.N.TheVariants as N
use Rattle.columns_base.specs.declared.error.S.TheVariants as S
use Rattle.pq_metadata.specs.Footer.{ChunkMeta, Footer, GroupMeta}
use Rattle.pq_tree.specs.Tree.{Leaf}
use Rattle.pq_files.specs.Carried.{start_of}
use Rattle.pq_files.specs.Reasons.{AnyOf, ChunkIsBad, GroupIsBad, IsNegative, LiesOutside, N1, N3, S2}

-- a chunk's numbers are not negative, and it lies behind the magic bytes and before the place
pub record LiesBefore (place : ℕ) (m : ChunkMeta) : Type 0 where
  pub num_values : ℕ
  pub has_num_values : m.num_values ≡ pos num_values
  pub start : ℕ
  pub starts : start_of m.data_page m.dictionary_page ≡ pos start
  pub behind_magic : 4 ≤ start
  pub size : ℕ
  pub has_size : m.size ≡ pos size
  pub before : start + size ≤ place

-- what is answered of that
abbrev pub LiesWell : ℕ → ChunkMeta → Bool → Type 0
LiesWell place m true = LiesBefore place m
LiesWell place m false = IsNegative m.num_values ⊎ IsNegative m.size ⊎ LiesOutside place m

-- of one chunk
abbrev pub RefusesChunk : ℕ → ChunkMeta → Leaf → Error → Type 0
RefusesChunk place m l e =
    ((e ≡ OutOfSpec S.S2) × ChunkIsBad place m l)
    ⊎ ((e ≡ NotYetImplemented N.N1) × (m.codec ≢ pos 0))
    ⊎ ((e ≡ NotYetImplemented N.N3) × (m.file_path ≢ None) × (m.file_path ≢ Some []))

-- of one group
abbrev pub RefusesPlaces : ℕ → List Leaf → GroupMeta → Error → Type 0
RefusesPlaces place ls g e =
    ((e ≡ OutOfSpec S.S2) × GroupIsBad place ls g)
    ⊎ ((e ≡ NotYetImplemented N.N1) × AnyOf (λ m. m.codec ≢ pos 0) g.chunks)
    ⊎ ((e ≡ NotYetImplemented N.N3) × AnyOf (λ m. (m.file_path ≢ None) × (m.file_path ≢ Some [])) g.chunks)

-- of a footer
abbrev pub RefusesStage5 : ℕ → Footer → Error → Type 0
RefusesStage5 place f e = ((e ≡ OutOfSpec S.S2) × S2 place f) ⊎ ((e ≡ NotYetImplemented N.N1) × N1 f) ⊎ ((e ≡ NotYetImplemented N.N3) × N3 f)
