-- Why a file is refused, as far as its footer tells: S1, N2 and N7 of the frame and the footer, S2, N1 and N3 of groups and chunks.
-- S8, N5, N6 and the reasons A speak of Arrow types and are not stated here.
use Rattle.std.specs.Prelude.{◌≡◌, ◌≢◌, ◌⊎◌, ℕ, ◌+◌, ◌<◌, ℤ, pos, ◌<ℤ◌, List, [], ◌∷◌, length, Some, None}
use Rattle.pq_metadata.specs.Footer.{ChunkMeta, GroupMeta, Footer}
use Rattle.pq_metadata.specs.Frame.{footer_of, HasFrame, EndsEncrypted}
use Rattle.pq_metadata.specs.Metadata.{FooterIsDeep, FooterIsEncrypted, NoFooter}
use Rattle.pq_tree.specs.Physical.{number_of_physical}
use Rattle.pq_tree.specs.Tree.{Leaf, columns_of}
use Rattle.pq_files.specs.Carried.{start_of}

-- ---- the frame and the footer (Parquet format, "File format" and "Metadata")

-- the footer's struct nests past 128, whatever follows the place where it does, or the tree does
abbrev pub N7 : List ℕ → Type 0
N7 bytes = HasFrame bytes × FooterIsDeep (footer_of bytes)

-- the file ends in PARE, or the footer says that it or a column is encrypted ("Parquet Modular Encryption")
abbrev pub N2 : List ℕ → Type 0
N2 bytes = EndsEncrypted bytes ⊎ (HasFrame bytes × FooterIsEncrypted (footer_of bytes))

-- No frame, or a footer that spells none: outside Thrift, or not as the tables of ids and the tree have it. Where N7 or N2 holds, it is that.
abbrev pub S1 : List ℕ → Type 0
S1 bytes = ((¬ HasFrame bytes) × (¬ EndsEncrypted bytes)) ⊎ (HasFrame bytes × NoFooter (footer_of bytes))

-- ---- groups and chunks (Parquet format, "Column chunks")

abbrev pub AnyOf : {A : Type 0} → (A → Type 0) → List A → Type 0
AnyOf P [] = ⊥
AnyOf P (x ∷ xs) = P x ⊎ AnyOf P xs

-- some chunk and its leaf
abbrev pub AnyZip : {A B : Type 0} → (A → B → Type 0) → List A → List B → Type 0
AnyZip R (x ∷ xs) (y ∷ ys) = R x y ⊎ AnyZip R xs ys
AnyZip R _ _ = ⊥

abbrev pub IsNegative : ℤ → Type 0
IsNegative z = z <ℤ pos 0

abbrev pub LiesOutside : ℕ → ChunkMeta → Type 0
LiesOutside place m = (start_of m.data_page m.dictionary_page <ℤ pos 4) ⊎ ((start : ℕ) × (size : ℕ) × (start_of m.data_page m.dictionary_page ≡ pos start) × (m.size ≡ pos size) × (place < start + size))

abbrev pub ChunkIsBad : ℕ → ChunkMeta → Leaf → Type 0
ChunkIsBad place m l = (m.physical ≢ pos (number_of_physical l.physical)) ⊎ IsNegative m.num_values ⊎ IsNegative m.size ⊎ LiesOutside place m

abbrev pub GroupIsBad : ℕ → List Leaf → GroupMeta → Type 0
GroupIsBad place ls g = (length g.chunks ≢ length ls) ⊎ IsNegative g.num_rows ⊎ AnyZip (ChunkIsBad place) g.chunks ls

-- a group without one chunk for each leaf, or a chunk of another type, with a negative number, or outside of the file's data
abbrev pub S2 : ℕ → Footer → Type 0
S2 place f = AnyOf (GroupIsBad place (columns_of f.schema)) f.groups

-- a chunk is compressed ("Compression")
abbrev pub N1 : Footer → Type 0
N1 f = AnyOf (λ g. AnyOf (λ m. m.codec ≢ pos 0) g.chunks) f.groups

-- a chunk's bytes lie in another file
abbrev pub N3 : Footer → Type 0
N3 f = AnyOf (λ g. AnyOf (λ m. (m.file_path ≢ None) × (m.file_path ≢ Some [])) g.chunks) f.groups
