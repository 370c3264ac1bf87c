-- What given pages hold (Parquet format, "Data Pages" and "Dictionary Page").
use Rattle.std.specs.Prelude.{◌≡◌, ℕ, List, [], ◌∷◌, length, Option, None, Some}
use Rattle.shredding.specs.Slot.{Value}
use Rattle.pq_tree.specs.Tree.{Leaf}
use Rattle.pq_files.specs.Chunk.{Chunk, IsChunk, IsPageIn, Page}
use Rattle.pq_files.specs.Plain.{IsPlain}
use Rattle.pq_numbers.specs.Texts.{Begins}
use Rattle.pq_pages.specs.Outcomes.{Levels, Outcome, gives_page, gives_dictionary}
use Rattle.pq_pages.specs.ReadsChunk.{AreItsPages}

-- data pages, one after another, in a column with these entries
abbrev pub ArePagesIn : Leaf → Option (List Value) → List Outcome → List Page → Type 0
ArePagesIn l entries [] [] = Unit {0}
ArePagesIn l entries (gives_page p levels ∷ os) (q ∷ qs) = IsPageIn l entries p q × ArePagesIn l entries os qs
ArePagesIn l entries _ _ = ⊥

-- so many entries in front of the bytes, plain
pub record AreEntriesIn (l : Leaf) (n : ℕ) (body : List ℕ) (entries : List Value) : Type 0 where
  pub count : n ≡ length entries
  pub plain : Begins (IsPlain l.physical) body entries

-- a dictionary page in front, if there is one, and data pages: the chunk of the leaf that they hold
abbrev pub HoldsChunk : Leaf → List Outcome → Chunk → Type 0
HoldsChunk l (gives_dictionary n body ∷ os) c = (entries : List Value) × (c.entries ≡ Some entries) × AreEntriesIn l n body entries × ArePagesIn l c.entries os c.pages
HoldsChunk l os c = (c.entries ≡ None) × ArePagesIn l c.entries os c.pages

-- where they are the pages of a chunk of n values in a text, that is the chunk in the text
abbrev pub PagesHoldChunks : Type 0
PagesHoldChunks = (levels : Levels) (n : ℕ) (text : List ℕ) (os : List Outcome) (l : Leaf) (c : Chunk) → AreItsPages levels n text os → HoldsChunk l os c → IsChunk l n text c
