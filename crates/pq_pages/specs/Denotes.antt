-- What a page in memory stands for (Parquet format, "Data Pages").
use Rattle.std.specs.Prelude.{◌≡◌, ℕ, ◌<◌, ◌≤◌, ◌^◌, false, Option, List, ◌++◌, length}
use Rattle.pq_thrift.specs.Written.{IsWritten}
use Rattle.shredding.specs.Slot.{Value}
use Rattle.pq_tree.specs.declared.version.Version.{Version}
use Rattle.pq_tree.specs.Physical.{Physical}
use Rattle.pq_tree.specs.Tree.{Leaf, max_repetition, max_definition}
use Rattle.pq_files.specs.Layout.{OutPage, plain_length}
use Rattle.pq_files.specs.Packed.{AreLevels, header_of, header_value, IsWrittenPage, IsWrittenDictionary}
use Rattle.pq_files.specs.Page.{IsPageOf, values_in}
use Rattle.pq_files.specs.Plain.{IsPlain}
use Rattle.pq_files.specs.Room.{room}
use Rattle.pq_files.specs.WrittenSpelling.{IsWrittenSpelled}
use Rattle.pq_pages.specs.declared.page.DictPage.{DictPage}
use Rattle.pq_pages.specs.DataPages.{DataPageValue}
use Rattle.pq_pages.specs.HeaderValue.{data_value, dict_value}

-- a leaf of this physical type with these greatest levels
pub record IsLeafAs (l : Leaf) (p : Physical) (repetition definition : ℕ) : Type 0 where
  pub physical : l.physical ≡ p
  pub repeats : max_repetition l ≡ repetition
  pub defines : max_definition l ≡ definition

-- The header has the values that the version wants, whatever the body's size, and the body spells the page's triples as they are written, in a column of the leaf with these entries.
pub record IsPageFor (version : Version) (l : Leaf) (entries : Option (List Value)) (out : OutPage) (page : DataPageValue) : Type 0 where
  -- the lengths of the level sections
  pub definition : ℕ
  pub repetition : ℕ
  pub header : (size : ℕ) → data_value page.header size ≡ header_value version out definition repetition size
  pub body : IsPageOf AreLevels (λ e section vs. IsWrittenSpelled e l entries section vs) l (header_of version out definition repetition) page.buffer out.triples
  pub encoding : body.encoding ≡ out.encoding

-- The same for each leaf of the physical type and levels, with a body within its room that no field of a header is too small for.
pub record Denotes (version : Version) (p : Physical) (repetition definition : ℕ) (entries : Option (List Value)) (out : OutPage) (page : DataPageValue) : Type 0 where
  pub is : (l : Leaf) → IsLeafAs l p repetition definition → IsPageFor version l entries out page
  pub within : length page.buffer ≤ room (length out.triples) (plain_length p (values_in out.triples))
  pub fits : length page.buffer < 2 ^ 31

-- a dictionary page of these entries, plain
pub record IsDictFor (p : Physical) (entries : List Value) (page : DictPage) : Type 0 where
  pub plain : IsPlain p page.buffer.items entries
  pub count : page.num_values ≡ length entries
  pub unsorted : page.is_sorted ≡ false
  pub within : length page.buffer.items ≤ room (length entries) (plain_length p entries)

-- ---- behind its header such a page is one of a file

pub record PagesAreWritten : Type 0 where
  pub data_pages :
      (version : Version) (l : Leaf) (entries : Option (List Value)) (out : OutPage) (page : DataPageValue) (head : List ℕ) → IsPageFor version l entries out page → 0 < length out.triples → IsWritten head (data_value page.header (length page.buffer)) → IsWrittenPage version l entries out (head ++ page.buffer)
  pub dictionary_pages :
      (l : Leaf) (entries : List Value) (page : DictPage) (head : List ℕ) → IsDictFor l.physical entries page → IsWritten head (dict_value page.num_values page.is_sorted (length page.buffer.items)) → IsWrittenDictionary l entries (head ++ page.buffer.items)
