-- Near misses of the first file: a page or a file that differs in one place.
use Rattle.std.specs.Prelude.{ℕ, pos, Option, Some, None, List, [], ◌∷◌, ◌++◌, take, drop}
use Rattle.shredding.specs.Shred.{Triple}
use Rattle.shredding.specs.Slot.{Value}
use Rattle.pq_tree.specs.declared.version.Version.{Version}
use Rattle.pq_metadata.specs.Footer.{Key}
use Rattle.pq_metadata.specs.Header.{Header, data_page}
use Rattle.pq_tree.specs.Tree.{Schema, Leaf}
use Rattle.pq_files.specs.Carried.{IsNotCarried}
use Rattle.pq_files.specs.FirstFile.{head, body, footer, file, file_of, the_leaf}
use Rattle.pq_files.specs.Layout.{OutPage, OutGroup}
use Rattle.pq_files.specs.Packed.{IsWrittenPage, Packed}
use Rattle.pq_files.specs.Page.{IsPage}
use Rattle.pq_files.specs.Reasons.{S1}
use Rattle.pq_files.specs.WrittenExample.{file_of as written_of, footer as written_footer}

-- ---- pages

-- a header of so many pairs
abbrev pub header : ℕ → Header
header n = data_page (record { num_values = n; encoding = pos 0; definition_encoding = Some (pos 3); repetition_encoding = Some (pos 3) })

-- the body with two bytes of definition levels in place of three, which hold four of the five
abbrev pub cut_levels : List ℕ
cut_levels = take 6 body ++ (2 ∷ drop 7 body)

-- neither is the first a page of five pairs, nor the whole body one of nine
pub record AreNoPages : Type 0 where
  pub levels_cut : (ts : List Triple) → IsPage the_leaf None (header 5) cut_levels ts → ⊥
  pub too_many : (ts : List Triple) → IsPage the_leaf None (header 9) body ts → ⊥

-- ---- files

-- the header says six pairs
abbrev pub head_of_six : List ℕ
head_of_six = take 8 head ++ (12 ∷ drop 9 head)

-- the group says five rows
abbrev pub footer_of_five : List ℕ
footer_of_five = take 92 footer ++ (10 ∷ drop 93 footer)

-- without the last byte of the footer, so that its length reaches into the page
abbrev pub cut_file : List ℕ
cut_file = take 136 file ++ drop 137 file

pub record AreNotCarried : Type 0 where
  pub levels_cut : IsNotCarried (file_of (head ++ cut_levels) footer)
  pub one_pair_more : IsNotCarried (file_of (head_of_six ++ body) footer)
  pub one_row_more : IsNotCarried (file_of (head ++ body) footer_of_five)
  pub footer_cut : S1 cut_file × IsNotCarried cut_file

-- the bytes are no packed file
abbrev pub IsNotPacked : List ℕ → Type 0
IsNotPacked bytes = (tree : Schema) (keys : List Key) (version : Version) (groups : List OutGroup) → Packed bytes tree keys version groups → ⊥

-- the written header with its first number, 0, in two bytes
abbrev pub padded_head : List ℕ
padded_head = take 1 head ++ (128 ∷ drop 1 head)

-- the written footer with the number of its elements, 4, behind the list's head
abbrev pub long_footer : List ℕ
long_footer = take 3 written_footer ++ (252 ∷ 4 ∷ drop 4 written_footer)

-- no text that begins so is a page, of whatever column
abbrev pub IsNoWrittenPage : List ℕ → Type 0
IsNoWrittenPage text = (version : Version) (l : Leaf) (entries : Option (List Value)) (p : OutPage) → IsWrittenPage version l entries p text → ⊥

-- The first file lacks ids that a packed one has. The others are the one that is written for it, with a byte behind the footer's struct, and with spellings of the same values that are longer than need be.
pub record AreNotPacked : Type 0 where
  pub few_ids : IsNotPacked file
  pub stray_byte : IsNotPacked (written_of 160 (head ++ body) (written_footer ++ 0 ∷ []))
  pub long_list : IsNotPacked (written_of 160 (head ++ body) long_footer)
  pub padded_number : IsNoWrittenPage (padded_head ++ body)
