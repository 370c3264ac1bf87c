-- Worked examples of encodings, pages and room, and near misses of them.
use Rattle.std.specs.Prelude.{◌≡◌, ℕ, ◌+◌, ◌^◌, ◌-◌, pos, negsuc, true, false, Some, None, codes, List, [], ◌∷◌, ◌++◌, length, map, replicate}
use Rattle.std.specs.Int.{w32}
use Rattle.shredding.specs.Shape.{nothing, months, decimal, signed, unsigned, at_leaf, in_list, in_struct}
use Rattle.shredding.specs.Share.{ColumnsAgree}
use Rattle.shredding.specs.Shred.{Triple}
use Rattle.shredding.specs.Slot.{Value, truth, number, bytes}
use Rattle.pq_numbers.specs.Texts.{Begins}
use Rattle.pq_metadata.specs.Header.{Header, data_page_2}
use Rattle.pq_tree.specs.Physical.{boolean, int32, int64, byte_array, fixed}
use Rattle.pq_files.specs.Carried.{start_of}
use Rattle.pq_files.specs.FirstFile.{schema, the_leaf, triples}
use Rattle.pq_files.specs.Indices.{IsIndexed}
use Rattle.pq_files.specs.Layout.{rows_per_page}
use Rattle.pq_files.specs.Page.{IsPage}
use Rattle.pq_files.specs.PageReasons.{IsOutside}
use Rattle.pq_files.specs.Plain.{IsPlain}
use Rattle.pq_files.specs.Room.{room, level_room, schema_value_size, key_room, footer_room, planned_footer, V3}
use Rattle.pq_files.specs.RowReasons.{BreaksIn}
use Rattle.pq_files.specs.Stored.{IsStored, HoldsDecimal}
use Rattle.pq_files.specs.WrittenExample.{out_groups}
use Rattle.pq_numbers.specs.Bits.{unpacked}
use Rattle.pq_files.specs.Delta.{AreDeltas, AreDeltaLengths}

abbrev pub deltas : List ℕ
deltas = 128 ∷ 1 ∷ 4 ∷ 8 ∷ 14 ∷ 3 ∷ 2 ∷ 0 ∷ 0 ∷ 0 ∷ 192 ∷ 63 ∷ []

abbrev pub numbers : List Value
numbers = map (λ n. number (pos n)) (7 ∷ 5 ∷ 3 ∷ 1 ∷ 2 ∷ 3 ∷ 4 ∷ 5 ∷ [])

abbrev pub hello : List ℕ
hello = 72 ∷ 101 ∷ 108 ∷ 108 ∷ 111 ∷ []

abbrev pub world : List ℕ
world = 87 ∷ 111 ∷ 114 ∷ 108 ∷ 100 ∷ []

abbrev pub foobar : List ℕ
foobar = 70 ∷ 111 ∷ 111 ∷ 98 ∷ 97 ∷ 114 ∷ []

abbrev pub letters : List ℕ
letters = 65 ∷ 66 ∷ 67 ∷ 68 ∷ 69 ∷ 70 ∷ []

abbrev pub lengths : List ℕ
lengths = 128 ∷ 1 ∷ 4 ∷ 4 ∷ 10 ∷ 0 ∷ 1 ∷ 0 ∷ 0 ∷ 0 ∷ 2 ∷ 0 ∷ 0 ∷ 0 ∷ []

-- a column of one entry: the width 0, and no run
abbrev pub entry : Value
entry = bytes hello

-- the first file's page in version 2: no lengths in the body, and the number of rows in the header
abbrev pub header_2 : Header
header_2 = data_page_2 (record { num_values = 5; num_rows = 4; encoding = pos 0; definition_length = 3; repetition_length = 2 })

abbrev pub body_2 : List ℕ
body_2 = 3 ∷ 2 ∷ 3 ∷ 79 ∷ 2 ∷ 1 ∷ 0 ∷ 0 ∷ 0 ∷ 2 ∷ 0 ∷ 0 ∷ 0 ∷ []

-- eight rows of one number each in the first file's nested column: a run for each section of levels, and deltas
abbrev pub header_of_deltas : Header
header_of_deltas = data_page_2 (record { num_values = 8; num_rows = 8; encoding = pos 5; definition_length = 2; repetition_length = 2 })

abbrev pub body_of_deltas : List ℕ
body_of_deltas = 16 ∷ 0 ∷ 16 ∷ 3 ∷ deltas

abbrev pub eight_rows : List Triple
eight_rows = map (λ v. record { repetition = 0; definition = 3; value = Some v }) numbers

abbrev pub plain_strings : List ℕ
plain_strings = 5 ∷ 0 ∷ 0 ∷ 0 ∷ hello ++ (0 ∷ 0 ∷ 0 ∷ 0 ∷ [])

-- -2 and 258 of 64 bits
abbrev pub wide : List ℕ
wide = 254 ∷ replicate 7 255 ++ (2 ∷ 1 ∷ replicate 6 0)

pub record AreWorked : Type 0 where
  -- numbers of three bits, of the Parquet format's own example
  pub packed : unpacked 3 8 (136 ∷ 198 ∷ 250 ∷ []) ≡ 0 ∷ 1 ∷ 2 ∷ 3 ∷ 4 ∷ 5 ∷ 6 ∷ 7 ∷ []
  pub deltas_are : AreDeltas w32 deltas numbers
  pub lengths_are : AreDeltaLengths (lengths ++ (hello ++ world ++ foobar ++ letters)) (map bytes (hello ∷ world ∷ foobar ∷ letters ∷ []))
  pub strings_are : IsPlain byte_array plain_strings (bytes hello ∷ bytes [] ∷ [])
  pub wide_are : IsPlain int64 wide (number (negsuc 1) ∷ number (pos 258) ∷ [])
  pub fixed_are : IsPlain (fixed 3) (1 ∷ 2 ∷ 3 ∷ 4 ∷ 5 ∷ 6 ∷ []) (bytes (1 ∷ 2 ∷ 3 ∷ []) ∷ bytes (4 ∷ 5 ∷ 6 ∷ []) ∷ [])
  -- -300 in two bytes, highest first
  pub negative : IsStored decimal (fixed 2) (number (negsuc 299)) (bytes (254 ∷ 212 ∷ []))
  -- the least and the greatest decimal of nine bytes
  pub held : HoldsDecimal (fixed 9) (negsuc (2 ^ 71 - 1)) × HoldsDecimal (fixed 9) (pos (2 ^ 71 - 1))
  pub truths_are : IsPlain boolean (5 ∷ []) (truth true ∷ truth false ∷ truth true ∷ [])
  pub entries_are : IsIndexed (entry ∷ []) (0 ∷ []) (entry ∷ entry ∷ entry ∷ [])
  pub none_are : IsIndexed (entry ∷ []) [] []
  pub version_2 : IsPage the_leaf None header_2 body_2 triples
  -- a page of deltas of a column that is not flat
  pub nested_deltas : IsPage the_leaf None header_of_deltas body_of_deltas eight_rows
  -- ten rows of four bytes each, under limits of 12, 9 and 0
  pub rows : (rows_per_page 12 40 10 ≡ 2) × (rows_per_page 9 40 10 ≡ 1) × (rows_per_page 0 40 10 ≡ 1)
  pub rooms : (room 3 8 ≡ 2098) × (level_room 3 ≡ 2054) × (schema_value_size 27 ≡ 48)
  -- a tree of four nodes and one column of one group, without keys
  pub footers : footer_room (planned_footer schema [] out_groups) ≡ 4096 + (128 + 1) + (128 + 1 + (128 + 4) + (128 + 7)) + (64 + (256 + (8 + 1 + (8 + 4) + (8 + 7))))
  pub keys : (key_room (record { key = codes "ARROW:schema"; value = Some (replicate 48 0) }) ≡ 144) × (key_room (record { key = codes "a"; value = Some (codes "bc") }) ≡ 35)
  -- the bytes of an Arrow schema, one more than a footer may have
  pub too_large : V3 schema [] (2 ^ 31) out_groups
  pub largest : ¬ V3 schema [] (2 ^ 31 - 1) out_groups
  -- where a chunk starts whose data pages start at 100: its dictionary page counts from place 4 on, in front of them
  pub starts : (start_of (pos 100) None ≡ pos 100) × (start_of (pos 100) (Some (pos 3)) ≡ pos 100) × (start_of (pos 100) (Some (pos 4)) ≡ pos 4) × (start_of (pos 100) (Some (pos 99)) ≡ pos 99) × (start_of (pos 100) (Some (pos 100)) ≡ pos 100) × (start_of (pos 100) (Some (pos 101)) ≡ pos 100)

abbrev pub pair : ℕ → ℕ → Triple
pair r d = record { repetition = r; definition = d; value = None }

-- texts that spell no such values, values that are not stored, and pairs that no rows have
pub record AreNotSpelled : Type 0 where
  -- a byte short of two numbers
  pub plain_cut : (vs : List Value) → length vs ≡ 2 → Begins (IsPlain int32) (1 ∷ 0 ∷ 0 ∷ 0 ∷ 2 ∷ 0 ∷ 0 ∷ []) vs → ⊥
  -- one index in a dictionary of no entries
  pub past_entries : (vs : List Value) → length vs ≡ 1 → Begins (IsIndexed []) (0 ∷ []) vs → ⊥
  -- 300 is no number of 8 bits, while -1 is stored for 4294967295; an interval of months has no milliseconds, and Null no value
  pub too_large : IsOutside (signed 8) int32 (number (pos 300))
  pub wrapped : IsStored (unsigned 32) int32 (number (pos 4294967295)) (number (negsuc 0))
  -- the lowest byte first
  pub lowest_first : ¬ IsStored decimal (fixed 2) (number (negsuc 299)) (bytes (212 ∷ 254 ∷ []))
  pub too_wide : ¬ HoldsDecimal (fixed 9) (pos (2 ^ 71))
  pub no_months : IsOutside months (fixed 12) (bytes (replicate 11 0 ++ 1 ∷ []))
  pub no_null : IsOutside nothing int32 (number (pos 0))
  -- an item after a null list, and two columns of a struct that is null in one alone
  pub breaks : BreaksIn (in_list true (at_leaf true)) (pair 0 1 ∷ pair 1 3 ∷ [])
  pub goes_on : ¬ BreaksIn (in_list true (at_leaf true)) (pair 0 3 ∷ pair 1 3 ∷ pair 0 0 ∷ pair 0 1 ∷ pair 0 2 ∷ [])
  pub disagree : ¬ ColumnsAgree (in_struct true 0 (at_leaf false)) (in_struct true 1 (at_leaf false)) (pair 0 1 ∷ []) (pair 0 0 ∷ [])
