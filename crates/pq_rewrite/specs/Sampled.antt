-- What a call says that is asked for a sample.
use Rattle.std.specs.Prelude.{◌≡◌, ◌⊎◌, ◌*◌, ℕ, List, Option, String, codes, map, nat_abs, string_bytes}
use Rattle.std.specs.declared.alloc.Global.{Global}
use Rattle.pq_headline.specs.Rows.{Seen}
use Rattle.rewrite_notes.specs.Notes.{sample_text}
use Rattle.rewrite_notes.specs.declared.report.Report.{Report}
use Rattle.rewrite_whole.specs.Views.{Sees}
use Rattle.rewrite_words.specs.Sample.{sample_of}
use Rattle.sample_rows.specs.Present.{sample_items}
use Rattle.sample_run.specs.Files.{sample_groups, sample_seen}

-- how many rows the words ask for a sample of, if they are in that form
abbrev pub sample_in : List (String Global) → Option ℕ
sample_in words = sample_of (map string_bytes words)

-- a group for each thousand rows, the last one begun, with a page for each of three columns
abbrev pub sample_report : ℕ → Report
sample_report count = record { groups = sample_groups count; rows = count; data_pages = 3 * sample_groups count }

-- the two lines of a sample; the sum of its items is not negative
abbrev pub sample_lines : ℕ → List ℕ
sample_lines count = sample_text (sample_report count) (sample_items count).count (nat_abs (sample_items count).sum)

-- The sample's numbers were told, and the view was shown its pieces; or memory ran out, which was told. Source and sink are as they were.
abbrev pub Sampled : ℕ → (before now : Option (List (List Seen))) → (tells : List ℕ → Type 0) → (untouched : Type 0) → ℕ → Type 0
Sampled count before now tells untouched status =
    untouched
    × (((status ≡ 0) × tells (sample_lines count) × Sees before now (sample_seen count))
    ⊎ ((status ≡ 10) × tells (codes "Memory\n")))
