-- The files of the sample, and what is told of them.
use Rattle.std.specs.Prelude.{◌≡◌, ℕ, ◌+◌, ◌*◌, ◌/◌, List, map, Option, Some, None, true, false}
use Rattle.shredding.specs.Cut.{cut}
use Rattle.shredding.specs.Slot.{Slots}
use Rattle.pq_tree.specs.declared.version.Version.{Version}
use Rattle.pq_tree.specs.declared.version.Version.TheVariants.{V1, V2}
use Rattle.pq_headline.specs.Output.{Style}
use Rattle.pq_headline.specs.Rewrites.{Asked, Codec, Counts}
use Rattle.pq_headline.specs.Rows.{Seen, seen_from}
use Rattle.rewrite_whole.specs.Asks.{asked_by, codec_of, counts_of}
use Rattle.rewrite_whole.specs.Views.{Sees}
use Rattle.rewrite_notes.specs.declared.report.Report.{Report}
use Rattle.rewrite_words.specs.declared.options.RewriteOptions.{RewriteOptions}
use Rattle.sample_rows.specs.Fields.{sample_fields, sample_tree}
use Rattle.sample_rows.specs.Rows.{sample_rows}
use Rattle.schema_codec.specs.Reading.{plain_reads}
use Rattle.schema_codec.specs.Spelling.{plain_bytes}
use Rattle.schema_key.specs.declared.infer.KeyRule.TheVariants.{Use}
use Rattle.pq_tree.specs.declared.types.CompressionOptions.TheVariants.{Uncompressed}
use Rattle.write_pages.specs.declared.options.WriteOptions.{WriteOptions}
use Rattle.unique_rows.specs.Rewritten.{IsFileFor}

-- the first file: what stands without words
abbrev pub written_options : WriteOptions
written_options = record { write_statistics = true; version = V1; compression = Uncompressed; data_pagesize_limit = None }

-- what the sample's rewrite is asked for: version 2, groups of 1,000 rows, and else what stands without words
abbrev pub sample_options : RewriteOptions
sample_options =
    record {
      version = V2;
      page_limit = 1048576;
      chunk_size = Some 1000;
      statistics = true;
      delta = false;
      key_rule = Use;
      byte_limit = 268435456;
      pair_limit = 134217728;
    }

abbrev pub sample_asked : Asked
sample_asked = asked_by sample_options

abbrev pub plain_codec : Codec
plain_codec = codec_of plain_bytes plain_reads

-- pages as they are laid out in both files
abbrev pub sample_style : Style
sample_style = record { page_limit = 1048576; statistics = true }

-- the file of these groups of the sample's rows
abbrev pub IsSampleFile : Version → List (List Slots) → List ℕ → Type 0
IsSampleFile version rowss bytes = IsFileFor sample_style version plain_bytes sample_tree rowss bytes

-- the rows as they are written anew
abbrev pub sample_pieces : ℕ → List (List Slots)
sample_pieces count = cut (sample_rows count) (Some 1000)

-- the least whole number of thousands that the rows fit in
abbrev pub sample_groups : ℕ → ℕ
sample_groups count = (count + 999) / 1000

-- each group has a page for each of three columns
abbrev pub sample_counts : ℕ → Counts
sample_counts count = record { groups = sample_groups count; rows = count; data_pages = 3 * sample_groups count }

-- what a view is shown
abbrev pub sample_seen : ℕ → List (List Seen)
sample_seen count = map (seen_from 0 sample_fields) (sample_pieces count)

-- the file, the report and what a view was shown, of the sample written anew
pub record IsMade (count : ℕ) (output : List ℕ) (report : Report) (before now : Option (List (List Seen))) : Type 0 where
  pub file : IsSampleFile V2 (sample_pieces count) output
  pub report_is : counts_of report ≡ sample_counts count
  pub seen : Sees before now (sample_seen count)
