-- The options as what is asked for, and what a rewrite may make of an input.
use Rattle.std.specs.Prelude.{◌≡◌, ◌⊎◌, ℕ, List, Option}
use Rattle.columns_base.specs.declared.error.Error.{Error}
use Rattle.columns_base.specs.declared.error.Error.TheVariants.{Memory}
use Rattle.columns_core.specs.View.{SchemaTree}
use Rattle.pq_headline.specs.Rewrites.{Asked, Codec, Counts, Rewrites}
use Rattle.pq_headline.specs.Rows.{Seen}
use Rattle.pq_headline.specs.Stages.{Passes6, Refuses}
use Rattle.rewrite_whole.specs.Answer.{IsOfInput}
use Rattle.rewrite_whole.specs.Views.{Sees}
use Rattle.rewrite_words.specs.declared.options.RewriteOptions.{RewriteOptions}
use Rattle.rewrite_notes.specs.declared.report.Report.{Report}

abbrev pub asked_by : RewriteOptions → Asked
asked_by o =
    record {
      version = o.version;
      style = record { page_limit = o.page_limit; statistics = o.statistics };
      chunk_size = o.chunk_size;
      delta = o.delta;
      rule = o.key_rule;
      byte_limit = o.byte_limit;
      pair_limit = o.pair_limit;
    }

abbrev pub codec_of : (SchemaTree → List ℕ) → (List ℕ → Option SchemaTree) → Codec
codec_of bytes_of reads = record { bytes_of = bytes_of; reads = reads }

abbrev pub counts_of : Report → Counts
counts_of r = record { groups = r.groups; rows = r.rows; data_pages = r.data_pages }

-- The output may come of the input, of which no condition of the stages up to the schema's holds, and the view was shown its pieces.
unfoldable pub Gives : Codec → Asked → Option (List (List Seen)) → Option (List (List Seen)) → List ℕ → List ℕ → Report → Type 0
Gives codec asked before now input output report =
    (shown : List (List Seen)) × (r : Rewrites codec asked input output (counts_of report) shown) × Passes6 codec asked input r.place r.footer r.schema × Sees before now shown

-- Why an input is refused.
unfoldable pub Causes : Codec → Asked → List ℕ → Error → Type 0
Causes codec asked bytes e = Refuses codec asked bytes e

-- want of memory, or a refusal that the input's bytes decide, by its cause
abbrev pub Says : Codec → Asked → List ℕ → Error → Type 0
Says codec asked bytes e = (e ≡ Memory) ⊎ (IsOfInput e × Refuses codec asked bytes e)
