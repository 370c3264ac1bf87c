-- What the words so far ask for.
use Rattle.std.specs.Prelude.{Bool, Some, is_some}
use Rattle.std.specs.Option.{unwrap_or}
use Rattle.rewrite_words.specs.declared.asked.Asked.{Asked}
use Rattle.rewrite_words.specs.declared.options.RewriteOptions.{RewriteOptions}
use Rattle.rewrite_words.specs.declared.setting.Setting.{Setting}
use Rattle.rewrite_words.specs.declared.setting.Setting.TheVariants.{Version, PageLimit, ChunkSize, Statistics, Delta, KeyRule, ByteLimit, PairLimit}
use Rattle.rewrite_words.specs.Words.{defaults}

-- whether the option that a setting gives has a value
abbrev pub is_set : Asked → Setting → Bool
is_set asked (Version version) = is_some asked.version
is_set asked (PageLimit limit) = is_some asked.page_limit
is_set asked (ChunkSize size) = is_some asked.chunk_size
is_set asked (Statistics s) = is_some asked.statistics
is_set asked (Delta d) = is_some asked.delta
is_set asked (KeyRule rule) = is_some asked.key_rule
is_set asked (ByteLimit limit) = is_some asked.byte_limit
is_set asked (PairLimit limit) = is_some asked.pair_limit

abbrev pub with_setting : Asked → Setting → Asked
with_setting asked (Version version) = record asked { version = Some version }
with_setting asked (PageLimit limit) = record asked { page_limit = Some limit }
with_setting asked (ChunkSize size) = record asked { chunk_size = Some size }
with_setting asked (Statistics s) = record asked { statistics = Some s }
with_setting asked (Delta d) = record asked { delta = Some d }
with_setting asked (KeyRule rule) = record asked { key_rule = Some rule }
with_setting asked (ByteLimit limit) = record asked { byte_limit = Some limit }
with_setting asked (PairLimit limit) = record asked { pair_limit = Some limit }

-- the options, with the defaults for those that are not set
abbrev pub finished : Asked → RewriteOptions
finished asked =
    record {
      version = unwrap_or asked.version defaults.version;
      page_limit = unwrap_or asked.page_limit defaults.page_limit;
      chunk_size = asked.chunk_size;
      statistics = unwrap_or asked.statistics defaults.statistics;
      delta = unwrap_or asked.delta defaults.delta;
      key_rule = unwrap_or asked.key_rule defaults.key_rule;
      byte_limit = unwrap_or asked.byte_limit defaults.byte_limit;
      pair_limit = unwrap_or asked.pair_limit defaults.pair_limit;
    }
