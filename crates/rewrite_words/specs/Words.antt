-- The words of the command line as options.
use Rattle.std.specs.Prelude.{ℕ, Bool, true, false, cond, List, [], ◌∷◌, Option, Some, None, option_map, codes}
use Rattle.std.specs.Option.{unwrap_or, option_or, option_and_then}
use Rattle.std.specs.List.{filter_map}
use Rattle.std.specs.Str.{bytes_eq}
use Rattle.pq_tree.specs.declared.version.Version as versions
use Rattle.pq_tree.specs.declared.version.Version.TheVariants.{V1, V2}
use Rattle.schema_key.specs.declared.infer.KeyRule as rules_of_keys
use Rattle.schema_key.specs.declared.infer.KeyRule.TheVariants.{Use, Ignore}
use Rattle.rewrite_words.specs.declared.options.RewriteOptions.{RewriteOptions}
use Rattle.rewrite_words.specs.declared.setting.Setting.{Setting}
use Rattle.rewrite_words.specs.declared.setting.Setting.TheVariants.{Version, PageLimit, ChunkSize, Statistics, Delta, KeyRule, ByteLimit, PairLimit}
use Rattle.rewrite_words.specs.Numbers.{number_after}

-- what a word asks for where it is this name
abbrev pub named : List ℕ → Setting → List ℕ → Option Setting
named name setting word = cond (bytes_eq word name) (Some setting) None

-- what a word asks for where it is one of these names and a number
unfoldable pub numbered_of : List ℕ → Option Setting
numbered_of word =
    option_or (option_or (option_or (option_map PageLimit (number_after (codes "--page=") word))
    (option_map ChunkSize (number_after (codes "--chunk=") word)))
    (option_map ByteLimit (number_after (codes "--limit=") word)))
    (option_map PairLimit (number_after (codes "--pairs=") word))

-- What a word asks for, by the table of words. No word stands in two lines of it.
unfoldable pub setting_of : List ℕ → Option Setting
setting_of word =
    option_or (named (codes "--version=1") (Version V1) word)
    (option_or (named (codes "--version=2") (Version V2) word)
    (option_or (named (codes "--no-stats") (Statistics false) word)
    (option_or (named (codes "--delta") (Delta true) word)
    (option_or (named (codes "--ignore-key") (KeyRule Ignore) word)
    (numbered_of word)))))

-- what all words ask for; None where one asks for nothing
abbrev pub settings_of : List (List ℕ) → Option (List Setting)
settings_of [] = Some []
settings_of (word ∷ words) =
    option_and_then (λ setting. option_map (λ more. setting ∷ more) (settings_of words)) (setting_of word)

-- the value that a setting gives to one option
abbrev pub version_in : Setting → Option versions.Version
version_in (Version version) = Some version
version_in _ = None

abbrev pub page_limit_in : Setting → Option ℕ
page_limit_in (PageLimit limit) = Some limit
page_limit_in _ = None

abbrev pub chunk_size_in : Setting → Option ℕ
chunk_size_in (ChunkSize size) = Some size
chunk_size_in _ = None

abbrev pub statistics_in : Setting → Option Bool
statistics_in (Statistics asked) = Some asked
statistics_in _ = None

abbrev pub delta_in : Setting → Option Bool
delta_in (Delta asked) = Some asked
delta_in _ = None

abbrev pub key_rule_in : Setting → Option rules_of_keys.KeyRule
key_rule_in (KeyRule rule) = Some rule
key_rule_in _ = None

abbrev pub byte_limit_in : Setting → Option ℕ
byte_limit_in (ByteLimit limit) = Some limit
byte_limit_in _ = None

abbrev pub pair_limit_in : Setting → Option ℕ
pair_limit_in (PairLimit limit) = Some limit
pair_limit_in _ = None

-- the one value of a list, or `Some None` where it has none; None where it has two
abbrev pub sole : {A : Type 0} → List A → Option (Option A)
sole [] = Some None
sole (a ∷ []) = Some (Some a)
sole (a ∷ b ∷ more) = None

-- The options where no word asks for others.
abbrev pub defaults : RewriteOptions
defaults =
    record {
      version = V1;
      page_limit = 1_048_576;
      chunk_size = None;
      statistics = true;
      delta = false;
      key_rule = Use;
      byte_limit = 268_435_456;
      pair_limit = 134_217_728;
    }

-- the options by the value that each was given, or else its default; None where one was given twice
abbrev pub chosen : Option (Option versions.Version) → Option (Option ℕ) → Option (Option ℕ) → Option (Option Bool)
    → Option (Option Bool) → Option (Option rules_of_keys.KeyRule) → Option (Option ℕ) → Option (Option ℕ) → Option RewriteOptions
chosen (Some version) (Some page_limit) (Some chunk_size) (Some statistics) (Some delta) (Some key_rule) (Some byte_limit) (Some pair_limit) =
    Some
    (record {
      version = unwrap_or version defaults.version;
      page_limit = unwrap_or page_limit defaults.page_limit;
      chunk_size = chunk_size;
      statistics = unwrap_or statistics defaults.statistics;
      delta = unwrap_or delta defaults.delta;
      key_rule = unwrap_or key_rule defaults.key_rule;
      byte_limit = unwrap_or byte_limit defaults.byte_limit;
      pair_limit = unwrap_or pair_limit defaults.pair_limit;
    })
chosen _ _ _ _ _ _ _ _ = None

-- each option by the settings that give it a value
abbrev pub options_with : List Setting → Option RewriteOptions
options_with settings =
    chosen (sole (filter_map version_in settings)) (sole (filter_map page_limit_in settings))
    (sole (filter_map chunk_size_in settings)) (sole (filter_map statistics_in settings)) (sole (filter_map delta_in settings)) (sole (filter_map key_rule_in settings))
    (sole (filter_map byte_limit_in settings)) (sole (filter_map pair_limit_in settings))

-- the options that the words ask for; None where a word asks for nothing, or two give the same option
unfoldable pub options_of : List (List ℕ) → Option RewriteOptions
options_of words = option_and_then options_with (settings_of words)
