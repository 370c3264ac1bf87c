-- Worked examples of words.
use Rattle.std.specs.Prelude.{◌≡◌, ℕ, List, [], ◌∷◌, ◌-◌, ◌^◌, true, false, Some, None, codes}
use Rattle.pq_tree.specs.declared.version.Version.TheVariants.{V2}
use Rattle.schema_key.specs.declared.infer.KeyRule.TheVariants.{Ignore}
use Rattle.rewrite_words.specs.declared.options.RewriteOptions.{RewriteOptions}
use Rattle.rewrite_words.specs.Sample.{sample_of}
use Rattle.rewrite_words.specs.Words.{options_of, defaults}

-- all words, in an order of their own
abbrev pub all_words : List (List ℕ)
all_words =
    codes "--pairs=4" ∷ codes "--delta" ∷ codes "--chunk=0" ∷ codes "--version=2" ∷ codes "--limit=3" ∷ codes "--no-stats"
    ∷ codes "--page=1" ∷ codes "--ignore-key" ∷ []

abbrev pub all_of_them : RewriteOptions
all_of_them =
    record {
      version = V2;
      page_limit = 1;
      chunk_size = Some 0;
      statistics = false;
      delta = true;
      key_rule = Ignore;
      byte_limit = 3;
      pair_limit = 4;
    }

pub record AreWorked : Type 0 where
  pub none : options_of [] ≡ Some defaults
  pub first_version : options_of (codes "--version=1" ∷ []) ≡ Some defaults
  pub second_version : options_of (codes "--version=2" ∷ []) ≡ Some (record defaults { version = V2 })
  pub page : options_of (codes "--page=1024" ∷ []) ≡ Some (record defaults { page_limit = 1024 })
  pub chunk : options_of (codes "--chunk=0070" ∷ []) ≡ Some (record defaults { chunk_size = Some 70 })
  pub no_stats : options_of (codes "--no-stats" ∷ []) ≡ Some (record defaults { statistics = false })
  pub delta : options_of (codes "--delta" ∷ []) ≡ Some (record defaults { delta = true })
  pub ignore_key : options_of (codes "--ignore-key" ∷ []) ≡ Some (record defaults { key_rule = Ignore })
  pub limit : options_of (codes "--limit=5" ∷ []) ≡ Some (record defaults { byte_limit = 5 })
  pub pairs : options_of (codes "--pairs=6" ∷ []) ≡ Some (record defaults { pair_limit = 6 })
  pub all : options_of all_words ≡ Some all_of_them
  pub both_versions : options_of (codes "--version=1" ∷ codes "--version=2" ∷ []) ≡ None
  pub twice : options_of (codes "--delta" ∷ codes "--page=1" ∷ codes "--delta" ∷ []) ≡ None
  pub no_digits : options_of (codes "--page=" ∷ []) ≡ None
  pub most : options_of (codes "--pairs=9223372036854775807" ∷ []) ≡ Some (record defaults { pair_limit = 2 ^ 63 - 1 })
  pub too_large : options_of (codes "--pairs=9223372036854775808" ∷ []) ≡ None
  pub too_long : options_of (codes "--pairs=00000000000000000001" ∷ []) ≡ None
  pub sign : options_of (codes "--page=+1" ∷ []) ≡ None
  pub third_version : options_of (codes "--version=3" ∷ []) ≡ None
  pub no_number : options_of (codes "--page" ∷ []) ≡ None
  pub empty : options_of ([] ∷ []) ≡ None
  pub blank : options_of (codes "--delta " ∷ []) ≡ None
  pub ten_rows : sample_of (codes "sample" ∷ codes "10" ∷ []) ≡ Some 10
  pub most_rows : sample_of (codes "sample" ∷ codes "1000000" ∷ []) ≡ Some 1000000
  pub no_rows : sample_of (codes "sample" ∷ codes "0" ∷ []) ≡ None
  pub too_many_rows : sample_of (codes "sample" ∷ codes "1000001" ∷ []) ≡ None
  pub no_count : sample_of (codes "sample" ∷ []) ≡ None
  pub with_options : sample_of (codes "sample" ∷ codes "10" ∷ codes "--delta" ∷ []) ≡ None
