use Rattle.std.proofs.Common.{refl}
use Rattle.rewrite_words.specs.Numbers.{number_of}
use Rattle.rewrite_words.specs.Words.{numbered_of, setting_of, options_of}
use Rattle.rewrite_words.proofs.laws.as_worked.Goals as goal

pub returns : goal.returns
unfolding number_of numbered_of setting_of options_of
returns c =
    record {
      none = refl;
      first_version = refl;
      second_version = refl;
      page = refl;
      chunk = refl;
      no_stats = refl;
      delta = refl;
      ignore_key = refl;
      limit = refl;
      pairs = refl;
      all = refl;
      both_versions = refl;
      twice = refl;
      no_digits = refl;
      most = refl;
      too_large = refl;
      too_long = refl;
      sign = refl;
      third_version = refl;
      no_number = refl;
      empty = refl;
      blank = refl;
      ten_rows = refl;
      most_rows = refl;
      no_rows = refl;
      too_many_rows = refl;
      no_count = refl;
      with_options = refl;
    }
