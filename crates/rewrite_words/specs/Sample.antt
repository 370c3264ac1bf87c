-- The second form of words: a sample of so many rows.
use Rattle.std.specs.Prelude.{◌≡◌, ℕ, cond, ◌&&◌, List, [], ◌∷◌, Option, Some, None, codes, nat_le}
use Rattle.std.specs.Option.{option_and_then}
use Rattle.std.specs.Str.{bytes_eq}
use Rattle.rewrite_words.specs.Numbers.{number_of}
use Rattle.rewrite_words.specs.Words.{options_of}

-- a number of rows that a sample may have: from 1 to 1,000,000
abbrev pub sized : ℕ → Option ℕ
sized n = cond (nat_le 1 n && nat_le n 1000000) (Some n) None

-- how many rows are asked for by the word `sample` and a number; None of all other words
abbrev pub sample_of : List (List ℕ) → Option ℕ
sample_of (name ∷ number ∷ []) = cond (bytes_eq name (codes "sample")) (option_and_then sized (number_of number)) None
sample_of words = None

-- No words are in both forms.
abbrev pub FormsExclude : Type 0
FormsExclude = (words : List (List ℕ)) (n : ℕ) → sample_of words ≡ Some n → options_of words ≡ None
