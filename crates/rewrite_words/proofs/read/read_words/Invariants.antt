use Rattle.std.proofs.Common.{◌≡◌, map, string_bytes, drop}
use Rattle.rewrite_words.specs.Words.{options_of}
use Rattle.rewrite_words.proofs.Steps.{options_from}
use Rattle.rewrite_words.proofs.read.read_words.Given as goal

abbrev pub invariant-loop-word : goal.invariant-loop-word
invariant-loop-word l = options_of (map string_bytes l.words) ≡ options_from l.asked (map string_bytes (drop l.word-index l.words))
