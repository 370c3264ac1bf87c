use Rattle.rewrite_words.proofs.Digits.{HasRead}
use Rattle.rewrite_words.proofs.numbers.read_number.Given as goal

abbrev pub invariant-loop-byte : goal.invariant-loop-byte
invariant-loop-byte l = HasRead l.text l.number l.byte-index
