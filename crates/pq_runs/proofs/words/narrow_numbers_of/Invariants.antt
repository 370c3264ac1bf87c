use Rattle.std.proofs.Common.{◌≡◌, ◌*◌, length, take}
use Rattle.pq_runs.specs.Words.{bit_numbers}
use Rattle.pq_runs.proofs.words.narrow_numbers_of.Given as goal

abbrev pub invariant-loop-i : goal.invariant-loop-i
invariant-loop-i l = record {
  size : length l.numbers ≡ 64;
  front : take (4 * l.i) l.numbers ≡ bit_numbers l.low l.word 0 (4 * l.i);
}
