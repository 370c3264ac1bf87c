use Rattle.std.proofs.Common.{drop}
use Rattle.schema_codec.specs.Ranges.{AreIds}
use Rattle.schema_codec.proofs.known.know_numbers.Given as goal

abbrev pub invariant-loop-number : goal.invariant-loop-number
invariant-loop-number l = AreIds (drop l.number-index l.numbers) → AreIds l.numbers
