use Rattle.write_values.proofs.NumberRuns.{ones_in_byte}
use Rattle.write_values.proofs.numbers.few_ones.Goals as goal

pub returns-clause-few : goal.returns-clause-few
returns-clause-few c = rw c.trailing_ones.ensures (ones_in_byte c.args.word).0

pub returns-clause-set : goal.returns-clause-set
returns-clause-set c = rw c.trailing_ones.ensures (ones_in_byte c.args.word).1

pub returns-clause-some : goal.returns-clause-some
returns-clause-some c = rw c.trailing_ones.ensures (ones_in_byte c.args.word).2
