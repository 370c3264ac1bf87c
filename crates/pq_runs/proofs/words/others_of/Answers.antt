use Rattle.std.proofs.Common.{◌∙◌, arith, w64}
use Rattle.std.proofs.lemmas.Nat.Bits.{bit_at_lowest, bit_at_not}
use Rattle.pq_runs.proofs.BitNumbers.{flipped}
use Rattle.pq_runs.proofs.words.others_of.Goals as goal

pub returns-then-word-eq1 : goal.returns-then-word-eq1
returns-then-word-eq1 c = λ i h. flipped c.args.word _ i h (bit_at_lowest c.args.word ∙ c.if-word-eq1.true) (bit_at_not w64 c.args.word i (omega arith) h)
