use Rattle.read_leaf.proofs.PlainRead.{numbers-read}
use Rattle.read_leaf.proofs.laws.numbers_are_read.Goals as goal

pub returns : goal.returns
returns c = numbers-read
