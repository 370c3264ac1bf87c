use Rattle.read_leaf.proofs.PlainRead.{strings-read}
use Rattle.read_leaf.proofs.laws.strings_are_read.Goals as goal

pub returns : goal.returns
returns c = strings-read
