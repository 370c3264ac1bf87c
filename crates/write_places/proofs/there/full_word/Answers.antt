use Rattle.write_places.proofs.Bits.{low_ones}
use Rattle.write_places.proofs.there.full_word.Goals as goal

pub returns : goal.returns
returns c = low_ones c.args.count c.requires.few
