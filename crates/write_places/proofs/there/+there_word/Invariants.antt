use Rattle.std.proofs.Common.{length}
use Rattle.write_places.proofs.there.+there_word.Given as goal

abbrev pub decreases-there_word : goal.decreases-there_word
decreases-there_word l = length l.parts.now
