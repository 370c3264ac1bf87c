use Rattle.std.proofs.Common.{length}
use Rattle.level_sections.proofs.pieces.+tell_pieces.Given as goal

abbrev pub decreases-tell_pieces : goal.decreases-tell_pieces
decreases-tell_pieces l = length l.parts.now
