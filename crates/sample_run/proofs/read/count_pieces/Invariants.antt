use Rattle.std.proofs.Common.{flat_map, take}
use Rattle.sample_rows.specs.Totals.{AreOf}
use Rattle.sample_run.proofs.Reading.{present_in}
use Rattle.sample_run.proofs.read.count_pieces.Given as goal

abbrev pub invariant-loop-piece : goal.invariant-loop-piece
invariant-loop-piece l = AreOf l.totals (flat_map present_in (take l.piece-index l.pieces))
