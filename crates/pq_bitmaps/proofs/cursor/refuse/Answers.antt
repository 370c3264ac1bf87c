use Rattle.pq_bitmaps.proofs.Truths.{nothing_called}
use Rattle.pq_bitmaps.proofs.cursor.refuse.Goals as goal

pub returns-clause-called : goal.returns-clause-called
returns-clause-called c = nothing_called c.args.cursor.now.left c.args.cursor.now.bytes.now c.requires.some c.requires.none
