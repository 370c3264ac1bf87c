use Rattle.std.proofs.Common.{rules}
use Rattle.pq_bitmaps.proofs.Truths.{no_run}
use Rattle.pq_bitmaps.proofs.cursor.take_run.Goals as goal

pub refuse-requires-in-None-clause-none : goal.refuse-requires-in-None-clause-none
refuse-requires-in-None-clause-none c = no_run c.args.cursor.now.bytes.now (search rules)
