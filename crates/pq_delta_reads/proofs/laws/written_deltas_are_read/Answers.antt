use Rattle.std.proofs.Common.{lit≤, refl, length, ◌++◌, false}
use Rattle.std.specs.Int.{w64}
use Rattle.pq_runs.proofs.WrittenDeltas.{written_deltas}
use Rattle.pq_delta_reads.proofs.Whole.{whole_found}
use Rattle.pq_delta_reads.proofs.laws.written_deltas_are_read.Goals as goal

pub returns : goal.returns
returns c = λ text rest zs h. (whole_found (text ++ rest) (length text) zs (record { begins = record { text = text; rest = rest; parts = refl; spells = written_deltas w64 false text zs (lit≤ tt) h }; is = refl })).0
