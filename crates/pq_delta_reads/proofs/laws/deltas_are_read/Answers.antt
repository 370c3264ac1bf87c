use Rattle.std.specs.Int.{w32}
use Rattle.pq_delta_reads.proofs.Whole.{delta_found, delta_stands, whole_found, whole_stands}
use Rattle.pq_delta_reads.proofs.Narrow.{narrow_32, narrowed, widened}
use Rattle.pq_delta_reads.proofs.laws.deltas_are_read.Goals as goal

pub returns : goal.returns
returns c = record {
  cut = λ bytes zs. (delta_found bytes zs, delta_stands bytes zs);
  whole = λ bytes size zs. (whole_found bytes size zs, whole_stands bytes size zs);
  narrow = λ cut text zs. (narrowed w32 narrow_32 cut text zs, λ d. widened w32 narrow_32 cut text d.0 zs d.1 d.2);
}
