use Rattle.std.proofs.Common.{◌≡◌, ◌++◌, take, drop, length}
use Rattle.pq_runs.specs.DeltaReading.{above, all}
use Rattle.pq_delta_reads.specs.Blocks.{signed}
use Rattle.pq_delta_reads.specs.Reading.{stepped}
use Rattle.pq_delta_reads.proofs.take.add_up.Given as goal

abbrev pub invariant-loop-number : goal.invariant-loop-number
invariant-loop-number l = record {
  same : length l.numbers ≡ length l.fn.numbers;
  so_far : all (signed (take l.number-index l.numbers)) ++ stepped l.latest (all (above l.least (drop l.number-index l.numbers))) ≡ stepped l.fn.latest (all (above l.least l.fn.numbers));
}
