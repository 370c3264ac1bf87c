use Rattle.std.proofs.Common.{◌<◌, map}
use Rattle.pq_runs.specs.Listed.{bit}
use Rattle.pq_runs.proofs.Packs.{Packs}
use Rattle.pq_runs.proofs.plain.push_bits.Given as goal

abbrev pub invariant-loop-value : goal.invariant-loop-value
invariant-loop-value g l = record {
  small : l.bits < 32;
  packs : Packs 1 l.fn.out.items l.out.items (map bit l.yielded) l.bits l.held;
}
