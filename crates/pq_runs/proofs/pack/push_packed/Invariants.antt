use Rattle.std.proofs.Common.{◌<◌, take}
use Rattle.pq_runs.proofs.Packs.{Packs}
use Rattle.pq_runs.proofs.pack.push_packed.Given as goal

abbrev pub invariant-loop-number : goal.invariant-loop-number
invariant-loop-number l = record {
  small : l.bits < 32;
  packs : Packs l.width l.fn.out.items l.out.items (take l.number-index l.numbers) l.bits l.held;
}
