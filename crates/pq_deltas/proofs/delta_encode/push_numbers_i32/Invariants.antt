use Rattle.std.specs.Int.{w32}
use Rattle.pq_deltas.specs.Encoding.{IsEncoding}
use Rattle.pq_runs.specs.Writing.{Extends}
use Rattle.pq_deltas.proofs.delta_encode.push_numbers_i32.Given as goal

abbrev pub invariant-loop-value : goal.invariant-loop-value
invariant-loop-value g l = record {
  kept : Extends l.fn.out.items l.out.items;
  encoding : IsEncoding w32 l.fn.length l.fn.out.items l.out.items l.encoder l.yielded;
}
