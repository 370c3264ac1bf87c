use Rattle.std.proofs.Common.{◌≡◌, ◌^◌, ◌%◌, map}
use Rattle.pq_runs.specs.Writing.{Extends, Keeps}
use Rattle.pq_runs.proofs.encode.encode_numbers.Given as goal

abbrev pub invariant-loop-value : goal.invariant-loop-value
invariant-loop-value g l = record {
  kept : Extends l.fn.out.items l.out.items;
  width : l.writer.width ≡ l.width;
  keeps : Keeps l.fn.out.items l.out.items l.writer (map (λ v. v % 2 ^ l.width) l.yielded);
}
