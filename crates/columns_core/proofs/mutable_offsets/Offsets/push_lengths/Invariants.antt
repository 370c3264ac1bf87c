use Rattle.std.proofs.Common.{◌≡◌, ◌+◌, ◌<◌, ◌≤◌, ◌++◌, length, sum}
use Rattle.columns_core.specs.Rising.{last_place, places_from}
use Rattle.columns_core.proofs.mutable_offsets.Offsets.push_lengths.Given as goal

abbrev pub invariant-loop-length : goal.invariant-loop-length
invariant-loop-length g l = record {
  grown : l.self.0 ≡ l.fn.self.0 ++ places_from (last_place l.fn.self.0) l.yielded;
  end : last_place l.self.0 ≡ last_place l.fn.self.0 + sum l.yielded;
  room : length l.fn.self.0 + l.fn.self.1 ≤ length l.self.0 + l.self.1;
  fits : last_place l.self.0 < g.O.Offset.limit;
}
