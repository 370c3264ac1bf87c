use Rattle.std.proofs.Common.{◌≡◌, ◌+◌, ◌≤◌, ◌++◌, map, length, sum, take, vec_len, vec_capacity}
use Rattle.columns_core.specs.Rising.{whole, AreFrom, last_place, places_from}
use Rattle.columns_core.proofs.mutable_offsets.push_ends.Given as goal

abbrev pub invariant-loop-length : goal.invariant-loop-length
invariant-loop-length g l = record {
  places : AreFrom 0 (map g.O.Offset.number l.values.items);
  last : l.end ≡ last_place (map (λ o. whole (g.O.Offset.number o)) l.values.items);
  end : l.end ≡ l.fn.from + sum (take l.length-index l.lengths);
  grown : map (λ o. whole (g.O.Offset.number o)) l.values.items ≡ map (λ o. whole (g.O.Offset.number o)) l.fn.values.items ++ places_from l.fn.from (take l.length-index l.lengths);
  count : vec_len l.values ≡ vec_len l.fn.values + l.length-index;
  room : vec_len l.fn.values + length l.lengths ≤ vec_capacity l.values;
}
