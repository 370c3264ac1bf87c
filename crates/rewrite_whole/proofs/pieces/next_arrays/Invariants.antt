use Rattle.std.proofs.Common.{◌≡◌, ◌<◌, ℕ, List, length, map}
use Rattle.std.specs.declared.option.Option.{Option}
use Rattle.columns_array.specs.Boxed.{boxed}
use Rattle.columns_slots.specs.Tree.{ArrayTrees}
use Rattle.pq_headline.specs.Opened.{rows_in_chunks}
use Rattle.pq_headline.specs.Openings.{Opening}
use Rattle.rewrite_whole.specs.Groups.{IsUnderWay, AreStepped}
use Rattle.rewrite_whole.proofs.pieces.next_arrays.Given as goal

abbrev pub invariant-loop-iter : goal.invariant-loop-iter
invariant-loop-iter g l = record {
  counted : length l.arrays.items ≡ l.iter-index;
  stepped : (rows : ℕ) (n : Option ℕ) (os : List Opening) (chunks : List ArrayTrees) → IsUnderWay rows n os l.fn.iters.items chunks → rows_in_chunks chunks < rows → AreStepped 0 (rows_in_chunks chunks) os l.iter-items (map boxed l.arrays.items) chunks;
}
