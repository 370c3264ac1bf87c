use Rattle.std.proofs.Common.{◌≡◌, ℕ, List}
use Rattle.std.specs.declared.option.Option.{Option}
use Rattle.columns_slots.specs.Tree.{ArrayTrees}
use Rattle.pq_headline.specs.Opened.{rows_in_chunks}
use Rattle.pq_headline.specs.Openings.{Opening}
use Rattle.rewrite_whole.specs.Groups.{IsUnderWay, AreEnded}
use Rattle.rewrite_whole.proofs.pieces.expect_ends.Given as goal

abbrev pub invariant-loop-iter : goal.invariant-loop-iter
invariant-loop-iter g l = (rows : ℕ) (n : Option ℕ) (os : List Opening) (chunks : List ArrayTrees) → IsUnderWay rows n os l.fn.iters.items chunks → rows_in_chunks chunks ≡ rows → AreEnded 0 l.iter-index os l.iter-items chunks
