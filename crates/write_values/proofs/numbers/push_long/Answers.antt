use Rattle.std.proofs.Common.{◌+◌, arith}
use Rattle.shredding.specs.Slot.{number}
use Rattle.pq_tree.specs.Views.{physical_view}
use Rattle.write_values.proofs.NumberPlaces.{rows_ended, rows_further}
use Rattle.write_values.proofs.numbers.push_long.Goals as goal

pub loop-at-preserved : goal.loop-at-preserved
loop-at-preserved g c = (
  omega (arith, c.loop-at.invariant.0, c.loop-at-test.true, c.block_count-count.ensures.some),
  rows_further (physical_view g.P.ParquetNativeType.physical) (λ x. number (g.T.StoredAs.stored_number x)) c.args.values.now c.loop-at.at (c.loop-at.at + c.block_count-count.result) c.args.out.now.items c.loop-at.out.items c.push_whole.new.out.items (omega arith) c.loop-at.invariant.1 c.in_ok-push_whole.ensures.ok,
)

pub returns-clause-ok : goal.returns-clause-ok
returns-clause-ok g c =
    rows_ended c.push_blocks.result (physical_view g.P.ParquetNativeType.physical) (λ x. number (g.T.StoredAs.stored_number x)) c.args.values.now c.loop-at.at c.args.out.now.items c.loop-at.out.items c.push_blocks.new.out.items c.loop-at.invariant.0 c.loop-at.invariant.1 c.push_blocks.ensures.ok
