use Rattle.leaf_pages.proofs.OfLeaf.{alone}
use Rattle.leaf_pages.proofs.conditions.leaf_alone.Goals as goal

pub returns-clause-in_bounds : goal.returns-clause-in_bounds
returns-clause-in_bounds c = alone c.loop-parts.parts.now c.loop-parts-test.false c.loop-parts.invariant.0
