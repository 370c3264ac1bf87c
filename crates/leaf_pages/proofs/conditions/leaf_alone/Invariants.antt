use Rattle.std.proofs.Common.{length}
use Rattle.levels.specs.Nested.{parts_of}
use Rattle.shredding.specs.Parts.{IsPath}
use Rattle.leaf_pages.specs.PathLeaf.{HasSameLeaf}
use Rattle.leaf_pages.proofs.conditions.leaf_alone.Given as goal

abbrev pub invariant-loop-parts : goal.invariant-loop-parts
invariant-loop-parts l = IsPath (parts_of l.parts) × HasSameLeaf (parts_of l.nested) (parts_of l.parts)

abbrev pub decreases-loop-parts : goal.decreases-loop-parts
decreases-loop-parts l = length l.parts
