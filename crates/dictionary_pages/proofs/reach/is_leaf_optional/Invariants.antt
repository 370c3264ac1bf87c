use Rattle.std.proofs.Common.{◌≡◌, length}
use Rattle.levels.specs.Nested.{parts_of}
use Rattle.nested_paths.specs.PathLeaf.{is_leaf_optional}
use Rattle.dictionary_pages.proofs.reach.is_leaf_optional.Given as goal

abbrev pub invariant-loop-part : goal.invariant-loop-part
invariant-loop-part l = is_leaf_optional (parts_of l.parts) ≡ is_leaf_optional (parts_of l.nested)

abbrev pub decreases-loop-part : goal.decreases-loop-part
decreases-loop-part l = length l.parts
