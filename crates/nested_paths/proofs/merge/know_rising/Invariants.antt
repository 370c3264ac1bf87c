use Rattle.std.proofs.Common.{drop}
use Rattle.levels.specs.Nested.{parts_of}
use Rattle.nested_slice.specs.CutPath.{AreRising}
use Rattle.nested_paths.proofs.merge.know_rising.Given as goal

abbrev pub invariant-loop-part : goal.invariant-loop-part
invariant-loop-part l = AreRising (parts_of (drop l.part-index l.nested)) → AreRising (parts_of l.nested)
