use Rattle.std.proofs.Common.{◌≡◌, take}
use Rattle.nested_paths.proofs.paths.copy_of.Given as goal

abbrev pub invariant-loop-parent : goal.invariant-loop-parent
invariant-loop-parent l = l.path.items ≡ take l.parent-index l.parents
