use Rattle.nested_paths.proofs.CutLeaves.{cut_leaves}
use Rattle.nested_paths.proofs.laws.cut_leaves_are_seen.Goals as goal

pub returns : goal.returns
returns c = cut_leaves
