use Rattle.std.proofs.Common.{◌≡◌, map, take}
use Rattle.read_state.specs.Initial.{initial}
use Rattle.read_state.specs.Kinds.{kept_box}
use Rattle.read_state.proofs.init.init_nested.Given as goal

abbrev pub invariant-loop-part : goal.invariant-loop-part
invariant-loop-part l = map kept_box l.nested.items ≡ map initial (take l.part-index l.init)
