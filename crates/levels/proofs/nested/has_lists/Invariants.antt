use Rattle.std.proofs.Common.{◌≡◌}
use Rattle.levels.proofs.Maxima.{repetition_from}
use Rattle.levels.proofs.nested.has_lists.Given as goal

abbrev pub invariant-loop-part : goal.invariant-loop-part
invariant-loop-part l = record { whole : repetition_from l.nested l.part-index ≡ repetition_from l.nested 0 }
