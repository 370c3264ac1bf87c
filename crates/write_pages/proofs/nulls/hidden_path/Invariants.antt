use Rattle.std.proofs.Common.{◌≡◌, map, take}
use Rattle.levels.specs.Nested.{parts_of}
use Rattle.write_pages.specs.Nulls.{hidden}
use Rattle.write_pages.proofs.nulls.hidden_path.Given as goal

abbrev pub invariant-loop-part : goal.invariant-loop-part
invariant-loop-part l = parts_of l.path.items ≡ map hidden (parts_of (take l.part-index l.nested))
