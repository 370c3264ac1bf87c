use Rattle.std.proofs.Common.{◌≡◌, take}
use Rattle.write_pages.proofs.cut_column.copy_path.Given as goal

abbrev pub invariant-loop-part : goal.invariant-loop-part
invariant-loop-part l = l.path.items ≡ take l.part-index l.nested
