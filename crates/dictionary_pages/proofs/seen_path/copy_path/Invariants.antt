use Rattle.std.proofs.Common.{◌≡◌, take}
use Rattle.dictionary_pages.proofs.seen_path.copy_path.Given as goal

abbrev pub invariant-loop-part : goal.invariant-loop-part
invariant-loop-part l = l.path.items ≡ take l.part-index l.nested
